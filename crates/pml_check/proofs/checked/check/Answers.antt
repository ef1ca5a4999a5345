use Rattle.std.proofs.Common.{◌∙◌, Some, None, sym, ap, subst}
use Rattle.pml_program.specs.declared.program.Program.{Program}
use Rattle.promela_model.specs.Marks.{of_tree}
use Rattle.check_resolve.specs.Model.{numbered_model}
use Rattle.pml_flow.specs.Graph.{AreGraphs}
use Rattle.run_start.specs.Bound.{IsWithin}
use Rattle.pml_check.specs.Fitted.{EachBody, HasGoodStart}
use Rattle.promela_process.specs.Control.{SettlesEverywhere}
use Rattle.pml_check.specs.Decided.{all_judged}
use Rattle.pml_check.proofs.Least.{fit_by, first_is_least}
use Rattle.pml_check.proofs.Standing.{stands_by}
use Rattle.pml_check.proofs.Starting.{fit_start}
use Rattle.pml_check.proofs.Within.{fit_within}
use Rattle.pml_check.proofs.Subjects.{found_of, settles_of}
use Rattle.pml_check.proofs.checked.check.Goals as goal

pub returns-in-Some-clause-refused : goal.returns-in-Some-clause-refused
returns-in-Some-clause-refused c = first_is_least c.args.tree c.in-Some.refusal (found_of all_judged c.args.tree c.in_ok-refusal.field-0 (Some c.in-Some.refusal) c.in-Some.is (c.in_ok-refusal.ensures c.args.tree c.in_ok-subject.ensures))

pub invariant_of-result : goal.invariant_of-result
invariant_of-result c = record {
  tree = c.args.tree;
  fits = fit_by c.args.tree
      (found_of all_judged c.args.tree c.in_ok-refusal.field-0 None c.in_default.is (c.in_ok-refusal.ensures c.args.tree c.in_ok-subject.ensures));
  stands = stands_by c.args.tree _ c.in_ok-subject.ensures.program;
  within = subst IsWithin (sym c.in_ok-subject.ensures.program)
      (fit_within c.args.tree (found_of all_judged c.args.tree c.in_ok-refusal.field-0 None c.in_default.is (c.in_ok-refusal.ensures c.args.tree c.in_ok-subject.ensures)));
  start = subst HasGoodStart (sym c.in_ok-subject.ensures.program)
      (fit_start (of_tree c.args.tree) (numbered_model c.args.tree) (found_of all_judged c.args.tree c.in_ok-refusal.field-0 None c.in_default.is (c.in_ok-refusal.ensures c.args.tree c.in_ok-subject.ensures)));
  graphs = subst (λ ps. AreGraphs ps c.in_ok-graphs.graphs.items) (c.as_slice.ensures ∙ ap (λ (p : Program). p.proctypes) c.get.ensures) c.in_ok-graphs.ensures;
}

pub returns-clause-fits : goal.returns-clause-fits
returns-clause-fits c = fit_by c.args.tree
    (found_of all_judged c.args.tree c.in_ok-refusal.field-0 None c.in_default.is (c.in_ok-refusal.ensures c.args.tree c.in_ok-subject.ensures))

pub returns-clause-model : goal.returns-clause-model
returns-clause-model c = stands_by c.args.tree _ c.in_ok-subject.ensures.program

pub all_graphs-requires-clause-settle : goal.all_graphs-requires-clause-settle
all_graphs-requires-clause-settle c =
    let t = c.args.tree in
    let e = c.as_slice.ensures ∙ ap (λ (p : Program). p.proctypes) (c.get.ensures ∙ c.in_ok-subject.ensures.program) in
    subst (EachBody SettlesEverywhere) (sym e)
    (settles_of (of_tree t) (numbered_model t) (found_of all_judged t c.in_ok-refusal.field-0 None c.in_default.is (c.in_ok-refusal.ensures c.args.tree c.in_ok-subject.ensures)))
