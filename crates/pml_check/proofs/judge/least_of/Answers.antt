use Rattle.std.proofs.Common.{◌∙◌, None, sym, subst}
use Rattle.promela_model.specs.Marks.{of_tree}
use Rattle.check_resolve.specs.Model.{numbered_model}
use Rattle.run_start.specs.Bound.{IsWithin}
use Rattle.pml_check.specs.Fitted.{HasBadStart, HasGoodStart}
use Rattle.pml_check.specs.Decided.{DecidesStart, judged_before_start}
use Rattle.pml_check.proofs.Starting.{first_before, first_start, fits_start, fits_cells}
use Rattle.pml_check.proofs.Subjects.{found_of}
use Rattle.pml_check.proofs.Within.{is_within}
use Rattle.pml_check.proofs.judge.least_of.Goals as goal

pub returns-in-Some : goal.returns-in-Some
returns-in-Some c t is = first_before (of_tree t) (numbered_model t) c.in-Some.refusal (found_of judged_before_start t _ _ c.in-Some.is (c.first_of.ensures t is))

pub has_bad_start-requires : goal.has_bad_start-requires
has_bad_start-requires c =
    let t = c.requires.subject.0 in
    let is = c.requires.subject.1 in
    let fits = found_of judged_before_start t _ None c.in_default.is (c.first_of.ensures t is) in
    record { within = subst IsWithin (sym (c.get.ensures ∙ is.program)) (is_within t (numbered_model t) (fits_cells _ _ fits)) }

pub returns-then-branch : goal.returns-then-branch
returns-then-branch c t is =
    let bad = subst (λ b. DecidesStart b c.get.result.now) c.if-branch.true c.in_ok-has_bad_start.ensures in
    first_start (of_tree t) (numbered_model t) (found_of judged_before_start t _ None c.in_default.is (c.first_of.ensures t is)) (subst HasBadStart (c.get.ensures ∙ is.program) bad)

pub returns : goal.returns
returns c t is =
    let good = subst (λ b. DecidesStart b c.get.result.now) c.if-branch.false c.in_ok-has_bad_start.ensures in
    fits_start (of_tree t) (numbered_model t) (found_of judged_before_start t _ None c.in_default.is (c.first_of.ensures t is)) (subst HasGoodStart (c.get.ensures ∙ is.program) good)
