-- A whole tree stands for its numbered model, and for nothing else.
use Rattle.std.proofs.Common.{◌≡◌, List, [], refl, sym, subst, ◌∙◌, arith}
use Rattle.pml_tree.specs.declared.tree.Unit.{Unit as Part}
use Rattle.pml_tree.specs.declared.tree.Tree.{Tree}
use Rattle.promela_model.specs.Marks.{of_tree}
use Rattle.check_names.specs.Env.{env}
use Rattle.pml_program.specs.declared.program.Program.{Program}
use Rattle.check_resolve.specs.Model.{made, no_program, numbered_model}
use Rattle.meaning_laws.proofs.Words.{nothing_of}
use Rattle.promela_model.specs.StandsModel as stands
use Rattle.promela_model.specs.StandsModel.{StandsModel}
use Rattle.meaning_laws.proofs.Declaring.{Base}
use Rattle.meaning_laws.proofs.Units.{Whole, units-stand, only_units}
use Rattle.meaning_laws.proofs.Marking.{tree-marked}

nothing-yet : (us : List Part) → Base (nothing_of us) 1 []
nothing-yet us = record {
  agrees = record {
    variables = λ n. refl;
    constants = λ n. refl;
    typedefs = λ n. refl;
    fields = λ t is n. cc;
    known = tt;
    inner = tt;
  };
  count = refl;
  held = refl;
  constants = refl;
  bound = λ t is. cc;
  positive = λ t is. cc;
  declared = λ n. refl;
}

pub start-whole : (t : Tree) → Whole t.units (env (of_tree t)) (tree-marked t) (nothing_of t.units) 1 t.units (made no_program [])
start-whole t = record { base = nothing-yet t.units; below = tt; globals = refl; same = refl; reads = λ n. refl }

pub model-stands : (t : Tree) → StandsModel t (numbered_model t)
model-stands t =
    let r = units-stand t.units (env (of_tree t)) (tree-marked t) t.units 1 (nothing_of t.units) (made no_program []) (omega arith) (start-whole t) in
    subst (StandsModel t) (sym r.same) (stands.model r.stand)

only_model : {t : Tree} {p : Program} → StandsModel t p → p ≡ numbered_model t
only_model (stands.model {t} h) = sym (only_units t.units (env (of_tree t)) (tree-marked t) h (made no_program []) (omega arith) (start-whole t))

pub one-model : (t : Tree) (p q : Program) → StandsModel t p → StandsModel t q → p ≡ q
one-model t p q h g = only_model h ∙ sym (only_model g)
