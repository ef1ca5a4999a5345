-- What the search for a broken condition answers. No clause of a public function cites it.
use Rattle.std.specs.Prelude.{◌≡◌, List, Some}
use Rattle.diagnostics.specs.declared.refusal.Refusal.{Refusal}
use Rattle.promela_model.specs.declared.mark.Mark.{Mark}
use Rattle.check_conditions.specs.First.{IsFirstBroken}
use Rattle.explain_find.specs.declared.find.Broken.{Broken}
use Rattle.explain_find.specs.Marks.{condition_of}

-- the mark is the first one that breaks the condition which the refusal is of
pub record IsBroken (x : Refusal) (ms : List Mark) (b : Broken) : Type 0 where
  pub of : condition_of x ≡ Some b.condition
  pub first : IsFirstBroken b.condition ms b.at
