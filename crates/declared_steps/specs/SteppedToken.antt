-- A token with what becomes of it, as contracts see it: without where its bytes lie in memory.
use Rattle.std.specs.Prelude.{ℕ, List}
use Rattle.declared_steps.specs.declared.changes.StepChange.{StepChange}

pub record SteppedToken : Type 0 where
  -- the blanks and comments before it
  pub gap : List ℕ
  pub token : List ℕ
  pub change : StepChange
  -- the name that was declared last before it, and its type
  pub name : List ℕ
  pub word : List ℕ
