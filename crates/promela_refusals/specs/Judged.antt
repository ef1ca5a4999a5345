-- The conditions that refuse a model, each by itself, and the least that applies.
-- Hold it against docs/REFUSALS.md.
use Rattle.std.specs.Prelude.{◌≡◌, ◌⊎◌, ◌<◌, ℕ, List, Option, Some, None, Err, slice_get, IsSomeAnd}
use Rattle.diagnostics.specs.declared.fault.Fault.{Fault}
use Rattle.diagnostics.specs.declared.refusal.Refusal.{Refusal}
use Rattle.diagnostics.specs.declared.refusal.Refusal.TheVariants as r
use Rattle.diagnostics.specs.Numbers.{refusal_number}
use Rattle.pml_tree.specs.declared.tree.Tree.{Tree}
use Rattle.promela_model.specs.declared.mark.Mark.{Mark}
use Rattle.promela_model.specs.Marks.{of_tree}
use Rattle.promela_model.specs.declared.condition.Condition.{Condition}
use Rattle.promela_model.specs.declared.condition.Condition.TheVariants as condition
use Rattle.promela_model.specs.Decided as marks
use Rattle.pml_program.specs.declared.program.Proctype.{Proctype}
use Rattle.pml_program.specs.declared.program.Program.{Program}
use Rattle.pml_program.specs.declared.program.Seq.{Seq}
use Rattle.promela_model.specs.StandsModel.{StandsModel}
use Rattle.promela_run.specs.State.{first_state}
use Rattle.promela_process.specs.Control.{Circle, BadFirstPoint}

-- ---- what is asked of control, of the body of each proctype, and of the first state

-- the body of one of these proctypes is so
abbrev pub SomeBody : (Seq → Type 0) → List Proctype → Type 0
SomeBody P ps = (k : ℕ) × (p : Proctype) × (slice_get ps k ≡ Some p) × P p.body

-- ---- what is decided on the marks of the tree alone

-- the condition on marks that a refusal tells of, if it tells of one
abbrev pub condition_of : Refusal → Option Condition
condition_of r.NameTwice = Some condition.Twice
condition_of r.UnknownName = Some condition.Unknown
condition_of r.WrongKind = Some condition.Wrong
condition_of r.ArgumentCount = Some condition.Arguments
condition_of r.Label = Some condition.Label
condition_of r.BreakOutsideDo = Some condition.Break
condition_of r.DStep = Some condition.Step
condition_of r.NumberOutOfRange = Some condition.Range
condition_of r.TooManyCells = Some condition.Cells
condition_of r.NoProcess = Some condition.NoProcess
condition_of r.TooManyAtStart = Some condition.Start
condition_of _ = None

-- ---- what is asked of the model with its names replaced

-- The model breaks the condition that a refusal tells of: control cannot begin one of the d_steps of a body, settling
-- comes to itself again somewhere in a body, or what a variable of the first state begins with cannot be evaluated.
abbrev pub BreaksModel : Refusal → Program → Type 0
BreaksModel r.DStep p = SomeBody BadFirstPoint p.proctypes
BreaksModel r.CircleOfGotos p = SomeBody Circle p.proctypes
BreaksModel r.Initialiser p = (f : Fault) × (first_state p ≡ Err f)
BreaksModel _ p = ⊥

-- ---- the refusals that apply to a tree

-- a refusal applies to a model, by its marks or by the model itself
unfoldable pub AppliesTo : Refusal → List Mark → Program → Type 0
AppliesTo x ms p = IsSomeAnd (condition_of x) (λ c. marks.AppliesToMarks c ms) ⊎ BreaksModel x p

-- a refusal applies to the tree and to the model that it stands for
pub record Applies (t : Tree) (x : Refusal) : Type 0 where
  pub model : Program
  pub stands : StandsModel t model
  pub applies : AppliesTo x (of_tree t) model

-- no refusal applies to the tree
abbrev pub IsFit : Tree → Type 0
IsFit t = (x : Refusal) → Applies t x → ⊥

-- the refusal applies to the tree, and none with a lesser number does
pub record IsLeast (t : Tree) (x : Refusal) : Type 0 where
  pub applies : Applies t x
  pub none_lesser : (y : Refusal) → refusal_number y < refusal_number x → Applies t y → ⊥
