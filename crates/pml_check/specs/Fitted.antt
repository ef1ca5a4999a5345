-- What a tree fits where a refusal does not apply to it, each refusal by itself.
use Rattle.std.specs.Prelude.{◌≡◌, ℕ, List, Some, Ok, Err, slice_get, IfSome}
use Rattle.diagnostics.specs.declared.fault.Fault.{Fault}
use Rattle.diagnostics.specs.declared.refusal.Refusal.{Refusal}
use Rattle.diagnostics.specs.declared.refusal.Refusal.TheVariants as r
use Rattle.pml_tree.specs.declared.tree.Tree.{Tree}
use Rattle.promela_model.specs.declared.mark.Mark.{Mark}
use Rattle.promela_model.specs.Marks.{of_tree}
use Rattle.promela_model.specs.StandsModel.{StandsModel}
use Rattle.pml_program.specs.declared.program.Proctype.{Proctype}
use Rattle.pml_program.specs.declared.program.Program.{Program}
use Rattle.pml_program.specs.declared.program.Seq.{Seq}
use Rattle.promela_run.specs.State.{State, first_state}
use Rattle.promela_process.specs.Control.{SettlesEverywhere, FirstPointsFit}
use Rattle.promela_refusals.specs.Judged.{condition_of}
use Rattle.check_conditions.specs.Fitted.{FitsMarks}

-- the body of each of these proctypes is so
abbrev pub EachBody : (Seq → Type 0) → List Proctype → Type 0
EachBody P ps = (k : ℕ) (p : Proctype) → slice_get ps k ≡ Some p → P p.body

-- what a variable of the first state begins with cannot be evaluated
abbrev pub HasBadStart : Program → Type 0
HasBadStart p = (f : Fault) × (first_state p ≡ Err f)

-- the initialisers have no fault
abbrev pub HasGoodStart : Program → Type 0
HasGoodStart p = (s : State) × (first_state p ≡ Ok s)

-- the model keeps what a refusal tells of: the first point of each d_step fits, settling ends at each place, the initialisers have no fault
abbrev pub KeepsModel : Refusal → Program → Type 0
KeepsModel r.DStep p = EachBody FirstPointsFit p.proctypes
KeepsModel r.CircleOfGotos p = EachBody SettlesEverywhere p.proctypes
KeepsModel r.Initialiser p = HasGoodStart p
KeepsModel _ p = Unit {0}

-- the model has nothing that this refusal tells of
unfoldable pub FitsTo : Refusal → List Mark → Program → Type 0
FitsTo x ms p = IfSome (condition_of x) (λ c. FitsMarks c ms) × KeepsModel x p

-- the tree and the model that it stands for fit what the refusal asks
pub record Fits (t : Tree) (x : Refusal) : Type 0 where
  pub model : Program
  pub stands : StandsModel t model
  pub fits : FitsTo x (of_tree t) model
