-- One statement inside a d_step.
use Rattle.std.specs.Prelude.{◌≡◌, ℕ, Bool, if◌then◌else◌, List, ◌++◌, Option, Some, None, Result, Ok, Err, slice_get}
use Rattle.std.specs.Option.{option_copied}
use Rattle.diagnostics.specs.declared.fault.Fault.{Fault}
use Rattle.diagnostics.specs.declared.fault.Fault.TheVariants.{DStepBlocks}
use Rattle.diagnostics.specs.declared.stop.Stop.{Stop}
use Rattle.diagnostics.specs.declared.stop.Stop.TheVariants as stop
use Rattle.pml_program.specs.declared.program.Seq.{Seq}
use Rattle.promela_process.specs.Control.{Control}
use Rattle.promela_process.specs.Offers.{Offer}
use Rattle.pml_flow.specs.Points.{point_at}
use Rattle.promela_process.specs.Expressions.{◌>>=◌}
use Rattle.promela_run.specs.State.{State, reads, levels}
use Rattle.promela_run.specs.Moves.{choices}
use Rattle.run_search.specs.Viewed.{first}
use Rattle.run_step.specs.declared.within.Choice.{Choice}
use Rattle.run_step.specs.declared.within.Inner.{Inner}
use Rattle.run_step.specs.declared.within.Inner.TheVariants.{Left, At}
use Rattle.promela_run.specs.Steps.{Done, body_by, effect}

-- what is chosen, the place behind it known by its node
abbrev pub Chooses : Seq → Option Offer → Option Choice → Type 0
Chooses b None None = Unit {0}
Chooses b (Some o) (Some k) = (option_copied k.basic ≡ o.basic) × (point_at b k.next ≡ o.next) × (k.stays ≡ o.stays)
Chooses b None (Some k) = ⊥
Chooses b (Some o) None = ⊥

-- the first that can be taken at a point of a body
abbrev pub choice_at : State → ℕ → Bool → Seq → Control → Option Offer
choice_at s p t b c = first (choices s.lossy s.channels (reads s p t) (levels b c))

-- it is chosen at a node of the body in which a process stands
abbrev pub ChoosesAt : State → ℕ → Bool → ℕ → Option Choice → Type 0
ChoosesAt s p t n result = (b : Seq) → body_by s (slice_get s.stands p) ≡ Some b → Chooses b (choice_at s p t b (point_at b n)) result

-- What one statement does, and what is to do then inside the d_step; none where control has left.
pub record Advance : Type 0 where
  pub done : Done
  pub next : Option Control

abbrev pub then_at : Offer → Done → Result Advance Fault
then_at o d = Ok (record { done = d; next = if o.stays then Some o.next else None })

abbrev pub advanced_by : State → ℕ → Bool → Option Offer → Result Advance Fault
advanced_by s p t None = Err DStepBlocks
advanced_by s p t (Some o) = effect s p t o.basic >>= then_at o

-- the first choice of a point is taken
abbrev pub advanced : State → ℕ → Bool → Seq → Control → Result Advance Fault
advanced s p t b c = advanced_by s p t (choice_at s p t b c)

-- it is done, what it prints is appended, and this is where control is; or its fault is answered, or memory is refused
abbrev pub Advances : Seq → Result Advance Fault → Result Inner Stop → State → List ℕ → List ℕ → Type 0
Advances b (Ok x) (Ok Left) new before after = (new ≡ x.done.state) × (after ≡ before ++ x.done.printed) × (x.next ≡ None)
Advances b (Ok x) (Ok (At n)) new before after = (new ≡ x.done.state) × (after ≡ before ++ x.done.printed) × (x.next ≡ Some (point_at b n))
Advances b (Ok x) (Err stop.Memory) new before after = Unit {0}
Advances b (Ok x) (Err (stop.Fault f)) new before after = ⊥
Advances b (Err f) (Err (stop.Fault g)) new before after = g ≡ f
Advances b (Err f) (Err stop.Memory) new before after = Unit {0}
Advances b (Err f) (Ok i) new before after = ⊥

-- so it does at a node of the body in which a process stands
abbrev pub AdvancesAt : State → ℕ → Bool → ℕ → Result Inner Stop → State → List ℕ → List ℕ → Type 0
AdvancesAt s p t n result new before after = (b : Seq) → body_by s (slice_get s.stands p) ≡ Some b →
    Advances b (advanced s p t b (point_at b n)) result new before after
