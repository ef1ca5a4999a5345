-- What a model prints along a path, and how the path ends: what can be held against another simulator.
use Rattle.std.specs.Prelude.{ℕ, List, [], ◌∷◌, ◌++◌, ◌-◌, Option, Some, None, Bool, false, if◌then◌else◌, Result, Ok, Err}
use Prim.Native.Nat.{zero, suc}
use Rattle.std.specs.List.{slice_get}
use Rattle.diagnostics.specs.declared.fault.Fault.{Fault}
use Rattle.promela_machine.specs.Machine.{Rules, Outcome, Goes, Faults}
use Rattle.pml_program.specs.declared.program.Program.{Program}
use Rattle.promela_run.specs.State.{State, first_state}
use Rattle.promela_run.specs.World.{first, rules}

-- how a path ends: with no move left, where the processes may or may not end; by a fault; or with moves left
pub data Ending : Type 0 where
  Valid : Ending
  Invalid : Ending
  Fails : Fault → Ending
  GoesOn : Ending

-- what is printed along a path, and how the path ends
pub record Printed : Type 0 where
  pub text : List ℕ
  pub ending : Ending

module _ {S M : Type 0} (rules : Rules S M) where
  -- the move that is taken: the only one, or that which the next number picks
  abbrev pub taken : List M → List ℕ → Option M
  taken (m ∷ []) numbers = Some m
  taken ms (n ∷ numbers) = slice_get ms (n - 1)
  taken ms [] = None

  -- the numbers behind it
  abbrev pub left : List M → List ℕ → List ℕ
  left (m ∷ n ∷ ms) (k ∷ numbers) = numbers
  left ms numbers = numbers

  -- a path that ends in a state with these moves
  abbrev pub ended : S → List M → Printed
  ended s [] = record { text = []; ending = if rules.is_valid s then Valid else Invalid }
  ended s ms = record { text = []; ending = GoesOn }

  -- what a step prints comes before what is printed from where it leads
  abbrev pub after : (S → Printed) → Outcome S → Printed
  after more (Goes s text) = record { text = text ++ (more s).text; ending = (more s).ending }
  after more (Faults why) = record { text = []; ending = Fails why }

  -- the path goes on by a move, or ends
  abbrev pub by_move : (S → Printed) → S → List M → Option M → Printed
  by_move more s ms (Some m) = after more (rules.step s m)
  by_move more s ms None = ended s ms

  -- the path of so many steps from a state, with a number for each state with several moves
  unfoldable pub printed_from : ℕ → List ℕ → S → Printed
  printed_from zero numbers s = ended s (rules.moves s)
  printed_from (suc steps) numbers s =
      let ms = rules.moves s in by_move (printed_from steps (left ms numbers)) s ms (taken ms numbers)

-- that of a model from its first state
abbrev pub printed_behind : ℕ → List ℕ → Result State Fault → Option Printed
printed_behind steps numbers (Ok s) = Some (printed_from rules steps numbers (first s false))
printed_behind steps numbers (Err f) = None

-- what a model prints in so many steps, with no message lost
abbrev pub printed : Program → ℕ → List ℕ → Option Printed
printed p steps numbers = printed_behind steps numbers (first_state p)
