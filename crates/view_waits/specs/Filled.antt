-- Bodies in which something can be done wherever something is left.
use Rattle.std.specs.Prelude.{◌≡◌, ◌<◌, ℕ, Bool, true, List, length, [], Option, Some, slice_get, IfSome}
use Rattle.pml_program.specs.declared.program.Seq.{Seq, Seq', Row_of-Stmt, end_of-Stmt, more_of-Stmt}
use Rattle.pml_program.specs.declared.program.Basic.{Basic, Plain, Goto, Break, If', Do', Block, Atomic, DStep, Unless, Row_of-Seq, end_of-Seq, more_of-Seq}
use Rattle.pml_program.specs.declared.program.Program.{Program}
use Rattle.pml_store.specs.Writing.{Contents}
use Rattle.promela_run.specs.declared.live_channel.LiveChannel.{LiveChannel}
use Rattle.run_state.specs.declared.seat.Seat.{Seat}
use Rattle.run_state.specs.Held.{live_of}
use Rattle.run_state.specs.Standing.{control_at}
use Rattle.promela_run.specs.Moves.{moves}
use Rattle.promela_run.specs.State.{Stand, State, body_of}
use Rattle.view_waits.specs.Waits.{is_in, waits}

-- Each `if` and `do` in a statement has an option, and each sequence in it a statement.
abbrev mutual
  pub IsFilled : Basic → Type 0
  IsFilled (Plain x) = Unit {0}
  IsFilled (Goto l) = Unit {0}
  IsFilled Break = Unit {0}
  IsFilled (If' m row) = HasOptions row
  IsFilled (Do' m row) = HasOptions row
  IsFilled (Block s) = HasSteps s
  IsFilled (Atomic s) = HasSteps s
  IsFilled (DStep s) = HasSteps s
  IsFilled (Unless s e) = HasSteps s × HasSteps e

  pub HasSteps : Seq → Type 0
  HasSteps (Seq' m row) = SomeSteps row

  -- one at least, and each filled
  pub SomeSteps : {n : _} → Row_of-Stmt n → Type 0
  SomeSteps end_of-Stmt = ⊥
  SomeSteps (more_of-Stmt ls s ts rest) = IsFilled s × EachStep rest

  pub EachStep : {n : _} → Row_of-Stmt n → Type 0
  EachStep end_of-Stmt = Unit {0}
  EachStep (more_of-Stmt ls s ts rest) = IsFilled s × EachStep rest

  pub HasOptions : {n : _} → Row_of-Seq n → Type 0
  HasOptions end_of-Seq = ⊥
  HasOptions (more_of-Seq s rest) = HasSteps s × EachOption rest

  pub EachOption : {n : _} → Row_of-Seq n → Type 0
  EachOption end_of-Seq = Unit {0}
  EachOption (more_of-Seq s rest) = HasSteps s × EachOption rest

-- a body may have no statement, and those that it has are filled
abbrev pub IsFilledBody : Seq → Type 0
IsFilledBody (Seq' m row) = EachStep row

-- so are all of a model
abbrev pub HasFilledBodies : Program → Type 0
HasFilledBodies pr = (k : ℕ) → IfSome (body_of pr k) IsFilledBody

-- each process stands at a node of its proctype
abbrev pub StandAtNodes : State → Type 0
StandAtNodes s = (p : ℕ) (y : Stand) → slice_get s.stands p ≡ Some y → (n : ℕ) × (y.control ≡ control_at (body_of s.program y.sort) n)

-- so do those of each state that is kept of a run
abbrev pub KeptStatesStandAtNodes : Type 0
KeptStatesStandAtNodes = (pr : Program) (store : Contents) (cs : List LiveChannel) (xs : List Seat) (holder : Option ℕ) (lossy : Bool)
    → StandAtNodes (live_of pr store cs xs holder lossy).state

-- In a model of filled bodies a process waits for nothing exactly where it takes part in a move.
abbrev pub WaitsExactlyWithoutMoves : Type 0
WaitsExactlyWithoutMoves = (s : State) → HasFilledBodies s.program → StandAtNodes s → (p : ℕ) → p < length s.stands
    → (waits s p ≡ [] → is_in p (moves s) ≡ true) × (is_in p (moves s) ≡ true → waits s p ≡ [])
