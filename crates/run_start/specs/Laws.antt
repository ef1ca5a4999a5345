-- What is known of the first state.
use Rattle.profile.specs.declared.TheConstants.{MOST_PROCESSES}
use Rattle.std.specs.Prelude.{◌≡◌, ◌<◌, ◌+◌, ◌++◌, ℕ, List, false, None, length, map, take, replicate, pos, Ok, IfOk}
use Rattle.pml_program.specs.declared.form.Form.{Form}
use Rattle.pml_program.specs.declared.expr.Expr.{Expr}
use Rattle.pml_program.specs.declared.program.Initial.TheVariants.{Zero, Value as Given, Channel as Made}
use Rattle.pml_program.specs.declared.program.Slot.{Slot}
use Rattle.pml_program.specs.declared.program.Fields.{Fields}
use Rattle.pml_program.specs.declared.program.Program.{Program}
use Rattle.promela_process.specs.declared.place.Place.{Place}
use Rattle.promela_process.specs.Store.{number_at, size_at}
use Rattle.promela_run.specs.State.{size, State, begins_at, youngest_cell, read_in, empty_channel, initial_value, variable_begun, first_state}
use Rattle.run_start.specs.Known.{IsPlain, is_of}
use Rattle.run_start.specs.Starting.{starting}

-- A first state of a model: the processes are those that it starts with, as far as 255 go, each before its first statement, and nobody
-- holds exclusive control.
pub record IsFirst (p : Program) (s : State) : Type 0 where
  pub program : s.program ≡ p
  pub stands : s.stands ≡ map (begins_at p) (take MOST_PROCESSES (starting 0 p.proctypes))
  pub holder : s.holder ≡ None

-- the first state of each model is one
abbrev pub AreThoseThatBegin : Type 0
AreThoseThatBegin = (p : Program) → IfOk (first_state p) (IsFirst p)

-- the youngest frame has the variable with this number, with the cells that it is declared with
abbrev pub IsThere : State → ℕ → Slot → Type 0
IsThere b v s = size_at b.frames (length b.stands) v ≡ size s

-- each cell of a variable holds the one value of its initialiser
abbrev pub EachCellHolds : Type 0
EachCellHolds = (ts : List Fields) (s : Slot) (e : Expr) (v c : ℕ) (b : State) → IsThere b v s → c < size s →
    IfOk (variable_begun ts (Given e) s v b) (λ n. initial_value e s.form (read_in b) ≡ Ok (number_at n.frames (youngest_cell b v c)))

-- a variable without an initialiser and without fields changes nothing
abbrev pub NothingBegins : Type 0
NothingBegins = (ts : List Fields) (s : Slot) (v : ℕ) (b : State) → IsPlain s.form → s.initial ≡ Zero → variable_begun ts s.initial s v b ≡ Ok b

-- no other variable changes
abbrev pub OthersHold : Type 0
OthersHold = (ts : List Fields) (s : Slot) (v : ℕ) (b : State) (q : Place) → IsThere b v s → is_of b v q ≡ false →
    IfOk (variable_begun ts s.initial s v b) (λ n. number_at n.frames q ≡ number_at b.frames q)

-- each cell of a channel variable has a channel of its own, in order
abbrev pub ChannelsAreMade : Type 0
ChannelsAreMade = (ts : List Fields) (s : Slot) (v capacity : ℕ) (types : List Form) (b : State) → IsThere b v s → IsPlain s.form
    → s.initial ≡ Made capacity types →
    IfOk (variable_begun ts s.initial s v b)
    (λ n. n.channels ≡ b.channels ++ replicate (size s) (record { frame = length b.stands; channel = empty_channel capacity types }))

-- each cell holds its channel's number: its place among the live ones, from 1
abbrev pub ChannelsAreNumbered : Type 0
ChannelsAreNumbered = (ts : List Fields) (s : Slot) (v c capacity : ℕ) (types : List Form) (b : State) → IsThere b v s → IsPlain s.form
    → s.initial ≡ Made capacity types → c < size s →
    IfOk (variable_begun ts s.initial s v b) (λ n. number_at n.frames (youngest_cell b v c) ≡ pos (length b.channels + c + 1))
