-- A machine as a session sees it: its moves, what they lead to, and the texts.
-- Hold it against chapter 7 of the book: states, and what leads from one to another.
use Rattle.std.specs.Prelude.{ℕ, List, Bool, Option}
use Rattle.diagnostics.specs.declared.fault.Fault.{Fault}
use Rattle.diagnostics.specs.declared.stop.Stop.{Stop}

-- a step leads to a state and prints bytes, or it is a fault
pub data Outcome (S : Type 0) : Type 0 where
  Goes : S → List ℕ → Outcome S
  Faults : Fault → Outcome S

-- a move that was not taken to its end, and why
pub record Stopped (M : Type 0) : Type 0 where
  pub move : M
  pub why : Stop

-- What a machine with these states and moves does.
pub record Rules (S M : Type 0) : Type 0 where
  -- what can be done, in the order in which it is listed
  pub moves : S → List M
  -- what a move leads to
  pub step : S → M → Outcome S
  -- where a state has stopped: nothing is done from it on
  pub stopped : S → Option (Stopped M)
  -- the text of a move
  pub text : S → M → List ℕ
  -- the number of its process and its line, of a move of two processes those of the sender
  pub origin : S → M → ℕ × ℕ
  -- the value lines of the step that led here: of globals, of locals
  pub values : S → Bool → Bool → List ℕ
  -- a state without a move is a valid end
  pub is_valid : S → Bool
  -- the lines of an invalid end
  pub stuck : S → List ℕ
