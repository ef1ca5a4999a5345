-- What is said of the moves of every state.
use Rattle.std.specs.Prelude.{◌≡◌, ℕ, ◌+◌, true, List, [], ◌∷◌, length, Some}
use Rattle.promela_run.specs.declared.moves.Move.{Move}
use Rattle.promela_run.specs.declared.moves.Move.TheVariants.{Death, Alone, Pair}
use Rattle.promela_run.specs.State.{State}
use Rattle.promela_run.specs.Moves.{is_some, moves, moves_held}

-- so it is with each of these moves
abbrev pub Each : (Move → Type 0) → List Move → Type 0
Each P [] = Unit {0}
Each P (m ∷ ms) = P m × Each P ms

-- a death is that of the youngest process
abbrev pub IsOfTheYoungest : State → Move → Type 0
IsOfTheYoungest s (Death p) = p + 1 ≡ length s.stands
IsOfTheYoungest s (Alone k t) = Unit {0}
IsOfTheYoungest s (Pair k j t) = Unit {0}

abbrev pub TheYoungestDiesFirst : Type 0
TheYoungestDiesFirst = (s : State) → Each (IsOfTheYoungest s) (moves s)

-- the process that takes a move, the sender of a pair
abbrev pub taker : Move → ℕ
taker (Death p) = p
taker (Alone k t) = k.process
taker (Pair k j t) = k.process

-- a process that has exclusive control takes each step while it can go on
abbrev pub TheHolderGoesOn : Type 0
TheHolderGoesOn = (s : State) (p : ℕ) → s.holder ≡ Some p → is_some (moves_held s (Some p)) ≡ true → Each (λ m. taker m ≡ p) (moves s)
