-- In how many moves each process takes part.
use Rattle.std.specs.Prelude.{◌≡◌, ◌<◌, ◌+◌, ℕ, nat_eq, if◌then◌else◌, List, length, count_by, slice_index_or}
use Rattle.promela_run.specs.declared.moves.Move.{Move}
use Rattle.promela_run.specs.declared.moves.Move.TheVariants.{Death, Alone, Pair}
use Rattle.view_waits.specs.Waits.{takes_part}

-- who takes part in a move beside who begins it, or else who begins it
abbrev pub other_taker : Move → ℕ
other_taker (Death q) = q
other_taker (Alone k t) = k.process
other_taker (Pair k j t) = j.process

-- for each of n processes, the number of the moves in which it takes part
abbrev pub AreCounts : ℕ → List ℕ → List Move → Type 0
AreCounts n ns ms = (length ns ≡ n) × ((p : ℕ) → p < n → slice_index_or ns p 0 ≡ count_by (takes_part p) ms)

-- the number of a process is one more, and the others are as they were
abbrev pub OneMore : List ℕ → List ℕ → ℕ → Type 0
OneMore old new p = (q : ℕ) → q < length old → slice_index_or new q 0 ≡ slice_index_or old q 0 + (if nat_eq p q then 1 else 0)
