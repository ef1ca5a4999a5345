-- Texts of offers that are kept.
use Rattle.std.specs.Prelude.{◌≡◌, ℕ, List, Some, IfSome, slice_get}
use Rattle.pml_program.specs.declared.program.Program.{Program}
use Rattle.promela_run.specs.declared.moves.Pick.{Pick}
use Rattle.promela_run.specs.State.{State}
use Rattle.promela_run.specs.World.{pick_text}
use Rattle.run_state.specs.declared.seat.Seat.{Seat}
use Rattle.run_state.specs.Standing.{stand_of}
use Rattle.run_texts.specs.declared.kept.KeptText.{KeptText}

-- in each state of the model in which its process stands there, the offer that the pick names has this text
abbrev pub IsTextThere : Program → Seat → Pick → List ℕ → Type 0
IsTextThere p x k text = (s : State) → s.program ≡ p → slice_get s.stands k.process ≡ Some (stand_of p x) → text ≡ pick_text s k

-- each text that is kept is that of its offer
abbrev pub AreTexts : Program → List KeptText → Type 0
AreTexts p kept = (n : ℕ) → IfSome (slice_get kept n) (λ t. IsTextThere p t.seat t.pick t.text.items)
