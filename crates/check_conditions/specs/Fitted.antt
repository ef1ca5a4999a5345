-- What the marks of a model fit where a condition does not refuse it.
use Rattle.std.specs.Prelude.{◌≡◌, ℕ, ◌≤◌, Bool, false, List, take, slice_get, Some}
use Rattle.profile.specs.declared.TheConstants.{MOST_CHANNELS, MOST_PROCESSES}
use Rattle.promela_model.specs.declared.mark.Mark.{Mark}
use Rattle.promela_model.specs.declared.condition.Condition.{Condition}
use Rattle.promela_model.specs.declared.condition.Condition.TheVariants as condition
use Rattle.promela_model.specs.Decided.{Somewhere, round, loose, starts_processes, broken, crosses_step, processes, first_channels}

-- no mark is so, by the marks before it
abbrev pub Nowhere : (List Mark → Mark → Bool) → List Mark → Type 0
Nowhere p ms = (k : ℕ) (m : Mark) → slice_get ms k ≡ Some m → p (take k ms) m ≡ false

-- a condition does not refuse the model with these marks
abbrev pub FitsMarks : Condition → List Mark → Type 0
FitsMarks condition.Break ms = Nowhere (λ before m. loose (round before) m.what) ms
FitsMarks condition.Step ms = Nowhere (crosses_step ms) ms
FitsMarks condition.NoProcess ms = Somewhere (λ before m. starts_processes m.what) ms
FitsMarks condition.Start ms = (processes ms ≤ MOST_PROCESSES) × (first_channels ms ≤ MOST_CHANNELS)
FitsMarks r ms = Nowhere (broken r ms) ms
