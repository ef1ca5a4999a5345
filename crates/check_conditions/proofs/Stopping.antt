-- What is found at one mark, and where a loop over marks stops.
use Rattle.std.proofs.Common.{◌≡◌, ℕ, ◌<◌, true, false, List, take, get_or, length, Some, refl, ap, sym, subst, ◌∙◌}
use Rattle.std.specs.Prelude.{slice_get, ◌≢◌}
use Rattle.std.proofs.lemmas.Option.{slice_get_read}
use Rattle.promela_model.specs.declared.mark.Mark.{Mark}
use Rattle.promela_model.specs.declared.mark.What.{What}
use Rattle.promela_model.specs.declared.condition.Condition.{Condition}
use Rattle.promela_model.specs.declared.condition.Condition.TheVariants as condition
use Rattle.check_conditions.specs.declared.find.Found.{Found}
use Rattle.promela_model.specs.Conditions.{Around, judged}
use Rattle.promela_model.specs.Decided.{broken}
use Rattle.check_conditions.specs.Labels.{around}
use Rattle.check_conditions.specs.First.{broken_at, found_of, IsFirstBroken}

-- what was found at a mark
pub record AreJudged (f : Found) (a : Around) (o : ℕ) (w : What) : Type 0 where
  pub twice : f.twice ≡ judged condition.Twice a o w
  pub unknown : f.unknown ≡ judged condition.Unknown a o w
  pub wrong : f.wrong ≡ judged condition.Wrong a o w
  pub arguments : f.arguments ≡ judged condition.Arguments a o w
  pub label : f.label ≡ judged condition.Label a o w
  pub range : f.range ≡ judged condition.Range a o w
  pub cells : f.cells ≡ judged condition.Cells a o w

-- of each condition that is asked there
pub found_is : (r : Condition) (f : Found) (ms first : List Mark) (m : Mark) → r ≢ condition.Break → r ≢ condition.Step → AreJudged f (around ms first) m.owner m.what → found_of r f ≡ broken_at r ms first m
unfolding judged
found_is condition.Twice f ms first m b s h = h.twice
found_is condition.Unknown f ms first m b s h = h.unknown
found_is condition.Wrong f ms first m b s h = h.wrong
found_is condition.Arguments f ms first m b s h = h.arguments
found_is condition.Label f ms first m b s h = h.label
found_is condition.Break f ms first m b s h = absurd (b refl)
found_is condition.Step f ms first m b s h = absurd (s refl)
found_is condition.Range f ms first m b s h = h.range
found_is condition.Cells f ms first m b s h = h.cells
found_is condition.NoProcess f ms first m b s h = refl
found_is condition.Start f ms first m b s h = refl

pub first_here : (r : Condition) (ms : List Mark) (i : ℕ) (m : Mark) → i < length ms → m ≡ get_or ms i m → broken_at r ms (take i ms) m ≡ true
    → ((j : ℕ) (x : Mark) → j < i → slice_get ms j ≡ Some x → broken_at r ms (take j ms) x ≡ false) → IsFirstBroken r ms i
first_here r ms i m h e b none = record { mark = m; stands = slice_get_read ms (length ms) i m refl h e; breaks = b; first = none }
