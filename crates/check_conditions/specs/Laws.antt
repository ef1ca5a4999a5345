-- What holds of the definitions alone.
use Rattle.std.specs.Prelude.{◌≡◌, ◌≢◌, ℕ, ◌<◌, true, List, take, slice_get, Some}
use Rattle.pml_token.specs.Word.{Word}
use Rattle.promela_model.specs.Marks.{mark}
use Rattle.promela_model.specs.declared.mark.What.TheVariants as what
use Rattle.promela_model.specs.declared.mark.Mark.{Mark}
use Rattle.promela_model.specs.declared.condition.Condition.{Condition}
use Rattle.promela_model.specs.declared.condition.Condition.TheVariants as condition
use Rattle.promela_model.specs.Decided.{round, AppliesToMarks, crosses_step}
use Rattle.check_conditions.specs.Fitted.{FitsMarks}

-- no condition both applies and fits
abbrev pub Exclude : Type 0
Exclude = (r : Condition) (ms : List Mark) → AppliesToMarks r ms → FitsMarks r ms → ⊥

-- the label at j is the first of its name among o's
pub record IsFirstLabel (ms : List Mark) (o j : ℕ) (l : Word) : Type 0 where
  pub stands : slice_get ms j ≡ Some (mark o (what.Label l))
  pub first : (i : ℕ) (n : Word) → i < j → slice_get ms i ≡ Some (mark o (what.Label n)) → n.text ≢ l.text

-- a goto refuses the model where not the same d_step is the innermost round it and round the first label of its name
abbrev pub GotoCrosses : Type 0
GotoCrosses =
    (ms : List Mark) (o k j : ℕ) (g l : Word) → slice_get ms k ≡ Some (mark o (what.Goto g)) → IsFirstLabel ms o j l
    → g.text ≡ l.text → (round (take k ms)).step ≢ (round (take j ms)).step → AppliesToMarks condition.Step ms

-- and no other goto does
abbrev pub CrossingGoto : Type 0
CrossingGoto =
    (ms : List Mark) (o k : ℕ) (g : Word) → crosses_step ms (take k ms) (mark o (what.Goto g)) ≡ true
    → (j : ℕ) × (l : Word) × IsFirstLabel ms o j l × (l.text ≡ g.text) × ((round (take k ms)).step ≢ (round (take j ms)).step)
