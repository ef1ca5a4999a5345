-- What becomes of the tokens of a text where lists of initialisers are values or are set: all but those of the lists stay.
use Rattle.std.specs.Prelude.{◌≡◌, ◌<◌, ◌⊎◌, ℕ, ◌+◌, ◌*◌, List, [], ◌∷◌, drop}
use Rattle.prepare.specs.Written.{Written}
use Rattle.listed_values.specs.declared.changes.ValueChange.TheVariants as change
use Rattle.prepare.specs.Changed.{Changed}
use Rattle.listed_values.specs.declared.changes.ValueChange.{ValueChange}
use Rattle.listed_values.specs.Lists.{count_at}

-- a token stays as it is, or behind the step that sets elements
pub record Stays (t : Written) (c : Changed ValueChange) : Type 0 where
  pub gap : c.gap ≡ t.gap
  pub token : c.token ≡ t.token
  pub change : (c.change ≡ change.Kept) ⊎ (c.change ≡ change.Headed)

-- so many tokens has a list of n values behind the name of its array: `[5] = {`, the values with commas between them, and `}`
abbrev pub tokens_of : ℕ → ℕ
tokens_of n = n * 2 + 5

-- A text is tokens that stay, and lists between them.
pub data ListsAlone : List Written → List (Changed ValueChange) → Type 0 where
  nothing : ListsAlone [] []
  token : {t : Written} {c : Changed ValueChange} {ts : List Written} {cs : List (Changed ValueChange)} → Stays t c → ListsAlone ts cs → ListsAlone (t ∷ ts) (c ∷ cs)
  list : {ts : List Written} {cs : List (Changed ValueChange)} → 0 < count_at ts
      → ListsAlone (drop (tokens_of (count_at ts)) ts) (drop (tokens_of (count_at ts)) cs) → ListsAlone ts cs
