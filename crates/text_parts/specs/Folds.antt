-- The parts of a model that an editor folds, by tokens.
use Rattle.std.specs.Prelude.{ℕ, ◌-◌, Bool, ◌||◌, if◌then◌else◌, List, [], ◌∷◌, ◌++◌, length, take, Option, slice_get}
use Rattle.std.specs.Option.{option_map_or}
use Rattle.pml_token.specs.declared.token.Kind.{Kind}
use Rattle.pml_token.specs.declared.token.Kind.TheVariants as kind
use Rattle.pml_token.specs.Word.{same_kind, Word}
use Rattle.text_parts.specs.declared.folds.Fold.{Fold}

-- a part begins with this
abbrev pub opens : Kind → Bool
opens k = (same_kind k kind.OpenBrace || same_kind k kind.Do) || same_kind k kind.If

-- a part ends with this
abbrev pub closes : Kind → Bool
closes k = (same_kind k kind.CloseBrace || same_kind k kind.Od) || same_kind k kind.Fi

-- where what was opened last stands
abbrev pub last_of : List ℕ → Option ℕ
last_of starts = slice_get starts (length starts - 1)

abbrev pub fold_to : ℕ → ℕ → List Fold
fold_to at from = record { from = from; to = at } ∷ []

-- the part that ends at a place, if one is starts
abbrev pub ended : List ℕ → ℕ → List Fold
ended starts at = option_map_or (fold_to at) (last_of starts) []

-- from each opener to what closes it; what closes without one ends no part
abbrev pub folds : List ℕ → List Word → List Fold
folds starts [] = []
folds starts (w ∷ ws) =
    if opens w.kind then folds (starts ++ w.line ∷ []) ws
    else if closes w.kind then ended starts w.line ++ folds (take (length starts - 1) starts) ws
    else folds starts ws
