-- Coloured parts as numbers (LSP 3.17, semantic tokens), and places of these numbers.
use Rattle.std.specs.Prelude.{ℕ, ◌-◌, ◌≤◌, List, [], ◌∷◌, ◌++◌, length, take, drop}
use Rattle.text_parts.specs.declared.places.ColumnUnit as counting
use Rattle.text_parts.specs.declared.places.EditorPlace.{EditorPlace}
use Rattle.text_parts.specs.Columns.{units}
use Rattle.text_parts.specs.declared.parts.Coloured.{Coloured}
use Rattle.text_parts.specs.Going.{start, gone, moved}

-- the bytes from one place to another
abbrev pub between : List ℕ → ℕ → ℕ → List ℕ
between text from to = take (to - from) (drop from text)

-- how far a part lies behind a place, its width, what it is, and nothing more
abbrev pub five : counting.ColumnUnit → List ℕ → ℕ → Coloured → List ℕ
five u text behind part =
    (gone u start (between text behind part.at)).line ∷ (gone u start (between text behind part.at)).column
    ∷ units u (take part.length (drop part.at text)) ∷ part.sort ∷ 0 ∷ []

-- parts, each behind the one before
abbrev pub coded : counting.ColumnUnit → List ℕ → ℕ → List Coloured → List ℕ
coded u text behind [] = []
coded u text behind (m ∷ ms) = five u text behind m ++ coded u text m.at ms

-- the places that numbers lead to, from one on
abbrev pub decoded : EditorPlace → List ℕ → List EditorPlace
decoded p (l ∷ c ∷ w ∷ s ∷ m ∷ ns) = moved p l c ∷ decoded (moved p l c) ns
decoded p ns = []

-- the place of a part
abbrev pub place_of : counting.ColumnUnit → List ℕ → Coloured → EditorPlace
place_of u text part = gone u start (take part.at text)

-- each part lies in the text, and not before the one before
abbrev pub Rises : List ℕ → ℕ → List Coloured → Type 0
Rises text behind [] = Unit {0}
Rises text behind (m ∷ ms) = (behind ≤ m.at) × ((m.at ≤ length text) × Rises text m.at ms)
