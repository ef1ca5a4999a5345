-- What becomes of the tokens of a text where sizes are numbers.
use Rattle.std.specs.Prelude.{ℕ, Bool, false, not, ◌&&◌, ◌==◌, if◌then◌else◌, List, [], ◌∷◌, Option, Some, None}
use Rattle.pml_token.specs.declared.token.Kind.{Kind}
use Rattle.pml_token.specs.declared.token.Kind.TheVariants as kind
use Rattle.pml_token.specs.Word.{same_kind}
use Rattle.prepare.specs.declared.sizes.DeclarationReading.{DeclarationReading}
use Rattle.prepare.specs.Sizes as sizes
use Rattle.prepare.specs.Written.{Written}
use Rattle.computed_sizes.specs.declared.changes.SizeChange.{SizeChange}
use Rattle.computed_sizes.specs.declared.changes.SizeChange.TheVariants as change
use Rattle.computed_sizes.specs.declared.changes.SizePlace.{SizePlace}
use Rattle.computed_sizes.specs.declared.changes.SizePlace.TheVariants as place
use Rattle.prepare.specs.Changed.{Changed, changed}
use Rattle.computed_sizes.specs.Worths.{worth}

-- whether one token stands before a `]`
abbrev pub is_single : List Written → Bool
is_single (t ∷ u ∷ ts) = same_kind u.kind kind.CloseBracket
is_single _ = false

-- what an expression comes to that stands in brackets, and has more tokens than one
abbrev pub size_ahead : List Written → Option ℕ
size_ahead [] = None
size_ahead (t ∷ ts) = if same_kind t.kind kind.OpenBracket && not (is_single ts) then worth ts else None

abbrev pub ahead : Option ℕ → SizePlace
ahead None = place.Outside
ahead (Some n) = if n == 0 then place.Outside else place.Ahead n

-- behind a name that is declared, and is no parameter of an inline, before its size
abbrev pub behind_other : DeclarationReading → Kind → List Written → SizePlace
behind_other r k ts = if sizes.declares r k && not r.is_header then ahead (size_ahead ts) else place.Outside

abbrev pub behind : SizePlace → DeclarationReading → Kind → List Written → SizePlace
behind place.Outside r k ts = behind_other r k ts
behind (place.Ahead n) r k ts = place.First n
behind (place.First n) r k ts = place.Within
behind place.Within r k ts = if same_kind k kind.CloseBracket then place.Outside else place.Within

-- the number stands for the first token of the expression, and blanks for the others
abbrev pub change_at : SizePlace → Kind → SizeChange
change_at (place.First n) k = change.Number n
change_at place.Within k = if same_kind k kind.CloseBracket then change.Kept else change.Blanked
change_at _ k = change.Kept

-- what becomes of the rest of the stretches
abbrev pub changes_by : SizePlace → DeclarationReading → List Written → List (Changed SizeChange)
changes_by p r [] = []
changes_by p r (t ∷ ts) = changed t (change_at p t.kind) ∷ changes_by (behind p r t.kind ts) (sizes.behind r t.kind t.token) ts

-- what becomes of the tokens of a text
abbrev pub changes : List Written → List (Changed SizeChange)
changes ts = changes_by place.Outside sizes.start ts
