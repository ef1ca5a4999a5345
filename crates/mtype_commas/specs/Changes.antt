-- What becomes of the tokens of a text where the names of an `mtype` have one comma between them.
use Rattle.std.specs.Prelude.{Bool, false, ◌&&◌, ◌||◌, if◌then◌else◌, List, [], ◌∷◌}
use Rattle.pml_token.specs.declared.token.Kind.{Kind}
use Rattle.pml_token.specs.declared.token.Kind.TheVariants as kind
use Rattle.pml_token.specs.Word.{same_kind}
use Rattle.prepare.specs.Changed.{Changed, changed}
use Rattle.prepare.specs.Written.{Written}
use Rattle.mtype_commas.specs.declared.place.MtypePlace.{MtypePlace}
use Rattle.mtype_commas.specs.declared.place.MtypePlace.TheVariants as place
use Rattle.mtype_commas.specs.declared.changes.CommaChange.{CommaChange}
use Rattle.mtype_commas.specs.declared.changes.CommaChange.TheVariants as change
use Rattle.mtype_commas.specs.Places.{behind}

-- whether the names end here, or another comma stands here
abbrev pub is_spare : List Written → Bool
is_spare [] = false
is_spare (t ∷ ts) = same_kind t.kind kind.CloseBrace || same_kind t.kind kind.Comma

-- among names a comma is spare before `}` and before another one, and a name directly behind a name wants one
abbrev pub change_within : Bool → Kind → List Written → CommaChange
change_within is_named k ts =
    if same_kind k kind.Comma && is_spare ts then change.Blanked
    else (if same_kind k kind.Name && is_named then change.Parted else change.Kept)

abbrev pub change_at : MtypePlace → Kind → List Written → CommaChange
change_at (place.Within is_named) k ts = change_within is_named k ts
change_at _ k ts = change.Kept

-- what becomes of the rest of the stretches
abbrev pub changes_by : MtypePlace → List Written → List (Changed CommaChange)
changes_by p [] = []
changes_by p (t ∷ ts) = changed t (change_at p t.kind ts) ∷ changes_by (behind p t.kind) ts

-- what becomes of the tokens of a text
abbrev pub changes : List Written → List (Changed CommaChange)
changes ts = changes_by place.Outside ts
