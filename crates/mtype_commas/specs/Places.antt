-- Whether a token stands among the names of an `mtype`.
use Rattle.std.specs.Prelude.{false, if◌then◌else◌}
use Rattle.pml_token.specs.declared.token.Kind.{Kind}
use Rattle.pml_token.specs.declared.token.Kind.TheVariants as kind
use Rattle.pml_token.specs.Word.{same_kind}
use Rattle.mtype_commas.specs.declared.place.MtypePlace.{MtypePlace}
use Rattle.mtype_commas.specs.declared.place.MtypePlace.TheVariants as place

abbrev pub behind_other : Kind → MtypePlace
behind_other k = if same_kind k kind.Mtype then place.Typed else place.Outside

-- behind a token that follows a type
abbrev pub behind_type : Kind → MtypePlace
behind_type kind.Colon = place.Subtyped
behind_type kind.Assign = place.Assigned
behind_type kind.OpenBrace = place.Within false
behind_type k = behind_other k

abbrev pub behind_within : Kind → MtypePlace
behind_within k = if same_kind k kind.CloseBrace then place.Outside else place.Within (same_kind k kind.Name)

-- behind a token
abbrev pub behind : MtypePlace → Kind → MtypePlace
behind place.Outside k = behind_other k
behind place.Typed k = behind_type k
behind place.Subtyped k = if same_kind k kind.Name then place.Typed else behind_other k
behind place.Assigned k = if same_kind k kind.OpenBrace then place.Within false else behind_other k
behind (place.Within is_named) k = behind_within k
