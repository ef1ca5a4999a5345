-- Words for laws over the definitions.
use Rattle.std.specs.Prelude.{Bool, false, ◌&&◌, ◌||◌, List, [], ◌∷◌}
use Rattle.pml_token.specs.declared.token.Kind.TheVariants as kind
use Rattle.pml_token.specs.Word.{same_kind}
use Rattle.prepare.specs.Written.{Written}

-- whether `{` stands directly behind `=` somewhere, where `is_assigned` says whether a `=` stands before
abbrev pub has_list_from : Bool → List Written → Bool
has_list_from is_assigned [] = false
has_list_from is_assigned (t ∷ ts) = (is_assigned && same_kind t.kind kind.OpenBrace) || has_list_from (same_kind t.kind kind.Assign) ts

abbrev pub has_list : List Written → Bool
has_list ts = has_list_from false ts
