-- In which unit a place stands, by the tokens before it.
use Rattle.std.specs.Prelude.{ℕ, ◌+◌, ◌-◌, nat_eq, nat_lt, Bool, false, ◌||◌, ◌&&◌, if◌then◌else◌, List, [], ◌∷◌, Option, Some, None}
use Rattle.pml_token.specs.declared.token.Kind.{Kind}
use Rattle.pml_token.specs.declared.token.Kind.TheVariants as kind
use Rattle.pml_token.specs.Word.{same_kind, Word}
use Rattle.offered_names.specs.declared.standing.PlaceStanding.{PlaceStanding}

-- a unit with names of its own begins with this word
abbrev pub begins_unit : Kind → Bool
begins_unit k = ((same_kind k kind.Proctype || same_kind k kind.Init) || same_kind k kind.Inline) || same_kind k kind.Typedef

abbrev pub standing_in : Option ℕ → Bool → ℕ → PlaceStanding
standing_in h b n = record { head = h; is_inline = b; depth = n }

-- the start of a text is in no unit
abbrev pub nowhere : PlaceStanding
nowhere = standing_in None false 0

-- behind one more token: the word of a unit leads into it, and the brace that closes its body out of it
abbrev pub passed : PlaceStanding → Word → PlaceStanding
passed s w =
    if same_kind w.kind kind.OpenBrace then standing_in s.head s.is_inline (s.depth + 1)
    else if same_kind w.kind kind.CloseBrace then standing_in (if nat_lt 1 s.depth then s.head else None) s.is_inline (s.depth - 1)
    else if nat_eq s.depth 0 && begins_unit w.kind then standing_in (Some w.line) (same_kind w.kind kind.Inline) s.depth
    else s

abbrev pub stands : PlaceStanding → List Word → PlaceStanding
stands s [] = s
stands s (w ∷ ws) = stands (passed s w) ws
