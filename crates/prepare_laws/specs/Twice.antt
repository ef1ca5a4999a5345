-- What is written between tokens, by their kinds and the ends of lines alone.
use Rattle.std.specs.Prelude.{◌≡◌, Bool, false, if◌then◌else◌, List, [], ◌∷◌, ◌++◌}
use Rattle.std.specs.List.{list_any, flat_map}
use Rattle.pml_token.specs.declared.token.Kind.{Kind}
use Rattle.pml_token.specs.declared.token.Kind.TheVariants as kind
use Rattle.prepare.specs.declared.roles.TokenRole.{TokenRole}
use Rattle.prepare.specs.declared.context.Code.{Code}
use Rattle.prepare.specs.declared.context.Supply.{Supply}
use Rattle.prepare.specs.declared.context.Supply.TheVariants as as_supply
use Rattle.prepare.specs.Roles.{role}
use Rattle.prepare.specs.Contexts.{supply, code_behind, start}
use Rattle.prepare.specs.Written.{Written}
use Rattle.prepare.specs.Stretches.{ends_line}
use Rattle.prepare.specs.Blocks.{is_blanked}

-- a token, by its kind, and whether a line ends before it
pub record Piece : Type 0 where
  pub kind : Kind
  pub is_over : Bool

-- what a token of this kind is to the end of a line
abbrev pub role_of : Kind → TokenRole
role_of k = role k []

-- `;` or `skip`, before which no line ends
abbrev pub inserted : Supply → List Piece
inserted as_supply.Nothing = []
inserted as_supply.Separator = record { kind = kind.Semicolon; is_over = false } ∷ []
inserted as_supply.Skip = record { kind = kind.Skip; is_over = false } ∷ []

-- tokens with what is written between them, from a place on
abbrev pub separated_from : Code → List Piece → List Piece
separated_from c [] = []
separated_from c (t ∷ ts) = inserted (supply c t.is_over (role_of t.kind)) ++ t ∷ separated_from (code_behind c (role_of t.kind)) ts

-- tokens with what is written between them
abbrev pub separated : List Piece → List Piece
separated ts = separated_from start.code ts

abbrev pub piece : Written → Piece
piece t = record { kind = t.kind; is_over = list_any ends_line t.gap }

abbrev pub piece_of : Written → List Piece
piece_of t = if is_blanked t then [] else piece t ∷ []

-- the tokens of stretches that are not blanked
abbrev pub pieces : List Written → List Piece
pieces ts = flat_map piece_of ts

abbrev pub written_of : Written → List Piece
written_of t = if is_blanked t then [] else inserted t.supply ++ piece t ∷ []

-- these with what is written between them
abbrev pub written : List Written → List Piece
written ts = flat_map written_of ts

-- what is written twice is what is written once
abbrev pub OnceIsTwice : List Piece → Type 0
OnceIsTwice ts = separated (separated ts) ≡ separated ts

-- what is written between the tokens of a text is told by their kinds and line ends, and behind it nothing more is to be written
pub record IsWrittenOnce (ts : List Written) : Type 0 where
  pub by_kinds : written ts ≡ separated (pieces ts)
  pub again : separated (written ts) ≡ written ts
