-- Tokens at places of a list, and the brackets that they are.
use Rattle.std.specs.Prelude.{ℕ, ◌==◌, ◌+◌, ◌-◌, Bool, true, false, if◌then◌else◌, List, [], ◌∷◌, slice_get, slice_index_or, length, Option, Some, None, option_map}
use Rattle.std.specs.List.{list_any}
use Prim.Native.Nat.{suc}
use Rattle.explain_cause.specs.declared.cause.Segment.{Segment}
use Rattle.pml_token.specs.declared.token.Kind.{Kind}
use Rattle.pml_token.specs.declared.token.Kind.TheVariants as kind
use Rattle.pml_token.specs.Word.{same_kind, Word}

-- the kind of a token, `End` of none
abbrev pub kind_of : Option Word → Kind
kind_of None = kind.End
kind_of (Some w) = w.kind

-- the kind of the token behind so many others, `End` behind the last one
abbrev pub kind_at : List Word → ℕ → Kind
kind_at ts at = kind_of (slice_get ts at)

-- how many bytes stand before a token, 0 before none
abbrev pub offset_of : Option Word → ℕ
offset_of None = 0
offset_of (Some w) = w.line

abbrev pub offset_at : List Word → ℕ → ℕ
offset_at ts at = offset_of (slice_get ts at)

-- the place of the first token that so many bytes stand before
abbrev pub index_at : ℕ → List Word → Option ℕ
index_at offset [] = None
index_at offset (t ∷ ts) = if t.line == offset then Some 0 else option_map suc (index_at offset ts)

-- a kind is one of these
unfoldable pub is_among : Kind → List Kind → Bool
is_among k ks = list_any (same_kind k) ks

-- the place of a token
abbrev pub place_of : Word → Segment
place_of w = record { offset = w.line; length = length w.text }

-- that of the first token that stands for something that is left out
abbrev pub left_out : List Word → Option Segment
left_out [] = None
left_out (t ∷ ts) = if same_kind t.kind kind.LeftOut then Some (place_of t) else left_out ts

-- the byte in front of a place of a text, or a blank
abbrev pub byte_before : List ℕ → ℕ → ℕ
byte_before text offset = slice_index_or (32 ∷ text) offset 32

-- `( [ { if do`
abbrev pub opens : Kind → Bool
opens kind.OpenParen = true
opens kind.OpenBracket = true
opens kind.OpenBrace = true
opens kind.If = true
opens kind.Do = true
opens k = false

-- `) ] } fi od`
abbrev pub closes : Kind → Bool
closes kind.CloseParen = true
closes kind.CloseBracket = true
closes kind.CloseBrace = true
closes kind.Fi = true
closes kind.Od = true
closes k = false

-- what closes what this opens
abbrev pub closer_of : Kind → Kind
closer_of kind.OpenParen = kind.CloseParen
closer_of kind.OpenBracket = kind.CloseBracket
closer_of kind.OpenBrace = kind.CloseBrace
closer_of kind.If = kind.Fi
closer_of kind.Do = kind.Od
closer_of k = kind.End

-- the token behind `at` others closes what the one behind `opener` others opens
abbrev pub fits : List Word → ℕ → ℕ → Bool
fits ts opener at = same_kind (closer_of (kind_at ts opener)) (kind_at ts at)
