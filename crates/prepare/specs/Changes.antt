-- What is written in place of tokens that Spin has and this profile has not: subtypes of `mtype`, and a `for` over an array.
use Rattle.std.specs.Prelude.{ℕ, ◌-◌, Bool, true, false, ◌&&◌, nat_lt, min, if◌then◌else◌, List, [], ◌∷◌, ◌++◌, map, Option, Some, None, is_some}
use Rattle.std.specs.List.{filter, flat_map}
use Rattle.std.specs.Fmt.{decimal}
use lib.Chars.{codes}
use Rattle.pml_token.specs.declared.token.Kind.{Kind}
use Rattle.pml_token.specs.declared.token.Kind.TheVariants as kind
use Rattle.pml_token.specs.Word.{same_kind}
use Rattle.promela_text.specs.Tokens.{is_line_feed}
use Rattle.prepare.specs.declared.markers.TheConstants.{MOST_LINE}
use Rattle.prepare.specs.declared.changes.PhraseHead.{PhraseHead}
use Rattle.prepare.specs.declared.changes.PhraseHead.TheVariants as head
use Rattle.prepare.specs.declared.changes.Respelling.{Respelling}
use Rattle.prepare.specs.declared.changes.Respelling.TheVariants as change
use Rattle.prepare.specs.Spelling.{blank}
use Rattle.prepare.specs.Written.{Written}
use Rattle.prepare.specs.Changed.{Changed, changed}
use Rattle.prepare.specs.Sizes.{is_in, Declared, declared, agreed}

-- behind a token that goes on with nothing
abbrev pub begun : Kind → PhraseHead
begun kind.Mtype = head.Typed
begun kind.For = head.For
begun _ = head.Outside

-- behind a token: `mtype`, its colon, and `for`, `(`, a name and `in`
abbrev pub head_behind : PhraseHead → Kind → List ℕ → PhraseHead
head_behind head.Typed k t = if same_kind k kind.Colon then head.Subtyped else begun k
head_behind head.For k t = if same_kind k kind.OpenParen then head.Enters else begun k
head_behind head.Enters k t = if same_kind k kind.Name then head.Counts else begun k
head_behind head.Counts k t = if is_in k t then head.In else begun k
head_behind _ k t = begun k

-- whether a token of this kind stands at the front of stretches
abbrev pub begins_with : Kind → List Written → Bool
begins_with k [] = false
begins_with k (t ∷ ts) = same_kind t.kind k

-- the last of so many elements, if there are any
abbrev pub last_of : Option ℕ → Option ℕ
last_of None = None
last_of (Some n) = if nat_lt 0 n then Some (n - 1) else None

-- the number of the last element of an array whose name stands before `)` at the front of stretches
abbrev pub last_element : List Declared → List Written → Option ℕ
last_element ds [] = None
last_element ds (t ∷ ts) = if same_kind t.kind kind.Name && begins_with kind.CloseParen ts then last_of (agreed t.token ds) else None

abbrev pub colon : Bool → Respelling
colon b = if b then change.Colon else change.Kept

abbrev pub range : Option ℕ → Respelling
range None = change.Left
range (Some n) = change.Range n

-- the colon behind `mtype` is that of a subtype where a name stands behind it
abbrev pub colon_of_subtype : List Written → Respelling
colon_of_subtype ts = if begins_with kind.Name ts then change.Blanked else change.Left

-- what becomes of a token, where `ts` are the stretches behind it
abbrev pub change_of : List Declared → PhraseHead → Written → List Written → Respelling
change_of ds head.Typed t ts = if same_kind t.kind kind.Colon then colon_of_subtype ts else change.Kept
change_of ds head.Subtyped t ts = if same_kind t.kind kind.Name then change.Blanked else change.Kept
change_of ds head.Counts t ts = colon (is_in t.kind t.token && is_some (last_element ds ts))
change_of ds head.In t ts = range (last_element ds (t ∷ ts))
change_of ds _ t ts = change.Kept

abbrev pub change_at : List Declared → PhraseHead → List Written → Respelling
change_at ds h [] = change.Kept
change_at ds h (t ∷ ts) = change_of ds h t ts

abbrev pub exchanges_by : List Declared → PhraseHead → List Written → List (Changed Respelling)
exchanges_by ds h [] = []
exchanges_by ds h (t ∷ ts) = changed t (change_of ds h t ts) ∷ exchanges_by ds (head_behind h t.kind t.token) ts

-- what becomes of stretches
abbrev pub exchanges : List Written → List (Changed Respelling)
exchanges ts = exchanges_by (declared ts) head.Outside ts

-- the numbers of elements: `0 .. 4`. No text has room for more than `MOST_LINE`
abbrev pub numbers : ℕ → List ℕ
numbers last = codes "0 .. " ++ decimal (min last MOST_LINE)

-- what is written in place of a token
abbrev pub shown : Respelling → List ℕ → List ℕ
shown change.Kept t = t
shown change.Left t = t
shown change.Blanked t = map blank t
shown change.Colon t = codes ":" ++ filter is_line_feed t
shown (change.Range last) t = numbers last ++ filter is_line_feed t

abbrev pub respelled_one : Changed Respelling → List ℕ
respelled_one c = c.gap ++ shown c.change c.token

-- what is written of all
abbrev pub respelled : List (Changed Respelling) → List ℕ
respelled cs = flat_map respelled_one cs

abbrev pub is_kept : Respelling → Bool
is_kept change.Kept = true
is_kept change.Left = true
is_kept _ = false

-- whether a token comes out as it is
abbrev pub is_same : Changed Respelling → Bool
is_same c = is_kept c.change
