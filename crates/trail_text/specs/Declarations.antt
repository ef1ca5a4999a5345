-- Which tokens begin declarations, which open and close brackets, and which end the declaration of a name.
use Rattle.std.specs.Prelude.{ℕ, ◌&&◌, ◌||◌, List, [], ◌∷◌, ◌+◌, Bool, true, false, Option, Some, None}
use Rattle.std.specs.List.{slice_get}
use Rattle.pml_token.specs.Word.{Word}
use Rattle.pml_token.specs.declared.token.Kind.{Kind}
use Rattle.pml_token.specs.declared.token.Kind.TheVariants as kind

-- a bracket of some kind is opened
abbrev pub opens : Kind → Bool
opens kind.OpenParen = true
opens kind.OpenBracket = true
opens kind.OpenBrace = true
opens _ = false

-- one is closed
abbrev pub closes : Kind → Bool
closes kind.CloseParen = true
closes kind.CloseBracket = true
closes kind.CloseBrace = true
closes _ = false

-- in no bracket, the declaration of one name ends here
abbrev pub ends : Kind → Bool
ends kind.Comma = true
ends kind.Semicolon = true
ends kind.Arrow = true
ends k = closes k

-- a word that names a type
abbrev pub types : Kind → Bool
types kind.Bit = true
types kind.Bool = true
types kind.Byte = true
types kind.Chan = true
types kind.Int = true
types kind.Mtype = true
types kind.Pid = true
types kind.Short = true
types kind.Unsigned = true
types _ = false

-- the kind of a token, and `End` of none
abbrev pub kind_of : Option Word → Kind
kind_of (Some word) = word.kind
kind_of None = kind.End

-- the line of a token, and 0 of none
abbrev pub line_of : Option Word → ℕ
line_of (Some word) = word.line
line_of None = 0

-- a label stands before a loop that begins with an assignment, where these kinds are in a row
abbrev pub labels : Kind → Kind → Kind → Bool
labels kind.Name kind.Colon kind.For = true
labels kind.Name kind.Colon kind.Select = true
labels _ _ _ = false

-- the lines of the label at a place, and of the loop behind it
abbrev pub label_lines : List Word → ℕ → List ℕ
label_lines tokens at = line_of (slice_get tokens at) ∷ line_of (slice_get tokens (at + 2)) ∷ []

-- the kind of the token at a place
abbrev pub kind_in : List Word → ℕ → Kind
kind_in tokens at = kind_of (slice_get tokens at)

-- a name
abbrev pub is_name : Kind → Bool
is_name kind.Name = true
is_name _ = false

-- these tokens begin with a value that is one name
abbrev pub is_one_name : List Word → Bool
is_one_name (name ∷ behind ∷ _) = is_name name.kind && ends behind.kind
is_one_name _ = false

-- a list of names begins behind the first of these: behind a type, and behind a typedef's name
abbrev pub begins : Kind → Kind → Bool
begins first second = is_name second && (types first || is_name first)
