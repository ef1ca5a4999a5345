-- The definition of what is called, by tokens: where it is, its heading, and its parameters.
use Rattle.std.specs.Prelude.{ℕ, ◌+◌, Bool, false, ◌&&◌, ◌||◌, if◌then◌else◌, List, [], ◌∷◌, ◌++◌, length, take, drop, Option, Some, None}
use Rattle.std.specs.Str.{bytes_eq}
use Rattle.pml_token.specs.declared.token.Kind.{Kind}
use Rattle.pml_token.specs.declared.token.Kind.TheVariants as kind
use Rattle.pml_token.specs.Word.{same_kind, Word}
use Rattle.text_parts.specs.declared.calls.PartialCall.{PartialCall}
use Rattle.text_parts.specs.declared.definitions.TextPart.{TextPart}

-- the word with which a definition begins: behind `run` stands a proctype, and else an inline
abbrev pub word_of : PartialCall → Kind
word_of c = if c.is_run then kind.Proctype else kind.Inline

-- tokens begin with this name and a `(`
abbrev pub is_named : List ℕ → List Word → Bool
is_named n (v ∷ w ∷ ws) = bytes_eq v.text n && same_kind w.kind kind.OpenParen
is_named n ws = false

-- the tokens from the first definition of a name on: its word, the name and a `(`
abbrev pub definition : Kind → List ℕ → List Word → List Word
definition k n [] = []
definition k n (w ∷ ws) = if same_kind w.kind k && is_named n ws then w ∷ ws else definition k n ws

-- how many tokens stand before the first `)`
abbrev pub count_before : List Word → ℕ
count_before [] = 0
count_before (w ∷ ws) = if same_kind w.kind kind.CloseParen then 0 else 1 + count_before ws

abbrev pub part_to : ℕ → ℕ → TextPart
part_to from to = record { from = from; to = to }

-- where a token ends
abbrev pub end_of : Word → ℕ
end_of w = w.line + length w.text

-- from the `)` behind the parameters on
abbrev pub behind_parameters : List Word → List Word
behind_parameters ws = drop (count_before (drop 3 ws)) (drop 3 ws)

abbrev pub up_to : Word → List Word → Option TextPart
up_to w [] = None
up_to w (v ∷ vs) = Some (part_to w.line (end_of v))

-- from the word of a definition up to that `)`
abbrev pub heading : List Word → Option TextPart
heading [] = None
heading (w ∷ ws) = up_to w (behind_parameters (w ∷ ws))

-- it stands between parameters
abbrev pub separates : Kind → Bool
separates k = same_kind k kind.Comma || same_kind k kind.Semicolon

-- a part with one more token
abbrev pub grown : Option TextPart → Word → TextPart
grown None w = part_to w.line (end_of w)
grown (Some p) w = part_to p.from (end_of w)

abbrev pub listed : Option TextPart → List TextPart
listed None = []
listed (Some p) = p ∷ []

-- the parts between what separates them, behind one that has begun
abbrev pub parts : Option TextPart → List Word → List TextPart
parts p [] = listed p
parts p (w ∷ ws) = if separates w.kind then listed p ++ parts None ws else parts (Some (grown p w)) ws

-- where each parameter is declared
abbrev pub parameters : List Word → List TextPart
parameters ws = parts None (take (count_before (drop 3 ws)) (drop 3 ws))
