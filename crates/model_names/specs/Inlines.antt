-- The names of inlines and of their parameters, by tokens alone.
use Rattle.std.specs.Prelude.{ℕ, ◌+◌, ◌-◌, nat_eq, Bool, true, false, ◌&&◌, if◌then◌else◌, List, [], ◌∷◌, ◌++◌, length, take, drop, flat_map, Option, Some, None}
use Rattle.std.specs.Str.{bytes_eq}
use Rattle.pml_token.specs.declared.token.Kind.{Kind}
use Rattle.pml_token.specs.declared.token.Kind.TheVariants as kind
use Rattle.pml_token.specs.Word.{same_kind, Word}
use Rattle.promela_text.specs.Inlines.{is_name, braces_behind}
use Rattle.declared_names.specs.declared.occurrence.Occurrence.{Occurrence}
use Rattle.declared_names.specs.declared.declared.Declaration.{Declaration}
use Rattle.declared_names.specs.declared.declared.Stands.{Stands}
use Rattle.declared_names.specs.declared.declared.Stands.TheVariants.{Inline, Parameter}
use Rattle.declared_names.specs.Meant.{at_place}

-- ---- the tokens of a definition

-- how many tokens stand before the first of a kind
abbrev pub count_before : Kind → List Word → ℕ
count_before k [] = 0
count_before k (w ∷ ws) = if same_kind w.kind k then 0 else 1 + count_before k ws

-- the tokens between the parentheses, of those behind the `(`
abbrev pub parameters_of : List Word → List Word
parameters_of ts = take (count_before kind.CloseParen ts) ts

-- how many tokens stand before the one that closes a body, where so many braces are open
abbrev pub body_length : ℕ → List Word → ℕ
body_length n [] = 0
body_length n (w ∷ ws) = if nat_eq (braces_behind n w) 0 then 0 else 1 + body_length (braces_behind n w) ws

-- the tokens of a body, of those from its brace on
abbrev pub body_of : List Word → List Word
body_of ts = take (body_length 0 ts) ts

-- ---- names

-- the name means this one, if it is the same
abbrev pub same_name : Word → Word → List Occurrence
same_name site w = if is_name w && bytes_eq w.text site.text then at_place w (Some site.line) else []

abbrev pub declares : Word → List Occurrence
declares w = at_place w (Some w.line)

abbrev pub declaration : ℕ → Stands → Word → Declaration
declaration o s w = record { at = w.line; length = length w.text; owner = o; stands = s }

-- a parameter, and where it stands in the body
abbrev pub of_parameter : List Word → Word → List Occurrence
of_parameter body p = if is_name p then declares p ++ flat_map (same_name p) body else []

abbrev pub declared_parameter : ℕ → Word → List Declaration
declared_parameter o p = if is_name p then declaration o Parameter p ∷ [] else []

-- the definition whose name begins these tokens
abbrev pub of_definition : List Word → List Occurrence
of_definition (n ∷ o ∷ ws) =
    if is_name n then declares n ++ flat_map (of_parameter (body_of (drop (length (parameters_of ws) + 1) ws))) (parameters_of ws) else []
of_definition ws = []

abbrev pub declared_definition : List Word → List Declaration
declared_definition (n ∷ o ∷ ws) =
    if is_name n then declaration 0 Inline n ∷ flat_map (declared_parameter n.line) (parameters_of ws) else []
declared_definition ws = []

-- the definitions among tokens
abbrev pub of_definitions : List Word → List Occurrence
of_definitions [] = []
of_definitions (w ∷ ws) = (if same_kind w.kind kind.Inline then of_definition ws else []) ++ of_definitions ws

abbrev pub declared_definitions : List Word → List Declaration
declared_definitions [] = []
declared_definitions (w ∷ ws) = (if same_kind w.kind kind.Inline then declared_definition ws else []) ++ declared_definitions ws

-- a name that may be called stands first among tokens, and is called
abbrev pub is_called : List Word → Bool
is_called (n ∷ o ∷ ws) = is_name n && same_kind o.kind kind.OpenParen
is_called ws = false
