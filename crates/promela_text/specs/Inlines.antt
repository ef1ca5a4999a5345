-- What a definition of an inline is, what comes of tokens in which calls of inlines are replaced, and of a whole text, by rules.
-- Hold it against the page `inline`; docs/REFUSALS.md, M4 and M19.
use Rattle.pml_token.specs.declared.token.Kind.TheVariants as kind
use Rattle.std.specs.Prelude.{ℕ, zero, suc, ◌+◌, ◌-◌, Bool, true, false, ◌&&◌, ◌||◌, nat_eq, if◌then◌else◌, List, [], ◌∷◌, Option, Some, None, ◌*◌, not, length, take, drop, option_map, option_and_then, ◌++◌, find, ◌≡◌, ◌≤◌, map, unwrap_or}
use Rattle.std.specs.List.{list_any, onto_first, flat_map, slice_get}
use Rattle.pml_token.specs.declared.token.Kind.{Kind}
use Rattle.pml_token.specs.declared.token.Kind.TheVariants.{Name, OpenParen, CloseParen, OpenBracket, CloseBracket, OpenBrace, CloseBrace, Comma}
use Rattle.pml_token.specs.Word.{same_kind, Word}
use Rattle.std.specs.Str.{bytes_eq}
use Rattle.promela_text.specs.Tokens.{is_empty, IsTooDeep}
use Rattle.profile.specs.declared.TheConstants.{MOST_CALLS, MOST_REPLACED}

-- a name that is no reserved word
abbrev pub is_name : Word → Bool
is_name w = same_kind w.kind Name

-- the word `inline`
unfoldable pub is_inline : Word → Bool
is_inline w = same_kind w.kind kind.Inline

-- the word `inline` is among the tokens
abbrev pub has_inline : List Word → Bool
has_inline ws = list_any is_inline ws

-- the list begins with a token of this kind
abbrev pub begins_as : Kind → List Word → Bool
begins_as k [] = false
begins_as k (w ∷ ws) = same_kind w.kind k

-- `n` brackets are open. The token closes one, opens one, or does neither.
abbrev pub to_closing : Bool → Bool → (ℕ → Option ℕ) → ℕ → Option ℕ
to_closing true opens rest zero = Some 0
to_closing true opens rest (suc n) = option_map suc (rest n)
to_closing false true rest n = option_map suc (rest (suc n))
to_closing false false rest n = option_map suc (rest n)

-- How many tokens stand before the one that closes a bracket which was opened before them, where `n` more are open.
-- These two kinds alone are counted.
abbrev pub closing : Kind → Kind → List Word → ℕ → Option ℕ
closing opener closer [] n = None
closing opener closer (w ∷ ws) n = to_closing (same_kind w.kind closer) (same_kind w.kind opener) (closing opener closer ws) n

-- `( [ {`
abbrev pub opens_bracket : Kind → Bool
opens_bracket k = same_kind k OpenParen || same_kind k OpenBracket || same_kind k OpenBrace

-- `) ] }`
abbrev pub closes_bracket : Kind → Bool
closes_bracket k = same_kind k CloseParen || same_kind k CloseBracket || same_kind k CloseBrace

-- how many brackets of any kind are open behind a token; what closes none is not counted
abbrev pub level_behind : ℕ → Kind → ℕ
level_behind n k = if opens_bracket k then n + 1 else (if closes_bracket k then n - 1 else n)

-- a comma that stands in no brackets begins a new part, and each other token belongs to the part that it stands in
abbrev pub part_turn : Bool → Word → (ℕ → List (List Word)) → ℕ → List (List Word)
part_turn true w rest n = [] ∷ rest 0
part_turn false w rest n = onto_first w (rest (level_behind n w.kind))

-- the parts between the commas outside all inner brackets, where `n` brackets are open
abbrev pub parts : List Word → ℕ → List (List Word)
parts [] n = [] ∷ []
parts (w ∷ ws) n = part_turn (same_kind w.kind Comma && nat_eq n 0) w (parts ws) n

-- the arguments between the parentheses of a call; nothing at all is no argument
abbrev pub arguments : List Word → List (List Word)
arguments [] = []
arguments (w ∷ ws) = parts (w ∷ ws) 0

-- ---- definitions

-- `inline name ( parameters ) body`
pub record Inline : Type 0 where
  pub name : List ℕ
  pub parameters : List (List ℕ)
  -- from its `{` to its `}`
  pub body : List Word
  -- how many tokens it has behind the word `inline`
  pub size : ℕ

-- a name is one of these
abbrev pub is_among : List ℕ → List (List ℕ) → Bool
is_among n ns = list_any (bytes_eq n) ns

-- no two of these names are the same
abbrev pub all_differ : List (List ℕ) → Bool
all_differ [] = true
all_differ (n ∷ ns) = not (is_among n ns) && all_differ ns

-- the names of `Name {, Name} )`
abbrev pub names : List Word → Option (List (List ℕ))
names (w ∷ v ∷ ws) =
    if is_name w then (if same_kind v.kind CloseParen then Some (w.text ∷ [])
    else (if same_kind v.kind Comma then option_map (λ ns. w.text ∷ ns) (names ws) else None)) else None
names _ = None

-- the names of `[Name {, Name}] )`
abbrev pub parameter_names : List Word → Option (List (List ℕ))
parameter_names ws = if begins_as CloseParen ws then Some [] else names ws

-- how many tokens these names, the commas between them and the `)` are
abbrev pub listed : List (List ℕ) → ℕ
listed ns = if nat_eq (length ns) 0 then 1 else 2 * length ns

-- `ts` begins with the `{`, and `n` tokens stand between it and its `}`
abbrev pub with_end : List ℕ → List (List ℕ) → List Word → ℕ → Option Inline
with_end name ps ts n =
    if all_differ ps && not (has_inline (take (n + 2) ts))
    then Some (record { name = name; parameters = ps; body = take (n + 2) ts; size = 2 + listed ps + (n + 2) }) else None

-- the definition whose body begins with the `{` that tokens begin with, if they do
abbrev pub with_body : List ℕ → List (List ℕ) → List Word → Option Inline
with_body name ps ts =
    if begins_as OpenBrace ts then option_and_then (with_end name ps ts) (closing OpenBrace CloseBrace (drop 1 ts) 0) else None

-- the definition that tokens behind the word `inline` begin with, if they do
unfoldable pub definition : List Word → Option Inline
definition [] = None
definition (w ∷ ws) =
    if is_name w && begins_as OpenParen ws
    then option_and_then (λ ps. with_body w.text ps (drop (listed ps) (drop 1 ws))) (parameter_names (drop 1 ws)) else None

-- ---- calls

-- the first place of a name among names
abbrev pub place_of : List ℕ → List (List ℕ) → Option ℕ
place_of n [] = None
place_of n (m ∷ ms) = if bytes_eq n m then Some 0 else option_map suc (place_of n ms)

-- the parameter that a token names
abbrev pub parameter : List (List ℕ) → Word → Option ℕ
parameter ps w = if is_name w then place_of w.text ps else None

-- a token that names no parameter stays, and one that does gives way to its argument
abbrev pub instead : List (List Word) → Word → Option ℕ → List Word
instead args w None = w ∷ []
instead args w (Some k) = unwrap_or (slice_get args k) []

-- the body, with the arguments in place of the parameters
abbrev pub replaced : Inline → List (List Word) → List Word
replaced d args = flat_map (λ w. instead args w (parameter d.parameters w)) d.body

-- as many arguments as parameters, and none of them empty
abbrev pub fits : Inline → List (List Word) → Bool
fits d args = nat_eq (length args) (length d.parameters) && not (list_any is_empty args)

-- the inline that a name calls, where `(` is behind it
unfoldable pub callee : List Inline → Word → List Word → Option Inline
callee known w ws = if is_name w && begins_as OpenParen ws then find (λ d. bytes_eq w.text d.name) known else None

-- the tokens between the parentheses of a call, of which n are
abbrev pub inside_call : ℕ → List Word → List Word
inside_call n ws = take n (drop 1 ws)

-- the body of an inline, with what stands between the parentheses for its parameters
abbrev pub body_with : Inline → ℕ → List Word → List Word
body_with d n ws = replaced d (arguments (inside_call n ws))

-- it is called by no call round it, and has as many arguments as parameters, none of them empty
abbrev pub IsRight : List (List ℕ) → Inline → ℕ → List Word → Type 0
IsRight active d n ws = (not (is_among d.name active) && fits d (arguments (inside_call n ws))) ≡ true

-- Of the first tokens come the second, by replacements of so many tokens in all, where so many calls more may be within one another
-- and the calls of `active` are round them.
pub data Becomes (known : List Inline) : ℕ → List (List ℕ) → List Word → List Word → ℕ → Type 0 where
  nothing_more : {room : ℕ} {active : List (List ℕ)} → Becomes known room active [] [] 0
  stays : {room : ℕ} {active : List (List ℕ)} {w : Word} {ws us : List Word} {c : ℕ} → callee known w ws ≡ None → Becomes known room active ws us c
      → Becomes known room active (w ∷ ws) (w ∷ us) c
  is_replaced : {room : ℕ} {active : List (List ℕ)} {w : Word} {ws us vs : List Word} {d : Inline} {n a b : ℕ} → callee known w ws ≡ Some d
      → closing OpenParen CloseParen (drop 1 ws) 0 ≡ Some n → IsRight active d n ws → Becomes known room (active ++ d.name ∷ []) (body_with d n ws) us a
      → Becomes known (suc room) active (drop (n + 2) ws) vs b → Becomes known (suc room) active (w ∷ ws) (us ++ vs) (length (body_with d n ws) + a + b)

-- ---- the expansion of a text

-- how many braces are open behind a token; what closes none is not counted
abbrev pub braces_behind : ℕ → Word → ℕ
braces_behind n w = if same_kind w.kind OpenBrace then n + 1 else (if same_kind w.kind CloseBrace then n - 1 else n)

-- Of the first tokens, with these definitions in them, come the second, by replacements of so many tokens in all, where these inlines are known
-- before them and so many braces are open. A definition stands outside all braces, is taken out, and is known from there on.
pub data Leave : (known : List Inline) (braces : ℕ) (tokens : List Word) (own : List Inline) (left : List Word) (count : ℕ) → Type 0 where
  none_left : {known : List Inline} {n : ℕ} → Leave known n [] [] [] 0
  is_left : {known own : List Inline} {n c : ℕ} {w : Word} {ws us : List Word} → is_inline w ≡ false → callee known w ws ≡ None
      → Leave known (braces_behind n w) ws own us c → Leave known n (w ∷ ws) own (w ∷ us) c
  -- a call outside all others, whose parentheses have no word `inline` between them
  calls : {known own : List Inline} {n m a b : ℕ} {w : Word} {ws us vs : List Word} {d : Inline} → is_inline w ≡ false → callee known w ws ≡ Some d
      → closing OpenParen CloseParen (drop 1 ws) 0 ≡ Some m → has_inline (inside_call m ws) ≡ false → IsRight [] d m ws
      → Becomes known (MOST_CALLS - 1) (d.name ∷ []) (body_with d m ws) us a → Leave known n (drop (m + 2) ws) own vs b
      → Leave known n (w ∷ ws) own (us ++ vs) (length (body_with d m ws) + a + b)
  defines : {known own : List Inline} {c : ℕ} {w : Word} {ws us : List Word} {d : Inline} → is_inline w ≡ true → definition ws ≡ Some d
      → Leave (known ++ d ∷ []) 0 (drop d.size ws) own us c → Leave known 0 (w ∷ ws) (d ∷ own) us c

-- `us` is what comes of the tokens, by these rules: no name is defined twice, and there are no more replacements than there may be
pub record Expands (ts us : List Word) : Type 0 where
  pub own : List Inline
  pub count : ℕ
  pub leave : Leave [] 0 ts own us count
  pub apart : all_differ (map (λ (d : Inline). d.name) own) ≡ true
  pub few : count ≤ MOST_REPLACED

-- `us` is what comes of the tokens, and nothing speaks against it
pub record IsExpanded (ts us : List Word) : Type 0 where
  pub expands : Expands ts us
  pub shallow : IsTooDeep us → ⊥

-- what comes of the tokens is too deep
pub record GoesTooDeep (ts : List Word) : Type 0 where
  pub given : List Word
  pub expands : Expands ts given
  pub deep : IsTooDeep given
