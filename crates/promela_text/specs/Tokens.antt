-- What a text cuts into: its longest lexemes, the tokens among them, and what is said of a text that cannot be cut.
-- Hold it against the pages `comments` and `grammar`; docs/LANGUAGE.md, 'Limits'; docs/REFUSALS.md, M1 to M4.
use Rattle.std.specs.Prelude.{ℕ, Bool, true, false, not, ◌&&◌, ◌||◌, ◌==◌, nat_le, if◌then◌else◌, List, [], ◌∷◌, drop, Option, Some, None, nat_eq, ◌≡◌, ◌≤◌, ◌+◌, ◌++◌, length, take, is_some, count_by, ◌<◌, ◌-◌, fold, ◌⊎◌}
use Rattle.std.specs.List.{list_all, prefix_len, starts_with, concat, list_any}
use Rattle.std.specs.Option.{option_map}
use lib.Chars.{codes}
use Rattle.profile.specs.Characters.{tab, line_feed, carriage_return, space, quote, hash, star, slash, is_digit, upper_a, upper_z, backslash, underscore, lower_a, lower_z}
use Rattle.promela_text.specs.declared.lexeme.Class.{Class}
use Rattle.promela_text.specs.declared.lexeme.Class.TheVariants as class
use Rattle.promela_text.specs.declared.lexeme.Lexeme.{Lexeme}
use Rattle.promela_text.specs.declared.lexeme.Lexeme.TheVariants.{Skipped, Token}
use Rattle.pml_token.specs.declared.token.Kind.TheVariants as kind
use Rattle.promela_text.specs.Tables.{lookup, word_kind, one_byte_signs, two_byte_signs}
use Rattle.pml_token.specs.Word.{Word, same_kind}
use Rattle.profile.specs.declared.TheConstants.{MOST_IN_A_ROW, MOST_OPEN, MOST_TEXT_BYTES}
use Rattle.pml_token.specs.declared.token.Kind.{Kind}
use Rattle.pml_token.specs.declared.token.Kind.TheVariants.{LeftOut, OpenParen, CloseParen, OpenBracket, CloseBracket, OpenBrace, CloseBrace, If, Fi, Do, Od, Semicolon, DoubleColon}

-- space, tab, line feed, vertical tab, form feed, carriage return
abbrev pub is_blank : ℕ → Bool
is_blank b = b == space || (nat_le tab b && nat_le b carriage_return)

-- a letter or `_`
abbrev pub is_letter : ℕ → Bool
is_letter b = (nat_le lower_a b && nat_le b lower_z) || ((nat_le upper_a b && nat_le b upper_z) || b == underscore)

-- what may stand in a name behind its first letter
abbrev pub is_name_byte : ℕ → Bool
is_name_byte b = is_letter b || is_digit b

-- what does not end a line
abbrev pub is_in_line : ℕ → Bool
is_in_line b = not (b == line_feed)

-- what a byte begins
abbrev pub class_of : ℕ → Class
class_of b =
    if is_blank b then class.Blank
    else (if is_letter b then class.Letter
    else (if is_digit b then class.Digit
    else (if b == quote then class.Quote
    else (if b == slash then class.Slash
    else (if b == hash then class.Hash
    else class.Other)))))

-- nothing is left
abbrev pub is_empty : {X : Type 0} → List X → Bool
is_empty [] = true
is_empty (x ∷ xs) = false

-- `*/` stands at the end, and not before
abbrev pub ends_comment : List ℕ → Bool
ends_comment (a ∷ b ∷ q) = if a == star && b == slash then is_empty q else ends_comment (b ∷ q)
ends_comment _ = false

-- what stands behind the first `"` of a string, up to the last one; `escaped`: behind a backslash
abbrev pub quoted : Bool → List ℕ → Bool
quoted escaped [] = false
quoted escaped (b ∷ q) =
    if b == line_feed then false
    else (if escaped then quoted false q
    else (if b == quote then is_empty q
    else quoted (b == backslash) q))

-- a space or a tab
abbrev pub is_space : ℕ → Bool
is_space b = b == space || b == tab

-- the first byte is a digit
abbrev pub begins_digit : List ℕ → Bool
begins_digit [] = false
begins_digit (b ∷ q) = is_digit b

-- behind blanks stands a digit
abbrev pub leads_to_digit : List ℕ → Bool
leads_to_digit q = begins_digit (drop (prefix_len is_space q) q)

-- a `#` line that a preprocessor left, from behind its `#`
abbrev pub is_line_mark : List ℕ → Bool
is_line_mark q = leads_to_digit q || (starts_with nat_eq q (codes "line") && leads_to_digit (drop 4 q))

-- the lexeme of a `/` and of the bytes behind it: a comment, or the sign
abbrev pub after_slash : List ℕ → Option Lexeme
after_slash [] = Some (Token kind.Slash)
after_slash (b ∷ q) =
    if b == star then (if ends_comment q then Some Skipped else None)
    else (if b == slash then (if list_all is_in_line q then Some Skipped else None) else None)

-- the lexeme of one byte or of two that are a sign
abbrev pub sign : ℕ → List ℕ → Option Lexeme
sign a [] = option_map Token (lookup one_byte_signs (a ∷ []))
sign a (b ∷ []) = option_map Token (lookup two_byte_signs (a ∷ b ∷ []))
sign a (b ∷ c ∷ q) = None

-- `fresh`: its line has only blanks before it
abbrev pub lexeme_by : Bool → Class → ℕ → List ℕ → Option Lexeme
lexeme_by fresh class.Blank b q = if is_empty q then Some Skipped else None
lexeme_by fresh class.Letter b q = if list_all is_name_byte q then Some (Token (word_kind (b ∷ q))) else None
lexeme_by fresh class.Digit b q = if list_all is_digit q then Some (Token kind.Number) else None
lexeme_by fresh class.Quote b q = if quoted false q then Some (Token kind.Quoted) else None
lexeme_by fresh class.Slash b q = after_slash q
lexeme_by fresh class.Hash b q =
    if fresh && list_all is_in_line q then Some (if is_line_mark q then Skipped else Token kind.LeftOut) else None
lexeme_by fresh class.Other b q = sign b q

-- What the bytes are, if they are one lexeme.
unfoldable pub lexeme : Bool → List ℕ → Option Lexeme
lexeme fresh [] = None
lexeme fresh (b ∷ q) = lexeme_by fresh (class_of b) b q

-- ---- the longest lexemes of a text, and the tokens among them

-- a line feed
abbrev pub is_line_feed : ℕ → Bool
is_line_feed b = b == line_feed

-- the line of the byte behind a text
abbrev pub line_behind : List ℕ → ℕ
line_behind before = 1 + count_by is_line_feed before

-- whether the line that a text ends in has only blanks, where `fresh` says the same of what is before the text
abbrev pub fresh_from : Bool → List ℕ → Bool
fresh_from fresh [] = fresh
fresh_from fresh (b ∷ q) = fresh_from (is_line_feed b || (fresh && is_blank b)) q

-- the same of a text with nothing before it
abbrev pub is_fresh : List ℕ → Bool
is_fresh before = fresh_from true before

-- a text that begins with `/*`
abbrev pub opens_comment : List ℕ → Bool
opens_comment (a ∷ b ∷ q) = a == slash && b == star
opens_comment _ = false

-- p can stand as a lexeme at the front of `rest`
pub record CanStand (fresh : Bool) (rest p : List ℕ) : Type 0 where
  pub front : take (length p) rest ≡ p
  pub is_lexeme : is_some (lexeme fresh p) ≡ true
  -- `/*` always begins a comment
  pub comment : opens_comment rest ≡ true → opens_comment p ≡ true

-- p is the longest lexeme that can stand there
pub record IsLongest (fresh : Bool) (rest p : List ℕ) : Type 0 where
  pub stands : CanStand fresh rest p
  pub longest : (q : List ℕ) → CanStand fresh rest q → length q ≤ length p

-- The lexemes, one after the other, are the text, and each is the longest at its place.
pub record IsDivision (text : List ℕ) (ps : List (List ℕ)) : Type 0 where
  pub joins : concat ps ≡ text
  pub each : (front : List (List ℕ)) (p : List ℕ) (back : List (List ℕ)) → ps ≡ front ++ p ∷ back → IsLongest (is_fresh (concat front)) (p ++ concat back) p

-- the token that a lexeme is
abbrev pub word : Option Lexeme → List ℕ → ℕ → List Word
word (Some (Token k)) text line = record { kind = k; text = text; line = line } ∷ []
word _ text line = []

-- the tokens among lexemes
abbrev pub words : List ℕ → List (List ℕ) → List Word
words before [] = []
words before (p ∷ ps) = word (lexeme (is_fresh before) p) p (line_behind before) ++ words (before ++ p) ps

-- the words are the tokens of a division of the whole text
pub record IsCut (text : List ℕ) (ts : List Word) : Type 0 where
  pub lexemes : List (List ℕ)
  pub divides : IsDivision text lexemes
  pub are_words : ts ≡ words [] lexemes

-- ---- what a list of tokens may not hold

-- a line is one of so many, from 1
abbrev pub IsOnLine : ℕ → ℕ → Type 0
IsOnLine most line = (1 ≤ line) × (line ≤ most)

-- one of the tokens is left out of the language: a word, a sign or a `#` line
abbrev pub has_left_out : List Word → Bool
has_left_out ts = list_any (λ w. same_kind w.kind LeftOut) ts

-- `( [ { if do`
abbrev pub opens : Kind → Bool
opens k = same_kind k OpenParen || same_kind k OpenBracket || same_kind k OpenBrace || same_kind k If || same_kind k Do

-- `) ] } fi od`
abbrev pub closes : Kind → Bool
closes k = same_kind k CloseParen || same_kind k CloseBracket || same_kind k CloseBrace || same_kind k Fi || same_kind k Od

-- `; :: { } if fi do od`
abbrev pub breaks : Kind → Bool
breaks k = same_kind k Semicolon || same_kind k DoubleColon || same_kind k OpenBrace || same_kind k CloseBrace || same_kind k If || same_kind k Fi
    || same_kind k Do || same_kind k Od

-- how deep it is behind some tokens, counted from the front; `-` stops at 0
abbrev pub depth_behind : List Word → ℕ
depth_behind ts = fold (λ n w. if opens w.kind then n + 1 else (if closes w.kind then n - 1 else n)) 0 ts

-- behind some token the count has passed the most that may be open
abbrev pub IsNested : List Word → Type 0
IsNested ts = (k : ℕ) × (MOST_OPEN < depth_behind (take k ts))

-- more than 1,000 tokens stand in a row, none of which breaks a row
pub record IsUnbroken (ts : List Word) : Type 0 where
  pub before : List Word
  pub row : List Word
  pub behind : List Word
  pub joins : ts ≡ before ++ row ++ behind
  pub long : MOST_IN_A_ROW < length row
  pub unbroken : list_any (λ w. breaks w.kind) row ≡ false

-- too many brackets are open at once, or too many tokens stand in a row
abbrev pub IsTooDeep : List Word → Type 0
IsTooDeep ts = IsNested ts ⊎ IsUnbroken ts

-- ---- what a text cuts into

-- the text has this line
abbrev pub IsLine : List ℕ → ℕ → Type 0
IsLine text line = IsOnLine (line_behind text) line

-- the text's tokens, and nothing speaks against them
pub record AreTokens (text : List ℕ) (ts : List Word) : Type 0 where
  pub short : length text ≤ MOST_TEXT_BYTES
  pub are_cut : IsCut text ts
  pub all_served : has_left_out ts ≡ false
