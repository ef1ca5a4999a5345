-- A text with numbers in place of its character constants.
use Rattle.std.specs.Prelude.{ℕ, zero, suc, Bool, true, false, ◌||◌, nat_lt, if◌then◌else◌, List, [], ◌∷◌, ◌++◌, length, take, drop}
use Rattle.std.specs.List.{filter}
use Rattle.promela_text.specs.Tokens.{fresh_from, is_line_feed}
use Rattle.prepare.specs.Character.{character_length, number}
use Rattle.prepare.specs.Stretches.{lexeme_at}

-- whether a text begins with a character constant
abbrev pub is_coded : List ℕ → Bool
is_coded text = nat_lt 0 (character_length text)

-- how long the character constant or the lexeme at the front of a text is: `fresh` says whether its line has only blanks before it
abbrev pub front_length : Bool → List ℕ → ℕ
front_length fresh text = if is_coded text then character_length text else (lexeme_at fresh text).0

-- what is written of it: in place of a character constant its number, and behind that the constant's line feeds, if it had any
abbrev pub written : Bool → List ℕ → List ℕ
written is_character t = if is_character then number t ++ filter is_line_feed t else t

-- what is written of the rest of a text, so many lexemes and all that is left
unfoldable pub coded_by : ℕ → Bool → List ℕ → List ℕ
coded_by zero fresh text = text
coded_by (suc n) fresh [] = []
coded_by (suc n) fresh (b ∷ q) =
    let text = b ∷ q in
    let front = take (front_length fresh text) text in
    written (is_coded text) front ++ coded_by n (fresh_from fresh front) (drop (front_length fresh text) text)

-- a text, which has no more lexemes than bytes
abbrev pub coded : List ℕ → List ℕ
coded text = coded_by (length text) true text

-- whether a character constant stands where a lexeme of the text begins
unfoldable pub has_character_by : ℕ → Bool → List ℕ → Bool
has_character_by zero fresh text = false
has_character_by (suc n) fresh [] = false
has_character_by (suc n) fresh (b ∷ q) =
    let text = b ∷ q in
    let front = take (front_length fresh text) text in
    is_coded text || has_character_by n (fresh_from fresh front) (drop (front_length fresh text) text)

abbrev pub has_character : List ℕ → Bool
has_character text = has_character_by (length text) true text
