-- What is kept of a string over several lines.
use Rattle.std.specs.Prelude.{◌≡◌, ℕ, false, List, [], ◌∷◌, ◌++◌, ◌⊎◌}
use Rattle.std.specs.List.{filter, list_any, flat_map}
use lib.Chars.{codes}
use Rattle.promela_text.specs.Tokens.{is_line_feed}

-- a line of a string, and what ends it there
pub record Line : Type 0 where
  pub text : List ℕ
  pub end : List ℕ

-- a line feed, or a backslash and a line feed
abbrev pub IsLineEnd : List ℕ → Type 0
IsLineEnd e = (e ≡ codes "\n") ⊎ (e ≡ codes "\\\n")

abbrev pub IsStringLine : Line → Type 0
IsStringLine l = (list_any is_line_feed l.text ≡ false) × IsLineEnd l.end

abbrev pub AreStringLines : List Line → Type 0
AreStringLines [] = Unit {0}
AreStringLines (l ∷ ls) = IsStringLine l × AreStringLines ls

-- A string is lines with their ends, and a last line: what is written of it is the lines alone, and behind them its line feeds.
pub record IsJoined (string written : List ℕ) : Type 0 where
  pub lines : List Line
  pub last : List ℕ
  pub divides : string ≡ flat_map (λ l. l.text ++ l.end) lines ++ last
  pub each : AreStringLines lines
  pub last_line : list_any is_line_feed last ≡ false
  pub joins : written ≡ (flat_map (λ l. l.text) lines ++ last) ++ filter is_line_feed string
