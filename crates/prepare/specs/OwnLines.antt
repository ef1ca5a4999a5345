-- On which line a line of the model's own file stands, and what numbers stand for.
use Rattle.std.specs.Prelude.{◌≡◌, ◌<◌, ℕ, zero, suc, false, List, [], ◌∷◌, ◌++◌, length, drop, max, count_by, ◌⊎◌, Option, None, Some}
use Rattle.std.specs.List.{filter, flat_map, list_any}
use Rattle.profile.specs.Characters.{line_feed}
use Rattle.promela_text.specs.Tokens.{is_line_feed, line_behind}
use Rattle.prepare.specs.Marker.{Marker}
use Rattle.prepare.specs.Markers.{marker}
use Rattle.prepare.specs.Numbering.{first_line, line_length, numbered, has_marker}
use Rattle.prepare.specs.Character.{character_length, number}

-- whole lines: nothing, or a text that ends with a line feed
abbrev pub IsWhole : List ℕ → Type 0
IsWhole t = (t ≡ []) ⊎ ((front : List ℕ) × (t ≡ front ++ line_feed ∷ []))

-- one line, with its line feed
abbrev pub IsLine : List ℕ → Type 0
IsLine t = (front : List ℕ) × (t ≡ front ++ line_feed ∷ []) × (list_any is_line_feed front ≡ false)

-- the file that a marker names, or else another one
abbrev pub file_or : Option Marker → Option (List ℕ) → Option (List ℕ)
file_or None o = o
file_or (Some m) o = Some m.file

-- the file that the first marker of the rest of a text names, of at most so many lines
unfoldable pub first_file_by : ℕ → List ℕ → Option (List ℕ)
first_file_by zero text = None
first_file_by (suc n) [] = None
first_file_by (suc n) (b ∷ q) = file_or (marker (first_line (b ∷ q))) (first_file_by n (drop (line_length (b ∷ q)) (b ∷ q)))

abbrev pub first_file : List ℕ → Option (List ℕ)
first_file text = first_file_by (length text) text

-- a marker names the model's own file: the one that the first marker before it names, or it is the first
abbrev pub IsOwn : List ℕ → Marker → Type 0
IsOwn before m = (first_file before ≡ None) ⊎ (first_file before ≡ Some m.file)

-- lines of the model's own file, behind a marker that names it and with no marker among them
pub record AreOwn (text before own : List ℕ) (m : Marker) : Type 0 where
  pub line : List ℕ
  pub behind : List ℕ
  pub divides : text ≡ before ++ (line ++ (own ++ behind))
  pub whole : IsWhole before
  pub one : IsLine line
  pub is_marker : marker line ≡ Some m
  pub is_own : IsOwn before m
  pub unmarked : has_marker own ≡ false
  pub ends : IsWhole own ⊎ (behind ≡ [])

-- lines before which no marker stands
pub record AreFirst (text own : List ℕ) : Type 0 where
  pub behind : List ℕ
  pub divides : text ≡ own ++ behind
  pub unmarked : has_marker own ≡ false
  pub ends : IsWhole own ⊎ (behind ≡ [])

-- these bytes stand in a text, from line n on
pub record StandFrom (n : ℕ) (own text : List ℕ) : Type 0 where
  pub before : List ℕ
  pub behind : List ℕ
  pub divides : text ≡ before ++ (own ++ behind)
  pub line : line_behind before ≡ n

-- lines of the model's own file stand, once the lines of a text are where its markers say, from the line on that the marker before them gives, or
-- behind what was written before it
abbrev pub OwnLinesStand : List ℕ → Type 0
OwnLinesStand text = (before own : List ℕ) (m : Marker) → AreOwn text before own m → StandFrom (max (line_behind (numbered before)) m.line) own (numbered text)

-- and lines before which no marker stands from line 1 on
abbrev pub FirstLinesStand : List ℕ → Type 0
FirstLinesStand text = (own : List ℕ) → AreFirst text own → StandFrom 1 own (numbered text)

-- a part of a text, and what is written of it
pub record Part : Type 0 where
  pub old : List ℕ
  pub new : List ℕ

abbrev pub olds : List Part → List ℕ
olds ps = flat_map (λ p. p.old) ps

abbrev pub news : List Part → List ℕ
news ps = flat_map (λ p. p.new) ps

-- a character constant stands at the front of a text, and is these bytes
abbrev pub IsConstant : List ℕ → List ℕ → Type 0
IsConstant t behind = (character_length (t ++ behind) ≡ length t) × (0 < length t)

-- a part stays, or is a character constant whose number is written, with its line feeds behind it; its lines stay
pub record IsNumbered (p : Part) (behind : List ℕ) : Type 0 where
  pub is : (p.new ≡ p.old) ⊎ (IsConstant p.old behind × (p.new ≡ number p.old ++ filter is_line_feed p.old))
  pub lines : count_by is_line_feed p.new ≡ count_by is_line_feed p.old

abbrev pub AreNumbered : List Part → Type 0
AreNumbered [] = Unit {0}
AreNumbered (p ∷ ps) = IsNumbered p (olds ps) × AreNumbered ps

-- what is written of a text is the text, but for the numbers of character constants
pub record HasNumbers (text out : List ℕ) : Type 0 where
  pub parts : List Part
  pub old : olds parts ≡ text
  pub new : news parts ≡ out
  pub each : AreNumbered parts
