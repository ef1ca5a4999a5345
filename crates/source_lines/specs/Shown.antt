-- How a line is shown, with carets below a place of it.
-- Hold it against docs/FORMATS.md, 'Standard error'.
use Rattle.std.specs.Prelude.{ℕ, ◌-◌, Bool, if◌then◌else◌, nat_eq, nat_lt, List, [], ◌∷◌, ◌++◌, length, take, drop, replicate, chars, codes}
use Rattle.std.specs.List.{flat_map}
use Rattle.std.specs.Fmt.{decimal}
use Rattle.std.specs.Str.{is_utf8}
use Rattle.source_lines.specs.declared.window.Window.{Window}
use Rattle.source_lines.specs.Signs.{tab, printed, shown_character, shown_width}
use Rattle.source_lines.specs.Windows.{window_round}

-- b' ' and b'^'
abbrev pub blank : ℕ
blank = 32

abbrev pub caret : ℕ
caret = 94

-- the bytes from one place to another
abbrev pub part : List ℕ → ℕ → ℕ → List ℕ
part line low high = take (high - low) (drop low line)

-- ---- what stands in the text

-- a byte that is of no character: `?` in place of what no terminal prints
abbrev pub shown_byte : ℕ → List ℕ
shown_byte b = (if nat_lt b 127 then printed b else 63) ∷ []

-- bytes as they are shown: by their characters, or by themselves where they are no UTF-8
abbrev pub shown : List ℕ → List ℕ
shown bs = if is_utf8 bs then flat_map shown_character (chars bs) else flat_map shown_byte bs

-- ---- what stands below it

-- blanks below a character; a tab stays one
abbrev pub below_character : ℕ → List ℕ
below_character c = if nat_eq c tab then tab ∷ [] else replicate (shown_width c) blank

abbrev pub below_byte : ℕ → List ℕ
below_byte b = (if nat_eq b tab then tab else blank) ∷ []

-- blanks below bytes
abbrev pub below : List ℕ → List ℕ
below bs = if is_utf8 bs then flat_map below_character (chars bs) else flat_map below_byte bs

-- carets below a character
abbrev pub carets_below : ℕ → List ℕ
carets_below c = replicate (shown_width c) caret

-- carets below bytes, and one at least
abbrev pub carets : List ℕ → List ℕ
carets [] = caret ∷ []
carets (b ∷ bs) = if is_utf8 (b ∷ bs) then flat_map carets_below (chars (b ∷ bs)) else replicate (length (b ∷ bs)) caret

-- ---- lines

-- these words where something is left out
abbrev pub where_cut : Bool → List ℕ → List ℕ
where_cut is_cut words = if is_cut then words else []

-- the number of a line behind blanks, five characters at least
abbrev pub margin : ℕ → List ℕ
margin n = replicate (5 - length (decimal n)) blank ++ decimal n ++ codes " | "

-- as many blanks
abbrev pub empty_margin : ℕ → List ℕ
empty_margin n = replicate (5 - length (decimal n)) blank ++ replicate (length (decimal n)) blank ++ codes " | "

-- what is shown of a line
abbrev pub upper : List ℕ → Window → List ℕ
upper line w = where_cut (nat_lt 0 w.from) (codes "..") ++ shown (part line w.from w.to) ++ where_cut (nat_lt w.to (length line)) (codes "..") ++ codes "\n"

-- the carets below it
abbrev pub lower : List ℕ → Window → List ℕ
lower line w = where_cut (nat_lt 0 w.from) (codes "  ") ++ below (part line w.from w.onset) ++ carets (part line w.onset w.onset_end) ++ codes "\n"

-- a line with its number, and the carets below it
abbrev pub marked : ℕ → List ℕ → Window → List ℕ
marked n line w = margin n ++ upper line w ++ empty_margin n ++ lower line w

-- a line with its number, and carets below so many of its bytes behind so many others
abbrev pub line_with_carets : ℕ → List ℕ → ℕ → ℕ → List ℕ
line_with_carets n line onset bytes = marked n line (window_round line onset bytes)

-- a line with its number alone
abbrev pub line_alone : ℕ → List ℕ → List ℕ
line_alone n line = margin n ++ upper line (window_round line 0 0)
