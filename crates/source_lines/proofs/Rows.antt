-- Lines of small texts, and how they are shown.
use Rattle.std.proofs.Common.{◌≡◌, refl, ℕ, ◌+◌, List, [], ◌∷◌, codes, Some, None}
use Rattle.std.specs.Str.{chars, is_utf8}
use Rattle.std.specs.Char.{encode_utf8}
use Rattle.std.specs.Fmt.{digits}
use Rattle.source_lines.specs.Places.{shown_offset, number_at, start_at, line_at, column_at}
use Rattle.source_lines.specs.Shown.{shown, carets, line_with_carets, line_alone}
use Rattle.source_lines.specs.Beside.{numbered_line, seen_in}

abbrev text : List ℕ
text = codes "byte x;\ninit { y = 1 }\n"

-- `y` stands behind fifteen bytes
line_of_y : line_at text 15 ≡ codes "init { y = 1 }"
line_of_y = refl

number_of_y : number_at text 15 ≡ 2
number_of_y = refl

start_of_y : start_at text 15 ≡ 8
start_of_y = refl

column_of_y : column_at text 15 ≡ 8
unfolding is_utf8 chars encode_utf8
column_of_y = refl

-- the line feed is of the line that it ends, and what is behind it of the next
line_of_feed : line_at text 7 ≡ codes "byte x;"
line_of_feed = refl

number_of_feed : number_at text 7 ≡ 1
number_of_feed = refl

number_behind_feed : number_at text 8 ≡ 2
number_behind_feed = refl

-- the end of the text is shown behind its last line that is not empty
end_is_shown : shown_offset text 23 ≡ 22
end_is_shown = refl

-- carriage returns are of no line
line_with_return : line_at (codes "a\r\nbc\r\r\n") 3 ≡ codes "bc"
line_with_return = refl

-- two bytes of one character are one column
column_of_wide : column_at (195 ∷ 169 ∷ codes " = 1") 3 ≡ 3
unfolding is_utf8 chars encode_utf8
column_of_wide = refl

shown_y : line_with_carets 2 (codes "init { y = 1 }") 7 1 ≡ codes "    2 | init { y = 1 }\n      |        ^\n"
unfolding is_utf8 chars encode_utf8 digits
shown_y = refl

-- a tab stays one, and what has no bytes has one caret
shown_tab : line_with_carets 12 (codes "\tx") 1 0 ≡ codes "   12 | \tx\n      | \t^\n"
unfolding is_utf8 chars encode_utf8 digits
shown_tab = refl

alone : line_alone 3 (codes "skip") ≡ codes "    3 | skip\n"
unfolding is_utf8 chars encode_utf8 digits
alone = refl

-- what no terminal prints, and a sign that turns the direction
control_is_a_question : shown (7 ∷ 97 ∷ []) ≡ codes "?a"
unfolding is_utf8 chars encode_utf8
control_is_a_question = refl

sign_by_its_number : shown (encode_utf8 0x202e) ≡ codes "\\u{202e}"
unfolding is_utf8 chars encode_utf8
sign_by_its_number = refl

eight_carets : carets (encode_utf8 0x202e) ≡ codes "^^^^^^^^"
unfolding is_utf8 chars encode_utf8
eight_carets = refl

-- the author's line has the token elsewhere, or not at all
second_line : numbered_line text 2 ≡ Some (codes "init { y = 1 }")
second_line = refl

no_third_line : numbered_line (codes "a\nb") 3 ≡ None
no_third_line = refl

moved : seen_in (codes "N = y + 1") 1 (codes "10 = y + 1") 5 1 ≡ record { bytes = codes "N = y + 1"; onset = Some 4; bytes_marked = 1 }
moved = refl

lost : seen_in (codes "N = 1") 1 (codes "10 = y") 5 1 ≡ record { bytes = codes "N = 1"; onset = None; bytes_marked = 1 }
lost = refl
