-- Signs that no terminal prints, or that turn the direction of what stands behind them, in lines of JSON.
use Rattle.std.specs.Prelude.{ℕ, Bool, not, ◌&&◌, ◌||◌, if◌then◌else◌, nat_eq, List, ◌++◌, chars, codes, encode_utf8}
use Rattle.std.specs.Char.{is_control}
use Rattle.std.specs.List.{flat_map, list_all}
use Rattle.std.specs.Str.{is_utf8}
use Rattle.view_foreign.specs.Shown.{is_plain}
use Rattle.source_lines.specs.Signs.{is_unseen, digits_of}

-- such a sign: a line feed ends a line, and is none
abbrev pub is_hidden : ℕ → Bool
is_hidden c = is_unseen c || (not (nat_eq c 10) && is_control c)

-- a character of a line: such a sign by its number, `\u202e`
abbrev pub escaped_character : ℕ → List ℕ
escaped_character c = if is_hidden c then codes "\\u" ++ digits_of c else encode_utf8 c

-- lines with such signs by their numbers
abbrev pub escaped_text : List ℕ → List ℕ
escaped_text bs = if is_utf8 bs then flat_map escaped_character (chars bs) else bs

-- the same; bytes that are shown as they are have no such sign
abbrev pub escaped : List ℕ → List ℕ
escaped bs = if list_all is_plain bs then bs else escaped_text bs
