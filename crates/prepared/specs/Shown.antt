-- How bytes and names are shown.
use Rattle.std.specs.Prelude.{ℕ, ◌&&◌, nat_le, nat_lt, if◌then◌else◌, List, chars}
use Rattle.std.specs.List.{flat_map}
use Rattle.source_lines.specs.Signs.{shown_character}

-- what a terminal shows, or `?`
abbrev pub printable : ℕ → ℕ
printable b = if nat_le 32 b && nat_lt b 127 then b else 63

-- a name, with signs that are not seen by their numbers
abbrev pub shown_name : List ℕ → List ℕ
shown_name t = flat_map shown_character (chars t)
