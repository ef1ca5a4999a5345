-- What is shown of a line round a place.
-- Hold it against docs/FORMATS.md, 'Standard error'.
use Rattle.std.specs.Prelude.{ℕ, ◌+◌, ◌-◌, min, Bool, ◌&&◌, if◌then◌else◌, nat_le, nat_lt, List, length, slice_index_or}
use Rattle.source_lines.specs.declared.window.Window.{Window}

-- a byte goes on with a character of UTF-8
abbrev pub goes_on : List ℕ → ℕ → Bool
goes_on line at = nat_le 128 (slice_index_or line at 0) && nat_lt (slice_index_or line at 0) 192

-- the place itself, or the first one behind it, of three, at which a character begins
abbrev pub rounded : List ℕ → ℕ → ℕ
rounded line at =
    if goes_on line at then (if goes_on line (at + 1) then (if goes_on line (at + 2) then at + 3 else at + 2) else at + 1) else at

-- where it begins: 60 bytes before the place
abbrev pub window_start : List ℕ → ℕ → ℕ
window_start line onset = min (rounded line (onset - 60)) onset

-- where it ends: 80 bytes behind the beginning of the place
abbrev pub window_end : List ℕ → ℕ → ℕ
window_end line onset = rounded line (min (onset + 80) (length line))

-- where what is marked ends
abbrev pub marked_end : List ℕ → ℕ → ℕ → ℕ
marked_end line onset n = min (rounded line (min (onset + n) (length line))) (window_end line onset)

abbrev pub window_from : List ℕ → ℕ → ℕ → Window
window_from line onset n = record {
  «from» = window_start line onset;
  to = window_end line onset;
  onset = onset;
  onset_end = marked_end line onset n;
}

-- what is shown of a line round n bytes behind so many
abbrev pub window_round : List ℕ → ℕ → ℕ → Window
window_round line onset n = window_from line (min onset (length line)) n
