-- The lines that stand for the macros of a command line.
use Rattle.std.specs.Prelude.{ℕ, ◌==◌, Bool, true, false, ◌&&◌, ◌||◌, nat_le, if◌then◌else◌, List, [], ◌∷◌}
use Rattle.std.specs.Char.{is_ascii_alphanumeric}

-- a byte of a macro's name
abbrev pub is_name_byte : ℕ → Bool
is_name_byte b = is_ascii_alphanumeric b || b == 95

-- a name goes on, to its end or to a `=` or `(`
abbrev pub goes_on : List ℕ → Bool
goes_on [] = true
goes_on (b ∷ t) = if b == 61 || b == 40 then true else (if is_name_byte b then goes_on t else false)

-- a byte that begins no name
abbrev pub begins_none : ℕ → Bool
begins_none b = (nat_le 48 b && nat_le b 57) || (b == 61 || b == 40)

-- a macro's name stands before the first `=` or `(`
abbrev pub has_name : List ℕ → Bool
has_name [] = false
has_name (b ∷ t) = if begins_none b then false else goes_on (b ∷ t)
