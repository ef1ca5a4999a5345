-- How often a name is found that may be divided.
use Rattle.std.specs.Prelude.{ℕ, ◌+◌, Bool, min, if◌then◌else◌}

-- in one place more: twice is enough, and so is once in an inline, which may be called twice
abbrev pub one_more : ℕ → Bool → ℕ
one_more n is_inline = min (n + (if is_inline then 2 else 1)) 2
