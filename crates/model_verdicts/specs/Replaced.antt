-- A text in which another name stands at some places.
use Rattle.std.specs.Prelude.{ℕ, ◌+◌, ◌-◌, List, [], ◌∷◌, ◌++◌, length, take, drop, min}

-- what stands from one place to another
abbrev pub part : List ℕ → ℕ → ℕ → List ℕ
part text start end = take (end - start) (drop start text)

-- The name stands in place of so many bytes at each place; the text is read from `behind` on. A place beyond 2^64 - 1 is none.
abbrev pub replaced : List ℕ → ℕ → List ℕ → ℕ → List ℕ → List ℕ
replaced text n name behind [] = part text behind (length text)
replaced text n name behind (p ∷ ps) = part text behind p ++ (name ++ replaced text n name (min (p + n) 18446744073709551615) ps)
