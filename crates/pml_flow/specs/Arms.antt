-- Lists one behind another, by where each ends.
use Rattle.std.specs.Prelude.{ℕ, zero, suc, ◌+◌, List, [], ◌∷◌, ◌++◌, length, slice_index_or, slice_range}

-- one behind another
abbrev pub all_of : {X : Type 0} → List (List X) → List X
all_of [] = []
all_of (xs ∷ rest) = xs ++ all_of rest

-- where each ends, behind k
abbrev pub bounds_from : {X : Type 0} → ℕ → List (List X) → List ℕ
bounds_from k [] = []
bounds_from k (xs ∷ rest) = (k + length xs) ∷ bounds_from (k + length xs) rest

-- where number n begins
abbrev pub begin_of : List ℕ → ℕ → ℕ
begin_of bs zero = 0
begin_of bs (suc n) = slice_index_or bs n 0

-- number n of them
abbrev pub arm : {X : Type 0} → List X → List ℕ → ℕ → List X
arm xs bs n = slice_range xs (begin_of bs n) (slice_index_or bs n 0)
