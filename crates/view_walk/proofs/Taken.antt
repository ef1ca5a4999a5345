-- The first of a list, taken once more.
use Rattle.std.proofs.Common.{◌≡◌, refl, ap, ℕ, zero, suc, ◌≤◌, List, [], ◌∷◌, length, take, arith}

pub take_again : {T : Type 0} (n : ℕ) (ts : List T) → take n (take n ts) ≡ take n ts
take_again zero ts = refl
take_again (suc n) [] = refl
take_again (suc n) (t ∷ ts) = ap (λ l. t ∷ l) (take_again n ts)

pub length_taken : {T : Type 0} (n : ℕ) (ts : List T) → n ≤ length ts → n ≤ length (take n ts)
length_taken zero ts h = omega arith
length_taken (suc n) [] h = absurd (omega arith)
length_taken (suc n) (t ∷ ts) h = let rest = length_taken n ts (omega arith) in omega arith
