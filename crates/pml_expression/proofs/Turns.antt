-- A recursion on a count of turns, beside a loop that counts up.
use Rattle.std.proofs.Common.{◌≡◌, ℕ, suc, ◌+◌, ◌-◌, ◌<◌, ap, ◌∙◌, arith}

pub one_more : {X : Type 0} {x : X} (f : ℕ → X) (n turn : ℕ) → turn < n → x ≡ f (n - turn) → x ≡ f (suc (n - (turn + 1)))
one_more f n turn below h = let e : n - turn ≡ suc (n - (turn + 1)) = omega arith in h ∙ ap f e

pub deeper : {X : Type 0} (f : ℕ → X) (n : ℕ) → 0 < n → f n ≡ f (suc (n - 1))
deeper f n some = let e : n ≡ suc (n - 1) = omega arith in ap f e
