use Rattle.std.proofs.Common.{◌≡◌, ℕ, ◌+◌, ◌*◌, ◌-◌, ◌<◌, ◌≤◌, suc, List, [], ◌∷◌, length, drop, get_or, None, arith, ap, nat_lt, cond, Some}
use Rattle.std.proofs.Math.Seq.{drop-cons}
use Rattle.std.proofs.lemmas.Bool.Decides.{nat_tests}
use Rattle.promela_model.specs.Names.{numeral, spelled}
use Rattle.check_uses.proofs.arithmetic.read.Goals as goal

spelled-le : (n : ℕ) (cs : List ℕ) → n ≤ spelled n cs
spelled-le n [] = omega arith
spelled-le n (c ∷ cs) = omega (arith, spelled-le (n * 10 + (c - 48)) cs)

not_small : (n : ℕ) → 4294967296 ≤ n → None ≡ cond (nat_lt n 4294967296) (Some n) None
not_small n h = grind (arith, nat_tests)

too_large : (n : ℕ) (cs : List ℕ) (i : ℕ) → i < length cs → spelled n (drop i cs) ≡ spelled 0 cs → 4294967296 ≤ n * 10 + (get_or cs i 0 - 48) → None ≡ numeral cs
too_large n cs i lt same large =
    let e : spelled n (drop i cs) ≡ spelled (n * 10 + (get_or cs i 0 - 48)) (drop (suc i) cs) = ap (spelled n) (drop-cons cs i 0 lt) in
    not_small (spelled 0 cs) (omega (arith, spelled-le (n * 10 + (get_or cs i 0 - 48)) (drop (suc i) cs)))

pub returns-then-next-gt4294967295 : goal.returns-then-next-gt4294967295
returns-then-next-gt4294967295 c =
    too_large c.loop-digit.so_far c.args.digits.now c.loop-digit.digit-index c.loop-digit-test.true c.loop-digit.invariant.same (omega arith)
