-- A number of one digit, at its place.
use Rattle.std.proofs.Common.{◌≡◌, ℕ, ◌+◌, ◌<◌, ◌≤◌, List, ◌++◌, length, drop, cond, Result, Ok, Err, OnOk, sym, ap, ◌∙◌, arith}
use Rattle.std.specs.Result.{is_ok}
use Rattle.std.proofs.Math.ListN.{set}
use Rattle.std.proofs.lemmas.List.{drop-set}
use Rattle.std.proofs.lemmas.Fmt.{decimal_digit}
use Rattle.std.specs.Fmt.{decimal}

-- a digit and what is behind its place
pub one_digit : (n : ℕ) (ps : List ℕ) → n < 10 → 32 ≤ length ps → drop 31 (set ps 31 (48 + n)) ≡ decimal n ++ drop 32 ps
one_digit n ps small room = drop-set ps 31 (48 + n) (omega (arith, room)) ∙ ap (λ ds. ds ++ drop 32 ps) (sym (decimal_digit n small))

-- what was appended, where there was memory
pub appended : {T E : Type 0} (r : Result T E) (old more new : List ℕ) → new ≡ cond (is_ok r) more old → OnOk r (new ≡ more)
appended (Ok v) old more new is = is
appended (Err e) old more new is = tt
