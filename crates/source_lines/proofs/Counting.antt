-- Places for which a test holds, one further.
use Rattle.std.proofs.Common.{◌≡◌, ◌∙◌, ap, ℕ, suc, ◌+◌, ◌-◌, ◌<◌, Bool, true, false, Some, arith}
use Rattle.std.specs.Prelude.{if◌then◌else◌}
use Rattle.std.specs.List.{range_with_len}
use Rattle.source_lines.specs.Beside.{counted_below, next_such, such_behind}

pub counted_more : (p : ℕ → Bool) (n : ℕ) → counted_below p (n + 1) ≡ counted_below p n + (if p n then 1 else 0)
counted_more p n = let s : n + 1 ≡ suc n = omega arith in ap (counted_below p) s

-- the numbers from one on
range_from : (p : ℕ → Bool) (i len n : ℕ) → i < len → such_behind p (range_with_len i (len - i)) n ≡ next_such (p i) i n (such_behind p (range_with_len (i + 1) (len - (i + 1))))
range_from p i len n below =
    let s : len - i ≡ suc (len - (i + 1)) = omega (arith, below) in
    ap (λ (k : ℕ). such_behind p (range_with_len i k) n) s

pub such_not : (p : ℕ → Bool) (i len n : ℕ) → i < len → p i ≡ false
    → such_behind p (range_with_len i (len - i)) n ≡ such_behind p (range_with_len (i + 1) (len - (i + 1))) n
such_not p i len n below is =
    range_from p i len n below ∙ ap (λ (b : Bool). next_such b i n (such_behind p (range_with_len (i + 1) (len - (i + 1))))) is

pub such_past : (p : ℕ → Bool) (i len n m : ℕ) → i < len → p i ≡ true → n ≡ m + 1
    → such_behind p (range_with_len i (len - i)) n ≡ such_behind p (range_with_len (i + 1) (len - (i + 1))) m
such_past p i len n m below is one =
    let s : n ≡ suc m = omega (arith, one) in
    ap (such_behind p (range_with_len i (len - i))) s ∙ range_from p i len (suc m) below
    ∙ ap (λ (b : Bool). next_such b i (suc m) (such_behind p (range_with_len (i + 1) (len - (i + 1))))) is

pub such_here : (p : ℕ → Bool) (i len n : ℕ) → i < len → p i ≡ true → n ≡ 0 → such_behind p (range_with_len i (len - i)) n ≡ Some i
such_here p i len n below is none =
    ap (such_behind p (range_with_len i (len - i))) none ∙ range_from p i len 0 below
    ∙ ap (λ (b : Bool). next_such b i 0 (such_behind p (range_with_len (i + 1) (len - (i + 1))))) is
