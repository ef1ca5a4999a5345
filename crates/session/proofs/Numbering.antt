-- `step N: ` of ten numbers that differ in their last digit alone.
use Rattle.std.proofs.Common.{◌≡◌, ℕ, ◌+◌, ◌-◌, ◌%◌, ◌/◌, ◌^◌, ◌<◌, ◌≤◌, List, [], ◌∷◌, ◌++◌, length, take, drop, Bool, true, false, Result, Ok, Err, OnOk, refl, sym, ap, subst, ◌∙◌, append_assoc, arith, nat_lt, codes}
use Rattle.std.specs.Fmt.{decimal}
use Rattle.std.proofs.Math.ListN.{set}
use Rattle.std.proofs.Math.Seq.{take-append-add}
use Rattle.std.proofs.lemmas.Bool.{ltb-true, ltb-false}
use Rattle.std.proofs.lemmas.List.{length-append, length-take, length-drop, take-append-drop, take_at, drop_at, drop-drop, drop-take, drop-append-le, take-take, take-set, drop-set, drop-set-lt}
use Rattle.std.proofs.lemmas.Fmt.{decimal_digit, decimal_step_wide, length-decimal-le}
use Rattle.session.specs.Numbers.{AreNumbers}

-- the digits before the last one, which ten numbers have in common
record LastDigit (n : ℕ) : Type 0 where
  pub front : List ℕ
  pub is : (d : ℕ) → d < 10 → decimal ((n - n % 10) + d) ≡ front ++ (48 + d) ∷ []

last_digit : (n : ℕ) → n < 2 ^ 64 → LastDigit n
last_digit n small = by_case (nat_lt n 10) refl
  where
    by_case : (b : Bool) → nat_lt n 10 ≡ b → LastDigit n
    by_case true e =
        let lt = ltb-true n 10 e in
        record { front = []; is = λ d less. let same : (n - n % 10) + d ≡ d = omega arith in ap decimal same ∙ decimal_digit d less }
    by_case false e =
        let ge = ltb-false n 10 e in
        record {
          front = decimal (n / 10);
          is = λ d less.
              let m = (n - n % 10) + d in
              let tens : m / 10 ≡ n / 10 = omega arith in
              let ones : m % 10 ≡ d = omega arith in
              decimal_step_wide m (omega arith) (omega arith) ∙ (λ i. decimal (tens i) ++ ((48 + ones i) ∷ []));
        }

-- the words of a number are those of the ten
pub around : (n begin : ℕ) (words tail : List ℕ) → n < 2 ^ 64 → (begin + 5) + length (decimal n) ≡ 32 → drop begin words ≡ codes "step " ++ (decimal n ++ tail) → take 2 tail ≡ codes ": "
    → AreNumbers (n - n % 10) begin words
around n begin words tail small at is behind =
    let p = last_digit n small in
    let same : (n - n % 10) + n % 10 ≡ n = omega arith in
    let whole : decimal n ≡ p.front ++ (48 + n % 10) ∷ [] = sym (ap decimal same) ∙ p.is (n % 10) (omega arith) in
    let long : length (decimal n) ≡ length p.front + 1 = ap length whole ∙ length-append p.front ((48 + n % 10) ∷ []) in
    let few : length (decimal n) ≤ 20 = length-decimal-le 20 n (omega arith) (omega arith) (omega arith) in
    let m = 5 + length p.front in
    let there : begin + m ≡ 31 = omega arith in
    let parts : drop begin words ≡ (codes "step " ++ p.front) ++ (48 + n % 10) ∷ tail = is
    ∙ (ap (λ ds. codes "step " ++ (ds ++ tail)) whole
    ∙ (ap (λ xs. codes "step " ++ xs) (append_assoc p.front ((48 + n % 10) ∷ []) tail) ∙ sym (append_assoc (codes "step ") p.front ((48 + n % 10) ∷ tail)))) in
    let front : drop begin (take 31 words) ≡ codes "step " ++ p.front =
    ap (λ (k : ℕ). drop begin (take k words)) (sym there)
    ∙ (drop-take begin m words ∙ (ap (take m) parts ∙ take_at (codes "step " ++ p.front) ((48 + n % 10) ∷ tail) m (length-append (codes "step ") p.front))) in
    let k = 5 + length (decimal n) in
    let end : begin + k ≡ 32 = omega arith in
    let rest : drop 32 words ≡ tail =
    ap (λ (j : ℕ). drop j words) (sym end)
    ∙ (sym (drop-drop k begin words)
    ∙ (ap (drop k) (is ∙ sym (append_assoc (codes "step ") (decimal n) tail)) ∙ drop_at (codes "step " ++ decimal n) tail k (length-append (codes "step ") (decimal n)))) in
    record {
      least_begin = omega arith;
      most_begin = omega arith;
      front = λ d less. ap (λ xs. xs ++ (48 + d) ∷ []) front ∙ (append_assoc (codes "step ") p.front ((48 + d) ∷ []) ∙ ap (λ xs. codes "step " ++ xs) (sym (p.is d less)));
      back = ap (take 2) rest ∙ behind;
    }

module _ (least begin : ℕ) (words : List ℕ) (room : length words ≡ 64) (are : AreNumbers least begin words) where
  -- another last digit leaves them as they are
  pub digit_set : (x : ℕ) → AreNumbers least begin (set words 31 x)
  digit_set x = record {
    least_begin = are.least_begin;
    most_begin = are.most_begin;
    front = λ d less. ap (λ ws. drop begin ws ++ (48 + d) ∷ []) (take-set words 31 x) ∙ are.front d less;
    back = ap (take 2) (drop-set-lt 32 words 31 x (omega arith)) ∙ are.back;
  }

  -- with the last digit of one of them they are its words
  pub words_of : (d : ℕ) → d < 10 → take (34 - begin) (drop begin (set words 31 (48 + d))) ≡ codes "step " ++ (decimal (least + d) ++ codes ": ")
  words_of d less =
      let x = 48 + d in
      let ws = set words 31 x in
      let whole = codes "step " ++ decimal (least + d) in
      let low = are.least_begin in
      let high = are.most_begin in
      let long : length (take 31 words) ≡ 31 = omega (arith, length-take 31 words) in
      let split : ws ≡ take 31 words ++ (x ∷ drop 32 words) = sym (take-append-drop 31 ws) ∙ (λ i. take-set words 31 x i ++ drop-set words 31 x (omega arith) i) in
      let parts : drop begin ws ≡ whole ++ drop 32 words =
      ap (drop begin) split
      ∙ (drop-append-le begin (take 31 words) (x ∷ drop 32 words) (omega arith)
      ∙ (sym (append_assoc (drop begin (take 31 words)) (x ∷ []) (drop 32 words)) ∙ ap (λ xs. xs ++ drop 32 words) (are.front d less))) in
      let size : length whole ≡ (31 - begin) + 1 = sym (ap length (are.front d less)) ∙ (length-append (drop begin (take 31 words)) (x ∷ []) ∙ ap (λ k. k + 1) (length-drop begin (take 31 words) ∙ ap (λ k. k - begin) long)) in
      let much : 34 - begin ≡ length whole + 2 = omega arith in
      ap (λ (k : ℕ). take k (drop begin ws)) much
      ∙ (ap (take (length whole + 2)) parts
      ∙ (take-append-add whole (drop 32 words) 2 ∙ (ap (λ xs. whole ++ xs) are.back ∙ append_assoc (codes "step ") (decimal (least + d)) (codes ": "))))

  -- they are cut behind the words
  pub text_added : (n : ℕ) → least ≤ n → n < least + 10 → (text all cut : List ℕ) (end : ℕ) → all ≡ text ++ take ((begin + 32) - begin) (drop begin (set words 31 (48 + (n - least)))) → cut ≡ take end all
      → end ≡ length text + (34 - begin) → cut ≡ text ++ (codes "step " ++ (decimal n ++ codes ": "))
  text_added n low high text all cut end all_is cut_is end_is =
      let d = n - least in
      let same : least + d ≡ n = omega arith in
      let k = 34 - begin in
      let j = (begin + 32) - begin in
      let least_begin = are.least_begin in
      let ws = drop begin (set words 31 (48 + d)) in
      cut_is ∙ (ap (take end) all_is ∙ (ap (λ (m : ℕ). take m (text ++ take j ws)) end_is
      ∙ (take-append-add text (take j ws) k
      ∙ (ap (λ xs. text ++ xs) (take-take k j ws (omega arith) ∙ words_of d (omega arith)) ∙ ap (λ (m : ℕ). text ++ (codes "step " ++ (decimal m ++ codes ": "))) same))))
