-- Texts, one behind another.
use Rattle.std.proofs.Common.{◌≡◌, ◌∙◌, ap, sym, refl, ℕ, suc, ◌+◌, ◌<◌, Bool, true, false, List, [], ◌∷◌, ◌++◌, take, map, length, get_or, arith, append-nil, append_assoc}
use Rattle.std.proofs.lemmas.Bool.{true≢false}
use Rattle.std.proofs.lemmas.Grind.{flat_map-append}
use Rattle.std.proofs.Math.Seq.{take-suc}
use Rattle.std.specs.List.{flat_map, range_with_len}
use Rattle.std.proofs.lemmas.List.FromFn.{map-range_with_len_more}
use Rattle.view_text.specs.Written.{Written, Stays, Adds}

not_before : (b c : Written) → Stays b c → c.refused ≡ false → b.refused ≡ false
not_before b c stays calm = by b.refused refl
  where
    by : (r : Bool) → b.refused ≡ r → b.refused ≡ false
    by true is = absurd (true≢false (sym (stays is) ∙ calm))
    by false is = is

-- what is written and then more
pub chain : (a b c : Written) (xs ys zs : List ℕ) → Adds a b xs → Adds b c ys → xs ++ ys ≡ zs → Adds a c zs
chain a b c xs ys zs one two is = record {
  stays = λ r. two.stays (one.stays r);
  added = λ calm. two.added calm ∙ ap (λ (l : List ℕ). l ++ ys) (one.added (not_before b c two.stays calm)) ∙ append_assoc a.text xs ys ∙ ap (λ (l : List ℕ). a.text ++ l) is;
}

-- the same as it comes
pub chained : (a b c : Written) (xs ys : List ℕ) → Adds a b xs → Adds b c ys → Adds a c (xs ++ ys)
chained a b c xs ys one two = chain a b c xs ys (xs ++ ys) one two refl

-- nothing is written yet
pub none : (a : Written) → Adds a a []
none a = record { stays = λ r. r; added = λ calm. sym (append-nil a.text) }

-- ---- lists, one element more

-- the numbers up to the next one
pub numbers_more : (i : ℕ) → range_with_len 0 (i + 1) ≡ range_with_len 0 i ++ i ∷ []
numbers_more i = sym (same (range_with_len 0 (i + 1))) ∙ map-range_with_len_more (λ (n : ℕ). n) 0 i i (omega arith) ∙ ap (λ (l : List ℕ). l ++ i ∷ []) (same (range_with_len 0 i))
  where
    same : (xs : List ℕ) → map (λ (n : ℕ). n) xs ≡ xs
    same [] = refl
    same (x ∷ xs) = ap (λ (l : List ℕ). x ∷ l) (same xs)

-- what is made of these numbers, and of the next one
pub each_more : {A : Type 0} (f : ℕ → List A) (i : ℕ) → flat_map f (range_with_len 0 i) ++ f i ≡ flat_map f (range_with_len 0 (i + 1))
each_more {A} f i =
    ap (λ (l : List A). flat_map f (range_with_len 0 i) ++ l) (sym (append-nil (f i)))
    ∙ sym (flat_map-append f (range_with_len 0 i) (i ∷ []))
    ∙ ap (flat_map f) (sym (numbers_more i))

-- what is made of the first of a list, and of the next one
pub item_more : {A B : Type 0} (f : A → List B) (xs : List A) (i : ℕ) (x : A) → i < length xs → flat_map f (take i xs) ++ f (get_or xs i x) ≡ flat_map f (take (i + 1) xs)
item_more {A} {B} f xs i x below =
    let more : i + 1 ≡ suc i = omega arith in
    ap (λ (l : List B). flat_map f (take i xs) ++ l) (sym (append-nil (f (get_or xs i x))))
    ∙ sym (flat_map-append f (take i xs) (get_or xs i x ∷ []))
    ∙ ap (flat_map f) (sym (ap (λ (k : ℕ). take k xs) more ∙ take-suc xs i x below))
