-- The line of a place is the line of its number.
use Rattle.std.proofs.Common.{◌≡◌, ◌∙◌, ap, sym, refl, ℕ, zero, suc, ◌+◌, ◌-◌, ◌≤◌, Bool, true, false, List, [], ◌∷◌, ◌++◌, length, take, drop, Option, Some, arith, append-nil, append_assoc}
use Rattle.std.specs.Prelude.{if◌then◌else◌, cond, count_by}
use Rattle.std.proofs.lemmas.List.{length_push}
use Rattle.std.proofs.lemmas.List.Sums.{sum_by-cons}
use Rattle.std.proofs.lemmas.Slice.Eq.{bytes_eq-Decides}
use Rattle.source_lines.specs.Places.{is_line_feed, front_more, front_from, start_at, number_at, line_at}
use Rattle.source_lines.specs.Beside.{behind_feeds, first_line, numbered_line, itself, seen_beside, seen_on, seen_in}

abbrev feeds : List ℕ → ℕ
feeds xs = count_by is_line_feed xs

feeds-cons : (b : ℕ) (bs : List ℕ) → feeds (b ∷ bs) ≡ cond (is_line_feed b) 1 0 + feeds bs
feeds-cons b bs = sum_by-cons (λ (x : ℕ). cond (is_line_feed x) 1 0) b bs

feeds_yes : (b : ℕ) (bs : List ℕ) → is_line_feed b ≡ true → feeds (b ∷ bs) ≡ suc (feeds bs)
feeds_yes b bs is = let e = feeds-cons b bs ∙ ap (λ (t : Bool). cond t 1 0 + feeds bs) is in omega (arith, e)

feeds_no : (b : ℕ) (bs : List ℕ) → is_line_feed b ≡ false → feeds (b ∷ bs) ≡ feeds bs
feeds_no b bs is = let e = feeds-cons b bs ∙ ap (λ (t : Bool). cond t 1 0 + feeds bs) is in omega (arith, e)

more_yes : (f : List ℕ) (b : ℕ) → is_line_feed b ≡ true → front_more f b ≡ []
more_yes f b is = ap (λ (t : Bool). if t then [] else f ++ b ∷ []) is

more_no : (f : List ℕ) (b : ℕ) → is_line_feed b ≡ false → front_more f b ≡ f ++ b ∷ []
more_no f b is = ap (λ (t : Bool). if t then [] else f ++ b ∷ []) is

-- without a line feed all of it stands in front, and with one what stands before it does not count
without_feed : (f ys : List ℕ) → feeds ys ≡ 0 → front_from f ys ≡ f ++ ys
without_feed f [] none = sym (append-nil f)
without_feed f (y ∷ ys) none = by (is_line_feed y) refl (λ g is. without_feed g ys is)
  where
    by : (t : Bool) → is_line_feed y ≡ t → ((g : List ℕ) → feeds ys ≡ 0 → front_from g ys ≡ g ++ ys) → front_from f (y ∷ ys) ≡ f ++ y ∷ ys
    by true is rest = let e = feeds_yes y ys is in absurd (omega (arith, e, none))
    by false is rest =
        ap (λ (g : List ℕ). front_from g ys) (more_no f y is) ∙ rest (f ++ y ∷ []) (sym (feeds_no y ys is) ∙ none) ∙ append_assoc f (y ∷ []) ys

with_feed : (f g ys : List ℕ) (k : ℕ) → feeds ys ≡ suc k → front_from f ys ≡ front_from g ys
with_feed f g [] k some = absurd (omega (arith, some))
with_feed f g (y ∷ ys) k some = by (is_line_feed y) refl (λ is. with_feed (front_more f y) (front_more g y) ys k is)
  where
    by : (t : Bool) → is_line_feed y ≡ t → (feeds ys ≡ suc k → front_from (front_more f y) ys ≡ front_from (front_more g y) ys)
        → front_from f (y ∷ ys) ≡ front_from g (y ∷ ys)
    by true is rest = ap (λ (h : List ℕ). front_from h ys) (more_yes f y is ∙ sym (more_yes g y is))
    by false is rest = rest (sym (feeds_no y ys is) ∙ some)

abbrev nothing : List ℕ
nothing = []

from_none : (ys : List ℕ) → length (front_from [] ys) ≤ length (nothing) + length ys → length (front_from [] ys) ≤ length ys
from_none ys h = omega (arith, h)

front_within : (f ys : List ℕ) → length (front_from f ys) ≤ length f + length ys
front_within f [] = omega arith
front_within f (y ∷ ys) = by (is_line_feed y) refl (from_none ys (front_within [] ys)) (front_within (f ++ y ∷ []) ys)
  where
    by : (t : Bool) → is_line_feed y ≡ t → length (front_from [] ys) ≤ length ys
        → length (front_from (f ++ y ∷ []) ys) ≤ length (f ++ y ∷ []) + length ys → length (front_from f (y ∷ ys)) ≤ length f + length (y ∷ ys)
    by true is short long = let e = ap (λ (g : List ℕ). length (front_from g ys)) (more_yes f y is) in grind (arith, short, e)
    by false is short long =
        let e = ap (λ (g : List ℕ). length (front_from g ys)) (more_no f y is) in
        let n = length_push f y in
        omega (arith, long, e, n)

abbrev IsOwn : List ℕ → ℕ → Type 0
IsOwn xs n = behind_feeds xs (feeds (take n xs)) ≡ Some (drop (start_at xs n) xs)

-- the text from the line of a place on stands behind as many line feeds as stand before the place
own : (xs : List ℕ) (n : ℕ) → behind_feeds xs (feeds (take n xs)) ≡ Some (drop (start_at xs n) xs)
own [] zero = refl
own [] (suc n) = refl
own (b ∷ bs) zero = refl
own (b ∷ bs) (suc n) = by (is_line_feed b) refl (own bs n)
  where
    at_feed : is_line_feed b ≡ true → start_at (b ∷ bs) (suc n) ≡ suc (start_at bs n)
    at_feed is =
        let e = ap (λ (g : List ℕ). length (front_from g (take n bs))) (more_yes [] b is) in
        let h = front_within [] (take n bs) in
        omega (arith, e, h)

    on : (k : ℕ) → is_line_feed b ≡ false → feeds (take n bs) ≡ k → IsOwn bs n → behind_feeds (b ∷ bs) k ≡ Some (drop (start_at (b ∷ bs) (suc n)) (b ∷ bs))
    on zero is none rest =
        let e = ap (λ (g : List ℕ). length (front_from g (take n bs))) (more_no [] b is) ∙ ap length (without_feed (b ∷ []) (take n bs) none) in
        let start : start_at (b ∷ bs) (suc n) ≡ 0 = omega (arith, e) in
        ap (λ (k : ℕ). Some (drop k (b ∷ bs))) (sym start)
    on (suc k) is some rest =
        let e = ap (λ (g : List ℕ). length (front_from g (take n bs))) (more_no [] b is) ∙ ap length (with_feed (b ∷ []) [] (take n bs) k some) in
        let h = front_within [] (take n bs) in
        let start : start_at (b ∷ bs) (suc n) ≡ suc (start_at bs n) = omega (arith, e, h) in
        ap (λ (t : Bool). behind_feeds bs (if t then k else suc k)) is ∙ ap (behind_feeds bs) (sym some) ∙ rest
        ∙ ap (λ (k : ℕ). Some (drop k (b ∷ bs))) (sym start)

    by : (t : Bool) → is_line_feed b ≡ t → IsOwn bs n → behind_feeds (b ∷ bs) (feeds (take (suc n) (b ∷ bs))) ≡ Some (drop (start_at (b ∷ bs) (suc n)) (b ∷ bs))
    by true is rest =
        ap (behind_feeds (b ∷ bs)) (feeds_yes b (take n bs) is) ∙ ap (λ (t : Bool). behind_feeds bs (if t then feeds (take n bs) else suc (feeds (take n bs)))) is ∙ rest
        ∙ ap (λ (k : ℕ). Some (drop k (b ∷ bs))) (sym (at_feed is))
    by false is rest = ap (behind_feeds (b ∷ bs)) (feeds_no b (take n bs) is) ∙ on (feeds (take n bs)) is refl rest

-- the text's own line of a place's number is the line of the place
pub own_line : (text : List ℕ) (at : ℕ) → numbered_line text (number_at text at) ≡ Some (line_at text at)
own_line text at =
    let n : number_at text at - 1 ≡ feeds (take at text) = omega arith in
    ap (λ (k : ℕ). first_line (behind_feeds text k)) n ∙ ap first_line (own text at)

-- what is seen of a place beside the text itself is the line of the place
pub own_sight : (text : List ℕ) (at onset n : ℕ) → seen_in text (number_at text at) (line_at text at) onset n ≡ itself (line_at text at) onset n
own_sight text at onset n =
    ap (λ (o : Option (List ℕ)). seen_beside o (line_at text at) onset n) (own_line text at)
    ∙ ap (λ (b : Bool). if b then itself (line_at text at) onset n else seen_on (line_at text at) (line_at text at) onset n) ((bytes_eq-Decides (line_at text at) (line_at text at)).1 refl)
