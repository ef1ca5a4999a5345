-- Lines of a text, one byte further.
use Rattle.std.proofs.Common.{◌≡◌, ◌∙◌, ap, sym, refl, ℕ, ◌+◌, ◌<◌, Bool, true, false, List, [], ◌∷◌, ◌++◌, length, take, drop, get_or, append_assoc}
use Rattle.std.specs.Prelude.{if◌then◌else◌}
use Rattle.std.proofs.lemmas.List.{take_more, at_drop_more, length_push}
use Rattle.source_lines.specs.Places.{is_line_feed, trimmed, kept_before, front_more, front_from, front_of, up_to_feed}

kept_full : (p : ℕ → Bool) (b : ℕ) (xs : List ℕ) (c : ℕ) → kept_before p b (xs ++ c ∷ []) ≡ b ∷ (xs ++ c ∷ [])
kept_full p b [] c = refl
kept_full p b (x ∷ xs) c = refl

-- a byte that is trimmed behind others, and one that is not
pub trimmed_off : (p : ℕ → Bool) (xs : List ℕ) (b : ℕ) → p b ≡ true → trimmed p (xs ++ b ∷ []) ≡ trimmed p xs
trimmed_off p [] b is = ap (λ (t : Bool). if t then [] else b ∷ []) is
trimmed_off p (x ∷ xs) b is = ap (kept_before p x) (trimmed_off p xs b is)

pub trimmed_on : (p : ℕ → Bool) (xs : List ℕ) (b : ℕ) → p b ≡ false → trimmed p (xs ++ b ∷ []) ≡ xs ++ b ∷ []
trimmed_on p [] b is = ap (λ (t : Bool). if t then [] else b ∷ []) is
trimmed_on p (x ∷ xs) b is = ap (kept_before p x) (trimmed_on p xs b is) ∙ kept_full p x xs b

-- the same of the first bytes of a text
pub off_more : (p : ℕ → Bool) (xs : List ℕ) (i : ℕ) → i < length xs → p (get_or xs i 0) ≡ true → trimmed p (take (i + 1) xs) ≡ trimmed p (take i xs)
off_more p xs i below is = ap (trimmed p) (take_more xs i 0 below) ∙ trimmed_off p (take i xs) (get_or xs i 0) is

pub on_more : (p : ℕ → Bool) (xs : List ℕ) (i : ℕ) → i < length xs → p (get_or xs i 0) ≡ false → trimmed p (take (i + 1) xs) ≡ take (i + 1) xs
on_more p xs i below is = ap (trimmed p) (take_more xs i 0 below) ∙ trimmed_on p (take i xs) (get_or xs i 0) is ∙ sym (take_more xs i 0 below)

-- ---- what stands in front of a place

front_snoc : (f xs : List ℕ) (b : ℕ) → front_from f (xs ++ b ∷ []) ≡ front_more (front_from f xs) b
front_snoc f [] b = refl
front_snoc f (x ∷ xs) b = front_snoc (front_more f x) xs b

front_next : (xs : List ℕ) (i : ℕ) → i < length xs → front_of (take (i + 1) xs) ≡ front_more (front_of (take i xs)) (get_or xs i 0)
front_next xs i below = ap front_of (take_more xs i 0 below) ∙ front_snoc [] (take i xs) (get_or xs i 0)

-- behind a line feed nothing stands there, and behind another byte one more does
pub front_fresh : (xs : List ℕ) (i : ℕ) → i < length xs → is_line_feed (get_or xs i 0) ≡ true → length (front_of (take (i + 1) xs)) ≡ 0
front_fresh xs i below is = ap length (front_next xs i below ∙ ap (λ (t : Bool). if t then [] else front_of (take i xs) ++ get_or xs i 0 ∷ []) is)

pub front_same : (xs : List ℕ) (i : ℕ) → i < length xs → is_line_feed (get_or xs i 0) ≡ false → length (front_of (take (i + 1) xs)) ≡ length (front_of (take i xs)) + 1
front_same xs i below is =
    ap length (front_next xs i below ∙ ap (λ (t : Bool). if t then [] else front_of (take i xs) ++ get_or xs i 0 ∷ []) is)
    ∙ length_push (front_of (take i xs)) (get_or xs i 0)

-- ---- what stands before the first line feed

pub feed_past : (xs : List ℕ) (i : ℕ) → i < length xs → is_line_feed (get_or xs i 0) ≡ false → up_to_feed xs ≡ take i xs ++ up_to_feed (drop i xs)
    → up_to_feed xs ≡ take (i + 1) xs ++ up_to_feed (drop (i + 1) xs)
feed_past xs i below is first =
    first ∙ ap (λ (l : List ℕ). take i xs ++ l) (at_drop_more up_to_feed xs i 0 below ∙ ap (λ (t : Bool). if t then [] else get_or xs i 0 ∷ up_to_feed (drop (i + 1) xs)) is)
    ∙ sym (append_assoc (take i xs) (get_or xs i 0 ∷ []) (up_to_feed (drop (i + 1) xs)))
    ∙ ap (λ (l : List ℕ). l ++ up_to_feed (drop (i + 1) xs)) (sym (take_more xs i 0 below))
