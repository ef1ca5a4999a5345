-- What follows of the definitions of heads.
use Rattle.std.proofs.Common.{◌≡◌, ◌<◌, ◌≤◌, length, get_or, ◌+◌, ◌*◌, ◌-◌, ℕ, List, [], ◌∷◌, Bool, true, false, Option, Some, None, leb, ap, refl, arith, leb-true, ◌∙◌, sym, ◌++◌, append_assoc, take, drop, subst, Result, Ok, Err}
use Rattle.std.proofs.Math.Seq.{take-append_seam, take-add}
use Rattle.std.specs.Prelude.{IfOk, OnErr}
use Rattle.std.specs.Result.{result_unwrap_or}
use Rattle.std.proofs.lemmas.List.{take_all}
use Rattle.std.specs.Io.KnownBytes.{prepend_known, Keeps, Consumes}
use Rattle.std.specs.Prelude.{if◌then◌else◌}
use Rattle.std.specs.Char.{is_ascii_digit}
use Rattle.message_frames.specs.declared.front.TheConstants.{MOST_BYTES}
use Rattle.message_frames.specs.Front.{are_blank, number_behind, allowed, within}

not_allowed : (n : ℕ) → MOST_BYTES < n → allowed n ≡ None
not_allowed n large = by (leb n MOST_BYTES) refl
  where
    by : (t : Bool) → leb n MOST_BYTES ≡ t → allowed n ≡ None
    by true is = absurd (omega (arith, leb-true n MOST_BYTES is, large))
    by false is = ap (λ (t : Bool). if t then Some n else None) is

-- what a number goes on with: a digit, or blanks alone
shape : (n b : ℕ) (bs : List ℕ) (t u : Bool) → is_ascii_digit b ≡ t → are_blank (b ∷ bs) ≡ u
    → number_behind n (b ∷ bs) ≡ (if t then number_behind (n * 10 + (b - 48)) bs else if u then Some n else None)
shape n b bs t u is are =
    ap (λ (t' : Bool). if t' then number_behind (n * 10 + (b - 48)) bs else if are_blank (b ∷ bs) then Some n else None) is
    ∙ ap (λ (u' : Bool). if t then number_behind (n * 10 + (b - 48)) bs else if u' then Some n else None) are

-- a number that is too large stays so
pub too_large : (n : ℕ) (bs : List ℕ) → MOST_BYTES < n → within (number_behind n bs) ≡ None
too_large n [] large = not_allowed n large
too_large n (b ∷ bs) large = by (is_ascii_digit b) (are_blank (b ∷ bs)) refl refl (too_large (n * 10 + (b - 48)) bs (omega (arith, large)))
  where
    by : (t u : Bool) → is_ascii_digit b ≡ t → are_blank (b ∷ bs) ≡ u → within (number_behind (n * 10 + (b - 48)) bs) ≡ None
        → within (number_behind n (b ∷ bs)) ≡ None
    by true u is are more = ap within (shape n b bs true u is are) ∙ more
    by false true is are more = ap within (shape n b bs false true is are) ∙ not_allowed n large
    by false false is are more = ap within (shape n b bs false false is are)

-- so it is where the next digit makes it too large
pub large_here : (n : ℕ) (rest : List ℕ) → 0 < length rest → is_ascii_digit (get_or rest 0 0) ≡ true → MOST_BYTES < n * 10 + (get_or rest 0 0 - 48)
    → within (number_behind n rest) ≡ None
large_here n [] some digit large = absurd (omega (arith, some))
large_here n (b ∷ bs) some digit large =
    ap within (shape n b bs true (are_blank (b ∷ bs)) digit refl) ∙ too_large (n * 10 + (b - 48)) bs large

-- what is read goes from a reader to what is held
pub kept_by : (old new read : List ℕ) (r s : Option (List ℕ)) → new ≡ old ++ read → Consumes r s read → Keeps (prepend_known old r) (prepend_known new s)
kept_by old new read None s is gone = tt
kept_by old new read (Some xs) None is gone = absurd gone
kept_by old new read (Some xs) (Some ys) is gone =
    ap (λ (l : List ℕ). l ++ ys) is ∙ append_assoc old read ys ∙ ap (λ (l : List ℕ). old ++ l) (sym gone)

-- a room that begins with what is held, also where it was not made larger
held_first : (ok : Bool) (held sat : ℕ) (old zeros items : List ℕ) → held ≡ length old → held ≤ sat → items ≡ (if ok then take sat old ++ zeros else old)
    → take held items ≡ old
held_first true held sat old zeros items is low are =
    let all : take sat old ≡ old = take_all sat old (omega (arith, is, low)) in
    ap (λ (l : List ℕ). take held l) (are ∙ ap (λ (l : List ℕ). l ++ zeros) all)
    ∙ ap (λ (n : ℕ). take n (old ++ zeros)) is ∙ take-append_seam old zeros
held_first false held sat old zeros items is low are = ap (λ (l : List ℕ). take held l) are ∙ take_all held old (omega (arith, is))

-- what was read, or nothing where the reader failed
read_of : {E : Type 0} (answer : Result ℕ E) (count : ℕ) (behind : List ℕ) (r s : Option (List ℕ)) → count ≡ result_unwrap_or answer 0
    → IfOk answer (λ n. Consumes r s (take n behind)) → OnErr answer (Keeps r s) → Consumes r s (take count behind)
read_of (Ok n) count behind r s is read kept = subst (λ (k : ℕ). Consumes r s (take k behind)) (sym is) read
read_of (Err e) count behind r s is read kept = subst (λ (k : ℕ). Consumes r s (take k behind)) (sym is) (none r s kept)
  where
    none : (r s : Option (List ℕ)) → Keeps r s → Consumes r s []
    none None s k = tt
    none (Some xs) None k = absurd k
    none (Some xs) (Some ys) k = sym k

-- what is held behind a read into the room behind it
pub filled : {E : Type 0} (answer : Result ℕ E) (ok : Bool) (held count len sat : ℕ) (old zeros items room tail cut : List ℕ) (r s : Option (List ℕ))
    → held ≡ length old → held ≤ sat → items ≡ (if ok then take sat old ++ zeros else old) → len ≡ length items → length room ≡ length items
    → take held room ≡ take held items → cut ≡ take (held + count) (take len (room ++ tail)) → count ≡ result_unwrap_or answer 0
    → IfOk answer (λ n. Consumes r s (take n (drop held room))) → OnErr answer (Keeps r s) → Keeps (prepend_known old r) (prepend_known cut s)
filled answer ok held count len sat old zeros items room tail cut r s is low are long longs first cut_is counted read kept =
    let whole : take len (room ++ tail) ≡ room = ap (λ (n : ℕ). take n (room ++ tail)) (long ∙ sym longs) ∙ take-append_seam room tail in
    let front : take held room ≡ old = first ∙ held_first ok held sat old zeros items is low are in
    let new : cut ≡ old ++ take count (drop held room) =
    cut_is ∙ ap (λ (l : List ℕ). take (held + count) l) whole ∙ take-add held count room ∙ ap (λ (l : List ℕ). l ++ take count (drop held room)) front in
    kept_by old cut (take count (drop held room)) r s new (read_of answer count (drop held room) r s counted read kept)
