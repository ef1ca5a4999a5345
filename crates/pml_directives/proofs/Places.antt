-- The place behind a byte more, and the bytes of a text at their places.
use Rattle.std.proofs.Common.{inl, inr, ◌≡◌, ◌∙◌, ◌+◌, ◌-◌, ◌<◌, ◌≤◌, ◌++◌, ◌==◌, ℕ, zero, suc, Bool, true, false, if◌then◌else◌, List, [], ◌∷◌, length, count_by, take, drop, slice_index_or, refl, sym, ap, subst, arith}
use Rattle.std.proofs.lemmas.List.{length-append}
use Rattle.std.proofs.lemmas.List.Elements.{All-nil, All-cons, All-append}
use Rattle.std.proofs.lemmas.Bool.{cases_lt}
use Rattle.std.proofs.Math.Seq.{take-length, get_or-append_seam, take-append_seam, take-append-add}
use Rattle.std.proofs.lemmas.List.Sums.{count_by_more_yes, count_by_more_no}
use Rattle.std.proofs.Math.ListN.{get_or-append}
use Rattle.pml_macros.specs.declared.atom.FilePlace.{FilePlace}
use Rattle.pml_directives.specs.Places.{column_from, is_feed, place_behind, past, after, offset_in, AreOf}

-- a byte more of a text
take_more : (n : ℕ) (text others : List ℕ) (b : ℕ) → b ∷ others ≡ drop n text → take (suc n) text ≡ take n text ++ b ∷ []
take_more zero [] others b e = absurd cc
take_more zero (c ∷ text) others b e = ap (λ (xs : List ℕ). take 1 xs) (sym e)
take_more (suc n) [] others b e = absurd cc
take_more (suc n) (c ∷ text) others b e = ap (λ (xs : List ℕ). c ∷ xs) (take_more n text others b e)

longer : (t : List ℕ) (b : ℕ) → length t < length (t ++ b ∷ [])
longer t b =
    let e = length-append t (b ∷ []) in
    omega arith

columns : (n : ℕ) (t : List ℕ) (b : ℕ) → column_from n (t ++ b ∷ []) ≡ (if b == 10 then 1 else column_from n t + 1)
columns n [] b = refl
columns n (c ∷ t) b = columns (if c == 10 then 1 else n + 1) t b

feeds : (t : List ℕ) (b : ℕ) (c : Bool) → (b == 10) ≡ c → count_by is_feed (t ++ b ∷ []) ≡ (if c then count_by is_feed t + 1 else count_by is_feed t)
feeds t b true e =
    ap (count_by is_feed) (sym (take-append-add t (b ∷ []) 1)) ∙ count_by_more_yes is_feed (t ++ b ∷ []) (length t) 0 (longer t b) (ap is_feed (get_or-append_seam t b [] 0) ∙ e)
    ∙ ap (λ (xs : List ℕ). count_by is_feed xs + 1) (take-append_seam t (b ∷ []))
feeds t b false e =
    ap (count_by is_feed) (sym (take-append-add t (b ∷ []) 1)) ∙ count_by_more_no is_feed (t ++ b ∷ []) (length t) 0 (longer t b) (ap is_feed (get_or-append_seam t b [] 0) ∙ e)
    ∙ ap (count_by is_feed) (take-append_seam t (b ∷ []))

behind_more : (file : ℕ) (t : List ℕ) (b : ℕ) → place_behind file (t ++ b ∷ []) ≡ after (place_behind file t) b
behind_more file t b = by (b == 10) (columns 1 t b) (feeds t b (b == 10) refl)
  where
    by : (c : Bool) → column_from 1 (t ++ b ∷ []) ≡ (if c then 1 else column_from 1 t + 1) → count_by is_feed (t ++ b ∷ []) ≡ (if c then count_by is_feed t + 1 else count_by is_feed t)
        → place_behind file (t ++ b ∷ []) ≡ past (place_behind file t) c
    by true e f = rw (e, f, length-append t (b ∷ [])) refl
    by false e f = rw (e, f, length-append t (b ∷ [])) refl

one_more : (n : ℕ) → n + 1 ≡ suc n
one_more n = omega arith

-- a text that is not empty
pub some : (n : ℕ) → false ≡ (n == 0) → 0 < n
some zero e = absurd cc
some (suc n) e = omega arith

pub rest_more : (xs : List ℕ) → take (length xs - 1) (drop 1 xs) ≡ drop 1 xs
rest_more [] = refl
rest_more (x ∷ xs) =
    let e : length (x ∷ xs) - 1 ≡ length xs = omega arith in
    rw e (take-length xs)

pub place_more : (file : ℕ) (text rest : List ℕ) (p : FilePlace) → rest ≡ drop p.offset text → 0 < length rest → p ≡ place_behind file (take p.offset text)
    → after p (slice_index_or rest 0 0) ≡ place_behind file (take (p.offset + 1) text)
place_more file text [] p e some is = absurd (omega arith)
place_more file text (b ∷ others) p e some is =
    ap (λ (q : FilePlace). after q b) is ∙ sym (behind_more file (take p.offset text) b) ∙ sym (ap (place_behind file) (ap (λ (n : ℕ). take n text) (one_more p.offset) ∙ take_more p.offset text others b e))

past_offset : (p : FilePlace) (c : Bool) → (past p c).offset ≡ p.offset + 1
past_offset p true = refl
past_offset p false = refl

pub after_offset : (p : FilePlace) (b : ℕ) → (after p b).offset ≡ p.offset + 1
after_offset p b = past_offset p (b == 10)

past_line : (p : FilePlace) (c : Bool) → p.line ≤ p.offset + 1 → (past p c).line ≤ (past p c).offset + 1
past_line p true e = omega arith
past_line p false e = omega arith

pub after_line : (p : FilePlace) (b : ℕ) → p.line ≤ p.offset + 1 → (after p b).line ≤ (after p b).offset + 1
after_line p b e = past_line p (b == 10) e

past_column : (p : FilePlace) (c : Bool) → p.column ≤ p.offset + 1 → (past p c).column ≤ (past p c).offset + 1
past_column p true e = omega arith
past_column p false e = omega arith

pub after_column : (p : FilePlace) (b : ℕ) → p.column ≤ p.offset + 1 → (after p b).column ≤ (after p b).offset + 1
after_column p b e = past_column p (b == 10) e

-- one more byte and its place
pub of_more : (file : ℕ) (text bytes : List ℕ) (places : List FilePlace) (b : ℕ) (p : FilePlace) → AreOf file text bytes places → b ≡ slice_index_or text p.offset 0 → p ≡ place_behind file (take p.offset text)
    → AreOf file text (bytes ++ b ∷ []) (places ++ p ∷ [])
of_more file text bytes places b p of is there = record {
  same =
      let a = length-append places (p ∷ []) in
      let c = length-append bytes (b ∷ []) in
      let e = of.same in
      omega arith;
  each = λ k less. elim (cases_lt k (length bytes)) [
    | inl below ↦
        let below' : k < length places = subst (λ (n : ℕ). k < n) (sym of.same) below in
        ap (λ (q : FilePlace). slice_index_or text q.offset 0) (get_or-append places (p ∷ []) (place_behind 0 []) k below') ∙ of.each k below ∙ sym (get_or-append bytes (b ∷ []) 0 k below)
    | inr above ↦
        let last : k ≡ length bytes =
        let a = length-append bytes (b ∷ []) in
        omega arith in
        ap (λ (n : ℕ). slice_index_or text (offset_in (places ++ p ∷ []) n) 0) (last ∙ sym of.same)
        ∙ ap (λ (q : FilePlace). slice_index_or text q.offset 0) (get_or-append_seam places p [] (place_behind 0 [])) ∙ sym is
        ∙ sym (ap (λ (n : ℕ). slice_index_or (bytes ++ b ∷ []) n 0) last ∙ get_or-append_seam bytes b [] 0)
  ];
  there = All-append (λ q. q ≡ place_behind file (take q.offset text)) places (p ∷ []) of.there (All-cons (λ q. q ≡ place_behind file (take q.offset text)) p [] there (All-nil (λ q. q ≡ place_behind file (take q.offset text))));
}

-- the first byte of a rest
pub first_of : (text rest : List ℕ) (n : ℕ) → rest ≡ drop n text → slice_index_or rest 0 0 ≡ slice_index_or text n 0
first_of text rest n e = ap (λ (xs : List ℕ). slice_index_or xs 0 0) e ∙ get_or-drop n text
  where
    get_or-drop : (n : ℕ) (xs : List ℕ) → slice_index_or (drop n xs) 0 0 ≡ slice_index_or xs n 0
    get_or-drop zero xs = refl
    get_or-drop (suc n) [] = refl
    get_or-drop (suc n) (x ∷ xs) = get_or-drop n xs
