-- A loop over marks.
use Rattle.std.proofs.Common.{◌≡◌, ℕ, ◌+◌, ◌<◌, Bool, true, false, ◌||◌, ◌≤◌, List, [], ◌∷◌, length, take, reverse, get_or, Some, refl, ap, sym, subst, ◌∙◌, inl, inr, arith}
use Rattle.std.specs.Prelude.{slice_get}
use Rattle.std.proofs.lemmas.List.{take_more, reverse-append}
use Rattle.std.proofs.lemmas.Option.{slice_get_read, slice_get_within}
use Rattle.std.proofs.lemmas.Bool.{cases_eq}
use Rattle.promela_model.specs.declared.mark.Mark.{Mark}
use Rattle.promela_model.specs.Decided.{Somewhere}
use Rattle.check_conditions.specs.Finds.{Finds}

pub here : (p : List Mark → Mark → Bool) (ms : List Mark) (i : ℕ) (m : Mark) → i < length ms → m ≡ get_or ms i m → p (take i ms) m ≡ true → Somewhere p ms
here p ms i m h e b = (i, m, slice_get_read ms (length ms) i m refl h e, b)

-- none so far, and not here
pub none_more : (p : List Mark → Mark → Bool) (ms : List Mark) (i : ℕ) (m : Mark) → i < length ms → m ≡ get_or ms i m → p (take i ms) m ≡ false → ((k : ℕ) (x : Mark) → k < i → slice_get ms k ≡ Some x → p (take k ms) x ≡ false) → (k : ℕ) (x : Mark) → k < i + 1 → slice_get ms k ≡ Some x → p (take k ms) x ≡ false
none_more p ms i m h e b before k x lt s =
    elim (cases_eq k i) [
      | inl same ↦
          let at : slice_get ms k ≡ Some m = ap (slice_get ms) same ∙ slice_get_read ms (length ms) i m refl h e in
          let is : x ≡ m = cc in
          subst (λ (y : Mark). p (take k ms) y ≡ false) (sym is) (subst (λ (j : ℕ). p (take j ms) m ≡ false) (sym same) b)
      | inr other ↦ before k x (omega arith) s
    ]

-- one mark more, from the last to the first
pub back_more : (ms : List Mark) (i : ℕ) (m : Mark) → i < length ms → m ≡ get_or ms i m → reverse (take (i + 1) ms) ≡ m ∷ reverse (take i ms)
back_more ms i m h e = ap reverse (take_more ms i m h) ∙ reverse-append (take i ms) (get_or ms i m ∷ []) ∙ ap (λ (x : Mark). x ∷ reverse (take i ms)) (sym e)

-- it is so somewhere, or nowhere before the place i
abbrev pub SoFar : (List Mark → Mark → Bool) → List Mark → ℕ → Bool → Type 0
SoFar p ms i true = Somewhere p ms
SoFar p ms i false = (k : ℕ) (x : Mark) → k < i → slice_get ms k ≡ Some x → p (take k ms) x ≡ false

pub so_far-none : (p : List Mark → Mark → Bool) (ms : List Mark) (b : Bool) → b ≡ false → SoFar p ms 0 b
so_far-none p ms true e = let f : true ≡ false = e in absurd cc
so_far-none p ms false e = λ k x lt s. absurd (omega arith)

pub so_far-more : (p : List Mark → Mark → Bool) (ms : List Mark) (i : ℕ) (m : Mark) (before now after : Bool) → i < length ms → m ≡ get_or ms i m
    → now ≡ p (take i ms) m → after ≡ (before || now) → SoFar p ms i before → SoFar p ms (i + 1) after
so_far-more p ms i m before now after h e is joined all = subst (λ (b : Bool). SoFar p ms (i + 1) b) (sym joined) (go before now is all)
  where
    go : (b n : Bool) → n ≡ p (take i ms) m → SoFar p ms i b → SoFar p ms (i + 1) (b || n)
    go true n is all = all
    go false true is all = here p ms i m h e (sym is)
    go false false is all = none_more p ms i m h e (sym is) all

pub so_far-whole : (p : List Mark → Mark → Bool) (ms : List Mark) (i : ℕ) (b : Bool) → length ms ≤ i → SoFar p ms i b → Finds b p ms
so_far-whole p ms i true h all = all
so_far-whole p ms i false h all = λ k x s. all k x (let lt : k < length ms = slice_get_within ms k x s in omega arith) s
