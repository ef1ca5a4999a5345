-- One owner more, and one cell more.
use Rattle.std.proofs.Common.{◌≡◌, ℕ, suc, ◌+◌, ◌<◌, ◌≤◌, ◌⊎◌, inl, inr, true, false, if◌then◌else◌, List, [], ◌∷◌, ◌++◌, length, drop, get_or, Option, Some, None, ℤ, pos, refl, ap, subst, ◌∙◌, arith, min, leb, slice_get, drop-cons}
use Rattle.std.proofs.lemmas.Bool.{leb-true, leb-false}
use Rattle.std.proofs.lemmas.List.{drop_all}
use Rattle.std.specs.Ordering.{int_eq}
use Rattle.pml_program.specs.declared.program.Slot.{Slot}
use Rattle.pml_program.specs.declared.program.Program.{Program}
use Rattle.promela_run.specs.Lines.{place_line, Owner, cell_line, each_change, heading_of, process_owner, process_owners}
use Rattle.promela_run.specs.State.{slot_of, cell_of}
use Rattle.run_values.specs.Written.{line_at}
use Rattle.run_layout.specs.Tables.{slots_of}

pub line-here : (p : Program) (o : Owner) (os : List Owner) (i : ℕ) (v : ℤ) (s : Slot) → Some s ≡ slot_of o.slots i → line_at p (o ∷ os) i v ≡ cell_line p o s (cell_of o.slots i) v
line-here p o os i v s h = subst (λ (x : Option Slot). (elim x as (λ _. List ℕ) [ None ↦ line_at p os (cell_of o.slots i) v | Some t ↦ cell_line p o t (cell_of o.slots i) v ]) ≡ cell_line p o s (cell_of o.slots i) v) h refl

pub line-after : (p : Program) (o : Owner) (os : List Owner) (i : ℕ) (v : ℤ) → None ≡ slot_of o.slots i → line_at p (o ∷ os) i v ≡ line_at p os (cell_of o.slots i) v
line-after p o os i v h = subst (λ (x : Option Slot). (elim x as (λ _. List ℕ) [ None ↦ line_at p os (cell_of o.slots i) v | Some t ↦ cell_line p o t (cell_of o.slots i) v ]) ≡ line_at p os (cell_of o.slots i) v) h refl

unwanted : (p : Program) (o : Owner) (os : List Owner) (i : ℕ) (v : ℤ) (x : Option Slot) → o.wanted ≡ false → line_at p os (cell_of o.slots i) v ≡ [] → (elim x as (λ _. List ℕ) [ None ↦ line_at p os (cell_of o.slots i) v | Some t ↦ cell_line p o t (cell_of o.slots i) v ]) ≡ []
unwanted p o os i v None w h = h
unwanted p o os i v (Some t) w h = rw w refl

-- no line of a process is wanted
pub line-unwanted : (p : Program) (ks : List ℕ) (n i : ℕ) (v : ℤ) → line_at p (process_owners p false n ks) i v ≡ []
line-unwanted p [] n i v = refl
line-unwanted p (k ∷ ks) n i v =
    unwanted p (process_owner false n (slice_get p.proctypes k)) (process_owners p false (n + 1) ks) i v (slot_of (slots_of (slice_get p.proctypes k)) i) refl (line-unwanted p ks (n + 1) (cell_of (slots_of (slice_get p.proctypes k)) i) v)

-- the process n stands for the index, or one after it
pub process-here : (p : Program) (ks : List ℕ) (n i : ℕ) (v : ℤ) (s : Slot) → n < length ks → Some s ≡ slot_of (slots_of (slice_get p.proctypes (get_or ks n 0))) i → line_at p (process_owners p true n (drop n ks)) i v ≡ heading_of n (slice_get p.proctypes (get_or ks n 0)) ++ place_line p s (cell_of (slots_of (slice_get p.proctypes (get_or ks n 0))) i) v
process-here p ks n i v s l h =
    let d : drop n ks ≡ get_or ks n 0 ∷ drop (suc n) ks = drop-cons ks n 0 l in
    ap (λ (x : List ℕ). line_at p (process_owners p true n x) i v) d
    ∙ line-here p (process_owner true n (slice_get p.proctypes (get_or ks n 0))) (process_owners p true (n + 1) (drop (suc n) ks)) i v s h

pub process-after : (p : Program) (ks : List ℕ) (n i : ℕ) (v : ℤ) → n < length ks → None ≡ slot_of (slots_of (slice_get p.proctypes (get_or ks n 0))) i → line_at p (process_owners p true n (drop n ks)) i v ≡ line_at p (process_owners p true (n + 1) (drop (n + 1) ks)) (cell_of (slots_of (slice_get p.proctypes (get_or ks n 0))) i) v
process-after p ks n i v l h =
    let d : drop n ks ≡ get_or ks n 0 ∷ drop (suc n) ks = drop-cons ks n 0 l in
    let e : suc n ≡ n + 1 = omega arith in
    ap (λ (x : List ℕ). line_at p (process_owners p true n x) i v) d
    ∙ line-after p (process_owner true n (slice_get p.proctypes (get_or ks n 0))) (process_owners p true (n + 1) (drop (suc n) ks)) i v h
    ∙ ap (λ (m : ℕ). line_at p (process_owners p true (n + 1) (drop m ks)) (cell_of (slots_of (slice_get p.proctypes (get_or ks n 0))) i) v) e

-- the cell k and those after it
pub cells-more : (f : ℕ → ℤ → List ℕ) (xs ys : List ℤ) (k : ℕ) → k < length xs → k < length ys → each_change f k (drop k xs) (drop k ys) ≡ (if int_eq (get_or xs k (pos 0)) (get_or ys k (pos 0)) then [] else f k (get_or ys k (pos 0))) ++ each_change f (k + 1) (drop (k + 1) xs) (drop (k + 1) ys)
cells-more f xs ys k l m =
    let d : drop k xs ≡ get_or xs k (pos 0) ∷ drop (suc k) xs = drop-cons xs k (pos 0) l in
    let e : drop k ys ≡ get_or ys k (pos 0) ∷ drop (suc k) ys = drop-cons ys k (pos 0) m in
    let n : suc k ≡ k + 1 = omega arith in
    ap (λ (x : List ℤ). each_change f k x (drop k ys)) d
    ∙ ap (λ (y : List ℤ). each_change f k (get_or xs k (pos 0) ∷ drop (suc k) xs) y) e
    ∙ ap (λ (i : ℕ). (if int_eq (get_or xs k (pos 0)) (get_or ys k (pos 0)) then [] else f k (get_or ys k (pos 0))) ++ each_change f (k + 1) (drop i xs) (drop i ys)) n

no-cells : (f : ℕ → ℤ → List ℕ) (k : ℕ) (xs : List ℤ) → each_change f k xs [] ≡ []
no-cells f k [] = refl
no-cells f k (x ∷ xs) = refl

past : (f : ℕ → ℤ → List ℕ) (xs ys : List ℤ) (k : ℕ) → (length xs ≤ k) ⊎ (length ys ≤ k) → each_change f k (drop k xs) (drop k ys) ≡ []
past f xs ys k (inl h) = ap (λ (x : List ℤ). each_change f k x (drop k ys)) (drop_all k xs h)
past f xs ys k (inr h) = ap (λ (y : List ℤ). each_change f k (drop k xs) y) (drop_all k ys h) ∙ no-cells f k (drop k xs)

-- one of two numbers is no more than the other bound
least : (a b k : ℕ) → min a b ≤ k → (a ≤ k) ⊎ (b ≤ k)
least a b k h = elim (leb a k) as (λ t. leb a k ≡ t → (a ≤ k) ⊎ (b ≤ k)) [
  | true ↦ λ e. inl (leb-true a k e)
  | false ↦ λ e. let g : k < a = leb-false a k e in inr (omega arith)
] refl

pub cells-end : (f : ℕ → ℤ → List ℕ) (xs ys : List ℤ) (k : ℕ) → min (length xs) (length ys) ≤ k → each_change f k (drop k xs) (drop k ys) ≡ []
cells-end f xs ys k h = past f xs ys k (least (length xs) (length ys) k h)
