-- One number after the other is stored.
use Rattle.std.proofs.Common.{◌≡◌, ℕ, ◌+◌, ◌<◌, ◌≤◌, ◌⊎◌, inl, inr, List, [], ◌∷◌, ◌++◌, length, get_or, set, map, drop, ℤ, pos, Result, Ok, Err, OnOk, OnErr, min, subst, refl, sym, ap, ◌∙◌, arith, append_assoc}
use Rattle.std.proofs.lemmas.List.{length-set, at_drop_more, drop_all, drop_more, append-nil}
use Rattle.std.proofs.lemmas.Bool.{cases_lt}
use Rattle.std.proofs.Math.ListN.{get_or-map}
use Rattle.std.proofs.Math.Seq.{map-set_same}
use Rattle.promela_process.specs.declared.place.Place.{Place}
use Rattle.promela_process.specs.Store.{Frame, frame_at, cells_at, size_at, with_number}
use Rattle.pml_store.specs.Writing.{Contents, stored}
use Rattle.promela_process.specs.declared.sought.Sought.{Sought}
use Rattle.promela_process.specs.declared.sought.Sought.TheVariants.{Exactly, Into, Anything}
use Rattle.pml_eval.specs.There.{IsThere, AreThere}
use Rattle.promela_run.specs.declared.goes.Goes.{Goes}
use Rattle.promela_run.specs.Statements.{goes_of, stores}
use Rattle.pml_value.specs.Storing.{stored_all, AreAsLarge, StoresSome}

shape-with_number : (fs : List Frame) (p : Place) (v : ℤ) → map (map length) (with_number fs p v) ≡ map (map length) fs
shape-with_number fs p v =
    map-set_same (map length) fs p.frame (set (frame_at fs p.frame) p.variable (set (cells_at fs p) p.cell v)) []
    (map-set_same length (frame_at fs p.frame) p.variable (set (cells_at fs p) p.cell v) [] (length-set (cells_at fs p) p.cell v))

size-in : (fs : List Frame) (o i : ℕ) → get_or (get_or (map (map length) fs) o []) i 0 ≡ size_at fs o i
size-in fs o i = ap (λ (x : List ℕ). get_or x i 0) (get_or-map (map length) fs o []) ∙ get_or-map length (frame_at fs o) i []

-- to store a number leaves each variable its cells
pub size-stored : (s : Contents) (p : Place) (v : ℤ) → AreAsLarge s (stored s p v)
size-stored s p v o i =
    sym (size-in (with_number s.frames p v) o i) ∙ ap (λ (x : List (List ℕ)). get_or (get_or x o []) i 0) (shape-with_number s.frames p v) ∙ size-in s.frames o i

there-still : (old new : Contents) (w : Sought) → AreAsLarge old new → IsThere (size_at old.frames) w → IsThere (size_at new.frames) w
there-still old new (Exactly n) h t = tt
there-still old new (Into p form) h t = let e = h p.frame p.variable in omega (arith, t, e)
there-still old new Anything h t = tt

pub all-there-still : (old new : Contents) (ws : List Sought) → AreAsLarge old new → AreThere (size_at old.frames) ws → AreThere (size_at new.frames) ws
all-there-still old new [] h t = tt
all-there-still old new (w ∷ ws) h t = (there-still old new w h t.0, all-there-still old new ws h t.1)

stored_all-append : (s : Contents) (gs hs : List Goes) → stored_all (stored_all s gs) hs ≡ stored_all s (gs ++ hs)
stored_all-append s [] hs = refl
stored_all-append s (g ∷ gs) hs = stored_all-append (stored s g.place g.number) gs hs

-- the fields before one are stored, and the rest is to be
abbrev pub Done : ℕ → Contents → Contents → List Sought → List ℤ → Type 0
Done i old now ws xs = (before : List Goes) × (stores ws xs ≡ before ++ stores (drop i ws) (drop i xs)) × (now ≡ stored_all old before)

pub done-some : (i : ℕ) (old now : Contents) (ws : List Sought) (xs : List ℤ) → Done i old now ws xs → StoresSome old now (stores ws xs)
done-some i old now ws xs d = record { before = d.0; after = stores (drop i ws) (drop i xs); parts = d.1; stands = d.2 }

pub done-next : (i : ℕ) (old now new : Contents) (ws : List Sought) (xs : List ℤ) (w : Sought) → i < length ws → i < length xs → Done i old now ws xs
    → new ≡ stored_all now (goes_of (get_or ws i w) (get_or xs i (pos 0))) → Done (i + 1) old new ws xs
done-next i old now new ws xs w h k d e =
    let gs = goes_of (get_or ws i w) (get_or xs i (pos 0)) in
    let rest : stores (drop i ws) (drop i xs) ≡ gs ++ stores (drop (i + 1) ws) (drop (i + 1) xs) =
    at_drop_more (λ (l : List Sought). stores l (drop i xs)) ws i w h
    ∙ at_drop_more (λ (l : List ℤ). stores (get_or ws i w ∷ drop (i + 1) ws) l) xs i (pos 0) k in (
      d.0 ++ gs,
      d.1 ∙ ap (λ (l : List Goes). d.0 ++ l) rest ∙ sym (append_assoc d.0 gs (stores (drop (i + 1) ws) (drop (i + 1) xs))),
      e ∙ ap (λ (s : Contents). stored_all s gs) d.2 ∙ stored_all-append old d.0 gs,
    )

none-left : (ws : List Sought) (xs : List ℤ) → (ws ≡ []) ⊎ (xs ≡ []) → stores ws xs ≡ []
none-left [] xs h = refl
none-left (w ∷ ws) [] h = refl
none-left (w ∷ ws) (x ∷ xs) (inl h) = cc
none-left (w ∷ ws) (x ∷ xs) (inr h) = cc

pub done-all : (i : ℕ) (old now : Contents) (ws : List Sought) (xs : List ℤ) → (length ws ≤ i) ⊎ (length xs ≤ i) → Done i old now ws xs → now ≡ stored_all old (stores ws xs)
done-all i old now ws xs h d =
    let none : stores (drop i ws) (drop i xs) ≡ [] = none-left (drop i ws) (drop i xs) (elim h [ inl l ↦ inl (drop_all i ws l) | inr l ↦ inr (drop_all i xs l) ]) in
    let all : stores ws xs ≡ d.0 = d.1 ∙ ap (λ (l : List Goes). d.0 ++ l) none ∙ append-nil d.0 in
    d.2 ∙ ap (stored_all old) (sym all)

pub set-sizes : {E : Type 0} (r : Result (Unit {0}) E) (old new : Contents) (p : Place) (v : ℤ) → OnOk r (new ≡ stored old p v) → OnErr r (new ≡ old) → AreAsLarge old new
set-sizes (Ok u) old new p v h k o i = ap (λ (s : Contents). size_at s.frames o i) h ∙ size-stored old p v o i
set-sizes (Err e) old new p v h k o i = ap (λ (s : Contents). size_at s.frames o i) k

pub there-next : (cells : ℕ → ℕ → ℕ) (ws : List Sought) (i : ℕ) (w : Sought) → i < length ws → AreThere cells (drop i ws) → AreThere cells (drop (i + 1) ws)
there-next cells ws i w h t = let all : AreThere cells (get_or ws i w ∷ drop (i + 1) ws) = subst (AreThere cells) (drop_more ws i w h) t in all.1

pub past-one : (a b i : ℕ) → min a b ≤ i → (a ≤ i) ⊎ (b ≤ i)
past-one a b i h = elim (cases_lt a b) [ inl l ↦ inl (omega (arith, h, l)) | inr l ↦ inr (omega (arith, h, l)) ]
