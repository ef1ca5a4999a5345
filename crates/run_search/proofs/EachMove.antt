-- What is so of each move of a process is so of each move that the search finds.
use Rattle.std.proofs.Common.{◌≡◌, ℕ, ◌+◌, Bool, true, false, if◌then◌else◌, List, [], ◌∷◌, ◌++◌, length, Option, Some, None, slice_get, nat_eq, refl, arith}
use Rattle.pml_program.specs.declared.program.Seq.{Seq}
use Rattle.promela_process.specs.Control.{Control}
use Rattle.promela_process.specs.Offers.{Offer}
use Rattle.promela_run.specs.declared.moves.Pick.{Pick}
use Rattle.promela_run.specs.declared.moves.Move.{Move}
use Rattle.promela_run.specs.declared.moves.Move.TheVariants.{Death, Alone, Pair}
use Rattle.promela_run.specs.State.{Stand, State, reads, body_of, levels, levels_in}
use Rattle.promela_run.specs.Moves.{or_else, each, last, only_if, is_some, is_else, can_alone, Message, message, accepts, pick, pairs_on, pairs_with, pairs, moves_by, plain_moves, else_moves, moves_on, moves_of, moves_at, moves_under, moves_held}
use Rattle.run_search.specs.Lifted.{moves_if}
use Rattle.run_search.specs.Laws.{Each, IsOfTheYoungest, TheYoungestDiesFirst, taker, TheHolderGoesOn}

-- ---- the words of the search

module _ (P : Move → Type 0) where
  both_each : (xs ys : List Move) → Each P xs → Each P ys → Each P (xs ++ ys)
  both_each [] ys here there = there
  both_each (x ∷ xs) ys here there = (here.0, both_each xs ys here.1 there)

  or_each : (xs ys : List Move) → Each P xs → Each P ys → Each P (or_else xs ys)
  or_each [] ys here there = there
  or_each (x ∷ xs) ys here there = here

  each_each : {A : Type 0} (f : ℕ → A → List Move) → ((i : ℕ) (x : A) → Each P (f i x)) → (i : ℕ) (xs : List A) → Each P (each f i xs)
  each_each f so i [] = tt
  each_each f so i (x ∷ xs) = both_each (f i x) (each f (i + 1) xs) (so i x) (each_each f so (i + 1) xs)

  last_each : {A : Type 0} (f : ℕ → A → List Move) → ((i : ℕ) (x : A) → Each P (f i x)) → (i : ℕ) (xs : List A) → Each P (last f i xs)
  last_each f so i [] = tt
  last_each f so i (x ∷ xs) = or_each (last f (i + 1) xs) (f i x) (last_each f so (i + 1) xs) (so i x)

  if_each : (b : Bool) (m : Move) → (b ≡ true → P m) → Each P (only_if b m)
  if_each true m so = (so refl, tt)
  if_each false m so = tt

  -- ---- the moves of a process

  module _ (s : State) (p : ℕ) (dies : nat_eq (p + 1) (length s.stands) ≡ true → P (Death p)) (goes : (k : Pick) (t : Bool) → k.process ≡ p → P (Alone k t))
      (meets : (k j : Pick) (t : Bool) → k.process ≡ p → P (Pair k j t)) where
    pairs_with_each : (t : Bool) (k : Pick) → k.process ≡ p → (m : Message) (j : ℕ) (y : Stand) → Each P (pairs_with s t k m j y)
    pairs_with_each t k is m j y = by (nat_eq j k.process)
      where
        by : (same : Bool) → Each P (if same then [] else last (pairs_on s t k m j) 0 (levels_in (body_of s.program y.sort) y.control))
        by true = tt
        by false = last_each (pairs_on s t k m j) (λ l os. each_each (λ i o. only_if (accepts s.channels (reads s j t) m o.basic) (Pair k (pick j l i) t))
            (λ i o. if_each (accepts s.channels (reads s j t) m o.basic) (Pair k (pick j l i) t) (λ e. meets k (pick j l i) t is)) 0 os) 0 (levels_in (body_of s.program y.sort) y.control)

    pairs_each : (t : Bool) (k : Pick) → k.process ≡ p → (m : Option Message) → Each P (pairs s t k m)
    pairs_each t k is None = tt
    pairs_each t k is (Some m) = each_each (pairs_with s t k m) (λ j y. pairs_with_each t k is m j y) 0 s.stands

    plain_each : (t : Bool) (b : Seq) (l i : ℕ) (o : Offer) → Each P (if is_else o.basic then [] else moves_by s p t b l i o)
    plain_each t b l i o = by (is_else o.basic) (can_alone s.lossy s.channels (reads s p t) b o o.basic)
      where
        by : (other can : Bool) → Each P (if other then [] else (if can then Alone (pick p l i) t ∷ [] else pairs s t (pick p l i) (message s.channels (reads s p t) o.basic)))
        by true can = tt
        by false true = (goes (pick p l i) t refl, tt)
        by false false = pairs_each t (pick p l i) refl (message s.channels (reads s p t) o.basic)

    level_each : (t : Bool) (b : Seq) (l : ℕ) (os : List Offer) → Each P (moves_on s p t b l os)
    level_each t b l os = or_each (plain_moves s p t b l os) (else_moves p t l os)
        (each_each (λ i o. if is_else o.basic then [] else moves_by s p t b l i o) (plain_each t b l) 0 os)
        (each_each (λ i o. only_if (is_else o.basic) (Alone (pick p l i) t)) (λ i o. if_each (is_else o.basic) (Alone (pick p l i) t) (λ e. goes (pick p l i) t refl)) 0 os)

    pub at_each : (t : Bool) (b : Option Seq) (c : Control) → Each P (moves_of s p t b c)
    at_each t b [] = if_each (nat_eq (p + 1) (length s.stands)) (Death p) dies
    at_each t None (f ∷ c) = tt
    at_each t (Some b) (f ∷ c) = last_each (moves_on s p t b) (level_each t b) 0 (levels b (f ∷ c))

-- ---- the two laws

is_same : (m n : ℕ) → nat_eq m n ≡ true → m ≡ n
is_same m n e = grind (arith, e)

youngest_at : (s : State) (t : Bool) (p : ℕ) (y : Stand) → Each (IsOfTheYoungest s) (moves_at s p t y)
youngest_at s t p y = at_each (IsOfTheYoungest s) s p (λ e. is_same (p + 1) (length s.stands) e) (λ k u e. tt) (λ k j u e. tt) t (body_of s.program y.sort) y.control

youngest_held : (s : State) (h : Option ℕ) → Each (IsOfTheYoungest s) (moves_held s h)
youngest_held s None = tt
youngest_held s (Some p) = by (slice_get s.stands p)
  where
    by : (y : Option Stand) → Each (IsOfTheYoungest s) (moves_if s p y)
    by None = tt
    by (Some y) = youngest_at s false p y

youngest_under : (s : State) (t : Bool) → Each (IsOfTheYoungest s) (moves_under s t)
youngest_under s t = each_each (IsOfTheYoungest s) (λ p y. moves_at s p t y) (youngest_at s t) 0 s.stands

pub the_youngest_dies_first : TheYoungestDiesFirst
the_youngest_dies_first s = or_each (IsOfTheYoungest s) (moves_held s s.holder) _ (youngest_held s s.holder)
    (or_each (IsOfTheYoungest s) (moves_under s false) (moves_under s true) (youngest_under s false) (youngest_under s true))

own : (s : State) (p : ℕ) → Each (λ m. taker m ≡ p) (moves_held s (Some p))
own s p = by (slice_get s.stands p)
  where
    by : (y : Option Stand) → Each (λ m. taker m ≡ p) (moves_if s p y)
    by None = tt
    by (Some y) = at_each (λ m. taker m ≡ p) s p (λ e. refl) (λ k t e. e) (λ k j t e. e) false (body_of s.program y.sort) y.control

first_some : (xs ys : List Move) → is_some xs ≡ true → or_else xs ys ≡ xs
first_some [] ys e = cc
first_some (x ∷ xs) ys e = refl

pub the_holder_goes_on : TheHolderGoesOn
the_holder_goes_on s p holds some =
    rw holds (rw (first_some (moves_held s (Some p)) (or_else (moves_under s false) (moves_under s true)) some) (own s p))
