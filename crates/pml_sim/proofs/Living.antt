-- A move names processes that live.
use Rattle.std.proofs.Common.{◌≡◌, ℕ, zero, suc, ◌+◌, ◌<◌, Bool, true, false, List, [], ◌∷◌, ◌++◌, length, nat_eq, refl, subst, arith, Option, Some, None}
use Rattle.std.specs.Prelude.{slice_get, slice_index_or, if◌then◌else◌}
use Rattle.std.specs.List.{AllByRecursion, Contains}
use Rattle.std.proofs.lemmas.Option.{slice_get_within}
use Rattle.pml_program.specs.declared.program.Seq.{Seq}
use Rattle.promela_process.specs.Control.{Control}
use Rattle.promela_process.specs.Offers.{Offer}
use Rattle.promela_run.specs.declared.moves.Pick.{Pick}
use Rattle.promela_run.specs.declared.moves.Move.{Move}
use Rattle.promela_run.specs.declared.moves.Move.TheVariants.{Death, Alone, Pair}
use Rattle.promela_run.specs.State.{Stand, State, body_of, levels, levels_in, reads}
use Rattle.promela_run.specs.Moves.{or_else, each, last, only_if, is_else, can_alone, accepts, Message, message, pick, pairs_on, pairs_with, pairs, moves_by, plain_moves, else_moves, moves_on, moves_of, moves_at, moves_under, moves_held, moves}
use Rattle.run_search.specs.Lifted.{moves_if}
use Rattle.run_texts.specs.Staying.{IsWithin}

-- ---- lists

element : {A : Type 0} (P : A → Type 0) (xs : List A) (k : ℕ) (x : A) → AllByRecursion P xs → k < length xs → slice_index_or xs k x ≡ x → P x
element P [] k x h l e = absurd (omega (arith, l))
element P (y ∷ ys) zero x h l e = subst P e h.0
element P (y ∷ ys) (suc k) x h l e = element P ys k x h.1 (omega (arith, l)) e

module _ (n : ℕ) where
  abbrev All : List Move → Type 0
  All = AllByRecursion (IsWithin n)

  both : (xs ys : List Move) → All xs → All ys → All (xs ++ ys)
  both [] ys h g = g
  both (x ∷ xs) ys h g = (h.0, both xs ys h.1 g)

  either : (xs ys : List Move) → All xs → All ys → All (or_else xs ys)
  either [] ys h g = g
  either (x ∷ xs) ys h g = h

  if_it_is : (b : Bool) (m : Move) → IsWithin n m → All (only_if b m)
  if_it_is true m h = (h, tt)
  if_it_is false m h = tt

  of_each : {A : Type 0} (f : ℕ → A → List Move) (i : ℕ) (xs : List A) → ((j : ℕ) (x : A) → All (f j x)) → All (each f i xs)
  of_each f i [] h = tt
  of_each f i (x ∷ xs) h = both (f i x) (each f (i + 1) xs) (h i x) (of_each f (i + 1) xs h)

  of_last : {A : Type 0} (f : ℕ → A → List Move) (i : ℕ) (xs : List A) → ((j : ℕ) (x : A) → All (f j x)) → All (last f i xs)
  of_last f i [] h = tt
  of_last f i (x ∷ xs) h = either (last f (i + 1) xs) (f i x) (of_last f (i + 1) xs h) (h i x)

  -- of as many as there are
  of_first : {A : Type 0} (f : ℕ → A → List Move) (i : ℕ) (xs : List A) → i + length xs ≡ n → ((j : ℕ) (x : A) → j < n → All (f j x)) → All (each f i xs)
  of_first f i [] e h = tt
  of_first f i (x ∷ xs) e h = both (f i x) (each f (i + 1) xs) (h i x (omega (arith, e))) (of_first f (i + 1) xs (omega (arith, e)) h)

-- ---- moves

module _ (s : State) where
  abbrev n : ℕ
  n = length s.stands

  paired_within : (t : Bool) (k : Pick) (m : Message) → k.process < n → (j : ℕ) (y : Stand) → j < n → All n (pairs_with s t k m j y)
  paired_within t k m h j y l = by (nat_eq j k.process)
    where
      by : (b : Bool) → All n (if b then [] else last (pairs_on s t k m j) 0 (levels_in (body_of s.program y.sort) y.control))
      by true = tt
      by false =
          of_last n (pairs_on s t k m j) 0 (levels_in (body_of s.program y.sort) y.control) (λ level os.
          of_each n (λ i o. only_if (accepts s.channels (reads s j t) m o.basic) (Pair k (pick j level i) t)) 0 os (λ i o. if_it_is n (accepts s.channels (reads s j t) m o.basic) (Pair k (pick j level i) t) (h, l)))

  pairs_within : (t : Bool) (k : Pick) (o : Option Message) → k.process < n → All n (pairs s t k o)
  pairs_within t k None h = tt
  pairs_within t k (Some m) h = of_first n (pairs_with s t k m) 0 s.stands (omega arith) (λ j y l. paired_within t k m h j y l)

  by_within : (p : ℕ) (t : Bool) (b : Seq) (l i : ℕ) (o : Offer) → p < n → All n (moves_by s p t b l i o)
  by_within p t b l i o h = by (can_alone s.lossy s.channels (reads s p t) b o o.basic)
    where
      by : (can : Bool) → All n (if can then Alone (pick p l i) t ∷ [] else pairs s t (pick p l i) (message s.channels (reads s p t) o.basic))
      by true = (h, tt)
      by false = pairs_within t (pick p l i) (message s.channels (reads s p t) o.basic) h

  plain_within : (p : ℕ) (t : Bool) (b : Seq) (l : ℕ) (os : List Offer) → p < n → All n (plain_moves s p t b l os)
  plain_within p t b l os h = of_each n (λ i o. if is_else o.basic then [] else moves_by s p t b l i o) 0 os (λ i o. by i o (is_else o.basic))
    where
      by : (i : ℕ) (o : Offer) (e : Bool) → All n (if e then [] else moves_by s p t b l i o)
      by i o true = tt
      by i o false = by_within p t b l i o h

  else_within : (p : ℕ) (t : Bool) (l : ℕ) (os : List Offer) → p < n → All n (else_moves p t l os)
  else_within p t l os h = of_each n (λ i o. only_if (is_else o.basic) (Alone (pick p l i) t)) 0 os (λ i o. if_it_is n (is_else o.basic) (Alone (pick p l i) t) h)

  of_within : (p : ℕ) (t : Bool) (b : Option Seq) (c : Control) → p < n → All n (moves_of s p t b c)
  of_within p t b [] h = if_it_is n (nat_eq (p + 1) n) (Death p) h
  of_within p t None (f ∷ c) h = tt
  of_within p t (Some b) (f ∷ c) h =
      of_last n (moves_on s p t b) 0 (levels b (f ∷ c)) (λ l os. either n (plain_moves s p t b l os) (else_moves p t l os) (plain_within p t b l os h) (else_within p t l os h))

  under_within : (t : Bool) → All n (moves_under s t)
  under_within t = of_first n (λ p y. moves_at s p t y) 0 s.stands (omega arith) (λ p y h. of_within p t (body_of s.program y.sort) y.control h)

  held_within : (h : Option ℕ) → All n (moves_held s h)
  held_within None = tt
  held_within (Some p) = by (slice_get s.stands p) refl
    where
      by : (o : Option Stand) → slice_get s.stands p ≡ o → All n (moves_if s p o)
      by None e = tt
      by (Some y) e = of_within p false (body_of s.program y.sort) y.control (slice_get_within s.stands p y e)

  all_within : All n (moves s)
  all_within =
      either n (moves_held s s.holder) (or_else (moves_under s false) (moves_under s true)) (held_within s.holder)
      (either n (moves_under s false) (moves_under s true) (under_within false) (under_within true))

  -- each names processes that live
  pub moves_within : (m : Move) → Contains (moves s) m → IsWithin n m
  moves_within m c = element (IsWithin n) (moves s) c.0 m all_within c.1 c.2
