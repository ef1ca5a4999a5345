-- The search lists each move once.
use Rattle.std.proofs.Common.{◌≡◌, ℕ, ◌+◌, Bool, true, false, if◌then◌else◌, List, [], ◌∷◌, length, Option, Some, None, slice_get, nat_eq, refl}
use Rattle.pml_program.specs.declared.program.Seq.{Seq}
use Rattle.promela_process.specs.Control.{Control}
use Rattle.promela_process.specs.Offers.{Offer}
use Rattle.promela_run.specs.declared.moves.Pick.{Pick}
use Rattle.promela_run.specs.declared.moves.Move.{Move}
use Rattle.promela_run.specs.declared.moves.Move.TheVariants.{Death, Alone, Pair}
use Rattle.promela_run.specs.State.{Stand, State, reads, body_of, levels, levels_in}
use Rattle.promela_run.specs.Moves.{or_else, last, only_if, is_else, can_alone, Message, message, accepts, pick, pairs_on, pairs_with, pairs, moves_by, plain_moves, else_moves, moves_on, moves_of, moves_at, moves_under, moves_held, moves}
use Rattle.run_search.specs.Laws.{Each, taker}
use Rattle.run_search.proofs.EachMove.{at_each}
use Rattle.promela_run.specs.World.{rules}
use Rattle.promela_run.specs.declared.halt.Halt.{Halt}
use Rattle.run_search.specs.Lifted.{moves_if, unless_stopped}
use Rattle.path_laws.specs.OneRecord.{StandOnce, ListsOnce}
use Rattle.path_laws.proofs.Apart.{Apart, stand_once, each_apart, or_holds, last_holds, each_holds, only_holds, only_apart, one_apart}

-- the place of the offer that is taken, on its level
place : Move → ℕ
place (Death p) = 0
place (Alone k t) = k.place
place (Pair k j t) = k.place

-- the process that receives
receiver : Move → ℕ
receiver (Death p) = 0
receiver (Alone k t) = 0
receiver (Pair k j t) = j.process

-- the place of the receive, on its level
place_there : Move → ℕ
place_there (Death p) = 0
place_there (Alone k t) = 0
place_there (Pair k j t) = j.place

-- ---- pairs

module _ (s : State) (t : Bool) (k : Pick) (m : Message) where
  -- what is so of each pair with process j
  pairs_on_hold : (P : Move → Type 0) (j : ℕ) → ((q : Pick) → q.process ≡ j → P (Pair k q t)) → (l : ℕ) (os : List Offer) → Each P (pairs_on s t k m j l os)
  pairs_on_hold P j so l os = each_holds P (λ i o. only_if (accepts s.channels (reads s j t) m o.basic) (Pair k (pick j l i) t))
      (λ i o. only_holds P (accepts s.channels (reads s j t) m o.basic) (Pair k (pick j l i) t) (so (pick j l i) refl)) 0 os

  pairs_on_apart : (j l : ℕ) (os : List Offer) → Apart (pairs_on s t k m j l os)
  unfolding place_there
  pairs_on_apart j l os = each_apart place_there (λ i o. only_if (accepts s.channels (reads s j t) m o.basic) (Pair k (pick j l i) t))
      (λ i o. only_holds (λ n. place_there n ≡ i) (accepts s.channels (reads s j t) m o.basic) (Pair k (pick j l i) t) refl)
      (λ i o. only_apart (accepts s.channels (reads s j t) m o.basic) (Pair k (pick j l i) t)) 0 os

  pairs_with_is : (P : List Move → Type 0) → P [] → (j : ℕ) → ((l : ℕ) (os : List Offer) → P (pairs_on s t k m j l os)) → (y : Stand) → P (pairs_with s t k m j y)
  pairs_with_is P none j so y = by (nat_eq j k.process)
    where
      by : (same : Bool) → P (if same then [] else last (pairs_on s t k m j) 0 (levels_in (body_of s.program y.sort) y.control))
      by true = none
      by false = last_holds P (pairs_on s t k m j) none so 0 (levels_in (body_of s.program y.sort) y.control)

  pairs_hold : (P : Move → Type 0) → ((q : Pick) → P (Pair k q t)) → Each P (pairs s t k (Some m))
  pairs_hold P so = each_holds P (pairs_with s t k m) (λ j y. pairs_with_is (Each P) tt j (pairs_on_hold P j (λ q e. so q)) y) 0 s.stands

  pairs_apart : Apart (pairs s t k (Some m))
  unfolding receiver
  pairs_apart = each_apart receiver (pairs_with s t k m) (λ j y. pairs_with_is (Each (λ n. receiver n ≡ j)) tt j (pairs_on_hold (λ n. receiver n ≡ j) j (λ q e. e)) y)
      (λ j y. pairs_with_is Apart tt j (pairs_on_apart j) y) 0 s.stands

any_hold : (P : Move → Type 0) (s : State) (t : Bool) (k : Pick) → ((q : Pick) → P (Pair k q t)) → (m : Option Message) → Each P (pairs s t k m)
any_hold P s t k so None = tt
any_hold P s t k so (Some m) = pairs_hold s t k m P so

any_apart : (s : State) (t : Bool) (k : Pick) (m : Option Message) → Apart (pairs s t k m)
any_apart s t k None = tt
any_apart s t k (Some m) = pairs_apart s t k m

-- ---- the moves of a process

module _ (s : State) (p : ℕ) (t : Bool) (b : Seq) (l : ℕ) where
  -- of an offer that is no `else`, or none
  abbrev plain : ℕ → Offer → List Move
  plain i o = if is_else o.basic then [] else moves_by s p t b l i o

  plain_is : (P : List Move → Type 0) → P [] → (i : ℕ) (o : Offer) → P (Alone (pick p l i) t ∷ []) → P (pairs s t (pick p l i) (message s.channels (reads s p t) o.basic)) → P (plain i o)
  plain_is P none i o one many = by (is_else o.basic) (can_alone s.lossy s.channels (reads s p t) b o o.basic)
    where
      by : (other can : Bool) → P (if other then [] else (if can then Alone (pick p l i) t ∷ [] else pairs s t (pick p l i) (message s.channels (reads s p t) o.basic)))
      by true can = none
      by false true = one
      by false false = many

  plain_apart : (os : List Offer) → Apart (plain_moves s p t b l os)
  unfolding place
  plain_apart os = each_apart place plain
      (λ i o. plain_is (Each (λ m. place m ≡ i)) tt i o (refl, tt) (any_hold (λ m. place m ≡ i) s t (pick p l i) (λ q. refl) (message s.channels (reads s p t) o.basic)))
      (λ i o. plain_is Apart tt i o (one_apart (Alone (pick p l i) t)) (any_apart s t (pick p l i) (message s.channels (reads s p t) o.basic))) 0 os

  else_apart : (os : List Offer) → Apart (else_moves p t l os)
  unfolding place
  else_apart os = each_apart place (λ i o. only_if (is_else o.basic) (Alone (pick p l i) t))
      (λ i o. only_holds (λ m. place m ≡ i) (is_else o.basic) (Alone (pick p l i) t) refl) (λ i o. only_apart (is_else o.basic) (Alone (pick p l i) t)) 0 os

  on_apart : (os : List Offer) → Apart (moves_on s p t b l os)
  on_apart os = or_holds Apart (plain_moves s p t b l os) (else_moves p t l os) (plain_apart os) (else_apart os)

of_apart : (s : State) (p : ℕ) (t : Bool) (b : Option Seq) (c : Control) → Apart (moves_of s p t b c)
of_apart s p t b [] = only_apart (nat_eq (p + 1) (length s.stands)) (Death p)
of_apart s p t None (f ∷ c) = tt
of_apart s p t (Some b) (f ∷ c) = last_holds Apart (moves_on s p t b) tt (on_apart s p t b) 0 (levels b (f ∷ c))

at_apart : (s : State) (t : Bool) (p : ℕ) (y : Stand) → Apart (moves_at s p t y)
at_apart s t p y = of_apart s p t (body_of s.program y.sort) y.control

-- ---- the moves of a state

taken_by : (s : State) (t : Bool) (p : ℕ) (y : Stand) → Each (λ m. taker m ≡ p) (moves_at s p t y)
taken_by s t p y = at_each (λ m. taker m ≡ p) s p (λ e. refl) (λ k u e. e) (λ k j u e. e) t (body_of s.program y.sort) y.control

under_apart : (s : State) (t : Bool) → Apart (moves_under s t)
under_apart s t = each_apart taker (λ p y. moves_at s p t y) (taken_by s t) (at_apart s t) 0 s.stands

held_apart : (s : State) (h : Option ℕ) → Apart (moves_held s h)
held_apart s None = tt
held_apart s (Some p) = by (slice_get s.stands p)
  where
    by : (y : Option Stand) → Apart (moves_if s p y)
    by None = tt
    by (Some y) = at_apart s false p y

pub moves_stand_once : (s : State) → StandOnce (moves s)
moves_stand_once s = stand_once (moves s) (or_holds Apart (moves_held s s.holder) (or_else (moves_under s false) (moves_under s true)) (held_apart s s.holder)
    (or_holds Apart (moves_under s false) (moves_under s true) (under_apart s false) (under_apart s true)))

-- where a run has stopped there is none
none_stands : StandOnce {X = Move} []
none_stands i j m here there = cc

pub models_list_once : ListsOnce rules
models_list_once w = by w.halt
  where
    by : (h : Option Halt) → StandOnce (unless_stopped h (moves w.state))
    by None = moves_stand_once w.state
    by (Some h) = none_stands
