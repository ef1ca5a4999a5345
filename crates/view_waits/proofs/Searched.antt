-- What the first of a state's moves tells of the search for them.
use Rattle.std.proofs.Common.{◌≡◌, ◌∙◌, ap, sym, subst, refl, ℕ, ◌+◌, Bool, true, false, not, ◌&&◌, nat_eq, if◌then◌else◌, List, [], ◌∷◌, length, Option, Some, None, eq-eqb}
use Rattle.std.specs.Prelude.{slice_get}
use Rattle.std.specs.List.{AllByRecursion}
use Rattle.std.proofs.lemmas.Bool.{true≢false, eqb-true}
use Rattle.pml_program.specs.declared.program.Seq.{Seq}
use Rattle.promela_process.specs.Control.{Control, Pending}
use Rattle.promela_process.specs.Offers.{Offer}
use Rattle.promela_run.specs.declared.moves.Pick.{Pick}
use Rattle.promela_run.specs.declared.moves.Move.{Move}
use Rattle.promela_run.specs.declared.moves.Move.TheVariants.{Death, Alone, Pair}
use Rattle.run_search.specs.Laws.{taker}
use Rattle.promela_run.specs.State.{Stand, State, reads, body_of, levels, levels_in}
use Rattle.promela_run.specs.Moves.{or_else, last, only_if, is_some, is_else, can_alone, Message, message, accepts, pick, pairs_on, pairs_with, pairs, moves_by, plain_moves, else_moves, moves_on, moves_of, moves_at, moves_under, moves_held, moves}
use Rattle.run_search.specs.Lifted.{moves_if}
use Rattle.view_waits.specs.Searched.{is_late, timeout_by, control_by}
use Rattle.view_waits.specs.Waits.{in_control, last_timeout}
use Rattle.view_waits.proofs.Nothing.{all_each, each_none, only_if_none}

-- ---- what holds of each move of a process, under one `timeout`

module _ (P : Move → Type 0) where
  or_all : (xs ys : List Move) → AllByRecursion P xs → AllByRecursion P ys → AllByRecursion P (or_else xs ys)
  or_all [] ys here there = there
  or_all (x ∷ xs) ys here there = here

  last_all : {A : Type 0} (f : ℕ → A → List Move) → ((i : ℕ) (x : A) → AllByRecursion P (f i x)) → (i : ℕ) (xs : List A) → AllByRecursion P (last f i xs)
  last_all f so i [] = tt
  last_all f so i (x ∷ xs) = or_all (last f (i + 1) xs) (f i x) (last_all f so (i + 1) xs) (so i x)

  pub if_all : (b : Bool) (m : Move) → (b ≡ true → P m) → AllByRecursion P (only_if b m)
  if_all true m so = (so refl, tt)
  if_all false m so = tt

  -- of those of a level
  module _ (s : State) (p : ℕ) (t : Bool) (l : ℕ) (goes : (i : ℕ) → P (Alone (pick p l i) t)) (meets : (i : ℕ) (j : Pick) → P (Pair (pick p l i) j t)) where
    pairs_with_all : (i : ℕ) (m : Message) (j : ℕ) (y : Stand) → AllByRecursion P (pairs_with s t (pick p l i) m j y)
    pairs_with_all i m j y = by (nat_eq j p)
      where
        by : (same : Bool) → AllByRecursion P (if same then [] else last (pairs_on s t (pick p l i) m j) 0 (levels_in (body_of s.program y.sort) y.control))
        by true = tt
        by false = last_all (pairs_on s t (pick p l i) m j) (λ n os. all_each P (λ h o. only_if (accepts s.channels (reads s j t) m o.basic) (Pair (pick p l i) (pick j n h) t)) os
            (λ h o at. if_all (accepts s.channels (reads s j t) m o.basic) (Pair (pick p l i) (pick j n h) t) (λ e. meets i (pick j n h)))) 0 (levels_in (body_of s.program y.sort) y.control)

    pairs_all : (i : ℕ) (m : Option Message) → AllByRecursion P (pairs s t (pick p l i) m)
    pairs_all i None = tt
    pairs_all i (Some m) = all_each P (pairs_with s t (pick p l i) m) s.stands (λ j y at. pairs_with_all i m j y)

    plain_all : (b : Seq) (i : ℕ) (o : Offer) → AllByRecursion P (if is_else o.basic then [] else moves_by s p t b l i o)
    plain_all b i o = by (is_else o.basic) (can_alone s.lossy s.channels (reads s p t) b o o.basic)
      where
        by : (other can : Bool) → AllByRecursion P (if other then [] else (if can then Alone (pick p l i) t ∷ [] else pairs s t (pick p l i) (message s.channels (reads s p t) o.basic)))
        by true can = tt
        by false true = (goes i, tt)
        by false false = pairs_all i (message s.channels (reads s p t) o.basic)

    pub level_all : (b : Seq) (os : List Offer) → AllByRecursion P (moves_on s p t b l os)
    level_all b os = or_all (plain_moves s p t b l os) (else_moves p t l os)
        (all_each P (λ i o. if is_else o.basic then [] else moves_by s p t b l i o) os (λ i o at. plain_all b i o))
        (all_each P (λ i o. only_if (is_else o.basic) (Alone (pick p l i) t)) os (λ i o at. if_all (is_else o.basic) (Alone (pick p l i) t) (λ e. goes i)))

  module _ (s : State) (p : ℕ) (t : Bool) (goes : (k : Pick) → k.process ≡ p → P (Alone k t)) (meets : (k j : Pick) → k.process ≡ p → P (Pair k j t)) where
    pub left_all : (b : Option Seq) (f : Pending) (c : Control) → AllByRecursion P (moves_of s p t b (f ∷ c))
    left_all None f c = tt
    left_all (Some b) f c =
        last_all (moves_on s p t b) (λ l os. level_all s p t l (λ i. goes (pick p l i) refl) (λ i j. meets (pick p l i) j refl) b os) 0 (levels b (f ∷ c))

    pub process_all : (nat_eq (p + 1) (length s.stands) ≡ true → P (Death p)) → (b : Option Seq) (c : Control) → AllByRecursion P (moves_of s p t b c)
    process_all dies b [] = if_all (nat_eq (p + 1) (length s.stands)) (Death p) dies
    process_all dies b (f ∷ c) = left_all b f c

-- ---- the first move

module _ (s : State) where
  abbrev early : List Move
  early = moves_under s false

  abbrev late : List Move
  late = moves_under s true

  all_early : AllByRecursion (λ m. is_late m ≡ false) early
  all_early = all_each (λ m. is_late m ≡ false) (λ p y. moves_at s p false y) s.stands
      (λ p y at. process_all (λ m. is_late m ≡ false) s p false (λ k e. refl) (λ k j e. refl) (λ e. refl) (body_of s.program y.sort) y.control)

  -- where there are none without `timeout`, all of them were found under it
  all_late : early ≡ [] → AllByRecursion (λ m. is_late m ≡ true) late
  all_late none = all_each (λ m. is_late m ≡ true) (λ p y. moves_at s p true y) s.stands
      (λ p y at. by p (body_of s.program y.sort) y.control (each_none (λ q x. moves_at s q false x) s.stands none p y at))
    where
      by : (p : ℕ) (b : Option Seq) (c : Control) → moves_of s p false b c ≡ [] → AllByRecursion (λ m. is_late m ≡ true) (moves_of s p true b c)
      by p b [] no_death = if_all (λ m. is_late m ≡ true) (nat_eq (p + 1) (length s.stands)) (Death p) (λ e. absurd (true≢false (sym e ∙ only_if_none (nat_eq (p + 1) (length s.stands)) (Death p) no_death)))
      by p b (f ∷ c) h = left_all (λ m. is_late m ≡ true) s p true (λ k e. refl) (λ k j e. refl) b f c

  -- where the holder has none without `timeout`, all are of others
  all_others : (h : ℕ) → moves_held s (Some h) ≡ [] → AllByRecursion (λ m. nat_eq (taker m) h ≡ false) early
  all_others h none = all_each (λ m. nat_eq (taker m) h ≡ false) (λ p y. moves_at s p false y) s.stands (λ p y at. by p y at (nat_eq p h) refl)
    where
      by : (p : ℕ) (y : Stand) → slice_get s.stands p ≡ Some y → (b : Bool) → nat_eq p h ≡ b → AllByRecursion (λ m. nat_eq (taker m) h ≡ false) (moves_at s p false y)
      by p y at true is =
          let e : p ≡ h = eqb-true p h is in
          let there : slice_get s.stands h ≡ Some y = ap (slice_get s.stands) (sym e) ∙ at in
          let nothing : moves_at s h false y ≡ [] = ap (moves_if s h) (sym there) ∙ none in
          subst (λ (ms : List Move). AllByRecursion (λ m. nat_eq (taker m) h ≡ false) ms) (sym (ap (λ (q : ℕ). moves_at s q false y) e ∙ nothing)) tt
      by p y at false is = process_all (λ m. nat_eq (taker m) h ≡ false) s p false (λ k e. ap (λ (q : ℕ). nat_eq q h) e ∙ is) (λ k j e. ap (λ (q : ℕ). nat_eq q h) e ∙ is) (λ e. is) (body_of s.program y.sort) y.control

  all_held : (h : ℕ) → AllByRecursion (λ m. (nat_eq (taker m) h && not (is_late m)) ≡ true) (moves_held s (Some h))
  all_held h = by (slice_get s.stands h)
    where
      mine : (m : Move) → taker m ≡ h → is_late m ≡ false → (nat_eq (taker m) h && not (is_late m)) ≡ true
      mine m e f = ap (λ (b : Bool). nat_eq (taker m) h && not b) f ∙ ap (λ (b : Bool). b && true) (eq-eqb (taker m) h e)

      by : (y : Option Stand) → AllByRecursion (λ m. (nat_eq (taker m) h && not (is_late m)) ≡ true) (moves_if s h y)
      by None = tt
      by (Some y) = process_all (λ m. (nat_eq (taker m) h && not (is_late m)) ≡ true) s h false (λ k e. mine (Alone k false) e refl) (λ k j e. mine (Pair k j false) e refl) (λ e. mine (Death h) refl refl) (body_of s.program y.sort) y.control

  -- ---- of those of another search

  pub timeout_is : timeout_by (slice_get (moves s) 0) ≡ last_timeout s
  timeout_is = by_held (moves_held s s.holder) refl
    where
      by_late : early ≡ [] → (ms : List Move) → AllByRecursion (λ m. is_late m ≡ true) ms → timeout_by (slice_get ms 0) ≡ true
      by_late none [] all = refl
      by_late none (m ∷ ms) all = all.0

      by_early : (ms : List Move) → early ≡ ms → AllByRecursion (λ m. is_late m ≡ false) ms → timeout_by (slice_get (or_else ms late) 0) ≡ not (is_some ms)
      by_early [] is all = by_late is late (all_late is)
      by_early (m ∷ ms) is all = all.0

      by_held : (ms : List Move) → moves_held s s.holder ≡ ms → timeout_by (slice_get (moves s) 0) ≡ last_timeout s
      by_held ms is = ap (λ (l : List Move). timeout_by (slice_get (or_else l (or_else early late)) 0)) is ∙ both ms (held_early s.holder ms is) ∙ ap (λ (l : List Move). not (is_some (or_else l early))) (sym is)
        where
          held_early : (h : Option ℕ) (ns : List Move) → moves_held s h ≡ ns → AllByRecursion (λ m. is_late m ≡ false) ns
          held_early h ns e = subst (λ (l : List Move). AllByRecursion (λ m. is_late m ≡ false) l) e (of_held h)
            where
              of_if : (p : ℕ) (y : Option Stand) → AllByRecursion (λ m. is_late m ≡ false) (moves_if s p y)
              of_if p None = tt
              of_if p (Some y) = process_all (λ m. is_late m ≡ false) s p false (λ k e. refl) (λ k j e. refl) (λ e. refl) (body_of s.program y.sort) y.control

              of_held : (o : Option ℕ) → AllByRecursion (λ m. is_late m ≡ false) (moves_held s o)
              of_held None = tt
              of_held (Some p) = of_if p (slice_get s.stands p)

          both : (ns : List Move) → AllByRecursion (λ m. is_late m ≡ false) ns → timeout_by (slice_get (or_else ns (or_else early late)) 0) ≡ not (is_some (or_else ns early))
          both [] all = by_early early refl all_early
          both (m ∷ ns) all = all.0

  pub control_is : control_by s.holder (slice_get (moves s) 0) ≡ in_control s
  control_is = by s.holder (moves_held s s.holder) refl refl
    where
      late_none : (h : ℕ) (ms : List Move) → AllByRecursion (λ m. is_late m ≡ true) ms → control_by (Some h) (slice_get ms 0) ≡ None
      late_none h [] all = refl
      late_none h (m ∷ ms) all = ap (λ (b : Bool). if b then Some h else None) (ap (λ (b : Bool). nat_eq (taker m) h && not b) all.0 ∙ and_false (nat_eq (taker m) h))
        where
          and_false : (b : Bool) → (b && false) ≡ false
          and_false true = refl
          and_false false = refl

      early_none : (h : ℕ) (ms : List Move) → early ≡ ms → AllByRecursion (λ m. nat_eq (taker m) h ≡ false) ms → control_by (Some h) (slice_get (or_else ms late) 0) ≡ None
      early_none h [] is all = late_none h late (all_late is)
      early_none h (m ∷ ms) is all = ap (λ (b : Bool). if b && not (is_late m) then Some h else None) all.0

      held_first : (h : ℕ) (ms : List Move) → AllByRecursion (λ m. (nat_eq (taker m) h && not (is_late m)) ≡ true) ms → moves_held s (Some h) ≡ ms
          → control_by (Some h) (slice_get (or_else ms (or_else early late)) 0) ≡ (if is_some ms then Some h else None)
      held_first h [] all is = early_none h early refl (all_others h is)
      held_first h (m ∷ ms) all is = ap (λ (b : Bool). if b then Some h else None) all.0

      nobody : Option ℕ
      nobody = None

      none_has : (b : Bool) → None ≡ (if b then nobody else None)
      none_has true = refl
      none_has false = refl

      by : (h : Option ℕ) (ms : List Move) → s.holder ≡ h → moves_held s s.holder ≡ ms → control_by s.holder (slice_get (moves s) 0) ≡ in_control s
      by None ms is held = ap (λ (o : Option ℕ). control_by o (slice_get (moves s) 0)) is ∙ none_has (is_some (moves_held s s.holder)) ∙ ap (λ (o : Option ℕ). if is_some (moves_held s s.holder) then o else None) (sym is)
      by (Some h) ms is held =
          ap (λ (o : Option ℕ). control_by o (slice_get (or_else (moves_held s o) (or_else early late)) 0)) is
          ∙ held_first h (moves_held s (Some h)) (all_held h) refl
          ∙ ap (λ (o : Option ℕ). if is_some (moves_held s o) then o else None) (sym is)
