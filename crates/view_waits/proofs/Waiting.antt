-- What a process waits for: true reasons, and something where it takes part in no move.
use Rattle.std.proofs.Common.{◌≡◌, ◌∙◌, ap, sym, subst, refl, ℕ, ◌+◌, ◌-◌, ◌<◌, ◌⊎◌, inl, inr, Bool, true, false, nat_eq, if◌then◌else◌, List, [], ◌∷◌, length, Option, Some, None, arith}
use Rattle.std.specs.Prelude.{slice_get}
use Rattle.std.specs.List.{AllByRecursion, Contains}
use Rattle.std.proofs.lemmas.Bool.{eqb-false}
use Rattle.std.proofs.lemmas.Option.{none-some, same_Some, slice_get_within}
use Rattle.pml_program.specs.declared.program.Seq.{Seq}
use Rattle.promela_process.specs.Control.{Control, Pending}
use Rattle.promela_process.specs.Offers.{Offer}
use Rattle.promela_run.specs.declared.moves.Pick.{Pick}
use Rattle.promela_run.specs.declared.moves.Move.TheVariants.{Death}
use Rattle.promela_run.specs.State.{picked, Stand, State, reads, body_of, levels, levels_in}
use Rattle.promela_run.specs.Moves.{pick, moves, moves_of}
use Rattle.run_search.specs.Lifted.{offer_at, offer_on}
use Rattle.view_waits.specs.declared.because.Because.TheVariants as why
use Rattle.view_waits.specs.declared.waits.Wait.{Wait}
use Rattle.view_waits.specs.Laws.{ReasonsAreTrue, IsOfferedNothing, MovesWithoutWaiting, WaitsWithoutMoves, WaitsForEachOffer}
use Rattle.view_waits.specs.Waits.{is_in, in_control, last_timeout, wait_of, waits_on, waits_down, waits_left, waits_at, waits_behind}
use Rattle.view_waits.specs.Why.{IsTrueOf, held, younger}
use Rattle.view_waits.proofs.Blocked.{in_control_is, another_holds, no_own, no_offered}
use Rattle.view_waits.proofs.Nothing.{all_each, each_none, each_contains, at_end, only_if_none}
use Rattle.view_waits.proofs.Senders.{who_sends}
use Rattle.view_waits.proofs.Reasons.{offer_why, Lies, lies}

-- ---- true reasons

module _ (s : State) (p : ℕ) (out : is_in p (moves s) ≡ false) where
  youngest_waits : (y : Stand) → slice_get s.stands p ≡ Some y → y.control ≡ [] → nat_eq (p + 1) (length s.stands) ≡ false → IsTrueOf s p (record { pick = None; because = why.Younger (length s.stands - 1); timeout = false })
  youngest_waits y at closed old =
      let lives : p < length s.stands = slice_get_within s.stands p y at in
      let not_last = eqb-false (p + 1) (length s.stands) old in
      younger at closed (omega (arith, lives)) (omega (arith, lives, not_last))

  -- where an offer of a level is found
  at_level : (y : Stand) → slice_get s.stands p ≡ Some y → (c : Control) → y.control ≡ c → (b : Seq) → body_of s.program y.sort ≡ Some b → (l : ℕ) (os : List Offer) → slice_get (levels b c) l ≡ Some os
      → (i : ℕ) (o : Offer) → slice_get os i ≡ Some o → picked s (pick p l i) ≡ Some o
  at_level y at c is b body l os on i o there =
      ap (offer_at s (pick p l i)) at
      ∙ ap (λ (d : Control). offer_on (slice_get (levels_in (body_of s.program y.sort) d) l) i) is
      ∙ ap (λ (x : Option Seq). offer_on (slice_get (levels_in x c) l) i) body
      ∙ ap (λ (x : Option (List Offer)). offer_on x i) on
      ∙ there

  module _ (nobody : in_control s ≡ None) (y : Stand) (at : slice_get s.stands p ≡ Some y) where
    abbrev t : Bool
    t = last_timeout s

    offered_true : (f : Pending) (c : Control) → y.control ≡ f ∷ c → (b : Seq) → body_of s.program y.sort ≡ Some b → moves_of s p t (Some b) (f ∷ c) ≡ [] → (l : ℕ) (os : List Offer) → slice_get (levels b (f ∷ c)) l ≡ Some os
        → (i : ℕ) (o : Offer) → slice_get os i ≡ Some o → IsTrueOf s p (wait_of s.channels (reads s p t) (pick p l i) o)
    offered_true f c is b body none l os on i o there =
        let found = at_level y at (f ∷ c) is b body l os on i o there in
        let gives = no_offered s p t b f c none l os on i o there in (
          refl,
          refl,
          o,
          found,
          offer_why s t (pick p l i) o y b at body (who_sends s p out nobody (pick p l i) o refl found) gives.0 gives.1,
        )

    left_true : (c : Control) → y.control ≡ c → (b : Option Seq) → body_of s.program y.sort ≡ b → moves_of s p t b c ≡ [] → AllByRecursion (IsTrueOf s p) (waits_left s t p b c)
    left_true [] is b body none = (youngest_waits y at is (only_if_none (nat_eq (p + 1) (length s.stands)) (Death p) none), tt)
    left_true (f ∷ c) is None body none = tt
    left_true (f ∷ c) is (Some b) body none =
        all_each (IsTrueOf s p) (waits_on s.channels (reads s p t) p) (levels b (f ∷ c))
        (λ l os on. all_each (IsTrueOf s p) (λ i (o : Offer). wait_of s.channels (reads s p t) (pick p l i) o ∷ []) os (λ i o there. (offered_true f c is b body none l os on i o there, tt)))

  at_true : in_control s ≡ None → (y : Option Stand) → slice_get s.stands p ≡ y → AllByRecursion (IsTrueOf s p) (waits_at s (last_timeout s) p y)
  at_true nobody None at = tt
  at_true nobody (Some y) at = left_true nobody y at y.control refl (body_of s.program y.sort) refl (no_own s p nobody out y at)

  behind_true : (h : Option ℕ) → in_control s ≡ h → AllByRecursion (IsTrueOf s p) (waits_behind s p h)
  behind_true (Some h) is = let has = in_control_is s p h is in (held has.0 (another_holds s p h is out) has.1, tt)
  behind_true None is = at_true is (slice_get s.stands p) refl

pub reasons_are_true : ReasonsAreTrue
reasons_are_true s p = by (is_in p (moves s)) refl
  where
    by : (b : Bool) → is_in p (moves s) ≡ b → AllByRecursion (IsTrueOf s p) (if b then [] else waits_behind s p (in_control s))
    by true is = tt
    by false is = behind_true s p is (in_control s) refl

-- ---- something, where it takes part in no move

pub moves_without_waiting : MovesWithoutWaiting
moves_without_waiting s p is = ap (λ (b : Bool). if b then [] else waits_behind s p (in_control s)) is

-- what nothing waits for is not offered
module _ (s : State) (p : ℕ) (t : Bool) where
  none_waits : (y : Stand) → slice_get s.stands p ≡ Some y → (c : Control) → y.control ≡ c → waits_left s t p (body_of s.program y.sort) c ≡ [] → (j : Pick) → j.process ≡ p → (o : Offer) → Lies s j o → ⊥
  none_waits y at [] is none j own o l = cc
  none_waits y at (f ∷ c) is none j own o l =
      let same : l.stand ≡ y = same_Some l.stand y (sym l.stands ∙ ap (λ (q : ℕ). slice_get s.stands q) own ∙ at) in
      let on : slice_get (levels_in (body_of s.program y.sort) (f ∷ c)) j.level ≡ Some l.level =
      ap (λ (d : Control). slice_get (levels_in (body_of s.program y.sort) d) j.level) (sym is) ∙ ap (λ (z : Stand). slice_get (levels_in (body_of s.program z.sort) z.control) j.level) (sym same) ∙ l.on in
      let level = each_none (waits_on s.channels (reads s p t) p) (levels_in (body_of s.program y.sort) (f ∷ c)) none j.level l.level on in
      let place = each_none (λ i (q : Offer). wait_of s.channels (reads s p t) (pick p j.level i) q ∷ []) l.level level j.place o l.at in
      no_wait (wait_of s.channels (reads s p t) (pick p j.level j.place) o) place
    where
      no_wait : (w : Wait) → (w ∷ []) ≡ [] → ⊥
      no_wait w h = cc

  offered_nothing : (y : Stand) → slice_get s.stands p ≡ Some y → waits_at s t p (Some y) ≡ [] → IsOfferedNothing s p
  offered_nothing y at none j own = by (picked s j) refl
    where
      by : (o : Option Offer) → picked s j ≡ o → picked s j ≡ None
      by None is = is
      by (Some o) is = absurd (none_waits y at y.control refl none j own o (lies s j o is))

pub waits_without_moves : WaitsWithoutMoves
waits_without_moves s p lives = by (is_in p (moves s)) refl
  where
    stood : (y : Option Stand) → slice_get s.stands p ≡ y → waits_at s (last_timeout s) p y ≡ [] → IsOfferedNothing s p
    stood None at none = absurd (let past = at_end s.stands p at in omega (arith, past, lives))
    stood (Some y) at none = offered_nothing s p (last_timeout s) y at none

    behind : (h : Option ℕ) → waits_behind s p h ≡ [] → IsOfferedNothing s p
    behind (Some h) none = cc
    behind None none = stood (slice_get s.stands p) refl none

    by : (b : Bool) → is_in p (moves s) ≡ b → (if b then [] else waits_behind s p (in_control s)) ≡ [] → (is_in p (moves s) ≡ true) ⊎ IsOfferedNothing s p
    by true is none = inl is
    by false is none = inr (behind (in_control s) none)

-- ---- each offer, where nobody has exclusive control and a move

-- nothing is offered at the closing brace
no_levels : (x : Option Seq) → levels_in x [] ≡ []
no_levels None = refl
no_levels (Some b) = refl

module _ (s : State) (k : Pick) (o : Offer) (l : Lies s k o) where
  abbrev here : ℕ
  here = k.process

  one : (w : Wait) → Contains (w ∷ []) w
  one w = (0, omega arith, refl)

  among : Contains (waits_down s.channels (reads s here (last_timeout s)) here (levels_in (body_of s.program l.stand.sort) l.stand.control)) (wait_of s.channels (reads s here (last_timeout s)) k o)
  among =
      let w : Wait = wait_of s.channels (reads s here (last_timeout s)) k o in
      each_contains (waits_on s.channels (reads s here (last_timeout s)) here) (levels_in (body_of s.program l.stand.sort) l.stand.control) k.level l.level l.on w
      (each_contains (λ i (q : Offer). wait_of s.channels (reads s here (last_timeout s)) (pick here k.level i) q ∷ []) l.level k.place o l.at w (one w))

  left_among : (c : Control) → l.stand.control ≡ c → Contains (waits_left s (last_timeout s) here (body_of s.program l.stand.sort) c) (wait_of s.channels (reads s here (last_timeout s)) k o)
  left_among [] is = absurd (none-some l.level (sym (ap (λ (ls : List (List Offer)). slice_get ls k.level) (no_levels (body_of s.program l.stand.sort))) ∙ ap (λ (d : Control). slice_get (levels_in (body_of s.program l.stand.sort) d) k.level) (sym is) ∙ l.on))
  left_among (f ∷ c) is = subst (λ (d : Control). Contains (waits_down s.channels (reads s here (last_timeout s)) here (levels_in (body_of s.program l.stand.sort) d)) (wait_of s.channels (reads s here (last_timeout s)) k o)) is among

pub waits_for_each_offer : WaitsForEachOffer
waits_for_each_offer s k o out nobody is =
    let l = lies s k o is in
    let w : Wait = wait_of s.channels (reads s k.process (last_timeout s)) k o in
    let at : Contains (waits_at s (last_timeout s) k.process (slice_get s.stands k.process)) w =
    subst (λ (y : Option Stand). Contains (waits_at s (last_timeout s) k.process y) w) (sym l.stands) (left_among s k o l l.stand.control refl) in
    subst (λ (b : Bool). Contains (if b then [] else waits_behind s k.process (in_control s)) w) (sym out)
    (subst (λ (h : Option ℕ). Contains (waits_behind s k.process h) w) (sym nobody) at)
