-- A process that takes part in no move has none of its own.
use Rattle.std.proofs.Common.{◌≡◌, ◌∙◌, ap, sym, refl, ℕ, zero, suc, ◌<◌, Bool, true, false, not, ◌||◌, nat_eq, if◌then◌else◌, List, [], ◌∷◌, length, get_or, Option, Some, None, arith, eq-eqb}
use Rattle.std.specs.Prelude.{slice_get}
use Rattle.std.specs.List.{list_any, AllByRecursion}
use Rattle.std.proofs.lemmas.Bool.{true≢false}
use Rattle.std.proofs.lemmas.Option.{none-some}
use Rattle.pml_program.specs.declared.program.Seq.{Seq}
use Rattle.promela_process.specs.Control.{Control, Pending}
use Rattle.promela_process.specs.Offers.{Offer}
use Rattle.promela_run.specs.declared.moves.Move.{Move}
use Rattle.promela_run.specs.declared.moves.Move.TheVariants.{Alone}
use Rattle.promela_run.specs.State.{Stand, State, body_of, levels}
use Rattle.promela_run.specs.Moves.{or_else, is_some, is_else, only_if, pick, moves_by, plain_moves, else_moves, moves_on, moves_of, moves_at, moves_under, moves_held, moves}
use Rattle.run_search.specs.Lifted.{moves_if}
use Rattle.view_waits.specs.Waits.{takes_part, is_in, in_control, last_timeout}
use Rattle.view_waits.proofs.Searched.{process_all}
use Rattle.view_waits.proofs.Nothing.{each_none, last_none, or_else_none, or_else_first, only_if_none, some_none, either_none, any_none}

-- ---- what is in none of these moves

none_taken : (test : Move → Bool) (ms : List Move) → AllByRecursion (λ m. test m ≡ true) ms → list_any test ms ≡ false → ms ≡ []
none_taken test [] each none = refl
none_taken test (m ∷ ms) each none = absurd (true≢false (sym each.0 ∙ (either_none (test m) (list_any test ms) none).0))

pub none_at : (test : Move → Bool) (m : Move) (ms : List Move) → list_any test ms ≡ false → (k : ℕ) → k < length ms → get_or ms k m ≡ m → test m ≡ false
none_at test m [] none k below is = absurd (omega (arith, below))
none_at test m (n ∷ ms) none zero below is = ap test (sym is) ∙ (either_none (test n) (list_any test ms) none).0
none_at test m (n ∷ ms) none (suc k) below is = none_at test m ms (either_none (test n) (list_any test ms) none).1 k (omega (arith, below)) is

module _ (s : State) (p : ℕ) where
  -- a move that a process takes is one in which it takes part
  pub own_moves : (t : Bool) (b : Option Seq) (c : Control) → AllByRecursion (λ m. takes_part p m ≡ true) (moves_of s p t b c)
  own_moves t b c = process_all (λ m. takes_part p m ≡ true) s p t (λ k e. eq-eqb k.process p e)
      (λ k j e. ap (λ (z : Bool). z || nat_eq j.process p) (eq-eqb k.process p e)) (λ e. eq-eqb p p refl) b c

  -- ---- who has exclusive control

  -- where someone has it and a move
  pub in_control_is : (h : ℕ) → in_control s ≡ Some h → (s.holder ≡ Some h) × (is_some (moves_held s (Some h)) ≡ true)
  in_control_is h is = by (is_some (moves_held s s.holder)) refl is
    where
      by : (b : Bool) → is_some (moves_held s s.holder) ≡ b → (if b then s.holder else None) ≡ Some h → (s.holder ≡ Some h) × (is_some (moves_held s (Some h)) ≡ true)
      by true has holds = (holds, ap (λ (o : Option ℕ). is_some (moves_held s o)) (sym holds) ∙ has)
      by false has holds = absurd (none-some h holds)

  -- it is another than who takes part in no move
  pub another_holds : (h : ℕ) → in_control s ≡ Some h → is_in p (moves s) ≡ false → h ≡ p → ⊥
  another_holds h is out same =
      let held = in_control_is h is in
      let mine : is_some (moves_held s (Some p)) ≡ true = ap (λ (k : ℕ). is_some (moves_held s (Some k))) (sym same) ∙ held.1 in
      let holder : s.holder ≡ Some p = held.0 ∙ ap (λ (k : ℕ). Some k) same in
      let first : moves s ≡ moves_held s (Some p) =
      ap (λ (o : Option ℕ). or_else (moves_held s o) (or_else (moves_under s false) (moves_under s true))) holder ∙ or_else_first (moves_held s (Some p)) (or_else (moves_under s false) (moves_under s true)) mine in
      let none = none_taken (takes_part p) (moves_held s (Some p)) (own_held (slice_get s.stands p)) (ap (λ (ms : List Move). list_any (takes_part p) ms) (sym first) ∙ out) in
      true≢false (sym mine ∙ ap (λ (ms : List Move). is_some ms) none)
    where
      own_held : (y : Option Stand) → AllByRecursion (λ m. takes_part p m ≡ true) (moves_if s p y)
      own_held None = tt
      own_held (Some y) = own_moves false (body_of s.program y.sort) y.control

  -- where nobody has
  pub none_held : in_control s ≡ None → moves_held s s.holder ≡ []
  none_held is = by (is_some (moves_held s s.holder)) refl is
    where
      by : (b : Bool) → is_some (moves_held s s.holder) ≡ b → (if b then s.holder else None) ≡ None → moves_held s s.holder ≡ []
      by true has nobody = ap (moves_held s) nobody
      by false has nobody = some_none (moves_held s s.holder) has

  pub searched : moves_held s s.holder ≡ [] → moves s ≡ moves_under s (last_timeout s)
  searched none =
      ap (λ (ms : List Move). or_else ms (or_else (moves_under s false) (moves_under s true))) none
      ∙ by (moves_under s false) refl
      ∙ ap (λ (ms : List Move). moves_under s (not (is_some (or_else ms (moves_under s false))))) (sym none)
    where
      by : (ms : List Move) → moves_under s false ≡ ms → or_else ms (moves_under s true) ≡ moves_under s (not (is_some ms))
      by [] is = refl
      by (m ∷ ms) is = sym is

  -- ---- a process that takes part in no move

  pub no_own : in_control s ≡ None → is_in p (moves s) ≡ false → (y : Stand) → slice_get s.stands p ≡ Some y → moves_at s p (last_timeout s) y ≡ []
  no_own nobody out y at =
      let under : list_any (takes_part p) (moves_under s (last_timeout s)) ≡ false = ap (λ (ms : List Move). list_any (takes_part p) ms) (sym (searched (none_held nobody))) ∙ out in
      none_taken (takes_part p) (moves_at s p (last_timeout s) y) (own_moves (last_timeout s) (body_of s.program y.sort) y.control)
      (any_none (takes_part p) (λ q x. moves_at s q (last_timeout s) x) s.stands under p y at)

  -- so each of its offers gives none, and is no `else`
  pub no_offered : (t : Bool) (b : Seq) (f : Pending) (c : Control) → moves_of s p t (Some b) (f ∷ c) ≡ [] → (l : ℕ) (os : List Offer) → slice_get (levels b (f ∷ c)) l ≡ Some os
      → (i : ℕ) (o : Offer) → slice_get os i ≡ Some o → (is_else o.basic ≡ false) × (moves_by s p t b l i o ≡ [])
  no_offered t b f c none l os on i o at =
      let level = or_else_none (plain_moves s p t b l os) (else_moves p t l os) (last_none (moves_on s p t b) (levels b (f ∷ c)) none l os on) in
      let other = only_if_none (is_else o.basic) (Alone (pick p l i) t) (each_none (λ n (q : Offer). only_if (is_else q.basic) (Alone (pick p l n) t)) os level.1 i o at) in
      let plain = each_none (λ n (q : Offer). if is_else q.basic then [] else moves_by s p t b l n q) os level.0 i o at in
      (other, ap (λ (z : Bool). if z then [] else moves_by s p t b l i o) (sym other) ∙ plain)
