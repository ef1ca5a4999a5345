-- The moves of who is asked first are those of the state.
use Rattle.std.proofs.Common.{◌≡◌, ℕ, ◌+◌, ◌-◌, ◌<◌, false, true, if◌then◌else◌, List, [], ◌∷◌, ◌++◌, length, map, take, drop, append-nil, append_assoc, Option, Some, None, sym, ap, ◌∙◌, subst, arith}
use Rattle.std.proofs.Math.Seq.{take-append_seam}
use Rattle.std.specs.Prelude.{slice_get, slice_index_or}
use Rattle.pml_flow.specs.declared.edge.Edge.{Edge}
use Rattle.promela_process.specs.Offers.{Offer}
use Rattle.run_state.specs.declared.body.Body.{Body}
use Rattle.run_state.specs.declared.seat.Seat.{Seat}
use Rattle.run_state.specs.Standing.{stand_of, shows, seq_of}
use Rattle.run_search.specs.Kept.{Extends}
use Rattle.promela_run.specs.declared.moves.Move.{Move}
use Rattle.promela_run.specs.State.{State, Stand}
use Rattle.promela_run.specs.Moves.{or_else, each, is_else, pick, moves_by, plain_moves, else_moves, moves_at, moves_under, moves_held, moves}
use Rattle.run_search.specs.First.{AreFirst, moves_from, moves_of_level, moves_of_offer}
use Rattle.run_search.specs.Lifted.{moves_if}
use Rattle.run_state.proofs.Finding.{opens, held, index_total}
use Rattle.run_search.proofs.Searching.{or_else_none, or_else_some}

-- the holder's
pub of_holder : (s : State) (p : ℕ) (y : Stand) → s.holder ≡ Some p → slice_get s.stands p ≡ Some y → AreFirst s (moves_at s p false y)
of_holder s p y holds at =
    let held : moves_held s s.holder ≡ moves_at s p false y =
    ap (λ (h : Option ℕ). moves_held s h) holds ∙ ap (λ (o : Option Stand). moves_if s p o) at in
    record {
      some = λ k. or_else_some (moves_held s s.holder) (or_else (moves_under s false) (moves_under s true)) (λ z. k (sym held ∙ z)) ∙ held;
      none = λ e. held ∙ e;
    }

pub none_holds : (s : State) → s.holder ≡ None → moves_held s s.holder ≡ []
none_holds s e = ap (λ (h : Option ℕ). moves_held s h) e

one : {A : Type 0} (xs : List A) (x : A) → length xs ≡ 1 → slice_get xs 0 ≡ Some x → xs ≡ x ∷ []
one [] x n e = cc
one (y ∷ []) x n e = let same : y ≡ x = cc in ap (λ z. z ∷ []) same
one (y ∷ z ∷ xs) x n e = cc

-- those of the only process
pub of_only : (s : State) (y : Stand) → s.holder ≡ None → length s.stands ≡ 1 → slice_get s.stands 0 ≡ Some y → AreFirst s (moves_at s 0 false y)
of_only s y e n at =
    let held : moves_held s s.holder ≡ [] = none_holds s e in
    let under : moves_under s false ≡ moves_at s 0 false y =
    ap (λ (ys : List Stand). each (λ p x. moves_at s p false x) 0 ys) (one s.stands y n at) ∙ append-nil (moves_at s 0 false y) in
    record {
      some = λ k. or_else_none (moves_held s s.holder) (or_else (moves_under s false) (moves_under s true)) held
          ∙ (or_else_some (moves_under s false) (moves_under s true) (λ z. k (sym under ∙ z)) ∙ under);
      none = λ z. held;
    }

-- those of the process that stands there
pub of_seat : (s : State) (p : ℕ) (xs : List Seat) (d : Seat) → map (stand_of s.program) xs ≡ s.stands → p < length s.stands
    → ((y : Stand) → slice_get s.stands p ≡ Some y → AreFirst s (moves_at s p false y)) → AreFirst s (moves_from s p (slice_index_or xs p d))
of_seat s p xs d e l first =
    let g : Seat → Stand = stand_of s.program in
    let there : p < length (map g xs) = subst (λ (ys : List Stand). p < length ys) (sym e) l in
    first (g (slice_index_or xs p d)) (ap (λ (ys : List Stand). slice_get ys p) (sym e) ∙ (held (map g xs) p (g d) there ∙ ap Some (index_total g xs p d)))

-- ---- what is added

-- one more of a level
pub one_more : (s : State) (k : Body) (p i : ℕ) (es : List Edge) (d : Edge) (new mid old : List Move) → i < length es
    → new ≡ mid ++ moves_of_offer s k (pick p 0 i) (slice_index_or es i d)
    → mid ++ each (λ (j : ℕ) (o : Offer). if is_else o.basic then [] else moves_by s p false (seq_of k) 0 j o) i (map (shows k) (drop i es)) ≡ old ++ plain_moves s p false (seq_of k) 0 (map (shows k) es)
    → new ++ each (λ (j : ℕ) (o : Offer). if is_else o.basic then [] else moves_by s p false (seq_of k) 0 j o) (i + 1) (map (shows k) (drop (i + 1) es)) ≡ old ++ plain_moves s p false (seq_of k) 0 (map (shows k) es)
one_more s k p i es d new mid old l e h =
    let f : ℕ → Offer → List Move = λ j o. if is_else o.basic then [] else moves_by s p false (seq_of k) 0 j o in
    let rest : List Move = each f (i + 1) (map (shows k) (drop (i + 1) es)) in
    ap (λ (ms : List Move). ms ++ rest) e
    ∙ (append_assoc mid (moves_of_offer s k (pick p 0 i) (slice_index_or es i d)) rest
    ∙ (ap (λ (ys : List Edge). mid ++ each f i (map (shows k) ys)) (sym (opens es i d l)) ∙ h))

-- what stood before the last ones
pub before_those : (new old : List Move) (n : ℕ) → Extends new old → length new ≡ length old + n → take (length new - n) new ≡ old
before_those new old n h l =
    let k : length new - n ≡ length old = omega (arith, l) in
    ap (λ (i : ℕ). take i new) k ∙ (ap (λ (ms : List Move). take (length old) ms) h.is ∙ take-append_seam old h.more)

-- a level whose plain offers give a move each
pub of_level : (s : State) (k : Body) (p : ℕ) (es : List Edge) (new old : List Move) → AreFirst s (moves_of_level s k p es) → (length es ≡ 0 → ⊥)
    → new ≡ old ++ plain_moves s p false (seq_of k) 0 (map (shows k) es) → length new ≡ length old + length es → new ≡ old ++ moves s
of_level s k p es new old first some e l =
    let plain : List Move = plain_moves s p false (seq_of k) 0 (map (shows k) es) in
    let others : List Move = else_moves p false 0 (map (shows k) es) in
    let none : (plain ≡ [] → ⊥) = λ z. some (let m : length new ≡ length old = ap length (e ∙ (ap (λ (ms : List Move). old ++ ms) z ∙ append-nil old)) in omega (arith, l, m)) in
    let level : moves_of_level s k p es ≡ plain = or_else_some plain others none in
    e ∙ ap (λ (ms : List Move). old ++ ms) (sym (first.some (λ z. none (sym level ∙ z)) ∙ level))
