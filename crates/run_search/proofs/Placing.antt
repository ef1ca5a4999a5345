-- The moves and the pairs of a process, by its node.
use Rattle.std.proofs.Common.{◌≡◌, ℕ, ◌+◌, ◌≤◌, Bool, false, nat_eq, if◌then◌else◌, List, [], ◌∷◌, length, map, refl, sym, ap, ◌∙◌, Option, Some, None}
use Rattle.std.specs.Prelude.{slice_get}
use Rattle.pml_program.specs.declared.program.Seq.{Seq}
use Rattle.promela_process.specs.Control.{Control}
use Rattle.pml_flow.specs.Points.{point_at}
use Rattle.promela_process.specs.Offers.{Offer}
use Rattle.promela_run.specs.declared.moves.Move.TheVariants.{Death}
use Rattle.promela_run.specs.declared.moves.Pick.{Pick}
use Rattle.run_state.specs.declared.seat.Seat.{Seat}
use Rattle.run_state.specs.declared.body.Body.{Body}
use Rattle.promela_run.specs.State.{State, Stand, body_of, levels, levels_in, picked}
use Rattle.promela_run.specs.Moves.{Message, last, only_if, pairs_on, pairs_with, moves_on, moves_of, moves_at, moves_held}
use Rattle.run_search.specs.Lifted.{offer_on, offer_at, moves_if}
use Rattle.run_state.specs.Standing.{control_at, stand_of, StandsIn, shows, edges_at}
use Rattle.run_state.proofs.Finding.{past}
use Rattle.run_state.proofs.Placing.{at_node}

-- ---- the moves of a process

moves_left : (s : State) (p : ℕ) (t : Bool) (b : Seq) (c : Control) → (c ≡ [] → ⊥) → moves_of s p t (Some b) c ≡ last (moves_on s p t b) 0 (levels b c)
moves_left s p t b [] h = absurd (h refl)
moves_left s p t b (f ∷ c) h = refl

-- those of the edges of its node
pub moves_in : (x : Seat) (k : Body) (s : State) (p : ℕ) (t : Bool) → StandsIn s x k → moves_at s p t (stand_of s.program x) ≡ last (moves_on s p t k.proctype.now.body) 0 (map (map (shows k)) (edges_at k x.node))
moves_in x k s p t h =
    let b : Seq = k.proctype.now.body in
    ap (λ (o : Option Seq). moves_of s p t o (control_at o x.node)) h.body
    ∙ moves_left s p t b (point_at b x.node) h.left
    ∙ ap (λ (ls : List (List Offer)). last (moves_on s p t b) 0 ls) (sym (at_node k x.node h.is))

-- at its closing brace the death
pub moves_closed : (s : State) (p : ℕ) (t : Bool) (y : Stand) → y.control ≡ [] → moves_at s p t y ≡ only_if (nat_eq (p + 1) (length s.stands)) (Death p)
moves_closed s p t y e = ap (λ (c : Control). moves_of s p t (body_of s.program y.sort) c) e

-- ---- the pairs with a process

another : (s : State) (t : Bool) (q : Pick) (m : Message) (j : ℕ) (y : Stand) (ls : List (List Offer)) → nat_eq j q.process ≡ false → levels_in (body_of s.program y.sort) y.control ≡ ls → pairs_with s t q m j y ≡ last (pairs_on s t q m j) 0 ls
another s t q m j y ls e h =
    ap (λ (b : Bool). if b then [] else last (pairs_on s t q m j) 0 (levels_in (body_of s.program y.sort) y.control)) e
    ∙ ap (λ (l : List (List Offer)). last (pairs_on s t q m j) 0 l) h

no_levels : (o : Option Seq) → levels_in o [] ≡ []
no_levels None = refl
no_levels (Some b) = refl

pub pairs_in : (x : Seat) (k : Body) (s : State) (t : Bool) (q : Pick) (m : Message) (j : ℕ) → nat_eq j q.process ≡ false → StandsIn s x k → pairs_with s t q m j (stand_of s.program x) ≡ last (pairs_on s t q m j) 0 (map (map (shows k)) (edges_at k x.node))
pairs_in x k s t q m j n h =
    let b : Seq = k.proctype.now.body in
    another s t q m j (stand_of s.program x) (map (map (shows k)) (edges_at k x.node)) n
    (ap (λ (o : Option Seq). levels_in o (control_at o x.node)) h.body ∙ sym (at_node k x.node h.is))

-- none at its closing brace
pub pairs_closed : (s : State) (t : Bool) (q : Pick) (m : Message) (j : ℕ) (y : Stand) → nat_eq j q.process ≡ false → y.control ≡ [] → pairs_with s t q m j y ≡ []
pairs_closed s t q m j y n e =
    another s t q m j y [] n (ap (λ (c : Control). levels_in (body_of s.program y.sort) c) e ∙ no_levels (body_of s.program y.sort))

-- a holder that is not there has no moves
pub none_held : (s : State) (p : ℕ) → length s.stands ≤ p → moves_held s (Some p) ≡ []
none_held s p h = ap (λ (o : Option Stand). moves_if s p o) (past s.stands p h)

-- ---- the offer that a pick names

-- that of the edge at its place
pub picked_in : (s : State) (p : Pick) (x : Seat) (k : Body) → slice_get s.stands p.process ≡ Some (stand_of s.program x) → StandsIn s x k → offer_on (slice_get (map (map (shows k)) (edges_at k x.node)) p.level) p.place ≡ picked s p
picked_in s p x k at h =
    let levels : levels_in (body_of s.program x.sort) (control_at (body_of s.program x.sort) x.node) ≡ map (map (shows k)) (edges_at k x.node) =
    ap (λ (o : Option Seq). levels_in o (control_at o x.node)) h.body ∙ sym (at_node k x.node h.is) in
    sym (ap (λ (o : Option Stand). offer_at s p o) at ∙ ap (λ (ls : List (List Offer)). offer_on (slice_get ls p.level) p.place) levels)
