-- What is added to a list of waits, piece by piece.
use Rattle.std.proofs.Common.{◌≡◌, ◌∙◌, ap, sym, refl, ℕ, ◌+◌, ◌<◌, ◌≤◌, Bool, false, if◌then◌else◌, List, [], ◌∷◌, ◌++◌, length, drop, map, Option, Some, arith, append-nil, append_assoc}
use Rattle.std.specs.Prelude.{slice_get, slice_index_or}
use Rattle.std.proofs.lemmas.List.{length-map}
use Rattle.pml_program.specs.declared.program.Seq.{Seq}
use Rattle.promela_process.specs.Control.{Control}
use Rattle.pml_flow.specs.declared.edge.Edge.{Edge}
use Rattle.promela_process.specs.Offers.{Offer}
use Rattle.pml_flow.specs.Points.{point_at}
use Rattle.promela_process.specs.Expressions.{Reading}
use Rattle.promela_run.specs.declared.live_channel.LiveChannel.{LiveChannel}
use Rattle.promela_run.specs.declared.moves.Move.{Move}
use Rattle.run_state.specs.declared.seat.Seat.{Seat}
use Rattle.run_state.specs.declared.body.Body.{Body}
use Rattle.run_state.specs.Standing.{stand_of, control_at, shows, edges_at, offers_at, StandsIn}
use Rattle.promela_run.specs.Moves.{each, moves}
use Rattle.promela_run.specs.State.{Stand, State, reads, body_of, levels}
use Rattle.run_state.proofs.Placing.{at_node, level_is}
use Rattle.run_state.proofs.Finding.{opens, past}
use Rattle.view_waits.specs.declared.waits.Wait.{Wait}
use Rattle.view_waits.specs.Searched.{control_by}
use Rattle.view_waits.specs.Waits.{is_in, in_control, waits_on, waits_down, waits_left, waits_at, waits_behind, waits}
use Rattle.view_waits.proofs.Searched.{control_is}

-- one level more
pub level_more : (cs : List LiveChannel) (r : Reading) (p : ℕ) (b : Body) (n k : ℕ) (es : List Edge) (old now new : List Wait) → es ≡ slice_index_or (edges_at b n) k [] → k < length (edges_at b n)
    → now ++ each (waits_on cs r p) k (drop k (offers_at b n)) ≡ old ++ each (waits_on cs r p) 0 (offers_at b n) → new ≡ now ++ waits_on cs r p k (map (shows b) es)
    → new ++ each (waits_on cs r p) (k + 1) (drop (k + 1) (offers_at b n)) ≡ old ++ each (waits_on cs r p) 0 (offers_at b n)
level_more cs r p b n k es old now new is below so_far added =
    let at = level_is b n k es is below in
    let rest = each (waits_on cs r p) (k + 1) (drop (k + 1) (offers_at b n)) in
    let here : drop k (offers_at b n) ≡ map (shows b) es ∷ drop (k + 1) (offers_at b n) =
    opens (offers_at b n) k [] at.0 ∙ ap (λ (os : List Offer). os ∷ drop (k + 1) (offers_at b n)) (sym at.1) in
    ap (λ (ws : List Wait). ws ++ rest) added
    ∙ append_assoc now (waits_on cs r p k (map (shows b) es)) rest
    ∙ ap (λ (ls : List (List Offer)). now ++ each (waits_on cs r p) k ls) (sym here)
    ∙ so_far

-- the offers of a process that stands in a body, where something is left to do
pub left_is : (s : State) (t : Bool) (p : ℕ) (x : Seat) (k : Body) → StandsIn s x k
    → waits_down s.channels (reads s p t) p (offers_at k x.node) ≡ waits_at s t p (Some (stand_of s.program x))
left_is s t p x k is =
    let b : Seq = k.proctype.now.body in
    let c : Control = point_at b x.node in
    let control : control_at (body_of s.program x.sort) x.node ≡ c = ap (λ (o : Option Seq). control_at o x.node) is.body in
    ap (waits_down s.channels (reads s p t) p) (at_node k x.node is.is)
    ∙ by c is.left
    ∙ ap (waits_left s t p (Some b)) (sym control)
    ∙ ap (λ (o : Option Seq). waits_left s t p o (control_at (body_of s.program x.sort) x.node)) (sym is.body)
  where
    by : (c : Control) → (c ≡ [] → ⊥) → waits_down s.channels (reads s p t) p (levels k.proctype.now.body c) ≡ waits_left s t p (Some k.proctype.now.body) c
    by [] some = absurd (some refl)
    by (f ∷ c) some = refl

-- nothing stands past the end
pub none_here : (s : State) (t : Bool) (p : ℕ) (xs : List Seat) → map (stand_of s.program) xs ≡ s.stands → length xs ≤ p → (ws : List Wait) → ws ≡ ws ++ waits_at s t p (slice_get s.stands p)
none_here s t p xs are far ws =
    let l = length-map xs (stand_of s.program) in
    let m : length s.stands ≤ p = let e = ap (λ (ys : List Stand). length ys) are in omega (arith, l, e, far) in
    sym (append-nil ws) ∙ ap (λ (y : Option Stand). ws ++ waits_at s t p y) (sym (past s.stands p m))

module _ (s : State) (p : ℕ) (ms : List Move) (are : ms ≡ moves s) where
  behind : is_in p ms ≡ false → waits_behind s p (in_control s) ≡ waits s p
  behind out = ap (λ (b : Bool). if b then [] else waits_behind s p (in_control s)) (sym (ap (is_in p) (sym are) ∙ out))

  control : control_by s.holder (slice_get ms 0) ≡ in_control s
  control = ap (λ (l : List Move). control_by s.holder (slice_get l 0)) are ∙ control_is s

  pub all_of_it : is_in p ms ≡ false → (o : Option ℕ) → o ≡ control_by s.holder (slice_get ms 0) → waits_behind s p o ≡ waits s p
  all_of_it out o is = ap (waits_behind s p) (is ∙ control) ∙ behind out
