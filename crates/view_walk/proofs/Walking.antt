-- What steps and choices make of a walk.
use Rattle.std.proofs.Common.{◌≡◌, ◌∙◌, ap, sym, refl, ℕ, ◌+◌, Bool, true, false, List, [], length, take, Option, Some, None, arith}
use Rattle.std.specs.Prelude.{slice_get}
use Rattle.std.proofs.lemmas.Option.{none-some}
use Rattle.std.proofs.lemmas.Bool.{true≢false}
use Rattle.diagnostics.specs.declared.fault.Fault.{Fault}
use Rattle.promela_machine.specs.Machine.{Goes, Faults}
use Rattle.pml_program.specs.declared.program.Program.{Program}
use Rattle.promela_run.specs.State.{first_state}
use Rattle.promela_run.specs.declared.moves.Move.{Move}
use Rattle.promela_run.specs.World.{Running, world_moves, world_step, rules}
use Rattle.pml_sim.specs.Lent.{IsFirst}
use Rattle.view_walk.specs.declared.leg.Leg.{Leg}
use Rattle.view_walk.specs.Choices.{numbered, chosen, on, with_leg}
use Rattle.view_walk.specs.Walks.{started, walked, Walked, IsWalk}
use Rattle.view_walk.proofs.Taken.{take_again, length_taken}
use Rattle.view_walk.proofs.Leads.{next_leads, choice_counts, chosen_is, is_chosen, no_fault, same_leads, leg_leads}

pub begun : (p : Program) (lossy : Bool) (s : Running) → IsFirst p lossy s → walked p lossy [] ≡ Some s
begun p lossy s h = ap (λ r. on (started lossy r) (λ u. Some u)) h.starts ∙ ap Some (sym h.is)

-- a walk without a choice
pub is_begun : (p : Program) (lossy : Bool) (s : Running) → IsFirst p lossy s
    → IsWalk (record { program = p; lossy = lossy; legs = []; at = 0; is_lost = false; state = s })
is_begun p lossy s h = record { within = omega arith; last = s; whole = begun p lossy s h; here = λ found. begun p lossy s h }

-- a walk at its beginning again
pub begins_again : (w : Walked) (s : Running) → IsWalk w → IsFirst w.program w.lossy s → IsWalk (record w { at = 0; is_lost = false; state = s })
begins_again w s h f = record { within = omega arith; last = h.last; whole = h.whole; here = λ found. begun w.program w.lossy s f }

-- a walk whose machine has stopped
pub gets_lost : (w : Walked) (s : Running) → IsWalk w → IsWalk (record w { is_lost = true; state = s })
gets_lost w s h = record { within = h.within; last = h.last; whole = h.whole; here = λ found. absurd (true≢false found) }

module _ (w : Walked) (h : IsWalk w) (found : w.is_lost ≡ false) where
  -- the first state
  first_of : Option Running
  first_of = started w.lossy (first_state w.program)

  next : (t : Leg) → slice_get w.legs w.at ≡ Some t → (u : Running) × (chosen rules w.state t ≡ Some u)
  next t at = next_leads rules (started w.lossy (first_state w.program)) w.legs w.at t w.state h.last at (h.here found) h.whole

  -- the next choice is that of a move
  pub has_move : (t : Leg) → slice_get w.legs w.at ≡ Some t → numbered (world_moves w.state) t.choice ≡ None → ⊥
  has_move t at none = let n = next t at in let c = chosen_is rules w.state t n.0 n.1 in none-some c.0 (sym none ∙ c.1)

  -- whose step is no fault
  pub has_no_fault : (t : Leg) (m : Move) (f : Fault) → slice_get w.legs w.at ≡ Some t → numbered (world_moves w.state) t.choice ≡ Some m → world_step w.state m ≡ Faults f → ⊥
  has_no_fault t m f at number faults = let n = next t at in no_fault rules w.state t m n.0 f n.1 number faults

  -- and leads on
  pub stepped : (t : Leg) (m : Move) (u : Running) (printed : List ℕ) → slice_get w.legs w.at ≡ Some t → numbered (world_moves w.state) t.choice ≡ Some m
      → world_step w.state m ≡ Goes u printed → IsWalk (record w { at = w.at + 1; state = u })
  stepped t m u printed at number goes =
      let n = next t at in
      let c = choice_counts rules w.state t n.0 n.1 in
      let is = is_chosen rules w.state t m u printed c number goes in
      let l = same_leads rules (started w.lossy (first_state w.program)) w.legs w.at t w.state u (h.here found) is h.last h.whole at in
      record { within = l.within; last = l.last; whole = l.whole; here = λ _. l.here }

  -- a choice leads on
  pub turned : (k : ℕ) (m : Move) (u : Running) (printed : List ℕ) → numbered (world_moves w.state) k ≡ Some m → world_step w.state m ≡ Goes u printed
      → IsWalk (record w { legs = with_leg w.legs w.at (record { choice = k; of = length (world_moves w.state) }); at = w.at + 1; state = u })
  turned k m u printed number goes =
      let t : Leg = record { choice = k; of = length (world_moves w.state) } in
      let is = is_chosen rules w.state t m u printed refl number goes in
      let l = leg_leads rules (started w.lossy (first_state w.program)) w.legs w.at t w.state u (h.here found) is h.last h.whole h.within in
      record { within = l.within; last = l.last; whole = l.whole; here = λ _. l.here }

  -- the choices that are still to come are forgotten
  pub forgotten : IsWalk (record w { legs = take w.at w.legs })
  forgotten = record {
    within = length_taken w.at w.legs h.within;
    last = w.state;
    whole = h.here found;
    here = λ _. ap (λ (ts : List Leg). walked w.program w.lossy ts) (take_again w.at w.legs) ∙ h.here found;
  }
