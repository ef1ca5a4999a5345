-- A walk's path, and the sessions on its record.
use Rattle.std.proofs.Common.{◌≡◌, ◌∙◌, ap, sym, subst, refl, ℕ, ◌≤◌, List, ◌++◌, length, take, drop, false, Option, Some, Result, Ok, Err, arith}
use Rattle.std.proofs.lemmas.List.{length-take-le}
use Rattle.std.proofs.lemmas.Option.{none-some, same_Some}
use Rattle.diagnostics.specs.declared.fault.Fault.{Fault}
use Rattle.promela_session.specs.Events.{Part}
use Rattle.promela_session.specs.declared.ends.End.{End}
use Rattle.promela_session.specs.declared.ends.Options.{Options}
use Rattle.promela_run.specs.State.{State, first_state}
use Rattle.promela_run.specs.declared.moves.Move.{Move}
use Rattle.promela_run.specs.World.{Running, first, rules}
use Rattle.pml_sim.specs.Lent.{IsFirst}
use Rattle.pml_play.specs.Run.{Leg, IsRun, PlaysEachPath, last_state}
use Rattle.pml_play.specs.Transcript.{IsModel}
use Rattle.pml_play.proofs.EachPath.{just_path, text_plays_each}
use Rattle.view_walk.specs.Choices.{chosen, led, led_from}
use Rattle.view_walk.specs.Records.{numbers_of, record_of}
use Rattle.view_walk.specs.Walks.{Walked, IsWalk, started}
use Rattle.view_laws.specs.Along.{HasPath}
use Rattle.view_laws.specs.Played.{IsSessionOn, GoesAlong}
use Rattle.view_laws.proofs.Along.{Fronts, path_along, goes_along, record_split}

-- What the first state and the choices of a walk give.
pub record Found (w : Walked) : Type 0 where
  pub start : Running
  pub is_first : IsFirst w.program w.lossy start
  pub path : List (Leg Running Move)
  pub fronts : Fronts rules start path w.legs
  pub here : w.is_lost ≡ false → last_state start (take w.at path) ≡ w.state

module _ (w : Walked) (h : IsWalk w) where
  from : (r : Result State Fault) → first_state w.program ≡ r → Found w
  from (Ok s) is =
      let start = first s w.lossy in
      let begins : started w.lossy (first_state w.program) ≡ Some start = ap (started w.lossy) is in
      let whole : led (chosen rules) start w.legs ≡ Some h.last = ap (λ (o : Option Running). led_from rules o w.legs) (sym begins) ∙ h.whole in
      let p = path_along rules start w.legs h.last whole in
      record {
        start = start;
        is_first = record { begun = s; starts = is; is = refl };
        path = p.0;
        fronts = p.1;
        here = λ found. same_Some (last_state start (take w.at p.0)) w.state
            (sym (p.1.leads w.at) ∙ ap (λ (o : Option Running). led_from rules o (take w.at w.legs)) (sym begins) ∙ h.here found);
      }
  from (Err f) is = absurd (none-some h.last (ap (λ (r : Result State Fault). led_from rules (started w.lossy r) w.legs) (sym is) ∙ h.whole))

  pub found_path : Found w
  found_path = from (first_state w.program) refl

pub has_path : (w : Walked) → Found w → HasPath w
has_path w f = record {
  start = f.start;
  is_first = f.is_first;
  path = f.path;
  along = goes_along rules f.start f.path w.legs f.fronts;
  here = f.here;
}

module _ (text : List ℕ) (w : Walked) (options : Options) (session : List ℕ → Part End) (h : IsSessionOn text w options session) (f : Found w) where
  is_its_model : IsModel text options.lossy f.start
  is_its_model = record {
    tree = h.ready.tree;
    is_spelled = h.ready.is_spelled;
    fits = h.ready.fits;
    program = w.program;
    stands = h.ready.stands;
    begun = f.is_first.begun;
    starts = f.is_first.starts;
    is = f.is_first.is ∙ ap (first f.is_first.begun) (sym h.loses);
  }

  each : PlaysEachPath rules options.limit f.start session
  each = text_plays_each is_its_model h.is_transcript

  goes_first : length w.legs ≤ options.limit → (more : List ℕ)
      → (later : List (Leg Running Move)) × IsRun rules options.limit f.start (f.path ++ later) (session (record_of w.legs ++ more))
  goes_first within more =
      let along = goes_along rules f.start f.path w.legs f.fronts in
      let count = along.counted in
      each f.path (numbers_of w.legs) more along.is_path (omega (arith, within, count))

  goes_just : options.limit ≤ length w.legs → (more : List ℕ) → IsRun rules options.limit f.start (take options.limit f.path) (session (record_of w.legs ++ more))
  goes_just within more =
      let count = f.fronts.counted in
      let few : options.limit ≤ length f.path = omega (arith, within, count) in
      subst (λ (l : List ℕ). IsRun rules options.limit f.start (take options.limit f.path) (session l)) (sym (record_split options.limit w.legs more))
      (just_path rules options.limit f.start session each (take options.limit f.path) (numbers_of (take options.limit w.legs)) (record_of (drop options.limit w.legs) ++ more)
      (f.fronts.fronts options.limit) (length-take-le options.limit f.path few))

  pub session_goes : GoesAlong w options session text
  unfolding has_path
  session_goes = record {
    walk = has_path w f;
    is_model = is_its_model;
    first = goes_first;
    just = goes_just;
    there = λ found at. ap (λ (n : ℕ). last_state f.start (take n f.path)) at ∙ f.here found;
  }
