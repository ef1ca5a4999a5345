use Rattle.std.proofs.Common.{rules, ◌≡◌, ◌∙◌, ap, sym, map, ℕ, List, Option, Some, None}
use Rattle.std.specs.Prelude.{slice_get, option_map}
use Rattle.std.proofs.lemmas.Option.{slice_get-map}
use Rattle.pml_program.specs.declared.program.Program.{Program}
use Rattle.run_state.specs.declared.seat.Seat.{Seat}
use Rattle.run_state.specs.declared.body.Body.{Body}
use Rattle.promela_run.specs.State.{Stand}
use Rattle.run_state.specs.Standing.{stand_of}
use Rattle.run_state.proofs.Placing.{seat_stands}
use Rattle.promela_run.specs.Steps.{body_by}
use Rattle.run_step.proofs.within.body_in.Goals as goal

-- no process, no stand
none_stands : (p : Program) (xs : List Seat) (ys : List Stand) (n : ℕ) → map (stand_of p) xs ≡ ys → slice_get xs n ≡ None → slice_get ys n ≡ None
none_stands p xs ys n e h =
    ap (λ (zs : List Stand). slice_get zs n) (sym e) ∙ slice_get-map (stand_of p) xs n ∙ ap (λ (o : Option Seat). option_map (stand_of p) o) h

pub returns-in_err-seat-clause-body : goal.returns-in_err-seat-clause-body
returns-in_err-seat-clause-body c =
    let s = c.args.live.now.state in
    let none : c.from_residual.result ≡ None = search rules in
    let no : slice_get c.seats.result.now c.args.process ≡ None = search rules in
    ap (λ (o : Option Body). option_map (λ (k : Body). k.proctype.now.body) o) none ∙ sym (ap (λ (o : Option Stand). body_by s o) (none_stands s.program c.seats.result.now s.stands c.args.process c.seats.ensures no))

pub returns-clause-body : goal.returns-clause-body
returns-clause-body c =
    let s = c.args.live.now.state in
    let at : slice_get c.seats.result.now c.args.process ≡ Some c.in_ok-seat.field-0.now = search rules in
    c.body.ensures.body ∙ sym (ap (λ (o : Option Stand). body_by s o) (seat_stands s.program c.seats.result.now s.stands c.args.process c.in_ok-seat.field-0.now c.seats.ensures at))
