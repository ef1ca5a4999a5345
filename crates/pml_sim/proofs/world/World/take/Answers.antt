use Rattle.std.proofs.Common.{◌≡◌, ◌∙◌, ap, sym, subst, Ok, Err, None, refl}
use Rattle.promela_run.specs.State.{State}
use Rattle.profile.specs.declared.TheConstants.{MOST_DSTEP_STATEMENTS}
use Rattle.promela_run.specs.Steps.{after_move}
use Rattle.run_step.specs.Done.{Does}
use Rattle.run_state.specs.Live.{Joins}
use Rattle.promela_run.specs.World.{Running}
use Rattle.run_step.specs.Taking.{CanDie, PastBy}
use Rattle.pml_sim.proofs.Living.{moves_within}
use Rattle.pml_sim.proofs.Stepping.{present, can_die, taken_goes, taken_stops}
use Rattle.pml_sim.proofs.world.World.take.Goals as goal

pub take-requires : goal.take-requires
take-requires c =
    let w : Running = c.args.self.now in
    let none : w.halt ≡ None = ap (λ (w : Running). w.halt) (sym c.self.view_is) ∙ c.in_default.is in
    let same : w.state ≡ c.self.inside.live.state = ap (λ (w : Running). w.state) (sym c.self.view_is) in
    let state : w.state ≡ c.forget.new.self.state = same ∙ ap (λ (l : Running). l.state) (sym c.forget.ensures) in
    subst (λ (s : State). CanDie s c.args.m.now) state (can_die w.state c.args.m.now (moves_within w.state c.args.m.now (present w c.args.m.now none c.requires.present)))

pub returns-in-Ok-clause-step : goal.returns-in-Ok-clause-step
returns-in-Ok-clause-step c there =
    let same : c.args.self.now.state ≡ c.self.inside.live.state = ap (λ (w : Running). w.state) (sym c.self.view_is) in
    let does = subst (λ (l : Running). Does (after_move MOST_DSTEP_STATEMENTS l.state c.args.m.now) (Ok tt) c.take.new.live.state c.args.text.now.items c.take.new.text.items) c.forget.ensures c.in-Ok.ensures.value in
    let by = subst (λ (l : Running). PastBy c.args.m.now l c.take.new.live) c.forget.ensures c.in-Ok.ensures.past in
    taken_goes c.args.self.now c.self.inside.live c.take.new.live c.args.m.now same c.args.text.now.items c.take.new.text.items tt c.process_count-before.result c.process_count.result c.min-self-inside.result c.self.inside.halt
    c.process_count-before.ensures.frames c.process_count.ensures.frames c.min-self-inside.ensures c.in_default.is does by

pub returns-in-Err-clause-step : goal.returns-in-Err-clause-step
returns-in-Err-clause-step c there =
    let same : c.args.self.now.state ≡ c.self.inside.live.state = ap (λ (w : Running). w.state) (sym c.self.view_is) in
    let none : c.args.self.now.halt ≡ None = ap (λ (w : Running). w.halt) (sym c.self.view_is) ∙ c.in_default.is in
    let does = subst (λ (l : Running). Does (after_move MOST_DSTEP_STATEMENTS l.state c.args.m.now) (Err c.in-Err.why) c.take.new.live.state c.args.text.now.items c.take.new.text.items) c.forget.ensures c.in-Err.ensures.value in
    let joins = subst (λ (l : Running). Joins l.state c.take.new.live.state) c.forget.ensures c.in-Err.ensures.joins in
    let x = taken_stops c.args.self.now c.self.inside.live c.take.new.live c.args.m.now same c.in-Err.why c.args.text.now.items c.take.new.text.items none does joins there in
    (x.0, refl, x.1)

pub returns-in-Ok-clause-model : goal.returns-in-Ok-clause-model
returns-in-Ok-clause-model c =
    c.take.ensures.program ∙ ap (λ (l : Running). l.state.program) c.forget.ensures ∙ ap (λ (w : Running). w.state.program) c.self.view_is

pub returns-in-Err-clause-model : goal.returns-in-Err-clause-model
returns-in-Err-clause-model c =
    c.take.ensures.program ∙ ap (λ (l : Running). l.state.program) c.forget.ensures ∙ ap (λ (w : Running). w.state.program) c.self.view_is
