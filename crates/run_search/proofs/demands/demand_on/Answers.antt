use Rattle.std.proofs.Common.{rules, Bool, Option, refl, sym, ap, ◌∙◌, arith}
use Rattle.pml_program.specs.declared.program.Basic.{Basic}
use Rattle.promela_process.specs.Offers.{Offer}
use Rattle.promela_run.specs.declared.moves.Move.TheVariants.{Pair}
use Rattle.promela_run.specs.State.{reads}
use Rattle.run_state.specs.Standing.{shows}
use Rattle.promela_run.specs.Moves.{accepts, only_if, pick}
use Rattle.run_search.specs.Demands.{gives_none_to}
use Rattle.run_search.proofs.Waiting.{skip_at, over}
use Rattle.run_search.proofs.Idle.{none_yet, one_idle, all_idle}
use Rattle.run_search.proofs.demands.demand_on.Goals as goal

pub loop-edge-init : goal.loop-edge-init
loop-edge-init c = record {
  one = λ m d. d;
  idle = λ q. none_yet c.args.live.now.state c.args.timeout c.args.j (shows c.args.body.now) c.args.edges.now;
  other = λ k m v d. refl;
}

pub loop-edge-preserved : goal.loop-edge-preserved
loop-edge-preserved c = record {
  one = λ m d. c.loop-edge.invariant.one m (c.or_offer-demand.ensures.one m d);
  idle = λ q.
      let s = c.args.live.now.state in
      let own = c.or_offer-demand.result.own in
      one_idle s c.args.timeout c.args.j own (shows c.args.body.now) c.args.edges.now c.loop-edge.edge-index _ (search rules) q
      (λ b x. ap (λ (o : Option Basic). gives_none_to own s c.args.j c.args.timeout b x o) (sym c.basic.ensures) ∙ c.or_offer-demand.ensures.idle b x)
      (c.loop-edge.invariant.idle (c.or_offer-demand.ensures.before s c.args.timeout q));
  other = λ k m v d.
      let cs = c.args.live.now.state.channels in
      let r = reads c.args.live.now.state c.args.j c.args.timeout in
      let none = ap (λ (o : Option Basic). accepts cs r m o) (sym c.basic.ensures) ∙ c.or_offer-demand.ensures.other m d in
      skip_at (λ i (o : Offer). only_if (accepts cs r m o.basic) (Pair k (pick c.args.j v i) c.args.timeout)) (shows c.args.body.now) c.args.edges.now c.loop-edge.edge-index _ _ (search rules)
      (ap (λ (b : Bool). only_if b (Pair k (pick c.args.j v c.loop-edge.edge-index) c.args.timeout)) none)
      (c.loop-edge.invariant.other k m v (c.or_offer-demand.ensures.one m d));
}

pub returns-clause-idle : goal.returns-clause-idle
returns-clause-idle c = λ q.
    all_idle c.args.live.now.state c.args.timeout c.args.j (shows c.args.body.now) c.args.edges.now c.loop-edge.edge-index (omega (arith, c.loop-edge-test.false)) (c.loop-edge.invariant.idle q)

pub returns-clause-other : goal.returns-clause-other
returns-clause-other c = λ k m l d.
    over (λ i (o : Offer). only_if (accepts c.args.live.now.state.channels (reads c.args.live.now.state c.args.j c.args.timeout) m o.basic) (Pair k (pick c.args.j l i) c.args.timeout)) (shows c.args.body.now) c.args.edges.now c.loop-edge.edge-index _ (omega (arith, c.loop-edge-test.false)) (c.loop-edge.invariant.other k m l d)
