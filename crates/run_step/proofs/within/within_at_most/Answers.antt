use Rattle.std.proofs.Common.{rules, ◌≡◌, Ok, Err, Result, subst, sym, ap, ◌∙◌, arith}
use Rattle.std.proofs.Math.Seq.{take-length}
use Rattle.std.proofs.Transfers.{starts_with_trans}
use Rattle.diagnostics.specs.declared.stop.Stop.{Stop}
use Rattle.pml_flow.specs.Points.{point_at}
use Rattle.run_step.specs.declared.within.Inner.{Inner}
use Rattle.run_step.specs.declared.within.Inner.TheVariants.{Left, At}
use Rattle.run_step.specs.Done.{Does}
use Rattle.promela_run.specs.Steps.{within}
use Rattle.run_step.specs.Inside.{Advances, advanced}
use Rattle.run_step.proofs.Inward.{follows_first, follows_next, follows_left, follows_stop, follows_long, joins_same, joins_on, past_same, past_on, still_there, body_still}
use Rattle.run_step.proofs.within.within_at_most.Goals as goal

pub advance-requires : goal.advance-requires
advance-requires c = still_there c.args.live.now.state c.loop-taken.live.state c.args.process c.loop-taken.invariant.joins c.requires

pub loop-taken-init : goal.loop-taken-init
loop-taken-init c = record {
  joins = joins_same c.args.live.now.state;
  past = past_same c.args.live.now;
  kept = take-length c.args.text.now.items;
  follows = λ b h. follows_first b c.args.most c.args.live.now.state c.args.process c.args.timeout (point_at b c.args.entry) c.args.text.now.items;
}

pub returns-in_err-advance-clause-value : goal.returns-in_err-advance-clause-value
returns-in_err-advance-clause-value c b h =
    let f = c.loop-taken.invariant.follows b h in
    let here = body_still c.args.live.now.state c.loop-taken.live.state c.args.process b c.loop-taken.invariant.joins c.requires h in
    let s : Stop = c.in_err-advance.field-0.0 in
    let stopped : c.advance.result ≡ Err s = search rules in
    let answered : c.from_residual.result ≡ Err s = search rules in
    let one : Advances b (advanced c.loop-taken.live.state c.args.process c.loop-taken.timeout_here b (point_at b c.loop-taken.node)) (Err s) c.advance.new.live.state c.loop-taken.text.items c.advance.new.text.items =
    subst (λ (r : Result Inner Stop). Advances b (advanced c.loop-taken.live.state c.args.process c.loop-taken.timeout_here b (point_at b c.loop-taken.node)) r c.advance.new.live.state c.loop-taken.text.items c.advance.new.text.items) stopped (c.advance.ensures.value b here) in
    subst (λ r. Does (within c.args.most c.args.live.now.state c.args.process c.args.timeout b (point_at b c.args.entry)) r c.advance.new.live.state c.args.text.now.items c.advance.new.text.items) (sym answered)
    (follows_stop b c.args.most c.loop-taken._taken c.args.live.now.state c.loop-taken.live.state c.advance.new.live.state c.args.process c.args.timeout c.loop-taken.timeout_here
    (point_at b c.args.entry) (point_at b c.loop-taken.node) c.args.text.now.items c.loop-taken.text.items c.advance.new.text.items s (search rules) f one)

pub returns-in-Left-clause-value : goal.returns-in-Left-clause-value
returns-in-Left-clause-value c b h =
    let f = c.loop-taken.invariant.follows b h in
    let here = body_still c.args.live.now.state c.loop-taken.live.state c.args.process b c.loop-taken.invariant.joins c.requires h in
    let out : c.advance.result ≡ Ok Left = c.in_ok-advance.was ∙ ap Ok c.in-Left.is in
    let one : Advances b (advanced c.loop-taken.live.state c.args.process c.loop-taken.timeout_here b (point_at b c.loop-taken.node)) (Ok Left) c.advance.new.live.state c.loop-taken.text.items c.advance.new.text.items =
    subst (λ (r : Result Inner Stop). Advances b (advanced c.loop-taken.live.state c.args.process c.loop-taken.timeout_here b (point_at b c.loop-taken.node)) r c.advance.new.live.state c.loop-taken.text.items c.advance.new.text.items) out (c.advance.ensures.value b here) in
    follows_left b c.args.most c.loop-taken._taken c.args.live.now.state c.loop-taken.live.state c.advance.new.live.state c.args.process c.args.timeout c.loop-taken.timeout_here
    (point_at b c.args.entry) (point_at b c.loop-taken.node) c.args.text.now.items c.loop-taken.text.items c.advance.new.text.items (search rules) f one

pub loop-taken-preserved : goal.loop-taken-preserved
loop-taken-preserved c = record {
  joins = joins_on c.args.live.now.state c.loop-taken.live.state c.advance.new.live.state c.loop-taken.invariant.joins c.advance.ensures.joins;
  past = past_on c.args.live.now c.loop-taken.live c.advance.new.live c.loop-taken.invariant.past (search rules);
  kept = starts_with_trans c.advance.new.text.items c.loop-taken.text.items c.args.text.now.items c.advance.ensures.kept c.loop-taken.invariant.kept;
  follows = λ b h.
      let f = c.loop-taken.invariant.follows b h in
      let here = body_still c.args.live.now.state c.loop-taken.live.state c.args.process b c.loop-taken.invariant.joins c.requires h in
      let on : c.advance.result ≡ Ok (At c.in-At.next) = c.in_ok-advance.was ∙ ap Ok c.in-At.is in
      let one : Advances b (advanced c.loop-taken.live.state c.args.process c.loop-taken.timeout_here b (point_at b c.loop-taken.node)) (Ok (At c.in-At.next)) c.advance.new.live.state c.loop-taken.text.items c.advance.new.text.items =
      subst (λ (r : Result Inner Stop). Advances b (advanced c.loop-taken.live.state c.args.process c.loop-taken.timeout_here b (point_at b c.loop-taken.node)) r c.advance.new.live.state c.loop-taken.text.items c.advance.new.text.items) on (c.advance.ensures.value b here) in
      follows_next b c.args.most c.loop-taken._taken c.args.live.now.state c.loop-taken.live.state c.advance.new.live.state c.args.process c.args.timeout c.loop-taken.timeout_here
      (point_at b c.args.entry) (point_at b c.loop-taken.node) c.in-At.next c.args.text.now.items c.loop-taken.text.items c.advance.new.text.items f one;
}

pub returns-clause-value : goal.returns-clause-value
returns-clause-value c b h =
    let end : c.loop-taken._taken ≡ c.args.most = omega (arith, c.loop-taken-test.false, c.loop-taken.auto._taken-end) in
    follows_long b c.args.most c.loop-taken._taken c.args.live.now.state c.loop-taken.live.state c.args.process c.args.timeout c.loop-taken.timeout_here
    (point_at b c.args.entry) (point_at b c.loop-taken.node) c.args.text.now.items c.loop-taken.text.items end (c.loop-taken.invariant.follows b h)
