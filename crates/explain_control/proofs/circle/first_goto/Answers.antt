use Rattle.std.proofs.Common.{◌∙◌, sym}
use Rattle.explain_control.proofs.Rounds.{returns_on, one_of}
use Rattle.explain_control.proofs.circle.first_goto.Goals as goal

pub loop-preserved : goal.loop-preserved
loop-preserved c =
    let i = c.loop.invariant in
    record {
      here = returns_on c.args.next.now c.loop.here c.in-Some.there i.here (sym c.next_of.ensures ∙ c.in-Some.is);
      most = one_of c.args.next.now _ _ _ i.here i.most c.later_goto-most.ensures;
    }
