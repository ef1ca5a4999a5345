use Rattle.std.proofs.Common.{arith, [], ◌∙◌, ◌-◌, ap, sym, take}
use Rattle.pml_macros.proofs.Reading.{past_end, at_end}
use Rattle.pml_macros.proofs.calls.next_token.Goals as goal

pub loop-item-preserved : goal.loop-item-preserved
loop-item-preserved c =
    let few = c.loop-item.invariant.few in
    let less = c.in-Some.ensures.len in
    let more = c.loop-item.pending.items.ok.0 in
    let now = c.pop.new.self.items in
    record {
      few = omega arith;
      gives = λ ms us h.
          c.loop-item.invariant.gives ms us (past_end ms c.loop-item.pending.active.items c.pop-in-End.new.self.items c.loop-item.pending.items.items c.pop.new.self.items c.in-Some.item us c.in-Some.ensures.items c.in-End.is
          (c.pop-in-End.ensures.rest ∙ ap (λ n. take (n - 1) c.loop-item.pending.active.items) c.loop-item.pending.active.ok.0) h);
    }

pub returns-clause-ended : goal.returns-clause-ended
returns-clause-ended c = λ ms.
    c.loop-item.invariant.gives ms [] (at_end ms c.loop-item.pending.active.items c.loop-item.pending.items.items (sym c.loop-item.pending.items.ok.0 ∙ c.in_default.ensures.cases.0))
