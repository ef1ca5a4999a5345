use Rattle.std.proofs.Common.{◌≡◌, ◌<◌, ◌++◌, ◌∷◌, [], drop, length, get_or, Ok, rules}
use Rattle.promela_process.specs.Expressions.{want}
use Rattle.promela_run.specs.Statements.{stores}
use Rattle.pml_value.specs.Seen.{seen}
use Rattle.run_step.proofs.Passing.{taken-next}
use Rattle.run_step.proofs.pair.taken_of.Goals as goal

pub loop-i-preserved : goal.loop-i-preserved
loop-i-preserved c =
    let here : c.loop-i.i < length c.args.wants.now = search rules in
    let found : want (get_or c.args.wants.now c.loop-i.i c.index-wants-i.result) (seen c.args.view.now) ≡ Ok c.in_ok-one.one = search rules in
    let made : c.add_field_at.new.numbers.items ≡ c.loop-i.numbers.items ++ stores (c.in_ok-one.one ∷ []) (drop c.loop-i.i c.args.message.now.fields) = search rules in
    record {
      same = taken-next c.loop-i.i c.args.wants.now c.index-wants-i.result c.in_ok-one.one c.args.message.now.fields (seen c.args.view.now) c.loop-i.numbers.items c.add_field_at.new.numbers.items _ here found made c.loop-i.invariant.same;
      there = search rules;
    }
