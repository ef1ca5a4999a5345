use Rattle.std.proofs.Common.{◌≡◌, Err, rules}
use Rattle.run_start.specs.Shown.{shown}
use Rattle.run_start.proofs.Shapes.{variable_there, keeps-then}
use Rattle.run_start.proofs.Stepping.{variables_made, variables_stopped}
use Rattle.run_start.proofs.begin.begin_variables.Goals as goal

pub begin_variable-requires-clause-there : goal.begin_variable-requires-clause-there
begin_variable-requires-clause-there c =
    rw c.index-slots-variable.is (variable_there _ _ _ _ _ c.loop-variable.invariant.keeps c.requires.there c.loop-variable-test.true)

pub returns-in_err-begin_variable-clause-value : goal.returns-in_err-begin_variable-clause-value
returns-in_err-begin_variable-clause-value c =
    let r : c.from_residual.result ≡ Err c.in_err-begin_variable.field-0.0 = search rules in
    rw r (variables_stopped c.args.beginnings.now.typedefs c.args.slots.now c.loop-variable.variable c.index-slots-variable.result (shown c.loop-variable.started) _ _ _ _ c.loop-variable-test.true c.index-slots-variable.is c.loop-variable.invariant.same c.in_err-begin_variable.ensures.value)

pub loop-variable-preserved : goal.loop-variable-preserved
loop-variable-preserved c = record {
  same = variables_made c.args.beginnings.now.typedefs c.args.slots.now c.loop-variable.variable c.index-slots-variable.result (shown c.loop-variable.started) (shown c.begin_variable.new.started) _ _ c.loop-variable-test.true c.index-slots-variable.is c.loop-variable.invariant.same c.in_ok-begin_variable.ensures.value;
  keeps = keeps-then _ _ _ c.loop-variable.invariant.keeps c.in_ok-begin_variable.ensures.keeps;
}
