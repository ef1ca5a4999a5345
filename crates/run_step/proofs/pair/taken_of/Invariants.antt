use Rattle.std.proofs.Common.{◌≡◌, ◌++◌, Ok, drop}
use Rattle.promela_process.specs.Expressions.{◌>>=◌, asked_by}
use Rattle.promela_run.specs.Statements.{stores}
use Rattle.pml_value.specs.Seen.{seen}
use Rattle.run_state.specs.Storing.{AreIn}
use Rattle.run_step.specs.Passing.{taken_by}
use Rattle.run_step.proofs.pair.taken_of.Given as goal

-- what is stored of the fields so far, and what of the rest, is what is stored of all
abbrev pub invariant-loop-i : goal.invariant-loop-i
invariant-loop-i l = record {
  same : (asked_by (drop l.i l.wants) (seen l.view) >>= λ ss. Ok (l.numbers.items ++ stores ss (drop l.i l.message.fields))) ≡ taken_by l.wants l.message.fields (seen l.view);
  there : AreIn l.view.store.now.frames l.numbers.items;
}
