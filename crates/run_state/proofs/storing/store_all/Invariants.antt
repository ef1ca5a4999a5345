use Rattle.std.proofs.Common.{◌≡◌, take, drop}
use Rattle.pml_store.specs.Writing.{before}
use Rattle.pml_value.specs.Storing.{stored_all}
use Rattle.run_state.specs.Storing.{AreIn}
use Rattle.run_state.proofs.storing.store_all.Given as goal

-- those before this one are stored, the places of the rest are there, and the log leads back
abbrev pub invariant-loop-one : goal.invariant-loop-one
invariant-loop-one l = record {
  done : l.store ≡ stored_all l.initial.store (take l.one-index l.numbers);
  there : AreIn l.store.frames (drop l.one-index l.numbers);
  past : before l.store ≡ before l.initial.store;
}
