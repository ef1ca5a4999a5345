use Rattle.std.proofs.Common.{◌≡◌, drop}
use Rattle.promela_process.specs.Store.{size_at}
use Rattle.pml_store.specs.Writing.{before}
use Rattle.pml_eval.specs.There.{AreThere}
use Rattle.pml_value.proofs.Storing.{Done}
use Rattle.pml_value.proofs.receive.store_fields.Given as goal

-- the fields before this one are stored, the places of the rest are there, and the log leads back
abbrev pub invariant-loop-i : goal.invariant-loop-i
invariant-loop-i l = record {
  done : Done l.i l.initial.store l.store l.sought l.fields;
  there : AreThere (size_at l.store.frames) (drop l.i l.sought);
  past : before l.store ≡ before l.initial.store;
}
