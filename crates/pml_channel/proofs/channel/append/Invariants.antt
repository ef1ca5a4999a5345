use Rattle.std.proofs.Common.{◌≡◌, ◌++◌, take, drop}
use Rattle.promela_process.specs.Store.{cut}
use Rattle.pml_channel.proofs.channel.append.Given as goal

-- what is there by now, and the rest of the message, is all of it behind what was there
abbrev pub invariant-loop-i : goal.invariant-loop-i
invariant-loop-i l = record {
  all : l.numbers.items ++ cut (drop l.i l.types) (drop l.i l.fields) ≡ l.initial.numbers.items ++ cut l.types l.fields;
  front : take l.before l.numbers.items ≡ l.initial.numbers.items;
}
