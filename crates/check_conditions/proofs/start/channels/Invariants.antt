use Rattle.std.proofs.Common.{◌≡◌, ℕ, min, take, reverse}
use Rattle.std.specs.Prelude.{slice_index_or}
use Rattle.check_names.specs.Entry.{found}
use Rattle.promela_model.specs.Decided.{channels}
use Rattle.check_conditions.proofs.start.channels.Given as goal

abbrev pub invariant-loop-mark : goal.invariant-loop-mark
invariant-loop-mark l = (o : ℕ) → slice_index_or l.counts o 0 ≡ min (channels (found l.all) (reverse (take l.mark-index l.marks)) o) 256
