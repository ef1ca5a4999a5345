use Rattle.std.proofs.Common.{◌≡◌, ◌++◌, map, drop}
use Rattle.promela_model.specs.Marks.{of_seq, all_marks}
use Rattle.check_uses.specs.Parts.{of_item}
use Rattle.check_uses.proofs.statement.+statement.Given as goal

abbrev pub invariant-seqs-loop-one : goal.invariant-seqs-loop-one
invariant-seqs-loop-one l = l.out ++ all_marks (map of_seq (drop l.one-index l.all)) l.owner ≡ l.initial.out ++ all_marks (map of_seq l.all) l.owner

abbrev pub invariant-seq-loop-one : goal.invariant-seq-loop-one
invariant-seq-loop-one l = l.out ++ all_marks (map of_item (drop l.one-index l.one-items)) l.owner ≡ l.initial.out ++ all_marks (map of_item l.one-items) l.owner
