use Rattle.std.proofs.Common.{◌≡◌, ◌++◌, map, drop}
use Rattle.check_names.specs.Totals.{IsTotalled}
use Rattle.check_resolve.specs.Declarations.{known}
use Rattle.check_resolve.specs.Statements.{each, joined, numbered_seq, numbered_item}
use Rattle.check_resolve.proofs.statement.+statement.Given as goal

abbrev pub invariant-seqs-loop-s : goal.invariant-seqs-loop-s
invariant-seqs-loop-s l =
    let rest = each (map numbered_seq (drop l.s-index l.ss)) l.whose.all.now l.whose.owner (known l.names.table l.slots) in
    let whole = each (map numbered_seq l.ss) l.whose.all.now l.whose.owner (known l.initial.names.table l.initial.slots) in
    record {
      seqs : l.seqs ++ rest.0 ≡ whole.0;
      known : rest.1 ≡ whole.1;
      totalled : IsTotalled l.names.table l.names.totals l.names.constants;
    }

abbrev pub invariant-seq-loop-i : goal.invariant-seq-loop-i
invariant-seq-loop-i l =
    let rest = each (map numbered_item (drop l.i-index l.i-items)) l.whose.all.now l.whose.owner (known l.names.table l.slots) in
    let whole = each (map numbered_item l.i-items) l.whose.all.now l.whose.owner (known l.initial.names.table l.initial.slots) in
    record {
      steps : l.steps ++ joined rest.0 ≡ joined whole.0;
      known : rest.1 ≡ whole.1;
      totalled : IsTotalled l.names.table l.names.totals l.names.constants;
    }
