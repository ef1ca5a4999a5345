use Rattle.std.proofs.Common.{◌≡◌, ◌≤◌, ◌+◌, length, drop}
use Rattle.offered_names.specs.References.{opened, read}
use Rattle.offered_names.proofs.references.names_before.Given as goal

abbrev pub invariant-loop-i : goal.invariant-loop-i
invariant-loop-i l = record {
  few : opened l.link + l.i ≤ length l.tokens;
  link : l.link ≡ (read (drop l.i l.tokens)).link;
  names : l.names.items ≡ (read (drop l.i l.tokens)).names;
}
