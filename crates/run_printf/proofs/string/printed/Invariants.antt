use Rattle.std.proofs.Common.{◌≡◌, ◌++◌, ◌≤◌, drop}
use Rattle.std.specs.Io.{StartsWith}
use Rattle.promela_run.specs.Lines.{printed, printed_from, unquoted}
use Rattle.run_printf.proofs.string.printed.Given as goal

-- the text so far, and what the bytes that are left print
abbrev pub invariant-loop-byte : goal.invariant-loop-byte
invariant-loop-byte l = record {
  same : l.text.items ++ printed_from l.constants l.before (drop l.byte-index (unquoted l.string)) (drop l.taken l.values) ≡ l.initial.text.items ++ printed l.constants l.string l.values;
  kept : StartsWith l.text.items l.initial.text.items;
  few : l.taken ≤ l.byte-index;
}
