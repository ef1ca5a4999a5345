use Rattle.std.proofs.Common.{◌≡◌, drop}
use Rattle.lsp_results.specs.Cells.{meant}
use Rattle.lsp_results.proofs.cells.mean.Given as goal

abbrev pub invariant-loop-occurrence : goal.invariant-loop-occurrence
invariant-loop-occurrence l = meant l.declared l.cells.items (drop l.occurrence-index l.occurrences) ≡ meant l.declared l.fn.cells.items l.occurrences
