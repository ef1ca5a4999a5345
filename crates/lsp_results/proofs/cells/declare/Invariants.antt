use Rattle.std.proofs.Common.{◌≡◌, drop}
use Rattle.lsp_results.specs.Cells.{declared}
use Rattle.lsp_results.proofs.cells.declare.Given as goal

abbrev pub invariant-loop-declaration : goal.invariant-loop-declaration
invariant-loop-declaration l = declared l.all l.cells.items (drop l.declaration-index l.some) ≡ declared l.all l.fn.cells.items l.some
