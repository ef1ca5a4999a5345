use Rattle.std.proofs.Common.{◌≡◌, drop, find}
use Rattle.lsp_results.specs.Sorts.{is_declared_at}
use Rattle.lsp_results.proofs.sorts.declared_at.Given as goal

abbrev pub invariant-loop-declaration : goal.invariant-loop-declaration
invariant-loop-declaration l = find (is_declared_at l.at) (drop l.declaration-index l.declarations) ≡ find (is_declared_at l.at) l.declarations
