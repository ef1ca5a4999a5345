use Rattle.std.proofs.Common.{◌≡◌, ◌++◌, drop}
use Rattle.lsp_results.specs.Colours.{coloured_in}
use Rattle.lsp_results.proofs.colours.coloured.Given as goal

abbrev pub invariant-loop-token : goal.invariant-loop-token
invariant-loop-token l = l.out.items ++ coloured_in l.cells l.part (drop l.token-index l.tokens) ≡ coloured_in l.cells l.part l.tokens
