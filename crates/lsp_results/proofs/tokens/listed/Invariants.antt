use Rattle.std.proofs.Common.{◌≡◌, ◌++◌, drop, map}
use Rattle.serde_json.specs.View.{view}
use Rattle.lsp_results.specs.Tokens.{number_told}
use Rattle.lsp_results.proofs.tokens.listed.Given as goal

abbrev pub invariant-loop-number : goal.invariant-loop-number
invariant-loop-number l = map view l.list.items ++ map number_told (drop l.number-index l.numbers) ≡ map number_told l.numbers
