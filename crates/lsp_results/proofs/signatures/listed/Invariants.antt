use Rattle.std.proofs.Common.{◌≡◌, ◌++◌, drop, map}
use Rattle.serde_json.specs.View.{view}
use Rattle.lsp_results.specs.Help.{parameter_of}
use Rattle.lsp_results.proofs.signatures.listed.Given as goal

abbrev pub invariant-loop-part : goal.invariant-loop-part
invariant-loop-part l = map view l.list.items ++ map (parameter_of l.page l.heading) (drop l.part-index l.parts) ≡ map (parameter_of l.page l.heading) l.parts
