use Rattle.std.proofs.Common.{◌≡◌, drop}
use Rattle.lsp_results.specs.Changes.{all_changed}
use Rattle.lsp_results.proofs.changes.all_changed.Given as goal

abbrev pub invariant-loop-change : goal.invariant-loop-change
invariant-loop-change l = all_changed l.unit l.text.items (drop l.change-index l.changes) ≡ all_changed l.fn.unit l.fn.text.items l.fn.changes
