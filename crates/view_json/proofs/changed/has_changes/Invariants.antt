-- what is left has changes where all have
use Rattle.std.proofs.Common.{◌≡◌, drop}
use Rattle.view_json.specs.Shown.{has_changes}
use Rattle.view_json.proofs.changed.has_changes.Given as goal

abbrev pub invariant-loop-change : goal.invariant-loop-change
invariant-loop-change l = has_changes l.frame (drop l.change-index l.changes) ≡ has_changes l.frame l.changes
