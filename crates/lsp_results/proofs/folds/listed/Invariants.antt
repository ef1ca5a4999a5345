use Rattle.std.proofs.Common.{◌≡◌, ◌++◌, drop, map, filter}
use Rattle.serde_json.specs.View.{view}
use Rattle.lsp_results.specs.Lines.{lines_of, is_long, told_of}
use Rattle.lsp_results.proofs.folds.listed.Given as goal

abbrev pub invariant-loop-fold : goal.invariant-loop-fold
invariant-loop-fold l =
    map view l.list.items ++ map told_of (filter is_long (map (lines_of l.page) (drop l.fold-index l.folds)))
    ≡ map told_of (filter is_long (map (lines_of l.page) l.folds))
