use Rattle.std.proofs.Common.{◌≡◌, ◌++◌, drop, map}
use Rattle.serde_json.specs.View.{view}
use Rattle.lsp_results.specs.Renames.{edit_of}
use Rattle.lsp_results.proofs.renames.edits.Given as goal

abbrev pub invariant-loop-place : goal.invariant-loop-place
invariant-loop-place l =
    map view l.list.items ++ map (edit_of l.page l.length l.name) (drop l.place-index l.places) ≡ map (edit_of l.page l.length l.name) l.places
