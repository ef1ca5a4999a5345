use Rattle.std.proofs.Common.{◌≡◌, ◌++◌, drop, map}
use Rattle.serde_json.specs.View.{view}
use Rattle.lsp_results.specs.Places.{mark_of}
use Rattle.lsp_results.proofs.page.marks.Given as goal

abbrev pub invariant-loop-place : goal.invariant-loop-place
invariant-loop-place l = map view l.list.items ++ map (mark_of l.page l.length) (drop l.place-index l.places) ≡ map (mark_of l.fn.page l.fn.length) l.fn.places
