use Rattle.std.proofs.Common.{◌≡◌, ◌++◌, drop, filter}
use Rattle.lsp_results.specs.Told.{is_asked}
use Rattle.lsp_results.proofs.places.asked_for.Given as goal

abbrev pub invariant-loop-place : goal.invariant-loop-place
invariant-loop-place l =
    l.out.items ++ filter (is_asked l.with_declaration l.declared) (drop l.place-index l.places) ≡ filter (is_asked l.with_declaration l.declared) l.places
