use Rattle.std.proofs.Common.{◌≡◌, ◌++◌, drop, map, filter}
use Rattle.serde_json.specs.View.{view}
use Rattle.lsp_completions.specs.Items.{begins_so, word_of}
use Rattle.lsp_completions.proofs.items.words.Given as goal

abbrev pub invariant-loop-one : goal.invariant-loop-one
invariant-loop-one l =
    map view l.list.items ++ map word_of (filter (begins_so l.typed) (map (λ w. w.now) (drop l.one-index l.words)))
    ≡ map word_of (filter (begins_so l.typed) (map (λ w. w.now) l.words))
