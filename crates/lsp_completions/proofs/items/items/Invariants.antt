use Rattle.std.proofs.Common.{◌≡◌, ◌++◌, drop, map}
use Rattle.serde_json.specs.View.{view}
use Rattle.lsp_completions.specs.Items.{item_of}
use Rattle.lsp_completions.proofs.items.items.Given as goal

abbrev pub invariant-loop-declaration : goal.invariant-loop-declaration
invariant-loop-declaration l =
    map view l.list.items ++ map (item_of l.text l.all l.asked) (drop l.declaration-index l.some) ≡ map (item_of l.text l.all l.asked) l.some
