use Rattle.std.proofs.Common.{◌≡◌, ◌++◌, drop, map}
use Rattle.serde_json.specs.View.{view}
use Rattle.lsp_results.specs.Symbols.{symbol_of}
use Rattle.lsp_results.proofs.symbols.add_symbols.Given as goal

abbrev pub invariant-loop-declaration : goal.invariant-loop-declaration
invariant-loop-declaration l =
    map view l.list.items ++ map (symbol_of l.page l.all) (drop l.declaration-index l.some)
    ≡ map view l.fn.list.items ++ map (symbol_of l.page l.all) l.some
