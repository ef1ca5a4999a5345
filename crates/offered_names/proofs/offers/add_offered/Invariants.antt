use Rattle.std.proofs.Common.{◌≡◌, ◌++◌, drop, filter}
use Rattle.offered_names.specs.Offers.{is_offered}
use Rattle.offered_names.proofs.offers.add_offered.Given as goal

abbrev pub invariant-loop-declaration : goal.invariant-loop-declaration
invariant-loop-declaration l =
    l.out.items ++ filter (is_offered l.text l.wish) (drop l.declaration-index l.declarations)
    ≡ l.fn.out.items ++ filter (is_offered l.text l.wish) l.declarations
