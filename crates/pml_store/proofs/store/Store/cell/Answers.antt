use Rattle.std.proofs.Common.{arith, rules, FitsSigned, w32, ◌∙◌}
use Rattle.std.proofs.lemmas.List.{get_or_default}
use Rattle.std.proofs.lemmas.Int.{to_z-of_z}
use Rattle.pml_store.proofs.Places.{joined_is}
use Rattle.pml_store.proofs.store.Store.cell.Goals as goal

pub index-requires : goal.index-requires
index-requires c =
    let j = joined_is _ _ c.self.invariant.laid in
    let w = rw (← c.self.view_is, j) at c.requires in
    omega (arith, w, c.self.inside.cells.ok.0)

pub returns : goal.returns
returns c =
    let j = joined_is _ _ c.self.invariant.laid in
    let k = rw (← c.self.view_is, j) at c.requires in
    let f : FitsSigned w32 c.index.result.now = search rules in
    rw (← c.self.view_is, j) (to_z-of_z w32 c.index.result.now f ∙ c.index.ensures ∙ get_or_default _ _ _ _ k)
