use Rattle.std.proofs.Common.{arith, rules, FitsSigned, w32, ℕ, ℤ, pos, set, ◌∙◌, ap}
use Rattle.std.proofs.lemmas.List.{get_or_default}
use Rattle.std.proofs.lemmas.Int.{to_z-of_z}
use Rattle.pml_store.specs.Writing.{before}
use Rattle.pml_store.specs.Laid.{frames_of}
use Rattle.pml_store.proofs.Back.{before_set}
use Rattle.pml_store.proofs.Places.{joined_is, index_is}
use Rattle.pml_store.proofs.Storing.{frames_of-set, contents_is, noted}
use Rattle.pml_store.proofs.store.Store.set.Goals as goal

pub index-before-requires : goal.index-before-requires
index-before-requires c =
    let j = joined_is _ _ c.self.invariant.laid in
    let w = rw (← c.self.view_is, j) at c.index-at.ensures.within in
    omega (arith, c.self.inside.cells.ok.0)

pub index_mut-requires : goal.index_mut-requires
index_mut-requires c =
    let j = joined_is _ _ c.self.invariant.laid in
    let w = rw (← c.self.view_is, j) at c.index-at.ensures.within in
    omega (arith, c.self.inside.cells.ok.0)

pub returns-clause-ok : goal.returns-clause-ok
returns-clause-ok c =
    let there = rw (← c.self.view_is) at c.requires in
    let j = joined_is _ _ c.self.invariant.laid in
    let k = rw (← c.self.view_is, j) at c.index-at.ensures.within in
    let w = rw (← c.self.view_is, j) at c.index-at.ensures.holds in
    let v = rw (← c.self.view_is) at c.index-at.ensures.value in
    let i = index_is _ _ c.args.place c.self.invariant.laid there in
    let fs = frames_of-set _ _ c.args.place c.args.number c.self.invariant.laid there in
    let f : FitsSigned w32 c.index-before.result.now = search rules in
    let g : FitsSigned w32 c.args.number = search rules in
    let number = to_z-of_z w32 c.args.number g in
    let before = to_z-of_z w32 c.index-before.result.now f ∙ c.index-before.ensures ∙ get_or_default c.self.inside.cells.items c.index-at.result c.index-before.result.now (pos 0) k ∙ w in
    let frames =
    ap (λ (n : ℤ). frames_of c.self.inside.frames.items (set c.self.inside.cells.items c.index-at.result n)) number
    ∙ ap (λ (n : ℕ). frames_of c.self.inside.frames.items (set c.self.inside.cells.items n c.args.number)) (v ∙ i) ∙ fs in
    let pushed = rw c.reserve.ensures.items at c.push_reserved.ensures.items in
    let written = pushed ∙ noted _ _ _ _ _ v before in
    rw (← c.self.view_is) (contents_is _ _ _ _ _ frames written)

pub returns-clause-past : goal.returns-clause-past
returns-clause-past c = ap before (returns-clause-ok c) ∙ before_set c.args.self.now c.args.place c.args.number c.requires

pub overflow_cast-at : goal.overflow_cast-at
overflow_cast-at c =
    let j = joined_is _ _ c.self.invariant.laid in
    let w = rw (← c.self.view_is, j) at c.index-at.ensures.within in
    omega (arith, w, c.self.invariant.few, c.self.ranges)
