use Rattle.std.proofs.Common.{arith, rules, FitsSigned, w32, ℕ, ℤ, pos, set, ◌∙◌, ap}
use Rattle.std.proofs.lemmas.List.{get_or_default}
use Rattle.std.proofs.lemmas.Int.{to_z-of_z}
use Rattle.pml_store.specs.Writing.{before}
use Rattle.pml_store.specs.Laid.{frames_of}
use Rattle.pml_store.proofs.Back.{before_set}
use Rattle.pml_store.proofs.Places.{joined_is, index_is, at_index}
use Rattle.pml_store.proofs.Storing.{frames_of-set, contents_is, noted}
use Rattle.pml_store.proofs.store.Store.set_cell.Goals as goal

pub index-old-requires : goal.index-old-requires
index-old-requires c =
    let j = joined_is _ _ c.self.invariant.laid in
    let i = at_index _ _ c.requires.place c.args.at c.self.invariant.laid (rw (← c.self.view_is) at c.requires.there) (rw (← c.self.view_is) at c.requires.stands) in
    let w = rw j at i.within in
    omega (arith, w, c.self.inside.cells.ok.0)

pub index_mut-requires : goal.index_mut-requires
index_mut-requires c =
    let j = joined_is _ _ c.self.invariant.laid in
    let i = at_index _ _ c.requires.place c.args.at c.self.invariant.laid (rw (← c.self.view_is) at c.requires.there) (rw (← c.self.view_is) at c.requires.stands) in
    let w = rw j at i.within in
    omega (arith, w, c.self.inside.cells.ok.0)

pub overflow_cast-at : goal.overflow_cast-at
overflow_cast-at c =
    let j = joined_is _ _ c.self.invariant.laid in
    let i = at_index _ _ c.requires.place c.args.at c.self.invariant.laid (rw (← c.self.view_is) at c.requires.there) (rw (← c.self.view_is) at c.requires.stands) in
    let w = rw j at i.within in
    omega (arith, w, c.self.invariant.few, c.self.ranges)

pub returns-clause-ok : goal.returns-clause-ok
returns-clause-ok c p h e =
    let there = rw (← c.self.view_is) at h in
    let stands = rw (← c.self.view_is) at e in
    let j = joined_is _ _ c.self.invariant.laid in
    let at = at_index _ _ p c.args.at c.self.invariant.laid there stands in
    let k = rw j at at.within in
    let w = rw j at at.holds in
    let i = index_is _ _ p c.self.invariant.laid there in
    let fs = frames_of-set _ _ p c.args.number c.self.invariant.laid there in
    let f : FitsSigned w32 c.index-old.result.now = search rules in
    let g : FitsSigned w32 c.args.number = search rules in
    let number = to_z-of_z w32 c.args.number g in
    let before = to_z-of_z w32 c.index-old.result.now f ∙ c.index-old.ensures ∙ get_or_default c.self.inside.cells.items c.args.at c.index-old.result.now (pos 0) k ∙ w in
    let frames =
    ap (λ (n : ℤ). frames_of c.self.inside.frames.items (set c.self.inside.cells.items c.args.at n)) number
    ∙ ap (λ (n : ℕ). frames_of c.self.inside.frames.items (set c.self.inside.cells.items n c.args.number)) (at.value ∙ i) ∙ fs in
    let pushed = rw c.reserve.ensures.items at c.push_reserved.ensures.items in
    let written = pushed ∙ noted _ _ _ _ _ at.value before in
    rw (← c.self.view_is) (contents_is _ _ _ _ _ frames written)

pub returns-clause-past : goal.returns-clause-past
returns-clause-past c =
    ap before (returns-clause-ok c c.requires.place c.requires.there c.requires.stands) ∙ before_set c.args.self.now c.requires.place c.args.number c.requires.there
