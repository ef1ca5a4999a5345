use Rattle.std.proofs.Common.{◌≡◌, [], List, ℕ, drop, inl, arith, append-nil, subst}
use Rattle.std.proofs.lemmas.List.{drop_all}
use Rattle.run_layout.specs.Tables.{AreStarts}
use Rattle.flat_code.proofs.owner.starts_of.Goals as goal

pub returns : goal.returns
returns c =
    let none : drop c.loop-slot.slot-index c.args.slots.now ≡ [] = drop_all c.loop-slot.slot-index c.args.slots.now (omega arith) in
    subst (λ (l : List ℕ). AreStarts 0 c.args.slots.now l) (append-nil c.loop-slot.starts.items) (c.loop-slot.invariant [] (inl none))
