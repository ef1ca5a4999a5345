use Rattle.std.proofs.Common.{List, sym, subst}
use Rattle.std.specs.List.{All}
use Rattle.std.proofs.lemmas.List.Elements.{All-push}
use Rattle.run_layout.specs.declared.cursor.Stage.{Stage}
use Rattle.run_layout.specs.Cursor.{IsOnWay}
use Rattle.run_layout.proofs.cursor.Cursor.place.Goals as goal

pub invariant_of-self-in-Some : goal.invariant_of-self-in-Some
invariant_of-self-in-Some c =
    let v = sym c.self.view_is in
    let w = rw v at c.in-Some.ensures.way in
    let P = IsOnWay c.self.inside.typedefs.now c.self.inside.slot.now in
    subst (λ (gs : List Stage). All P gs) (sym c.in_ok-push.ensures.items) (All-push P c.self.inside.stages.items c.in-Some.next c.self.invariant w)
