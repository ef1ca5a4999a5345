-- The next choice is that of a move whose step is no fault, since all choices of the walk lead somewhere.
use Rattle.std.proofs.Common.{◌∙◌, ap, sym, subst, refl, ◌<◌, List, length}
use Rattle.std.proofs.lemmas.Option.{slice_get_read}
use Rattle.diagnostics.specs.declared.stop.Stop.{Stop}
use Rattle.session.specs.Takes.{IsReason}
use Rattle.promela_run.specs.declared.moves.Move.{Move}
use Rattle.promela_run.specs.World.{world_moves, rules}
use Rattle.view_walk.specs.Choices.{numbered}
use Rattle.view_walk.specs.Walks.{Walked}
use Rattle.view_walk.proofs.Leads.{numbered_there}
use Rattle.view_walk.proofs.Walking.{has_move, has_no_fault, stepped}
use Rattle.view_walk.proofs.walk.Walk.step_on.Goals as goal

pub unreachable-requires : goal.unreachable-requires
unreachable-requires c =
    let found = ap (λ (v : Walked). v.is_lost) c.self.view_is ∙ c.requires.found in
    let within : c.self.inside.at < length c.self.inside.legs.items = rw (← c.self.view_is) at c.requires.next in
    let at = slice_get_read c.self.inside.legs.items (length c.self.inside.legs.items) c.self.inside.at c.index-leg.result.now refl within c.index-leg.ensures in
    let listed = c.as_slice.ensures.value ∙ c.in_ok-moves.ensures in
    let number = ap (λ (ms : List Move). numbered ms c.index-leg.result.now.choice) (sym listed) ∙ sym c.move_at.ensures ∙ c.in_default.is in
    has_move _ c.self.invariant found c.index-leg.result.now at number

pub take-requires : goal.take-requires
take-requires c =
    let listed = c.as_slice.ensures.value ∙ c.in_ok-moves.ensures in
    let number = ap (λ (ms : List Move). numbered ms c.index-leg.result.now.choice) (sym listed) ∙ sym c.move_at.ensures ∙ c.in-Some.is in
    record { present = λ going. numbered_there (world_moves c.self.inside.world) c.index-leg.result.now.choice c.in-Some.m number }

pub invariant_of-self : goal.invariant_of-self
invariant_of-self c =
    let found = ap (λ (v : Walked). v.is_lost) c.self.view_is ∙ c.requires.found in
    let within : c.self.inside.at < length c.self.inside.legs.items = rw (← c.self.view_is) at c.requires.next in
    let at = slice_get_read c.self.inside.legs.items (length c.self.inside.legs.items) c.self.inside.at c.index-leg.result.now refl within c.index-leg.ensures in
    let listed = c.as_slice.ensures.value ∙ c.in_ok-moves.ensures in
    let number = ap (λ (ms : List Move). numbered ms c.index-leg.result.now.choice) (sym listed) ∙ sym c.move_at.ensures ∙ c.in-Some.is in
    let taken = c.in-Ok.ensures.step (numbered_there (world_moves c.self.inside.world) c.index-leg.result.now.choice c.in-Some.m number) in
    stepped _ c.self.invariant found c.index-leg.result.now c.in-Some.m c.take.new.self taken.0 at number taken.1

pub unreachable-requires-in-Err-Fault : goal.unreachable-requires-in-Err-Fault
unreachable-requires-in-Err-Fault c =
    let found = ap (λ (v : Walked). v.is_lost) c.self.view_is ∙ c.requires.found in
    let within : c.self.inside.at < length c.self.inside.legs.items = rw (← c.self.view_is) at c.requires.next in
    let at = slice_get_read c.self.inside.legs.items (length c.self.inside.legs.items) c.self.inside.at c.index-leg.result.now refl within c.index-leg.ensures in
    let listed = c.as_slice.ensures.value ∙ c.in_ok-moves.ensures in
    let number = ap (λ (ms : List Move). numbered ms c.index-leg.result.now.choice) (sym listed) ∙ sym c.move_at.ensures ∙ c.in-Some.is in
    let stopped = c.in-Err-Fault.ensures.step (numbered_there (world_moves c.self.inside.world) c.index-leg.result.now.choice c.in-Some.m number) in
    let faults = subst (λ (e : Stop). IsReason rules c.self.inside.world c.in-Some.m e) c.in-Err-Fault.field-0-is stopped.0 in
    has_no_fault _ c.self.invariant found c.index-leg.result.now c.in-Some.m c.in-Err-Fault.field-0-0 at number faults
