-- The choice leads from the state where the walk stands to the one behind it.
use Rattle.std.proofs.Common.{◌≡◌, ◌∙◌, ap, sym, subst, ℕ, ◌+◌, List, length}
use Rattle.promela_run.specs.declared.moves.Move.{Move}
use Rattle.promela_run.specs.World.{world_moves}
use Rattle.view_walk.specs.declared.leg.Leg.{Leg}
use Rattle.view_walk.specs.Choices.{numbered, with_leg}
use Rattle.view_walk.specs.Walks.{Walked, IsWalk}
use Rattle.view_walk.proofs.Leads.{numbered_there}
use Rattle.view_walk.proofs.Walking.{turned}
use Rattle.view_walk.proofs.walk.Walk.choose.Goals as goal

pub invariant_of-self-in-Ok : goal.invariant_of-self-in-Ok
invariant_of-self-in-Ok c =
    let found = ap (λ (v : Walked). v.is_lost) c.self.view_is ∙ c.requires.found in
    let listed = c.as_slice.ensures.value ∙ c.in_ok-moves.ensures in
    let number = ap (λ (ms : List Move). numbered ms c.args.choice) (sym listed) ∙ sym c.move_at.ensures ∙ c.in-Some.is in
    let taken = c.in-Ok.ensures.step (numbered_there (world_moves c.self.inside.world) c.args.choice c.in-Some.m number) in
    let of : c.len-of.result ≡ length (world_moves c.self.inside.world) = c.len-of.ensures ∙ sym c.as_slice.ensures.len ∙ ap length listed in
    let legs = c.put.ensures
    ∙ ap (λ (ts : List Leg). with_leg ts c.self.inside.at (record { choice = c.args.choice; of = c.len-of.result })) c.reserve.ensures.items
    ∙ ap (λ (n : ℕ). with_leg c.self.inside.legs.items c.self.inside.at (record { choice = c.args.choice; of = n })) of in
    subst (λ (ts : List Leg). IsWalk (record { program = c.self.inside.checked.now; lossy = c.self.inside.lossy; legs = ts; at = c.self.inside.at + 1; is_lost = c.self.inside.is_lost; state = c.take.new.self }))
    (sym legs) (turned _ c.self.invariant found c.args.choice c.in-Some.m c.take.new.self taken.0 number taken.1)
