-- The choices that stand lead to the state where the walk stands.
use Rattle.std.proofs.Common.{◌∙◌, ap, sym, subst, List}
use Rattle.view_walk.specs.declared.leg.Leg.{Leg}
use Rattle.view_walk.specs.Walks.{Walked, IsWalk}
use Rattle.view_walk.proofs.Walking.{forgotten}
use Rattle.view_walk.proofs.walk.Walk.forget.Goals as goal

pub invariant_of-self : goal.invariant_of-self
invariant_of-self c =
    let found = ap (λ (v : Walked). v.is_lost) c.self.view_is ∙ c.requires.found in
    subst (λ (ts : List Leg). IsWalk (record { program = c.self.inside.checked.now; lossy = c.self.inside.lossy; legs = ts; at = c.self.inside.at; is_lost = c.self.inside.is_lost; state = c.self.inside.world }))
    (sym c.truncate.ensures.items) (forgotten _ c.self.invariant found)
