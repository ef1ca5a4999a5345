use Rattle.std.proofs.Common.{◌≡◌, ap, sym, subst, length}
use Rattle.promela_run.specs.State.{State}
use Rattle.run_texts.specs.Staying.{IsWithin}
use Rattle.promela_run.specs.World.{Running}
use Rattle.pml_sim.proofs.Stepping.{listed_within}
use Rattle.pml_sim.proofs.world.WorldMachine.origin.Goals as goal

pub origin-requires : goal.origin-requires
origin-requires c =
    let state : c.args.self.now.state ≡ c.self.inside.live.state = ap (λ (w : Running). w.state) (sym c.self.view_is) in
    record { lives = subst (λ (s : State). IsWithin (length s.stands) c.args.m.now) state (listed_within c.args.self.now c.args.m.now c.requires.present) }
