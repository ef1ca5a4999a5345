use Rattle.run_state.proofs.Fitting.{fitted}
use Rattle.run_state.proofs.live.Live.fits.Goals as goal

pub returns : goal.returns
returns c =
    rw (← c.self.view_is)
    (fitted c.self.inside.played c.self.inside.started.store c.self.inside.started.channels.items c.self.inside.started.sorts.items c.self.inside.seats.items c.self.inside.holder c.self.inside.lossy c.self.invariant
    c.args.process (rw (← c.self.view_is) at c.requires))
