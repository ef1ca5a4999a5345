-- What is always so of what lives.
use Rattle.std.specs.Prelude.{◌≡◌, ℕ, Bool, List, map, Option, None}
use Rattle.pml_program.specs.declared.program.Program.{Program}
use Rattle.pml_store.specs.Writing.{Contents, before}
use Rattle.promela_run.specs.declared.live_channel.LiveChannel.{LiveChannel}
use Rattle.run_start.specs.Bound.{IsBounded}
use Rattle.run_start.specs.Starting.{IsDeclared}
use Rattle.run_state.specs.declared.seat.Seat.{Seat}
use Rattle.run_state.specs.Standing.{stand_of}
use Rattle.promela_run.specs.World.{Running}

abbrev pub sorts_of : List Seat → List ℕ
sorts_of xs = map (λ (x : Seat). x.sort) xs

-- each variable has the cells that it is declared with, and no more is kept than the model says
pub record IsHeld (p : Program) (store : Contents) (channels : List LiveChannel) (sorts : List ℕ) (seats : List Seat) : Type 0 where
  pub declared : IsDeclared p store.frames sorts
  pub seated : sorts ≡ sorts_of seats
  pub bounded : IsBounded p store channels

-- What lives: its log leads back to what was there before the step, and it has not stopped.
abbrev pub live_of : Program → Contents → List LiveChannel → List Seat → Option ℕ → Bool → Running
live_of p store channels seats holder lossy = record {
  state = record { program = p; frames = store.frames; stands = map (stand_of p) seats; channels = channels; holder = holder; lossy = lossy };
  past = before store;
  halt = None;
}
