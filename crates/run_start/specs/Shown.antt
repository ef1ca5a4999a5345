-- What the code keeps of a beginning, and what beginning a frame answers.
use Rattle.std.specs.Prelude.{◌≡◌, ℕ, List, [], length, map, None, false, Result, Ok, Err}
use Rattle.diagnostics.specs.declared.fault.Fault.{Fault}
use Rattle.pml_program.specs.declared.program.Program.{Program}
use Rattle.promela_process.specs.Store.{Frame}
use Rattle.pml_store.specs.Writing.{Contents}
use Rattle.promela_run.specs.declared.live_channel.LiveChannel.{LiveChannel}
use Rattle.diagnostics.specs.declared.stop.Stop.{Stop}
use Rattle.diagnostics.specs.declared.stop.Stop.TheVariants as stop
use Rattle.run_start.specs.declared.started.Started.{Started}
use Rattle.promela_run.specs.State.{Stand, State, begins_at}

-- what a store, channels and processes are as a state of this model
abbrev pub held : Program → Contents → List LiveChannel → List Stand → State
held p store channels stands = record { program = p; frames = store.frames; stands = stands; channels = channels; holder = None; lossy = false }

-- a model without anything
abbrev pub no_program : Program
no_program = record { constants = []; typedefs = []; globals = []; proctypes = [] }

-- a process of the proctype with this number that has nothing to do
abbrev pub idle : ℕ → Stand
idle k = record { sort = k; control = [] }

-- What has been started, where nothing is known but that. Of the processes what begins asks how many there are.
abbrev pub shown : Started → State
shown s = held no_program s.store s.channels.items (map idle s.sorts.items)

-- what has been started, as a state of this model in which all processes stand before their first statements
abbrev pub begun : Program → Started → State
begun p s = held p s.store s.channels.items (map (begins_at p) s.sorts.items)

-- ---- what is known of it

-- how many cells the variables of each owner have
abbrev pub shape : List Frame → List (List ℕ)
shape = map (map length)

-- all are begun, or the first fault is answered; where memory is refused, nothing is said
abbrev pub Begins : Result State Fault → Result (Unit {0}) Stop → State → Type 0
Begins (Ok b) (Ok u) new = new ≡ b
Begins (Ok b) (Err stop.Memory) new = Unit {0}
Begins (Ok b) (Err (stop.Fault f)) new = ⊥
Begins (Err f) (Err (stop.Fault g)) new = g ≡ f
Begins (Err f) (Err stop.Memory) new = Unit {0}
Begins (Err f) (Ok u) new = ⊥
