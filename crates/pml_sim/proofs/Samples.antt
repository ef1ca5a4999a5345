-- Worked examples of what a model allows and what a state keeps, computed.
use Rattle.std.proofs.Common.{◌≡◌, ℕ, List, [], ◌∷◌, None, ℤ, pos, false, refl}
use Rattle.pml_token.specs.declared.token.Kind.TheVariants as kind
use Rattle.pml_token.specs.Word.{Word}
use Rattle.pml_tree.specs.declared.tree.Scalar.TheVariants as scalar
use Rattle.pml_program.specs.declared.form.Form.{Form}
use Rattle.pml_program.specs.declared.form.Form.TheVariants as form
use Rattle.pml_program.specs.declared.program.Initial.{Initial}
use Rattle.pml_program.specs.declared.program.Initial.TheVariants as initial
use Rattle.pml_program.specs.declared.program.Slot.{Slot}
use Rattle.pml_program.specs.declared.program.Seq.{roll-Seq}
use Rattle.pml_program.specs.declared.program.Proctype.{Proctype}
use Rattle.pml_program.specs.declared.program.Program.{Program}
use Rattle.promela_process.specs.Store.{Frame}
use Rattle.promela_run.specs.declared.live_channel.LiveChannel.{LiveChannel}
use Rattle.run_start.specs.Bound.{bound}
use Rattle.promela_run.specs.State.{Stand, State}
use Rattle.run_state.specs.Footprint.{held}

word : Word
word = record { kind = kind.Name; text = []; line = 1 }

abbrev byte : Form
byte = form.Plain scalar.Byte

abbrev variable : Form → ℕ → Initial → Slot
variable f offset x = record { name = word; form = f; array = false; offset = offset; length = 1; stride = 1; initial = x }

abbrev proctype : List Slot → Proctype
proctype ss = record { name = word; owner = 1; starts = 0; parameters = 0; variables = ss; body = roll-Seq (record { steps = [] }); end = word }

abbrev model : List Slot → List Proctype → Program
model ss ps = record { globals = ss; constants = []; typedefs = []; proctypes = ps }

abbrev channel : ℕ → ℕ → List (List ℤ) → LiveChannel
channel frame capacity ms = record { frame = frame; channel = record { capacity = capacity; types = byte ∷ byte ∷ []; messages = ms } }

abbrev stand : ℕ → Stand
stand k = record { sort = k; control = [] }

abbrev state : Program → List Frame → List Stand → List LiveChannel → State
state p frames stands channels = record { program = p; frames = frames; stands = stands; channels = channels; holder = None; lossy = false }

-- chan g; proctype P() { chan c = [1] of { byte }; .. } init { .. }
abbrev by_runs : Program
by_runs = model (variable (form.Plain scalar.Chan) 0 initial.Zero ∷ []) (proctype (variable (form.Plain scalar.Chan) 0 (initial.Channel 1 (byte ∷ [])) ∷ []) ∷ proctype [] ∷ [])

bound_by_runs : bound by_runs ≡ 1531
bound_by_runs = refl

-- init alone, and then with a P beside it
init_alone : held (state by_runs (((pos 0 ∷ []) ∷ []) ∷ [] ∷ []) (stand 1 ∷ []) []) ≡ 3
init_alone = refl

one_run : held (state by_runs (((pos 0 ∷ []) ∷ []) ∷ [] ∷ ((pos 1 ∷ []) ∷ []) ∷ []) (stand 1 ∷ stand 0 ∷ []) (channel 2 1 [] ∷ [])) ≡ 8
one_run = refl

-- chan q = [4] of { byte, byte }; byte x; init { .. }
abbrev by_messages : Program
by_messages = model (variable (form.Plain scalar.Chan) 0 (initial.Channel 4 (byte ∷ byte ∷ [])) ∷ variable byte 1 initial.Zero ∷ []) (proctype [] ∷ [])

bound_by_messages : bound by_messages ≡ 3062
bound_by_messages = refl

-- with these messages in q
abbrev holding : List (List ℤ) → State
holding ms = state by_messages (((pos 1 ∷ []) ∷ (pos 0 ∷ []) ∷ []) ∷ [] ∷ []) (stand 0 ∷ []) (channel 0 4 ms ∷ [])

empty : held (holding []) ≡ 6
empty = refl

four : held (holding ((pos 1 ∷ pos 4 ∷ []) ∷ (pos 1 ∷ pos 9 ∷ []) ∷ (pos 2 ∷ pos 5 ∷ []) ∷ (pos 3 ∷ pos 1 ∷ []) ∷ [])) ≡ 14
four = refl
