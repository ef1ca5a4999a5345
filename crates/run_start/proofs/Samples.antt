-- Worked examples, computed.
use Rattle.std.proofs.Common.{◌≡◌, ℕ, [], ◌∷◌, pos, negsuc, refl, true, Ok, Err, replicate}
use Rattle.pml_token.specs.declared.token.Kind.TheVariants as kind
use Rattle.pml_tree.specs.declared.tree.Scalar.TheVariants as scalar
use Rattle.pml_program.specs.declared.form.Form.{Form}
use Rattle.pml_program.specs.declared.form.Form.TheVariants as form
use Rattle.pml_program.specs.declared.program.Initial.{Initial}
use Rattle.pml_program.specs.declared.program.Initial.TheVariants as initial
use Rattle.pml_program.specs.declared.program.Slot.{Slot}
use Rattle.pml_program.specs.declared.program.Fields.{Fields}
use Rattle.promela_process.specs.Numbers.{clipped, bits_of, is_signed}
use Rattle.promela_run.specs.declared.live_channel.LiveChannel.{LiveChannel}
use Rattle.diagnostics.specs.declared.fault.Fault.TheVariants.{TooManyChannels}
use Rattle.pml_program.specs.declared.expr.Expr.{Expr}
use Rattle.promela_run.specs.State.{State, nothing, frame_begun, with_values}
use Rattle.promela_run.specs.Statements.{channels_made, with_arguments, created}
use Rattle.run_start.specs.Shown.{no_program, idle}

abbrev byte : Form
byte = form.Plain scalar.Byte

abbrev variable : Form → ℕ → ℕ → ℕ → Initial → Slot
variable f offset length stride x = record {
  name = record { kind = kind.Name; text = []; line = 1 };
  form = f;
  array = true;
  offset = offset;
  length = length;
  stride = stride;
  initial = x;
}

abbrev owned : ℕ → LiveChannel
owned frame = record { frame = frame; channel = record { capacity = 3; types = byte ∷ []; messages = [] } }

-- a state in which nothing is there
abbrev nobody : State
nobody = nothing no_program

-- a byte keeps 44 of 300, in each element
bytes : with_values 0 (clipped byte (pos 300)) 0 2 (record nobody { frames = ((pos 0 ∷ pos 0 ∷ []) ∷ []) ∷ [] }) ≡ record nobody { frames = ((pos 44 ∷ pos 44 ∷ []) ∷ []) ∷ [] }
unfolding bits_of is_signed
bytes = refl

-- each element has a channel of its own
channels : frame_begun [] (variable (form.Plain scalar.Chan) 0 2 1 (initial.Channel 3 (byte ∷ [])) ∷ []) nobody ≡ Ok (record nobody { frames = ((pos 1 ∷ pos 2 ∷ []) ∷ []) ∷ []; channels = owned 0 ∷ owned 0 ∷ [] })
channels = refl

-- a typedef with a byte and a channel: its fields begin anew in each element
pair : Fields
pair = record { owner = 9; fields = variable byte 0 1 1 initial.Zero ∷ variable (form.Plain scalar.Chan) 1 1 1 (initial.Channel 3 (byte ∷ [])) ∷ [] }

fields : frame_begun (pair ∷ []) (variable (form.Struct 9) 0 2 2 initial.Zero ∷ []) nobody ≡ Ok (record nobody { frames = ((pos 0 ∷ pos 1 ∷ pos 0 ∷ pos 2 ∷ []) ∷ []) ∷ []; channels = owned 0 ∷ owned 0 ∷ [] })
unfolding pair
fields = refl

-- a process's channels are its own
second : frame_begun [] (variable (form.Plain scalar.Chan) 0 1 1 (initial.Channel 3 (byte ∷ [])) ∷ []) (record nobody { frames = [] ∷ [] ∷ []; stands = idle 4 ∷ idle 4 ∷ [] }) ≡ Ok (record nobody { frames = [] ∷ [] ∷ ((pos 1 ∷ []) ∷ []) ∷ []; channels = owned 2 ∷ []; stands = idle 4 ∷ idle 4 ∷ [] })
second = refl

-- ---- new processes

-- a global, a process with a variable, and a channel of the globals
abbrev one_process : State
one_process = record nobody { frames = ((pos 9 ∷ []) ∷ []) ∷ ((pos 8 ∷ []) ∷ []) ∷ []; channels = owned 0 ∷ []; stands = idle 4 ∷ [] }

abbrev full : State
full = record one_process { channels = replicate 255 (owned 0) }

abbrev short : Form
short = form.Plain scalar.Short

abbrev chan : Form
chan = form.Plain scalar.Chan

-- arguments are cut to the types of the parameters, and what is too much is left out
arguments : with_arguments 0 (variable byte 0 1 1 initial.Zero ∷ variable short 1 1 1 initial.Zero ∷ []) (pos 300 ∷ pos 40000 ∷ pos 5 ∷ [])
    (record one_process { frames = ((pos 9 ∷ []) ∷ []) ∷ ((pos 0 ∷ []) ∷ (pos 0 ∷ []) ∷ []) ∷ [] })
    ≡ record one_process { frames = ((pos 9 ∷ []) ∷ []) ∷ ((pos 44 ∷ []) ∷ (negsuc 25535 ∷ []) ∷ []) ∷ [] }
unfolding bits_of is_signed
arguments = refl

-- a parameter keeps its argument, and a local channel belongs to the new frame
locals : created [] (idle 7) (variable byte 0 1 1 initial.Zero ∷ variable chan 1 2 1 (initial.Channel 3 (byte ∷ [])) ∷ []) (pos 6 ∷ []) one_process
    ≡ Ok (record nobody {
      frames = ((pos 9 ∷ []) ∷ []) ∷ ((pos 8 ∷ []) ∷ []) ∷ ((pos 6 ∷ []) ∷ (pos 2 ∷ pos 3 ∷ []) ∷ []) ∷ [];
      channels = owned 0 ∷ owned 2 ∷ owned 2 ∷ [];
      stands = idle 4 ∷ idle 7 ∷ [];
    })
unfolding bits_of is_signed
locals = refl

-- too many channels are a fault before any initialiser is evaluated, whatever it is
too_many : (value : Expr) → created [] (idle 7) (variable byte 0 1 1 (initial.Value value) ∷ variable chan 1 1 1 (initial.Channel 0 (byte ∷ [])) ∷ []) [] full ≡ Err TooManyChannels
too_many value = refl

-- each cell that begins with a channel counts; with a value none does
counted : (value : Expr) → channels_made [] (variable chan 0 3 1 (initial.Channel 0 []) ∷ variable chan 3 1 1 initial.Zero ∷ variable chan 4 2 1 (initial.Value value) ∷ []) ≡ 3
counted value = refl
