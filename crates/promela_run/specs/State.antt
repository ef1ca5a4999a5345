-- A state of a model with any number of processes: which cells its variables have, what an expression of a process reads, the first state, and
-- what processes are offered.
-- Hold it against chapter 7 of the book: what a state holds; the pages `arrays`, `typedef`, `datatypes`, `chan`, `init`, `active`, `_pid` and `_nr_pr`.
use Rattle.std.specs.Prelude.{ℕ, zero, suc, length, ◌-◌, ◌*◌, ◌%◌, nat_eq, ltb, if◌then◌else◌, List, [], ◌∷◌, Option, Some, None, ◌+◌, Bool, ℤ, pos, negsuc, option_map, slice_get, min, ◌++◌, map, false, nat_lt, Result, Ok, Err, option_and_then}
use Rattle.std.specs.Option.{option_map_or}
use Rattle.pml_program.specs.declared.form.Form.{Form}
use Rattle.pml_program.specs.declared.form.Form.TheVariants as kind
use Rattle.pml_program.specs.declared.program.Slot.{Slot}
use Rattle.pml_program.specs.declared.program.Fields.{Fields}
use Rattle.pml_program.specs.declared.program.Proctype.{Proctype}
use Rattle.promela_process.specs.Expressions.{Reading, Filling, val, ◌>>=◌}
use Rattle.promela_process.specs.Store.{Frame, size_at, number_at, ChannelState, with_number, zeros}
use Rattle.promela_run.specs.declared.live_channel.LiveChannel.{LiveChannel}
use Rattle.profile.specs.declared.TheConstants.{MOST_CHANNELS, MOST_MESSAGES, MOST_PROCESSES}
use Rattle.diagnostics.specs.declared.fault.Fault.{Fault}
use Rattle.diagnostics.specs.declared.fault.Fault.TheVariants.{TooManyChannels}
use Rattle.pml_program.specs.declared.expr.Expr.{Expr}
use Rattle.pml_program.specs.declared.program.Initial.{Initial}
use Rattle.pml_program.specs.declared.program.Initial.TheVariants as i
use Rattle.promela_process.specs.Numbers.{clipped}
use Rattle.promela_process.specs.declared.place.Place.{Place}
use Rattle.pml_program.specs.declared.program.Program.{Program}
use Rattle.promela_process.specs.Offers.{Offer, offer_of, offers}
use Rattle.promela_run.specs.declared.moves.Pick.{Pick}
use Rattle.pml_program.specs.declared.program.Seq.{Seq}
use Rattle.promela_process.specs.Control.{Control, settle, at, steps}

-- how many cells a variable or a field has
abbrev pub size : Slot → ℕ
size s = s.length * s.stride

-- of variables or fields that lie one behind another, the one with this cell, if they have as many
abbrev pub slot_of : List Slot → ℕ → Option Slot
slot_of [] i = None
slot_of (s ∷ ss) i = if ltb i (size s) then Some s else slot_of ss (i - size s)

-- the number of this cell in it, or among the cells behind them all
abbrev pub cell_of : List Slot → ℕ → ℕ
cell_of [] i = i
cell_of (s ∷ ss) i = if ltb i (size s) then i else cell_of ss (i - size s)

-- the fields of the typedef with this owner
abbrev pub fields_at : List Fields → ℕ → List Slot
fields_at [] o = []
fields_at (t ∷ ts) o = if nat_eq o t.owner then t.fields else fields_at ts o

-- the fields of a type: a typedef's alone has any
abbrev pub fields_of : List Fields → Form → List Slot
fields_of ts (kind.Struct o) = fields_at ts o
fields_of ts _ = []

-- the last of n fields at most that lead to a cell within an element of a variable or field
abbrev pub last_field : List Fields → ℕ → Slot → ℕ → Slot
last_field ts zero s cell = s
last_field ts (suc n) s cell = elim (slot_of (fields_of ts s.form) cell) as (λ _. Slot) [
  | None ↦ s
  | Some f ↦ last_field ts n f (cell_of (fields_of ts s.form) cell % f.stride)
]

-- The field of no typedef's type that a cell of a variable is in, or the variable itself. The fields of a typedef are of earlier ones,
-- so no more lead to a cell than there are typedefs.
abbrev pub leaf : List Fields → Slot → ℕ → Slot
leaf ts s cell = last_field ts (length ts) s (cell % s.stride)

-- ---- what an expression of one process reads

-- a channel's number is its place in the list of live channels, from 1
abbrev pub channel_at : List LiveChannel → ℤ → Option ChannelState
channel_at channels (pos zero) = None
channel_at channels (pos (suc n)) = option_map (λ o. o.channel) (slice_get channels n)
channel_at channels (negsuc n) = None

-- what an expression reads of a channel
abbrev pub filling : ChannelState → Filling
filling c = record { capacity = c.capacity; fields = length c.types; messages = c.messages }

-- What a process with this number reads of the frames and the live channels, where so many processes live. Frame 0
-- has the globals, and frame n + 1 the variables of process n.
abbrev pub reading_of : List Frame → List LiveChannel → ℕ → ℕ → Bool → Reading
reading_of frames channels pid process_count timeout = record {
  frame = λ local. if local then pid + 1 else 0;
  cells = size_at frames;
  holds = number_at frames;
  pid = pos pid;
  process_count = pos process_count;
  timeout = timeout;
  channel = λ n. option_map filling (channel_at channels n);
}

-- ---- a state, and what its processes are offered

-- A process: its proctype, by its number in the model, and what it still has to do. At its closing brace nothing is left.
pub record Stand : Type 0 where
  pub sort : ℕ
  pub control : Control

-- A state. The frames are what the variables hold, the globals' first, then those of each process; the oldest process is first, and
-- so is the oldest channel. The holder has exclusive control. Where it is lossy, what is sent to a full channel is lost.
pub record State : Type 0 where
  pub program : Program
  pub frames : List Frame
  pub stands : List Stand
  pub channels : List LiveChannel
  pub holder : Option ℕ
  pub lossy : Bool

-- what an expression of a process reads, under this `timeout`
abbrev pub reads : State → ℕ → Bool → Reading
reads s process timeout = reading_of s.frames s.channels process (length s.stands) timeout

-- the body of the proctype with this number
abbrev pub body_of : Program → ℕ → Option Seq
body_of pr k = option_map (λ q. q.body) (slice_get pr.proctypes k)

-- what a process of this body has to do before its first statement
abbrev pub first_control : Seq → Control
first_control b = settle b (at (steps b) ([], 0))

-- a process of the proctype with this number before its first statement
abbrev pub begins_at : Program → ℕ → Stand
begins_at p k = record { sort = k; control = option_map_or first_control (body_of p k) [] }

-- ---- what the variables of a frame begin with

-- a state in which nothing is there yet
abbrev pub nothing : Program → State
nothing p = record { program = p; frames = []; stands = []; channels = []; holder = None; lossy = false }

-- what the initialisers of the youngest frame read: its number, how many processes live, and what is there by now
abbrev pub read_in : State → Reading
read_in s = reads s (length s.stands - 1) false

-- a cell of a variable of the youngest frame
abbrev pub youngest_cell : State → ℕ → ℕ → Place
youngest_cell now variable cell = record { frame = length now.stands; variable = variable; cell = cell }

-- a number in a cell
abbrev pub with_value : ℕ → ℕ → ℤ → State → State
with_value variable cell v now = record now { frames = with_number now.frames (youngest_cell now variable cell) v }

-- a channel has a capacity of at most 65,535, which is all that a checked model asks for
abbrev pub empty_channel : ℕ → List Form → ChannelState
empty_channel capacity types = record { capacity = min capacity MOST_MESSAGES; types = types; messages = [] }

-- a new channel, and its number in a cell
abbrev pub with_channel : ℕ → ℕ → ChannelState → State → Result State Fault
with_channel variable cell c now =
    if nat_lt (length now.channels) MOST_CHANNELS then Ok (record now {
      frames = with_number now.frames (youngest_cell now variable cell) (pos (length now.channels + 1));
      channels = now.channels ++ record { frame = length now.stands; channel = c } ∷ [];
    }) else Err TooManyChannels

-- what a type keeps of the value of an initialiser
abbrev pub initial_value : Expr → Form → Reading → Result ℤ Fault
initial_value v form r = val v r >>= λ n. Ok (clipped form n)

-- what a constant reads: nothing is there
abbrev pub unread : Reading
unread = reading_of [] [] 0 0 false

-- what a cell begins with. The initialiser of a field is a constant.
abbrev pub cell_begun : Initial → Form → ℕ → ℕ → State → Result State Fault
cell_begun i.Zero form variable cell now = Ok now
cell_begun (i.Value v) form variable cell now = initial_value v form unread >>= λ n. Ok (with_value variable cell n now)
cell_begun (i.Channel capacity types) form variable cell now = with_channel variable cell (empty_channel capacity types) now

-- a number in n cells, from this one on
abbrev pub with_values : ℕ → ℤ → ℕ → ℕ → State → State
with_values variable v cell zero now = now
with_values variable v cell (suc n) now = with_values variable v (cell + 1) n (with_value variable cell v now)

-- n cells of a variable in order, from this one on: each by the field that has it, or by the variable itself where its
-- type has no fields
abbrev pub fields_begun : List Fields → Slot → ℕ → ℕ → ℕ → State → Result State Fault
fields_begun ts s variable cell zero now = Ok now
fields_begun ts s variable cell (suc n) now =
    cell_begun (leaf ts s cell).initial (leaf ts s cell).form variable cell now
    >>= fields_begun ts s variable (cell + 1) n

-- what a variable begins with: a value is evaluated once, for all cells; without one, each cell begins by itself, and a channel
-- is made for each
abbrev pub variable_begun : List Fields → Initial → Slot → ℕ → State → Result State Fault
variable_begun ts (i.Value v) s variable now = initial_value v s.form (read_in now) >>= λ n. Ok (with_values variable n 0 (size s) now)
variable_begun ts _ s variable now = fields_begun ts s variable 0 (size s) now

-- the variables of a frame in order of declaration, from this number on
abbrev pub variables_begun : List Fields → List Slot → ℕ → State → Result State Fault
variables_begun ts [] variable now = Ok now
variables_begun ts (s ∷ ss) variable now = variable_begun ts s.initial s variable now >>= variables_begun ts ss (variable + 1)

-- one more frame, with 0 in each cell
abbrev pub with_frame : List Slot → State → State
with_frame ss now = record now { frames = now.frames ++ zeros (map size ss) ∷ [] }

-- the variables of one more frame: 0 in each cell, and then the initialisers
abbrev pub frame_begun : List Fields → List Slot → State → Result State Fault
frame_begun ts ss now = variables_begun ts ss 0 (with_frame ss now)

-- ---- which processes begin, and with what

-- the variables of the proctype with this number, if it is there
abbrev pub variables_at : Program → ℕ → List Slot
variables_at p k = option_map_or (λ q. q.variables) (slice_get p.proctypes k) []

-- a process more, the youngest, that stands so
abbrev pub youngest_joined : Stand → State → State
youngest_joined y now = record now { stands = now.stands ++ y ∷ [] }

-- a process of the proctype with this number; none is the 256th
abbrev pub process_begun : Program → ℕ → State → Result State Fault
process_begun p k now =
    if nat_lt (length now.stands) MOST_PROCESSES then frame_begun p.typedefs (variables_at p k) (youngest_joined (begins_at p k) now) else Ok now

-- n such processes
abbrev pub sort_begun : Program → ℕ → ℕ → State → Result State Fault
sort_begun p k zero now = Ok now
sort_begun p k (suc n) now = process_begun p k now >>= sort_begun p k n

-- the processes that these proctypes start with, from the one with the number k on
abbrev pub sorts_begun : Program → ℕ → List Proctype → State → Result State Fault
sorts_begun p k [] now = Ok now
sorts_begun p k (q ∷ qs) now = sort_begun p k q.starts now >>= sorts_begun p (k + 1) qs

-- The globals, and then the processes one after the other: all stand before their first statements, and nobody holds exclusive control.
abbrev pub first_state : Program → Result State Fault
first_state p = frame_begun p.typedefs p.globals (nothing p) >>= sorts_begun p 0 p.proctypes

-- ---- what processes are offered

-- the offers of a point of a body, level by level from 0 upwards
abbrev pub levels : Seq → Control → List (List Offer)
levels b c = map (map (offer_of b)) (offers b c)

-- none, where there is no body
abbrev pub levels_in : Option Seq → Control → List (List Offer)
levels_in None c = []
levels_in (Some b) c = levels b c

-- the offer of a process by its level and its place there, if there is such a process, level and place
abbrev pub picked : State → Pick → Option Offer
picked s k =
    option_and_then (λ y.
    option_and_then (λ os. slice_get os k.place) (slice_get (levels_in (body_of s.program y.sort) y.control) k.level))
    (slice_get s.stands k.process)
