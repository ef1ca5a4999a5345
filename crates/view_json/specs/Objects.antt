-- The tokens of what stands in a state: numbers, cells, channels, processes.
use Rattle.std.specs.Prelude.{◌≡◌, ℕ, zero, suc, if◌then◌else◌, List, [], ◌∷◌, ◌++◌, length, Option, Some, None, ℤ, pos, negsuc, slice_index_or, count_by, codes}
use Rattle.std.specs.List.{flat_map, range_with_len}
use Rattle.std.specs.Fmt.{decimal, signed_decimal}
use Rattle.json.specs.Token.{Token, begin_object, end_object, begin_array, end_array, key, string, number, null}
use Rattle.pml_token.specs.Word.{Word}
use Rattle.pml_tree.specs.declared.tree.Scalar.{Scalar}
use Rattle.pml_tree.specs.declared.tree.Scalar.TheVariants as scalar
use Rattle.pml_program.specs.declared.form.Form.{Form}
use Rattle.pml_program.specs.declared.form.Form.TheVariants as kind
use Rattle.pml_program.specs.declared.program.Program.{Program}
use Rattle.promela_process.specs.declared.place.Place.{Place}
use Rattle.promela_process.specs.Store.{number_at, size_at, ChannelState}
use Rattle.promela_run.specs.State.{channel_at, State}
use Rattle.promela_run.specs.declared.moves.Pick.{Pick}
use Rattle.promela_run.specs.declared.moves.Move.{Move}
use Rattle.view_cells.specs.Cells.{is_chan, mtype_name, form_of, path_of, place, variables}
use Rattle.view_cells.specs.Processes.{name_of, line_of}
use Rattle.view_waits.specs.declared.waits.Wait.{Wait}
use Rattle.view_waits.specs.Because.{code}
use Rattle.view_waits.specs.Offers.{offered_line, offered_text}
use Rattle.view_waits.specs.Waits.{takes_part, waits}
use Rattle.view_tokens.specs.Printed.{Printed, Writes, string_of}

-- ---- forms

abbrev pub count : ℕ → List Token
count n = number (decimal n) ∷ []

abbrev pub text : List ℕ → List Token
text bs = string (string_of bs) ∷ []

abbrev pub member : List ℕ → List Token → List Token
member name ts = key name ∷ ts

-- a text as a member, if it has any bytes
abbrev pub detail : List ℕ → List ℕ → List Token
detail name [] = []
detail name (b ∷ bs) = member name (text (b ∷ bs))

abbrev pub object : List Token → List Token
object ts = begin_object ∷ (ts ++ end_object ∷ [])

abbrev pub array : List Token → List Token
array ts = begin_array ∷ (ts ++ end_array ∷ [])

-- ---- numbers and cells

-- the number of a channel, where a number of this type is one
abbrev pub channel_in : Form → ℤ → Option ℕ
channel_in f (pos zero) = None
channel_in f (pos (suc n)) = if is_chan f then Some (suc n) else None
channel_in f (negsuc n) = None

abbrev pub by_name : Option Word → ℤ → List Token
by_name (Some w) n = text w.text
by_name None n = number (signed_decimal n) ∷ []

abbrev pub by_channel : Program → Form → ℤ → Option ℕ → List Token
by_channel pr f n (Some c) = object (member (codes "chan") (count c))
by_channel pr f n None = by_name (mtype_name pr f n) n

-- a number as its type has it: a channel as an object, an mtype by its name
abbrev pub value : Program → Form → ℤ → List Token
value pr f n = by_channel pr f n (channel_in f n)

-- the number of a cell
abbrev pub held : State → Place → List Token
held s p = value s.program (form_of s p) (number_at s.frames p)

-- a cell as a member: its path, and its number
abbrev pub cell : State → Place → List Token
cell s p = member (string_of (path_of s p)) (held s p)

-- those of a variable
abbrev pub variable_cells : State → ℕ → ℕ → List Token
variable_cells s frame variable = flat_map (λ at. cell s (place frame variable at)) (range_with_len 0 (size_at s.frames frame variable))

-- those of all variables of a frame
abbrev pub frame_cells : State → ℕ → List Token
frame_cells s frame = flat_map (variable_cells s frame) (range_with_len 0 (length (variables s frame)))

-- The cells of a frame, each once, with its number.
abbrev pub cells : State → ℕ → List Token
cells s frame = object (frame_cells s frame)

-- ---- channels

abbrev pub scalar_name : Scalar → List ℕ
scalar_name scalar.Bit = codes "bit"
scalar_name scalar.Bool = codes "bool"
scalar_name scalar.Byte = codes "byte"
scalar_name scalar.Chan = codes "chan"
scalar_name scalar.Mtype = codes "mtype"
scalar_name scalar.Pid = codes "pid"
scalar_name scalar.Short = codes "short"
scalar_name scalar.Int = codes "int"

-- a type's name
abbrev pub form_name : Form → List ℕ
form_name (kind.Plain s) = scalar_name s
form_name (kind.Unsigned width) = codes "unsigned : " ++ decimal width
form_name f = codes "?"

abbrev pub form_token : Form → List Token
form_token (kind.Unsigned width) = text (form_name (kind.Unsigned width))
form_token f = string (form_name f) ∷ []

-- the i-th field has the i-th type
abbrev pub field : Program → List Form → List ℤ → ℕ → List Token
field pr types ns i = value pr (slice_index_or types i kind.Unknown) (slice_index_or ns i (pos 0))

abbrev pub fields : Program → List Form → List ℤ → List Token
fields pr types ns = flat_map (field pr types ns) (range_with_len 0 (length ns))

-- the fields of a message
abbrev pub message : Program → List Form → List ℤ → List Token
message pr types ns = array (fields pr types ns)

abbrev pub messages : Program → ChannelState → List Token
messages pr c = member (codes "messages") (array (flat_map (message pr c.types) c.messages))

abbrev pub or_null : Option (List ℕ) → List Token
or_null None = null ∷ []
or_null (Some bs) = text bs

-- the types of the fields of a channel
abbrev pub types_of : List Form → List Token
types_of types = member (codes "fields") (array (flat_map form_token types))

-- the capacity of a channel, the types of its fields, and its messages, the oldest first
abbrev pub contents : Program → Option ChannelState → List Token
contents pr None = []
contents pr (Some c) =
    member (codes "capacity") (count c.capacity)
    ++ (types_of c.types ++ messages pr c)

abbrev pub channel_heading : ℕ → Option (List ℕ) → List Token
channel_heading n name = member (codes "chan") (count n) ++ member (codes "name") (or_null name)

-- A channel: its number, a name, and what it has.
abbrev pub channel : State → ℕ → Option (List ℕ) → List Token
channel s n name = object (channel_heading n name ++ contents s.program (channel_at s.channels (pos n)))

-- ---- processes

-- a process, and the name of its proctype
abbrev pub named : State → ℕ → List Token
named s p = member (codes "proc") (count p) ++ member (codes "name") (text (name_of s p))

-- an offer: its line, and its text
abbrev pub offer : State → Pick → List Token
offer s k = member (codes "line") (count (offered_line s k)) ++ member (codes "text") (text (offered_text s k))

-- where it waits: at an offer, or where it stands
abbrev pub waits_at : State → ℕ → Option Pick → List Token
waits_at s p (Some k) = offer s k
waits_at s p None = member (codes "line") (count (line_of s p)) ++ member (codes "text") (null ∷ [])

abbrev pub because : Wait → List ℕ → List Token
because w words = member (codes "because") (string (code w.because) ∷ []) ++ member (codes "words") (text words)

-- what a process waits for, with why, and words for it
abbrev pub wait : State → ℕ → Wait → List ℕ → List Token
wait s p w words = object (waits_at s p w.pick ++ because w words)

-- each with words for it
abbrev pub waits_with : State → ℕ → List Wait → List (List ℕ) → List Token
waits_with s p [] words = []
waits_with s p (w ∷ ws) [] = []
waits_with s p (w ∷ ws) (t ∷ ts) = wait s p w t ++ waits_with s p ws ts

-- where a process stands, and in how many of these moves it takes part
abbrev pub heading : State → List Move → ℕ → List Token
heading s ms p = named s p ++ (member (codes "line") (count (line_of s p)) ++ member (codes "moves") (count (count_by (takes_part p) ms)))

-- A process: where it stands, and what it waits for, each with words for it.
abbrev pub standing : State → List Move → ℕ → List (List ℕ) → List Token
standing s ms p words = begin_object ∷ (heading s ms p ++ member (codes "waits") (array (waits_with s p (waits s p) words)))

-- these are written, each with some words
abbrev pub AddsWaits : State → ℕ → List Wait → Printed → Printed → Type 0
AddsWaits s p ws old new = (words : List (List ℕ)) × (length words ≡ length ws) × Writes old new (waits_with s p ws words)

-- so is a process
abbrev pub AddsStanding : State → List Move → ℕ → Printed → Printed → Type 0
AddsStanding s ms p old new = (words : List (List ℕ)) × (length words ≡ length (waits s p)) × Writes old new (standing s ms p words)

-- so is a channel, with some name or none
abbrev pub AddsChannel : State → ℕ → Printed → Printed → Type 0
AddsChannel s n old new = (name : Option (List ℕ)) × Writes old new (channel s n name)
