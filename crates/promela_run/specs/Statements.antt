-- What statements do that one process takes alone: a send, a receive, an `assert`, an assignment, and what a new process begins with.
-- Hold it against the pages `send`, `receive`, `assert`, `assignments`, `condition` and `run`.
use Rattle.std.specs.Prelude.{ℕ, zero, suc, ◌&&◌, if◌then◌else◌, nat_eq, nat_le, nat_lt, length, map, List, [], ◌∷◌, ◌++◌, ℤ, pos, Option, Some, None, Result, Ok, Err, slice_index_or, remove, negsuc, ◌+ℤ◌, ◌+◌, Bool, true, false}
use Rattle.std.specs.List.{position_from}
use Rattle.profile.specs.declared.TheConstants.{MOST_FIELDS, MOST_CHANNELS}
use Rattle.diagnostics.specs.declared.fault.Fault.{Fault}
use Rattle.diagnostics.specs.declared.fault.Fault.TheVariants.{AssertionViolated, NoSuchChannel, WrongNumberOfFields, TooManyChannels}
use Rattle.pml_tree.specs.declared.tree.SendOrder.{SendOrder}
use Rattle.pml_tree.specs.declared.tree.SendOrder.TheVariants.{Fifo, Sorted}
use Rattle.pml_tree.specs.declared.tree.Search.{Search}
use Rattle.pml_tree.specs.declared.tree.Search.TheVariants.{First, Matching}
use Rattle.pml_tree.specs.declared.tree.Removal.{Removal}
use Rattle.pml_tree.specs.declared.tree.Removal.TheVariants.{Remove, Keep}
use Rattle.pml_program.specs.declared.expr.Expr.{Expr}
use Rattle.pml_program.specs.declared.expr.Target.{Target, out-Target}
use Rattle.pml_program.specs.declared.expr.Want.{Want}
use Rattle.promela_process.specs.declared.sought.Sought.{Sought}
use Rattle.promela_process.specs.declared.sought.Sought.TheVariants.{Into}
use Rattle.promela_process.specs.Numbers.{clipped, is_zero, wrapped}
use Rattle.promela_process.specs.Expressions.{matched, Reading, val, place, asked_by, ◌>>=◌}
use Rattle.promela_process.specs.Store.{ChannelState, cut, sorted_in}
use Rattle.promela_run.specs.declared.live_channel.LiveChannel.{LiveChannel}
use Rattle.promela_run.specs.declared.goes.Goes.{Goes}
use Rattle.promela_run.specs.State.{channel_at, size, leaf, Stand, State, with_value, with_frame, youngest_joined, variables_begun}
use Rattle.pml_program.specs.declared.program.Action.{Action}
use Rattle.pml_program.specs.declared.program.Action.TheVariants as a
use Rattle.pml_program.specs.declared.program.Initial.{Initial}
use Rattle.pml_program.specs.declared.program.Initial.TheVariants as i
use Rattle.pml_program.specs.declared.program.Slot.{Slot}
use Rattle.pml_program.specs.declared.program.Fields.{Fields}

-- ---- which channel

-- the place of a channel among the live ones, by its number
abbrev pub index_of_channel : ℤ → ℕ
index_of_channel (pos (suc n)) = n
index_of_channel z = 0

-- a channel, and then the number of fields; no message has more of them than MOST_FIELDS
abbrev pub place_with_fields : ℕ → ℤ → Option ChannelState → Result ℕ Fault
place_with_fields count n None = Err NoSuchChannel
place_with_fields count n (Some c) =
    if nat_eq count (length c.types) && nat_le count MOST_FIELDS then Ok (index_of_channel n) else Err WrongNumberOfFields

-- the place among the live channels of the one that a variable names, where it has so many fields
abbrev pub place_named : List LiveChannel → Reading → Target → ℕ → Result ℕ Fault
place_named cs r t count = place t r >>= λ at. place_with_fields count (r.holds at) (channel_at cs (r.holds at))

-- what the channel at a place holds; where none is, one that keeps nothing and has no fields
abbrev pub contents_at : List LiveChannel → ℕ → ChannelState
contents_at cs n = slice_index_or (map (λ o. o.channel) cs) n (record { capacity = 0; types = []; messages = [] })

-- the channel at a place becomes another
abbrev pub changed : ℕ → (ChannelState → ChannelState) → List LiveChannel → List LiveChannel
changed n f [] = []
changed zero f (o ∷ os) = record o { channel = f o.channel } ∷ os
changed (suc n) f (o ∷ os) = o ∷ changed n f os

-- ---- a send

-- the values of expressions, or the first fault from the left
abbrev pub values : List Expr → Reading → Result (List ℤ) Fault
values [] r = Ok []
values (e ∷ es) r = val e r >>= λ v. values es r >>= λ vs. Ok (v ∷ vs)

-- a message behind the others, or in order
abbrev pub ordered : SendOrder → List ℤ → List (List ℤ) → List (List ℤ)
ordered Fifo m ms = ms ++ m ∷ []
ordered Sorted m ms = sorted_in m ms

-- one message more, its fields cut to the channel's types; a full channel takes none (no process sends to it)
abbrev pub with_message : SendOrder → List ℤ → ChannelState → ChannelState
with_message order fields c =
    if nat_lt (length c.messages) c.capacity then record c { messages = ordered order (cut c.types fields) c.messages } else c

-- the place of a message's channel, and its values
abbrev pub addressed : List LiveChannel → Reading → Target → List Expr → Result (ℕ × List ℤ) Fault
addressed cs r t es = place_named cs r t (length es) >>= λ n. values es r >>= λ vs. Ok (n, vs)

-- what a send leaves of the live channels: the channel is asked, then the number of fields, then the fields from left to right
abbrev pub sent : List LiveChannel → Reading → Target → SendOrder → List Expr → Result (List LiveChannel) Fault
sent cs r t order es = addressed cs r t es >>= λ m. Ok (changed m.0 (with_message order m.1) cs)

-- ---- a receive

-- the place of the message that is received: the oldest if it matches, or the first that does
abbrev pub found : Search → List Sought → List (List ℤ) → Option ℕ
found Matching ws ms = position_from (matched ws) 0 ms
found First ws [] = None
found First ws (m ∷ ms) = if matched ws m then Some 0 else None

-- where a field goes that has a place, cut to the type of its variable
abbrev pub goes_of : Sought → ℤ → List Goes
goes_of (Into p form) x = record { place = p; number = clipped form x } ∷ []
goes_of w x = []

-- what a receive stores of the fields of a message
abbrev pub stores : List Sought → List ℤ → List Goes
stores (w ∷ ws) (x ∷ xs) = goes_of w x ++ stores ws xs
stores _ _ = []

-- what a receive does: the numbers that it stores, from left to right, and what it leaves of the live channels
pub record Received : Type 0 where
  pub numbers : List Goes
  pub live : List LiveChannel

-- a message is taken out, or stays (`<..>`)
abbrev pub without : Removal → ℕ → ChannelState → ChannelState
without Remove n c = record c { messages = remove c.messages n }
without Keep n c = c

-- what a receive takes of the message at this place, and the channels that are left
abbrev pub taken_from : List LiveChannel → ℕ → Removal → List Sought → Option ℕ → Received
taken_from cs n how ws None = record { numbers = []; live = cs }
taken_from cs n how ws (Some m) = record {
  numbers = stores ws (slice_index_or (contents_at cs n).messages m []);
  live = changed n (without how m) cs;
}

-- the same of the message that is found, if one is
abbrev pub taken_at : List LiveChannel → ℕ → Search → Removal → List Sought → Received
taken_at cs n search how ws = taken_from cs n how ws (found search ws (contents_at cs n).messages)

-- the place of a message's channel, and what is asked of the message
abbrev pub asked_at : List LiveChannel → Reading → Target → List Want → Result (ℕ × List Sought) Fault
asked_at cs r t ws = place_named cs r t (length ws) >>= λ n. asked_by ws r >>= λ ss. Ok (n, ss)

-- The channel is asked, then the number of fields, then what is asked of each from left to right, all places before any is stored.
-- Where no message is found nothing is done (no process receives from it).
abbrev pub received : List LiveChannel → Reading → Target → Search → Removal → List Want → Result Received Fault
received cs r t search how ws = asked_at cs r t ws >>= λ x. Ok (taken_at cs x.0 search how x.1)

-- ---- an assert

-- a fault where it is worth 0
abbrev pub asserted : Expr → Reading → Result (Unit {0}) Fault
asserted e r = val e r >>= λ v. if is_zero v then Err AssertionViolated else Ok tt

-- ---- an assignment, an increment, a decrement and a condition

-- what the target's type keeps of a number, and the place that it goes to
abbrev pub goes : Target → ℤ → Reading → Result Goes Fault
goes t v r = place t r >>= λ p. Ok (record { place = p; number = clipped (out-Target t).form v })

-- a store without a target is one to `_`
abbrev pub goes_to : Option Target → ℤ → Reading → Result (Option Goes) Fault
goes_to None v r = Ok None
goes_to (Some t) v r = goes t v r >>= λ g. Ok (Some g)

-- what a variable holds, so much more, back into it
abbrev pub increased : Target → ℤ → Reading → Result (Option Goes) Fault
increased t by r = place t r >>= λ p. goes_to (Some t) (wrapped (r.holds p +ℤ by)) r

-- what such a statement stores, if anything: the value of the right side, then the place (the other sorts are not
-- spoken of here, and store nothing by it)
abbrev pub outcome : Action → Reading → Result (Option Goes) Fault
outcome (a.Assign t v) r = val v r >>= λ n. goes_to t n r
outcome (a.Increment t) r = increased t (pos 1) r
outcome (a.Decrement t) r = increased t (negsuc 0) r
outcome (a.Holds v) r = val v r >>= λ n. Ok None
outcome s r = Ok None

-- ---- new processes

-- ---- how many channels variables make

-- an initialiser that makes channels
abbrev pub is_channel : Initial → Bool
is_channel (i.Channel capacity types) = true
is_channel _ = false

-- among n cells of a variable, from this one on
abbrev pub channels_among : List Fields → Slot → ℕ → ℕ → ℕ
channels_among ts s cell zero = 0
channels_among ts s cell (suc n) = (if is_channel (leaf ts s cell).initial then 1 else 0) + channels_among ts s (cell + 1) n

-- a variable with a value makes none, any other one for each cell that begins with a channel
abbrev pub channels_by : List Fields → Initial → Slot → ℕ
channels_by ts (i.Value v) s = 0
channels_by ts _ s = channels_among ts s 0 (size s)

-- how many channels variables make
abbrev pub channels_made : List Fields → List Slot → ℕ
channels_made ts [] = 0
channels_made ts (s ∷ ss) = channels_by ts s.initial s + channels_made ts ss

-- ---- a process begins

-- the variables of the youngest frame from this number on hold these numbers, cut to their types
abbrev pub with_arguments : ℕ → List Slot → List ℤ → State → State
with_arguments variable ss [] now = now
with_arguments variable [] (v ∷ vs) now = now
with_arguments variable (s ∷ ss) (v ∷ vs) now = with_arguments (variable + 1) ss vs (with_value variable 0 (clipped s.form v) now)

-- A new process that stands so, with these variables: it has nothing in them, the arguments are set, and then the variables begin in
-- the order of the text. Too many channels are a fault before anything begins.
abbrev pub created : List Fields → Stand → List Slot → List ℤ → State → Result State Fault
created ts y ss vs now =
    if nat_lt MOST_CHANNELS (length now.channels + channels_made ts ss) then Err TooManyChannels
    else variables_begun ts ss 0 (with_arguments 0 ss vs (with_frame ss (youngest_joined y now)))
