-- What is asked of the messages of a channel, by its number.
use Rattle.std.specs.Prelude.{Bool, List, [], ℤ, length, Option, Some, None, Result, Ok, Err, ok_or, option_map}
use Rattle.promela_process.specs.declared.sought.Sought.{Sought}
use Rattle.pml_tree.specs.declared.tree.Search.{Search}
use Rattle.pml_tree.specs.declared.tree.Fill.{Fill}
use Rattle.diagnostics.specs.declared.fault.Fault.{Fault}
use Rattle.diagnostics.specs.declared.fault.Fault.TheVariants.{NoSuchChannel}
use Rattle.pml_program.specs.declared.expr.Want.{Want}
use Rattle.promela_process.specs.declared.place.Place.{Place}
use Rattle.promela_process.specs.Expressions.{Filling, Reading, ◌>>=◌, filled, is_match, polled, Valued, asked_by}

-- how full a channel is that may not be there
abbrev pub asked : Fill → Option Filling → Result ℤ Fault
asked fill o = ok_or (option_map (filled fill) o) NoSuchChannel

-- the messages of a channel, if it is there
abbrev pub messages_of : Option Filling → List (List ℤ)
messages_of None = []
messages_of (Some c) = c.messages

-- whether all that is asked has a value, or the first fault
abbrev pub settled : Result (List Sought) Fault → Result (Unit {0}) Fault
settled (Ok ws) = Ok tt
settled (Err f) = Err f

-- what a poll is worth of the channel whose number stands at a place
abbrev pub poll_of : Search → List Want → Place → Valued
poll_of search ws at r = polled search (length ws) (asked_by ws r) (r.channel (r.holds at))

-- the messages of the channel with a number
abbrev pub messages_at : Reading → ℤ → List (List ℤ)
messages_at r n = messages_of (r.channel n)

-- whether the oldest of them, or any, is what arguments ask, where all that they ask has a value
abbrev pub has_match : List Want → Search → ℤ → Reading → Result Bool Fault
has_match ws search n r = asked_by ws r >>= λ asked. Ok (is_match search asked (messages_at r n))
