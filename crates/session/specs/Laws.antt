-- What is said of all sessions of a machine.
use Rattle.std.specs.Prelude.{◌≡◌, ℕ, List, ◌++◌, filter, Bool, true, false}
use Rattle.std.specs.List.{list_any}
use Rattle.promela_session.specs.declared.ends.Options.{Options}
use Rattle.promela_session.specs.Events.{Event, Put, Asked, AskedEnd, Recorded, Stepped, Part}
use Rattle.promela_machine.specs.Machine.{Rules}
use Rattle.promela_session.specs.Session.{transcript}

-- an event that writes nothing to the output: a byte that is asked for, a line of the record, a step
abbrev pub is_no_piece : Event → Bool
is_no_piece (Put purpose piece) = false
is_no_piece (Asked b) = true
is_no_piece AskedEnd = true
is_no_piece (Recorded line placed) = true
is_no_piece Stepped = true

-- what is done beside the output
abbrev pub beside_output : List Event → List Event
beside_output events = filter is_no_piece events

-- Both runs read the same, record the same, take the same steps, in the same order, and end alike.
pub record IsSameCourse {T : Type 0} (run other : Part T) : Type 0 where
  pub ends : other.value ≡ run.value
  pub does : beside_output other.events ≡ beside_output run.events
  pub leaves : other.left ≡ run.left

-- what is shown of a run changes nothing else of it
abbrev pub ShowingChangesNothing : {S M : Type 0} → Rules S M → Type 0
ShowingChangesNothing {S} rules = (s : S) (choices : List ℕ) (options others : Options) → others.limit ≡ options.limit
    → IsSameCourse (transcript rules options s choices) (transcript rules others s choices)

-- the end of the choices is met
abbrev pub is_asked_end : Event → Bool
is_asked_end (Put purpose piece) = false
is_asked_end (Asked b) = false
is_asked_end AskedEnd = true
is_asked_end (Recorded line placed) = false
is_asked_end Stepped = false

abbrev pub meets_the_end : List Event → Bool
meets_the_end events = list_any is_asked_end events

-- the same, and more bytes are left
abbrev pub with_more_left : {T : Type 0} → List ℕ → Part T → Part T
with_more_left more part = record { events = part.events; value = part.value; stream = part.stream; left = part.left ++ more }

-- a run that does not meet the end of its choices is the same with more choices behind them
abbrev pub WhatIsBehindChangesNothing : {S M : Type 0} → Rules S M → Type 0
WhatIsBehindChangesNothing {S} rules = (s : S) (options : Options) (choices more : List ℕ) → meets_the_end (transcript rules options s choices).events ≡ false
    → transcript rules options s (choices ++ more) ≡ with_more_left more (transcript rules options s choices)
