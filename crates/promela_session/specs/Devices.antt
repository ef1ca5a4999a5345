-- How what the devices hold stands to what a session does; a run that is played again on its own record, and a session whose choices are
-- converted to the second version.
-- Hold it against docs/FORMATS.md, 'Exit statuses' and 'Choices'.
use Rattle.std.specs.Prelude.{◌≡◌, ℕ, ◌+◌, ◌<◌, List, [], ◌∷◌, ◌++◌, length, take, nat_le, Bool, true, false, not, ◌||◌, nat_eq, filter, if◌then◌else◌}
use Rattle.std.specs.List.{flat_map, list_all, list_any}
use Rattle.devices.specs.Holdings.{Holdings, FailureCounts, Moved, Gave, SourceFails, OutFails, RecordFails}
use Rattle.promela_session.specs.declared.ends.Broken.{Broken}
use Rattle.promela_session.specs.declared.ends.Broken.TheVariants as broken
use Rattle.promela_session.specs.Events.{Event, Purpose, Put, Told, Corrected, Recorded, is_ask, output, front, recorded, steps_in, Part, header_line, status_of}
use Rattle.promela_session.specs.Session.{end_of}
use Rattle.profile.specs.declared.TheConstants.{LINE_BYTES}
use Rattle.promela_session.specs.declared.form.Stream.{Stream}
use Rattle.promela_session.specs.declared.ends.End.{End}
use Rattle.promela_session.specs.declared.ends.Cause.{Cause}
use Rattle.promela_session.specs.declared.ends.Cause.TheVariants as cause

-- a line that is recorded is no longer than a line of the choices may be, with its line feed
abbrev pub is_readable : Event → Bool
is_readable (Recorded line placed) = nat_le (length line) (LINE_BYTES + 1)
is_readable _ = true

-- what the devices hold and the count of steps are where these events leave them, and what is recorded can be read as choices
pub record MovedBy (before after : Holdings) (steps steps' : ℕ) (done : List Event) : Type 0 where
  pub moved : Moved before after (front done) (output done) (recorded done)
  pub count : steps' ≡ steps + steps_in done
  pub readable : list_all is_readable done ≡ true

-- The events that were done are a beginning of these. The first that is not wholly done is by the device that broke;
-- a piece or a record's line may be done in part.
abbrev pub Begins : Broken → List Event → List Event → Type 0
Begins broken.Memory done all = (more : List Event) × (all ≡ done ++ more)
Begins broken.Source done all = (event : Event) × (more : List Event) × (is_ask event ≡ true) × (all ≡ done ++ event ∷ more)
Begins broken.Out done all = (before : List Event) × (purpose : Purpose) × (piece : List ℕ) × (n : ℕ) × (more : List Event) × (n < length piece)
    × (done ≡ before ++ Put purpose (take n piece) ∷ []) × (all ≡ before ++ Put purpose piece ∷ more)
Begins broken.Record done all = (before : List Event) × (line placed : List ℕ) × (n : ℕ) × (more : List Event) × (n < length line)
    × (done ≡ before ++ Recorded (take n line) placed ∷ []) × (all ≡ before ++ Recorded line placed ∷ more)

module _ {T : Type 0} (before after : Holdings) (steps steps' : ℕ) where
  -- this part was done whole, with this outcome
  pub record Does (part : List ℕ → Part T) (value : T) (stream : Stream) : Type 0 where
    pub done : List Event
    pub moved : MovedBy before after steps steps' done
    pub is : (left : List ℕ) → after.source left
        → part (front done ++ left) ≡ record { events = done; value = value; stream = stream; left = left }

  -- the part was broken off
  pub record Breaks (broken : Broken) (part : List ℕ → Part T) : Type 0 where
    pub done : List Event
    pub moved : MovedBy before after steps steps' done
    pub begins : (left : List ℕ) → after.source left → Begins broken done (part (front done ++ left)).events

-- the counts of failures: that of the device that broke has risen, and no other
abbrev pub CountsBroken : Broken → FailureCounts → FailureCounts → Type 0
CountsBroken broken.Memory before after = after ≡ before
CountsBroken broken.Source before after = SourceFails before after
CountsBroken broken.Out before after = OutFails before after
CountsBroken broken.Record before after = RecordFails before after

-- ---- ends

-- a session came to this end, after so many steps
abbrev pub Ends : Holdings → Holdings → ℕ → (List ℕ → Part End) → End → Type 0
Ends before after steps part end = (stream : Stream) × Does before after 0 steps part end stream

-- the cause of a session that was broken off
abbrev pub failure_of : Broken → Cause
failure_of broken.Source = cause.SourceFailed
failure_of broken.Out = cause.OutFailed
failure_of broken.Record = cause.RecordFailed
failure_of broken.Memory = cause.Memory

-- a device or memory broke the session off, the end says which, and the count of that device alone has risen
abbrev pub IsBrokenOff : Holdings → Holdings → (List ℕ → Part End) → End → Type 0
IsBrokenOff before after part end = (broken : Broken) × (end.cause ≡ failure_of broken)
    × Breaks before after 0 end.steps broken part × CountsBroken broken before.failures after.failures

-- ---- a run that is played again on its record

-- all but the answers to bad lines and the prompts that follow them
abbrev pub is_no_correction : Event → Bool
is_no_correction (Put Corrected piece) = false
is_no_correction _ = true

-- events without the answers to bad lines and the prompts that follow them
abbrev pub without_corrections : List Event → List Event
without_corrections events = filter is_no_correction events

-- causes of a run that its choices cut short at a question
abbrev pub is_cut_short : Cause → Bool
is_cut_short cause.Quit = true
is_cut_short cause.ChoicesEnded = true
is_cut_short cause.LineTooLong = true
is_cut_short cause.BadChoices = true
is_cut_short cause.Misfit = true
is_cut_short _ = false

-- causes of a run that neither its choices cut short nor a device or memory broke off
abbrev pub is_complete : Cause → Bool
is_complete c = not (is_cut_short c || nat_eq (status_of c) 6)

-- The second run ends as the first, with the same record, reads just that record, and writes what the first wrote but for its corrections.
pub record IsSameRun (run again : Part End) : Type 0 where
  pub ends : again.value ≡ run.value
  pub keeps : recorded again.events ≡ recorded run.events
  pub reads : front again.events ≡ recorded run.events
  pub writes : output again.events ≡ output (without_corrections run.events)

-- The second run takes the same steps, with the same record, reads just that record, and then the choices have ended.
pub record IsSameBeginning (run again : Part End) : Type 0 where
  pub ends : again.value ≡ end_of cause.ChoicesEnded run.value.steps
  pub keeps : recorded again.events ≡ recorded run.events
  pub reads : front again.events ≡ recorded run.events

-- Each run can be played again on its record.
abbrev pub CanBeReplayed : (List ℕ → Part End) → Type 0
CanBeReplayed transcript = (choices : List ℕ) → let run = transcript choices in let again = transcript (recorded run.events) in
    (is_complete run.value.cause ≡ true → IsSameRun run again) × (is_cut_short run.value.cause ≡ true → IsSameBeginning run again)

-- ---- what is converted

-- an event where choices are converted: the line of an accepted number with its place is put out, and nothing else is
abbrev pub converted_event : Event → List Event
converted_event (Put purpose piece) = []
converted_event (Recorded line placed) = Put Told placed ∷ []
converted_event event = event ∷ []

-- what these events come to where choices are converted, one after another
abbrev pub converted_events : List Event → List Event
converted_events events = flat_map converted_event events

-- the same run where its choices are converted: the first line of the second version is put out before all
abbrev pub converted : (List ℕ → Part End) → List ℕ → Part End
converted part choices =
    let run = part choices in
    record { events = Put Told header_line ∷ converted_events run.events; value = run.value; stream = run.stream; left = run.left }

-- the choices of a run in the second version
abbrev pub second : List Event → List ℕ
second events = header_line ++ output (converted_events events)

-- ---- converted choices say what the record says

-- The other run ends alike, does the same but for what it asks for, and reads these bytes.
pub record IsSameReading (run other : Part End) (bytes : List ℕ) : Type 0 where
  pub ends : other.value ≡ run.value
  pub does : filter (λ e. not (is_ask e)) other.events ≡ filter (λ e. not (is_ask e)) run.events
  pub reads : front other.events ≡ bytes

-- The run on the converted choices of another is the run on its record, and reads all of them, or nothing where no question is asked.
abbrev pub StandsForRecord : (List ℕ → Part End) → List ℕ → Type 0
StandsForRecord transcript choices = let run = transcript choices in
    IsSameReading (transcript (recorded run.events)) (transcript (second run.events)) (if list_any is_ask run.events then second run.events else [])

-- what was read, with whatever is left, is converted to choices that stand for the record
abbrev pub IsConvertedBy : (old new : List ℕ → Type 0) → (List ℕ → Part End) → Type 0
IsConvertedBy old new transcript = (bytes : List ℕ) × Gave old new bytes × ((left : List ℕ) → new left → StandsForRecord transcript (bytes ++ left))
