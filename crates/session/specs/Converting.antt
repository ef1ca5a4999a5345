-- What a conversion tells, and what its parts do.
use Rattle.std.specs.Prelude.{◌≡◌, ◌≢◌, ℕ, ◌+◌, List, [], ◌∷◌, length, nat_le, Bool, true, false}
use Rattle.std.specs.List.{flat_map, list_all}
use Rattle.promela_session.specs.declared.ends.Options.{Options}
use Rattle.promela_session.specs.declared.ends.End.{End}
use Rattle.promela_session.specs.declared.ends.Cause.{Cause}
use Rattle.promela_session.specs.declared.ends.Cause.TheVariants as cause
use Rattle.promela_session.specs.declared.ends.Broken.{Broken}
use Rattle.promela_session.specs.declared.ends.Broken.TheVariants as broken
use Rattle.promela_session.specs.declared.form.Version.TheVariants.{Second}
use Rattle.promela_session.specs.Events.{Event, Put, Told, Asked, AskedEnd, Recorded, Stepped, Part, preceded, header_line}
use Rattle.profile.specs.declared.TheConstants.{LINE_BYTES}
use Rattle.promela_machine.specs.Machine.{Rules}
use Rattle.promela_session.specs.Session.{transcript, transcript_noting}
use Rattle.promela_session.specs.Devices.{converted, StandsForRecord, IsConvertedBy}

-- the session of a machine where its choices are converted
abbrev pub conversion : {S M : Type 0} → Rules S M → Options → S → List ℕ → Part End
conversion rules options s = converted (transcript rules options s)

-- the line of an accepted number with its place is no longer than a line of the choices may be, with its line feed
abbrev pub fits_line : Event → Bool
fits_line (Put purpose piece) = true
fits_line (Asked b) = true
fits_line AskedEnd = true
fits_line (Recorded line placed) = nat_le (length placed) (LINE_BYTES + 1)
fits_line Stepped = true

-- So it is where each of their lines can be read.
abbrev pub CanBeConverted : (List ℕ → Part End) → Type 0
CanBeConverted transcript = (choices : List ℕ) → list_all fits_line (transcript choices).events ≡ true → StandsForRecord transcript choices

-- where the status is not 6, it is so
abbrev pub StandsOwn : (old new : List ℕ → Type 0) → (List ℕ → Part End) → End → Type 0
StandsOwn old new transcript end = end.status ≢ 6 → IsConvertedBy old new transcript

-- so it is of each session of a machine
abbrev pub ConvertedChoicesStandForTheRecord : {S M : Type 0} → Rules S M → Type 0
ConvertedChoicesStandForTheRecord {S} rules = (s : S) (options : Options) → CanBeConverted (transcript rules options s)

-- ---- how it is done

-- an event where what is recorded is put out, and nothing else is
abbrev pub told_event : Event → List Event
told_event (Put purpose piece) = []
told_event (Asked b) = Asked b ∷ []
told_event AskedEnd = AskedEnd ∷ []
told_event (Recorded line placed) = Put Told line ∷ []
told_event Stepped = Stepped ∷ []

abbrev pub told_events : List Event → List Event
told_events events = flat_map told_event events

-- the cause of a conversion that was broken off: what is recorded goes to its one sink
abbrev pub failure_converting : Broken → Cause
failure_converting broken.Source = cause.SourceFailed
failure_converting broken.Out = cause.OutFailed
failure_converting broken.Record = cause.OutFailed
failure_converting broken.Memory = cause.Memory

-- the same limit, and nothing is shown
abbrev pub quiet : Options → Options
quiet options = record { steps = false; globals = false; locals = false; lossy = options.lossy; limit = options.limit }

-- the first line is recorded, and then the session is played with a record in lines of the second version
abbrev pub noting : {S M : Type 0} → Rules S M → Options → S → List ℕ → Part End
noting rules options s choices = preceded (Recorded header_line header_line ∷ []) (transcript_noting Second rules options s choices)

-- what is recorded of a part is put out, and nothing else
abbrev pub told : {T : Type 0} → Part T → Part T
told part = record { events = told_events part.events; value = part.value; stream = part.stream; left = part.left }

abbrev pub RecordInSecondConverts : {S M : Type 0} → Rules S M → Type 0
RecordInSecondConverts {S} rules = (s : S) (options : Options) (choices : List ℕ) → converted (transcript rules options s) choices ≡ told (noting rules (quiet options) s choices)
