-- What the calls that write the line of a state add to it.
use Rattle.std.specs.Prelude.{◌≡◌, ℕ, ◌+◌, Bool, true, false, ◌&&◌, not, ltb, if◌then◌else◌, List, [], ◌∷◌, ◌++◌, length, map, Option, Some, None, slice_get, codes}
use Rattle.json.specs.Token.{Token, begin_object, begin_array, key}
use Rattle.json.specs.Print.{print, print_from, ends_value, ArePrintable}
use Rattle.promela_run.specs.declared.moves.Move.{Move}
use Rattle.promela_run.specs.State.{State}
use Rattle.promela_run.specs.Moves.{moves}
use Rattle.view_text.specs.Written.{Written, Adds}
use Rattle.view_waits.specs.Waits.{waits}
use Rattle.view_json.specs.declared.changed.Behind.{Behind}
use Rattle.view_json.specs.declared.list.Listing.{Listing}
use Rattle.view_json.specs.declared.steps.Done.{Done}
use Rattle.view_json.specs.Objects.{member, channel, standing}
use Rattle.diagnostics.specs.declared.fault.Fault.{Fault}
use Rattle.view_json.specs.Lines.{end_tokens, faulted, AddsLine}
use Rattle.view_json.specs.Choices.{Effect, told_choices}
use Rattle.view_json.specs.Shown.{Shown, Told, Lists, AreTold, is_text, has_changes, locals, with_locals, if_new, listed, channels_from, processes_from, new_ones, changed_ones, if_changed, ListsMore, ListsProcesses}
use Rattle.view_json.specs.Steps.{Deed, Telling, IsTold, shown_of, told, rest, TellsStart, TellsStep}

-- what is written, and what was shown last
abbrev pub telling : Written → Shown → Telling
telling text shown = record { text = text; shown = shown }

-- ---- objects

-- these are the bytes of a channel's object, by some name or none
abbrev pub PrintsChannel : State → ℕ → List ℕ → Type 0
PrintsChannel s n bytes = (name : Option (List ℕ)) × (bytes ≡ print (channel s n name)) × ArePrintable (channel s n name)

-- so they are, and the channel is listed where it was not shown at this place
abbrev pub ListsChannel : List (List ℕ) → State → ℕ → ℕ → List ℕ → Listing → Listing → Type 0
ListsChannel before s at n bytes old new =
    (name : Option (List ℕ)) × (bytes ≡ print (channel s n name)) × ListsMore (if_new before at (channel s n name)) old new

-- where these bytes are those of an object, this of it is listed
abbrev pub ListsObject : (List Token → List Token) → List ℕ → Listing → Listing → Type 0
ListsObject more bytes old new = (ts : List Token) → bytes ≡ print (begin_object ∷ ts) → ends_value (begin_object ∷ ts) ≡ true
    → ArePrintable (begin_object ∷ ts) → ListsMore (more (begin_object ∷ ts)) old new

-- the variables of a process that are to be told behind a step
abbrev pub told_variables : State → Behind → ℕ → List Token
told_variables s b p = locals s b.older b.changes.now p

-- the object of a process, and these behind it
abbrev pub told_locals : State → Behind → ℕ → List Token → List Token
told_locals s b p ts = with_locals s b.older b.changes.now p ts

-- nothing of one that is the same as before
abbrev pub told_unless : Bool → State → Behind → ℕ → List Token → List Token
told_unless same s b p ts = if same then [] else told_locals s b p ts

-- where these bytes are those of the object of a process, it is written with them
abbrev pub AddsProcess : State → Behind → ℕ → List ℕ → Written → Written → Type 0
AddsProcess s b p bytes old new =
    (ts : List Token) → ends_value ts ≡ true → bytes ≡ print ts → Adds old new (print (told_locals s b p ts))

-- and can be printed
abbrev pub PrintsLocals : State → Behind → ℕ → Written → Type 0
PrintsLocals s b p new = (ts : List Token) → ArePrintable ts → new.refused ≡ false → ArePrintable (told_locals s b p ts)

-- whether a process was there before a step, none of its variables changed, and these bytes were shown of it
abbrev pub is_kept : List (List ℕ) → Behind → ℕ → List ℕ → Bool
is_kept before b p bytes = ltb p b.older && not (has_changes (p + 1) b.changes.now) && is_text bytes (slice_get before p)

-- by the moves of the state these are the bytes of the object of a process, with a text for each thing that it waits for
abbrev pub PrintsProcess : State → List Move → ℕ → List ℕ → Type 0
PrintsProcess s ms p bytes = ms ≡ moves s → (words : List (List ℕ))
    × (length words ≡ length (waits s p)) × (bytes ≡ print (standing s ms p words)) × ArePrintable (standing s ms p words)

-- so they are, and the process is listed where it is not as it was shown
abbrev pub ListsProcess : List (List ℕ) → State → Behind → ℕ → List ℕ → Listing → Listing → Type 0
ListsProcess before s b p bytes old new = b.moves.now ≡ moves s → (words : List (List ℕ))
    × (length words ≡ length (waits s p)) × (bytes ≡ print (standing s b.moves.now p words))
    × ListsMore (if_changed s before b.older b.changes.now p (standing s b.moves.now p words)) old new

-- so are all processes
abbrev pub ListsBehind : List (List ℕ) → State → Behind → List (List ℕ) → Listing → Listing → Type 0
ListsBehind before s b objects old new = b.moves.now ≡ moves s → ListsProcesses before s b.moves.now b.older b.changes.now objects old new

-- ---- members

-- a member of this name is written, a list of these, where it has one or always stands there
abbrev pub AddsList : Bool → List ℕ → List Token → Written → Written → Type 0
AddsList always name ts old new = Adds old new (print_from true (listed always name ts))

-- how it begins
abbrev pub begins_list : List ℕ → List ℕ
begins_list name = print_from true (key name ∷ begin_array ∷ [])

-- and its tokens can be printed
abbrev pub PrintsList : Bool → List ℕ → List Token → Written → Type 0
PrintsList always name ts new = new.refused ≡ false → ArePrintable (listed always name ts)

-- the channels that were not shown so are written, and are what is shown then
abbrev pub AddsChannels : Bool → State → Telling → Telling → Type 0
AddsChannels always s a b = (names : List (Option (List ℕ))) × (length names ≡ length s.channels)
    × (b.shown ≡ record a.shown { channels = map print (channels_from s 1 names) })
    × AddsList always (codes "channels") (new_ones a.shown.channels 0 (channels_from s 1 names)) a.text b.text
    × PrintsList always (codes "channels") (new_ones a.shown.channels 0 (channels_from s 1 names)) b.text

-- the processes that are not as they were shown are written, and are what is shown then
abbrev pub AddsProcesses : Bool → State → Behind → Telling → Telling → Type 0
AddsProcesses always s d a b = d.moves.now ≡ moves s → (words : List (List (List ℕ)))
    × (length words ≡ length s.stands) × AreTold s 0 words
    × (b.shown ≡ record a.shown { processes = map print (processes_from s d.moves.now 0 words) })
    × AddsList always (codes "processes") (changed_ones s a.shown.processes d.older d.changes.now 0 (processes_from s d.moves.now 0 words)) a.text b.text
    × PrintsList always (codes "processes") (changed_ones s a.shown.processes d.older d.changes.now 0 (processes_from s d.moves.now 0 words)) b.text

-- both are
abbrev pub AddsObjects : Bool → State → Behind → Telling → Telling → Type 0
AddsObjects always s d a b = d.moves.now ≡ moves s → (t : Told) × IsTold s t × (b.shown ≡ shown_of s d.moves.now t)
    × Adds a.text b.text (print_from true (told always s d.moves.now d.older d.changes.now a.shown t))
    × (b.text.refused ≡ false → ArePrintable (told always s d.moves.now d.older d.changes.now a.shown t))

-- ---- lines

-- by the moves of the first state its line is written
abbrev pub AddsStart : Telling → Telling → State → List Move → List ℕ → Bool → Type 0
AddsStart a b s ms model lossy = ms ≡ moves s → (t : Told) × TellsStart a b s ms model lossy t

-- what a step did, where these are its choices
abbrev pub deed : Done → List Token → Deed
deed x choices = record { printed = x.printed.now; older = x.older; changes = x.changes.now; same_as = x.same_as; choices = choices; note = x.note }

-- where these are the choices that are listed, what stands behind the objects of a step is written, and can be printed
abbrev pub AddsRest : State → Done → Written → Written → Type 0
AddsRest s x old new = (choices : List Token) → Lists x.choices.now choices
    → Adds old new (print_from true (rest s x.same_as x.note choices) ++ codes "\n")
    × (new.refused ≡ false → ArePrintable (rest s x.same_as x.note choices))

-- by the moves of the state that a step leads to its line is written, behind what is told of it before it is taken, with the choices that are listed
abbrev pub AddsStep : Telling → Telling → State → List Move → List Token → Done → Type 0
AddsStep a b s ms front x = ms ≡ moves s → ends_value front ≡ true → (choices : List Token) → Lists x.choices.now choices
    → (t : Told) × TellsStep a b s ms front (deed x choices) t

-- the line of a fault is written behind what is told of its step, with some words, and with the moves that it was one of
abbrev pub AddsFault : State → List Move → List Token → Fault → Written → Written → Type 0
AddsFault s ms front f old new = (reads about : List ℕ) × (xs : List Effect)
    × (length xs ≡ length ms) × AddsLine (front ++ faulted f reads about (told_choices (ltb 1 (length ms)) s ms xs)) old new

-- what led to an end, as a member, where it is told
abbrev pub told_past : Option (List Token) → List Token
told_past None = []
told_past (Some ts) = member (codes "past") ts

-- it is written behind other members, and can be printed
abbrev pub AddsPast : Written → Written → Type 0
AddsPast old new = (past : Option (List Token)) × Adds old new (print_from true (told_past past)) × (new.refused ≡ false → ArePrintable (told_past past))

-- the end of a run is written, with its moves each as an object, and with what led there, where it is told
abbrev pub AddsEnd : State → ℕ → List ℕ → List Move → Written → Written → Type 0
AddsEnd s steps end ms old new = (xs : List Effect) × (past : Option (List Token))
    × (length xs ≡ length ms) × AddsLine (end_tokens s steps end ms (told_choices (ltb 0 (length ms)) s ms xs ++ told_past past)) old new
