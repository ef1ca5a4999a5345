-- A session with a record in lines of the second version is one whose choices are converted, seen by other devices.
use Rattle.std.proofs.Common.{◌≡◌, ℕ, zero, suc, ◌+◌, ◌-◌, List, [], ◌∷◌, ◌++◌, length, take, leb, ◌&&◌, Bool, true, None, Result, Ok, Err, ◌≤◌, refl, sym, ap, subst, ◌∙◌, arith}
use Rattle.std.specs.Prelude.{slice_index_or}
use Rattle.std.specs.List.{list_all}
use Rattle.std.proofs.lemmas.Grind.{flat_map-append}
use Rattle.std.proofs.lemmas.List.Sums.{sum_by-cons}
use Rattle.std.proofs.KnownBytes.{Appends-nil}
use Rattle.devices.specs.Holdings.{Holdings, Moved}
use Rattle.devices.specs.Doing.{RecordsPart, holding}
use Rattle.promela_session.specs.declared.ends.Options.{Options}
use Rattle.promela_session.specs.declared.ends.End.{End}
use Rattle.promela_session.specs.declared.ends.Cause.TheVariants as cause
use Rattle.promela_session.specs.declared.ends.Broken.{Broken}
use Rattle.promela_session.specs.declared.ends.Broken.TheVariants as broken
use Rattle.promela_session.specs.declared.choice.Answer.{Answer}
use Rattle.promela_session.specs.declared.choice.Answer.TheVariants as answer
use Rattle.promela_session.specs.declared.form.Stream.{Stream}
use Rattle.promela_session.specs.declared.form.Stream.TheVariants.{Unread}
use Rattle.promela_session.specs.declared.form.Version.TheVariants.{First, Second}
use Rattle.session.specs.Converting.{fits_line, told_event, told_events, noting, quiet, told, failure_converting}
use Rattle.promela_session.specs.Events.{Event, Put, Told, Asked, AskedEnd, Recorded, Stepped, is_ask, output, front, recorded, steps_in, step_of, Part, preceded, followed, header_line, list_from, prompt}
use Rattle.profile.specs.declared.TheConstants.{BAD_LINES, LINE_BYTES}
use Rattle.promela_machine.specs.Machine.{Rules, Outcome, Goes, Faults}
use Rattle.promela_session.specs.Session.{kept, question, choose, place_of_move, select_move, stopped, stepped, answered, at_moves, story, transcript, transcript_noting, step_text, end_of}
use Rattle.promela_session.specs.Devices.{is_readable, MovedBy, Begins, Does, Breaks, CountsBroken, Ends, IsBrokenOff, IsConvertedBy, converted_event, converted_events, converted}
use Rattle.session.specs.Ending.{AreReadable}
use Rattle.session.specs.Writes.{Runs}
use Rattle.session.proofs.Parts.{records, record_breaks, Leads-does, Leads-breaks}
use Rattle.session.proofs.Replay.{ask_silent, silent_told}
use Rattle.session.proofs.Placing.{can_be_converted}

told-append : (xs ys : List Event) → told_events (xs ++ ys) ≡ told_events xs ++ told_events ys
told-append xs ys = flat_map-append told_event xs ys

converted-append : (xs ys : List Event) → converted_events (xs ++ ys) ≡ converted_events xs ++ converted_events ys
converted-append xs ys = flat_map-append converted_event xs ys

-- ---- what is recorded of the one is put out of the other

record IsConversion {T : Type 0} (run other : Part T) : Type 0 where
  pub ends : other.value ≡ run.value
  pub does : told_events other.events ≡ converted_events run.events
  pub knows : other.stream ≡ run.stream
  pub leaves : other.left ≡ run.left

behind : {T : Type 0} (before after : List Event) {run other : Part T} → told_events after ≡ converted_events before → IsConversion run other → IsConversion (preceded before run) (preceded after other)
behind before after {run} {other} is course = record {
  ends = course.ends;
  does = rw (told-append after other.events, converted-append before run.events, is, course.does) refl;
  knows = course.knows;
  leaves = course.leaves;
}

then : {T U : Type 0} (part other : Part T) (next after : T → Stream → List ℕ → Part U) → IsConversion part other → ((v : T) (stream : Stream) (left : List ℕ) → IsConversion (next v stream left) (after v stream left))
    → IsConversion (followed part next) (followed other after)
then part other next after is courses =
    let c = courses part.value part.stream part.left in
    record {
      ends = rw (is.ends, is.knows, is.leaves) c.ends;
      does = rw (told-append other.events (after other.value other.stream other.left).events, converted-append part.events (next part.value part.stream part.left).events, is.does, is.ends, is.knows, is.leaves, c.does) refl;
      knows = rw (is.ends, is.knows, is.leaves) c.knows;
      leaves = rw (is.ends, is.knows, is.leaves) c.leaves;
    }

kept_converts : (place : ℕ → ℕ × ℕ) (said : Answer) (stream : Stream) (left : List ℕ) → IsConversion (kept First place said stream left) (kept Second place said stream left)
kept_converts place (answer.Pick n) stream left = record { ends = refl; does = refl; knows = refl; leaves = refl }
kept_converts place answer.Quit stream left = record { ends = refl; does = refl; knows = refl; leaves = refl }
kept_converts place answer.Ended stream left = record { ends = refl; does = refl; knows = refl; leaves = refl }
kept_converts place answer.TooLong stream left = record { ends = refl; does = refl; knows = refl; leaves = refl }
kept_converts place answer.Hundred stream left = record { ends = refl; does = refl; knows = refl; leaves = refl }
kept_converts place answer.Misfit stream left = record { ends = refl; does = refl; knows = refl; leaves = refl }

question_converts : (most : ℕ) (place : ℕ → ℕ × ℕ) (stream : Stream) (rest : List ℕ) → IsConversion (question most place stream rest) (question most place stream rest)
question_converts most place stream rest = record { ends = refl; does = silent_told (question most place stream rest).events (ask_silent most place (BAD_LINES - 1) stream rest); knows = refl; leaves = refl }

choose_converts : {M : Type 0} (text : M → List ℕ) (place : ℕ → ℕ × ℕ) (moves : List M) (stream : Stream) (rest : List ℕ) → IsConversion (choose First text place moves stream rest) (choose Second text place moves stream rest)
choose_converts text place moves stream rest =
    let asked = question (length moves) place stream rest in
    let pieces = Put Told (list_from text 1 moves) ∷ Put Told (prompt (length moves)) ∷ [] in
    behind pieces pieces refl (then asked asked (kept First place) (kept Second place) (question_converts (length moves) place stream rest) (kept_converts place))

module _ {S M : Type 0} (rules : Rules S M) (options others : Options) where
  select_converts : (s : S) (moves : List M) (stream : Stream) (rest : List ℕ) → IsConversion (select_move First rules s moves stream rest) (select_move Second rules s moves stream rest)
  unfolding select_move
  select_converts s [] stream rest = record { ends = refl; does = refl; knows = refl; leaves = refl }
  select_converts s (m ∷ []) stream rest = record { ends = refl; does = refl; knows = refl; leaves = refl }
  select_converts s (m ∷ n ∷ ms) stream rest = choose_converts (rules.text s) (place_of_move rules s (m ∷ n ∷ ms)) (m ∷ n ∷ ms) stream rest

  stepped_converts : (s : S) (m : M) (steps : ℕ) (later other : S → Part End) (stream : Stream) (left : List ℕ) → ((t : S) → IsConversion (later t) (other t)) → (o : Outcome S)
      → IsConversion (stepped rules options s m steps later stream left o) (stepped rules others s m steps other stream left o)
  unfolding stepped
  stepped_converts s m steps later other stream left courses (Goes t printed) =
      behind (Stepped ∷ Put Told (step_text rules options s m (steps + 1) t printed) ∷ []) (Stepped ∷ Put Told (step_text rules others s m (steps + 1) t printed) ∷ []) refl (courses t)
  stepped_converts s m steps later other stream left courses (Faults f) = record { ends = refl; does = refl; knows = refl; leaves = refl }

  answered_converts : (s : S) (moves : List M) (first : M) (steps : ℕ) (later other : S → Stream → List ℕ → Part End)
      → ((t : S) (stream : Stream) (left : List ℕ) → IsConversion (later t stream left) (other t stream left)) → (said : Answer) (stream : Stream) (left : List ℕ)
      → IsConversion (answered rules options s moves first steps later said stream left) (answered rules others s moves first steps other said stream left)
  unfolding answered
  answered_converts s moves first steps later other courses (answer.Pick n) stream left =
      stepped_converts s (slice_index_or moves (n - 1) first) steps _ _ stream left (λ t. courses t stream left) (rules.step s (slice_index_or moves (n - 1) first))
  answered_converts s moves first steps later other courses answer.Quit stream left = record { ends = refl; does = refl; knows = refl; leaves = refl }
  answered_converts s moves first steps later other courses answer.Ended stream left = record { ends = refl; does = refl; knows = refl; leaves = refl }
  answered_converts s moves first steps later other courses answer.TooLong stream left = record { ends = refl; does = refl; knows = refl; leaves = refl }
  answered_converts s moves first steps later other courses answer.Hundred stream left = record { ends = refl; does = refl; knows = refl; leaves = refl }
  answered_converts s moves first steps later other courses answer.Misfit stream left = record { ends = refl; does = refl; knows = refl; leaves = refl }

  at_converts : (s : S) (steps : ℕ) (stream : Stream) (rest : List ℕ) (go other : List M → M → Part End) → ((ms : List M) (m : M) → IsConversion (go ms m) (other ms m)) → (moves : List M)
      → IsConversion (at_moves rules s steps stream rest go moves) (at_moves rules s steps stream rest other moves)
  at_converts s steps stream rest go other courses [] = record { ends = refl; does = refl; knows = refl; leaves = refl }
  at_converts s steps stream rest go other courses (m ∷ ms) = courses (m ∷ ms) m

  story_converts : (fuel : ℕ) (s : S) (steps : ℕ) (stream : Stream) (rest : List ℕ) → IsConversion (story First rules options fuel s steps stream rest) (story Second rules others fuel s steps stream rest)
  unfolding story
  story_converts zero s steps stream rest =
      at_converts s steps stream rest (λ ms m. stopped cause.StepLimit steps stream rest) (λ ms m. stopped cause.StepLimit steps stream rest) (λ ms m. record { ends = refl; does = refl; knows = refl; leaves = refl }) (rules.moves s)
  story_converts (suc fuel) s steps stream rest = at_converts s steps stream rest
      (λ ms m. followed (select_move First rules s ms stream rest) (answered rules options s ms m steps (λ t o r. story First rules options fuel t (steps + 1) o r)))
      (λ ms m. followed (select_move Second rules s ms stream rest) (answered rules others s ms m steps (λ t o r. story Second rules others fuel t (steps + 1) o r)))
      (λ ms m. then (select_move First rules s ms stream rest) (select_move Second rules s ms stream rest) _ _ (select_converts s ms stream rest) (answered_converts s ms m steps _ _ (λ t o r. story_converts fuel t (steps + 1) o r))) (rules.moves s)

-- ---- the devices of a conversion

-- the sink of the record is that of the output
abbrev pub swapped : Holdings → Holdings
swapped h = holding h.source h.rec None h.failures.source h.failures.rec 0

front-told : (es : List Event) → front (told_events es) ≡ front es
front-told [] = refl
front-told (Put purpose piece ∷ es) = front-told es
front-told (Asked b ∷ es) = ap (λ l. b ∷ l) (front-told es)
front-told (AskedEnd ∷ es) = front-told es
front-told (Recorded line placed ∷ es) = front-told es
front-told (Stepped ∷ es) = front-told es

output-told : (es : List Event) → output (told_events es) ≡ recorded es
output-told [] = refl
output-told (Put purpose piece ∷ es) = output-told es
output-told (Asked b ∷ es) = output-told es
output-told (AskedEnd ∷ es) = output-told es
output-told (Recorded line placed ∷ es) = ap (λ l. line ++ l) (output-told es)
output-told (Stepped ∷ es) = output-told es

recorded-told : (es : List Event) → recorded (told_events es) ≡ []
recorded-told [] = refl
recorded-told (Put purpose piece ∷ es) = recorded-told es
recorded-told (Asked b ∷ es) = recorded-told es
recorded-told (AskedEnd ∷ es) = recorded-told es
recorded-told (Recorded line placed ∷ es) = recorded-told es
recorded-told (Stepped ∷ es) = recorded-told es

steps-cons : (e : Event) (es : List Event) → steps_in (e ∷ es) ≡ step_of e + steps_in es
steps-cons e es = sum_by-cons step_of e es

steps-told : (es : List Event) → steps_in (told_events es) ≡ steps_in es
steps-told [] = refl
steps-told (Put purpose piece ∷ es) = rw (steps-cons (Put purpose piece) es, steps-told es) (omega arith)
steps-told (Asked b ∷ es) = rw (steps-cons (Asked b) (told_events es), steps-cons (Asked b) es, steps-told es) refl
steps-told (AskedEnd ∷ es) = rw (steps-cons AskedEnd (told_events es), steps-cons AskedEnd es, steps-told es) refl
steps-told (Recorded line placed ∷ es) = rw (steps-cons (Put Told line) (told_events es), steps-cons (Recorded line placed) es, steps-told es) refl
steps-told (Stepped ∷ es) = rw (steps-cons Stepped (told_events es), steps-cons Stepped es, steps-told es) refl

-- nothing is recorded
told-readable : (es : List Event) → AreReadable (told_events es)
told-readable [] = refl
told-readable (Put purpose piece ∷ es) = told-readable es
told-readable (Asked b ∷ es) = told-readable es
told-readable (AskedEnd ∷ es) = told-readable es
told-readable (Recorded line placed ∷ es) = told-readable es
told-readable (Stepped ∷ es) = told-readable es

Moved-swapped : {a b : Holdings} {asked told kept : List ℕ} → Moved a b asked told kept → Moved (swapped a) (swapped b) asked kept []
Moved-swapped m = record { read = m.read; written = m.recorded; recorded = Appends-nil None }

MovedBy-swapped : {a b : Holdings} {n n' : ℕ} (es : List Event) → MovedBy a b n n' es → MovedBy (swapped a) (swapped b) n n' (told_events es)
MovedBy-swapped {n = n} es m = record {
  moved = rw (front-told es, output-told es, recorded-told es) (Moved-swapped m.moved);
  count = m.count ∙ ap (λ k. n + k) (sym (steps-told es));
  readable = told-readable es;
}

ask-told : (e : Event) → (is_ask e ≡ true) → told_event e ≡ e ∷ []
ask-told (Put purpose piece) is = cc
ask-told (Asked b) is = refl
ask-told AskedEnd is = refl
ask-told (Recorded line placed) is = cc
ask-told Stepped is = cc

-- which device of the other broke
abbrev pub swapped_broken : Broken → Broken
swapped_broken broken.Source = broken.Source
swapped_broken broken.Out = broken.Record
swapped_broken broken.Record = broken.Out
swapped_broken broken.Memory = broken.Memory

-- it is not the output, which is lost
abbrev pub IsKept : Broken → Type 0
IsKept broken.Source = Unit {0}
IsKept broken.Out = ⊥
IsKept broken.Record = Unit {0}
IsKept broken.Memory = Unit {0}

Begins-told : (e : Broken) → IsKept e → (done all : List Event) → Begins e done all → Begins (swapped_broken e) (told_events done) (told_events all)
Begins-told broken.Memory is done all b = (told_events b.0, ap told_events b.1 ∙ told-append done b.0)
Begins-told broken.Source is done all b =
    (b.0, told_events b.1, b.2, ap told_events b.3 ∙ (told-append done (b.0 ∷ b.1) ∙ ap (λ l. told_events done ++ (l ++ told_events b.1)) (ask-told b.0 b.2)))
Begins-told broken.Out is done all b = absurd is
Begins-told broken.Record is done all b =
    (told_events b.0, Told, b.1, b.3, told_events b.4, b.5, ap told_events b.6 ∙ told-append b.0 (Recorded (take b.3 b.1) b.2 ∷ []), ap told_events b.7 ∙ told-append b.0 (Recorded b.1 b.2 ∷ b.4))

module _ {T : Type 0} {a b : Holdings} {n n' : ℕ} (part same : List ℕ → Part T) (is : (rest : List ℕ) → same rest ≡ told (part rest)) where
  Does-told : {v : T} {stream : Stream} → Does a b n n' part v stream → Does (swapped a) (swapped b) n n' same v stream
  Does-told d = record {
    done = told_events d.done;
    moved = MovedBy-swapped d.done d.moved;
    is = λ left now. rw (front-told d.done) (is (front d.done ++ left) ∙ ap told (d.is left now));
  }

  Breaks-told : (e : Broken) → IsKept e → Breaks a b n n' e part → Breaks (swapped a) (swapped b) n n' (swapped_broken e) same
  Breaks-told e kept d = record {
    done = told_events d.done;
    moved = MovedBy-swapped d.done d.moved;
    begins = λ left now. rw (front-told d.done, is (front d.done ++ left)) (Begins-told e kept d.done (part (front d.done ++ left)).events (d.begins left now));
  }

-- ---- the whole

module _ {S M : Type 0} (rules : Rules S M) (options : Options) (s : S) where
  pub is_told : (choices : List ℕ) → converted (transcript rules options s) choices ≡ told (noting rules (quiet options) s choices)
  is_told choices =
      let c = story_converts rules options (quiet options) options.limit s 0 Unread choices in
      rw (c.ends, c.does, c.knows, c.leaves) refl

  module _ (a b : Holdings) (steps : ℕ) where
    pub converts : (end : End) → Ends a b steps (noting rules (quiet options) s) end → Ends (swapped a) (swapped b) steps (converted (transcript rules options s)) end
    converts end e = (e.0, Does-told (noting rules (quiet options) s) (converted (transcript rules options s)) is_told e.1)

    pub converts_counted : (end : End) → end.steps ≡ steps → Ends a b steps (noting rules (quiet options) s) end → Ends (swapped a) (swapped b) end.steps (converted (transcript rules options s)) end
    converts_counted end counted e = subst (λ (n : ℕ). Ends (swapped a) (swapped b) n (converted (transcript rules options s)) end) (sym counted) (converts end e)

    -- the output of a conversion cannot break
    pub breaks_off : (e : Broken) → a.failures.out ≡ b.failures.out → Breaks a b 0 steps e (noting rules (quiet options) s) → CountsBroken e a.failures b.failures
        → IsBrokenOff (swapped a) (swapped b) (converted (transcript rules options s)) (end_of (failure_converting e) steps)
    breaks_off broken.Memory still d counts = (broken.Memory, refl, Breaks-told (noting rules (quiet options) s) _ is_told broken.Memory tt d, rw counts refl)
    breaks_off broken.Source still d counts = (broken.Source, refl, Breaks-told (noting rules (quiet options) s) _ is_told broken.Source tt d, (counts.0, counts.2, refl))
    breaks_off broken.Out still d counts = let lt = counts.1 in absurd (omega arith)
    breaks_off broken.Record still d counts = (broken.Out, refl, Breaks-told (noting rules (quiet options) s) _ is_told broken.Record tt d, (counts.0, counts.2, refl))

-- ---- what is put out can be read

short_put : Event → Bool
short_put (Put purpose piece) = leb (length piece) (LINE_BYTES + 1)
short_put (Asked b) = true
short_put AskedEnd = true
short_put (Recorded line placed) = true
short_put Stepped = true

readable-told : (es : List Event) → list_all is_readable es ≡ list_all short_put (told_events es)
unfolding short_put
readable-told [] = refl
readable-told (Put purpose piece ∷ es) = readable-told es
readable-told (Asked b ∷ es) = readable-told es
readable-told (AskedEnd ∷ es) = readable-told es
readable-told (Recorded line placed ∷ es) = ap (λ t. leb (length line) (LINE_BYTES + 1) && t) (readable-told es)
readable-told (Stepped ∷ es) = readable-told es

fits-converted : (es : List Event) → list_all fits_line es ≡ list_all short_put (converted_events es)
unfolding short_put
fits-converted [] = refl
fits-converted (Put purpose piece ∷ es) = fits-converted es
fits-converted (Asked b ∷ es) = fits-converted es
fits-converted (AskedEnd ∷ es) = fits-converted es
fits-converted (Recorded line placed ∷ es) = ap (λ t. leb (length placed) (LINE_BYTES + 1) && t) (fits-converted es)
fits-converted (Stepped ∷ es) = fits-converted es

module _ {S M : Type 0} (rules : Rules S M) (options : Options) (s : S) where
  readable_fits : (choices : List ℕ) (done : List Event) → (noting rules (quiet options) s choices).events ≡ done → AreReadable done → list_all fits_line (transcript rules options s choices).events ≡ true
  readable_fits choices done is readable =
      let c = story_converts rules options (quiet options) options.limit s 0 Unread choices in
      let other = transcript_noting Second rules (quiet options) s choices in
      let all : list_all is_readable other.events ≡ true = ap (list_all is_readable) is ∙ readable in
      fits-converted (transcript rules options s choices).events ∙ (ap (list_all short_put) (sym c.does) ∙ (sym (readable-told other.events) ∙ all))

  pub stands : (a b : Holdings) (steps : ℕ) (end : End) → Ends a b steps (noting rules (quiet options) s) end → IsConvertedBy a.source b.source (transcript rules options s)
  stands a b steps end e = (
    front e.1.done,
    e.1.moved.moved.read,
    λ left now. can_be_converted rules options s (front e.1.done ++ left) (readable_fits (front e.1.done ++ left) e.1.done (ap (λ (p : Part End). p.events) (e.1.is left now)) e.1.moved.readable),
  )

-- ---- the first line and the rest

header_short : length header_line ≤ LINE_BYTES + 1
header_short = omega arith

module _ {S M : Type 0} (rules : Rules S M) (options : Options) (s : S) where
  pub noting_runs : (r : Result End Broken) (a b c : Holdings) (steps : ℕ) → Moved a b [] [] header_line → Runs r b c steps (transcript_noting Second rules options s) → Runs r a c steps (noting rules options s)
  noting_runs (Ok end) a b c steps kept e = (e.0, Leads-does (records header_line header_line (transcript_noting Second rules options s) header_short kept) e.1)
  noting_runs (Err e) a b c steps kept broken = Leads-breaks (records header_line header_line (transcript_noting Second rules options s) header_short kept) broken

  pub noting_breaks : (a b : Holdings) (steps : ℕ) → steps ≡ 0 → RecordsPart a b header_line → Breaks a b 0 steps broken.Record (noting rules options s)
  noting_breaks a b steps none kept = rw none (record_breaks header_line header_line (transcript_noting Second rules options s) header_short kept)
