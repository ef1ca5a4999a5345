-- How a run that its choices cut short goes when it is played again on its record.
use Rattle.std.proofs.Common.{◌≡◌, ℕ, zero, suc, ◌+◌, ◌-◌, ◌<◌, ◌≤◌, arith, List, [], ◌∷◌, ◌++◌, length, get_or, Bool, true, false, Some, refl, sym, ap, ◌∙◌, append-nil}
use Rattle.std.proofs.lemmas.Bool.{true≢false}
use Rattle.std.specs.List.{Contains}
use Rattle.diagnostics.specs.declared.refusal.Refusal.{Refusal}
use Rattle.promela_session.specs.declared.ends.Options.{Options}
use Rattle.promela_session.specs.declared.ends.End.{End}
use Rattle.promela_session.specs.declared.ends.Cause.TheVariants as cause
use Rattle.promela_session.specs.declared.choice.Answer.{Answer}
use Rattle.promela_session.specs.declared.choice.Answer.TheVariants as answer
use Rattle.promela_session.specs.Events.{Event, Put, Told, AskedEnd, Recorded, Stepped, asks, front, recorded, Part, preceded, followed, record_line, placed_line, list_from, prompt}
use Rattle.profile.specs.declared.TheConstants.{LINE_BYTES, BAD_LINES}
use Rattle.promela_session.specs.Lines.{is_header}
use Rattle.session.specs.Answers.{IsPickUpTo}
use Rattle.promela_machine.specs.Machine.{Rules, Outcome, Goes, Faults}
use Rattle.promela_session.specs.Session.{one_line, next_line, one_reply, ask_for_move, only_this, kept, choose, place_of_move, select_move, stopped, finished, stepped, answered, story, transcript, refused, end_of, step_text}
use Rattle.promela_session.specs.Devices.{is_cut_short, IsSameBeginning, CanBeReplayed}
use Rattle.session.proofs.LineReading.{line_end}
use Rattle.session.proofs.Parts.{front-append, recorded-append, front-asks, recorded-asks}
use Rattle.session.proofs.Written.{IsShort, ask_short}
use Rattle.session.proofs.Records.{IsPlain}
use Rattle.session.proofs.Replay.{picked_is_there, Silent, chosen, recorded_chosen, picked_again, ask_silent, ask_range, story_again, same_run}
use Rattle.session.proofs.Turns.{story_none, story_limit, story_some, answer_part}
use Rattle.promela_session.specs.declared.form.Stream.{Stream}
use Rattle.promela_session.specs.declared.form.Stream.TheVariants.{Unread, Known, Over}
use Rattle.promela_session.specs.declared.form.Version.{Version}
use Rattle.promela_session.specs.declared.form.Version.TheVariants.{First}

-- Where the choices cut this part short, it begins so when it is played again.
abbrev pub BeginsAgain : (Stream → List ℕ → Part End) → Type 0
BeginsAgain part = (stream : Stream) (choices : List ℕ) → is_cut_short (part stream choices).value.cause ≡ true → (first : Stream) → IsPlain first → IsSameBeginning (part stream choices) (part first (recorded (part stream choices).events))

BeginsAgain-same : (part same : Stream → List ℕ → Part End) → ((stream : Stream) (rest : List ℕ) → part stream rest ≡ same stream rest) → BeginsAgain same → BeginsAgain part
BeginsAgain-same part same is again stream choices cut first plain = rw (is stream choices, is first _) (again stream choices (rw (is stream choices) at cut) first plain)

-- more events in front, which leave the same bytes to the record and to the source
beginning_after : {run again : Part End} (before after : List Event) → recorded after ≡ recorded before → front after ≡ recorded before → IsSameBeginning run again → IsSameBeginning (preceded before run) (preceded after again)
beginning_after {run} {again} before after keeps reads b = record {
  ends = b.ends;
  keeps = rw (recorded-append after again.events, recorded-append before run.events, keeps, b.keeps) refl;
  reads = rw (front-append after again.events, recorded-append before run.events, reads, b.reads) refl;
}

module _ {S M : Type 0} (rules : Rules S M) (options : Options) (s : S) where
  -- what follows each step by one of these moves begins so again
  abbrev pub StepsBeginAgain : List M → (S → Stream → List ℕ → Part End) → Type 0
  StepsBeginAgain moves later = (m : M) (t : S) (printed : List ℕ) → Contains moves m → rules.step s m ≡ Goes t printed → BeginsAgain (later t)

  stepped_begins : (m : M) (steps : ℕ) (later : S → Stream → List ℕ → Part End) → ((t : S) (printed : List ℕ) → rules.step s m ≡ Goes t printed → BeginsAgain (later t)) → (o : Outcome S) → rules.step s m ≡ o
      → BeginsAgain (λ stream left. stepped rules options s m steps (λ t. later t stream left) stream left o)
  unfolding stepped
  stepped_begins m steps later ih (Goes t printed) is stream choices cut first plain =
      let events = Stepped ∷ Put Told (step_text rules options s m (steps + 1) t printed) ∷ [] in
      beginning_after events events refl refl (ih t printed is stream choices cut first plain)
  stepped_begins m steps later ih (Faults f) is stream choices cut first plain = absurd (true≢false (sym cut))

  answered_begins : (moves : List M) (first : M) (steps : ℕ) (later : S → Stream → List ℕ → Part End) → StepsBeginAgain moves later → (k : ℕ) → 0 < k → k ≤ length moves → BeginsAgain (answered rules options s moves first steps later (answer.Pick k))
  unfolding answered
  answered_begins moves first steps later ih k some within =
      let m = get_or moves (k - 1) first in
      stepped_begins m steps later (λ t printed goes. ih m t printed (picked_is_there moves k first some within) goes) (rules.step s m) refl

-- a question that is asked at the end of the choices
ended_line : (version : Version) (most : ℕ) (place : ℕ → ℕ × ℕ) → one_line version most place [] ≡ record { events = AskedEnd ∷ []; value = Some answer.Ended; stream = Over; left = [] }
unfolding one_line
ended_line version most place = rw (line_end LINE_BYTES) refl

pub ended_reply : (most : ℕ) (place : ℕ → ℕ × ℕ) (stream : Stream) → (stream ≡ Over → ⊥) → one_reply most place stream [] ≡ record { events = AskedEnd ∷ []; value = Some answer.Ended; stream = Over; left = [] }
unfolding one_reply next_line is_header
ended_reply most place Unread unended = rw (line_end LINE_BYTES) (ended_line First most place)
ended_reply most place (Known version) unended = ended_line version most place
ended_reply most place Over unended = absurd (unended refl)

pub ended_ask : (most : ℕ) (place : ℕ → ℕ × ℕ) (tries : ℕ) (stream : Stream) → (stream ≡ Over → ⊥) → ask_for_move most place tries stream [] ≡ record { events = AskedEnd ∷ []; value = answer.Ended; stream = Over; left = [] }
unfolding ask_for_move
ended_ask most place zero stream unended = rw (ended_reply most place stream unended) refl
ended_ask most place (suc tries) stream unended = rw (ended_reply most place stream unended) refl

plain_open : (stream : Stream) → IsPlain stream → stream ≡ Over → ⊥
plain_open Unread plain is = cc
plain_open (Known version) plain is = cc
plain_open Over plain is = plain

-- an answer that picks no move ends the run after so many steps, and the end of the choices is one
record StopsAt (steps : ℕ) (next : Answer → Stream → List ℕ → Part End) : Type 0 where
  pub count : (said : Answer) → ((k : ℕ) → said ≡ answer.Pick k → ⊥) → (stream : Stream) (left : List ℕ) → ((next said stream left).value.steps ≡ steps) × (recorded (next said stream left).events ≡ [])
  pub ended : (stream : Stream) (left : List ℕ) → ((next answer.Ended stream left).value ≡ end_of cause.ChoicesEnded steps) × (recorded (next answer.Ended stream left).events ≡ []) × (front (next answer.Ended stream left).events ≡ [])

module _ {M : Type 0} (text : M → List ℕ) (place : ℕ → ℕ × ℕ) (moves : List M) (next : Answer → Stream → List ℕ → Part End) (steps : ℕ) (stops : StopsAt steps next) where
  -- no number was picked
  unpicked : (asked : List Event) (said : Answer) (stream : Stream) (left : List ℕ) → Silent asked → ((k : ℕ) → said ≡ answer.Pick k → ⊥) → (kept First place said stream left ≡ only_this said stream left)
      → (first : Stream) → IsPlain first → IsSameBeginning (chosen text place moves next asked said stream left) (followed (choose First text place moves first (recorded (chosen text place moves next asked said stream left).events)) next)
  unpicked asked said stream left silent other is first plain =
      let c = stops.count said other stream left in
      let e = stops.ended Over [] in
      let none : recorded (chosen text place moves next asked said stream left).events ≡ [] = rw is (rw (append-nil asked) (rw (recorded-append asked (next said stream left).events, silent.0) c.1)) in
      rw none (rw (ended_ask (length moves) place (BAD_LINES - 1) first (plain_open first plain)) (record { ends = e.0 ∙ ap (end_of cause.ChoicesEnded) (sym (rw is c.0)); keeps = e.1 ∙ sym none; reads = e.2 ∙ sym none }))

  chosen_begins : ((k : ℕ) → 0 < k → k ≤ length moves → BeginsAgain (next (answer.Pick k))) → (asked : List Event) (said : Answer) (stream : Stream) (left : List ℕ) → Silent asked → IsPickUpTo (length moves) said → IsShort said
      → is_cut_short (chosen text place moves next asked said stream left).value.cause ≡ true → (first : Stream) → IsPlain first
      → IsSameBeginning (chosen text place moves next asked said stream left) (followed (choose First text place moves first (recorded (chosen text place moves next asked said stream left).events)) next)
  chosen_begins ih asked (answer.Pick n) stream left silent range short cut first plain =
      let rest = next (answer.Pick n) stream left in
      let whole = chosen text place moves next asked (answer.Pick n) stream left in
      let front_events = Put Told (list_from text 1 moves) ∷ Put Told (prompt (length moves)) ∷ (asks (record_line n) false ++ Recorded (record_line n) (placed_line n (place n)) ∷ []) in
      let b = ih n range.0 range.1 stream left cut (Known First) refl in
      let is = recorded_chosen text place moves next asked n stream left silent in
      rw is (rw (picked_again text place moves next n (recorded rest.events) range.0 range.1 short first plain) (record {
        ends = b.ends;
        keeps = rw is (rw (recorded-append front_events (next (answer.Pick n) (Known First) (recorded rest.events)).events, recorded-append (asks (record_line n) false) (Recorded (record_line n) (placed_line n (place n)) ∷ []), recorded-asks (record_line n) false, b.keeps) (ap (λ l. l ++ recorded rest.events) (append-nil (record_line n))));
        reads = rw is (rw (front-append front_events (next (answer.Pick n) (Known First) (recorded rest.events)).events, front-append (asks (record_line n) false) (Recorded (record_line n) (placed_line n (place n)) ∷ []), front-asks (record_line n) false, b.reads) (ap (λ l. l ++ recorded rest.events) (append-nil (record_line n))));
      }))
  chosen_begins ih asked answer.Quit stream left silent range short cut first plain = unpicked asked answer.Quit stream left silent (λ k e. cc) refl first plain
  chosen_begins ih asked answer.Ended stream left silent range short cut first plain = unpicked asked answer.Ended stream left silent (λ k e. cc) refl first plain
  chosen_begins ih asked answer.TooLong stream left silent range short cut first plain = unpicked asked answer.TooLong stream left silent (λ k e. cc) refl first plain
  chosen_begins ih asked answer.Hundred stream left silent range short cut first plain = unpicked asked answer.Hundred stream left silent (λ k e. cc) refl first plain
  chosen_begins ih asked answer.Misfit stream left silent range short cut first plain = unpicked asked answer.Misfit stream left silent (λ k e. cc) refl first plain

module _ {S M : Type 0} (rules : Rules S M) (options : Options) where
  answered_stops : (s : S) (moves : List M) (first : M) (steps : ℕ) (later : S → Stream → List ℕ → Part End) → StopsAt steps (answered rules options s moves first steps later)
  unfolding answered
  answered_stops s moves first steps later = record {
    count = λ said other stream left. by_answer said other stream left;
    ended = λ stream left. (refl, refl, refl);
  }
    where
      by_answer : (said : Answer) → ((k : ℕ) → said ≡ answer.Pick k → ⊥) → (stream : Stream) (left : List ℕ)
          → ((answered rules options s moves first steps later said stream left).value.steps ≡ steps) × (recorded (answered rules options s moves first steps later said stream left).events ≡ [])
      by_answer (answer.Pick k) other stream left = absurd (other k refl)
      by_answer answer.Quit other stream left = (refl, refl)
      by_answer answer.Ended other stream left = (refl, refl)
      by_answer answer.TooLong other stream left = (refl, refl)
      by_answer answer.Hundred other stream left = (refl, refl)
      by_answer answer.Misfit other stream left = (refl, refl)

  select_begins : (s : S) (moves : List M) → 0 < length moves → (first : M) (steps : ℕ) (later : S → Stream → List ℕ → Part End) → StepsBeginAgain rules options s moves later
      → BeginsAgain (λ stream rest. followed (select_move First rules s moves stream rest) (answered rules options s moves first steps later))
  unfolding select_move
  select_begins s [] some first steps later ih stream choices cut = absurd (omega arith)
  select_begins s (m ∷ []) some first steps later ih stream choices cut = answered_begins rules options s (m ∷ []) first steps later ih 1 (omega arith) (omega arith) stream choices cut
  select_begins s (m ∷ k ∷ ms) some first steps later ih stream choices cut =
      let place = place_of_move rules s (m ∷ k ∷ ms) in
      let asked = ask_for_move (length (m ∷ k ∷ ms)) place (BAD_LINES - 1) stream choices in
      chosen_begins (rules.text s) place (m ∷ k ∷ ms) (answered rules options s (m ∷ k ∷ ms) first steps later) steps (answered_stops s (m ∷ k ∷ ms) first steps later)
      (answered_begins rules options s (m ∷ k ∷ ms) first steps later ih) asked.events asked.value asked.stream asked.left (ask_silent (length (m ∷ k ∷ ms)) place (BAD_LINES - 1) stream choices) (ask_range (length (m ∷ k ∷ ms)) place (BAD_LINES - 1) stream choices)
      (ask_short (length (m ∷ k ∷ ms)) place (BAD_LINES - 1) stream choices) cut

  finished_whole : (s : S) (steps : ℕ) (valid : Bool) → BeginsAgain (finished valid (rules.stuck s) steps)
  finished_whole s steps true stream choices cut first plain = absurd (true≢false (sym cut))
  finished_whole s steps false stream choices cut first plain = absurd (true≢false (sym cut))

  limit_begins : (s : S) (steps : ℕ) (moves : List M) → rules.moves s ≡ moves → BeginsAgain (story First rules options 0 s steps)
  limit_begins s steps [] is = BeginsAgain-same _ (finished (rules.is_valid s) (rules.stuck s) steps) (λ stream rest. story_none First rules options s steps stream 0 is rest) (finished_whole s steps (rules.is_valid s))
  limit_begins s steps (m ∷ ms) is = BeginsAgain-same _ (stopped cause.StepLimit steps) (λ stream rest. story_limit First rules options s steps stream m ms is rest) (λ stream choices cut first plain. absurd (true≢false (sym cut)))

  move_begins : (fuel : ℕ) (s : S) (steps : ℕ) → ((t : S) → BeginsAgain (story First rules options fuel t (steps + 1))) → (moves : List M) → rules.moves s ≡ moves → BeginsAgain (story First rules options (suc fuel) s steps)
  move_begins fuel s steps later [] is = BeginsAgain-same _ (finished (rules.is_valid s) (rules.stuck s) steps) (λ stream rest. story_none First rules options s steps stream (suc fuel) is rest) (finished_whole s steps (rules.is_valid s))
  move_begins fuel s steps later (m ∷ ms) is = BeginsAgain-same _ (λ stream rest. answer_part First rules options s steps stream fuel (m ∷ ms) m rest) (λ stream rest. story_some First rules options s steps stream fuel m ms is rest)
      (select_begins s (m ∷ ms) (omega arith) m steps (λ t o q. story First rules options fuel t (steps + 1) o q) (λ n t printed there goes. later t))

  pub story_begins : (fuel : ℕ) (s : S) (steps : ℕ) → BeginsAgain (story First rules options fuel s steps)
  story_begins zero s steps = limit_begins s steps (rules.moves s) refl
  story_begins (suc fuel) s steps = move_begins fuel s steps (λ t. story_begins fuel t (steps + 1)) (rules.moves s) refl

pub can_be_replayed : {S M : Type 0} (rules : Rules S M) (options : Options) (s : S) → CanBeReplayed (transcript rules options s)
can_be_replayed rules options s choices =
    (same_run (story First rules options options.limit s 0) (story_again rules options options.limit s 0) choices, λ cut. story_begins rules options options.limit s 0 Unread choices cut Unread tt)

pub refused_can_be_replayed : (r : Refusal) (line : ℕ) → CanBeReplayed (refused r line Unread)
refused_can_be_replayed r line choices = (λ complete. record { ends = refl; keeps = refl; reads = refl; writes = refl }, λ cut. absurd (true≢false (sym cut)))
