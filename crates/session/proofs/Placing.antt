-- How a session goes on its converted choices.
use Rattle.std.proofs.Common.{◌≡◌, ℕ, zero, suc, ◌+◌, ◌-◌, ◌<◌, ◌≤◌, List, [], ◌∷◌, ◌++◌, length, get_or, Bool, true, false, ◌&&◌, ◌||◌, leb, leb-true, refl, sym, ap, ◌∙◌, subst, arith, append-nil, append_assoc}
use Rattle.std.proofs.lemmas.Bool.{true≢false}
use Rattle.std.proofs.lemmas.Grind.{flat_map-append}
use Rattle.std.proofs.lemmas.List.Elements.{filter-append}
use Rattle.std.proofs.lemmas.List.Folds.{list_all-append, list_any-append}
use Rattle.std.specs.List.{list_all, list_any}
use Rattle.std.specs.Prelude.{filter, not, if◌then◌else◌}
use Rattle.diagnostics.specs.declared.refusal.Refusal.{Refusal}
use Rattle.promela_session.specs.declared.ends.Options.{Options}
use Rattle.promela_session.specs.declared.ends.End.{End}
use Rattle.promela_session.specs.declared.ends.Cause.TheVariants as cause
use Rattle.promela_session.specs.declared.choice.Answer.{Answer}
use Rattle.promela_session.specs.declared.choice.Answer.TheVariants as answer
use Rattle.promela_session.specs.declared.form.Stream.{Stream}
use Rattle.promela_session.specs.declared.form.Stream.TheVariants.{Unread, Known, Over}
use Rattle.promela_session.specs.declared.form.Version.{Version}
use Rattle.promela_session.specs.declared.form.Version.TheVariants.{First, Second}
use Rattle.promela_session.specs.Devices.{converted_event, converted_events, second, IsSameReading, StandsForRecord}
use Rattle.session.specs.Ending.{placed_lines}
use Rattle.session.specs.Converting.{fits_line, CanBeConverted}
use Rattle.promela_session.specs.Events.{Event, Put, Told, Asked, AskedEnd, Recorded, Stepped, asks, output, front, recorded, Part, preceded, followed, record_line, placed_line, header_line, list_from, prompt, is_ask}
use Rattle.profile.specs.declared.TheConstants.{LINE_BYTES, BAD_LINES}
use Rattle.promela_session.specs.Lines.{line_within, read_of, saw_end}
use Rattle.session.specs.Answers.{IsPickUpTo}
use Rattle.promela_machine.specs.Machine.{Rules, Outcome, Goes, Faults}
use Rattle.promela_session.specs.Session.{one_line, next_line, one_reply, begins_second, stream_behind, ask_for_move, only_this, kept, choose, place_of_move, select_move, stopped, finished, stepped, answered, story, transcript, step_text, refused}
use Rattle.session.specs.Reads.{line_asks}
use Rattle.session.proofs.LineReading.{AsksFirst, asks_first}
use Rattle.session.proofs.Parts.{front-append, output-append, recorded-append, front-asks}
use Rattle.session.proofs.Written.{IsShort, ask_short}
use Rattle.session.proofs.Records.{IsPlain}
use Rattle.session.proofs.Replay.{Silent, silent_placed, chosen, recorded_chosen, picked_again, ask_silent, ask_range}
use Rattle.session.proofs.CutShort.{ended_ask}
use Rattle.session.proofs.Turns.{story_none, story_limit, story_some, answer_part}
use Rattle.session.proofs.Placed.{placed_asked, header_asked}

both : (a b : Bool) → (a && b) ≡ true → (a ≡ true) × (b ≡ true)
both true b holds = (refl, holds)
both false b holds = absurd (true≢false (sym holds))

-- ---- lists of events

placed-append : (xs ys : List Event) → placed_lines (xs ++ ys) ≡ placed_lines xs ++ placed_lines ys
placed-append xs ys = ap output (flat_map-append converted_event xs ys) ∙ output-append (converted_events xs) (converted_events ys)

-- an event that asks for nothing
abbrev is_no_ask : Event → Bool
is_no_ask e = not (is_ask e)

no_ask-asks : (bytes : List ℕ) (ended : Bool) → filter is_no_ask (asks bytes ended) ≡ []
no_ask-asks [] true = refl
no_ask-asks [] false = refl
no_ask-asks (b ∷ bs) ended = no_ask-asks bs ended

abbrev AreFit : List Event → Type 0
AreFit events = list_all fits_line events ≡ true

fit_behind : (xs ys : List Event) → AreFit (xs ++ ys) → AreFit ys
fit_behind xs ys fit = (both (list_all fits_line xs) (list_all fits_line ys) (sym (list_all-append fits_line xs ys) ∙ fit)).1

followed_preceded : {T U : Type 0} (es : List Event) (p : Part T) (next : T → Stream → List ℕ → Part U) → followed (preceded es p) next ≡ preceded es (followed p next)
followed_preceded es p next =
    let n = next p.value p.stream p.left in
    ap (λ (l : List Event). record { events = l; value = n.value; stream = n.stream; left = n.left }) (append_assoc es p.events n.events)

-- both go on behind these events
then_same : (xs ys : List Event) (bytes : List ℕ) {run other : Part End} {rest : List ℕ} → filter is_no_ask ys ≡ filter is_no_ask xs → front ys ≡ bytes → IsSameReading run other rest
    → IsSameReading (preceded xs run) (preceded ys other) (bytes ++ rest)
then_same xs ys bytes {run} {other} {rest} does reads same = record {
  ends = same.ends;
  does = rw (filter-append is_no_ask ys other.events, filter-append is_no_ask xs run.events, does, same.does) refl;
  reads = rw (front-append ys other.events, reads, same.reads) refl;
}

-- the first question asks for a byte, unless the end was seen
abbrev IsOpen : Stream → Type 0
IsOpen stream = stream ≡ Over → ⊥

any_first : (events : List Event) → AsksFirst events → list_any is_ask events ≡ true
any_first events first = rw first.3 (by first.0 first.2)
  where
    by : (e : Event) → (is_ask e ≡ true) → (is_ask e || list_any is_ask first.1) ≡ true
    by (Put purpose piece) is = cc
    by (Asked b) is = refl
    by AskedEnd is = refl
    by (Recorded line placed) is = cc
    by Stepped is = cc

any_front : (xs ys : List Event) → list_any is_ask xs ≡ true → list_any is_ask (xs ++ ys) ≡ true
any_front xs ys some = rw (list_any-append is_ask xs ys, some) refl

line_any : (version : Version) (most : ℕ) (place : ℕ → ℕ × ℕ) (rest : List ℕ) → list_any is_ask (one_line version most place rest).events ≡ true
unfolding one_line
line_any version most place rest = any_first (line_asks (line_within (LINE_BYTES + 1) rest)) (asks_first LINE_BYTES rest)

next_any : (most : ℕ) (place : ℕ → ℕ × ℕ) (stream : Stream) (rest : List ℕ) → IsOpen stream → list_any is_ask (next_line most place stream rest).events ≡ true
unfolding next_line
next_any most place Unread rest unended = line_any First most place rest
next_any most place (Known version) rest unended = line_any version most place rest
next_any most place Over rest unended = absurd (unended refl)

one_any : (most : ℕ) (place : ℕ → ℕ × ℕ) (stream : Stream) (rest : List ℕ) → IsOpen stream → list_any is_ask (one_reply most place stream rest).events ≡ true
unfolding one_reply
one_any most place Unread rest unended = by (begins_second (line_within (LINE_BYTES + 1) rest).ends (line_within (LINE_BYTES + 1) rest).bytes)
  where
    by : (t : Bool) → let line = line_within (LINE_BYTES + 1) rest in
        list_any is_ask (if t then preceded (asks (read_of line.ends line.bytes) (saw_end line.ends)) (next_line most place (stream_behind Second line.ends) line.left) else next_line most place Unread rest).events ≡ true
    by true = any_front (line_asks (line_within (LINE_BYTES + 1) rest)) _ (any_first (line_asks (line_within (LINE_BYTES + 1) rest)) (asks_first LINE_BYTES rest))
    by false = next_any most place Unread rest unended
one_any most place (Known version) rest unended = next_any most place (Known version) rest unended
one_any most place Over rest unended = absurd (unended refl)

ask_any : (most : ℕ) (place : ℕ → ℕ × ℕ) (tries : ℕ) (stream : Stream) (rest : List ℕ) → IsOpen stream → list_any is_ask (ask_for_move most place tries stream rest).events ≡ true
unfolding ask_for_move
ask_any most place zero stream rest unended = any_front (one_reply most place stream rest).events _ (one_any most place stream rest unended)
ask_any most place (suc tries) stream rest unended = any_front (one_reply most place stream rest).events _ (one_any most place stream rest unended)

-- ---- behind the first line, and from the first line on

-- this part goes on its placed lines as on its record
abbrev IsPlaced : (Stream → List ℕ → Part End) → Type 0
IsPlaced part = (stream : Stream) (choices : List ℕ) → let run = part stream choices in AreFit run.events → (first : Stream) → IsPlain first
    → IsSameReading (part first (recorded run.events)) (part (Known Second) (placed_lines run.events)) (placed_lines run.events)

-- the bytes that are read where nothing was read before
abbrev headed : List Event → List ℕ
headed events = if list_any is_ask events then second events else []

-- and with the first line before them
abbrev IsHeaded : (Stream → List ℕ → Part End) → Type 0
IsHeaded part = (stream : Stream) (choices : List ℕ) → let run = part stream choices in IsOpen stream → AreFit run.events → (first : Stream) → IsPlain first
    → IsSameReading (part first (recorded run.events)) (part Unread (second run.events)) (headed run.events)

IsPlaced-same : (part same : Stream → List ℕ → Part End) → ((stream : Stream) (rest : List ℕ) → part stream rest ≡ same stream rest) → IsPlaced same → IsPlaced part
IsPlaced-same part same is placed stream choices fit first plain =
    rw (is stream choices, is first (recorded (same stream choices).events), is (Known Second) (placed_lines (same stream choices).events)) (placed stream choices (rw (is stream choices) at fit) first plain)

IsHeaded-same : (part same : Stream → List ℕ → Part End) → ((stream : Stream) (rest : List ℕ) → part stream rest ≡ same stream rest) → IsHeaded same → IsHeaded part
IsHeaded-same part same is headed stream choices unended fit first plain =
    rw (is stream choices, is first (recorded (same stream choices).events), is Unread (second (same stream choices).events)) (headed stream choices unended (rw (is stream choices) at fit) first plain)

module _ {S M : Type 0} (rules : Rules S M) (options : Options) (s : S) where
  stepped_placed : (m : M) (steps : ℕ) (later : S → Stream → List ℕ → Part End) → ((t : S) → IsPlaced (later t)) → (o : Outcome S)
      → IsPlaced (λ stream left. stepped rules options s m steps (λ t. later t stream left) stream left o)
  unfolding stepped
  stepped_placed m steps later ih (Goes t printed) stream choices fit first plain =
      let events = Stepped ∷ Put Told (step_text rules options s m (steps + 1) t printed) ∷ [] in
      then_same events events [] refl refl (ih t stream choices fit first plain)
  stepped_placed m steps later ih (Faults f) stream choices fit first plain = record { ends = refl; does = refl; reads = refl }

  stepped_headed : (m : M) (steps : ℕ) (later : S → Stream → List ℕ → Part End) → ((t : S) → IsHeaded (later t)) → (o : Outcome S)
      → IsHeaded (λ stream left. stepped rules options s m steps (λ t. later t stream left) stream left o)
  unfolding stepped
  stepped_headed m steps later ih (Goes t printed) stream choices unended fit first plain =
      let events = Stepped ∷ Put Told (step_text rules options s m (steps + 1) t printed) ∷ [] in
      then_same events events [] refl refl (ih t stream choices unended fit first plain)
  stepped_headed m steps later ih (Faults f) stream choices unended fit first plain = record { ends = refl; does = refl; reads = refl }

  answered_placed : (moves : List M) (start : M) (steps : ℕ) (later : S → Stream → List ℕ → Part End) → ((t : S) → IsPlaced (later t)) → (k : ℕ) → IsPlaced (answered rules options s moves start steps later (answer.Pick k))
  unfolding answered
  answered_placed moves start steps later ih k = let m = get_or moves (k - 1) start in stepped_placed m steps later ih (rules.step s m)

  answered_headed : (moves : List M) (start : M) (steps : ℕ) (later : S → Stream → List ℕ → Part End) → ((t : S) → IsHeaded (later t)) → (k : ℕ) → IsHeaded (answered rules options s moves start steps later (answer.Pick k))
  unfolding answered
  answered_headed moves start steps later ih k = let m = get_or moves (k - 1) start in stepped_headed m steps later ih (rules.step s m)

plain_open : (stream : Stream) → IsPlain stream → IsOpen stream
plain_open Unread plain is = cc
plain_open (Known version) plain is = cc
plain_open Over plain is = plain

-- ---- a question

-- an answer that picks no move records nothing, and nothing follows the end of the choices
record Stops (next : Answer → Stream → List ℕ → Part End) : Type 0 where
  pub none : (said : Answer) → ((k : ℕ) → said ≡ answer.Pick k → ⊥) → (stream : Stream) (left : List ℕ) → (recorded (next said stream left).events ≡ []) × (placed_lines (next said stream left).events ≡ [])
  pub ended : (stream : Stream) (left : List ℕ) → front (next answer.Ended stream left).events ≡ []

module _ {M : Type 0} (text : M → List ℕ) (place : ℕ → ℕ × ℕ) (moves : List M) (next : Answer → Stream → List ℕ → Part End) (stops : Stops next) where
  -- the question and what follows it
  abbrev asking : Stream → List ℕ → Part End
  asking stream rest = followed (choose First text place moves stream rest) next

  abbrev pieces : List Event
  pieces = Put Told (list_from text 1 moves) ∷ Put Told (prompt (length moves)) ∷ []

  -- what follows the pieces
  abbrev behind : List ℕ → Part End
  behind rest = followed (followed (ask_for_move (length moves) place (BAD_LINES - 1) (Known Second) rest) (kept First place)) next

  header_asking : (rest : List ℕ) → asking Unread (header_line ++ rest) ≡ preceded pieces (preceded (asks header_line false) (behind rest))
  header_asking rest =
      let asked = ask_for_move (length moves) place (BAD_LINES - 1) (Known Second) rest in
      ap (λ p. preceded pieces (followed (followed p (kept First place)) next)) (header_asked (length moves) place rest (BAD_LINES - 1))
      ∙ (ap (λ p. preceded pieces (followed p next)) (followed_preceded (asks header_line false) asked (kept First place))
      ∙ ap (preceded pieces) (followed_preceded (asks header_line false) (followed asked (kept First place)) next))

  -- with the first line before all it goes on as behind the first line
  add_header : (run : Part End) (rest bytes : List ℕ) → IsSameReading run (asking (Known Second) rest) bytes → IsSameReading run (asking Unread (header_line ++ rest)) (header_line ++ bytes)
  add_header run rest bytes same = subst (λ (p : Part End). IsSameReading run p (header_line ++ bytes)) (sym (header_asking rest)) (record {
    ends = same.ends;
    does = same.does;
    reads = ap (λ l. header_line ++ l) same.reads;
  })

  -- the lines of an answer
  placed_chosen : (asked : List Event) (n : ℕ) (stream : Stream) (left : List ℕ) → Silent asked → placed_lines (chosen text place moves next asked (answer.Pick n) stream left).events ≡ placed_line n (place n) ++ placed_lines (next (answer.Pick n) stream left).events
  placed_chosen asked n stream left silent =
      let rest = (next (answer.Pick n) stream left).events in
      let line = Recorded (record_line n) (placed_line n (place n)) ∷ [] in
      rw (placed-append (asked ++ line) rest, placed-append asked line, silent_placed asked silent) (ap (λ l. l ++ placed_lines rest) (append-nil (placed_line n (place n))))

  fit_chosen : (asked : List Event) (n : ℕ) (stream : Stream) (left : List ℕ) → AreFit (chosen text place moves next asked (answer.Pick n) stream left).events
      → (length (placed_line n (place n)) ≤ LINE_BYTES + 1) × AreFit (next (answer.Pick n) stream left).events
  fit_chosen asked n stream left fit =
      let rest = (next (answer.Pick n) stream left).events in
      let line = Recorded (record_line n) (placed_line n (place n)) ∷ [] in
      let all : AreFit ((asked ++ line) ++ rest) = fit in
      let some : AreFit (line ++ rest) = fit_behind asked (line ++ rest) (ap (list_all fits_line) (sym (append_assoc asked line rest)) ∙ all) in
      let one = both (leb (length (placed_line n (place n))) (LINE_BYTES + 1)) (list_all fits_line rest) some in
      (leb-true (length (placed_line n (place n))) (LINE_BYTES + 1) one.0, one.1)

  -- a picked move, on its line with its place
  placed_again : (n : ℕ) (more : List ℕ) → 0 < n → n ≤ length moves → length (placed_line n (place n)) ≤ LINE_BYTES + 1
      → asking (Known Second) (placed_line n (place n) ++ more) ≡ preceded (pieces ++ (asks (placed_line n (place n)) false ++ Recorded (record_line n) (placed_line n (place n)) ∷ [])) (next (answer.Pick n) (Known Second) more)
  placed_again n more some within fits = rw (placed_asked (length moves) place n more some within fits (BAD_LINES - 1)) refl

  -- no number was picked
  unpicked : (asked : List Event) (said : Answer) (stream : Stream) (left : List ℕ) → Silent asked → ((k : ℕ) → said ≡ answer.Pick k → ⊥) → (kept First place said stream left ≡ only_this said stream left)
      → (first : Stream) → IsPlain first → let run = chosen text place moves next asked said stream left in IsSameReading (asking first (recorded run.events)) (asking (Known Second) (placed_lines run.events)) (placed_lines run.events)
  unpicked asked said stream left silent other is first plain =
      let none = stops.none said other stream left in
      let rest = (next said stream left).events in
      let no_line : recorded (chosen text place moves next asked said stream left).events ≡ [] = rw is (rw (append-nil asked) (rw (recorded-append asked rest, silent.0) none.0)) in
      let no_place : placed_lines (chosen text place moves next asked said stream left).events ≡ [] = rw is (rw (append-nil asked) (rw (placed-append asked rest, silent_placed asked silent) none.1)) in
      rw (no_line, no_place) (rw (ended_ask (length moves) place (BAD_LINES - 1) first (plain_open first plain), ended_ask (length moves) place (BAD_LINES - 1) (Known Second) (λ e. cc)) (record {
        ends = refl;
        does = refl;
        reads = stops.ended Over [];
      }))

  chosen_placed : ((k : ℕ) → IsPlaced (next (answer.Pick k))) → (asked : List Event) (said : Answer) (stream : Stream) (left : List ℕ) → Silent asked → IsPickUpTo (length moves) said → IsShort said
      → let run = chosen text place moves next asked said stream left in AreFit run.events → (first : Stream) → IsPlain first
      → IsSameReading (asking first (recorded run.events)) (asking (Known Second) (placed_lines run.events)) (placed_lines run.events)
  chosen_placed ih asked (answer.Pick n) stream left silent range short fit first plain =
      let rest = (next (answer.Pick n) stream left).events in
      let fits = fit_chosen asked n stream left fit in
      let line = Recorded (record_line n) (placed_line n (place n)) ∷ [] in
      let xs = pieces ++ (asks (record_line n) false ++ line) in
      let ys = pieces ++ (asks (placed_line n (place n)) false ++ line) in
      let more = ih n stream left fits.1 (Known First) refl in
      let does : filter is_no_ask (asks (placed_line n (place n)) false ++ line) ≡ filter is_no_ask (asks (record_line n) false ++ line) =
      rw (filter-append is_no_ask (asks (placed_line n (place n)) false) line, filter-append is_no_ask (asks (record_line n) false) line, no_ask-asks (placed_line n (place n)) false, no_ask-asks (record_line n) false) refl in
      let reads : front (asks (placed_line n (place n)) false ++ line) ≡ placed_line n (place n) =
      rw (front-append (asks (placed_line n (place n)) false) line, front-asks (placed_line n (place n)) false) (append-nil (placed_line n (place n))) in
      rw (
        recorded_chosen text place moves next asked n stream left silent,
        placed_chosen asked n stream left silent,
        picked_again text place moves next n (recorded rest) range.0 range.1 short first plain,
        placed_again n (placed_lines rest) range.0 range.1 fits.0,
      )
      (then_same xs ys (placed_line n (place n)) (ap (λ es. Put Told (list_from text 1 moves) ∷ Put Told (prompt (length moves)) ∷ es) does) reads more)
  chosen_placed ih asked answer.Quit stream left silent range short fit first plain = unpicked asked answer.Quit stream left silent (λ k e. cc) refl first plain
  chosen_placed ih asked answer.Ended stream left silent range short fit first plain = unpicked asked answer.Ended stream left silent (λ k e. cc) refl first plain
  chosen_placed ih asked answer.TooLong stream left silent range short fit first plain = unpicked asked answer.TooLong stream left silent (λ k e. cc) refl first plain
  chosen_placed ih asked answer.Hundred stream left silent range short fit first plain = unpicked asked answer.Hundred stream left silent (λ k e. cc) refl first plain
  chosen_placed ih asked answer.Misfit stream left silent range short fit first plain = unpicked asked answer.Misfit stream left silent (λ k e. cc) refl first plain

  -- a question asks for a byte
  chosen_any : (asked : List Event) (said : Answer) (stream : Stream) (left : List ℕ) → list_any is_ask asked ≡ true → list_any is_ask (chosen text place moves next asked said stream left).events ≡ true
  chosen_any asked said stream left some =
      let k = kept First place said stream left in
      any_front (asked ++ k.events) (next k.value k.stream k.left).events (any_front asked k.events some)

module _ {S M : Type 0} (rules : Rules S M) (options : Options) where
  answered_stops : (s : S) (moves : List M) (start : M) (steps : ℕ) (later : S → Stream → List ℕ → Part End) → Stops (answered rules options s moves start steps later)
  unfolding answered
  answered_stops s moves start steps later = record {
    none = λ said other stream left. by_answer said other stream left;
    ended = λ stream left. refl;
  }
    where
      by_answer : (said : Answer) → ((k : ℕ) → said ≡ answer.Pick k → ⊥) → (stream : Stream) (left : List ℕ)
          → (recorded (answered rules options s moves start steps later said stream left).events ≡ []) × (placed_lines (answered rules options s moves start steps later said stream left).events ≡ [])
      by_answer (answer.Pick k) other stream left = absurd (other k refl)
      by_answer answer.Quit other stream left = (refl, refl)
      by_answer answer.Ended other stream left = (refl, refl)
      by_answer answer.TooLong other stream left = (refl, refl)
      by_answer answer.Hundred other stream left = (refl, refl)
      by_answer answer.Misfit other stream left = (refl, refl)

  abbrev selected : S → List M → M → ℕ → (S → Stream → List ℕ → Part End) → Stream → List ℕ → Part End
  selected s moves start steps later stream rest = followed (select_move First rules s moves stream rest) (answered rules options s moves start steps later)

  select_placed : (s : S) (moves : List M) → 0 < length moves → (start : M) (steps : ℕ) (later : S → Stream → List ℕ → Part End) → ((t : S) → IsPlaced (later t)) → IsPlaced (selected s moves start steps later)
  unfolding select_move
  select_placed s [] some start steps later ih stream choices fit first plain = absurd (omega arith)
  select_placed s (m ∷ []) some start steps later ih stream choices fit first plain = answered_placed rules options s (m ∷ []) start steps later ih 1 stream choices fit first plain
  select_placed s (m ∷ k ∷ ms) some start steps later ih stream choices fit first plain =
      let place = place_of_move rules s (m ∷ k ∷ ms) in
      let asked = ask_for_move (length (m ∷ k ∷ ms)) place (BAD_LINES - 1) stream choices in
      chosen_placed (rules.text s) place (m ∷ k ∷ ms) (answered rules options s (m ∷ k ∷ ms) start steps later) (answered_stops s (m ∷ k ∷ ms) start steps later)
      (answered_placed rules options s (m ∷ k ∷ ms) start steps later ih) asked.events asked.value asked.stream asked.left (ask_silent (length (m ∷ k ∷ ms)) place (BAD_LINES - 1) stream choices)
      (ask_range (length (m ∷ k ∷ ms)) place (BAD_LINES - 1) stream choices) (ask_short (length (m ∷ k ∷ ms)) place (BAD_LINES - 1) stream choices) fit first plain

  select_headed : (s : S) (moves : List M) → 0 < length moves → (start : M) (steps : ℕ) (later : S → Stream → List ℕ → Part End) → ((t : S) → IsPlaced (later t)) → ((t : S) → IsHeaded (later t)) → IsHeaded (selected s moves start steps later)
  unfolding select_move
  select_headed s [] some start steps later ih ih2 stream choices unended fit first plain = absurd (omega arith)
  select_headed s (m ∷ []) some start steps later ih ih2 stream choices unended fit first plain = answered_headed rules options s (m ∷ []) start steps later ih2 1 stream choices unended fit first plain
  select_headed s (m ∷ k ∷ ms) some start steps later ih ih2 stream choices unended fit first plain =
      let moves = m ∷ k ∷ ms in
      let place = place_of_move rules s moves in
      let next = answered rules options s moves start steps later in
      let asked = ask_for_move (length moves) place (BAD_LINES - 1) stream choices in
      let run = chosen (rules.text s) place moves next asked.events asked.value asked.stream asked.left in
      let any : list_any is_ask run.events ≡ true = chosen_any (rules.text s) place moves next (answered_stops s moves start steps later) asked.events asked.value asked.stream asked.left (ask_any (length moves) place (BAD_LINES - 1) stream choices unended) in
      let is : headed run.events ≡ second run.events = rw any refl in
      subst (IsSameReading (asking (rules.text s) place moves next (answered_stops s moves start steps later) first (recorded run.events)) (asking (rules.text s) place moves next (answered_stops s moves start steps later) Unread (second run.events))) (sym is)
      (add_header (rules.text s) place moves next (answered_stops s moves start steps later) (asking (rules.text s) place moves next (answered_stops s moves start steps later) first (recorded run.events)) (placed_lines run.events) (placed_lines run.events)
      (select_placed s moves some start steps later ih stream choices fit first plain))

  -- ---- the whole

  finished_placed : (s : S) (steps : ℕ) (valid : Bool) → IsPlaced (finished valid (rules.stuck s) steps)
  finished_placed s steps valid stream choices fit first plain = record { ends = refl; does = refl; reads = refl }

  finished_headed : (s : S) (steps : ℕ) (valid : Bool) → IsHeaded (finished valid (rules.stuck s) steps)
  finished_headed s steps valid stream choices unended fit first plain = record { ends = refl; does = refl; reads = refl }

  limit_placed : (s : S) (steps : ℕ) (moves : List M) → rules.moves s ≡ moves → IsPlaced (story First rules options 0 s steps)
  limit_placed s steps [] is = IsPlaced-same _ (finished (rules.is_valid s) (rules.stuck s) steps) (λ stream rest. story_none First rules options s steps stream 0 is rest) (finished_placed s steps (rules.is_valid s))
  limit_placed s steps (m ∷ ms) is = IsPlaced-same _ (stopped cause.StepLimit steps) (λ stream rest. story_limit First rules options s steps stream m ms is rest) (λ stream choices fit first plain. record { ends = refl; does = refl; reads = refl })

  limit_headed : (s : S) (steps : ℕ) (moves : List M) → rules.moves s ≡ moves → IsHeaded (story First rules options 0 s steps)
  limit_headed s steps [] is = IsHeaded-same _ (finished (rules.is_valid s) (rules.stuck s) steps) (λ stream rest. story_none First rules options s steps stream 0 is rest) (finished_headed s steps (rules.is_valid s))
  limit_headed s steps (m ∷ ms) is = IsHeaded-same _ (stopped cause.StepLimit steps) (λ stream rest. story_limit First rules options s steps stream m ms is rest) (λ stream choices unended fit first plain. record { ends = refl; does = refl; reads = refl })

  move_placed : (fuel : ℕ) (s : S) (steps : ℕ) → ((t : S) → IsPlaced (story First rules options fuel t (steps + 1))) → (moves : List M) → rules.moves s ≡ moves → IsPlaced (story First rules options (suc fuel) s steps)
  move_placed fuel s steps later [] is = IsPlaced-same _ (finished (rules.is_valid s) (rules.stuck s) steps) (λ stream rest. story_none First rules options s steps stream (suc fuel) is rest) (finished_placed s steps (rules.is_valid s))
  move_placed fuel s steps later (m ∷ ms) is = IsPlaced-same _ (λ stream rest. answer_part First rules options s steps stream fuel (m ∷ ms) m rest) (λ stream rest. story_some First rules options s steps stream fuel m ms is rest)
      (select_placed s (m ∷ ms) (omega arith) m steps (λ t o q. story First rules options fuel t (steps + 1) o q) later)

  move_headed : (fuel : ℕ) (s : S) (steps : ℕ) → ((t : S) → IsPlaced (story First rules options fuel t (steps + 1))) → ((t : S) → IsHeaded (story First rules options fuel t (steps + 1))) → (moves : List M) → rules.moves s ≡ moves
      → IsHeaded (story First rules options (suc fuel) s steps)
  move_headed fuel s steps later later2 [] is = IsHeaded-same _ (finished (rules.is_valid s) (rules.stuck s) steps) (λ stream rest. story_none First rules options s steps stream (suc fuel) is rest) (finished_headed s steps (rules.is_valid s))
  move_headed fuel s steps later later2 (m ∷ ms) is = IsHeaded-same _ (λ stream rest. answer_part First rules options s steps stream fuel (m ∷ ms) m rest) (λ stream rest. story_some First rules options s steps stream fuel m ms is rest)
      (select_headed s (m ∷ ms) (omega arith) m steps (λ t o q. story First rules options fuel t (steps + 1) o q) later later2)

  story_placed : (fuel : ℕ) (s : S) (steps : ℕ) → IsPlaced (story First rules options fuel s steps)
  story_placed zero s steps = limit_placed s steps (rules.moves s) refl
  story_placed (suc fuel) s steps = move_placed fuel s steps (λ t. story_placed fuel t (steps + 1)) (rules.moves s) refl

  story_headed : (fuel : ℕ) (s : S) (steps : ℕ) → IsHeaded (story First rules options fuel s steps)
  story_headed zero s steps = limit_headed s steps (rules.moves s) refl
  story_headed (suc fuel) s steps = move_headed fuel s steps (λ t. story_placed fuel t (steps + 1)) (λ t. story_headed fuel t (steps + 1)) (rules.moves s) refl

pub can_be_converted : {S M : Type 0} (rules : Rules S M) (options : Options) (s : S) → CanBeConverted (transcript rules options s)
can_be_converted rules options s choices fit = story_headed rules options options.limit s 0 Unread choices (λ e. cc) fit Unread tt

pub refused_can_be_converted : (r : Refusal) (line : ℕ) (choices : List ℕ) → StandsForRecord (refused r line Unread) choices
refused_can_be_converted r line choices = record { ends = refl; does = refl; reads = refl }
