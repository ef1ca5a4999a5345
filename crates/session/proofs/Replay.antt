-- How a run that is played again on its record goes.
use Rattle.std.proofs.Common.{◌≡◌, ℕ, zero, suc, ◌+◌, ◌-◌, ◌<◌, ◌≤◌, List, [], ◌∷◌, ◌++◌, length, get_or, Bool, true, false, Option, Some, None, IfSome, cond, if◌then◌else◌, ◌&&◌, ltb, leb, ltb-true, leb-true, refl, sym, ap, ◌∙◌, arith, append-nil, append_assoc}
use Rattle.std.specs.Prelude.{option_map}
use Rattle.std.proofs.lemmas.Grind.{flat_map-append}
use Rattle.std.proofs.lemmas.Bool.{true≢false}
use Rattle.std.proofs.lemmas.List.Elements.{Contains-get_or}
use Rattle.std.specs.List.{list_all, flat_map, Contains}
use Rattle.promela_session.specs.declared.ends.Options.{Options}
use Rattle.promela_session.specs.declared.ends.End.{End}
use Rattle.promela_session.specs.declared.ends.Cause.TheVariants as cause
use Rattle.promela_session.specs.declared.line.LineEnd.{LineEnd}
use Rattle.promela_session.specs.declared.line.LineEnd.TheVariants.{Whole, Last, TooLong}
use Rattle.promela_session.specs.declared.choice.Answer.{Answer}
use Rattle.promela_session.specs.declared.choice.Answer.TheVariants as answer
use Rattle.promela_session.specs.Events.{Event, Put, Told, Corrected, Asked, AskedEnd, Recorded, Stepped, asks, output, front, recorded, Part, preceded, followed, record_line, placed_line, list_from, prompt}
use Rattle.profile.specs.declared.TheConstants.{LINE_BYTES, BAD_LINES}
use Rattle.profile.specs.Characters.{is_digit}
use Rattle.promela_session.specs.Lines.{Line, line_within, read_of, saw_end, reply_of, reply_in, number_of, number_up_to, is_quit, trimmed, first_word, behind_word, writes, picked_at, placed_answer, placed_reply}
use Rattle.session.specs.Answers.{IsPickUpTo}
use Rattle.promela_machine.specs.Machine.{Rules, Outcome, Goes, Faults}
use Rattle.promela_session.specs.Session.{one_line, next_line, one_reply, begins_second, stream_behind, reply_at, ask_for_move, after_line, only_this, kept, choose, place_of_move, select_move, stopped, finished, stepped, answered, story, step_text}
use Rattle.promela_session.specs.Devices.{converted_events, without_corrections, is_complete, IsSameRun}
use Rattle.session.specs.Ending.{placed_lines}
use Rattle.session.specs.Converting.{told_events}
use Rattle.session.proofs.Parts.{front-append, output-append, recorded-append, front-asks, output-asks, recorded-asks}
use Rattle.session.proofs.Records.{IsPlain, record_asked}
use Rattle.session.proofs.Written.{IsShort, ask_short}
use Rattle.session.proofs.Turns.{story_none, story_limit, story_some, answer_part}
use Rattle.promela_session.specs.declared.form.Stream.{Stream}
use Rattle.promela_session.specs.declared.form.Stream.TheVariants.{Unread, Known, Over}
use Rattle.promela_session.specs.declared.form.Version.{Version}
use Rattle.promela_session.specs.declared.form.Version.TheVariants.{First, Second}

-- ---- what becomes of events

-- a correction goes, and so does a byte that was asked for; a line of the record is asked for
pub replay_of : Event → List Event
replay_of (Put Told piece) = Put Told piece ∷ []
replay_of (Put Corrected piece) = []
replay_of (Asked b) = []
replay_of AskedEnd = []
replay_of (Recorded line placed) = asks line false ++ Recorded line placed ∷ []
replay_of Stepped = Stepped ∷ []

abbrev pub replayed : List Event → List Event
replayed events = flat_map replay_of events

replayed-append : (xs ys : List Event) → replayed (xs ++ ys) ≡ replayed xs ++ replayed ys
replayed-append xs ys = flat_map-append replay_of xs ys

recorded_again : (events : List Event) → recorded (replayed events) ≡ recorded events
unfolding replay_of
recorded_again [] = refl
recorded_again (Put Told piece ∷ es) = recorded_again es
recorded_again (Put Corrected piece ∷ es) = recorded_again es
recorded_again (Asked b ∷ es) = recorded_again es
recorded_again (AskedEnd ∷ es) = recorded_again es
recorded_again (Recorded line placed ∷ es) = rw (recorded-append (asks line false ++ Recorded line placed ∷ []) (replayed es), recorded-append (asks line false) (Recorded line placed ∷ []), recorded-asks line false, recorded_again es) (ap (λ l. l ++ recorded es) (append-nil line))
recorded_again (Stepped ∷ es) = recorded_again es

front_again : (events : List Event) → front (replayed events) ≡ recorded events
unfolding replay_of
front_again [] = refl
front_again (Put Told piece ∷ es) = front_again es
front_again (Put Corrected piece ∷ es) = front_again es
front_again (Asked b ∷ es) = front_again es
front_again (AskedEnd ∷ es) = front_again es
front_again (Recorded line placed ∷ es) = rw (front-append (asks line false ++ Recorded line placed ∷ []) (replayed es), front-append (asks line false) (Recorded line placed ∷ []), front-asks line false, front_again es) (ap (λ l. l ++ recorded es) (append-nil line))
front_again (Stepped ∷ es) = front_again es

output_again : (events : List Event) → output (replayed events) ≡ output (without_corrections events)
unfolding replay_of
output_again [] = refl
output_again (Put Told piece ∷ es) = ap (λ l. piece ++ l) (output_again es)
output_again (Put Corrected piece ∷ es) = output_again es
output_again (Asked b ∷ es) = output_again es
output_again (AskedEnd ∷ es) = output_again es
output_again (Recorded line placed ∷ es) = rw (output-append (asks line false ++ Recorded line placed ∷ []) (replayed es), output-append (asks line false) (Recorded line placed ∷ []), output-asks line false) (output_again es)
output_again (Stepped ∷ es) = output_again es

-- ---- a question alone records nothing, and nothing of it is played again

abbrev pub Silent : List Event → Type 0
Silent events = (recorded events ≡ []) × (replayed events ≡ [])

replayed-asks : (bytes : List ℕ) (ended : Bool) → replayed (asks bytes ended) ≡ []
unfolding replay_of
replayed-asks [] true = refl
replayed-asks [] false = refl
replayed-asks (b ∷ bs) ended = replayed-asks bs ended

Silent-append : (xs ys : List Event) → Silent xs → Silent ys → Silent (xs ++ ys)
Silent-append xs ys first second = (rw (recorded-append xs ys, first.0) second.0, rw (replayed-append xs ys, first.1) second.1)

line_silent : (version : Version) (most : ℕ) (place : ℕ → ℕ × ℕ) (rest : List ℕ) → Silent (one_line version most place rest).events
unfolding one_line
line_silent version most place rest = let line = line_within (LINE_BYTES + 1) rest in (recorded-asks (read_of line.ends line.bytes) (saw_end line.ends), replayed-asks (read_of line.ends line.bytes) (saw_end line.ends))

next_silent : (most : ℕ) (place : ℕ → ℕ × ℕ) (stream : Stream) (rest : List ℕ) → Silent (next_line most place stream rest).events
unfolding next_line
next_silent most place Unread rest = line_silent First most place rest
next_silent most place (Known version) rest = line_silent version most place rest
next_silent most place Over rest = (refl, refl)

one_silent : (most : ℕ) (place : ℕ → ℕ × ℕ) (stream : Stream) (rest : List ℕ) → Silent (one_reply most place stream rest).events
unfolding one_reply
one_silent most place Unread rest = let line = line_within (LINE_BYTES + 1) rest in by line (begins_second line.ends line.bytes)
  where
    by : (line : Line) (t : Bool)
        → Silent (if t then preceded (asks (read_of line.ends line.bytes) (saw_end line.ends)) (next_line most place (stream_behind Second line.ends) line.left) else next_line most place Unread rest).events
    by line true = Silent-append (asks (read_of line.ends line.bytes) (saw_end line.ends)) _ (recorded-asks (read_of line.ends line.bytes) (saw_end line.ends), replayed-asks (read_of line.ends line.bytes) (saw_end line.ends))
        (next_silent most place (stream_behind Second line.ends) line.left)
    by line false = next_silent most place Unread rest
one_silent most place (Known version) rest = next_silent most place (Known version) rest
one_silent most place Over rest = next_silent most place Over rest

after_silent : (more : Stream → List ℕ → Part Answer) → ((stream : Stream) (left : List ℕ) → Silent (more stream left).events) → (said : Option Answer) (stream : Stream) (left : List ℕ) → Silent (after_line more said stream left).events
unfolding replay_of
after_silent more silent (Some said) stream left = (refl, refl)
after_silent more silent None stream left = silent stream left

pub ask_silent : (most : ℕ) (place : ℕ → ℕ × ℕ) (tries : ℕ) (stream : Stream) (rest : List ℕ) → Silent (ask_for_move most place tries stream rest).events
unfolding ask_for_move replay_of
ask_silent most place zero stream rest = let one = one_reply most place stream rest in Silent-append one.events _ (one_silent most place stream rest) (after_silent (only_this answer.Hundred) (λ o l. (refl, refl)) one.value one.stream one.left)
ask_silent most place (suc tries) stream rest = let one = one_reply most place stream rest in Silent-append one.events _ (one_silent most place stream rest)
    (after_silent _ (λ o l. ask_silent most place tries o l) one.value one.stream one.left)

-- no number was accepted in what is not played again
told_unrecorded : (events : List Event) → replayed events ≡ [] → told_events events ≡ converted_events events
unfolding replay_of
told_unrecorded [] none = refl
told_unrecorded (Put Told piece ∷ es) none = cc
told_unrecorded (Put Corrected piece ∷ es) none = told_unrecorded es none
told_unrecorded (Asked b ∷ es) none = ap (λ l. Asked b ∷ l) (told_unrecorded es none)
told_unrecorded (AskedEnd ∷ es) none = ap (λ l. AskedEnd ∷ l) (told_unrecorded es none)
told_unrecorded (Recorded [] placed ∷ es) none = cc
told_unrecorded (Recorded (b ∷ bs) placed ∷ es) none = cc
told_unrecorded (Stepped ∷ es) none = cc

unplaced : (events : List Event) → replayed events ≡ [] → placed_lines events ≡ []
unfolding replay_of
unplaced [] none = refl
unplaced (Put Told piece ∷ es) none = cc
unplaced (Put Corrected piece ∷ es) none = unplaced es none
unplaced (Asked b ∷ es) none = unplaced es none
unplaced (AskedEnd ∷ es) none = unplaced es none
unplaced (Recorded [] placed ∷ es) none = cc
unplaced (Recorded (b ∷ bs) placed ∷ es) none = cc
unplaced (Stepped ∷ es) none = cc

module _ (events : List Event) (silent : Silent events) where
  pub silent_told : told_events events ≡ converted_events events
  silent_told = told_unrecorded events silent.1

  pub silent_placed : placed_lines events ≡ []
  silent_placed = unplaced events silent.1

-- ---- a picked number is one of the moves

number_range : (d a b : Bool) (v most : ℕ) → (a ≡ true → 0 < v) → (b ≡ true → v ≤ most) → IfSome (option_map answer.Pick (cond (d && (a && b)) (Some v) None)) (IsPickUpTo most)
number_range true true true v most some within = (some refl, within refl)
number_range true true false v most some within = tt
number_range true false b v most some within = tt
number_range false a b v most some within = tt

number_up_to_range : (most : ℕ) (word : List ℕ) → IfSome (option_map answer.Pick (number_up_to most word)) (IsPickUpTo most)
unfolding number_up_to
number_up_to_range most word = number_range (list_all is_digit word) (ltb 0 (number_of word)) (leb (number_of word) most) (number_of word) most (λ e. ltb-true 0 (number_of word) e) (λ e. leb-true (number_of word) most e)

reply_range : (most : ℕ) (line : List ℕ) → IfSome (reply_of most line) (IsPickUpTo most)
unfolding reply_of
reply_range most line = by_quit (is_quit (trimmed line))
  where
    by_quit : (q : Bool) → IfSome (cond q (Some answer.Quit) (option_map answer.Pick (number_up_to most (trimmed line)))) (IsPickUpTo most)
    by_quit true = tt
    by_quit false = number_up_to_range most (trimmed line)

picked_range : (most : ℕ) (place : ℕ → ℕ × ℕ) (p l : List ℕ) (k : Option ℕ) → IfSome (option_map answer.Pick k) (IsPickUpTo most) → IsPickUpTo most (picked_at place p l k)
picked_range most place p l None h = tt
picked_range most place p l (Some n) h = by (writes p (place n).0 && writes l (place n).1)
  where
    by : (t : Bool) → IsPickUpTo most (if t then answer.Pick n else answer.Misfit)
    by true = h
    by false = tt

pub placed_range : (most : ℕ) (place : ℕ → ℕ × ℕ) (line : List ℕ) → IsPickUpTo most (placed_reply most place line)
unfolding placed_reply placed_answer
placed_range most place line = by_quit (is_quit (trimmed line))
  where
    by_quit : (q : Bool) → IsPickUpTo most (if q then answer.Quit else placed_answer most place (trimmed line))
    by_quit true = tt
    by_quit false = picked_range most place (first_word (behind_word (trimmed line))) (behind_word (behind_word (trimmed line))) (number_up_to most (first_word (trimmed line))) (number_up_to_range most (first_word (trimmed line)))

reply_in_range : (version : Version) (most : ℕ) (place : ℕ → ℕ × ℕ) (line : List ℕ) → IfSome (reply_in version most place line) (IsPickUpTo most)
reply_in_range First most place line = reply_range most line
reply_in_range Second most place line = placed_range most place line

reply_at_range : (version : Version) (most : ℕ) (place : ℕ → ℕ × ℕ) (ends : LineEnd) (bytes : List ℕ) → IfSome (reply_at version most place ends bytes) (IsPickUpTo most)
reply_at_range version most place Whole bytes = reply_in_range version most place bytes
reply_at_range version most place TooLong bytes = tt
reply_at_range version most place Last [] = tt
reply_at_range version most place Last (b ∷ bs) = reply_in_range version most place (b ∷ bs)

line_range : (version : Version) (most : ℕ) (place : ℕ → ℕ × ℕ) (rest : List ℕ) → IfSome (one_line version most place rest).value (IsPickUpTo most)
unfolding one_line
line_range version most place rest = let line = line_within (LINE_BYTES + 1) rest in reply_at_range version most place line.ends line.bytes

next_range : (most : ℕ) (place : ℕ → ℕ × ℕ) (stream : Stream) (rest : List ℕ) → IfSome (next_line most place stream rest).value (IsPickUpTo most)
unfolding next_line
next_range most place Unread rest = line_range First most place rest
next_range most place (Known version) rest = line_range version most place rest
next_range most place Over rest = tt

one_range : (most : ℕ) (place : ℕ → ℕ × ℕ) (stream : Stream) (rest : List ℕ) → IfSome (one_reply most place stream rest).value (IsPickUpTo most)
unfolding one_reply
one_range most place Unread rest = let line = line_within (LINE_BYTES + 1) rest in by line (begins_second line.ends line.bytes)
  where
    by : (line : Line) (t : Bool)
        → IfSome (if t then preceded (asks (read_of line.ends line.bytes) (saw_end line.ends)) (next_line most place (stream_behind Second line.ends) line.left) else next_line most place Unread rest).value (IsPickUpTo most)
    by line true = next_range most place (stream_behind Second line.ends) line.left
    by line false = next_range most place Unread rest
one_range most place (Known version) rest = next_range most place (Known version) rest
one_range most place Over rest = next_range most place Over rest

after_range : (most : ℕ) (more : Stream → List ℕ → Part Answer) → ((stream : Stream) (left : List ℕ) → IsPickUpTo most (more stream left).value) → (said : Option Answer) (stream : Stream) (left : List ℕ)
    → IfSome said (IsPickUpTo most) → IsPickUpTo most (after_line more said stream left).value
after_range most more range (Some said) stream left here = here
after_range most more range None stream left here = range stream left

pub ask_range : (most : ℕ) (place : ℕ → ℕ × ℕ) (tries : ℕ) (stream : Stream) (rest : List ℕ) → IsPickUpTo most (ask_for_move most place tries stream rest).value
unfolding ask_for_move
ask_range most place zero stream rest = let one = one_reply most place stream rest in after_range most (only_this answer.Hundred) (λ o l. tt) one.value one.stream one.left (one_range most place stream rest)
ask_range most place (suc tries) stream rest = let one = one_reply most place stream rest in after_range most _ (λ o l. ask_range most place tries o l) one.value one.stream one.left (one_range most place stream rest)

-- ---- the moves of a run

-- a picked number's move is one of them
pub picked_is_there : {M : Type 0} (moves : List M) (k : ℕ) (first : M) → 0 < k → k ≤ length moves → Contains moves (get_or moves (k - 1) first)
picked_is_there moves k first some within = Contains-get_or moves (k - 1) first (omega arith)

-- ---- complete runs

-- what a part becomes when it is played again on its record and more
abbrev pub again_of : {T : Type 0} → Part T → Stream → List ℕ → Part T
again_of run later more = record { events = replayed run.events; value = run.value; stream = later; left = more }

-- it becomes that, and the choices stay of the first version
abbrev pub GoesAgain : (Stream → List ℕ → Part End) → Part End → List ℕ → Stream → Type 0
GoesAgain part run more first = (later : Stream) × IsPlain later × (part first (recorded run.events ++ more) ≡ again_of run later more)

-- Where this part is complete, it goes so when it is played again.
abbrev pub RunsAgain : (Stream → List ℕ → Part End) → Type 0
RunsAgain part = (stream : Stream) (choices more : List ℕ) → is_complete (part stream choices).value.cause ≡ true → (first : Stream) → IsPlain first → GoesAgain part (part stream choices) more first

RunsAgain-same : (part same : Stream → List ℕ → Part End) → ((stream : Stream) (rest : List ℕ) → part stream rest ≡ same stream rest) → RunsAgain same → RunsAgain part
RunsAgain-same part same is again stream choices more complete first plain =
    let r = again stream choices more (rw (is stream choices) at complete) first plain in
    rw (is stream choices) (r.0, r.1, is first _ ∙ r.2)

module _ {S M : Type 0} (rules : Rules S M) (options : Options) (s : S) where
  -- what follows each step by one of these moves goes so again
  abbrev pub StepsRunAgain : List M → (S → Stream → List ℕ → Part End) → Type 0
  StepsRunAgain moves later = (m : M) (t : S) (printed : List ℕ) → Contains moves m → rules.step s m ≡ Goes t printed → RunsAgain (later t)

  stepped_again : (m : M) (steps : ℕ) (later : S → Stream → List ℕ → Part End) → ((t : S) (printed : List ℕ) → rules.step s m ≡ Goes t printed → RunsAgain (later t)) → (o : Outcome S) → rules.step s m ≡ o
      → RunsAgain (λ stream left. stepped rules options s m steps (λ t. later t stream left) stream left o)
  unfolding stepped replay_of
  stepped_again m steps later ih (Goes t printed) is stream choices more complete first plain =
      let r = ih t printed is stream choices more complete first plain in
      (r.0, r.1, ap (λ p. preceded (Stepped ∷ []) (preceded (Put Told (step_text rules options s m (steps + 1) t printed) ∷ []) p)) r.2)
  stepped_again m steps later ih (Faults f) is stream choices more complete first plain = (first, plain, refl)

  answered_again : (moves : List M) (first : M) (steps : ℕ) (later : S → Stream → List ℕ → Part End) → StepsRunAgain moves later → (k : ℕ) → 0 < k → k ≤ length moves → RunsAgain (answered rules options s moves first steps later (answer.Pick k))
  unfolding answered
  answered_again moves first steps later ih k some within =
      let m = get_or moves (k - 1) first in
      stepped_again m steps later (λ t printed goes. ih m t printed (picked_is_there moves k first some within) goes) (rules.step s m) refl

-- the number that a question picked is recorded, and answers it when it is asked again
module _ {M : Type 0} (text : M → List ℕ) (place : ℕ → ℕ × ℕ) (moves : List M) (next : Answer → Stream → List ℕ → Part End) where
  -- a question with its list and its prompt, these events and this answer
  abbrev pub chosen : List Event → Answer → Stream → List ℕ → Part End
  chosen asked said stream left = followed (preceded (Put Told (list_from text 1 moves) ∷ []) (preceded (Put Told (prompt (length moves)) ∷ [])
      (followed (record { events = asked; value = said; stream = stream; left = left }) (kept First place)))) next

  pub recorded_chosen : (asked : List Event) (n : ℕ) (stream : Stream) (left : List ℕ) → Silent asked → recorded (chosen asked (answer.Pick n) stream left).events ≡ record_line n ++ recorded (next (answer.Pick n) stream left).events
  recorded_chosen asked n stream left silent =
      let rest = (next (answer.Pick n) stream left).events in
      rw (recorded-append (asked ++ Recorded (record_line n) (placed_line n (place n)) ∷ []) rest, recorded-append asked (Recorded (record_line n) (placed_line n (place n)) ∷ []), silent.0) (ap (λ l. l ++ recorded rest) (append-nil (record_line n)))

  replayed_chosen : (asked : List Event) (n : ℕ) (stream : Stream) (left : List ℕ) → Silent asked
      → replayed (chosen asked (answer.Pick n) stream left).events ≡ (Put Told (list_from text 1 moves) ∷ Put Told (prompt (length moves)) ∷ (asks (record_line n) false ++ Recorded (record_line n) (placed_line n (place n)) ∷ [])) ++ replayed (next (answer.Pick n) stream left).events
  unfolding replay_of
  replayed_chosen asked n stream left silent =
      let rest = (next (answer.Pick n) stream left).events in
      rw (replayed-append (asked ++ Recorded (record_line n) (placed_line n (place n)) ∷ []) rest, replayed-append asked (Recorded (record_line n) (placed_line n (place n)) ∷ []), silent.1) (rw append-nil refl)

  -- it is asked again with its record and more
  pub picked_again : (n : ℕ) (more : List ℕ) → 0 < n → n ≤ length moves → IsShort (answer.Pick n) → (first : Stream) → IsPlain first → followed (choose First text place moves first (record_line n ++ more)) next
      ≡ preceded (Put Told (list_from text 1 moves) ∷ Put Told (prompt (length moves)) ∷ (asks (record_line n) false ++ Recorded (record_line n) (placed_line n (place n)) ∷ [])) (next (answer.Pick n) (Known First) more)
  picked_again n more some within short first plain = rw (record_asked (length moves) place n more some within short (BAD_LINES - 1) first plain) refl

  chosen_again : ((k : ℕ) → 0 < k → k ≤ length moves → RunsAgain (next (answer.Pick k))) → ((said : Answer) → ((k : ℕ) → said ≡ answer.Pick k → ⊥) → (stream : Stream) (left : List ℕ) → is_complete (next said stream left).value.cause ≡ false)
      → (asked : List Event) (said : Answer) (stream : Stream) (left more : List ℕ) → Silent asked → IsPickUpTo (length moves) said → IsShort said → is_complete (chosen asked said stream left).value.cause ≡ true
      → (first : Stream) → IsPlain first → GoesAgain (λ stream rest. followed (choose First text place moves stream rest) next) (chosen asked said stream left) more first
  chosen_again ih stops asked (answer.Pick n) stream left more silent range short complete first plain =
      let rest = next (answer.Pick n) stream left in
      let r = ih n range.0 range.1 stream left more complete (Known First) refl in
      (r.0, r.1, rw (recorded_chosen asked n stream left silent, replayed_chosen asked n stream left silent) (rw append_assoc (rw (picked_again n (recorded rest.events ++ more) range.0 range.1 short first plain) (rw r.2 refl))))
  chosen_again ih stops asked answer.Quit stream left more silent range short complete first plain = absurd (true≢false (sym complete ∙ stops answer.Quit (λ k e. cc) stream left))
  chosen_again ih stops asked answer.Ended stream left more silent range short complete first plain = absurd (true≢false (sym complete ∙ stops answer.Ended (λ k e. cc) stream left))
  chosen_again ih stops asked answer.TooLong stream left more silent range short complete first plain = absurd (true≢false (sym complete ∙ stops answer.TooLong (λ k e. cc) stream left))
  chosen_again ih stops asked answer.Hundred stream left more silent range short complete first plain = absurd (true≢false (sym complete ∙ stops answer.Hundred (λ k e. cc) stream left))
  chosen_again ih stops asked answer.Misfit stream left more silent range short complete first plain = absurd (true≢false (sym complete ∙ stops answer.Misfit (λ k e. cc) stream left))

module _ {S M : Type 0} (rules : Rules S M) (options : Options) where
  answered_stops : (s : S) (moves : List M) (first : M) (steps : ℕ) (later : S → Stream → List ℕ → Part End) (said : Answer) → ((k : ℕ) → said ≡ answer.Pick k → ⊥) → (stream : Stream) (left : List ℕ)
      → is_complete (answered rules options s moves first steps later said stream left).value.cause ≡ false
  unfolding answered
  answered_stops s moves first steps later (answer.Pick k) other stream left = absurd (other k refl)
  answered_stops s moves first steps later answer.Quit other stream left = refl
  answered_stops s moves first steps later answer.Ended other stream left = refl
  answered_stops s moves first steps later answer.TooLong other stream left = refl
  answered_stops s moves first steps later answer.Hundred other stream left = refl
  answered_stops s moves first steps later answer.Misfit other stream left = refl

  -- a move is selected and taken
  select_again : (s : S) (moves : List M) → 0 < length moves → (first : M) (steps : ℕ) (later : S → Stream → List ℕ → Part End) → StepsRunAgain rules options s moves later
      → RunsAgain (λ stream rest. followed (select_move First rules s moves stream rest) (answered rules options s moves first steps later))
  unfolding select_move
  select_again s [] some first steps later ih stream choices more complete = absurd (omega arith)
  select_again s (m ∷ []) some first steps later ih stream choices more complete = answered_again rules options s (m ∷ []) first steps later ih 1 (omega arith) (omega arith) stream choices more complete
  select_again s (m ∷ k ∷ ms) some first steps later ih stream choices more complete =
      let place = place_of_move rules s (m ∷ k ∷ ms) in
      let asked = ask_for_move (length (m ∷ k ∷ ms)) place (BAD_LINES - 1) stream choices in
      chosen_again (rules.text s) place (m ∷ k ∷ ms) (answered rules options s (m ∷ k ∷ ms) first steps later) (answered_again rules options s (m ∷ k ∷ ms) first steps later ih)
      (answered_stops s (m ∷ k ∷ ms) first steps later) asked.events asked.value asked.stream asked.left more (ask_silent (length (m ∷ k ∷ ms)) place (BAD_LINES - 1) stream choices) (ask_range (length (m ∷ k ∷ ms)) place (BAD_LINES - 1) stream choices)
      (ask_short (length (m ∷ k ∷ ms)) place (BAD_LINES - 1) stream choices) complete

  limit_again : (s : S) (steps : ℕ) (moves : List M) → rules.moves s ≡ moves → RunsAgain (story First rules options 0 s steps)
  unfolding replay_of
  limit_again s steps [] is = RunsAgain-same _ (finished (rules.is_valid s) (rules.stuck s) steps) (λ stream rest. story_none First rules options s steps stream 0 is rest) (λ stream choices more complete first plain. (first, plain, refl))
  limit_again s steps (m ∷ ms) is = RunsAgain-same _ (stopped cause.StepLimit steps) (λ stream rest. story_limit First rules options s steps stream m ms is rest) (λ stream choices more complete first plain. (first, plain, refl))

  move_again : (fuel : ℕ) (s : S) (steps : ℕ) → ((t : S) → RunsAgain (story First rules options fuel t (steps + 1))) → (moves : List M) → rules.moves s ≡ moves → RunsAgain (story First rules options (suc fuel) s steps)
  unfolding replay_of
  move_again fuel s steps later [] is = RunsAgain-same _ (finished (rules.is_valid s) (rules.stuck s) steps) (λ stream rest. story_none First rules options s steps stream (suc fuel) is rest) (λ stream choices more complete first plain. (first, plain, refl))
  move_again fuel s steps later (m ∷ ms) is = RunsAgain-same _ (λ stream rest. answer_part First rules options s steps stream fuel (m ∷ ms) m rest) (λ stream rest. story_some First rules options s steps stream fuel m ms is rest)
      (select_again s (m ∷ ms) (omega arith) m steps (λ t o q. story First rules options fuel t (steps + 1) o q) (λ n t printed there goes. later t))

  pub story_again : (fuel : ℕ) (s : S) (steps : ℕ) → RunsAgain (story First rules options fuel s steps)
  story_again zero s steps = limit_again s steps (rules.moves s) refl
  story_again (suc fuel) s steps = move_again fuel s steps (λ t. story_again fuel t (steps + 1)) (rules.moves s) refl

-- a complete run is the same when its record is its choices
pub same_run : (part : Stream → List ℕ → Part End) → RunsAgain part → (choices : List ℕ) → is_complete (part Unread choices).value.cause ≡ true → IsSameRun (part Unread choices) (part Unread (recorded (part Unread choices).events))
same_run part again choices complete =
    let run = part Unread choices in
    let goes = again Unread choices [] complete Unread tt in
    let is : part Unread (recorded run.events) ≡ again_of run goes.0 [] = sym (ap (part Unread) (append-nil (recorded run.events))) ∙ goes.2 in
    rw is (record { ends = refl; keeps = recorded_again run.events; reads = front_again run.events; writes = output_again run.events })
