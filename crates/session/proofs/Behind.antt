-- What lies behind the choices that a run reads changes nothing of it.
use Rattle.std.proofs.Common.{◌≡◌, ℕ, zero, suc, ◌+◌, ◌-◌, List, [], ◌∷◌, ◌++◌, length, Bool, true, false, eqb, ◌||◌, Option, Some, None, refl, ap}
use Rattle.std.specs.Prelude.{slice_index_or, if◌then◌else◌}
use Rattle.promela_session.specs.declared.ends.Options.{Options}
use Rattle.promela_session.specs.declared.ends.End.{End}
use Rattle.promela_session.specs.declared.ends.Cause.TheVariants as cause
use Rattle.promela_session.specs.declared.choice.Answer.{Answer}
use Rattle.promela_session.specs.declared.choice.Answer.TheVariants as answer
use Rattle.promela_session.specs.Events.{Event, Put, Told, Corrected, Stepped, asks, Part, preceded, followed, prompt, bad_line, list_from}
use Rattle.profile.specs.declared.TheConstants.{LINE_BYTES, BAD_LINES}
use Rattle.promela_session.specs.Lines.{Line, line_within, lengthened, read_of, saw_end}
use Rattle.promela_machine.specs.Machine.{Rules, Outcome, Goes, Faults}
use Rattle.promela_session.specs.Session.{one_line, next_line, one_reply, begins_second, stream_behind, ask_for_move, after_line, only_this, kept, question, choose, place_of_move, select_move, stopped, finished, stepped, answered, at_moves, story, step_text}
use Rattle.session.specs.Laws.{is_asked_end, meets_the_end, with_more_left, WhatIsBehindChangesNothing}
use Rattle.promela_session.specs.declared.form.Stream.{Stream}
use Rattle.promela_session.specs.declared.form.Stream.TheVariants.{Unread, Known, Over}
use Rattle.promela_session.specs.declared.form.Version.{Version}
use Rattle.promela_session.specs.declared.form.Version.TheVariants.{First, Second}

-- ---- the end is not met in what is part of events that do not meet it

or_first : (a b : Bool) → (a || b) ≡ false → a ≡ false
or_first true b h = h
or_first false b h = refl

or_second : (a b : Bool) → (a || b) ≡ false → b ≡ false
or_second true b h = cc
or_second false b h = h

first_meets_not : (xs ys : List Event) → meets_the_end (xs ++ ys) ≡ false → meets_the_end xs ≡ false
first_meets_not [] ys h = refl
first_meets_not (x ∷ xs) ys h = rw (or_first (is_asked_end x) (meets_the_end (xs ++ ys)) h, first_meets_not xs ys (or_second (is_asked_end x) (meets_the_end (xs ++ ys)) h)) refl

second_meets_not : (xs ys : List Event) → meets_the_end (xs ++ ys) ≡ false → meets_the_end ys ≡ false
second_meets_not [] ys h = h
second_meets_not (x ∷ xs) ys h = second_meets_not xs ys (or_second (is_asked_end x) (meets_the_end (xs ++ ys)) h)

asked_end : (bytes : List ℕ) (ended : Bool) → meets_the_end (asks bytes ended) ≡ false → ended ≡ false
asked_end [] true h = cc
asked_end [] false h = refl
asked_end (b ∷ bs) ended h = asked_end bs ended h

-- ---- parts that read no further with more behind

module _ (more : List ℕ) where
  -- where the part does not meet the end, it is the same with more behind
  abbrev Grows : {T : Type 0} → (Stream → List ℕ → Part T) → Type 0
  Grows part = (stream : Stream) (rest : List ℕ) → meets_the_end (part stream rest).events ≡ false → part stream (rest ++ more) ≡ with_more_left more (part stream rest)

  only_grows : {T : Type 0} (v : T) → Grows (only_this v)
  only_grows v stream rest h = refl

  preceded_grows : {T : Type 0} (events : List Event) (part : Stream → List ℕ → Part T) → Grows part → Grows (λ stream left. preceded events (part stream left))
  preceded_grows events part grows stream rest h = ap (λ p. preceded events p) (grows stream rest (second_meets_not events (part stream rest).events h))

  followed_grows : {T U : Type 0} (part : Stream → List ℕ → Part T) (next : T → Stream → List ℕ → Part U) → Grows part → ((v : T) → Grows (next v)) → Grows (λ stream rest. followed (part stream rest) next)
  followed_grows part next grows later stream rest h =
      let p = part stream rest in
      rw (grows stream rest (first_meets_not p.events (next p.value p.stream p.left).events h))
      (ap (λ q. preceded p.events q) (later p.value p.stream p.left (second_meets_not p.events (next p.value p.stream p.left).events h)))

  -- ---- a line, and a question

  line_grows : (room : ℕ) (rest : List ℕ) → saw_end (line_within room rest).ends ≡ false
      → line_within room (rest ++ more) ≡ record { ends = (line_within room rest).ends; bytes = (line_within room rest).bytes; left = (line_within room rest).left ++ more }
  unfolding line_within
  line_grows zero rest h = refl
  line_grows (suc room) [] h = cc
  line_grows (suc room) (b ∷ rest) h = by_feed (eqb b 10) refl (λ no. line_grows room rest no)
    where
      by_feed : (feed : Bool) → eqb b 10 ≡ feed → (saw_end (line_within room rest).ends ≡ false
          → line_within room (rest ++ more) ≡ record { ends = (line_within room rest).ends; bytes = (line_within room rest).bytes; left = (line_within room rest).left ++ more })
          → line_within (suc room) (b ∷ (rest ++ more)) ≡ record { ends = (line_within (suc room) (b ∷ rest)).ends; bytes = (line_within (suc room) (b ∷ rest)).bytes; left = (line_within (suc room) (b ∷ rest)).left ++ more }
      by_feed true is ih = rw is refl
      by_feed false is ih = rw is (ap (λ l. lengthened (b ∷ []) l) (ih (rw is at h)))

  one_line_grows : (version : Version) (most : ℕ) (place : ℕ → ℕ × ℕ) (rest : List ℕ) → meets_the_end (one_line version most place rest).events ≡ false
      → one_line version most place (rest ++ more) ≡ with_more_left more (one_line version most place rest)
  unfolding one_line
  one_line_grows version most place rest h =
      let line = line_within (LINE_BYTES + 1) rest in
      rw (line_grows (LINE_BYTES + 1) rest (asked_end (read_of line.ends line.bytes) (saw_end line.ends) h)) refl

  next_line_grows : (most : ℕ) (place : ℕ → ℕ × ℕ) → Grows (next_line most place)
  unfolding next_line
  next_line_grows most place Unread rest h = one_line_grows First most place rest h
  next_line_grows most place (Known version) rest h = one_line_grows version most place rest h
  next_line_grows most place Over rest h = refl

  -- where the first line is read
  abbrev first_reply : ℕ → (ℕ → ℕ × ℕ) → Line → List ℕ → Bool → Part (Option Answer)
  first_reply most place line rest header = if header then preceded (asks (read_of line.ends line.bytes) (saw_end line.ends)) (next_line most place (stream_behind Second line.ends) line.left) else next_line most place Unread rest

  first_grows : (most : ℕ) (place : ℕ → ℕ × ℕ) (rest : List ℕ) (header : Bool) → let line = line_within (LINE_BYTES + 1) rest in meets_the_end (first_reply most place line rest header).events ≡ false
      → (saw_end line.ends ≡ false) × (first_reply most place (record { ends = line.ends; bytes = line.bytes; left = line.left ++ more }) (rest ++ more) header ≡ with_more_left more (first_reply most place line rest header))
  unfolding next_line one_line
  first_grows most place rest true h =
      let line = line_within (LINE_BYTES + 1) rest in
      let behind = next_line most place (stream_behind Second line.ends) line.left in
      let es = asks (read_of line.ends line.bytes) (saw_end line.ends) in (
        asked_end (read_of line.ends line.bytes) (saw_end line.ends) (first_meets_not es behind.events h),
        ap (λ q. preceded es q) (next_line_grows most place (stream_behind Second line.ends) line.left (second_meets_not es behind.events h)),
      )
  first_grows most place rest false h =
      let line = line_within (LINE_BYTES + 1) rest in
      (asked_end (read_of line.ends line.bytes) (saw_end line.ends) h, one_line_grows First most place rest h)

  one_reply_grows : (most : ℕ) (place : ℕ → ℕ × ℕ) → Grows (one_reply most place)
  unfolding one_reply
  one_reply_grows most place Unread rest h =
      let line = line_within (LINE_BYTES + 1) rest in
      let g = first_grows most place rest (begins_second line.ends line.bytes) h in
      rw (line_grows (LINE_BYTES + 1) rest g.0) g.1
  one_reply_grows most place (Known version) rest h = next_line_grows most place (Known version) rest h
  one_reply_grows most place Over rest h = next_line_grows most place Over rest h

  after_line_grows : (next : Stream → List ℕ → Part Answer) → Grows next → (said : Option Answer) → Grows (after_line next said)
  after_line_grows next grows (Some said) stream rest h = refl
  after_line_grows next grows None stream rest h = preceded_grows (Put Corrected bad_line ∷ []) next grows stream rest h

  ask_grows : (most : ℕ) (place : ℕ → ℕ × ℕ) (tries : ℕ) → Grows (ask_for_move most place tries)
  unfolding ask_for_move
  ask_grows most place zero = followed_grows (one_reply most place) (after_line (only_this answer.Hundred)) (one_reply_grows most place) (after_line_grows (only_this answer.Hundred) (only_grows answer.Hundred))
  ask_grows most place (suc tries) =
      let again = λ (o : Stream) (left : List ℕ). preceded (Put Corrected (prompt most) ∷ []) (ask_for_move most place tries o left) in
      followed_grows (one_reply most place) (after_line again) (one_reply_grows most place) (after_line_grows again (preceded_grows (Put Corrected (prompt most) ∷ []) (ask_for_move most place tries) (ask_grows most place tries)))

  kept_grows : (notes : Version) (place : ℕ → ℕ × ℕ) (said : Answer) → Grows (kept notes place said)
  kept_grows notes place (answer.Pick n) stream rest h = refl
  kept_grows notes place answer.Quit stream rest h = refl
  kept_grows notes place answer.Ended stream rest h = refl
  kept_grows notes place answer.TooLong stream rest h = refl
  kept_grows notes place answer.Hundred stream rest h = refl
  kept_grows notes place answer.Misfit stream rest h = refl

  choose_grows : {M : Type 0} (notes : Version) (text : M → List ℕ) (place : ℕ → ℕ × ℕ) (moves : List M) → Grows (choose notes text place moves)
  choose_grows notes text place moves =
      let asked = λ (stream : Stream) (rest : List ℕ). followed (question (length moves) place stream rest) (kept notes place) in
      preceded_grows (Put Told (list_from text 1 moves) ∷ []) (λ stream rest. preceded (Put Told (prompt (length moves)) ∷ []) (asked stream rest))
      (preceded_grows (Put Told (prompt (length moves)) ∷ []) asked (followed_grows (question (length moves) place) (kept notes place) (ask_grows (length moves) place (BAD_LINES - 1)) (kept_grows notes place)))

  module _ {S M : Type 0} (notes : Version) (rules : Rules S M) (options : Options) where
    select_grows : (s : S) (moves : List M) → Grows (select_move notes rules s moves)
    unfolding select_move
    select_grows s [] = only_grows (answer.Pick 1)
    select_grows s (m ∷ []) = only_grows (answer.Pick 1)
    select_grows s (m ∷ n ∷ ms) = choose_grows notes (rules.text s) (place_of_move rules s (m ∷ n ∷ ms)) (m ∷ n ∷ ms)

    -- ---- the session

    stepped_grows : (s : S) (m : M) (steps : ℕ) (later : S → Stream → List ℕ → Part End) → ((t : S) → Grows (later t)) → (o : Outcome S)
        → Grows (λ stream left. stepped rules options s m steps (λ t. later t stream left) stream left o)
    unfolding stepped
    stepped_grows s m steps later grows (Goes t printed) stream rest h =
        preceded_grows (Stepped ∷ Put Told (step_text rules options s m (steps + 1) t printed) ∷ []) (later t) (grows t) stream rest h
    stepped_grows s m steps later grows (Faults f) stream rest h = refl

    answered_grows : (s : S) (moves : List M) (first : M) (steps : ℕ) (later : S → Stream → List ℕ → Part End) → ((t : S) → Grows (later t)) → (said : Answer)
        → Grows (answered rules options s moves first steps later said)
    unfolding answered
    answered_grows s moves first steps later grows (answer.Pick n) stream rest h =
        stepped_grows s (slice_index_or moves (n - 1) first) steps later grows (rules.step s (slice_index_or moves (n - 1) first)) stream rest h
    answered_grows s moves first steps later grows answer.Quit stream rest h = refl
    answered_grows s moves first steps later grows answer.Ended stream rest h = refl
    answered_grows s moves first steps later grows answer.TooLong stream rest h = refl
    answered_grows s moves first steps later grows answer.Hundred stream rest h = refl
    answered_grows s moves first steps later grows answer.Misfit stream rest h = refl

    finished_grows : (valid : Bool) (stuck : List ℕ) (steps : ℕ) → Grows (finished valid stuck steps)
    finished_grows true stuck steps stream rest h = refl
    finished_grows false stuck steps stream rest h = refl

    at_grows : (s : S) (steps : ℕ) (go : List M → M → Stream → List ℕ → Part End) → ((ms : List M) (m : M) → Grows (go ms m)) → (moves : List M)
        → Grows (λ stream rest. at_moves rules s steps stream rest (λ ms m. go ms m stream rest) moves)
    at_grows s steps go grows [] = finished_grows (rules.is_valid s) (rules.stuck s) steps
    at_grows s steps go grows (m ∷ ms) = grows (m ∷ ms) m

    story_grows : (fuel : ℕ) (s : S) (steps : ℕ) → Grows (story notes rules options fuel s steps)
    unfolding story
    story_grows zero s steps = at_grows s steps (λ ms m. stopped cause.StepLimit steps) (λ ms m stream rest h. refl) (rules.moves s)
    story_grows (suc fuel) s steps = at_grows s steps
        (λ ms m stream rest. followed (select_move notes rules s ms stream rest) (answered rules options s ms m steps (λ t o r. story notes rules options fuel t (steps + 1) o r)))
        (λ ms m. followed_grows (select_move notes rules s ms) (answered rules options s ms m steps (λ t o r. story notes rules options fuel t (steps + 1) o r)) (select_grows s ms)
        (answered_grows s ms m steps (λ t o r. story notes rules options fuel t (steps + 1) o r) (λ t. story_grows fuel t (steps + 1)))) (rules.moves s)

pub what_is_behind_changes_nothing : {S M : Type 0} (rules : Rules S M) → WhatIsBehindChangesNothing rules
what_is_behind_changes_nothing rules s options choices more h = story_grows more First rules options options.limit s 0 Unread choices h
