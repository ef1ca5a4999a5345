-- A session of a machine in whose states each line of a choice with its place can be read: each such line of it can be.
use Rattle.std.proofs.Common.{◌≡◌, ℕ, zero, suc, ◌+◌, ◌-◌, ◌<◌, ◌≤◌, List, [], ◌∷◌, ◌++◌, length, get_or, if◌then◌else◌, Bool, true, false, Option, Some, None, refl}
use Rattle.std.proofs.lemmas.Bool.{le-leb}
use Rattle.std.proofs.lemmas.List.Folds.{list_all-append}
use Rattle.std.specs.List.{list_all}
use Rattle.promela_session.specs.declared.ends.Options.{Options}
use Rattle.promela_session.specs.declared.ends.End.{End}
use Rattle.promela_session.specs.declared.ends.Cause.TheVariants as cause
use Rattle.promela_session.specs.declared.choice.Answer.{Answer}
use Rattle.promela_session.specs.declared.choice.Answer.TheVariants as answer
use Rattle.promela_session.specs.declared.form.Stream.{Stream}
use Rattle.promela_session.specs.declared.form.Stream.TheVariants.{Unread, Known, Over}
use Rattle.promela_session.specs.declared.form.Version.{Version}
use Rattle.promela_session.specs.declared.form.Version.TheVariants.{First, Second}
use Rattle.session.specs.Converting.{fits_line}
use Rattle.promela_session.specs.Events.{Event, asks, Part, preceded, placed_line}
use Rattle.profile.specs.declared.TheConstants.{LINE_BYTES, BAD_LINES}
use Rattle.promela_session.specs.Lines.{Line, line_within, read_of, saw_end}
use Rattle.session.specs.Answers.{IsPickUpTo}
use Rattle.promela_machine.specs.Machine.{Rules, Outcome, Goes, Faults}
use Rattle.promela_session.specs.Session.{one_line, next_line, one_reply, begins_second, stream_behind, only_this, after_line, ask_for_move, kept, place_of_move, select_move, stopped, finished, stepped, answered, story, transcript}
use Rattle.session.proofs.Replay.{ask_range}
use Rattle.session.proofs.Turns.{story_none, story_limit, story_some, answer_part}

abbrev pub AreFit : List Event → Type 0
AreFit events = list_all fits_line events ≡ true

fit_both : (xs ys : List Event) → AreFit xs → AreFit ys → AreFit (xs ++ ys)
fit_both xs ys h k = rw (list_all-append fits_line xs ys, h, k) refl

-- ---- what is asked for an answer

asks_fit : (bytes : List ℕ) (ended : Bool) → AreFit (asks bytes ended)
asks_fit [] true = refl
asks_fit [] false = refl
asks_fit (b ∷ bs) ended = asks_fit bs ended

line_fit : (version : Version) (most : ℕ) (place : ℕ → ℕ × ℕ) (rest : List ℕ) → AreFit (one_line version most place rest).events
unfolding one_line
line_fit version most place rest = let line = line_within (LINE_BYTES + 1) rest in asks_fit (read_of line.ends line.bytes) (saw_end line.ends)

next_fit : (most : ℕ) (place : ℕ → ℕ × ℕ) (stream : Stream) (rest : List ℕ) → AreFit (next_line most place stream rest).events
unfolding next_line
next_fit most place Unread rest = line_fit First most place rest
next_fit most place (Known version) rest = line_fit version most place rest
next_fit most place Over rest = refl

one_fit : (most : ℕ) (place : ℕ → ℕ × ℕ) (stream : Stream) (rest : List ℕ) → AreFit (one_reply most place stream rest).events
unfolding one_reply
one_fit most place Unread rest = let line = line_within (LINE_BYTES + 1) rest in by line (begins_second line.ends line.bytes)
  where
    by : (line : Line) (t : Bool)
        → AreFit (if t then preceded (asks (read_of line.ends line.bytes) (saw_end line.ends)) (next_line most place (stream_behind Second line.ends) line.left) else next_line most place Unread rest).events
    by line true = fit_both (asks (read_of line.ends line.bytes) (saw_end line.ends)) _ (asks_fit (read_of line.ends line.bytes) (saw_end line.ends)) (next_fit most place (stream_behind Second line.ends) line.left)
    by line false = next_fit most place Unread rest
one_fit most place (Known version) rest = next_fit most place (Known version) rest
one_fit most place Over rest = next_fit most place Over rest

after_fit : (more : Stream → List ℕ → Part Answer) → ((stream : Stream) (left : List ℕ) → AreFit (more stream left).events) → (said : Option Answer) (stream : Stream) (left : List ℕ) → AreFit (after_line more said stream left).events
after_fit more fit (Some said) stream left = refl
after_fit more fit None stream left = fit stream left

ask_fit : (most : ℕ) (place : ℕ → ℕ × ℕ) (tries : ℕ) (stream : Stream) (rest : List ℕ) → AreFit (ask_for_move most place tries stream rest).events
unfolding ask_for_move
ask_fit most place zero stream rest = let one = one_reply most place stream rest in fit_both one.events _ (one_fit most place stream rest) (after_fit (only_this answer.Hundred) (λ o l. refl) one.value one.stream one.left)
ask_fit most place (suc tries) stream rest = let one = one_reply most place stream rest in fit_both one.events _ (one_fit most place stream rest) (after_fit _ (λ o l. ask_fit most place tries o l) one.value one.stream one.left)

-- ---- a session

-- whatever number up to the most is accepted
abbrev AreShort : ℕ → (ℕ → ℕ × ℕ) → Type 0
AreShort most place = (n : ℕ) → 0 < n → n ≤ most → length (placed_line n (place n)) ≤ LINE_BYTES + 1

kept_fit : (most : ℕ) (place : ℕ → ℕ × ℕ) → AreShort most place → (said : Answer) (stream : Stream) (left : List ℕ) → IsPickUpTo most said → AreFit (kept First place said stream left).events
kept_fit most place short (answer.Pick n) stream left h = rw (le-leb (length (placed_line n (place n))) (LINE_BYTES + 1) (short n h.0 h.1)) refl
kept_fit most place short answer.Quit stream left h = refl
kept_fit most place short answer.Ended stream left h = refl
kept_fit most place short answer.TooLong stream left h = refl
kept_fit most place short answer.Hundred stream left h = refl
kept_fit most place short answer.Misfit stream left h = refl

module _ {S M : Type 0} (rules : Rules S M) (options : Options) (Is : S → Type 0) (goes : (s t : S) (m : M) (printed : List ℕ) → Is s → rules.step s m ≡ Goes t printed → Is t)
    (short : (s : S) (moves : List M) → Is s → rules.moves s ≡ moves → AreShort (length moves) (place_of_move rules s moves)) where
  abbrev IsFit : (Stream → List ℕ → Part End) → Type 0
  IsFit part = (stream : Stream) (rest : List ℕ) → AreFit (part stream rest).events

  same_fit : (part same : Part End) → part ≡ same → AreFit same.events → AreFit part.events
  same_fit part same e h = rw e h

  stepped_fit : (s : S) (m : M) (steps : ℕ) (later : S → Part End) → ((t : S) → Is t → AreFit (later t).events) → (stream : Stream) (left : List ℕ) (o : Outcome S) → rules.step s m ≡ o → Is s
      → AreFit (stepped rules options s m steps later stream left o).events
  unfolding stepped
  stepped_fit s m steps later ih stream left (Goes t printed) e is = ih t (goes s t m printed is e)
  stepped_fit s m steps later ih stream left (Faults f) e is = refl

  answered_fit : (s : S) (moves : List M) (start : M) (steps : ℕ) (later : S → Stream → List ℕ → Part End) → ((t : S) → Is t → IsFit (later t)) → Is s → (said : Answer) → IsFit (answered rules options s moves start steps later said)
  unfolding answered
  answered_fit s moves start steps later ih is (answer.Pick n) stream left =
      let taken = get_or moves (n - 1) start in
      stepped_fit s taken steps (λ t. later t stream left) (λ t h. ih t h stream left) stream left (rules.step s taken) refl is
  answered_fit s moves start steps later ih is answer.Quit stream left = refl
  answered_fit s moves start steps later ih is answer.Ended stream left = refl
  answered_fit s moves start steps later ih is answer.TooLong stream left = refl
  answered_fit s moves start steps later ih is answer.Hundred stream left = refl
  answered_fit s moves start steps later ih is answer.Misfit stream left = refl

  select_fit : (s : S) (moves : List M) → AreShort (length moves) (place_of_move rules s moves) → (stream : Stream) (rest : List ℕ) → AreFit (select_move First rules s moves stream rest).events
  unfolding select_move
  select_fit s [] h stream rest = refl
  select_fit s (m ∷ []) h stream rest = refl
  select_fit s (m ∷ k ∷ ms) h stream rest =
      let most = length (m ∷ k ∷ ms) in
      let place = place_of_move rules s (m ∷ k ∷ ms) in
      let asked = ask_for_move most place (BAD_LINES - 1) stream rest in
      fit_both asked.events (kept First place asked.value asked.stream asked.left).events (ask_fit most place (BAD_LINES - 1) stream rest)
      (kept_fit most place h asked.value asked.stream asked.left (ask_range most place (BAD_LINES - 1) stream rest))

  none_fit : (fuel : ℕ) (s : S) (steps : ℕ) → rules.moves s ≡ [] → IsFit (story First rules options fuel s steps)
  none_fit fuel s steps is stream rest = same_fit _ (finished (rules.is_valid s) (rules.stuck s) steps stream rest) (story_none First rules options s steps stream fuel is rest) refl

  story_fit : (fuel : ℕ) (s : S) (steps : ℕ) → Is s → IsFit (story First rules options fuel s steps)
  story_fit zero s steps is = by (rules.moves s) refl
    where
      by : (moves : List M) → rules.moves s ≡ moves → IsFit (story First rules options zero s steps)
      by [] e stream rest = none_fit zero s steps e stream rest
      by (m ∷ ms) e stream rest = same_fit _ (stopped cause.StepLimit steps stream rest) (story_limit First rules options s steps stream m ms e rest) refl
  story_fit (suc fuel) s steps is = by (λ t h. story_fit fuel t (steps + 1) h) (rules.moves s) refl
    where
      by : ((t : S) → Is t → IsFit (story First rules options fuel t (steps + 1))) → (moves : List M) → rules.moves s ≡ moves → IsFit (story First rules options (suc fuel) s steps)
      by ih [] e stream rest = none_fit (suc fuel) s steps e stream rest
      by ih (m ∷ ms) e stream rest =
          let moves = m ∷ ms in
          let chosen = select_move First rules s moves stream rest in
          same_fit _ (answer_part First rules options s steps stream fuel moves m rest) (story_some First rules options s steps stream fuel m ms e rest)
          (fit_both chosen.events (answered rules options s moves m steps (λ t o q. story First rules options fuel t (steps + 1) o q) chosen.value chosen.stream chosen.left).events (select_fit s moves (short s moves is e) stream rest)
          (answered_fit s moves m steps (λ t o q. story First rules options fuel t (steps + 1) o q) ih is chosen.value chosen.stream chosen.left))

  pub session_fits : (s : S) → Is s → (choices : List ℕ) → AreFit (transcript rules options s choices).events
  session_fits s is choices = story_fit options.limit s 0 is Unread choices
