-- The turns of a session.
use Rattle.std.proofs.Common.{◌≡◌, ℕ, zero, suc, ◌+◌, ◌-◌, ◌<◌, List, [], ◌∷◌, length, get_or, Option, Some, None, Result, Ok, Err, IfOk, IfNone, refl, sym, subst, ◌∙◌, add-zero, arith}
use Rattle.devices.specs.Holdings.{Holdings, Moved}
use Rattle.diagnostics.specs.declared.fault.Fault.{Fault}
use Rattle.promela_session.specs.declared.ends.Options.{Options}
use Rattle.session.specs.declared.course.Course.{Course}
use Rattle.promela_session.specs.declared.ends.End.{End}
use Rattle.promela_session.specs.declared.ends.Cause.TheVariants as cause
use Rattle.promela_session.specs.declared.ends.Broken.{Broken}
use Rattle.promela_session.specs.declared.ends.Broken.TheVariants as broken
use Rattle.promela_session.specs.declared.choice.Answer.{Answer}
use Rattle.promela_session.specs.declared.choice.Answer.TheVariants as answer
use Rattle.promela_session.specs.Events.{Purpose, Put, Told, Stepped, Part, preceded, followed, noted, placed_line, fault_line}
use Rattle.promela_machine.specs.Machine.{Rules, Goes, Faults}
use Rattle.promela_session.specs.Session.{only_this, kept, choose, place_of_move, select_move, stopped, finished, end_of, stepped, step_text, answered, story}
use Rattle.session.specs.Answers.{cause_of}
use Rattle.promela_session.specs.Devices.{Does, Breaks}
use Rattle.session.specs.Writes.{Leads, PlaysQuestion, WriteBreaks, RecordBreaks, kept_text, StepBreaks, Continues, Acts, Turns, acted, story_after}
use Rattle.session.proofs.Moving.{Moved-piece}
use Rattle.session.proofs.Parts.{IsReadable, Leads-nil, Leads-same, Leads-trans, Leads-does, Leads-breaks, puts, put_breaks, records, record_breaks, memory_breaks, only_moves, only_does}
use Rattle.promela_session.specs.declared.form.Stream.{Stream}
use Rattle.promela_session.specs.declared.form.Version.{Version}

-- ---- pieces and records

module _ {a b : Holdings} {n : ℕ} where
  pub write_breaks : {T : Type 0} (e : Broken) {purpose : Purpose} (piece : List ℕ) (rest : List ℕ → Part T) → WriteBreaks e a b piece → Breaks a b n n e (λ left. preceded (Put purpose piece ∷ []) (rest left))
  write_breaks broken.Memory piece rest w = memory_breaks _ w
  write_breaks broken.Out piece rest w = put_breaks piece rest w
  write_breaks broken.Source piece rest w = absurd w
  write_breaks broken.Record piece rest w = absurd w

  pub keep_does : (notes : Version) (place : ℕ → ℕ × ℕ) (said : Answer) (stream : Stream) → IsReadable (kept_text notes place said) → Moved a b [] [] (kept_text notes place said) → Does a b n n (kept notes place said stream) said stream
  keep_does notes place (answer.Pick k) stream short m = Leads-does (records (noted notes k (place k)) (placed_line k (place k)) (only_this (answer.Pick k) stream) short m) (only_does (answer.Pick k) stream)
  keep_does notes place answer.Quit stream short m = only_moves answer.Quit stream m
  keep_does notes place answer.Ended stream short m = only_moves answer.Ended stream m
  keep_does notes place answer.TooLong stream short m = only_moves answer.TooLong stream m
  keep_does notes place answer.Hundred stream short m = only_moves answer.Hundred stream m
  keep_does notes place answer.Misfit stream short m = only_moves answer.Misfit stream m

  pub keep_breaks : (notes : Version) (place : ℕ → ℕ × ℕ) (e : Broken) (said : Answer) (stream : Stream) → IsReadable (kept_text notes place said) → RecordBreaks e a b (kept_text notes place said) → Breaks a b n n e (kept notes place said stream)
  keep_breaks notes place broken.Memory said stream short k = memory_breaks _ k
  keep_breaks notes place broken.Record (answer.Pick m) stream short k = record_breaks (noted notes m (place m)) (placed_line m (place m)) (only_this (answer.Pick m) stream) short k
  keep_breaks notes place broken.Record answer.Quit stream short k = let lt = k.1 in absurd (omega arith)
  keep_breaks notes place broken.Record answer.Ended stream short k = let lt = k.1 in absurd (omega arith)
  keep_breaks notes place broken.Record answer.TooLong stream short k = let lt = k.1 in absurd (omega arith)
  keep_breaks notes place broken.Record answer.Hundred stream short k = let lt = k.1 in absurd (omega arith)
  keep_breaks notes place broken.Record answer.Misfit stream short k = let lt = k.1 in absurd (omega arith)
  keep_breaks notes place broken.Source said stream short k = absurd k
  keep_breaks notes place broken.Out said stream short k = absurd k

-- ---- selecting a move

module _ {S M : Type 0} (notes : Version) (rules : Rules S M) (at : S) where
  pub select_one : {a : Holdings} {n : ℕ} (moves : List M) (stream : Stream) → length moves ≡ 1 → Does a a n n (select_move notes rules at moves stream) (answer.Pick 1) stream
  unfolding select_move
  select_one [] stream one = only_does (answer.Pick 1) stream
  select_one (m ∷ []) stream one = only_does (answer.Pick 1) stream
  select_one (m ∷ k ∷ ms) stream one = absurd (omega arith)

  pub select_many : (a b : Holdings) (moves : List M) (stream stream' : Stream) (r : Result Answer Broken) → 0 < length moves → (length moves ≡ 1 → ⊥)
      → PlaysQuestion r a b (choose notes (rules.text at) (place_of_move rules at moves) moves stream) stream' → PlaysQuestion r a b (select_move notes rules at moves stream) stream'
  unfolding select_move
  select_many a b [] stream stream' r some many asked = absurd (omega arith)
  select_many a b (m ∷ []) stream stream' r some many asked = absurd (many refl)
  select_many a b (m ∷ k ∷ ms) stream stream' r some many asked = asked

-- ---- steps

module _ {S M : Type 0} (rules : Rules S M) (options : Options) (at : S) (m : M) (steps : ℕ) where
  -- what a step is a part of
  abbrev pub step_part : (S → Stream → List ℕ → Part End) → Stream → List ℕ → Part End
  step_part later stream left = stepped rules options at m steps (λ t. later t stream left) stream left (rules.step at m)

module _ {S M : Type 0} (rules : Rules S M) (options : Options) (at : S) (m : M) (steps : ℕ) {a b : Holdings} where
  pub step_leads : (later : S → Stream → List ℕ → Part End) (stream : Stream) (t : S) (printed : List ℕ) (steps' : ℕ) → rules.step at m ≡ Goes t printed
      → Moved a b [] (step_text rules options at m (steps + 1) t printed) [] → steps' ≡ steps + 1 → Leads a b steps steps' (step_part rules options at m steps later stream) (later t stream)
  unfolding stepped
  step_leads later stream t printed steps' goes took next = record {
    done = Stepped ∷ Put Told (step_text rules options at m (steps + 1) t printed) ∷ [];
    moved = record { moved = Moved-piece (step_text rules options at m (steps + 1) t printed) took; count = next; readable = refl };
    is = λ left now. rw goes refl;
  }

  pub fault_does : (later : S → Stream → List ℕ → Part End) (stream : Stream) (f : Fault) (steps' : ℕ) (end : End) → end ≡ end_of (cause.Fault f) steps' → rules.step at m ≡ Faults f
      → Moved a b [] (fault_line f (steps + 1) (rules.text at m)) [] → steps' ≡ steps → Does a b steps steps' (step_part rules options at m steps later stream) end stream
  unfolding stepped
  fault_does later stream f steps' end is faults took same = record {
    done = Put Told (fault_line f (steps + 1) (rules.text at m)) ∷ [];
    moved = record { moved = Moved-piece (fault_line f (steps + 1) (rules.text at m)) took; count = same ∙ sym (add-zero steps); readable = refl };
    is = λ left now. rw (faults, is, same) refl;
  }

  pub step_breaks : (e : Broken) (later : S → Stream → List ℕ → Part End) (stream : Stream) (steps' : ℕ) → StepBreaks e rules options at m steps steps' a b
      → Breaks a b steps steps' e (step_part rules options at m steps later stream)
  step_breaks e later stream steps' s = record {
    done = s.done;
    moved = s.moved;
    begins = λ left now. rw s.no_byte (s.begins (λ t. later t stream left) stream left);
  }

-- ---- answers

module _ {S M : Type 0} (rules : Rules S M) (options : Options) (at : S) (moves : List M) (first : M) (steps : ℕ) (later : S → Stream → List ℕ → Part End) {a b : Holdings} {n n' : ℕ} {whole : List ℕ → Part End} where
  -- the picked move is taken
  pub to_step : (k : ℕ) (m : M) (stream : Stream) → m ≡ get_or moves (k - 1) first → Leads a b n n' whole (answered rules options at moves first steps later (answer.Pick k) stream)
      → Leads a b n n' whole (step_part rules options at m steps later stream)
  unfolding answered
  to_step k m stream is l = rw is l

  pub to_stop : (said : Answer) (stream : Stream) → ((k : ℕ) → said ≡ answer.Pick k → ⊥) → Leads a b n n' whole (answered rules options at moves first steps later said stream)
      → Leads a b n n' whole (stopped (cause_of said) steps stream)
  unfolding answered
  to_stop (answer.Pick k) stream other l = absurd (other k refl)
  to_stop answer.Quit stream other l = l
  to_stop answer.Ended stream other l = l
  to_stop answer.TooLong stream other l = l
  to_stop answer.Hundred stream other l = l
  to_stop answer.Misfit stream other l = l

-- ---- the whole

module _ {S M : Type 0} (notes : Version) (rules : Rules S M) (options : Options) (at : S) (steps : ℕ) (stream : Stream) where
  pub story_none : (fuel : ℕ) → rules.moves at ≡ [] → (rest : List ℕ) → story notes rules options fuel at steps stream rest ≡ finished (rules.is_valid at) (rules.stuck at) steps stream rest
  unfolding story
  story_none zero none rest = rw none refl
  story_none (suc fuel) none rest = rw none refl

  pub story_limit : (m : M) (ms : List M) → rules.moves at ≡ m ∷ ms → (rest : List ℕ) → story notes rules options 0 at steps stream rest ≡ stopped cause.StepLimit steps stream rest
  unfolding story
  story_limit m ms some rest = rw some refl

  -- what a move and its answer lead to
  abbrev pub answer_part : ℕ → List M → M → List ℕ → Part End
  answer_part fuel moves m rest = followed (select_move notes rules at moves stream rest) (answered rules options at moves m steps (λ t o q. story notes rules options fuel t (steps + 1) o q))

  pub story_some : (fuel : ℕ) (m : M) (ms : List M) → rules.moves at ≡ m ∷ ms → (rest : List ℕ) → story notes rules options (suc fuel) at steps stream rest ≡ answer_part fuel (m ∷ ms) m rest
  unfolding story
  story_some fuel m ms some rest = rw some refl

module _ {S M : Type 0} (notes : Version) (rules : Rules S M) (options : Options) (at : S) (steps : ℕ) (stream : Stream) {a : Holdings} {n : ℕ} where
  -- there is no move
  pub to_finish : (fuel : ℕ) (moves : List M) → moves ≡ rules.moves at → length moves ≡ 0
      → Leads a a n n (story notes rules options fuel at steps stream) (finished (rules.is_valid at) (rules.stuck at) steps stream)
  to_finish fuel [] is none = Leads-same (story_none notes rules options at steps stream fuel (sym is)) (Leads-nil (story notes rules options fuel at steps stream))
  to_finish fuel (m ∷ ms) is none = cc

  -- the limit is reached
  pub to_limit : (fuel : ℕ) (moves : List M) → moves ≡ rules.moves at → (length moves ≡ 0 → ⊥) → fuel ≡ 0 → Leads a a n n (story notes rules options fuel at steps stream) (stopped cause.StepLimit steps stream)
  to_limit fuel [] is some out = absurd (some refl)
  to_limit zero (m ∷ ms) is some out = Leads-same (story_limit notes rules options at steps stream m ms (sym is)) (Leads-nil (story notes rules options 0 at steps stream))
  to_limit (suc fuel) (m ∷ ms) is some out = cc

  -- a move is selected, some first move at hand
  pub to_answer : (fuel : ℕ) (moves : List M) → moves ≡ rules.moves at → (length moves ≡ 0 → ⊥)
      → (first : M) × Leads a a n n (story notes rules options (suc fuel) at steps stream) (answer_part notes rules options at steps stream fuel moves first)
  to_answer fuel [] is some = absurd (some refl)
  to_answer fuel (m ∷ ms) is some = (m, Leads-same (story_some notes rules options at steps stream fuel m ms (sym is)) (Leads-nil (story notes rules options (suc fuel) at steps stream)))

-- the last piece was written
pub last_does : {a b : Holdings} {n : ℕ} (piece : List ℕ) (end end' : End) (stream : Stream) → end ≡ end' → Moved a b [] piece []
    → Does a b n n (λ left. preceded (Put Told piece ∷ []) (only_this end' stream left)) end stream
last_does piece end end' stream is took = rw is (Leads-does (puts piece (only_this end' stream) took) (only_does end' stream))

-- a turn in which a move was selected
module _ {S M : Type 0} (notes : Version) (rules : Rules S M) (options : Options) (at t : S) (steps steps' : ℕ) (course course' : Course) (moves : List M) (a b : Holdings) (is : moves ≡ rules.moves at) (some : length moves ≡ 0 → ⊥) (lt : steps < options.limit) where
  -- a story with a step to go is what a move and its answer lead to
  to_act : (first : M) × Leads a a steps steps (story_after notes rules options at steps course.stream) (acted notes rules options at first steps (λ q w left. story notes rules options (options.limit - (steps + 1)) q (steps + 1) w left) course.stream)
  to_act =
      let more : options.limit - steps ≡ suc (options.limit - (steps + 1)) = omega arith in
      rw more (to_answer notes rules options at steps course.stream (options.limit - (steps + 1)) (rules.moves at) refl (subst (λ (l : List M). length l ≡ 0 → ⊥) is some))

  by_first : (first : M) → Leads a a steps steps (story_after notes rules options at steps course.stream) (acted notes rules options at first steps (λ q w left. story notes rules options (options.limit - (steps + 1)) q (steps + 1) w left) course.stream)
      → (r : Result (Option End) Broken) → Acts r (record { notes = notes; options = options }) rules at t a b steps steps' course course' → IfOk r (λ end. IfNone end (steps' ≡ steps + 1)) → Turns r (record { notes = notes; options = options }) rules at t a b steps steps' course course'
  by_first first leads (Ok None) acts next = rw next (Leads-trans leads (rw next at acts (λ q w left. story notes rules options (options.limit - (steps + 1)) q (steps + 1) w left) first))
  by_first first leads (Ok (Some end)) acts next = Leads-does leads (acts (λ q w left. story notes rules options (options.limit - (steps + 1)) q (steps + 1) w left) first)
  by_first first leads (Err e) acts next = Leads-breaks leads (acts (λ q w left. story notes rules options (options.limit - (steps + 1)) q (steps + 1) w left) first)

  pub act_turn : (r : Result (Option End) Broken) → Acts r (record { notes = notes; options = options }) rules at t a b steps steps' course course' → IfOk r (λ end. IfNone end (steps' ≡ steps + 1))
      → Turns r (record { notes = notes; options = options }) rules at t a b steps steps' course course'
  act_turn r acts next = by_first to_act.0 to_act.1 r acts next

-- what follows an answer, where these are the moves
module _ {S M : Type 0} (notes : Version) (rules : Rules S M) (options : Options) (at t : S) (steps steps' : ℕ) (stream stream' : Stream) (moves : List M) (a b : Holdings) (r : Result (Option End) Broken) where
  pub acts_of : moves ≡ rules.moves at
      → ((later : S → Stream → List ℕ → Part End) (first : M)
      → Continues r a b steps steps' (λ rest. followed (select_move notes rules at moves stream rest) (answered rules options at moves first steps later)) (later t stream') stream')
      → (later : S → Stream → List ℕ → Part End) (first : M) → Continues r a b steps steps' (acted notes rules options at first steps later stream) (later t stream') stream'
  acts_of is acts = subst (λ (ms : List M). (later : S → Stream → List ℕ → Part End) (first : M)
      → Continues r a b steps steps' (λ rest. followed (select_move notes rules at ms stream rest) (answered rules options at ms first steps later)) (later t stream') stream') is acts
