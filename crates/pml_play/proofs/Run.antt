-- Each session runs through a path, and its record gives it.
use Rattle.std.proofs.Common.{◌≡◌, ℕ, zero, suc, ◌+◌, ◌-◌, ◌<◌, ◌≤◌, List, [], ◌∷◌, ◌++◌, length, get_or, slice_get, Bool, true, false, ◌&&◌, eqb, if◌then◌else◌, Some, refl, sym, ap, subst, ◌∙◌, arith, append-nil, append_assoc}
use Rattle.std.proofs.lemmas.Bool.Decides.{nat_tests}
use Rattle.std.proofs.lemmas.Bool.{true≢false}
use Rattle.std.proofs.lemmas.Grind.{flat_map-append}
use Rattle.std.proofs.lemmas.Option.{slice_get-get_or}
use Rattle.std.specs.List.{list_all, flat_map, Contains}
use Rattle.promela_session.specs.declared.ends.Options.{Options}
use Rattle.promela_session.specs.declared.ends.End.{End}
use Rattle.promela_session.specs.declared.ends.Cause.{Cause}
use Rattle.promela_session.specs.declared.choice.Answer.{Answer}
use Rattle.promela_session.specs.declared.choice.Answer.TheVariants as answer
use Rattle.promela_session.specs.declared.form.Stream.{Stream}
use Rattle.promela_session.specs.declared.form.Stream.TheVariants.{Unread}
use Rattle.promela_session.specs.declared.form.Version.TheVariants.{First}
use Rattle.promela_session.specs.Events.{Event, recorded, Part, record_line, all_digits}
use Rattle.profile.specs.declared.TheConstants.{BAD_LINES}
use Rattle.profile.specs.Characters.{is_digit}
use Rattle.promela_session.specs.Lines.{number_of}
use Rattle.session.specs.Answers.{IsPickUpTo}
use Rattle.promela_machine.specs.Machine.{Rules, Outcome, Goes, Faults}
use Rattle.promela_session.specs.Session.{ask_for_move, place_of_move, select_move, finished, stepped, answered, story, transcript}
use Rattle.session.specs.Ending.{final_cause}
use Rattle.session.proofs.Parts.{recorded-append}
use Rattle.session.proofs.Replay.{Silent, ask_silent, ask_range, picked_is_there, chosen, recorded_chosen}
use Rattle.session.proofs.Turns.{story_none, story_limit, story_some, answer_part}
use Rattle.session.proofs.Written.{all_are_digits, number_is}
use Rattle.promela_run.specs.World.{Running, rules}
use Rattle.pml_play.specs.Transcript.{IsModel, IsTranscript}
use Rattle.pml_play.specs.Run.{Leg, IsChosen, IsStep, IsPath, last_state, IsLast, no_move, at_limit, at_fault, at_question, HasRun, RecordGivesRun}
use Rattle.pml_play.proofs.Outcomes.{when_modelled}

-- ---- the record's lines give its numbers

-- bytes up to the first line feed, and those behind it
abbrev cut : List ℕ → List ℕ × List ℕ
cut [] = ([], [])
cut (b ∷ bs) = if eqb b 10 then ([], bs) else (b ∷ (cut bs).0, (cut bs).1)

both : (a b : Bool) → (a && b) ≡ true → (a ≡ true) × (b ≡ true)
both true b holds = (refl, holds)
both false b holds = absurd (true≢false (sym holds))

no_feed : (b : ℕ) → is_digit b ≡ true → eqb b 10 ≡ false
no_feed b digit = grind (arith, nat_tests)

cut_digits : (word more : List ℕ) → list_all is_digit word ≡ true → cut (word ++ 10 ∷ more) ≡ (word, more)
cut_digits [] more digits = refl
cut_digits (b ∷ bs) more digits =
    let d = both (is_digit b) (list_all is_digit bs) digits in
    rw (no_feed b d.0) (rw (cut_digits bs more d.1) refl)

cut_line : (n : ℕ) (more : List ℕ) → cut (record_line n ++ more) ≡ (all_digits n, more)
cut_line n more = ap cut (append_assoc (all_digits n) (10 ∷ []) more) ∙ cut_digits (all_digits n) more (all_are_digits n)

some_line : (word more : List ℕ) → ((word ++ 10 ∷ []) ++ more) ≡ [] → ⊥
some_line [] more none = cc
some_line (b ∷ bs) more none = cc

same_numbers : (xs ys : List ℕ) → flat_map record_line xs ≡ flat_map record_line ys → xs ≡ ys
same_numbers [] [] same = refl
same_numbers [] (y ∷ ys) same = absurd (some_line (all_digits y) (flat_map record_line ys) (sym same))
same_numbers (x ∷ xs) [] same = absurd (some_line (all_digits x) (flat_map record_line xs) same)
same_numbers (x ∷ xs) (y ∷ ys) same =
    let cuts = sym (cut_line x (flat_map record_line xs)) ∙ ap cut same ∙ cut_line y (flat_map record_line ys) in
    let first : x ≡ y = sym (number_is x) ∙ ap (λ (p : List ℕ × List ℕ). number_of p.0) cuts ∙ number_is y in
    let rest : xs ≡ ys = same_numbers xs ys (ap (λ (p : List ℕ × List ℕ). p.1) cuts) in
    ap (λ (n : ℕ). n ∷ xs) first ∙ ap (λ (l : List ℕ). y ∷ l) rest

-- ---- numbers and as many steps give the path

cons_head : {X : Type 0} (x y : X) (xs ys : List X) → x ∷ xs ≡ y ∷ ys → x ≡ y
cons_head x y xs ys same = cc

cons_tail : {X : Type 0} (x y : X) (xs ys : List X) → x ∷ xs ≡ y ∷ ys → xs ≡ ys
cons_tail x y xs ys same = cc

some_same : {X : Type 0} (x y : X) → Some x ≡ Some y → x ≡ y
some_same x y same = cc

goes_same : {S : Type 0} (s t : S) (p q : List ℕ) → Goes s p ≡ Goes t q → s ≡ t
goes_same s t p q same = cc

same_choice : {M : Type 0} (moves : List M) (ns ms : List ℕ) (a b : M) (us vs : List ℕ) → IsChosen moves ns a → IsChosen moves ms b → ns ++ us ≡ ms ++ vs → (a ≡ b) × (us ≡ vs)
same_choice [] ns ms a b us vs here there same = absurd here
same_choice (m ∷ []) ns ms a b us vs here there same = (here.1 ∙ sym there.1, sym (ap (λ (l : List ℕ). l ++ us) here.0) ∙ same ∙ ap (λ (l : List ℕ). l ++ vs) there.0)
same_choice (m ∷ k ∷ more) ns ms a b us vs here there same =
    let all : (here.0 + 1) ∷ us ≡ (there.0 + 1) ∷ vs = sym (ap (λ (l : List ℕ). l ++ us) here.1) ∙ same ∙ ap (λ (l : List ℕ). l ++ vs) there.1 in
    let head = cons_head (here.0 + 1) (there.0 + 1) us vs all in
    let number : here.0 ≡ there.0 = omega (arith, head) in
    (some_same a b (sym here.2 ∙ ap (slice_get (m ∷ k ∷ more)) number ∙ there.2), cons_tail (here.0 + 1) (there.0 + 1) us vs all)

leg_same : {S M : Type 0} (a b : Leg S M) → a.move ≡ b.move → a.next ≡ b.next → a ≡ b
leg_same {S} {M} a b moves nexts = ap (λ (m : M). record { move = m; next = a.next }) moves ∙ ap (λ (t : S). record { move = b.move; next = t }) nexts

module _ {S M : Type 0} (rules : Rules S M) where
  same_step : (s : S) (ns ms : List ℕ) (a b : Leg S M) (us vs : List ℕ) → IsStep rules s ns a → IsStep rules s ms b → ns ++ us ≡ ms ++ vs → (a ≡ b) × (us ≡ vs)
  same_step s ns ms a b us vs here there same =
      let c = same_choice (rules.moves s) ns ms a.move b.move us vs here.chosen there.chosen same in
      (leg_same a b c.0 (goes_same a.next b.next here.printed there.printed (sym here.goes ∙ ap (rules.step s) c.0 ∙ there.goes)), c.1)

  same_path : (s : S) (path again : List (Leg S M)) (ns ms us vs : List ℕ) → IsPath rules s path ns → IsPath rules s again ms → ns ++ us ≡ ms ++ vs → length path ≡ length again → path ≡ again
  same_path s [] [] ns ms us vs here there same long = refl
  same_path s [] (y ∷ ys) ns ms us vs here there same long = absurd (omega (arith, long))
  same_path s (x ∷ xs) [] ns ms us vs here there same long = absurd (omega (arith, long))
  same_path s (x ∷ xs) (y ∷ ys) ns ms us vs (first, rest, is, step, path) (first', rest', is', step', path') same long =
      let all : first ++ (rest ++ us) ≡ first' ++ (rest' ++ vs) =
      sym (ap (λ (l : List ℕ). l ++ us) is ∙ append_assoc first rest us) ∙ same ∙ (ap (λ (l : List ℕ). l ++ vs) is' ∙ append_assoc first' rest' vs) in
      let one = same_step s first first' x y (rest ++ us) (rest' ++ vs) step step' all in
      let on : IsPath rules x.next ys rest' = subst (λ (t : Leg S M). IsPath rules t.next ys rest') (sym one.0) path' in
      ap (λ (t : Leg S M). t ∷ xs) one.0 ∙ ap (λ (l : List (Leg S M)). y ∷ l) (same_path x.next xs ys rest rest' us vs path on one.1 (omega (arith, long)))

  pub record_gives_run : (s : S) → RecordGivesRun rules s
  record_gives_run s limit other path again a b run same_run records steps =
      same_path s path again run.numbers same_run.numbers run.last same_run.last run.is_path same_run.is_path
      (same_numbers (run.numbers ++ run.last) (same_run.numbers ++ same_run.last) (sym run.kept ∙ records ∙ same_run.kept)) (sym run.counted ∙ steps ∙ same_run.counted)

-- ---- each session runs through a path

-- from a state after so many steps
pub record IsRunFrom {S M : Type 0} (rules : Rules S M) (limit : ℕ) (s : S) (steps : ℕ) (path : List (Leg S M)) (part : Part End) : Type 0 where
  pub numbers : List ℕ
  pub last : List ℕ
  pub is_path : IsPath rules s path numbers
  pub counted : part.value.steps ≡ steps + length path
  pub kept : recorded part.events ≡ flat_map record_line (numbers ++ last)
  pub ends : IsLast rules limit (last_state s path) (steps + length path) last part.value.cause

module _ {S M : Type 0} (rules : Rules S M) (options : Options) where
  abbrev pub RunsFrom : S → ℕ → Part End → Type 0
  RunsFrom s steps part = (path : List (Leg S M)) × IsRunFrom rules options.limit s steps path part

  -- no step is taken
  ends_here : (s : S) (steps : ℕ) (part : Part End) (last : List ℕ) → part.value.steps ≡ steps → recorded part.events ≡ flat_map record_line last → IsLast rules options.limit s steps last part.value.cause → RunsFrom s steps part
  ends_here s steps part last counted kept ends = (
    [],
    record {
      numbers = [];
      last = last;
      is_path = refl;
      counted = counted ∙ omega arith;
      kept = kept;
      ends = let same : steps ≡ steps + 0 = omega arith in subst (λ (n : ℕ). IsLast rules options.limit s n last part.value.cause) same ends;
    },
  )

  -- a step is taken, and then comes the rest
  pub goes_through : (s : S) (steps : ℕ) (ns : List ℕ) (leg : Leg S M) (path : List (Leg S M)) (part later : Part End) → IsStep rules s ns leg → part.value ≡ later.value
      → recorded part.events ≡ flat_map record_line ns ++ recorded later.events → IsRunFrom rules options.limit leg.next (steps + 1) path later → IsRunFrom rules options.limit s steps (leg ∷ path) part
  goes_through s steps ns leg path part later step same kept r =
      let long : (steps + 1) + length path ≡ steps + length (leg ∷ path) = omega arith in
      record {
        numbers = ns ++ r.numbers;
        last = r.last;
        is_path = (ns, r.numbers, refl, step, r.is_path);
        counted = ap (λ (e : End). e.steps) same ∙ r.counted ∙ long;
        kept = kept ∙ ap (λ (l : List ℕ). flat_map record_line ns ++ l) r.kept ∙ sym (flat_map-append record_line ns (r.numbers ++ r.last)) ∙ ap (flat_map record_line) (sym (append_assoc ns r.numbers r.last));
        ends = subst (λ (c : Cause). IsLast rules options.limit (last_state leg.next path) (steps + length (leg ∷ path)) r.last c) (sym (ap (λ (e : End). e.cause) same))
            (subst (λ (n : ℕ). IsLast rules options.limit (last_state leg.next path) n r.last later.value.cause) long r.ends);
      }

  goes_on : (s : S) (steps : ℕ) (ns : List ℕ) (leg : Leg S M) (part later : Part End) → IsStep rules s ns leg → part.value ≡ later.value → recorded part.events ≡ flat_map record_line ns ++ recorded later.events
      → RunsFrom leg.next (steps + 1) later → RunsFrom s steps part
  goes_on s steps ns leg part later step same kept run = (leg ∷ run.0, goes_through s steps ns leg run.0 part later step same kept run.1)

  -- what a state's moves lead to runs through a path
  abbrev RunsOn : ℕ → (S → Stream → List ℕ → Part End) → Type 0
  RunsOn steps later = (t : S) (stream : Stream) (left : List ℕ) → RunsFrom t (steps + 1) (later t stream left)

  module _ (s : S) (steps : ℕ) (below : steps < options.limit) (later : S → Stream → List ℕ → Part End) (on : RunsOn steps later) where
    -- a move that is chosen is taken, or it is a fault
    step_runs : (m : M) (ns : List ℕ) (stream : Stream) (left : List ℕ) → Contains (rules.moves s) m → IsChosen (rules.moves s) ns m → (o : Outcome S) → rules.step s m ≡ o → (part : Part End)
        → part.value ≡ (stepped rules options s m steps (λ t. later t stream left) stream left o).value
        → recorded part.events ≡ flat_map record_line ns ++ recorded (stepped rules options s m steps (λ t. later t stream left) stream left o).events → RunsFrom s steps part
    unfolding stepped
    step_runs m ns stream left there is (Goes t printed) goes part same kept =
        goes_on s steps ns (record { move = m; next = t }) part (later t stream left) (record { there = there; chosen = is; printed = printed; goes = goes }) same kept (on t stream left)
    step_runs m ns stream left there is (Faults f) faults part same kept =
        ends_here s steps part ns (ap (λ (e : End). e.steps) same) (kept ∙ append-nil (flat_map record_line ns))
        (subst (λ (c : Cause). IsLast rules options.limit s steps ns c) (sym (ap (λ (e : End). e.cause) same)) (at_fault below is faults))

    -- of one move that one is taken
    only_runs : (m : M) → rules.moves s ≡ m ∷ [] → (stream : Stream) (left : List ℕ) → RunsFrom s steps (answered rules options s (m ∷ []) m steps later (answer.Pick 1) stream left)
    unfolding answered
    only_runs m is stream left =
        step_runs m [] stream left (rw is (0, omega arith, refl)) (rw is (refl, refl)) (rules.step s m) refl _ refl refl

    -- of several the one whose number is picked, or none
    question_runs : (m k : M) (ms : List M) → rules.moves s ≡ m ∷ k ∷ ms → (asked : List Event) → Silent asked → (said : Answer) → IsPickUpTo (length (m ∷ k ∷ ms)) said → (stream : Stream) (left : List ℕ)
        → RunsFrom s steps (chosen (rules.text s) (place_of_move rules s (m ∷ k ∷ ms)) (m ∷ k ∷ ms) (answered rules options s (m ∷ k ∷ ms) m steps later) asked said stream left)
    unfolding answered
    question_runs m k ms is asked silent (answer.Pick n) range stream left =
        let moves = m ∷ k ∷ ms in
        let taken = get_or moves (n - 1) m in
        let within : n - 1 < length moves = omega (arith, range.0, range.1) in
        let back : n ≡ (n - 1) + 1 = omega (arith, range.0) in
        step_runs taken (n ∷ []) stream left (rw is (picked_is_there moves n m range.0 range.1)) (rw is (n - 1, ap (λ (x : ℕ). x ∷ []) back, slice_get-get_or moves (n - 1) m within)) (rules.step s taken) refl _ refl
        (recorded_chosen (rules.text s) (place_of_move rules s moves) moves (answered rules options s moves m steps later) asked n stream left silent
        ∙ ap (λ (l : List ℕ). l ++ recorded (answered rules options s moves m steps later (answer.Pick n) stream left).events) (sym (append-nil (record_line n))))
    question_runs m k ms is asked silent answer.Quit range stream left = ends_here s steps _ [] refl (rw (append-nil asked) (rw (recorded-append asked _, silent.0) refl)) (at_question below (rw is (omega arith)) refl)
    question_runs m k ms is asked silent answer.Ended range stream left = ends_here s steps _ [] refl (rw (append-nil asked) (rw (recorded-append asked _, silent.0) refl)) (at_question below (rw is (omega arith)) refl)
    question_runs m k ms is asked silent answer.TooLong range stream left = ends_here s steps _ [] refl (rw (append-nil asked) (rw (recorded-append asked _, silent.0) refl)) (at_question below (rw is (omega arith)) refl)
    question_runs m k ms is asked silent answer.Hundred range stream left = ends_here s steps _ [] refl (rw (append-nil asked) (rw (recorded-append asked _, silent.0) refl)) (at_question below (rw is (omega arith)) refl)
    question_runs m k ms is asked silent answer.Misfit range stream left = ends_here s steps _ [] refl (rw (append-nil asked) (rw (recorded-append asked _, silent.0) refl)) (at_question below (rw is (omega arith)) refl)

  select_runs : (fuel : ℕ) (s : S) (steps : ℕ) → steps < options.limit → RunsOn steps (λ t o q. story First rules options fuel t (steps + 1) o q) → (m : M) (ms : List M) → rules.moves s ≡ m ∷ ms → (stream : Stream) (rest : List ℕ)
      → RunsFrom s steps (answer_part First rules options s steps stream fuel (m ∷ ms) m rest)
  unfolding select_move
  select_runs fuel s steps below on m [] is stream rest = only_runs s steps below (λ t o q. story First rules options fuel t (steps + 1) o q) on m is stream rest
  select_runs fuel s steps below on m (k ∷ ms) is stream rest =
      let moves = m ∷ k ∷ ms in
      let place = place_of_move rules s moves in
      let asked = ask_for_move (length moves) place (BAD_LINES - 1) stream rest in
      question_runs s steps below (λ t o q. story First rules options fuel t (steps + 1) o q) on m k ms is asked.events (ask_silent (length moves) place (BAD_LINES - 1) stream rest)
      asked.value (ask_range (length moves) place (BAD_LINES - 1) stream rest) asked.stream asked.left

  finish_runs : (s : S) (steps : ℕ) → steps ≤ options.limit → rules.moves s ≡ [] → (valid : Bool) → rules.is_valid s ≡ valid → (stream : Stream) (rest : List ℕ) → RunsFrom s steps (finished valid (rules.stuck s) steps stream rest)
  finish_runs s steps within none valid is stream rest = by valid (subst (λ (v : Bool). IsLast rules options.limit s steps [] (final_cause v)) is (no_move within none))
    where
      by : (v : Bool) → IsLast rules options.limit s steps [] (final_cause v) → RunsFrom s steps (finished v (rules.stuck s) steps stream rest)
      by true ends = ends_here s steps _ [] refl refl ends
      by false ends = ends_here s steps _ [] refl refl ends

  limit_runs : (s : S) (steps : ℕ) → steps ≡ options.limit → (moves : List M) → rules.moves s ≡ moves → (stream : Stream) (rest : List ℕ) → RunsFrom s steps (story First rules options 0 s steps stream rest)
  limit_runs s steps at [] is stream rest = rw (story_none First rules options s steps stream 0 is rest) (finish_runs s steps (omega (arith, at)) is (rules.is_valid s) refl stream rest)
  limit_runs s steps at (m ∷ ms) is stream rest = rw (story_limit First rules options s steps stream m ms is rest) (ends_here s steps _ [] refl refl (at_limit at (λ none. let no = sym is ∙ none in cc)))

  move_runs : (fuel : ℕ) (s : S) (steps : ℕ) → steps < options.limit → RunsOn steps (λ t o q. story First rules options fuel t (steps + 1) o q) → (moves : List M) → rules.moves s ≡ moves → (stream : Stream) (rest : List ℕ)
      → RunsFrom s steps (story First rules options (suc fuel) s steps stream rest)
  move_runs fuel s steps below on [] is stream rest = rw (story_none First rules options s steps stream (suc fuel) is rest) (finish_runs s steps (omega (arith, below)) is (rules.is_valid s) refl stream rest)
  move_runs fuel s steps below on (m ∷ ms) is stream rest = rw (story_some First rules options s steps stream fuel m ms is rest) (select_runs fuel s steps below on m ms is stream rest)

  pub story_runs : (fuel : ℕ) (s : S) (steps : ℕ) → steps + fuel ≡ options.limit → (stream : Stream) (rest : List ℕ) → RunsFrom s steps (story First rules options fuel s steps stream rest)
  story_runs zero s steps at stream rest = limit_runs s steps (omega (arith, at)) (rules.moves s) refl stream rest
  story_runs (suc fuel) s steps at stream rest = move_runs fuel s steps (omega (arith, at)) (λ t o q. story_runs fuel t (steps + 1) (omega (arith, at)) o q) (rules.moves s) refl stream rest

  pub session_runs : (s : S) (choices : List ℕ) → HasRun rules options.limit s (transcript rules options s choices)
  session_runs s choices =
      let r = story_runs options.limit s 0 (omega arith) Unread choices in
      let none : 0 + length r.0 ≡ length r.0 = omega arith in (
        r.0,
        record {
          numbers = r.1.numbers;
          last = r.1.last;
          is_path = r.1.is_path;
          counted = r.1.counted ∙ none;
          kept = r.1.kept;
          ends = subst (λ (n : ℕ). IsLast rules options.limit (last_state s r.0) n r.1.last (transcript rules options s choices).value.cause) none r.1.ends;
        },
      )

-- so does each session over a text that stands for a model
pub text_runs : {text : List ℕ} {options : Options} {model : Running} {part : List ℕ → Part End} → IsModel text options.lossy model → IsTranscript text options part → (choices : List ℕ) → HasRun rules options.limit model (part choices)
text_runs {options = options} {model = model} is given choices =
    subst (λ (p : List ℕ → Part End). HasRun rules options.limit model (p choices)) (sym (when_modelled is given)) (session_runs rules options model choices)
