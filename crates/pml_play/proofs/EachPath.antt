-- Each path is played: the session on its record runs through it first.
use Rattle.std.proofs.Common.{◌≡◌, ℕ, zero, suc, ◌+◌, ◌-◌, ◌<◌, ◌≤◌, List, [], ◌∷◌, ◌++◌, length, get_or, false, refl, sym, ap, subst, ◌∙◌, arith, append-nil, append_assoc, length-append}
use Rattle.std.proofs.lemmas.Grind.{flat_map-append}
use Rattle.std.proofs.lemmas.Option.{slice_get_within, get_or_from_slice_get}
use Rattle.std.specs.List.{flat_map}
use Rattle.promela_session.specs.declared.ends.Options.{Options}
use Rattle.promela_session.specs.declared.ends.End.{End}
use Rattle.promela_session.specs.declared.form.Stream.{Stream}
use Rattle.promela_session.specs.declared.form.Stream.TheVariants.{Unread, Known}
use Rattle.promela_session.specs.declared.form.Version.TheVariants.{First}
use Rattle.promela_session.specs.Events.{Event, Put, Told, Recorded, Stepped, asks, recorded, Part, preceded, record_line, all_digits, placed_line, prompt, list_from}
use Rattle.profile.specs.declared.TheConstants.{LINE_BYTES}
use Rattle.promela_machine.specs.Machine.{Rules, Goes}
use Rattle.promela_session.specs.Session.{place_of_move, select_move, stepped, step_text, answered, story, transcript}
use Rattle.session.proofs.Parts.{recorded-append, recorded-asks}
use Rattle.session.proofs.Records.{IsPlain}
use Rattle.session.proofs.Replay.{picked_again}
use Rattle.session.proofs.Turns.{story_some}
use Rattle.promela_session.specs.declared.ends.Cause.{Cause}
use Rattle.promela_run.specs.World.{Running, rules}
use Rattle.pml_sim.proofs.Short.{IsLightHere, goes_light, number_fits}
use Rattle.pml_play.specs.Run.{Leg, IsChosen, IsStep, IsPath, IsLast, no_move, at_limit, at_fault, at_question, last_state, IsRun, PlaysEachPath, PlaysJustThePath}
use Rattle.pml_play.specs.Transcript.{IsModel, IsTranscript}
use Rattle.pml_play.proofs.Light.{text_light}
use Rattle.pml_play.proofs.Outcomes.{when_modelled}
use Rattle.pml_play.proofs.Run.{IsRunFrom, goes_through, story_runs}

-- a number's line is recorded where a question is asked and answered by it
asked_recorded : (list first : List ℕ) (n : ℕ) (placed text : List ℕ) (rest : List Event)
    → recorded ((Put Told list ∷ Put Told first ∷ (asks (record_line n) false ++ Recorded (record_line n) placed ∷ [])) ++ (Stepped ∷ Put Told text ∷ rest)) ≡ flat_map record_line (n ∷ []) ++ recorded rest
asked_recorded list first n placed text rest =
    rw (recorded-append (asks (record_line n) false ++ Recorded (record_line n) placed ∷ []) (Stepped ∷ Put Told text ∷ rest), recorded-append (asks (record_line n) false) (Recorded (record_line n) placed ∷ []), recorded-asks (record_line n) false) refl

module _ {S M : Type 0} (rules : Rules S M) (options : Options) where
  -- the text of a step
  abbrev text_of : S → M → ℕ → S → List ℕ → List ℕ
  text_of s m steps t printed = step_text rules options s m (steps + 1) t printed

  -- the only move is taken
  pub one_played : (fuel : ℕ) (s : S) (steps : ℕ) (m : M) → rules.moves s ≡ m ∷ [] → (t : S) (printed : List ℕ) → rules.step s m ≡ Goes t printed → (stream : Stream) (more : List ℕ)
      → story First rules options (suc fuel) s steps stream more ≡ preceded (Stepped ∷ Put Told (text_of s m steps t printed) ∷ []) (story First rules options fuel t (steps + 1) stream more)
  unfolding select_move answered stepped
  one_played fuel s steps m is t printed goes stream more = story_some First rules options s steps stream fuel m [] is more ∙ rw goes refl

  -- of several the one whose number comes
  pub many_played : (fuel : ℕ) (s : S) (steps : ℕ) (m k : M) (ms : List M) → rules.moves s ≡ m ∷ k ∷ ms → (n : ℕ) → 0 < n → n ≤ length (m ∷ k ∷ ms) → length (all_digits n) ≤ LINE_BYTES
      → (t : S) (printed : List ℕ) → rules.step s (get_or (m ∷ k ∷ ms) (n - 1) m) ≡ Goes t printed → (stream : Stream) → IsPlain stream → (more : List ℕ)
      → story First rules options (suc fuel) s steps stream (record_line n ++ more)
      ≡ preceded (Put Told (list_from (rules.text s) 1 (m ∷ k ∷ ms)) ∷ Put Told (prompt (length (m ∷ k ∷ ms))) ∷ (asks (record_line n) false ++ Recorded (record_line n) (placed_line n (place_of_move rules s (m ∷ k ∷ ms) n)) ∷ []))
      (preceded (Stepped ∷ Put Told (text_of s (get_or (m ∷ k ∷ ms) (n - 1) m) steps t printed) ∷ []) (story First rules options fuel t (steps + 1) (Known First) more))
  unfolding select_move answered stepped
  many_played fuel s steps m k ms is n some within short t printed goes stream plain more =
      let moves = m ∷ k ∷ ms in
      let next = answered rules options s moves m steps (λ t o r. story First rules options fuel t (steps + 1) o r) in
      story_some First rules options s steps stream fuel m (k ∷ ms) is (record_line n ++ more)
      ∙ picked_again (rules.text s) (place_of_move rules s moves) moves next n more some within short stream plain
      ∙ rw goes refl

  -- what holds of states, is kept by steps, and bounds the numbers of their moves
  module _ (P : S → Type 0) (keeps : (s t : S) (m : M) (printed : List ℕ) → P s → rules.step s m ≡ Goes t printed → P t)
      (short : (s : S) → P s → (n : ℕ) → n ≤ length (rules.moves s) → length (all_digits n) ≤ LINE_BYTES) where
    -- the session runs through this path first
    abbrev PlaysFrom : S → ℕ → List (Leg S M) → Part End → Type 0
    PlaysFrom s steps path part = (later : List (Leg S M)) × IsRunFrom rules options.limit s steps (path ++ later) part

    -- so does each story on the record of the rest
    abbrev PlaysRest : ℕ → ℕ → Leg S M → List (Leg S M) → List ℕ → Type 0
    PlaysRest fuel steps leg path more = (stream : Stream) → IsPlain stream → PlaysFrom leg.next (steps + 1) path (story First rules options fuel leg.next (steps + 1) stream more)

    leg_first : (s : S) (steps : ℕ) (ns : List ℕ) (leg : Leg S M) (path : List (Leg S M)) (part later : Part End) → IsStep rules s ns leg → part.value ≡ later.value
        → recorded part.events ≡ flat_map record_line ns ++ recorded later.events → PlaysFrom leg.next (steps + 1) path later → PlaysFrom s steps (leg ∷ path) part
    leg_first s steps ns leg path part later step same kept rest = (rest.0, goes_through rules options s steps ns leg (path ++ rest.0) part later step same kept rest.1)

    step_first : (fuel : ℕ) (s : S) (steps : ℕ) → P s → (ns : List ℕ) (leg : Leg S M) → IsStep rules s ns leg → (path : List (Leg S M)) (more : List ℕ) → PlaysRest fuel steps leg path more
        → (moves : List M) → rules.moves s ≡ moves → IsChosen moves ns leg.move → (stream : Stream) → IsPlain stream → PlaysFrom s steps (leg ∷ path) (story First rules options (suc fuel) s steps stream (flat_map record_line ns ++ more))
    step_first fuel s steps p ns leg step path more rest [] is chosen stream plain = absurd chosen
    step_first fuel s steps p ns leg step path more rest (m ∷ []) is chosen stream plain =
        let goes : rules.step s m ≡ Goes leg.next step.printed = ap (rules.step s) (sym chosen.1) ∙ step.goes in
        let choices : flat_map record_line ns ++ more ≡ more = ap (λ (l : List ℕ). flat_map record_line l ++ more) chosen.0 in
        let later = story First rules options fuel leg.next (steps + 1) stream more in
        let part : story First rules options (suc fuel) s steps stream (flat_map record_line ns ++ more) ≡ preceded (Stepped ∷ Put Told (text_of s m steps leg.next step.printed) ∷ []) later =
        ap (story First rules options (suc fuel) s steps stream) choices ∙ one_played fuel s steps m is leg.next step.printed goes stream more in
        leg_first s steps ns leg path _ later step (ap (λ (q : Part End). q.value) part)
        (ap (λ (q : Part End). recorded q.events) part ∙ ap (λ (l : List ℕ). flat_map record_line l ++ recorded later.events) (sym chosen.0)) (rest stream plain)
    step_first fuel s steps p ns leg step path more rest (m ∷ k ∷ ms) is (i, numbered, there) stream plain =
        let moves = m ∷ k ∷ ms in
        let n = i + 1 in
        let below : i < length moves = slice_get_within moves i leg.move there in
        let back : n - 1 ≡ i = omega arith in
        let taken : get_or moves (n - 1) m ≡ leg.move = ap (λ (j : ℕ). get_or moves j m) back ∙ get_or_from_slice_get moves i leg.move m there in
        let goes : rules.step s (get_or moves (n - 1) m) ≡ Goes leg.next step.printed = ap (rules.step s) taken ∙ step.goes in
        let few : length (all_digits n) ≤ LINE_BYTES = short s p n (let l = ap length is in omega (arith, below, l)) in
        let choices : flat_map record_line ns ++ more ≡ record_line n ++ more = ap (λ (l : List ℕ). flat_map record_line l ++ more) numbered ∙ ap (λ (l : List ℕ). l ++ more) (append-nil (record_line n)) in
        let later = story First rules options fuel leg.next (steps + 1) (Known First) more in
        let part = ap (story First rules options (suc fuel) s steps stream) choices ∙ many_played fuel s steps m k ms is n (omega arith) (omega (arith, below)) few leg.next step.printed goes stream plain more in
        leg_first s steps ns leg path _ later step (ap (λ (q : Part End). q.value) part)
        (ap (λ (q : Part End). recorded q.events) part ∙ asked_recorded (list_from (rules.text s) 1 moves) (prompt (length moves)) n (placed_line n (place_of_move rules s moves n)) (text_of s (get_or moves (n - 1) m) steps leg.next step.printed) later.events ∙ ap (λ (l : List ℕ). flat_map record_line l ++ recorded later.events) (sym numbered)) (rest (Known First) refl)

    path_first : (fuel : ℕ) (s : S) (steps : ℕ) → steps + fuel ≡ options.limit → P s → (path : List (Leg S M)) (numbers : List ℕ) → IsPath rules s path numbers → length path ≤ fuel → (stream : Stream) → IsPlain stream → (more : List ℕ)
        → PlaysFrom s steps path (story First rules options fuel s steps stream (flat_map record_line numbers ++ more))
    path_first fuel s steps at p [] numbers is within stream plain more = story_runs rules options fuel s steps at stream (flat_map record_line numbers ++ more)
    path_first zero s steps at p (leg ∷ path) numbers is within stream plain more = absurd (omega (arith, within))
    path_first (suc fuel) s steps at p (leg ∷ path) numbers (first, last, is, step, on) within stream plain more =
        let rest = flat_map record_line last ++ more in
        let choices : flat_map record_line numbers ++ more ≡ flat_map record_line first ++ rest =
        ap (λ (l : List ℕ). flat_map record_line l ++ more) is ∙ ap (λ (l : List ℕ). l ++ more) (flat_map-append record_line first last) ∙ append_assoc (flat_map record_line first) (flat_map record_line last) more in
        subst (λ (l : List ℕ). PlaysFrom s steps (leg ∷ path) (story First rules options (suc fuel) s steps stream l)) (sym choices)
        (step_first fuel s steps p first leg step path rest
        (λ o q. path_first fuel leg.next (steps + 1) (omega (arith, at)) (keeps s leg.next leg.move step.printed p step.goes) path last on (omega (arith, within)) o q more)
        (rules.moves s) refl step.chosen stream plain)

    pub each_path : (s : S) → P s → PlaysEachPath rules options.limit s (transcript rules options s)
    each_path s p path numbers more is within =
        let r = path_first options.limit s 0 (omega arith) p path numbers is within Unread tt more in
        let none : 0 + length (path ++ r.0) ≡ length (path ++ r.0) = omega arith in (
          r.0,
          record {
            numbers = r.1.numbers;
            last = r.1.last;
            is_path = r.1.is_path;
            counted = r.1.counted ∙ none;
            kept = r.1.kept;
            ends = subst (λ (n : ℕ). IsLast rules options.limit (last_state s (path ++ r.0)) n r.1.last (transcript rules options s (flat_map record_line numbers ++ more)).value.cause) none r.1.ends;
          },
        )

-- ---- just the path, where the limit ends it

module _ {S M : Type 0} (rules : Rules S M) (limit : ℕ) where
  last_within : {s : S} {steps : ℕ} {numbers : List ℕ} {why : Cause} → IsLast rules limit s steps numbers why → steps ≤ limit
  last_within (no_move within none) = within
  last_within (at_limit at some) = omega (arith, at)
  last_within (at_fault below is faults) = omega (arith, below)
  last_within (at_question below many cut) = omega (arith, below)

  no_more : (path later : List (Leg S M)) → length (path ++ later) ≤ limit → length path ≡ limit → path ++ later ≡ path
  no_more path [] within all = append-nil path
  no_more path (leg ∷ legs) within all = let long = length-append path (leg ∷ legs) in absurd (omega (arith, within, all, long))

  pub just_path : (s : S) (session : List ℕ → Part End) → PlaysEachPath rules limit s session → PlaysJustThePath rules limit s session
  just_path s session each path numbers more is all =
      let run = each path numbers more is (omega (arith, all)) in
      subst (λ (l : List (Leg S M)). IsRun rules limit s l (session (flat_map record_line numbers ++ more))) (no_more path run.0 (last_within run.1.ends) all) run.1

-- each path of the model of a text is played
pub text_plays_each : {text : List ℕ} {options : Options} {model : Running} {part : List ℕ → Part End} → IsModel text options.lossy model → IsTranscript text options part → PlaysEachPath rules options.limit model part
text_plays_each {text = text} {options = options} {model = model} is given =
    subst (λ (p : List ℕ → Part End). PlaysEachPath rules options.limit model p) (sym (when_modelled is given))
    (each_path rules options IsLightHere (λ s t m printed h goes. goes_light s t m printed h goes) number_fits model (text_light text options.lossy model is))
