-- What a session shows along a path, and which states it comes to.
use Rattle.std.proofs.Common.{◌≡◌, ℕ, zero, suc, ◌+◌, ◌-◌, ◌<◌, ◌≤◌, Bool, false, List, [], ◌∷◌, ◌++◌, length, get_or, refl, sym, ap, subst, ◌∙◌, arith, append-nil, append_assoc}
use Rattle.std.proofs.lemmas.Grind.{flat_map-append}
use Rattle.std.proofs.lemmas.Option.{slice_get_within, get_or_from_slice_get}
use Rattle.std.specs.List.{flat_map}
use Rattle.promela_session.specs.declared.ends.Options.{Options}
use Rattle.promela_session.specs.declared.ends.End.{End}
use Rattle.promela_session.specs.declared.form.Stream.{Stream}
use Rattle.promela_session.specs.declared.form.Stream.TheVariants.{Unread, Known}
use Rattle.promela_session.specs.declared.form.Version.TheVariants.{First}
use Rattle.promela_session.specs.Events.{Put, Told, Stepped, Part, preceded, record_line, all_digits}
use Rattle.profile.specs.declared.TheConstants.{LINE_BYTES}
use Rattle.promela_machine.specs.Machine.{Rules, Goes}
use Rattle.promela_session.specs.Session.{step_text, story, transcript}
use Rattle.session.proofs.Records.{IsPlain}
use Rattle.promela_run.specs.World.{Running, rules}
use Rattle.pml_sim.proofs.Short.{IsLightHere, goes_light, number_fits}
use Rattle.pml_play.specs.Run.{Leg, IsChosen, IsStep, IsPath}
use Rattle.pml_play.specs.Shown.{printed_by, question_for, numbers_behind, step_done, along, ShowsEachPath, PathLeads, ComesTo}
use Rattle.pml_play.specs.Transcript.{IsModel, IsTranscript}
use Rattle.pml_play.proofs.Each.{has_transcript}
use Rattle.pml_play.proofs.EachPath.{one_played, many_played, just_path, text_plays_each}
use Rattle.pml_play.proofs.Light.{text_light}
use Rattle.pml_play.proofs.Outcomes.{when_modelled}

module _ {S M : Type 0} (rules : Rules S M) (options : Options) where
  abbrev text_of : S → M → ℕ → S → List ℕ → List ℕ
  text_of s m steps t printed = step_text rules options s m (steps + 1) t printed

  -- the question of the first step looks at its own numbers alone
  chosen_front : (s : S) (moves : List M) (first last : List ℕ) (m : M) → IsChosen moves first m
      → (question_for rules s moves (first ++ last) ≡ question_for rules s moves first) × (numbers_behind moves (first ++ last) ≡ last)
  chosen_front s [] first last m chosen = absurd chosen
  chosen_front s (a ∷ []) first last m (none, is) = (refl, ap (λ (l : List ℕ). l ++ last) none)
  chosen_front s (a ∷ b ∷ more) first last m (i, numbered, there) = rw numbered (refl, refl)

  -- what holds of states, is kept by steps, and bounds the numbers of their moves
  module _ (P : S → Type 0) (keeps : (s t : S) (m : M) (printed : List ℕ) → P s → rules.step s m ≡ Goes t printed → P t)
      (short : (s : S) → P s → (n : ℕ) → n ≤ length (rules.moves s) → length (all_digits n) ≤ LINE_BYTES) where
    -- a step is shown so, and then comes the story from the next state on
    abbrev ShowsStep : ℕ → S → ℕ → List ℕ → Leg S M → List M → Stream → List ℕ → Type 0
    ShowsStep fuel s steps ns leg moves stream more = (stream' : Stream) × IsPlain stream' × (story First rules options (suc fuel) s steps stream (flat_map record_line ns ++ more)
        ≡ preceded (question_for rules s moves ns) (preceded (step_done rules options s steps leg) (story First rules options fuel leg.next (steps + 1) stream' more)))

    step_shown : (fuel : ℕ) (s : S) (steps : ℕ) → P s → (ns : List ℕ) (leg : Leg S M) → IsStep rules s ns leg → (more : List ℕ)
        → (moves : List M) → rules.moves s ≡ moves → IsChosen moves ns leg.move → (stream : Stream) → IsPlain stream → ShowsStep fuel s steps ns leg moves stream more
    step_shown fuel s steps p ns leg step more [] is chosen stream plain = absurd chosen
    step_shown fuel s steps p ns leg step more (m ∷ []) is chosen stream plain =
        let goes : rules.step s m ≡ Goes leg.next step.printed = ap (rules.step s) (sym chosen.1) ∙ step.goes in
        let later = story First rules options fuel leg.next (steps + 1) stream more in
        let told : text_of s m steps leg.next step.printed ≡ text_of s leg.move steps leg.next (printed_by (rules.step s leg.move)) =
        ap (λ (x : M). text_of s x steps leg.next step.printed) (sym chosen.1) ∙ ap (text_of s leg.move steps leg.next) (sym (ap printed_by step.goes)) in (
          stream,
          plain,
          ap (λ (l : List ℕ). story First rules options (suc fuel) s steps stream (flat_map record_line l ++ more)) chosen.0
              ∙ one_played rules options fuel s steps m is leg.next step.printed goes stream more
              ∙ ap (λ (t : List ℕ). preceded (Stepped ∷ Put Told t ∷ []) later) told,
        )
    step_shown fuel s steps p ns leg step more (m ∷ k ∷ ms) is (i, numbered, there) stream plain =
        let moves = m ∷ k ∷ ms in
        let n = i + 1 in
        let below : i < length moves = slice_get_within moves i leg.move there in
        let back : n - 1 ≡ i = omega arith in
        let taken : get_or moves (n - 1) m ≡ leg.move = ap (λ (j : ℕ). get_or moves j m) back ∙ get_or_from_slice_get moves i leg.move m there in
        let goes : rules.step s (get_or moves (n - 1) m) ≡ Goes leg.next step.printed = ap (rules.step s) taken ∙ step.goes in
        let few : length (all_digits n) ≤ LINE_BYTES = short s p n (let l = ap length is in omega (arith, below, l)) in
        let choices : flat_map record_line ns ++ more ≡ record_line n ++ more = ap (λ (l : List ℕ). flat_map record_line l ++ more) numbered ∙ ap (λ (l : List ℕ). l ++ more) (append-nil (record_line n)) in
        let later = story First rules options fuel leg.next (steps + 1) (Known First) more in
        let told : text_of s (get_or moves (n - 1) m) steps leg.next step.printed ≡ text_of s leg.move steps leg.next (printed_by (rules.step s leg.move)) =
        ap (λ (x : M). text_of s x steps leg.next step.printed) taken ∙ ap (text_of s leg.move steps leg.next) (sym (ap printed_by step.goes)) in (
          Known First,
          refl,
          ap (story First rules options (suc fuel) s steps stream) choices
              ∙ many_played rules options fuel s steps m k ms is n (omega arith) (omega (arith, below)) few leg.next step.printed goes stream plain more
              ∙ ap (λ (t : List ℕ). preceded (question_for rules s moves (n ∷ [])) (preceded (Stepped ∷ Put Told t ∷ []) later)) told
              ∙ ap (λ (l : List ℕ). preceded (question_for rules s moves l) (preceded (step_done rules options s steps leg) later)) (sym numbered),
        )

    -- the story on a path's record is shown so
    abbrev ShowsPath : ℕ → S → ℕ → List (Leg S M) → List ℕ → Stream → List ℕ → Type 0
    ShowsPath fuel s steps path numbers stream more = (later : Part End) × (story First rules options fuel s steps stream (flat_map record_line numbers ++ more) ≡ along rules options s steps path numbers later)

    path_shown : (fuel : ℕ) (s : S) (steps : ℕ) → P s → (path : List (Leg S M)) (numbers : List ℕ) → IsPath rules s path numbers → length path ≤ fuel → (stream : Stream) → IsPlain stream → (more : List ℕ)
        → ShowsPath fuel s steps path numbers stream more
    path_shown fuel s steps p [] numbers is within stream plain more = (story First rules options fuel s steps stream (flat_map record_line numbers ++ more), refl)
    path_shown zero s steps p (leg ∷ path) numbers is within stream plain more = absurd (omega (arith, within))
    path_shown (suc fuel) s steps p (leg ∷ path) numbers (first, last, is, step, on) within stream plain more =
        let rest = flat_map record_line last ++ more in
        let choices : flat_map record_line numbers ++ more ≡ flat_map record_line first ++ rest =
        ap (λ (l : List ℕ). flat_map record_line l ++ more) is ∙ ap (λ (l : List ℕ). l ++ more) (flat_map-append record_line first last) ∙ append_assoc (flat_map record_line first) (flat_map record_line last) more in
        let shown = step_shown fuel s steps p first leg step rest (rules.moves s) refl step.chosen stream plain in
        let on_later = path_shown fuel leg.next (steps + 1) (keeps s leg.next leg.move step.printed p step.goes) path last on (omega (arith, within)) shown.0 shown.1 more in
        let front = chosen_front s (rules.moves s) first last leg.move step.chosen in
        let whole = along rules options leg.next (steps + 1) path in (
          on_later.0,
          ap (story First rules options (suc fuel) s steps stream) choices ∙ shown.2
              ∙ ap (λ (q : Part End). preceded (question_for rules s (rules.moves s) first) (preceded (step_done rules options s steps leg) q)) on_later.1
              ∙ ap (λ (l : List ℕ). preceded (question_for rules s (rules.moves s) first) (preceded (step_done rules options s steps leg) (whole l on_later.0))) (sym front.1)
              ∙ ap (λ (es : List _). preceded es (preceded (step_done rules options s steps leg) (whole (numbers_behind (rules.moves s) (first ++ last)) on_later.0))) (sym front.0)
              ∙ ap (λ (l : List ℕ). along rules options s steps (leg ∷ path) l on_later.0) (sym is),
        )

    pub each_shown : (s : S) → P s → ShowsEachPath rules options s (transcript rules options s)
    each_shown s p path numbers more is within = path_shown options.limit s 0 p path numbers is within Unread tt more

-- each path of the model of a text is shown
pub text_shows_each : {text : List ℕ} {options : Options} {model : Running} {part : List ℕ → Part End} → IsModel text options.lossy model → IsTranscript text options part → ShowsEachPath rules options model part
text_shows_each {text = text} {options = options} {model = model} is given =
    subst (λ (p : List ℕ → Part End). ShowsEachPath rules options model p) (sym (when_modelled is given))
    (each_shown rules options IsLightHere (λ s t m printed h goes. goes_light s t m printed h goes) number_fits model (text_light text options.lossy model is))

-- the options of a session that ends behind so many steps, and shows nothing
abbrev quiet_for : Bool → ℕ → Options
quiet_for lossy limit = record { steps = false; globals = false; locals = false; lossy = lossy; limit = limit }

-- a session comes to each state that a path leads to
pub comes_along : (text : List ℕ) (lossy : Bool) (model state : Running) → IsModel text lossy model → PathLeads rules model state → ComesTo text lossy model state
comes_along text lossy model state is (path, numbers, on, last) =
    let options = quiet_for lossy (length path) in
    let given = has_transcript text options in
    let run = just_path rules (length path) model given.0 (text_plays_each is given.1) path numbers [] on refl in
    record {
      options = options;
      loses = refl;
      session = given.0;
      is_transcript = given.1;
      choices = flat_map record_line numbers ++ [];
      path = path;
      run = run;
      last = last;
    }

-- and to no other
pub leads_there : (text : List ℕ) (lossy : Bool) (model state : Running) → ComesTo text lossy model state → PathLeads rules model state
leads_there text lossy model state comes = (comes.path, comes.run.numbers, comes.run.is_path, comes.last)
