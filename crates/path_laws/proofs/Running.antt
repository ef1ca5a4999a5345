-- Sessions run the same exactly where the same is recorded of them.
use Rattle.std.proofs.Common.{◌≡◌, ℕ, Bool, true, false, List, [], ◌∷◌, ◌++◌, length, Option, Some, None, refl, sym, ap, subst, ◌∙◌}
use Rattle.std.proofs.lemmas.Bool.{true≢false}
use Rattle.std.specs.List.{flat_map}
use Rattle.promela_session.specs.declared.ends.End.{End}
use Rattle.promela_session.specs.declared.ends.Cause.{Cause}
use Rattle.promela_session.specs.declared.ends.Cause.TheVariants as cause
use Rattle.promela_machine.specs.Machine.{Rules}
use Rattle.session.specs.Ending.{final_cause}
use Rattle.promela_session.specs.Events.{Part, record_line}
use Rattle.promela_session.specs.Devices.{is_cut_short}
use Rattle.pml_play.specs.Run.{Leg, IsPath, last_state, IsLast, no_move, at_limit, at_fault, at_question, HasRun}
use Rattle.path_laws.specs.OneRecord.{StandOnce, ListsOnce}
use Rattle.path_laws.specs.OneRun.{has_failed, FailsAt, IsWholeRun, HasOneRun, RunTheSame, RecordTheSame, RunsAndRecordsAreOneToOne}
use Rattle.path_laws.proofs.Numbering.{same_numbers, one_choice, one_move, one_path, one_record}

-- ---- where a run fails

no_fault_last : (valid : Bool) → has_failed (final_cause valid) ≡ false
no_fault_last true = refl
no_fault_last false = refl

no_fault_cut : (why : Cause) → is_cut_short why ≡ true → has_failed why ≡ false
no_fault_cut cause.Valid cut = refl
no_fault_cut cause.Invalid cut = refl
no_fault_cut (cause.Fault f) cut = absurd (true≢false (sym cut))
no_fault_cut (cause.Refused r line) cut = refl
no_fault_cut cause.StepLimit cut = refl
no_fault_cut cause.Quit cut = refl
no_fault_cut cause.ChoicesEnded cut = refl
no_fault_cut cause.LineTooLong cut = refl
no_fault_cut cause.BadChoices cut = refl
no_fault_cut cause.Misfit cut = refl
no_fault_cut cause.SourceFailed cut = refl
no_fault_cut cause.OutFailed cut = refl
no_fault_cut cause.RecordFailed cut = refl
no_fault_cut cause.Memory cut = refl

module _ {S M : Type 0} (rules : Rules S M) where
  -- a run ends at a move that fails, or at none
  failing : {limit : ℕ} {s : S} {steps : ℕ} {last : List ℕ} {why : Cause} → IsLast rules limit s steps last why → (failed : Option M) × FailsAt rules s failed last why
  failing {s = s} (no_move within none) = (None, (refl, no_fault_last (rules.is_valid s)))
  failing (at_limit at some) = (None, (refl, refl))
  failing (at_fault {m = m} {f = f} below is faults) = (Some m, (is, (f, faults, refl)))
  failing {why = why} (at_question below many cut) = (None, (refl, no_fault_cut why cut))

  -- whether it fails is told by its cause
  both_fail : (s : S) (last : List ℕ) (a b : Option M) (why other : Cause) → FailsAt rules s a last why → FailsAt rules s b last other → has_failed why ≡ has_failed other → a ≡ b
  both_fail s last None None why other here there same = refl
  both_fail s last None (Some m) why other here there same = absurd (true≢false (sym (sym here.1 ∙ same ∙ ap has_failed there.1.2)))
  both_fail s last (Some m) None why other here there same = absurd (true≢false (sym (ap has_failed here.1.2) ∙ same ∙ there.1))
  both_fail s last (Some m) (Some n) why other here there same = ap Some (one_move (rules.moves s) last m n here.0 there.0)

  fail_alike : (s : S) (failed : Option M) (last others : List ℕ) (why other : Cause) → FailsAt rules s failed last why → FailsAt rules s failed others other → has_failed why ≡ has_failed other
  fail_alike s None last others why other here there = here.1 ∙ sym there.1
  fail_alike s (Some m) last others why other here there = ap has_failed here.1.2 ∙ sym (ap has_failed there.1.2)

  same_last : (s : S) → StandOnce (rules.moves s) → (failed : Option M) (last others : List ℕ) (why other : Cause) → FailsAt rules s failed last why → FailsAt rules s failed others other → last ≡ others
  same_last s once None last others why other here there = here.0 ∙ sym there.0
  same_last s once (Some m) last others why other here there = one_choice (rules.moves s) once last others m here.0 there.0

  whole : (limit : ℕ) (s : S) (part : Part End) → HasRun rules limit s part → (path : List (Leg S M)) × (failed : Option M) × IsWholeRun rules limit s path failed part
  whole limit s part (path, run) = let f = failing run.ends in (path, f.0, record { run = run; fails = f.1 })

  module _ (once : ListsOnce rules) where
    -- runs with the same record, as many steps, and of which both fail or neither does
    alike : (s : S) (limit other : ℕ) (path again : List (Leg S M)) (failed gone : Option M) (a b : Part End) → IsWholeRun rules limit s path failed a → IsWholeRun rules other s again gone b
        → RecordTheSame a b → (again ≡ path) × (gone ≡ failed)
    alike s limit other path again failed gone a b here there same =
        let lines : here.run.numbers ++ here.run.last ≡ there.run.numbers ++ there.run.last =
        same_numbers (here.run.numbers ++ here.run.last) (there.run.numbers ++ there.run.last) (sym here.run.kept ∙ same.record_is ∙ there.run.kept) in
        let long : length path ≡ length again = sym here.run.counted ∙ same.steps ∙ there.run.counted in
        let paths : path ≡ again = one_path rules s path again here.run.numbers there.run.numbers here.run.last there.run.last here.run.is_path there.run.is_path lines long in
        let numbers : here.run.numbers ≡ there.run.numbers =
        one_record rules once s path here.run.numbers there.run.numbers here.run.is_path (subst (λ (l : List (Leg S M)). IsPath rules s l there.run.numbers) (sym paths) there.run.is_path) in
        let last : here.run.last ≡ there.run.last = behind here.run.numbers here.run.last there.run.last (lines ∙ ap (λ (l : List ℕ). l ++ there.run.last) (sym numbers)) in
        let state : last_state s again ≡ last_state s path = ap (last_state s) (sym paths) in (
          sym paths,
          sym (both_fail (last_state s path) there.run.last failed gone a.value.cause b.value.cause
              (subst (λ (l : List ℕ). FailsAt rules (last_state s path) failed l a.value.cause) last here.fails)
              (subst (λ (t : S). FailsAt rules t gone there.run.last b.value.cause) state there.fails) same.fail),
        )
      where
        behind : (xs ys zs : List ℕ) → xs ++ ys ≡ xs ++ zs → ys ≡ zs
        behind [] ys zs same = same
        behind (x ∷ xs) ys zs same = behind xs ys zs (let e : xs ++ ys ≡ xs ++ zs = cc in e)

    pub runs_and_records : RunsAndRecordsAreOneToOne rules
    runs_and_records s limit other a b run again = (forth, back)
      where
        forth : RunTheSame rules s limit a other b → RecordTheSame a b
        forth (path, failed, here, there) =
            let numbers : here.run.numbers ≡ there.run.numbers = one_record rules once s path here.run.numbers there.run.numbers here.run.is_path there.run.is_path in
            let last : here.run.last ≡ there.run.last =
            same_last (last_state s path) (once (last_state s path)) failed here.run.last there.run.last a.value.cause b.value.cause here.fails there.fails in
            record {
              record_is = here.run.kept ∙ ap (λ (l : List ℕ). flat_map record_line (l ++ here.run.last)) numbers
                  ∙ ap (λ (l : List ℕ). flat_map record_line (there.run.numbers ++ l)) last ∙ sym there.run.kept;
              steps = here.run.counted ∙ sym there.run.counted;
              fail = fail_alike (last_state s path) failed here.run.last there.run.last a.value.cause b.value.cause here.fails there.fails;
            }

        back : RecordTheSame a b → RunTheSame rules s limit a other b
        back same =
            let here = whole limit s a run in
            let there = whole other s b again in
            let is = alike s limit other here.0 there.0 here.1 there.1 a b here.2 there.2 same in
            (here.0, here.1, here.2, subst (λ (l : List (Leg S M)). IsWholeRun rules other s l here.1 b) is.0 (subst (λ (f : Option M). IsWholeRun rules other s there.0 f b) is.1 there.2))

    pub has_one : (limit : ℕ) (s : S) (part : Part End) → HasRun rules limit s part → HasOneRun rules limit s part
    has_one limit s part run =
        let here = whole limit s part run in
        record {
          path = here.0;
          failed = here.1;
          whole = here.2;
          only = λ again other there. alike s limit limit here.0 again here.1 other part part here.2 there (record { record_is = refl; steps = refl; fail = refl });
        }
