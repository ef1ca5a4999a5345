-- Steps and pieces that are broken off.
use Rattle.std.proofs.Common.{◌≡◌, ℕ, ◌+◌, List, [], ◌∷◌, take, Result, refl, sym, add-zero}
use Rattle.devices.specs.Holdings.{Holdings, Moved}
use Rattle.diagnostics.specs.declared.fault.Fault.{Fault}
use Rattle.promela_session.specs.declared.ends.Options.{Options}
use Rattle.promela_session.specs.declared.ends.Broken.{Broken}
use Rattle.promela_session.specs.declared.ends.Broken.TheVariants as broken
use Rattle.promela_session.specs.Events.{Put, Told, Stepped, fault_line}
use Rattle.promela_machine.specs.Machine.{Rules, Goes, Faults}
use Rattle.promela_session.specs.Session.{stepped, step_text}
use Rattle.session.specs.Writes.{Writes, WriteBreaks, StepBreaks}
use Rattle.session.proofs.Moving.{Moved-piece}

module _ {S M : Type 0} (rules : Rules S M) (options : Options) (s : S) (m : M) (steps : ℕ) {a b : Holdings} where
  -- nothing was done
  pub step_refused : Moved a b [] [] [] → StepBreaks broken.Memory rules options s m steps steps a b
  step_refused none = record {
    done = [];
    no_byte = refl;
    moved = record { moved = none; count = sym (add-zero steps); readable = refl };
    begins = λ later stream left. (_, refl);
  }

  -- the step was taken, and nothing of its text was written for want of memory
  pub step_untold : (t : S) (printed : List ℕ) → rules.step s m ≡ Goes t printed → Moved a b [] [] [] → StepBreaks broken.Memory rules options s m steps (steps + 1) a b
  unfolding stepped
  step_untold t printed goes none = record {
    done = Stepped ∷ [];
    no_byte = refl;
    moved = record { moved = none; count = refl; readable = refl };
    begins = λ later stream left. rw goes (_, refl);
  }

  -- its text was broken off
  pub step_cut : (e : Broken) (t : S) (printed text : List ℕ) → rules.step s m ≡ Goes t printed → text ≡ step_text rules options s m (steps + 1) t printed → WriteBreaks e a b text
      → StepBreaks e rules options s m steps (steps + 1) a b
  unfolding stepped
  step_cut broken.Memory t printed text goes is none = step_untold t printed goes none
  step_cut broken.Source t printed text goes is never = absurd never
  step_cut broken.Record t printed text goes is never = absurd never
  step_cut broken.Out t printed text goes is took = record {
    done = Stepped ∷ Put Told (take took.0 text) ∷ [];
    no_byte = refl;
    moved = record { moved = Moved-piece (take took.0 text) took.2; count = refl; readable = refl };
    begins = λ later stream left. rw (goes, ← is) (Stepped ∷ [], Told, text, took.0, _, took.1, refl, refl);
  }

  -- the line of a fault was broken off
  pub fault_cut : (e : Broken) (f : Fault) (text : List ℕ) → rules.step s m ≡ Faults f → text ≡ fault_line f (steps + 1) (rules.text s m) → WriteBreaks e a b text
      → StepBreaks e rules options s m steps steps a b
  unfolding stepped
  fault_cut broken.Memory f text faults is none = step_refused none
  fault_cut broken.Source f text faults is never = absurd never
  fault_cut broken.Record f text faults is never = absurd never
  fault_cut broken.Out f text faults is took = record {
    done = Put Told (take took.0 text) ∷ [];
    no_byte = refl;
    moved = record { moved = Moved-piece (take took.0 text) took.2; count = sym (add-zero steps); readable = refl };
    begins = λ later stream left. rw (faults, ← is) ([], Told, text, took.0, _, took.1, refl, refl);
  }

-- a piece was written, or broken off
pub writes_same : {T : Type 0} (r : Result T Broken) (a b : Holdings) (text piece : List ℕ) → text ≡ piece → Writes r a b text → Writes r a b piece
writes_same r a b text piece is writes = rw (← is) writes
