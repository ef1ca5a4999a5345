-- A text whose renaming is checked.
use Rattle.std.proofs.Common.{◌≡◌, ℕ, List, length, sym, subst, Bool, true, false, Option, Some, None, is_some, IfOk, Ok, Err}
use Rattle.std.specs.Prelude.{Result}
use Rattle.std.proofs.lemmas.Bool.{true≢false}
use Rattle.declared_names.specs.declared.occurrence.Occurrence.{Occurrence}
use Rattle.model_names.specs.Told.{AreMeant}
use Rattle.model_verdicts.specs.declared.verdict.Verdict.{Verdict}
use Rattle.model_verdicts.specs.Verdicts.{IsPlayed, IsVerdict}
use Rattle.model_verdicts.specs.declared.renaming.Renaming.{Renaming}
use Rattle.model_verdicts.specs.Renamed.{IsReplaced, IsValid, IsRenaming}

pub played_of : (text : List ℕ) (o : Option Verdict) → IsVerdict text o → is_some o ≡ false → IsPlayed text
played_of text None h e = h
played_of text (Some v) h e = absurd (true≢false e)

pub renamed_by : {E F : Type 0} (text name : List ℕ) (before : List Occurrence) (r : Renaming) → IsPlayed text → AreMeant text before → IsReplaced text name r → (answer : Result (Result Renaming E) F) → IfOk answer (λ a. IfOk a (λ v. (v ≡ r) × IsValid before (length name) v)) → IfOk answer (λ a. IfOk a (IsRenaming text name))
renamed_by text name before r p m is (Err e) h = tt
renamed_by text name before r p m is (Ok (Err e)) h = tt
renamed_by text name before r p m is (Ok (Ok v)) h = record {
  played = p;
  replaced = subst (λ w. IsReplaced text name w) (sym h.0) is;
  before = before;
  are_meant = m;
  valid = h.1;
}
