-- The verdicts on a text: the refusal of `play`, then that of the text without the body in which it lies, and so on.
use Rattle.std.specs.Prelude.{◌≡◌, ℕ, zero, suc, nat_le, if◌then◌else◌, List, [], ◌∷◌, length, Option, Some, None}
use Rattle.explain_cause.specs.declared.cause.Segment.{Segment}
use Rattle.text_parts.specs.Rest.{IsRest}
use Rattle.model_verdicts.specs.declared.all.TheConstants.{MOST_BYTES, MOST_VERDICTS}
use Rattle.model_verdicts.specs.declared.verdict.Verdict.{Verdict}
use Rattle.model_verdicts.specs.Verdicts.{IsPlayed, IsRefusedSo}

-- how many refusals of a text are told at most
abbrev pub most_for : List ℕ → ℕ
most_for text = if nat_le (length text) MOST_BYTES then MOST_VERDICTS else 1

-- the text without the body in which a place lies
abbrev pub IsWithout : List ℕ → Option Segment → Option (List ℕ) → Type 0
IsWithout text None rest = rest ≡ None
IsWithout text (Some p) rest = IsRest text p.offset rest

-- the text without the body in which a refusal lies
abbrev pub IsBehind : List ℕ → Verdict → Option (List ℕ) → Type 0
IsBehind text v rest = IsWithout text v.place rest

-- more verdicts are told of what is left, if something is
abbrev pub AreMore : (List ℕ → List Verdict → Type 0) → Option (List ℕ) → List Verdict → Type 0
AreMore told None vs = vs ≡ []
AreMore told (Some text) vs = told text vs

-- how a text is refused, and what is told of the rest
pub record AreTold (told : List ℕ → List Verdict → Type 0) (text : List ℕ) (v : Verdict) (vs : List Verdict) : Type 0 where
  pub is_refused : IsRefusedSo text v
  pub rest : Option (List ℕ)
  pub is_behind : IsBehind text v rest
  pub more : AreMore told rest vs

-- So many at most, and none of a text that is played.
abbrev pub AreVerdicts : ℕ → List ℕ → List Verdict → Type 0
AreVerdicts zero text vs = vs ≡ []
AreVerdicts (suc n) text [] = IsPlayed text
AreVerdicts (suc n) text (v ∷ vs) = AreTold (AreVerdicts n) text v vs
