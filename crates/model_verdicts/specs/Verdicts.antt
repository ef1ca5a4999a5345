-- The verdict on a text: it is played, or refused, and where that is told.
use Rattle.std.specs.Prelude.{ℕ, List, Option, Some, None, IfSome}
use Rattle.pml_program.specs.declared.program.Program.{Program}
use Rattle.pml_play.specs.Transcript.{IsRefused}
use Rattle.pml_play.specs.Parts.{IsReady}
use Rattle.explain_find.specs.Told.{IsTold}
use Rattle.model_verdicts.specs.declared.verdict.Verdict.{Verdict}

-- a text that `play` plays: it stands for a model
pub record IsPlayed (text : List ℕ) : Type 0 where
  pub model : Program
  pub is_ready : IsReady text model

-- a text that `play` refuses so, at a place that is told of this refusal
pub record IsRefusedSo (text : List ℕ) (v : Verdict) : Type 0 where
  pub line : ℕ
  pub is_refused : IsRefused text v.refusal line
  pub is_told : IfSome v.place (IsTold text v.refusal)

abbrev pub IsVerdict : List ℕ → Option Verdict → Type 0
IsVerdict text None = IsPlayed text
IsVerdict text (Some v) = IsRefusedSo text v
