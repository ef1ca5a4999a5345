-- What the parts of playing a text answer.
use Rattle.std.specs.Prelude.{◌≡◌, ℕ, List, [], Result, Err, IfOk, MatchResult}
use Rattle.devices.specs.Holdings.{Holdings, Moved}
use Rattle.diagnostics.specs.declared.refusal.Refusal.TheVariants as refusal
use Rattle.promela_session.specs.declared.ends.Options.{Options}
use Rattle.promela_session.specs.declared.ends.End.{End}
use Rattle.promela_session.specs.declared.ends.Cause.TheVariants as cause
use Rattle.promela_session.specs.declared.ends.Broken.{Broken}
use Rattle.promela_session.specs.declared.ends.Broken.TheVariants as broken
use Rattle.promela_session.specs.Session.{end_of}
use Rattle.promela_session.specs.Events.{refusal_line}
use Rattle.session.specs.Writes.{Writes}
use Rattle.pml_lex.specs.declared.fault.LexError.{LexError}
use Rattle.pml_lex.specs.declared.fault.LexError.TheVariants as lex
use Rattle.promela_text.specs.declared.inline_fault.InlineError.{InlineError}
use Rattle.promela_text.specs.declared.inline_fault.InlineError.TheVariants as inlines
use Rattle.pml_syntax.specs.declared.program.SyntaxError.{SyntaxError}
use Rattle.pml_syntax.specs.declared.program.SyntaxError.TheVariants as syntax
use Rattle.pml_tree.specs.declared.tree.Tree.{Tree}
use Rattle.pml_program.specs.declared.program.Program.{Program}
use Rattle.promela_model.specs.StandsModel.{StandsModel}
use Rattle.promela_refusals.specs.Judged.{IsFit}
use Rattle.pml_check.specs.declared.checked.CheckFault.{CheckFault}
use Rattle.pml_check.specs.declared.checked.CheckFault.TheVariants as check
use Rattle.pml_play.specs.declared.whole.Rejection.{Rejection}
use Rattle.pml_play.specs.declared.whole.Rejection.TheVariants.{Memory, Refused}
use Rattle.pml_play.specs.Transcript.{IsSpelled, IsRefused, PlaysWhole, BreaksOff}

-- memory ran out, or the text is refused so
abbrev pub IsRejected : List ℕ → Rejection → Type 0
IsRejected text Memory = Unit {0}
IsRejected text (Refused r line) = IsRefused text r line

-- what a fault of cutting, of replacing, of reading or of the checks makes of a text
abbrev pub of_lexical : LexError → Rejection
of_lexical lex.Memory = Memory
of_lexical lex.TooLong = Refused refusal.TextTooLong 0
of_lexical (lex.Lexical line) = Refused refusal.Lexical line
of_lexical (lex.LeftOut line) = Refused refusal.LeftOut line

abbrev pub of_inline : InlineError → Rejection
of_inline inlines.Memory = Memory
of_inline (inlines.Inline misuse) = Refused refusal.Inline 0
of_inline (inlines.TooDeep line limit) = Refused refusal.TooDeep line

abbrev pub of_syntax : SyntaxError → Rejection
of_syntax syntax.Memory = Memory
of_syntax (syntax.Syntax line) = Refused refusal.Syntax line

abbrev pub of_check : CheckFault → Rejection
of_check check.Memory = Memory
of_check (check.Refused r) = Refused r 0

-- the text has a tree that fits all conditions, and this is the model that it stands for
pub record IsReady (text : List ℕ) (p : Program) : Type 0 where
  pub tree : Tree
  pub is_spelled : IsSpelled text tree
  pub fits : IsFit tree
  pub stands : StandsModel tree p

-- what is written of a rejected text, and how its session ends
abbrev pub Rejects : Rejection → Result End Broken → Holdings → Holdings → Type 0
Rejects Memory result before after = (result ≡ Err broken.Memory) × Moved before after [] [] []
Rejects (Refused r line) result before after =
    Writes result before after (refusal_line r) × IfOk result (λ end. end ≡ end_of (cause.Refused r line) 0)

-- a session over the text came to its end, or was broken off
abbrev pub PlaysText : List ℕ → Options → Result End Broken → Holdings → Holdings → ℕ → Type 0
PlaysText text options r before after steps = MatchResult r (PlaysWhole text options before after steps) (BreaksOff text options before after steps)
