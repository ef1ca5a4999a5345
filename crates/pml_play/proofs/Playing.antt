-- From what the parts of playing a text answer to what the whole does.
use Rattle.std.proofs.Common.{◌≡◌, ℕ, ◌≤◌, Bool, List, Result, Ok, Err, refl, sym, subst, arith}
use Rattle.std.specs.Prelude.{All}
use Rattle.devices.specs.Holdings.{Holdings}
use Rattle.promela_session.specs.declared.ends.Options.{Options}
use Rattle.promela_session.specs.declared.ends.End.{End}
use Rattle.promela_session.specs.declared.ends.Cause.TheVariants as cause
use Rattle.promela_session.specs.declared.ends.Broken.{Broken}
use Rattle.promela_session.specs.declared.ends.Broken.TheVariants as broken
use Rattle.promela_session.specs.Session.{only_this, end_of, refused, transcript}
use Rattle.promela_session.specs.Devices.{Breaks}
use Rattle.promela_session.specs.Events.{refusal_line}
use Rattle.session.specs.Writes.{Runs}
use Rattle.session.proofs.Parts.{Leads-does, puts, memory_breaks, only_does}
use Rattle.session.proofs.Turns.{write_breaks}
use Rattle.pml_token.specs.Word.{Word}
use Rattle.promela_text.specs.Tokens.{line_behind, IsOnLine, AreTokens}
use Rattle.pml_lex.specs.Rows.{AreOnLines}
use Rattle.pml_lex.specs.Divided.{IsLeast}
use Rattle.pml_lex.specs.declared.fault.LexError.{LexError}
use Rattle.pml_lex.specs.declared.fault.LexError.TheVariants as lex
use Rattle.promela_text.specs.declared.inline_fault.InlineError.{InlineError}
use Rattle.promela_text.specs.declared.inline_fault.InlineError.TheVariants as inlines
use Rattle.pml_inline.specs.Least.{IsLeast as inline_least, IsFaultOnLine}
use Rattle.pml_inline.proofs.Keeping.{kept}
use Rattle.pml_tree.specs.declared.tree.Tree.{Tree}
use Rattle.pml_syntax.specs.declared.program.SyntaxError.{SyntaxError}
use Rattle.pml_syntax.specs.declared.program.SyntaxError.TheVariants as syntax
use Rattle.promela_grammar.specs.Models.{Spells}
use Rattle.pml_syntax.specs.Answer.{Answers}
use Rattle.pml_check.specs.declared.checked.CheckFault.{CheckFault}
use Rattle.pml_check.specs.declared.checked.CheckFault.TheVariants as check
use Rattle.pml_check.specs.Checked.{IsRefused}
use Rattle.promela_refusals.specs.Judged.{IsFit}
use Rattle.pml_program.specs.declared.program.Program.{Program}
use Rattle.promela_model.specs.StandsModel.{StandsModel}
use Rattle.pml_play.specs.declared.whole.Rejection.{Rejection}
use Rattle.pml_play.specs.declared.whole.Rejection.TheVariants.{Memory, Refused}
use Rattle.promela_run.specs.World.{Running, rules}
use Rattle.pml_sim.specs.Lent.{IsFirst}
use Rattle.pml_play.specs.Transcript.{AreExpanded, IsSpelled, IsModel, too_long, lexical, left_out, inline, too_deep, unspelled, unfit, of_refusal, of_model, PlaysWhole}
use Rattle.pml_play.specs.Parts.{IsReady, IsRejected, of_lexical, of_inline, of_syntax, of_check, Rejects, PlaysText}
use Rattle.pml_lex.proofs.Lines.{token_lines}
use Rattle.pml_play.proofs.Each.{has_transcript}
use Rattle.promela_session.specs.declared.form.Stream.TheVariants.{Unread}

-- ---- reading

pub rejected_lexical : (text : List ℕ) (fault : LexError) → IsLeast text fault → IsRejected text (of_lexical fault)
rejected_lexical text lex.Memory h = tt
rejected_lexical text lex.TooLong h = too_long h
rejected_lexical text (lex.Lexical line) h = lexical h.short h.never h.on_line
rejected_lexical text (lex.LeftOut line) h = left_out h.short h.are_cut h.left_out h.on_line

-- what comes of tokens on lines of the text is on lines of it
expanded_lines : (text : List ℕ) (us : List Word) → AreExpanded text us → AreOnLines (line_behind text) us
expanded_lines text us a = kept (λ w. IsOnLine (line_behind text) w.line) a.tokens us (token_lines text a.tokens a.are_tokens.are_cut) a.is_expanded.expands

pub rejected_inline : (text : List ℕ) (ts : List Word) (fault : InlineError) → AreTokens text ts → inline_least ts fault
    → ((most : ℕ) → AreOnLines most ts → IsFaultOnLine most fault) → IsRejected text (of_inline fault)
rejected_inline text ts inlines.Memory are least line = tt
rejected_inline text ts (inlines.Inline misuse) are least line = inline are least
rejected_inline text ts (inlines.TooDeep at limit) are least line = too_deep are least (line (line_behind text) (token_lines text ts are.are_cut))

pub rejected_syntax : (text : List ℕ) (us : List Word) (fault : SyntaxError) → AreExpanded text us → ((t : Tree) → Spells t us → Answers t (Err fault))
    → ((most : ℕ) → 1 ≤ most → All (λ w. IsOnLine most w.line) us → (at : ℕ) → ◌≡◌ {A = Result Tree SyntaxError} (Err fault) (Err (syntax.Syntax at)) → IsOnLine most at) → IsRejected text (of_syntax fault)
rejected_syntax text us syntax.Memory are none line = tt
rejected_syntax text us (syntax.Syntax at) are none line =
    unspelled are none (line (line_behind text) (omega arith) (expanded_lines text us are) at refl)

pub rejected_check : (text : List ℕ) (t : Tree) (fault : CheckFault) → IsSpelled text t → IsRefused t fault → IsRejected text (of_check fault)
rejected_check text t check.Memory is h = tt
rejected_check text t (check.Refused r) is h = unfit is h

-- what the check answers is the model that the tree stands for
pub is_ready : (text : List ℕ) (t : Tree) (p : Program) → IsSpelled text t → IsFit t → StandsModel t p → IsReady text p
is_ready text t p is fits stands = record { tree = t; is_spelled = is; fits = fits; stands = stands }

-- ---- a rejected text

module _ (text : List ℕ) (options : Options) (a b : Holdings) where
  rejected : (rejection : Rejection) (result : Result End Broken) → IsRejected text rejection → Rejects rejection result a b → PlaysText text options result a b 0
  rejected Memory (Ok end) is h = absurd (let w = h.0 in cc)
  rejected Memory (Err e) is h =
      let t = has_transcript text options in
      let e_is : e ≡ broken.Memory = (let w = h.0 in cc) in
      record { part = t.0; is_transcript = t.1; breaks = subst (λ (x : Broken). Breaks a b 0 0 x t.0) (sym e_is) (memory_breaks t.0 h.1) }
  rejected (Refused r line) (Ok end) is h = subst (λ (x : End). PlaysWhole text options a b 0 x) (sym h.1) (record {
    part = refused r line Unread;
    is_transcript = of_refusal is;
    ends = (Unread, Leads-does (puts (refusal_line r) (only_this (end_of (cause.Refused r line) 0) Unread) h.0) (only_does (end_of (cause.Refused r line) 0) Unread));
  })
  rejected (Refused r line) (Err e) is h = record {
    part = refused r line Unread;
    is_transcript = of_refusal is;
    breaks = write_breaks e (refusal_line r) (only_this (end_of (cause.Refused r line) 0) Unread) h.0;
  }

  pub rejected_plays : (n : ℕ) (rejection : Rejection) (result : Result End Broken) → n ≡ 0 → IsRejected text rejection → Rejects rejection result a b → PlaysText text options result a b n
  rejected_plays n rejection result zero is h = subst (λ (m : ℕ). PlaysText text options result a b m) (sym zero) (rejected rejection result is h)

  -- a text that is a model
  pub model_plays : (n : ℕ) (result : Result End Broken) (state : Running) → IsModel text options.lossy state → Runs result a b n (transcript rules options state) → PlaysText text options result a b n
  model_plays n (Ok end) state is h = record { part = transcript rules options state; is_transcript = of_model is; ends = h }
  model_plays n (Err e) state is h = record { part = transcript rules options state; is_transcript = of_model is; breaks = h }

-- ---- a model

-- a ready model begins with its first state
pub is_model : (text : List ℕ) (p : Program) (lossy : Bool) (w : Running) → IsReady text p → IsFirst p lossy w → IsModel text lossy w
is_model text p lossy w ready first = record {
  tree = ready.tree;
  is_spelled = ready.is_spelled;
  fits = ready.fits;
  program = p;
  stands = ready.stands;
  begun = first.begun;
  starts = first.starts;
  is = first.is;
}
