-- What a text stands for: a refusal, or a model; the session over it; what playing it answers, and what converting its choices does.
-- Hold it against docs/FORMATS.md; docs/REFUSALS.md.
use Rattle.std.specs.Prelude.{◌≡◌, ℕ, List, ◌<◌, Bool, length, Ok, ◌≢◌, ◌≤◌, true}
use Rattle.devices.specs.Holdings.{Holdings}
use Rattle.promela_session.specs.declared.ends.Options.{Options}
use Rattle.promela_session.specs.declared.ends.End.{End}
use Rattle.promela_session.specs.declared.ends.Broken.{Broken}
use Rattle.promela_session.specs.Events.{Part}
use Rattle.promela_session.specs.Devices.{Breaks, CountsBroken, Ends, failure_of, IsBrokenOff, converted, IsConvertedBy, StandsForRecord}
use Rattle.diagnostics.specs.declared.refusal.Refusal.{Refusal}
use Rattle.diagnostics.specs.declared.refusal.Refusal.TheVariants as r
use Rattle.promela_session.specs.Session.{refused, transcript, only_this, end_of}
use Rattle.pml_token.specs.Word.{Word}
use Rattle.profile.specs.declared.TheConstants.{MOST_TEXT_BYTES}
use Rattle.promela_text.specs.Tokens.{has_left_out, IsCut, IsLine, AreTokens}
use Rattle.promela_text.specs.Inlines.{Expands, IsExpanded, GoesTooDeep}
use Rattle.pml_tree.specs.declared.tree.Tree.{Tree}
use Rattle.promela_grammar.specs.Models.{Spells}
use Rattle.promela_model.specs.StandsModel.{StandsModel}
use Rattle.promela_refusals.specs.Judged.{IsFit, IsLeast}
use Rattle.pml_program.specs.declared.program.Program.{Program}
use Rattle.promela_run.specs.State.{State, first_state}
use Rattle.promela_run.specs.World.{Running, first, rules}
use Rattle.promela_session.specs.declared.form.Stream.TheVariants.{Unread}
use Rattle.promela_session.specs.declared.ends.Cause.TheVariants as cause

-- These come of the text's tokens, where the calls of inlines are replaced, and they are not too deep.
pub record AreExpanded (text : List ℕ) (expanded : List Word) : Type 0 where
  pub tokens : List Word
  pub are_tokens : AreTokens text tokens
  pub is_expanded : IsExpanded tokens expanded

-- What comes of the text's tokens spells this tree.
pub record IsSpelled (text : List ℕ) (tree : Tree) : Type 0 where
  pub expanded : List Word
  pub are_expanded : AreExpanded text expanded
  pub spells : Spells tree expanded

-- The text has a tree to which no refusal applies, and the model that it stands for begins in this state, where messages to full channels are lost or not.
pub record IsModel (text : List ℕ) (lossy : Bool) (state : Running) : Type 0 where
  pub tree : Tree
  pub is_spelled : IsSpelled text tree
  pub fits : IsFit tree
  pub program : Program
  pub stands : StandsModel tree program
  pub begun : State
  pub starts : first_state program ≡ Ok begun
  pub is : state ≡ first begun lossy

-- The text is refused so, and the refusal has this line: one of the text's, or 0 where it has none.
pub data IsRefused (text : List ℕ) : Refusal → ℕ → Type 0 where
  too_long : MOST_TEXT_BYTES < length text → IsRefused text r.TextTooLong 0
  -- the text is short enough, and no list of tokens is what it cuts into
  lexical : {line : ℕ} → length text ≤ MOST_TEXT_BYTES → ((tokens : List Word) → IsCut text tokens → ⊥) → IsLine text line → IsRefused text r.Lexical line
  -- the text cuts into tokens, one of which is left out of the language
  left_out : {tokens : List Word} {line : ℕ} → length text ≤ MOST_TEXT_BYTES → IsCut text tokens → has_left_out tokens ≡ true → IsLine text line
      → IsRefused text r.LeftOut line
  -- the text has tokens, and nothing comes of them
  inline : {tokens : List Word} → AreTokens text tokens → ((expanded : List Word) → Expands tokens expanded → ⊥) → IsRefused text r.Inline 0
  -- what comes of the text's tokens is too deep
  too_deep : {tokens : List Word} {line : ℕ} → AreTokens text tokens → GoesTooDeep tokens → IsLine text line → IsRefused text r.TooDeep line
  -- something comes of the text's tokens, and no tree spells it
  unspelled : {expanded : List Word} {line : ℕ} → AreExpanded text expanded → ((tree : Tree) → Spells tree expanded → ⊥) → IsLine text line
      → IsRefused text r.Syntax line
  -- the text has a tree, and of the refusals that apply to it this is the least
  unfit : {tree : Tree} {refusal : Refusal} → IsSpelled text tree → IsLeast tree refusal → IsRefused text refusal 0

-- The session over a text: one line where it is refused, and else that of the model that it stands for.
pub data IsTranscript (text : List ℕ) (options : Options) : (List ℕ → Part End) → Type 0 where
  of_refusal : {refusal : Refusal} {line : ℕ} → IsRefused text refusal line → IsTranscript text options (refused refusal line Unread)
  of_model : {state : Running} → IsModel text options.lossy state → IsTranscript text options (transcript rules options state)

-- a session over the text came to this end, after so many steps
pub record PlaysWhole (text : List ℕ) (options : Options) (before after : Holdings) (steps : ℕ) (end : End) : Type 0 where
  pub part : List ℕ → Part End
  pub is_transcript : IsTranscript text options part
  pub ends : Ends before after steps part end

-- a session over the text was broken off, behind a beginning of its transcript's events
pub record BreaksOff (text : List ℕ) (options : Options) (before after : Holdings) (steps : ℕ) (broken : Broken) : Type 0 where
  pub part : List ℕ → Part End
  pub is_transcript : IsTranscript text options part
  pub breaks : Breaks before after 0 steps broken part

-- a device or memory broke the session over the text off, the end says which, and the count of that device alone has risen
abbrev pub PlaysBroken : List ℕ → Options → Holdings → Holdings → End → Type 0
PlaysBroken text options before after end = (broken : Broken) × (end.cause ≡ failure_of broken)
    × BreaksOff text options before after end.steps broken × CountsBroken broken before.failures after.failures

-- ---- what converting the choices of a text answers

-- The conversion of the choices of a session over a text: nothing is done where it is refused, and else that of the model.
pub data IsConversion (text : List ℕ) (options : Options) : (List ℕ → Part End) → Type 0 where
  no_model : {refusal : Refusal} {line : ℕ} → IsRefused text refusal line → IsConversion text options (only_this (end_of (cause.Refused refusal line) 0) Unread)
  of_its_model : {state : Running} → IsModel text options.lossy state → IsConversion text options (converted (transcript rules options state))

-- the choices over the text were converted, and stand for the record
pub record ConvertsWhole (text : List ℕ) (options : Options) (before after : Holdings) (end : End) : Type 0 where
  pub part : List ℕ → Part End
  pub is_conversion : IsConversion text options part
  pub ends : Ends before after end.steps part end
  pub run : List ℕ → Part End
  pub is_transcript : IsTranscript text options run
  pub stands : IsConvertedBy before.source after.source run

-- the choices over the text were converted, or a device or memory broke the conversion off, behind a beginning of its events
pub record Converts (text : List ℕ) (options : Options) (before after : Holdings) (end : End) : Type 0 where
  pub whole : end.status ≢ 6 → ConvertsWhole text options before after end
  pub quiet : end.status ≢ 6 → after.failures ≡ before.failures
  pub broken : end.status ≡ 6 → (part : List ℕ → Part End) × IsConversion text options part × IsBrokenOff before after part end
  pub is_end : end ≡ end_of end.cause end.steps

-- whatever the choices are, what they are converted to stands for the record
abbrev pub IsAlwaysConverted : (List ℕ → Part End) → Type 0
IsAlwaysConverted transcript = (choices : List ℕ) → StandsForRecord transcript choices
