-- Why a text is refused, each reason as one record.
use Rattle.std.specs.Prelude.{ℕ, ◌<◌, List, length}
use Rattle.profile.specs.declared.TheConstants.{MOST_TEXT_BYTES}
use Rattle.diagnostics.specs.declared.refusal.Refusal.{Refusal}
use Rattle.diagnostics.specs.declared.refusal.Refusal.TheVariants as r
use Rattle.pml_token.specs.Word.{Word}
use Rattle.promela_text.specs.Tokens.{IsLine, AreTokens}
use Rattle.pml_lex.specs.Divided.{CannotBeCut, HoldsLeftOut}
use Rattle.promela_text.specs.Inlines.{Expands, GoesTooDeep}
use Rattle.pml_tree.specs.declared.tree.Tree.{Tree}
use Rattle.promela_grammar.specs.Models.{Spells}
use Rattle.promela_refusals.specs.Judged.{IsLeast}
use Rattle.pml_play.specs.Transcript.{AreExpanded, IsSpelled, IsRefused}
use Rattle.pml_play.specs.Transcript as told

-- The text has tokens, and nothing comes of them.
pub record HasNoExpansion (text : List ℕ) : Type 0 where
  pub tokens : List Word
  pub are_tokens : AreTokens text tokens
  pub none : (expanded : List Word) → Expands tokens expanded → ⊥

-- What comes of the text's tokens is too deep.
pub record ExpandsTooDeep (text : List ℕ) (line : ℕ) : Type 0 where
  pub tokens : List Word
  pub are_tokens : AreTokens text tokens
  pub deep : GoesTooDeep tokens
  pub on_line : IsLine text line

-- Something comes of the text's tokens, and no tree spells it.
pub record IsUnspelled (text : List ℕ) (line : ℕ) : Type 0 where
  pub expanded : List Word
  pub are_expanded : AreExpanded text expanded
  pub none : (tree : Tree) → Spells tree expanded → ⊥
  pub on_line : IsLine text line

-- The text has a tree, and of the refusals that apply to it this is the least.
pub record IsUnfit (text : List ℕ) (refusal : Refusal) : Type 0 where
  pub tree : Tree
  pub is_spelled : IsSpelled text tree
  pub least : IsLeast tree refusal

-- The text is refused so, at this line.
pub data Refuses (text : List ℕ) : Refusal → ℕ → Type 0 where
  too_long : MOST_TEXT_BYTES < length text → Refuses text r.TextTooLong 0
  lexical : {line : ℕ} → CannotBeCut text line → Refuses text r.Lexical line
  left_out : {line : ℕ} → HoldsLeftOut text line → Refuses text r.LeftOut line
  inline : HasNoExpansion text → Refuses text r.Inline 0
  too_deep : {line : ℕ} → ExpandsTooDeep text line → Refuses text r.TooDeep line
  unspelled : {line : ℕ} → IsUnspelled text line → Refuses text r.Syntax line
  unfit : {refusal : Refusal} → IsUnfit text refusal → Refuses text refusal 0

pub reason : {t : List ℕ} {x : Refusal} {line : ℕ} → IsRefused t x line → Refuses t x line
reason (told.too_long h) = too_long h
reason (told.lexical short never on) = lexical (record { short = short; never = never; on_line = on })
reason (told.left_out {tokens} short are left on) = left_out (record { short = short; tokens = tokens; are_cut = are; left_out = left; on_line = on })
reason (told.inline {tokens} are none) = inline (record { tokens = tokens; are_tokens = are; none = none })
reason (told.too_deep {tokens} are deep on) = too_deep (record { tokens = tokens; are_tokens = are; deep = deep; on_line = on })
reason (told.unspelled {expanded} are none on) = unspelled (record { expanded = expanded; are_expanded = are; none = none; on_line = on })
reason (told.unfit {tree} is least) = unfit (record { tree = tree; is_spelled = is; least = least })

pub refused_by : {t : List ℕ} {x : Refusal} {line : ℕ} → Refuses t x line → IsRefused t x line
refused_by (too_long h) = told.too_long h
refused_by (lexical h) = told.lexical h.short h.never h.on_line
refused_by (left_out h) = told.left_out h.short h.are_cut h.left_out h.on_line
refused_by (inline h) = told.inline h.are_tokens h.none
refused_by (too_deep h) = told.too_deep h.are_tokens h.deep h.on_line
refused_by (unspelled h) = told.unspelled h.are_expanded h.none h.on_line
refused_by (unfit h) = told.unfit h.is_spelled h.least
