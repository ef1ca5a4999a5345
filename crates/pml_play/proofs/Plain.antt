-- A text without the word `inline` is taken as it stands.
use Rattle.std.proofs.Common.{◌≡◌, ℕ, List, inl, inr, refl, sym, subst}
use Rattle.diagnostics.specs.declared.refusal.Refusal.{Refusal}
use Rattle.diagnostics.specs.declared.refusal.Refusal.TheVariants as r
use Rattle.pml_token.specs.Word.{Word}
use Rattle.promela_text.specs.Tokens.{IsTooDeep, IsLine, AreTokens}
use Rattle.pml_lex.proofs.Steps.{one_list}
use Rattle.promela_text.specs.Inlines.{Expands}
use Rattle.pml_inline.proofs.Whole.{one_result}
use Rattle.pml_inline.proofs.Unchanged.{own_expansion}
use Rattle.pml_tree.specs.declared.tree.Tree.{Tree}
use Rattle.promela_model.specs.declared.mark.Mark.{Mark}
use Rattle.pml_program.specs.declared.program.Program.{Program}
use Rattle.promela_grammar.specs.Models.{Spells}
use Rattle.promela_refusals.specs.Judged.{AppliesTo}
use Rattle.pml_play.specs.Transcript.{AreExpanded, IsSpelled, IsRefused}
use Rattle.pml_play.proofs.Refusing.{Refuses, too_long, lexical, left_out, inline, too_deep, unspelled, unfit, reason, refused_by}
use Rattle.pml_play.specs.Plain.{ArePlain, SpellItself, SpellNothing, SayTheSame}

-- none of these is asked of a tree
never_too_deep : (x : Refusal) (ms : List Mark) (p : Program) → AppliesTo x ms p → x ≡ r.TooDeep → ⊥
unfolding AppliesTo
never_too_deep x ms p a is = by_case (subst (λ (y : Refusal). AppliesTo y ms p) is a)
  where
    by_case : AppliesTo r.TooDeep ms p → ⊥
    by_case (inl b) = b
    by_case (inr b) = b

never_syntax : (x : Refusal) (ms : List Mark) (p : Program) → AppliesTo x ms p → x ≡ r.Syntax → ⊥
unfolding AppliesTo
never_syntax x ms p a is = by_case (subst (λ (y : Refusal). AppliesTo y ms p) is a)
  where
    by_case : AppliesTo r.Syntax ms p → ⊥
    by_case (inl b) = b
    by_case (inr b) = b

never_inline : (x : Refusal) (ms : List Mark) (p : Program) → AppliesTo x ms p → x ≡ r.Inline → ⊥
unfolding AppliesTo
never_inline x ms p a is = by_case (subst (λ (y : Refusal). AppliesTo y ms p) is a)
  where
    by_case : AppliesTo r.Inline ms p → ⊥
    by_case (inl b) = b
    by_case (inr b) = b

module _ {text : List ℕ} {ts : List Word} (plain : ArePlain text ts) where
  own : Expands ts ts
  own = own_expansion ts plain.no_inline

  -- the text's tokens come of themselves
  comes : {us vs : List Word} → AreTokens text us → Expands us vs → vs ≡ ts
  comes {us} {vs} a e = one_result ts vs ts (subst (λ (l : List Word). Expands l vs) (one_list text us ts a.are_cut plain.are_tokens.are_cut) e) own

  own_expanded : (IsTooDeep ts → ⊥) → AreExpanded text ts
  own_expanded shallow = record { tokens = ts; are_tokens = plain.are_tokens; is_expanded = record { expands = own; shallow = shallow } }

  expanded_is : {us : List Word} → AreExpanded text us → us ≡ ts
  expanded_is a = comes a.are_tokens a.is_expanded.expands

  is_shallow : {us : List Word} → AreExpanded text us → IsTooDeep ts → ⊥
  is_shallow {us} a deep = a.is_expanded.shallow (subst (λ (l : List Word). IsTooDeep l) (sym (expanded_is a)) deep)

  itself : {tree : Tree} → IsSpelled text tree → SpellItself ts tree
  itself {tree} s = record { shallow = is_shallow s.are_expanded; spells = subst (λ (l : List Word). Spells tree l) (expanded_is s.are_expanded) s.spells }

  is_spelled : {tree : Tree} → SpellItself ts tree → IsSpelled text tree
  is_spelled s = record { expanded = ts; are_expanded = own_expanded s.shallow; spells = s.spells }

  pub plain_tree : (tree : Tree) → SayTheSame (IsSpelled text tree) (SpellItself ts tree)
  plain_tree tree = (itself, is_spelled)

  deep_of : {a : Refusal} {line : ℕ} → Refuses text a line → a ≡ r.TooDeep → IsTooDeep ts × IsLine text line
  deep_of (too_long h) is = absurd cc
  deep_of (lexical h) is = absurd cc
  deep_of (left_out h) is = absurd cc
  deep_of (inline h) is = absurd cc
  deep_of (too_deep h) is = (subst (λ (l : List Word). IsTooDeep l) (comes h.are_tokens h.deep.expands) h.deep.deep, h.on_line)
  deep_of (unspelled h) is = absurd cc
  deep_of {a} (unfit h) is = absurd (never_too_deep a _ _ h.least.applies.applies is)

  pub plain_too_deep : (line : ℕ) → SayTheSame (IsRefused text r.TooDeep line) (IsTooDeep ts × IsLine text line)
  plain_too_deep line = (
    λ h. deep_of (reason h) refl,
    λ h. refused_by (too_deep (record { tokens = ts; are_tokens = plain.are_tokens; deep = record { given = ts; expands = own; deep = h.0 }; on_line = h.1 })),
  )

  unspelled_of : {a : Refusal} {line : ℕ} → Refuses text a line → a ≡ r.Syntax → SpellNothing ts × IsLine text line
  unspelled_of (too_long h) is = absurd cc
  unspelled_of (lexical h) is = absurd cc
  unspelled_of (left_out h) is = absurd cc
  unspelled_of (inline h) is = absurd cc
  unspelled_of (too_deep h) is = absurd cc
  unspelled_of (unspelled h) is =
      (record { shallow = is_shallow h.are_expanded; none = λ t s. h.none t (subst (λ (l : List Word). Spells t l) (sym (expanded_is h.are_expanded)) s) }, h.on_line)
  unspelled_of {a} (unfit h) is = absurd (never_syntax a _ _ h.least.applies.applies is)

  pub plain_syntax : (line : ℕ) → SayTheSame (IsRefused text r.Syntax line) (SpellNothing ts × IsLine text line)
  plain_syntax line = (λ h. unspelled_of (reason h) refl, λ h. refused_by (unspelled (record { expanded = ts; are_expanded = own_expanded h.0.shallow; none = h.0.none; on_line = h.1 })))

  right : {a : Refusal} {line : ℕ} → Refuses text a line → a ≡ r.Inline → ⊥
  right (too_long h) is = cc
  right (lexical h) is = cc
  right (left_out h) is = cc
  right (inline h) is = h.none ts (subst (λ (l : List Word). Expands l ts) (one_list text ts h.tokens plain.are_tokens.are_cut h.are_tokens.are_cut) own)
  right (too_deep h) is = cc
  right (unspelled h) is = cc
  right {a} (unfit h) is = never_inline a _ _ h.least.applies.applies is

  pub plain_right : (line : ℕ) → IsRefused text r.Inline line → ⊥
  plain_right line h = right (reason h) refl
