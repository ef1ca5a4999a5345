-- The expansion, from its parts.
use Rattle.std.proofs.Common.{◌≡◌, ℕ, Bool, true, false, cond, List, [], map, Option, Some, None, refl, ap, sym, subst, ◌∙◌}
use Rattle.pml_token.specs.Word.{Word}
use Rattle.promela_text.specs.Tokens.{IsTooDeep}
use Rattle.promela_text.specs.declared.inline_fault.InlineError.{InlineError}
use Rattle.promela_text.specs.declared.inline_fault.InlineError.TheVariants.{Memory, Inline as Misused, TooDeep}
use Rattle.promela_text.specs.Inlines.{Inline, all_differ, Expands, IsExpanded}
use Rattle.pml_inline.specs.Expansion.{definitions, texts, limited, expansion, Given}
use Rattle.pml_inline.proofs.Words.{by_definitions}
use Rattle.pml_inline.proofs.Expanding.{are_expansions}
use Rattle.pml_inline.specs.Least.{IsLeast, IsFaultOnLine}
use Rattle.pml_inline.specs.Parts.{IsUndefined, IsRepeated}
use Rattle.pml_inline.specs.Texts.{IsMisread}

pub expansion_is : (ts : List Word) (ds : List Inline) → definitions ts 0 ≡ Some ds → all_differ (map (λ d. d.name) ds) ≡ true → expansion ts ≡ limited (texts ts [] ds 0 0)
unfolding expansion
expansion_is ts ds e f = ap (by_definitions ts) e ∙ ap (λ (b : Bool). cond b (limited (texts ts [] ds 0 0)) None) f

expansion_repeated : (ts : List Word) (ds : List Inline) → definitions ts 0 ≡ Some ds → all_differ (map (λ d. d.name) ds) ≡ false → expansion ts ≡ None
unfolding expansion
expansion_repeated ts ds e f = ap (by_definitions ts) e ∙ ap (λ (b : Bool). cond b (limited (texts ts [] ds 0 0)) None) f

expansion_undefined : (ts : List Word) → definitions ts 0 ≡ None → expansion ts ≡ None
unfolding expansion
expansion_undefined ts e = ap (by_definitions ts) e

none : {us : List Word} → None ≡ Some us → ⊥
none e = cc

some : {us vs : List Word} → Some us ≡ Some vs → us ≡ vs
some e = cc

no_result : (ts : List Word) → expansion ts ≡ None → (us : List Word) → Expands ts us → ⊥
no_result ts e us f = none (sym e ∙ are_expansions ts us f)

pub one_result : (ts us vs : List Word) → Expands ts us → Expands ts vs → us ≡ vs
one_result ts us vs e f = some (sym (are_expansions ts us e) ∙ are_expansions ts vs f)

pub least_undefined : (ts : List Word) (f : InlineError) → IsUndefined ts f → IsLeast ts f
least_undefined ts Memory h = tt
least_undefined ts (Misused misuse) h = λ us e. no_result ts (expansion_undefined ts h) us e
least_undefined ts (TooDeep line limit) h = absurd h

pub least_repeated : (ts : List Word) (ds : List Inline) (f : InlineError) → definitions ts 0 ≡ Some ds → IsRepeated ds f → IsLeast ts f
least_repeated ts ds Memory e h = tt
least_repeated ts ds (Misused misuse) e h = λ us g. no_result ts (expansion_repeated ts ds e h) us g
least_repeated ts ds (TooDeep line limit) e h = absurd h

pub least_misread : (ts : List Word) (ds : List Inline) (f : InlineError) → definitions ts 0 ≡ Some ds → all_differ (map (λ d. d.name) ds) ≡ true → IsMisread (texts ts [] ds 0 0) f → IsLeast ts f
least_misread ts ds Memory e d h = tt
least_misread ts ds (Misused misuse) e d h = λ us g. no_result ts (expansion_is ts ds e d ∙ h) us g
least_misread ts ds (TooDeep line limit) e d h = absurd h

-- where something is answered, no other fault stands
pub only_memory : (ts us : List Word) (f : InlineError) → IsExpanded ts us → IsLeast ts f → f ≡ Memory
only_memory ts us Memory x h = refl
only_memory ts us (Misused misuse) x h = absurd (h us x.expands)
only_memory ts us (TooDeep line limit) x h = absurd (x.shallow (deep_same h.deep (one_result ts h.given us h.expands x.expands)))
  where
    deep_same : {vs ws : List Word} → IsTooDeep vs → vs ≡ ws → IsTooDeep ws
    deep_same {vs} {ws} h e = subst (λ (x : List Word). IsTooDeep x) e h

pub line_undefined : (most : ℕ) (ts : List Word) (f : InlineError) → IsUndefined ts f → IsFaultOnLine most f
line_undefined most ts Memory h = tt
line_undefined most ts (Misused misuse) h = tt
line_undefined most ts (TooDeep line limit) h = absurd h

pub line_repeated : (most : ℕ) (ds : List Inline) (f : InlineError) → IsRepeated ds f → IsFaultOnLine most f
line_repeated most ds Memory h = tt
line_repeated most ds (Misused misuse) h = tt
line_repeated most ds (TooDeep line limit) h = absurd h

pub line_misread : (most : ℕ) (r : Option Given) (f : InlineError) → IsMisread r f → IsFaultOnLine most f
line_misread most r Memory h = tt
line_misread most r (Misused misuse) h = tt
line_misread most r (TooDeep line limit) h = absurd h
