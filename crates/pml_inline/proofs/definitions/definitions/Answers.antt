use Rattle.std.proofs.Common.{◌≡◌, ◌∙◌, ◌+◌, ◌≤◌, ◌<◌, ◌++◌, ◌∷◌, [], ℕ, true, List, ap, sym, drop, length, arith}
use Rattle.std.proofs.lemmas.List.{map-append, get_or_default}
use Rattle.std.proofs.lemmas.List.Elements.{All-same, All-push}
use Rattle.pml_inline.specs.declared.definitions.Definition.{Definition}
use Rattle.promela_text.specs.Inlines.{is_inline, Inline}
use Rattle.pml_inline.specs.Expansion.{definitions}
use Rattle.pml_inline.specs.Places.{no_word, word_at}
use Rattle.pml_inline.specs.Parts.{inline_of, inlines_of, IsMarked, IsDefinition}
use Rattle.pml_inline.proofs.Lists.{after_inlines, defined_at}
use Rattle.pml_inline.proofs.Steps.{some_of}
use Rattle.pml_inline.proofs.definitions.definitions.Goals as goal

pub loop-at-preserved-then-is_inline : goal.loop-at-preserved-then-is_inline
loop-at-preserved-then-is_inline c =
    let ts = c.args.tokens.now in
    let at = c.loop-at.at in
    let d = c.in-Some.definition in
    let old = c.loop-at.definitions.items in
    let lt : at < length ts = c.loop-at-test.true in
    let is : IsDefinition ts d (at + 1) = some_of _ _ _ _ c.in-Some.is c.in_ok-definition.ensures in
    let inline : is_inline (word_at ts at) ≡ true = ap is_inline (sym (c.index-tokens-at.is ∙ get_or_default ts at c.index-tokens-at.result no_word lt)) ∙ sym c.is_inline.ensures ∙ c.if-is_inline.true in
    let pushed : inlines_of ts c.push.new.self.items ≡ inlines_of ts old ++ inline_of ts d ∷ [] = ap (inlines_of ts) c.in_ok-push.ensures.items ∙ map-append (inline_of ts) old (d ∷ []) in
    let n : at + (1 + d.size) ≡ at + d.size + 1 = omega arith in
    let fits = is.fits in
    record {
      here = ap (λ (cs : List Inline). after_inlines cs (definitions (drop (at + (1 + d.size)) ts) 0)) pushed ∙ ap (λ (k : ℕ). after_inlines (inlines_of ts old ++ inline_of ts d ∷ []) (definitions (drop k ts) 0)) n
          ∙ sym (defined_at ts at (inlines_of ts old) (inline_of ts d) lt inline is.is) ∙ c.loop-at.invariant.here;
      marked = All-same (λ x. IsMarked ts x) c.push.new.self.items (old ++ d ∷ []) c.in_ok-push.ensures.items (All-push (λ x. IsMarked ts x) old d c.loop-at.invariant.marked is.marked);
      short = All-same (λ (x : Definition). x.size ≤ length ts) c.push.new.self.items (old ++ d ∷ []) c.in_ok-push.ensures.items (All-push (λ (x : Definition). x.size ≤ length ts) old d c.loop-at.invariant.short (omega arith));
      within = omega arith;
    }
