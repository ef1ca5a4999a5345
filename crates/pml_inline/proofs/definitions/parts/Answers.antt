use Rattle.std.proofs.Common.{◌≡◌, ◌∙◌, ◌++◌, ◌∷◌, [], ap, sym, get_or}
use Rattle.std.proofs.lemmas.List.{map-append, take_more}
use Rattle.std.proofs.lemmas.List.Elements.{All-same, All-push}
use Rattle.pml_inline.specs.declared.definitions.Part.{Part}
use Rattle.promela_text.specs.Inlines.{parameter}
use Rattle.pml_inline.specs.Places.{word_at}
use Rattle.pml_inline.specs.Parts.{places_of}
use Rattle.pml_inline.proofs.definitions.parts.Goals as goal

pub loop-place-preserved : goal.loop-place-preserved
loop-place-preserved c = record {
  placed = ap places_of c.in_ok-push.ensures.items ∙ map-append (λ (p : Part). p.place) c.loop-place.parts.items _ ∙ ap (λ ps. ps ++ get_or c.args.places.now c.loop-place.place-index 0 ∷ []) c.loop-place.invariant.placed ∙ sym (take_more c.args.places.now c.loop-place.place-index 0 c.loop-place-test.true);
  marked = λ ps a.
      All-same (λ (p : Part). p.parameter ≡ parameter ps (word_at c.args.tokens.now p.place)) c.push.new.self.items _ c.in_ok-push.ensures.items
      (All-push (λ (p : Part). p.parameter ≡ parameter ps (word_at c.args.tokens.now p.place)) c.loop-place.parts.items _ (c.loop-place.invariant.marked ps a) (c.parameter.ensures ps a ∙ ap (parameter ps) c.token_at-token.ensures));
}
