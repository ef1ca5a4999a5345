use Rattle.std.proofs.Common.{◌≡◌, ◌∙◌, ap, sym, ℕ, cond, ◌&&◌, ◌==◌, ◌∷◌, [], ◌++◌, List, length}
use Rattle.std.proofs.lemmas.Bool.{true≢false, eqb-true}
use Rattle.std.specs.Prelude.{slice_get}
use Rattle.view_tokens.specs.Printed.{Printed}
use Rattle.view_tokens.specs.Printing.{may_begin}
use Rattle.view_tokens.proofs.Growing.{joined, joined_tokens, begins_so, place_some, place_none, no_length}
use Rattle.view_tokens.proofs.tokens.Json.join.Goals as goal

pub invariant_of-self-then-not-is_empty : goal.invariant_of-self-then-not-is_empty
invariant_of-self-then-not-is_empty c =
    let text = c.self.inside.text.items in
    let other = c.other.inside.text.items in
    let b = c.self.inside.is_behind in
    let value = c.as_slice-bytes.ensures.value in
    let k = c.other.invariant in
    let is : c.append.new.out.items ≡ text ++ (cond (b && c.begins.result) (44 ∷ []) [] ++ other) =
    c.in-Ok.ensures.added ∙ ap (λ (l : List ℕ). text ++ (cond (b && c.begins.result) (44 ∷ []) [] ++ l)) value in
    let begin = c.begins.ensures ∙ ap (λ (l : List ℕ). may_begin (slice_get l 0)) value in
    let some : other ≡ [] → ⊥ = λ e. true≢false (sym (ap (λ (l : List ℕ). length l == 0) (value ∙ e)) ∙ sym c.if-not-is_empty.ensures) in
    let place = place_some other b c.other.inside.is_behind k some in
    joined text other c.append.new.out.items b c.other.inside.is_behind c.begins.result c.other.inside.is_behind c.self.invariant k begin (begins_so other c.other.inside.is_behind k) place is

pub returns-then-not-is_empty-clause-known : goal.returns-then-not-is_empty-clause-known
returns-then-not-is_empty-clause-known c =
    let text = c.self.inside.text.items in
    let other = c.other.inside.text.items in
    let b = c.self.inside.is_behind in
    let value = c.as_slice-bytes.ensures.value in
    let k = c.other.invariant in
    let is : c.append.new.out.items ≡ text ++ (cond (b && c.begins.result) (44 ∷ []) [] ++ other) =
    c.in-Ok.ensures.added ∙ ap (λ (l : List ℕ). text ++ (cond (b && c.begins.result) (44 ∷ []) [] ++ l)) value in
    let begin = c.begins.ensures ∙ ap (λ (l : List ℕ). may_begin (slice_get l 0)) value in
    let some : other ≡ [] → ⊥ = λ e. true≢false (sym (ap (λ (l : List ℕ). length l == 0) (value ∙ e)) ∙ sym c.if-not-is_empty.ensures) in
    let place = place_some other b c.other.inside.is_behind k some in
    λ ts so. record {
      stays = λ r. ap (λ (v : Printed). v.refused) c.self.view_is ∙ r;
      added = λ calm.
          let same = ap (λ (v : Printed). v.tokens) c.other.view_is ∙ so (sym (ap (λ (v : Printed). v.refused) c.other.view_is) ∙ c.if-other.false) in
          joined_tokens text other c.append.new.out.items b c.other.inside.is_behind c.begins.result c.other.inside.is_behind c.self.invariant k begin (begins_so other c.other.inside.is_behind k) place is ∙ (λ i. (c.self.view_is i).tokens ++ same i);
    }

pub returns-else-not-is_empty-clause-known : goal.returns-else-not-is_empty-clause-known
returns-else-not-is_empty-clause-known c =
    let text = c.self.inside.text.items in
    let other = c.other.inside.text.items in
    let b = c.self.inside.is_behind in
    let value = c.as_slice-bytes.ensures.value in
    let k = c.other.invariant in
    let is : c.append.new.out.items ≡ text ++ (cond (b && c.begins.result) (44 ∷ []) [] ++ other) =
    c.in-Ok.ensures.added ∙ ap (λ (l : List ℕ). text ++ (cond (b && c.begins.result) (44 ∷ []) [] ++ l)) value in
    let begin = c.begins.ensures ∙ ap (λ (l : List ℕ). may_begin (slice_get l 0)) value in
    let none : other ≡ [] = sym value ∙ no_length c.as_slice-bytes.result.now (eqb-true (length c.as_slice-bytes.result.now) 0 (sym c.if-not-is_empty.ensures)) in
    let place = place_none other b c.other.inside.is_behind k none in
    λ ts so. record {
      stays = λ r. ap (λ (v : Printed). v.refused) c.self.view_is ∙ r;
      added = λ calm.
          let same = ap (λ (v : Printed). v.tokens) c.other.view_is ∙ so (sym (ap (λ (v : Printed). v.refused) c.other.view_is) ∙ c.if-other.false) in
          joined_tokens text other c.append.new.out.items b c.other.inside.is_behind c.begins.result b c.self.invariant k begin (begins_so other c.other.inside.is_behind k) place is ∙ (λ i. (c.self.view_is i).tokens ++ same i);
    }
