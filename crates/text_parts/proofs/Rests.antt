-- A text without a body.
use Rattle.std.proofs.Common.{◌≡◌, ◌∙◌, ap, List, ℕ, length, Option, option_map, IfOk, Ok, Err, Vec, Global}
use Rattle.std.specs.Prelude.{Result}
use Rattle.pml_token.specs.Word.{Word}
use Rattle.explain_tokens.specs.Placed.{ArePlaced}
use Rattle.text_parts.specs.declared.bodies.ProcessBody.{ProcessBody}
use Rattle.text_parts.specs.declared.bodies.Stand.TheVariants.{Outside}
use Rattle.text_parts.specs.Bodies.{body_at}
use Rattle.text_parts.specs.Rest.{rest_by, IsRest, without}

-- of a text with tokens
pub without_by : {E : Type 0} (text : List ℕ) (at : ℕ) (ts us : List Word) (b : Option ProcessBody) (r : Result (Option (Vec ℕ Global)) E) → ArePlaced text ts
    → us ≡ ts → b ≡ body_at at (length text) Outside us → IfOk r (λ o. option_map (λ t. t.items) o ≡ rest_by text b)
    → IfOk r (λ o. IsRest text at (option_map (λ t. t.items) o))
without_by text at ts us b (Err e) p s i h = tt
without_by text at ts us b (Ok o) p s i h = without ts p (h ∙ ap (rest_by text) (i ∙ ap (body_at at (length text) Outside) s))
