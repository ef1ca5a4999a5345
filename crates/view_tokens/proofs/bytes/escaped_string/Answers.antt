use Rattle.std.proofs.Common.{◌∙◌, ap, List, ◌∷◌, ◌++◌, []}
use Rattle.json.specs.Token.{Token, string}
use Rattle.json.specs.Print.{print}
use Rattle.view_tokens.proofs.Growing.{one_text}
use Rattle.view_tokens.proofs.bytes.escaped_string.Goals as goal

pub returns-clause-value : goal.returns-clause-value
returns-clause-value c =
    let t = string c.args.text.now in
    let before = c.in_ok-string.ensures.room.0 ∙ c.new-one.ensures.before ∙ c.new.ensures.items in
    let written = c.in_ok-string.ensures.ok ∙ ap (λ (l : List Token). l ++ t ∷ []) c.new-one.ensures.tokens in
    c.into_inner.ensures.items ∙ (λ i. before i ++ print (written i)) ∙ one_text t
