use Rattle.std.proofs.Common.{◌∙◌, ap, sym, subst, ℕ, List, false}
use Rattle.json.specs.Token.{Token}
use Rattle.json.specs.Lex.{tokens}
use Rattle.view_tokens.specs.Printing.{IsPrint}
use Rattle.view_tokens.proofs.Growing.{nothing, shown, nothing_shown}
use Rattle.view_tokens.proofs.tokens.Json.new.Goals as goal

pub invariant_of-result : goal.invariant_of-result
invariant_of-result c = subst (λ (l : List ℕ). IsPrint l false) (sym c.new.ensures.items) nothing

pub returns : goal.returns
returns c = ap (λ (ts : List Token). shown ts false) (ap tokens c.new.ensures.items ∙ nothing_shown)
