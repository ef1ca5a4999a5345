use Rattle.std.proofs.Common.{sym, subst, Bool, ◌∷◌, []}
use Rattle.json.specs.Token.{boolean}
use Rattle.view_tokens.specs.Printed.{Writes}
use Rattle.view_tokens.proofs.Growing.{is_true, is_false}
use Rattle.view_tokens.proofs.tokens.Json.boolean.Goals as goal

pub put-requires : goal.put-requires
put-requires c = (boolean _, is_true)

pub put-requires-else-value : goal.put-requires-else-value
put-requires-else-value c = (boolean _, is_false)

pub returns-then-value : goal.returns-then-value
returns-then-value c = subst (λ (b : Bool). Writes c.args.self.now c.put.new.self (boolean b ∷ [])) (sym c.if-value.true) (c.put.ensures _ is_true)

pub returns-else-value : goal.returns-else-value
returns-else-value c = subst (λ (b : Bool). Writes c.args.self.now c.put-else-value.new.self (boolean b ∷ [])) (sym c.if-value.false) (c.put-else-value.ensures _ is_false)
