use Rattle.std.proofs.Common.{◌∙◌, ap, ◌++◌, ◌∷◌, []}
use Rattle.view_tokens.specs.Printed.{Printed}
use Rattle.view_tokens.proofs.Growing.{grown, grown_tokens, quoted_is}
use Rattle.view_tokens.proofs.tokens.Json.put_quoted.Goals as goal

pub invariant_of-self : goal.invariant_of-self
invariant_of-self c =
    let old = c.self.inside in
    let is = quoted_is old.text.items c.append_quoted.new.out.items (34 ∷ (c.args.bytes.now ++ c.args.close.now)) old.is_behind c.in-Ok.ensures.added in
    grown _ _ _ _ _ _ c.requires.token.0 c.self.invariant c.requires.token.1 is

pub returns-in-Ok : goal.returns-in-Ok
returns-in-Ok c = λ t one.
    let old = c.self.inside in
    let is = quoted_is old.text.items c.append_quoted.new.out.items (34 ∷ (c.args.bytes.now ++ c.args.close.now)) old.is_behind c.in-Ok.ensures.added in
    record {
      stays = λ r. ap (λ (v : Printed). v.refused) c.self.view_is ∙ r;
      added = λ calm. grown_tokens _ _ _ _ _ _ t c.self.invariant one is ∙ ap (λ (v : Printed). v.tokens ++ t ∷ []) c.self.view_is;
    }
