use Rattle.std.proofs.Common.{◌≡◌, ◌∙◌, ap, sym, ℕ, ◌++◌, List, length, rules}
use Rattle.view_tokens.proofs.Growing.{no_length}
use Rattle.view_tokens.proofs.bytes.add_large.Goals as goal

pub returns-then-is_empty : goal.returns-then-is_empty
returns-then-is_empty c =
    let none : length c.take-before.result.items ≡ 0 = search rules in
    record {
      stays = λ r. search rules;
      added = λ calm. c.put.ensures.text ∙ ap (λ (l : List ℕ). l ++ c.args.text.items) (sym (no_length c.take-before.result.items none) ∙ c.take-before.ensures.text);
    }
