use Rattle.std.proofs.Common.{◌≡◌, ◌∙◌, ap, sym, ℕ, List, ◌++◌, length, rules}
use Rattle.std.proofs.lemmas.Iterator.{items_from_drains}
use Rattle.std.proofs.lemmas.Iterator.Adapters.{YieldsList-from_vec}
use Rattle.std.proofs.lemmas.List.{map-id}
use Rattle.std.specs.Vec.{vec_len}
use Rattle.view_json.proofs.list.behind.Goals as goal

pub returns : goal.returns
returns c =
    let put = c.in_ok-splice.ensures.items in
    let long : vec_len c.args.before ≡ length c.args.before.items = search rules in
    let same = sym (map-id put.1) ∙ items_from_drains put.1 (put.3.1.0, put.3.1.1, λ u. (put.3.0, put.3.1.2)) (YieldsList-from_vec c.args.before.items put.2.0 (put.2.1 ∙ long)) in
    put.4 ∙ ap (λ (l : List ℕ). l ++ c.args.text.items) same
