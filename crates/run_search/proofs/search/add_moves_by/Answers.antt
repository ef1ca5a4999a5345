use Rattle.std.proofs.Common.{rules, ◌≡◌, ◌++◌, List, length, sym, ap, ◌∙◌}
use Rattle.promela_run.specs.declared.moves.Move.{Move}
use Rattle.run_search.specs.First.{moves_from}
use Rattle.run_search.proofs.Searching.{grown, not_grown}
use Rattle.run_search.proofs.search.add_moves_by.Goals as goal

pub returns-then-len-before-clause-added : goal.returns-then-len-before-clause-added
returns-then-len-before-clause-added c =
    let ms : List Move = moves_from c.args.live.now.state c.args.process c.args.seat in
    let p : c.len-before.result ≡ length c.args.moves.now.items = search (rules, c.len-before.ensures) in
    let q : c.len.result ≡ length c.add_moves_at.new.moves.items = search (rules, c.len.ensures) in
    let e : c.add_moves_at.new.moves.items ≡ c.args.moves.now.items ++ ms = search (rules, c.in_ok-add_moves_at.ensures) in
    e ∙ ap (λ (z : List Move). c.args.moves.now.items ++ z) (sym (c.requires.first.some (grown c.args.moves.now.items c.add_moves_at.new.moves.items ms c.len-before.result c.len.result e p q c.if-len-before.true)))

pub add_moves_unheld-requires : goal.add_moves_unheld-requires
add_moves_unheld-requires c =
    let ms : List Move = moves_from c.args.live.now.state c.args.process c.args.seat in
    let p : c.len-before.result ≡ length c.args.moves.now.items = search (rules, c.len-before.ensures) in
    let q : c.len.result ≡ length c.add_moves_at.new.moves.items = search (rules, c.len.ensures) in
    let e : c.add_moves_at.new.moves.items ≡ c.args.moves.now.items ++ ms = search (rules, c.in_ok-add_moves_at.ensures) in
    c.requires.first.none (not_grown c.args.moves.now.items c.add_moves_at.new.moves.items ms c.len-before.result c.len.result e p q c.if-len-before.false)
