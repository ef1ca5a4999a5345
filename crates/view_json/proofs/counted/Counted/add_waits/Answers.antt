use Rattle.std.proofs.Common.{◌≡◌, ◌∙◌, ◌++◌, ◌<◌, ap, sym, subst, rules, arith, ℕ, Bool, true, if◌then◌else◌, List, [], append-nil}
use Rattle.promela_run.specs.declared.moves.Move.{Move}
use Rattle.view_waits.specs.declared.waits.Wait.{Wait}
use Rattle.view_waits.specs.Waits.{is_in, in_control, waits_behind}
use Rattle.view_json.proofs.Counting.{counted_in}
use Rattle.view_json.proofs.counted.Counted.add_waits.Goals as goal

pub returns-then-of-gt0 : goal.returns-then-of-gt0
returns-then-of-gt0 c are =
    let s = c.args.live.now.state in
    let p = c.args.process in
    let some : is_in p c.args.self.now ≡ true = counted_in p c.args.self.now (subst (λ (n : ℕ). 0 < n) c.of.ensures (search rules)) in
    let there = subst (λ (ms : List Move). is_in p ms ≡ true) are some in
    sym (append-nil c.args.waits.now.items)
    ∙ ap (λ (b : Bool). c.args.waits.now.items ++ (if b then [] else waits_behind s p (in_control s))) (sym there)
