use Rattle.std.proofs.Common.{rules, ◌≡◌, ◌<◌, ◌≤◌, inl, inr, length, Some}
use Rattle.run_state.specs.declared.body.Body.{Body}
use Rattle.promela_run.specs.State.{body_of}
use Rattle.run_state.specs.Standing.{IsBody}
use Rattle.run_state.proofs.Placing.{something_left, nothing_left}
use Rattle.run_state.proofs.live.Live.standing.Goals as goal

pub returns-then-has_node-clause-left : goal.returns-then-has_node-clause-left
returns-then-has_node-clause-left c =
    let k : Body = c.in_ok-body.body in
    let h : IsBody k = search rules in
    let l : c.args.seat.node < length k.graph.now.nodes = search rules in
    record {
      body = search rules;
      is = h;
      node = l;
      left = something_left k c.args.seat.node h c.if-seat-eq0.false l;
    }

pub returns-then-seat-eq0-clause-closed : goal.returns-then-seat-eq0-clause-closed
returns-then-seat-eq0-clause-closed c none =
    let k : Body = c.in_ok-body.body in
    let h : IsBody k = search rules in
    let e : body_of c.args.self.now.state.program c.args.seat.sort ≡ Some k.proctype.now.body = search rules in
    nothing_left c.args.self.now.state.program c.args.seat k h e (inl c.if-seat-eq0.true)

pub returns-else-has_node-clause-closed : goal.returns-else-has_node-clause-closed
returns-else-has_node-clause-closed c none =
    let k : Body = c.in_ok-body.body in
    let h : IsBody k = search rules in
    let e : body_of c.args.self.now.state.program c.args.seat.sort ≡ Some k.proctype.now.body = search rules in
    let l : length k.graph.now.nodes ≤ c.args.seat.node = search rules in
    nothing_left c.args.self.now.state.program c.args.seat k h e (inr l)
