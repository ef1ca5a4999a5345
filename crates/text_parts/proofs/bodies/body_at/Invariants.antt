use Rattle.std.proofs.Common.{◌≡◌, ◌≤◌, drop}
use Rattle.text_parts.specs.declared.bodies.Stand.TheVariants.{Outside}
use Rattle.text_parts.specs.Bodies.{body_at, depth_in}
use Rattle.text_parts.proofs.bodies.body_at.Given as goal

abbrev pub invariant-loop-i : goal.invariant-loop-i
invariant-loop-i l = record {
  few : depth_in l.stand ≤ l.i;
  rest : body_at l.offset l.length l.stand (drop l.i l.tokens) ≡ body_at l.offset l.length Outside l.tokens;
}
