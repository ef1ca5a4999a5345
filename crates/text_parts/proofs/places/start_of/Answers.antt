use Rattle.std.proofs.Common.{◌≡◌, ℕ, drop, arith}
use Rattle.text_parts.specs.Offsets.{start_of}
use Rattle.text_parts.proofs.Bounds.{start_none}
use Rattle.text_parts.proofs.places.start_of.Goals as goal

pub returns-then-left-eq0 : goal.returns-then-left-eq0
returns-then-left-eq0 c = let h = start_none (drop c.loop-i.i c.args.text.now) in let z = c.if-left-eq0.true in grind (arith, h)
