use Rattle.std.proofs.Common.{◌≡◌, ◌++◌, drop}
use Rattle.text_parts.specs.Coded.{coded}
use Rattle.text_parts.proofs.parts.coded.Given as goal

abbrev pub invariant-loop-part : goal.invariant-loop-part
invariant-loop-part l = l.out.items ++ coded l.unit l.text l.behind (drop l.part-index l.parts) ≡ coded l.unit l.text 0 l.parts
