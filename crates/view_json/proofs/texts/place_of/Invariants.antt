use Rattle.std.proofs.Common.{◌≤◌, length}
use Rattle.view_json.specs.declared.texts.Line.{Line}
use Rattle.view_json.specs.Texts.{same_parts}
use Rattle.view_json.proofs.Places.{NoneOf}
use Rattle.view_json.proofs.texts.place_of.Given as goal

abbrev pub invariant-loop-at : goal.invariant-loop-at
invariant-loop-at l = (l.at ≤ length l.all) × NoneOf (λ (x : Line). same_parts x l.parts) l.all l.at
