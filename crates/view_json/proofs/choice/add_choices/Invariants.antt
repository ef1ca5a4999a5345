-- the moves before the loop's are written
use Rattle.std.proofs.Common.{take}
use Rattle.view_json.specs.Choices.{AddsChoices}
use Rattle.view_json.specs.Before.{Goes}
use Rattle.view_json.proofs.choice.add_choices.Given as goal

abbrev pub invariant-loop-m : goal.invariant-loop-m
invariant-loop-m l = AddsChoices l.live.state (take l.m-index l.moves) l.initial.json l.json × Goes l.live.state l.before
