-- the objects of the channels before the loop's
use Rattle.std.proofs.Common.{map}
use Rattle.view_json.specs.Shown.{ListsFirst}
use Rattle.view_json.proofs.changed.all_channels.Given as goal

abbrev pub invariant-loop-at : goal.invariant-loop-at
invariant-loop-at l = ListsFirst l.shown.channels l.live.state l.at (map (λ x. x.items) l.objects.items) l.initial.list l.list
