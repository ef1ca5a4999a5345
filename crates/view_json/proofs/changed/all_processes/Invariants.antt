-- the objects of the processes before the loop's
use Rattle.std.proofs.Common.{◌≡◌, map}
use Rattle.promela_run.specs.Moves.{moves}
use Rattle.view_json.specs.Shown.{ListsOldest}
use Rattle.view_json.proofs.changed.all_processes.Given as goal

abbrev pub invariant-loop-process : goal.invariant-loop-process
invariant-loop-process l =
    l.behind.moves.now ≡ moves l.live.state
    → ListsOldest l.shown.processes l.live.state l.behind.moves.now l.behind.older l.behind.changes.now l.process (map (λ x. x.items) l.objects.items) l.initial.list l.list
