use Rattle.std.proofs.Common.{◌≡◌, ◌≤◌, ◌-◌}
use Rattle.promela_session.specs.Session.{transcript_noting}
use Rattle.session.specs.Gathered.{Waits}
use Rattle.session.specs.Writes.{story_after}
use Rattle.session.proofs.whole.run.Given as goal

abbrev pub invariant-loop-end : goal.invariant-loop-end
invariant-loop-end g l = record {
  waits : Waits (g.D.Devices.holds l.initial.devices) (g.D.Devices.holds l.devices) 0 l.steps
      (transcript_noting l.fn.notes g.M.Machine.rules l.options l.initial.machine) (story_after l.fn.notes g.M.Machine.rules l.options l.machine l.steps l.course.stream) l.course.gathered.bytes.items l.course.gathered.begins.items;
  within : l.steps ≤ l.options.limit;
  count : (g.D.Devices.holds l.devices).failures ≡ (g.D.Devices.holds l.initial.devices).failures;
}

abbrev pub decreases-loop-end : goal.decreases-loop-end
decreases-loop-end g l = l.options.limit - l.steps
