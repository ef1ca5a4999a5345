use Rattle.std.proofs.Common.{◌∙◌, refl, arith, Ok, Err, Some, None}
use Rattle.std.proofs.Math.Nat.{sub-zero}
use Rattle.std.proofs.lemmas.Result.{err_from_is_err_and}
use Rattle.session.specs.Writes.{story_after}
use Rattle.session.proofs.Parts.{Leads-nil}
use Rattle.session.proofs.Gathering.{waits_nil, goes_on, halts_cut, halts_count, halts_written}
use Rattle.session.proofs.whole.run.Goals as goal

pub loop-end-init : goal.loop-end-init
loop-end-init g c = record {
  waits = rw (c.requires, sub-zero, c.new-course.ensures.stream, c.new-course.ensures.bytes, c.new-course.ensures.begins) (waits_nil _ (Leads-nil _));
  within = omega arith;
  count = refl;
}

pub loop-end-preserved : goal.loop-end-preserved
loop-end-preserved g c =
    let w = c.loop-end.invariant.waits in
    let falls = rw c.in-Ok-None.field-0-is at c.in-Ok-None.ensures.falls in
    record {
      waits = goes_on _ _ _ (story_after c.args.notes g.M.Machine.rules c.args.options.now c.turn.new.machine c.turn.new.steps c.turn.new.course.stream) c.turn.new.course.stream c.turn.new.course.gathered.bytes.items c.turn.new.course.gathered.begins.items (Ok None) w.leads (rw c.in-Ok-None.field-0-is at c.in-Ok-None.ensures.part w.texts w.written w.are w.count);
      within = falls.1;
      count = c.in-Ok-None.ensures.count ∙ c.loop-end.invariant.count;
    }

pub returns-in-Ok-Some-clause-part : goal.returns-in-Ok-Some-clause-part
returns-in-Ok-Some-clause-part g c =
    let w = c.loop-end.invariant.waits in
    (c.turn.new.course.stream, goes_on _ _ _ (story_after c.args.notes g.M.Machine.rules c.args.options.now c.turn.new.machine c.turn.new.steps c.turn.new.course.stream) c.turn.new.course.stream c.turn.new.course.gathered.bytes.items c.turn.new.course.gathered.begins.items (Ok (Some c.in-Ok-Some.end)) w.leads (rw c.in-Ok-Some.field-0-is at c.in-Ok-Some.ensures.part w.texts w.written w.are w.count))

pub returns-in_err-write-in-Err-clause-part : goal.returns-in_err-write-in-Err-clause-part
returns-in_err-write-in-Err-clause-part g c =
    let p = err_from_is_err_and c.from_residual.result c.from_residual.ensures.1 in
    let w = c.loop-end.invariant.waits in
    let halts = goes_on _ _ _ (story_after c.args.notes g.M.Machine.rules c.args.options.now c.turn.new.machine c.turn.new.steps c.turn.new.course.stream) c.turn.new.course.stream c.turn.new.course.gathered.bytes.items c.turn.new.course.gathered.begins.items (Err c.in-Err.broken) w.leads (c.in-Err.ensures.part w.texts w.written w.are w.count) in
    rw (p.1, p.2, c.in_err-write-in-Err.ensures.broken) (halts_cut _ _ _ _ _ _ _ _ _ c.in-Err.broken halts c.in_err-write-in-Err.ensures.cut)

pub returns-in_err-write-in-Err-clause-count : goal.returns-in_err-write-in-Err-clause-count
returns-in_err-write-in-Err-clause-count g c =
    let p = err_from_is_err_and c.from_residual.result c.from_residual.ensures.1 in
    let w = c.loop-end.invariant.waits in
    let halts = c.in-Err.ensures.part w.texts w.written w.are w.count in
    let fails = rw c.in_err-write-in-Err.ensures.broken at c.in_err-write-in-Err.ensures.count in
    rw (p.1, p.2, c.in_err-write-in-Err.ensures.broken, ← c.loop-end.invariant.count) (halts_count _ _ _ _ _ _ _ _ _ c.in-Err.broken _ _ _ halts c.in_err-write-in-Err.ensures.cut c.in-Err.ensures.count fails)

pub returns-in-Err-clause-part : goal.returns-in-Err-clause-part
returns-in-Err-clause-part g c =
    let w = c.loop-end.invariant.waits in
    let halts = goes_on _ _ _ (story_after c.args.notes g.M.Machine.rules c.args.options.now c.turn.new.machine c.turn.new.steps c.turn.new.course.stream) c.turn.new.course.stream c.turn.new.course.gathered.bytes.items c.turn.new.course.gathered.begins.items (Err c.in-Err.broken) w.leads (c.in-Err.ensures.part w.texts w.written w.are w.count) in
    rw c.in_ok-write-in-Err.ensures.same (halts_written _ _ _ _ _ _ _ _ c.in-Err.broken halts c.in_ok-write-in-Err.ensures.text)
