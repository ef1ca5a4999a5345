use Rattle.std.proofs.Common.{◌≡◌, ◌∙◌, length, rules}
use Rattle.run_start.specs.Shown.{shown}
use Rattle.run_start.proofs.Shapes.{OnOk-always, OnErr-always}
use Rattle.run_start.proofs.Creating.{process_sizes, process_shape, process_sorts, past, dropped}
use Rattle.run_start.proofs.create.create.Goals as goal

pub begin_youngest-begun-requires-clause-there : goal.begin_youngest-begun-requires-clause-there
begin_youngest-begun-requires-clause-there c =
    process_sizes c.args.sort c.args.slots.now c.args.started.now c.add_process.new.started c.in_ok-add_process.ensures.value c.requires.next

pub returns-else-is_err-clause-past : goal.returns-else-is_err-clause-past
returns-else-is_err-clause-past c =
    OnOk-always c.begin_youngest-begun.result
    (past c.args.sort c.args.slots.now c.args.started.now c.add_process.new.started c.begin_youngest-begun.new.started c.in_ok-add_process.ensures.value c.in_ok-add_process.ensures.log
    c.begin_youngest-begun.ensures.keeps)

pub returns-then-is_err-clause-kept : goal.returns-then-is_err-clause-kept
returns-then-is_err-clause-kept c =
    let count : c.len-channels.result ≡ length c.args.started.now.channels.items = search rules in
    OnErr-always c.begin_youngest-begun.result
    (dropped c.args.sort c.args.slots.now c.args.started.now c.add_process.new.started c.begin_youngest-begun.new.started c.drop_youngest.new.started c.in_ok-add_process.ensures.value
    c.begin_youngest-begun.ensures.keeps c.requires.next c.drop_youngest.ensures.frames (rw (← count) c.drop_youngest.ensures.channels) c.drop_youngest.ensures.sorts)

pub returns-else-is_err-clause-shape : goal.returns-else-is_err-clause-shape
returns-else-is_err-clause-shape c =
    OnOk-always c.begin_youngest-begun.result
    (c.begin_youngest-begun.ensures.keeps.shape
    ∙ process_shape c.args.sort c.args.slots.now (shown c.args.started.now) (shown c.add_process.new.started) c.in_ok-add_process.ensures.value)

pub returns-else-is_err-clause-sorts : goal.returns-else-is_err-clause-sorts
returns-else-is_err-clause-sorts c =
    OnOk-always c.begin_youngest-begun.result
    (c.begin_youngest-begun.ensures.keeps.sorts ∙ process_sorts c.args.sort c.args.slots.now c.args.started.now c.add_process.new.started c.in_ok-add_process.ensures.value)
