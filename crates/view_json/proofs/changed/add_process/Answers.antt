use Rattle.view_json.proofs.Differing.{process_added, process_printable}
use Rattle.view_json.proofs.changed.add_process.Goals as goal

pub returns-clause-written : goal.returns-clause-written
returns-clause-written c ts ends is =
    process_added c.args.live.now.state c.args.behind.older c.args.behind.changes.now c.args.process ts c.args.object.now _ _ _ _ _ _ _
    is ends c.add.ensures c.add-2.ensures c.new-json.ensures c.add_locals.ensures c.finish.ensures.written c.finish.ensures.refused c.add-3.ensures

pub returns-clause-printable : goal.returns-clause-printable
returns-clause-printable c ts all calm =
    process_printable c.args.live.now.state c.args.behind.older c.args.behind.changes.now c.args.process ts c.add-3.new.self _ _ all
    c.new-json.ensures c.add_locals.ensures c.finish.ensures.printable (λ so. c.add-3.ensures.stays (c.finish.ensures.refused so)) calm
