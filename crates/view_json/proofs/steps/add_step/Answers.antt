use Rattle.std.proofs.Common.{false, ◌++◌, subst}
use Rattle.view_text.specs.Written.{Adds}
use Rattle.view_text.proofs.Writing.{chained}
use Rattle.view_json.specs.Steps.{changed, told, rest}
use Rattle.view_json.proofs.Stepped.{closed_line, front_ends, told_ends, printed_on, not_refused, on_printable, line_back}
use Rattle.view_json.proofs.steps.add_step.Goals as goal

pub returns : goal.returns
returns c is ends choices lists =
    let all = c.in_ok-add_objects.ensures is in
    let behind = c.add_rest.ensures choices lists in
    let s = c.args.live.now.state in
    let ms = c.args.moves.now in
    let d = c.args.done in
    let before = c.args.shown.now in
    let front = c.args.front.tokens in (
      all.0,
      record {
        whole = all.1;
        shows = all.2;
        line = subst (Adds c.args.out.now c.add_rest.new.out)
            (closed_line (front ++ changed s d.printed.now d.changes.now) (told false s ms d.older d.changes.now before all.0) (rest s d.same_as d.note choices)
            (front_ends s d.printed.now d.changes.now front ends) (told_ends false s ms d.older d.changes.now before all.0))
            (chained _ _ _ _ _ (printed_on _ _ _ _ _ c.changed.ensures c.finish.ensures.written c.finish.ensures.refused)
            (chained _ _ _ _ _ all.3 behind.0));
        reads_back = λ calm.
            let objects = not_refused c.add_objects.new.out c.add_rest.new.out behind.0.stays calm in
            let first = not_refused c.finish.new.out c.add_objects.new.out all.3.stays objects in
            line_back (front ++ changed s d.printed.now d.changes.now) (told false s ms d.older d.changes.now before all.0) (rest s d.same_as d.note choices)
            (on_printable c.finish.new.out _ _ _ c.changed.ensures c.finish.ensures.printable c.finish.ensures.refused first)
            (all.4 objects) (behind.1 calm);
      },
    )
