use Rattle.std.proofs.Common.{true, [], ◌∷◌, subst}
use Rattle.json.specs.Token.{end_object}
use Rattle.view_text.specs.Written.{Adds}
use Rattle.view_text.proofs.Writing.{chained}
use Rattle.view_json.specs.Steps.{start, told}
use Rattle.view_json.proofs.Stepped.{closed_line, start_ends, told_ends, printed_as, brace_line, brace_printable, not_refused, as_printable, line_back}
use Rattle.view_json.proofs.start.add_start.Goals as goal

pub returns : goal.returns
returns c is =
    let all = c.in_ok-add_objects.ensures is in
    let s = c.args.live.now.state in
    let ms = c.args.moves.now in
    let before = c.args.shown.now in
    let first = start s c.args.model.now c.args.is_lossy in (
      all.0,
      record {
        whole = all.1;
        shows = all.2;
        line = subst (Adds c.args.out.now c.add.new.self)
            (closed_line first (told true s ms 0 [] before all.0) (end_object ∷ []) (start_ends s c.args.model.now c.args.is_lossy)
            (told_ends true s ms 0 [] before all.0))
            (chained _ _ _ _ _ (printed_as _ _ _ first c.start.ensures c.finish.ensures.written c.finish.ensures.refused)
            (chained _ _ _ _ _ all.3 (subst (Adds c.add_objects.new.out c.add.new.self) brace_line c.add.ensures)));
        reads_back = λ calm.
            let objects = not_refused c.add_objects.new.out c.add.new.self c.add.ensures.stays calm in
            let before_them = not_refused c.finish.new.out c.add_objects.new.out all.3.stays objects in
            line_back first (told true s ms 0 [] before all.0) (end_object ∷ [])
            (as_printable c.finish.new.out _ first c.start.ensures c.finish.ensures.printable c.finish.ensures.refused before_them)
            (all.4 objects) brace_printable;
      },
    )
