use Rattle.std.proofs.Common.{false, subst, codes}
use Rattle.json.specs.Print.{print_from}
use Rattle.view_text.specs.Written.{Adds}
use Rattle.view_text.proofs.Writing.{chained}
use Rattle.view_json.proofs.Stepped.{rest_text, rest_printable, choices_heading, not_refused}
use Rattle.view_json.proofs.steps.add_rest.Goals as goal

pub returns : goal.returns
returns c choices lists =
    let s = c.args.live.now.state in
    let k = c.args.done.same_as in
    let n = c.args.done.note in
    let listed = c.end.ensures.written (codes "choices") choices choices_heading lists in
    let can_read = c.end.ensures.printable (codes "choices") choices lists in (
      subst (Adds c.args.out.now c.add.new.self) (rest_text s k n choices)
          (chained _ _ _ _ _ c.add_counts.ensures.written (chained _ _ _ _ _ listed c.add.ensures)),
      λ calm.
          let later = not_refused c.end.new.out c.add.new.self c.add.ensures.stays calm in
          rest_printable s k n choices (c.add_counts.ensures.printable (not_refused c.add_counts.new.out c.end.new.out listed.stays later)) (can_read later),
    )
