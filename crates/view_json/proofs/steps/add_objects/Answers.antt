use Rattle.std.proofs.Common.{◌∙◌, true, ap, subst, map, List, ℕ, codes}
use Rattle.json.specs.Print.{print, print_from, ArePrintable}
use Rattle.view_text.specs.Written.{Adds}
use Rattle.view_text.proofs.Writing.{chained}
use Rattle.view_json.specs.Shown.{Shown, processes_from, channels_from, changed_ones, new_ones, listed}
use Rattle.view_json.proofs.Stepped.{both_listed, not_refused}
use Rattle.view_json.proofs.Printable.{both_printable}
use Rattle.view_json.proofs.steps.add_objects.Goals as goal

pub returns : goal.returns
returns c is =
    let one = c.in_ok-add_channels.ensures in
    let two = c.in_ok-add_processes.ensures is in
    let s = c.args.live.now.state in
    let b = c.args.behind in
    let before = c.args.shown.now in
    let objects = map print (processes_from s b.moves.now 0 two.0) in
    let told = λ (ps : List (List ℕ)). listed c.args.is_always (codes "processes") (changed_ones s ps b.older b.changes.now 0 (processes_from s b.moves.now 0 two.0)) in (
      record { names = one.0; words = two.0 },
      (one.1, two.1, two.2),
      two.3 ∙ ap (λ (x : Shown). let y : Shown = record { processes = objects; channels = x.channels } in y) one.2,
      subst (Adds c.args.out.now c.add_processes.new.out)
          (both_listed c.args.is_always (codes "channels") (codes "processes") (new_ones before.channels 0 (channels_from s 1 one.0))
          (changed_ones s before.processes b.older b.changes.now 0 (processes_from s b.moves.now 0 two.0)))
          (chained _ _ _ _ _ one.3
          (subst (λ (ps : List (List ℕ)). Adds c.add_channels.new.out c.add_processes.new.out (print_from true (told ps)))
          (ap (λ (x : Shown). x.processes) one.2) two.4)),
      λ calm.
          both_printable _ _ (one.4 (not_refused c.add_channels.new.out c.add_processes.new.out two.4.stays calm))
          (subst (λ (ps : List (List ℕ)). ArePrintable (told ps)) (ap (λ (x : Shown). x.processes) one.2) (two.5 calm)),
    )
