use Rattle.std.proofs.Common.{ap, List, [], codes}
use Rattle.json.specs.Token.{Token}
use Rattle.view_json.specs.Shown.{Shown, changed_ones, processes_from}
use Rattle.view_json.proofs.Differing.{processes_heading}
use Rattle.view_json.proofs.changed.Shown.add_processes.Goals as goal

pub returns : goal.returns
returns c is =
    let all = c.in_ok-self-inside.ensures is in
    let s = c.args.live.now.state in
    let b = c.args.behind in
    let ts : List Token = changed_ones s c.args.self.now.processes b.older b.changes.now 0 (processes_from s b.moves.now 0 all.0) in
    let lists = all.4 [] c.new-list.ensures in (
      all.0,
      all.1,
      all.2,
      (λ i. record { processes = all.3 i; channels = ap (λ (x : Shown). x.channels) c.self.view_is i }),
      c.put.ensures.written (codes "processes") ts processes_heading lists,
      c.put.ensures.printable (codes "processes") ts lists,
    )
