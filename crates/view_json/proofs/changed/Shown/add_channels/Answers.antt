use Rattle.std.proofs.Common.{ap, List, [], codes}
use Rattle.json.specs.Token.{Token}
use Rattle.view_json.specs.Shown.{Shown, new_ones, channels_from}
use Rattle.view_json.proofs.Differing.{channels_heading}
use Rattle.view_json.proofs.changed.Shown.add_channels.Goals as goal

pub returns : goal.returns
returns c =
    let all = c.in_ok-self-inside.ensures in
    let ts : List Token = new_ones c.args.self.now.channels 0 (channels_from c.args.live.now.state 1 all.0) in
    let lists = all.3 [] c.new-list.ensures in (
      all.0,
      all.1,
      (λ i. record { processes = ap (λ (x : Shown). x.processes) c.self.view_is i; channels = all.2 i }),
      c.put.ensures.written (codes "channels") ts channels_heading lists,
      c.put.ensures.printable (codes "channels") ts lists,
    )
