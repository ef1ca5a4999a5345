use Rattle.std.proofs.Common.{◌≡◌, ◌∙◌, ◌++◌, ap, subst, List, Some}
use Rattle.std.specs.Prelude.{OnOk}
use Rattle.promela_process.specs.Expressions.{Reading}
use Rattle.promela_run.specs.declared.live_channel.LiveChannel.{LiveChannel}
use Rattle.pml_value.specs.Seen.{seen}
use Rattle.run_state.specs.Standing.{offers_at, stand_of}
use Rattle.view_waits.specs.declared.waits.Wait.{Wait}
use Rattle.view_waits.specs.Waits.{waits_at, waits_down}
use Rattle.view_waits.proofs.Adding.{left_is}
use Rattle.view_waits.proofs.waits.add_standing.Goals as goal

pub returns-in-Some : goal.returns-in-Some
returns-in-Some c =
    let s = c.args.live.now.state in
    let offers = offers_at c.in-Some.body c.args.seat.node in
    let all : waits_down c.view-view.result.channels.now (seen c.view-view.result) c.args.process offers ≡ waits_at s c.args.timeout c.args.process (Some (stand_of s.program c.args.seat)) =
    ap (λ (cs : List LiveChannel). waits_down cs (seen c.view-view.result) c.args.process offers) c.view-view.ensures.channels
    ∙ ap (λ (r : Reading). waits_down s.channels r c.args.process offers) c.view-view.ensures.reads
    ∙ left_is s c.args.timeout c.args.process c.args.seat c.in-Some.body c.in-Some.ensures.left in
    subst (λ (w : List Wait). OnOk c.add_offers.result (c.add_offers.new.waits.items ≡ c.args.waits.now.items ++ w)) all c.add_offers.ensures
