use Rattle.std.proofs.Common.{rules, ◌≡◌, Some, None, Option, option_map, slice_get, subst, sym, ap, refl, ◌∙◌}
use Rattle.pml_flow.specs.declared.edge.Edge.{Edge}
use Rattle.promela_process.specs.Offers.{Offer}
use Rattle.pml_flow.specs.Points.{point_at}
use Rattle.pml_value.specs.Seen.{seen}
use Rattle.run_state.specs.declared.body.Body.{Body}
use Rattle.promela_run.specs.State.{State, reads}
use Rattle.run_state.specs.Standing.{shows, IsBody}
use Rattle.run_state.proofs.Numbering.{numbered}
use Rattle.promela_run.specs.Steps.{body_by}
use Rattle.run_step.specs.Inside.{Chooses}
use Rattle.run_step.proofs.Inward.{first_shown, body_same}
use Rattle.run_step.proofs.within.chosen.Goals as goal

pub returns-in_err-edge-clause-value : goal.returns-in_err-edge-clause-value
returns-in_err-edge-clause-value c b h =
    let k : Body = c.in_ok-body.body in
    let s : State = c.args.live.now.state in
    let p = c.args.process in
    let at : Some k.proctype.now.body ≡ body_by s (slice_get s.stands p) = search rules in
    let same = body_same s p k b at h in
    let channels : c.view.result.channels.now ≡ s.channels = search rules in
    let reading : seen c.view.result ≡ reads s p c.args.timeout = search rules in
    let one = first_shown k c.args.node b _ s.lossy _ s.channels _ (reads s p c.args.timeout) c.choice.result (search rules) same c.is_lossy.ensures channels reading c.choice.ensures in
    let none : c.choice.result ≡ None = search rules in
    subst (λ (o : Option Offer). Chooses b o c.from_residual-in_err-edge.result) (sym (one ∙ ap (option_map (shows k)) none))
    (subst (λ o. Chooses b None o) (sym c.from_residual-in_err-edge.ensures) tt)

pub returns-clause-value : goal.returns-clause-value
returns-clause-value c b h =
    let k : Body = c.in_ok-body.body in
    let e : Edge = c.in_ok-edge.edge in
    let s : State = c.args.live.now.state in
    let p = c.args.process in
    let at : Some k.proctype.now.body ≡ body_by s (slice_get s.stands p) = search rules in
    let same = body_same s p k b at h in
    let channels : c.view.result.channels.now ≡ s.channels = search rules in
    let reading : seen c.view.result ≡ reads s p c.args.timeout = search rules in
    let one = first_shown k c.args.node b _ s.lossy _ s.channels _ (reads s p c.args.timeout) c.choice.result (search rules) same c.is_lossy.ensures channels reading c.choice.ensures in
    let some : c.choice.result ≡ Some e = search rules in
    subst (λ (o : Option Offer). Chooses b o (Some (record { basic = c.basic.result; statement = e.statement; next = e.target; stays = e.stays }))) (sym (one ∙ ap (option_map (shows k)) some))
    (c.basic.ensures, ap (λ d. point_at d e.target) same, refl)

pub returns-clause-numbered : goal.returns-clause-numbered
returns-clause-numbered c =
    let k : Body = c.in_ok-body.body in
    let s : State = c.args.live.now.state in
    let at : Some k.proctype.now.body ≡ body_by s (slice_get s.stands c.args.process) = search rules in
    let is : IsBody k = search rules in
    rw c.basic.ensures (numbered s c.args.process k c.in_ok-edge.edge is (sym at))
