use Rattle.std.proofs.Common.{◌≡◌, ◌∙◌, ◌++◌, ap, sym, subst, ℕ, Bool, false, List, Option, Some, None}
use Rattle.std.specs.Prelude.{OnOk, slice_get}
use Rattle.view_waits.specs.declared.waits.Wait.{Wait}
use Rattle.view_waits.specs.Searched.{control_by}
use Rattle.view_waits.specs.Waits.{is_in, waits_at, waits_here}
use Rattle.view_waits.proofs.Adding.{all_of_it}
use Rattle.view_waits.proofs.waits.add_waits.Goals as goal

pub returns-in-Some : goal.returns-in-Some
returns-in-Some c are =
    let s = c.args.live.now.state in
    let out : is_in c.args.process c.args.moves.now ≡ false = sym c.is_in.ensures ∙ c.if-is_in.false in
    let is : Some c.in-Some.holder ≡ control_by s.holder (slice_get c.args.moves.now 0) =
    sym c.in-Some.is ∙ c.in_control.ensures ∙ ap (λ (h : Option ℕ). control_by h (slice_get c.args.moves.now 0)) c.holder.ensures in
    subst (λ (w : List Wait). OnOk c.put.result (c.put.new.waits.items ≡ c.args.waits.now.items ++ w)) (all_of_it s c.args.process c.args.moves.now are out (Some c.in-Some.holder) is) c.put.ensures

pub returns-in-None : goal.returns-in-None
returns-in-None c are =
    let s = c.args.live.now.state in
    let out : is_in c.args.process c.args.moves.now ≡ false = sym c.is_in.ensures ∙ c.if-is_in.false in
    let is : None ≡ control_by s.holder (slice_get c.args.moves.now 0) =
    sym c.in-None.is ∙ c.in_control.ensures ∙ ap (λ (h : Option ℕ). control_by h (slice_get c.args.moves.now 0)) c.holder.ensures in
    subst (λ (w : List Wait). OnOk c.add_here.result (c.add_here.new.waits.items ≡ c.args.waits.now.items ++ w))
    (ap (λ (t : Bool). waits_at s t c.args.process (slice_get s.stands c.args.process)) (c.timeout_of.ensures.last s are)
    ∙ all_of_it s c.args.process c.args.moves.now are out None is)
    c.add_here.ensures
