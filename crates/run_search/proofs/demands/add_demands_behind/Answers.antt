use Rattle.std.proofs.Common.{rules, ◌≡◌, ◌++◌, ◌+◌, ◌<◌, ◌≤◌, List, [], ◌∷◌, Some, length, length-append, sym, ap, subst, ◌∙◌, arith}
use Rattle.std.specs.Prelude.{slice_get}
use Rattle.run_state.specs.Standing.{stand_of}
use Rattle.run_search.specs.declared.demand.Demand.{Demand}
use Rattle.run_search.specs.Demands.{AreDemands, DemandsFor}
use Rattle.run_state.proofs.Finding.{held}
use Rattle.run_search.proofs.Waiting.{demands_push}
use Rattle.run_search.proofs.demands.add_demands_behind.Goals as goal
use Rattle.run_search.proofs.demands.add_demands_behind.Goals.{then-is_common, else-is_common}

pub loop-j-preserved : goal.loop-j-preserved
loop-j-preserved c =
    let s = c.args.live.now.state in
    let t = c.args.timeout in
    let j = c.loop-j.j in
    let y = stand_of s.program c.args.seat in
    let ws : List Demand = c.loop-j.demands.items in
    let low : c.args.asked ≤ j = omega (arith, c.loop-j.auto.j) in
    let high : j < c.args.end = search rules in
    let e : c.push.new.self.items ≡ ws ++ c.if-is_common.demand ∷ [] = c.in_ok-push.ensures.items in
    let a = ap length e in
    let b = length-append ws (c.if-is_common.demand ∷ []) in
    let least : c.args.asked ≤ c.args.asked = omega arith in
    let order : c.args.asked < c.args.end = c.requires.order in
    let within : c.args.asked < length c.args.demands.now.items = omega (arith, c.requires.many) in
    let first : slice_get c.args.demands.now.items c.args.asked ≡ Some c.index-first.result.now =
    held c.args.demands.now.items c.args.asked c.index-first.result.now within ∙ ap Some (sym c.index-first.ensures) in
    let older : c.args.asked + 1 < length s.stands = omega (arith, c.requires.order, c.requires.older) in
    let younger : j + 1 < length s.stands = omega (arith, high, c.requires.older) in
    let known : DemandsFor s t c.args.asked y c.index-first.result.now = c.requires.known c.args.asked c.index-first.result.now y first (c.requires.there c.args.asked least order) in
    let waits : DemandsFor s t j y c.if-is_common.demand = elim c.if-is_common.branch [
      | then-is_common w ↦ subst (λ (z : Demand). DemandsFor s t j y z) (sym w.demand-is) ((c.is_common_seat-is_common.ensures w.if-is_common.true).demands t c.args.asked j c.index-first.result.now older younger known)
      | else-is_common w ↦ subst (λ (z : Demand). DemandsFor s t j y z) (sym w.demand-is) w.demand_of-demand.ensures
    ] in
    record {
      known = subst (λ (xs : List Demand). AreDemands s t xs) (sym e) (demands_push s t ws c.if-is_common.demand j y c.loop-j.invariant.known (sym c.loop-j.invariant.many) (c.requires.there j low high) waits);
      many = omega (arith, a, b, c.loop-j.invariant.many);
    }
