use Rattle.std.proofs.Common.{rules, ◌≡◌, ◌<◌, refl, length, Some, arith}
use Rattle.std.specs.Prelude.{slice_get}
use Rattle.run_state.specs.Standing.{statements_of, IsPlayed}
use Rattle.std.proofs.lemmas.Option.{slice_get_read}
use Rattle.run_state.proofs.Finding.{within}
use Rattle.run_state.proofs.Placing.{body_is, statements_at}
use Rattle.run_state.proofs.played.body_at.Goals as goal

pub returns-clause-is : goal.returns-clause-is
returns-clause-is c =
    let p = c.args.program.now in
    let gs = c.args.graphs.now in
    let ss = c.args.statements.now in
    let all : IsPlayed p gs ss = record { graphs = c.requires.graphs; statements = c.requires.statements } in
    let h : slice_get p.proctypes c.args.sort ≡ Some c.in_ok-proctype.proctype.now = search rules in
    let below : c.args.sort < length p.proctypes = within p.proctypes c.args.sort c.in_ok-proctype.proctype.now h in
    let g : c.args.sort < length gs = omega (arith, below, c.requires.graphs.many) in
    let t : c.args.sort < length ss = within ss c.args.sort (statements_of c.in_ok-proctype.proctype.now.body) (statements_at p gs ss all c.args.sort c.in_ok-proctype.proctype.now h) in
    body_is p gs ss all c.args.sort _ h (slice_get_read gs (length gs) c.args.sort c.index-graphs-sort.result refl g c.index-graphs-sort.is)
    (slice_get_read ss (length ss) c.args.sort c.index-statements-sort.result refl t c.index-statements-sort.is)
