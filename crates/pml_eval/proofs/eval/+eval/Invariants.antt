use Rattle.std.proofs.Common.{◌≡◌, ◌<◌, List, Ok, map, drop}
use Rattle.promela_process.specs.declared.sought.Sought.{Sought}
use Rattle.promela_process.specs.Expressions.{cells_of, turned_by, want, wants_of, is_match}
use Rattle.pml_eval.specs.Asking.{messages_of, settled}
use Rattle.pml_eval.proofs.Asking.{Rest}
use Rattle.pml_eval.proofs.eval.+eval.Given as goal

-- from the cell so far on by the rest is from the first on by all
abbrev pub invariant-turned-loop-turn : goal.invariant-turned-loop-turn
invariant-turned-loop-turn g l =
    let r = g.G.Ground.reading l.ground in
    record {
      same : cells_of (map turned_by (drop l.turn-index l.turns)) l.whole l.cell r ≡ cells_of (map turned_by l.turns) l.whole 0 r;
      there : l.cell < l.whole;
    }

-- the first fault of the rest is that of all
abbrev pub invariant-first_fault-loop-argument : goal.invariant-first_fault-loop-argument
invariant-first_fault-loop-argument g l =
    let r = g.G.Ground.reading l.ground in
    settled (wants_of (map want (drop l.argument-index l.arguments)) r) ≡ settled (wants_of (map want l.arguments) r)

-- whether one of the rest matches is whether one of all does
abbrev pub invariant-any_fits-loop-place : goal.invariant-any_fits-loop-place
invariant-any_fits-loop-place g l =
    let r = g.G.Ground.reading l.ground in
    let messages = messages_of (r.channel l.number) in
    (ws : List Sought) → wants_of (map want l.arguments) r ≡ Ok ws → is_match l.search ws (drop l.place messages) ≡ is_match l.search ws messages

-- the rest of what is asked decides
abbrev pub invariant-fits-loop-i : goal.invariant-fits-loop-i
invariant-fits-loop-i g l = (ws : List Sought) → Rest l.i l.arguments l.fields (g.G.Ground.reading l.ground) ws
