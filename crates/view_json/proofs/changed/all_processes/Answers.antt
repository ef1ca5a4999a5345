use Rattle.std.proofs.Common.{◌∙◌, ◌+◌, ◌∷◌, [], ap, sym, subst, map, List, ℕ, Vec, Global}
use Rattle.std.proofs.lemmas.List.{map-append}
use Rattle.view_json.specs.Shown.{ListsOldest}
use Rattle.view_json.proofs.Differing.{oldest_more}
use Rattle.view_json.proofs.changed.all_processes.Goals as goal

pub loop-process-preserved : goal.loop-process-preserved
loop-process-preserved c all =
    let here = c.in_ok-object.ensures c.in_ok-moves.ensures all in
    let f = λ (v : Vec ℕ Global). v.items in
    let s = c.args.live.now.state in
    let b = c.args.behind in
    subst (λ (os : List (List ℕ)). ListsOldest c.args.shown.now.processes s b.moves.now b.older b.changes.now (c.loop-process.process + 1) os
    c.args.list.now c.process_object.new.list)
    (sym (ap (map f) c.in_ok-push.ensures.items ∙ map-append f c.loop-process.objects.items (c.in_ok-object.object ∷ [])))
    (oldest_more c.args.shown.now.processes s b.moves.now b.older b.changes.now c.loop-process.process _ _ here.0 _ _ _ (c.loop-process.invariant all)
    here.1 here.2 here.3)
