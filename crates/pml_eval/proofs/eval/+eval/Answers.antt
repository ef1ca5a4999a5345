use Rattle.std.proofs.Common.{rules, ◌≡◌, ◌<◌, true, false, Ok, List, [], length, get_or, ℤ, pos, w32, to_z, of_z, FitsSigned, ◌∙◌, sym, ap}
use Rattle.std.proofs.lemmas.Int.{to_z-of_z}
use Rattle.promela_process.specs.Expressions.{want, matched, matches_field}
use Rattle.pml_eval.specs.Asking.{messages_of}
use Rattle.pml_eval.proofs.Asking.{Rest-next, wants-length, match-next}
use Rattle.pml_eval.proofs.Matching.{matched-length}
use Rattle.pml_eval.proofs.eval.+eval.Goals as goal

pub any_fits-loop-place-preserved : goal.any_fits-loop-place-preserved
any_fits-loop-place-preserved g t c ws all =
    let e : matched ws c.message.result.now ≡ false = search rules in
    let n : to_z w32 (of_z w32 c.args.number) ≡ c.args.number = let f : FitsSigned w32 c.args.number = search rules in to_z-of_z w32 _ f in
    let ms : List (List ℤ) = messages_of ((g.G.Ground.reading c.args.ground.now).channel c.args.number) in
    let l : c.loop-place.place < length ms = search (rules, n) in
    let m : c.message.result.now ≡ get_or ms c.loop-place.place [] = search (rules, n) in
    let before = rw n at (c.loop-place.invariant ws all) in
    rw n (match-next _ ws ms _ l c.in_default.is (rw (← m) e) ∙ before)

pub fits-returns-then-arguments-fields : goal.fits-returns-then-arguments-fields
fits-returns-then-arguments-fields g t c ws all =
    ap Ok (sym (matched-length ws c.args.fields.now (λ e. c.if-arguments-fields.true (sym (wants-length _ _ ws all) ∙ e))))

pub fits-loop-i-preserved : goal.fits-loop-i-preserved
fits-loop-i-preserved g t c ws =
    let l : c.loop-i.i < length c.args.arguments.now = search rules in
    let k : c.loop-i.i < length c.args.fields.now = search rules in
    let e : want c.index-arguments-i.result (g.G.Ground.reading c.args.ground.now) ≡ Ok c.in_ok-one.one = search rules in
    let taken-here : matches_field c.in_ok-one.one (get_or c.args.fields.now c.loop-i.i (pos 0)) ≡ true = search rules in
    Rest-next _ _ _ _ _ _ c.in_ok-one.one l k (rw c.index-arguments-i.is at e) taken-here (c.loop-i.invariant ws)
