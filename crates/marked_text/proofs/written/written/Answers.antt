use Rattle.std.proofs.Common.{◌∙◌, ◌++◌, [], ap, sym, subst}
use Rattle.std.proofs.lemmas.List.{take_all}
use Rattle.marked_text.specs.Writes.{names, spot, mark_of, WritesAll}
use Rattle.marked_text.proofs.Going.{Written, written_first, written_more, all_written, goes_none, goes_feed, take_next}
use Rattle.marked_text.proofs.written.written.Goals as goal
use Rattle.marked_text.proofs.written.written.Goals.{then-not-pen+in_ok-push, else-not-pen}

pub loop-atom-init : goal.loop-atom-init
loop-atom-init c =
    written_first c.args.book.now (names c.args.sources.names.now) c.add_mark.new.out.items (spot c.start-pen.result)
    (c.in_ok-add_mark.ensures ∙ ap (λ xs. xs ++ mark_of 1 []) c.new-out.ensures.items) c.start-pen.ensures

pub loop-atom-preserved : goal.loop-atom-preserved
loop-atom-preserved c =
    subst (λ xs. Written c.args.book.now (names c.args.sources.names.now) xs c.write.new.out.items (spot c.write.new.self)) (sym (take_next c.loop-atom.atom-index c.args.atoms.now _ c.loop-atom-test.true))
    (written_more _ c.loop-atom.invariant c.in_ok-go_before.ensures.goes c.in_ok-go_before.ensures.there c.text.ensures c.in_ok-write.ensures.adds c.in_ok-write.ensures.spot)

pub returns : goal.returns
returns c =
    let b = c.args.book.now in
    let ns = names c.args.sources.names.now in
    let atoms = c.args.atoms.now in
    let old = c.loop-atom.out.items in
    let p = spot c.loop-atom.pen in
    let all : Written b ns atoms old p = subst (λ xs. Written b ns xs old p) (take_all c.loop-atom.atom-index atoms c.loop-atom-test.false) c.loop-atom.invariant in
    elim c.if-not-pen.branch [
      | then-not-pen+in_ok-push w ↦ all_written all (goes_feed ns old c.if-not-pen.out.items p (ap (λ v. v.items) w.out-is ∙ w.in_ok-push.ensures.items))
      | else-not-pen w ↦ subst (λ xs. WritesAll b ns atoms xs) (sym (ap (λ v. v.items) w.out-is)) (all_written all (goes_none ns old p))
    ]
