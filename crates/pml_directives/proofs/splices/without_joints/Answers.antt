use Rattle.std.proofs.Common.{◌≡◌, ◌<◌, ◌≤◌, ◌+◌, ◌++◌, ◌∷◌, [], ◌∙◌, length, take, drop, ap, sym, subst, arith, slice_index_or}
use Rattle.std.proofs.lemmas.List.{drop-drop, length-drop}
use Rattle.pml_directives.specs.Places.{AreOf, place_behind}
use Rattle.pml_directives.proofs.Places.{some, rest_more, place_more, after_offset, after_line, after_column, of_more, first_of}
use Rattle.pml_directives.proofs.splices.without_joints.Goals as goal
use Rattle.pml_directives.proofs.splices.without_joints.Goals.{then-passed-eq0-2+in_ok-push+in_ok-push-2, else-passed-eq0-2}

pub loop-rest-preserved : goal.loop-rest-preserved
loop-rest-preserved c =
    let text = c.args.text.now in
    let p = c.loop-rest.place in
    let rest = c.loop-rest.rest.now in
    let b = slice_index_or rest 0 0 in
    let kept = c.loop-rest.invariant in
    let pos : 0 < length rest = some (length rest) (c.loop-rest-test.ensures) in
    let off : c.behind-place.result.offset ≡ p.offset + 1 = ap (λ q. q.offset) c.behind-place.ensures ∙ after_offset p b in
    record {
      here = rest_more rest ∙ ap (drop 1) kept.here ∙ drop-drop 1 p.offset text ∙ ap (λ n. drop n text) (sym off);
      long =
          let a = ap length (rest_more rest) in
          let d = length-drop 1 rest in
          let l = kept.long in
          omega arith;
      low = subst (λ q. q.line ≤ q.offset + 1) (sym c.behind-place.ensures) (after_line p b kept.low);
      narrow = subst (λ q. q.column ≤ q.offset + 1) (sym c.behind-place.ensures) (after_column p b kept.narrow);
      place = c.behind-place.ensures ∙ place_more c.args.file text rest p kept.here pos kept.place ∙ ap (λ n. place_behind c.args.file (take n text)) (sym off);
      of = elim c.if-passed-eq0-2.branch [
        | then-passed-eq0-2+in_ok-push+in_ok-push-2 w ↦
            subst (λ xs. AreOf c.args.file text xs c.if-passed-eq0-2.places.items) (sym (ap (λ v. v.items) w.bytes-is ∙ w.in_ok-push.ensures.items))
            (subst (λ ps. AreOf c.args.file text (c.loop-rest.bytes.items ++ b ∷ []) ps) (sym (ap (λ v. v.items) w.places-is ∙ w.in_ok-push-2.ensures.items))
            (of_more c.args.file text c.loop-rest.bytes.items c.loop-rest.places.items b p kept.of (first_of text rest p.offset kept.here) kept.place))
        | else-passed-eq0-2 w ↦
            subst (λ xs. AreOf c.args.file text xs c.if-passed-eq0-2.places.items) (sym (ap (λ v. v.items) w.bytes-is))
            (subst (λ ps. AreOf c.args.file text c.loop-rest.bytes.items ps) (sym (ap (λ v. v.items) w.places-is)) kept.of)
      ];
    }
