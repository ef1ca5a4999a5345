use Rattle.std.proofs.Common.{◌≡◌, ◌∙◌, ◌+◌, ap, sym, drop, length, arith}
use Rattle.std.proofs.lemmas.List.{drop-drop}
use Rattle.pml_directives.specs.declared.lines.AtomLine.{AtomLine}
use Rattle.pml_directives.proofs.Standing.{all_stand_still, stand_still, one_more, one_line, same_stand, same_lines, none_stand, token_stands}
use Rattle.pml_directives.proofs.lines.cut.Goals as goal
use Rattle.pml_directives.proofs.lines.cut.Goals.{in-Blank, in-LineFeed+in_ok-push-in-LineFeed, in-Token+in_ok-number-in-Token+in_ok-push-in-Token}

pub loop-rest-preserved : goal.loop-rest-preserved
loop-rest-preserved c =
    let bytes = c.args.bytes.now in
    let places = c.args.places.now in
    let end = c.args.last in
    let old = c.loop-rest.book in
    let new = c.match-lexeme.book in
    let here : c.split_at.result.1.now ≡ drop (c.loop-rest.at + c.next-length.result.0) bytes =
    c.split_at.ensures.back ∙ ap (drop c.next-length.result.0) c.loop-rest.invariant.here ∙ drop-drop c.next-length.result.0 c.loop-rest.at bytes in
    let long : c.loop-rest.at + c.next-length.result.0 + length c.split_at.result.1.now ≡ length bytes =
    let a = c.split_at.ensures.back_len in
    let b = c.loop-rest.invariant.long in
    let d = c.next-length.ensures.1 in
    omega arith in
    elim c.match-lexeme.branch [
      | in-Blank w ↦ record {
        here = here;
        long = long;
        lines = same_lines old new bytes places end c.loop-rest.lines.items c.match-lexeme.lines.items w.book-is (ap (λ v. v.items) w.lines-is) c.loop-rest.invariant.lines;
        atoms = same_stand old new bytes places end c.loop-rest.atoms.items c.match-lexeme.atoms.items w.book-is (ap (λ v. v.items) w.atoms-is) c.loop-rest.invariant.atoms;
      }
      | in-LineFeed+in_ok-push-in-LineFeed w ↦
          let l : AtomLine = record { atoms = c.loop-rest.atoms; end = c.place_at-place.result } in
          record {
            here = here;
            long = long;
            lines = same_lines old new bytes places end _ c.match-lexeme.lines.items w.book-is (ap (λ v. v.items) w.lines-is ∙ w.in_ok-push-in-LineFeed.ensures.items)
                (one_line old bytes places end c.loop-rest.lines.items l c.loop-rest.invariant.lines c.loop-rest.invariant.atoms);
            atoms = none_stand new bytes places end c.match-lexeme.atoms.items (ap (λ v. v.items) w.atoms-is ∙ w.new-atoms-in-LineFeed.ensures.items);
          }
      | in-Token+in_ok-number-in-Token+in_ok-push-in-Token w ↦
          let made = w.number.new.self in
          let keeps = w.in_ok-number-in-Token.ensures.keeps in
          record {
            here = here;
            long = long;
            lines = same_lines made new bytes places end c.loop-rest.lines.items c.match-lexeme.lines.items w.book-is (ap (λ v. v.items) w.lines-is)
                (all_stand_still old made bytes places end c.loop-rest.lines.items keeps c.loop-rest.invariant.lines);
            atoms = same_stand made new bytes places end _ c.match-lexeme.atoms.items w.book-is (ap (λ v. v.items) w.atoms-is ∙ w.in_ok-push-in-Token.ensures.items)
                (one_more made bytes places end c.loop-rest.atoms.items w.atom.result (stand_still old made bytes places end c.loop-rest.atoms.items keeps c.loop-rest.invariant.atoms)
                (token_stands made bytes places end w.atom.result c.loop-rest.rest.now c.split_at.result.0.now w.in_ok-number-in-Token.number c.loop-rest.at c.next-length.result.0 c.loop-rest.invariant.here c.split_at.ensures.front
                w.in_ok-number-in-Token.ensures.is w.atom.ensures.text (w.atom.ensures.place ∙ c.place_at-place.ensures) (w.atom.ensures.own ∙ sym w.atom.ensures.place)));
          }
    ]
