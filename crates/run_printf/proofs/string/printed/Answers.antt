use Rattle.std.proofs.Common.{◌≡◌, ◌+◌, ◌≤◌, drop, get_or, sym, ◌∙◌, arith, rules, SFits, w32, to_z-of_z}
use Rattle.promela_run.specs.Lines.{values_left}
use Rattle.run_values.proofs.Keeping.{front, behind, refused}
use Rattle.run_printf.proofs.Printing.{turn, taken, kept}
use Rattle.run_printf.proofs.string.printed.Goals as goal
use Rattle.run_printf.proofs.string.printed.Goals.{then-takes_value, else-takes_value}

pub returns-in_err-add_byte-clause-kept : goal.returns-in_err-add_byte-clause-kept
returns-in_err-add_byte-clause-kept c =
    refused c.from_residual.result c.add_byte.new.text.items c.args.text.now.items
    (behind c.add_byte.new.text.items c.loop-byte.text.items c.args.text.now.items c.in_err-add_byte.ensures.kept c.loop-byte.invariant.kept)

pub loop-byte-preserved : goal.loop-byte-preserved
loop-byte-preserved c =
    let l = c.loop-byte in
    let values = c.args.values.now in
    let bytes = c.inside-byte-items.result.now in
    let byte = get_or bytes l.byte-index 0 in
    let fits : SFits w32 c.value_at-value.result = search rules in
    let left : drop c.if-takes_value.taken values ≡ values_left l.before byte (drop l.taken values) = elim c.if-takes_value.branch [
      | then-takes_value w ↦ rw w.taken-is (taken l.before byte l.taken values (sym c.takes_value.ensures ∙ w.if-takes_value.true))
      | else-takes_value w ↦ rw w.taken-is (kept l.before byte l.taken values (sym c.takes_value.ensures ∙ w.if-takes_value.false))
    ] in
    let few : c.if-takes_value.taken ≤ l.byte-index + 1 = elim c.if-takes_value.branch [
      | then-takes_value w ↦ omega (arith, w.taken-is)
      | else-takes_value w ↦ omega (arith, w.taken-is)
    ] in
    record {
      same = rw (← c.inside-byte-items.ensures, c.before_next-before.ensures)
          (turn c.args.constants.now l.before bytes l.byte-index c.value_at-value.result (drop l.taken values) _ l.text.items _ _ c.loop-byte-test.true
          c.value_at-value.ensures (rw (to_z-of_z fits) at c.in_ok-add_byte.ensures.added) left
          (rw (← c.inside-byte-items.ensures) at l.invariant.same));
      kept = behind c.add_byte.new.text.items l.text.items c.args.text.now.items (simp (c.in_ok-add_byte.ensures.added, front)) l.invariant.kept;
      few = few;
    }
