use Rattle.std.proofs.Common.{rules, arith, ◌≡◌, ◌∙◌, ◌≤◌, ◌+◌, ◌-◌, length, drop, length-drop, length-take-le}
use Rattle.std.specs.Fmt.{decimal}
use Rattle.std.proofs.lemmas.Fmt.{length-decimal-le}
use Rattle.session.proofs.step_numbers.write_step.Goals as goal

pub write_digits-from-requires : goal.write_digits-from-requires
write_digits-from-requires c =
    let few : length (decimal c.args.n) ≤ 20 = search (rules, length-decimal-le 20) in
    search rules

pub overflow_sub-begin : goal.overflow_sub-begin
overflow_sub-begin c =
    let few : length (decimal c.args.n) ≤ 20 = search (rules, length-decimal-le 20) in
    search rules

pub copy_from_slice-requires : goal.copy_from_slice-requires
copy_from_slice-requires c =
    let few : length (decimal c.args.n) ≤ 20 = search (rules, length-decimal-le 20) in
    let start : c.write_digits-from.result + length (decimal c.args.n) ≡ 32 = c.write_digits-from.ensures.start in
    let long : 32 ≤ length c.write_digits-from.new.buf = search rules in
    let m = c.write_digits-from.result - 5 in
    let rest = length-drop m c.write_digits-from.new.buf in
    length-take-le (c.write_digits-from.result - m) (drop m c.write_digits-from.new.buf) (omega arith) ∙ omega arith
