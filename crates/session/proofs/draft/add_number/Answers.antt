use Rattle.std.proofs.Common.{rules, ◌≤◌, length}
use Rattle.std.specs.Fmt.{decimal}
use Rattle.std.proofs.lemmas.Fmt.{length-decimal-le}
use Rattle.session.proofs.Digits.{one_digit}
use Rattle.session.proofs.draft.add_number.Goals as goal

pub returns-then-n-lt10 : goal.returns-then-n-lt10
returns-then-n-lt10 c =
    let digit = one_digit c.args.n c.args.places.now c.if-n-lt10.true c.requires.room in
    search (rules, digit)

pub write_digits-digits-requires : goal.write_digits-digits-requires
write_digits-digits-requires c =
    let few : length (decimal c.args.n) ≤ 20 = search (rules, length-decimal-le 20) in
    search rules

pub add_before-requires-2-clause-room : goal.add_before-requires-2-clause-room
add_before-requires-2-clause-room c =
    let few : length (decimal c.args.n) ≤ 20 = search (rules, length-decimal-le 20) in
    search rules
