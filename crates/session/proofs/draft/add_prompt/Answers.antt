use Rattle.std.proofs.lemmas.Fmt.{decimal_digit}
use Rattle.session.proofs.Digits.{appended}
use Rattle.session.proofs.draft.add_prompt.Goals as goal

pub returns-then-most-lt10 : goal.returns-then-most-lt10
returns-then-most-lt10 c =
    let digit = decimal_digit c.args.most c.if-most-lt10.true in
    rw digit (appended c.extend_from_slice.result _ _ _ c.extend_from_slice.ensures.items)
