use Rattle.std.proofs.Common.{append_assoc}
use Rattle.run_printf.proofs.Numerals.{one_digit, more_digits}
use Rattle.run_printf.proofs.digits.+add_digits.Goals as goal
use Rattle.run_printf.proofs.digits.+add_digits.Goals.{then-number-base+in_ok-add_digits, else-number-base}

pub returns-clause-added : goal.returns-clause-added
returns-clause-added t c = elim c.if-number-base.branch [
  | then-number-base+in_ok-add_digits w ↦
      rw (c.in_ok-push.ensures.items, w.text-is, w.in_ok-add_digits.ensures.added, c.digit.ensures, append_assoc, more_digits c.args.base c.args.number c.requires.least w.if-number-base.true c.ranges.number.fits)
  | else-number-base w ↦
      rw (c.in_ok-push.ensures.items, w.text-is, c.digit.ensures, one_digit c.args.base c.args.number w.if-number-base.false)
]
