use Rattle.std.proofs.Common.{rules, arith, ◌≡◌, ◌-◌, ◌+◌, length}
use Rattle.session.proofs.Numbering.{digit_set, text_added}
use Rattle.session.proofs.step_numbers.StepNumbers.add.Goals as goal

pub invariant_of-self : goal.invariant_of-self
invariant_of-self c = digit_set c.self.inside.least c.self.inside.begin c.self.inside.words (search rules) c.self.invariant (48 + (c.args.n - c.self.inside.least))

pub invariant_of-self-2 : goal.invariant_of-self-2
invariant_of-self-2 c = digit_set c.self.inside.least c.self.inside.begin c.self.inside.words (search rules) c.self.invariant (48 + (c.args.n - c.self.inside.least))

pub returns-clause-added : goal.returns-clause-added
returns-clause-added c =
    text_added c.self.inside.least c.self.inside.begin c.self.inside.words (search rules) c.self.invariant c.args.n (search rules) (search rules)
    c.args.text.now.items c.extend_from_slice.new.self.items c.truncate.new.self.items _ c.in_ok-extend_from_slice.ensures.items c.truncate.ensures.items (search rules)
