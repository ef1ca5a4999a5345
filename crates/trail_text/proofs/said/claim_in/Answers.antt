use Rattle.std.proofs.Common.{rules}
use Rattle.trail_text.proofs.said.claim_in.Goals as goal

pub returns : goal.returns
returns c = (c.in_ok-behind.field-0-0.now, c.in_ok-behind.behind.now, c.in_ok-name.rest.now, search rules, search rules, search rules)
