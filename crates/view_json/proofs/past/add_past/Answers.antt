use Rattle.std.proofs.Common.{Some, None, subst, codes}
use Rattle.view_text.specs.Written.{Adds}
use Rattle.view_text.proofs.Writing.{chained}
use Rattle.view_json.proofs.Ended.{past_text, past_printable, no_past}
use Rattle.view_json.proofs.past.add_past.Goals as goal

pub returns-in-Some : goal.returns-in-Some
returns-in-Some c = (
  Some c.json_of.result.tokens,
  subst (Adds c.args.out.now c.finish.new.out) (past_text c.json_of.result.tokens) (chained _ _ _ _ _ c.add.ensures c.finish.ensures.written),
  λ calm. past_printable c.json_of.result.tokens c.finish.ensures.printable,
)

pub returns-in_default : goal.returns-in_default
returns-in_default c = no_past c.args.out.now
