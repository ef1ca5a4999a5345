use Rattle.std.proofs.Common.{sym}
use Rattle.lsp_answers.proofs.remedies.remedies.Goals as goal

pub returns : goal.returns
returns c = record { part = c.in-Some.field-0; is_asked = sym c.in-Some.ensures; told = c.in_ok-actions.ensures }
