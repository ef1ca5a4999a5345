use Rattle.std.proofs.Common.{sym}
use Rattle.lsp_answers.proofs.completions.completed.Goals as goal

pub returns-in_ok-completion-in-Some : goal.returns-in_ok-completion-in-Some
returns-in_ok-completion-in-Some c = record { at = c.in-Some.offset; is_asked = sym c.in-Some.ensures; told = c.in_ok-completion-in-Some.ensures }
