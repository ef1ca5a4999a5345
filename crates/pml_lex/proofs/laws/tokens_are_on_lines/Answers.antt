use Rattle.pml_lex.proofs.Lines.{token_lines}
use Rattle.pml_lex.proofs.laws.tokens_are_on_lines.Goals as goal

pub returns : goal.returns
returns c = token_lines
