use Rattle.std.proofs.Common.{arith}
use Rattle.pml_syntax.proofs.Whole.{is_found, is_only, is_none}
use Rattle.pml_syntax.proofs.program.parse.Goals as goal

pub returns-in-Ok-clause-found : goal.returns-in-Ok-clause-found
returns-in-Ok-clause-found c = is_found _ c.args.tokens.now _ c.in-Ok.t _ c.new-cursor.ensures c.in-Ok.ensures

pub returns-in-Ok-clause-only : goal.returns-in-Ok-clause-only
returns-in-Ok-clause-only c = is_only _ c.args.tokens.now _ c.in-Ok.t _ c.new-cursor.ensures c.in-Ok.ensures (omega arith)

pub returns-in-Err-Syntax-clause-only : goal.returns-in-Err-Syntax-clause-only
returns-in-Err-Syntax-clause-only c = is_none _ c.args.tokens.now _ _ c.new-cursor.ensures (rw c.in-Err-Syntax.field-0-is at c.in-Err-Syntax.ensures) (omega arith)

pub returns-in-Err-Syntax-clause-none : goal.returns-in-Err-Syntax-clause-none
returns-in-Err-Syntax-clause-none c line is = is_none _ c.args.tokens.now _ _ c.new-cursor.ensures (rw c.in-Err-Syntax.field-0-is at c.in-Err-Syntax.ensures) (omega arith)
