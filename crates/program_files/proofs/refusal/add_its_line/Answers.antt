use Rattle.std.proofs.Common.{rules}
use Rattle.program_files.specs.Explained.{line}
use Rattle.program_files.proofs.refusal.add_its_line.Goals as goal

pub returns-then-file-eq0 : goal.returns-then-file-eq0
returns-then-file-eq0 c = line c.as_slice.result.now (search (rules, c.in_ok-push_its_line.ensures))

pub returns-in_ok-push_its_line-in-Some : goal.returns-in_ok-push_its_line-in-Some
returns-in_ok-push_its_line-in-Some c = line c.deref.result.now (search (rules, c.in_ok-push_its_line-in-Some.ensures))
