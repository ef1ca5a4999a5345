use Rattle.std.proofs.Common.{List}
use Rattle.promela_process.specs.declared.sought.Sought.{Sought}
use Rattle.pml_eval.proofs.Asking.{Rest}
use Rattle.pml_value.specs.Seen.{seen}
use Rattle.run_search.proofs.message.is_asked.Given as goal

-- the rest of what is asked decides
abbrev pub invariant-loop-i : goal.invariant-loop-i
invariant-loop-i l = (ws : List Sought) → Rest l.i l.arguments l.m.fields (seen l.view) ws
