-- Processes, and where they stand.
use Rattle.std.specs.Prelude.{ℕ, List, [], Option, Some, None, slice_get}
use Rattle.pml_program.specs.declared.program.Proctype.{Proctype}
use Rattle.pml_program.specs.declared.program.Program.{Program}
use Rattle.promela_process.specs.Control.{Control}
use Rattle.promela_process.specs.Offers.{line_at}
use Rattle.promela_run.specs.Lines.{proctype_name}
use Rattle.promela_run.specs.State.{Stand, State}
use Rattle.promela_run.specs.World.{sort_of_process}

abbrev pub name_by : Option Proctype → List ℕ
name_by None = []
name_by (Some q) = proctype_name q.name

-- the name of a process's proctype, or of init
abbrev pub name_of : State → ℕ → List ℕ
name_of s p = name_by (sort_of_process s p)

abbrev pub line_in : Option Proctype → Control → ℕ
line_in None c = 0
line_in (Some q) c = line_at q.body q.end.line c

abbrev pub line_by : Program → Option Stand → ℕ
line_by pr None = 0
line_by pr (Some y) = line_in (slice_get pr.proctypes y.sort) y.control

-- the line of what stands first in a process, or of its closing brace
abbrev pub line_of : State → ℕ → ℕ
line_of s p = line_by s.program (slice_get s.stands p)
