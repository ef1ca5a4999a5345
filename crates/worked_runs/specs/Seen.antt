-- What is seen of a session over a checked model.
use Rattle.std.specs.Prelude.{ℕ, List, length, Option, Some, None, option_map, Result, Ok, Err}
use Rattle.diagnostics.specs.declared.fault.Fault.{Fault}
use Rattle.promela_session.specs.declared.ends.Options.{Options}
use Rattle.promela_session.specs.declared.ends.End.{End}
use Rattle.promela_session.specs.Events.{output, recorded, front, Part}
use Rattle.promela_session.specs.Session.{transcript}
use Rattle.pml_program.specs.declared.program.Program.{Program}
use Rattle.promela_run.specs.State.{State, first_state}
use Rattle.promela_run.specs.World.{first, rules}

-- the transcript from a first state
abbrev pub played_from : Options → List ℕ → Result State Fault → Option (Part End)
played_from o choices (Ok s) = Some (transcript rules o (first s o.lossy) choices)
played_from o choices (Err f) = None

-- the transcript of a model, where it has a first state
abbrev pub played : Options → Program → List ℕ → Option (Part End)
played o p choices = played_from o choices (first_state p)

-- its output, its record, its exit status, and how many bytes of the choices it reads
pub record Seen : Type 0 where
  pub output : List ℕ
  pub recorded : List ℕ
  pub status : ℕ
  pub read : ℕ

abbrev pub seen_of : Part End → Seen
seen_of x = record { output = output x.events; recorded = recorded x.events; status = x.value.status; read = length (front x.events) }

abbrev pub seen : Options → Program → List ℕ → Option Seen
seen o p choices = option_map seen_of (played o p choices)
