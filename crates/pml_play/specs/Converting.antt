-- What the parts of converting the choices of a text answer.
use Rattle.std.specs.Prelude.{ℕ, List}
use Rattle.devices.specs.Holdings.{Holdings}
use Rattle.promela_session.specs.declared.ends.Options.{Options}
use Rattle.promela_session.specs.declared.ends.End.{End}
use Rattle.promela_session.specs.declared.ends.Cause.{Cause}
use Rattle.promela_session.specs.declared.ends.Cause.TheVariants as cause
use Rattle.promela_run.specs.World.{Running}
use Rattle.pml_play.specs.declared.whole.Rejection.{Rejection}
use Rattle.pml_play.specs.declared.whole.Rejection.TheVariants.{Memory, Refused}
use Rattle.pml_program.specs.declared.program.Program.{Program}
use Rattle.pml_play.specs.Parts.{IsReady}
use Rattle.pml_play.specs.Transcript.{IsModel}
use Rattle.pml_play.specs.Transcript.{Converts}

-- so of each text that stands for this model
abbrev pub ConvertsModel : Running → Options → Holdings → Holdings → End → Type 0
ConvertsModel model options before after end = (text : List ℕ) → IsModel text options.lossy model → Converts text options before after end

-- so of each text that is ready to be played as this program
abbrev pub ConvertsReady : Program → Options → Holdings → Holdings → End → Type 0
ConvertsReady p options before after end = (text : List ℕ) → IsReady text p → Converts text options before after end

-- why the conversion over a rejected text ends
abbrev pub cause_rejected : Rejection → Cause
cause_rejected Memory = cause.Memory
cause_rejected (Refused refusal line) = cause.Refused refusal line
