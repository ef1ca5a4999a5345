-- Words for parts of what a session does: how it ends where there is no move, and the lines that it keeps.
use Rattle.std.specs.Prelude.{◌≡◌, ℕ, Bool, true, if◌then◌else◌, List, ◌++◌}
use Rattle.std.specs.List.{list_all}
use Rattle.promela_session.specs.declared.ends.Cause.{Cause}
use Rattle.promela_session.specs.declared.ends.Cause.TheVariants as cause
use Rattle.promela_session.specs.Events.{Event, output, last_line}
use Rattle.promela_session.specs.Devices.{is_readable, converted_events}

-- where there is no move, the end is a valid one or not
abbrev pub final_cause : Bool → Cause
final_cause valid = if valid then cause.Valid else cause.Invalid

-- the lines of such an end
abbrev pub final_lines : Bool → List ℕ → ℕ → List ℕ
final_lines valid stuck steps = if valid then last_line cause.Valid steps else last_line cause.Invalid steps ++ stuck

-- each line that is recorded can be read as a choice
abbrev pub AreReadable : List Event → Type 0
AreReadable events = list_all is_readable events ≡ true

-- the choices of a run in the second version, without their first line
abbrev pub placed_lines : List Event → List ℕ
placed_lines events = output (converted_events events)
