-- The statuses of the program.
use Rattle.std.specs.Prelude.{◌≡◌, ℕ, Bool, ◌&&◌, if◌then◌else◌, ◌⊎◌}
use Rattle.prepared.specs.Statuses.{IsStatusOfUnprepared}
use Rattle.spinprep_program.specs.declared.stop.Hindrance.{Hindrance}
use Rattle.spinprep_program.specs.declared.stop.Hindrance.TheVariants as stop

-- the status that is answered where nothing is prepared: that of the text where it is refused, 4 where the words are wrong or a file cannot be read, 6 where a device
-- or memory fails, and of the help 0, or 6 where it cannot be shown
abbrev pub IsStatus : Hindrance → ℕ → Type 0
IsStatus stop.Help n = (n ≡ 0) ⊎ (n ≡ 6)
IsStatus stop.Words n = n ≡ 4
IsStatus (stop.Unprepared why) n = IsStatusOfUnprepared why n
IsStatus (stop.CannotOpen name) n = n ≡ 4
IsStatus (stop.CannotRead name) n = n ≡ 4
IsStatus stop.Device n = n ≡ 6
IsStatus stop.Memory n = n ≡ 6

-- 1 where something is left that is not played, and that is asked for, and else 0
abbrev pub status : Bool → Bool → ℕ
status is_strict is_left = if is_strict && is_left then 1 else 0
