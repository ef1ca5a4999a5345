-- The files that a run has, and the status where one cannot be used.
use Rattle.std.specs.Prelude.{◌≡◌, ℕ, Bool, ◌==◌, ◌&&◌, if◌then◌else◌, List, [], ◌∷◌, ◌++◌, Option, Some, None}
use Rattle.prepared.specs.Statuses.{IsStatusOfUnprepared}
use Rattle.program_files.specs.declared.fault.NoFile.{NoFile}
use Rattle.program_files.specs.declared.fault.NoFile.TheVariants as no
use Rattle.program_files.specs.declared.held.RunFile.{RunFile}
use Rattle.program_files.specs.declared.held.FileRole.{FileRole}
use Rattle.program_files.specs.declared.identity.Identity.{Identity}

-- both are one file: on one device, with one number there
abbrev pub is_file : (a b : Identity) → Bool
is_file a b = (a.device == b.device) && (a.number == b.number)

-- with a file more, where it is one
abbrev pub with_file : List RunFile → Option Identity → FileRole → List RunFile
with_file entries None role = entries
with_file entries (Some file) role = entries ++ record { file = file; role = role } ∷ []

-- what a file is in a run that has these: the first that it is
abbrev pub held_as : Identity → List RunFile → Option FileRole
held_as file [] = None
held_as file (entry ∷ entries) = if is_file entry.file file then Some entry.role else held_as file entries

-- the status where a file cannot be used: 6 where memory was refused, and where nothing is prepared of it that of the reason
abbrev pub IsStatusOfFile : NoFile → ℕ → Type 0
IsStatusOfFile no.Memory status = status ≡ 6
IsStatusOfFile (no.CannotOpen name error) status = status ≡ 4
IsStatusOfFile (no.CannotRead name error) status = status ≡ 4
IsStatusOfFile (no.CannotWrite name error) status = status ≡ 4
IsStatusOfFile (no.WouldEmpty name role) status = status ≡ 4
IsStatusOfFile (no.Unprepared why) status = IsStatusOfUnprepared why status
