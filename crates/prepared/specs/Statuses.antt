-- The statuses where nothing is prepared.
use Rattle.std.specs.Prelude.{◌≡◌, ℕ}
use Rattle.prepared.specs.declared.unprepared.Unprepared.{Unprepared}
use Rattle.prepared.specs.declared.unprepared.Unprepared.TheVariants as why

-- 3 where the text is refused or too long, 4 where words are wrong or a file is missing, and 6 where memory was refused
abbrev pub IsStatusOfUnprepared : Unprepared → ℕ → Type 0
IsStatusOfUnprepared (why.Odd words) status = status ≡ 4
IsStatusOfUnprepared (why.Refused words) status = status ≡ 3
IsStatusOfUnprepared (why.Missing words) status = status ≡ 4
IsStatusOfUnprepared why.TooLong status = status ≡ 3
IsStatusOfUnprepared why.Memory status = status ≡ 6
