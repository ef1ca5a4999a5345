-- What a line of a session says.
use Rattle.std.specs.Prelude.{◌≡◌, ◌&&◌, ℕ, leb, List, [], ◌∷◌, Bool, true, false, Option, Some, None}
use Rattle.std.specs.Borrow.{Bor}
use Rattle.std.specs.List.{list_all}
use Rattle.view_commands.specs.declared.names.Name.{Name}
use Rattle.view_commands.specs.declared.command.Command.{Command}
use Rattle.view_commands.specs.declared.command.Command.TheVariants as command
use Rattle.view_commands.specs.Names.{IsNamed}
use Rattle.view_commands.specs.Named.{name_of}
use Rattle.view_commands.specs.Others.{told}
use Rattle.view_commands.specs.Forms.{form_of, IsMeant, IsBehind}

-- a digit
abbrev pub is_digit : ℕ → Bool
is_digit b = leb 48 b && leb b 57

-- what there is in the place of a word that another program has, and nothing else
abbrev pub IsTold : Option (List ℕ) → Command → Type 0
IsTold None c = c ≡ command.Unknown
IsTold (Some words) c = (told : Bor (List ℕ)) × (told.now ≡ words) × (c ≡ command.Wrong told)

-- a word that names no command
abbrev pub IsUnnamed : List ℕ → Command → Type 0
IsUnnamed word c = IsTold (told word) c

-- the command of this name with these words behind it; where a word names none, no command
abbrev pub IsCommand : Option Name → List ℕ → Bor (List ℕ) → List (Bor (List ℕ)) → Command → Type 0
IsCommand None line first rest c = IsUnnamed first.now c
IsCommand (Some x) line first rest c =
    IsNamed first.now x × (text : Bor (List ℕ)) × IsBehind line first.now text.now × IsMeant (form_of x) x rest text c

-- nothing asks for the question again, digits choose, and else the first word names a command
abbrev pub IsRead : List ℕ → List (Bor (List ℕ)) → Command → Type 0
IsRead line [] c = c ≡ command.Moves false
IsRead line (first ∷ rest) c =
    (list_all is_digit first.now ≡ true → c ≡ command.Choose) × (list_all is_digit first.now ≡ false → IsCommand (name_of first.now) line first rest c)
