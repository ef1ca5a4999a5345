-- The names of the commands of a session.
use Rattle.std.specs.Prelude.{◌≡◌, ◌⊎◌, ℕ, nat_eq, List, codes, Bool, true}
use Rattle.std.specs.List.{starts_with}
use Rattle.view_commands.specs.declared.names.Name.{Name}
use Rattle.view_commands.specs.declared.names.Name.TheVariants as n

-- the whole name of a command
abbrev pub long_name : Name → List ℕ
long_name n.Moves = codes "moves"
long_name n.State = codes "state"
long_name n.Why = codes "why"
long_name n.Source = codes "source"
long_name n.Back = codes "back"
long_name n.Forward = codes "forward"
long_name n.Goto = codes "goto"
long_name n.Restart = codes "restart"
long_name n.Run = codes "run"
long_name n.Random = codes "random"
long_name n.Process = codes "p"
long_name n.Until = codes "until"
long_name n.Last = codes "last"
long_name n.Break = codes "break"
long_name n.Breaks = codes "breaks"
long_name n.Delete = codes "delete"
long_name n.Print = codes "print"
long_name n.Display = codes "display"
long_name n.Undisplay = codes "undisplay"
long_name n.Show = codes "show"
long_name n.Steps = codes "steps"
long_name n.Branches = codes "branches"
long_name n.Branch = codes "branch"
long_name n.Chart = codes "chart"
long_name n.Record = codes "record"
long_name n.Save = codes "save"
long_name n.Help = codes "help"
long_name n.Quit = codes "quit"

-- the short one, of a command that has one, else the whole
abbrev pub short_name : Name → List ℕ
short_name n.Moves = codes "m"
short_name n.State = codes "s"
short_name n.Why = codes "w"
short_name n.Source = codes "src"
short_name n.Back = codes "b"
short_name n.Forward = codes "f"
short_name n.Goto = codes "g"
short_name n.Restart = codes "r"
short_name n.Help = codes "h"
short_name n.Quit = codes "q"
short_name x = long_name x

-- a name begins so
abbrev pub begins : List ℕ → List ℕ → Bool
begins name word = starts_with nat_eq name word

-- a word of another program that stands for a command here
abbrev pub IsOther : List ℕ → Name → Type 0
IsOther word x = ((word ≡ codes "?") × (x ≡ n.Help)) ⊎ ((word ≡ codes "undo") × (x ≡ n.Back))

-- a word names a command: whole, short, by a beginning, or as other programs do
abbrev pub IsNamed : List ℕ → Name → Type 0
IsNamed word x = IsOther word x ⊎ (((word ≡ long_name x) ⊎ (word ≡ short_name x)) ⊎ (begins (long_name x) word ≡ true))
