-- Which command a word names, and which words name none.
use Rattle.std.specs.Prelude.{ℕ, ◌||◌, List, [], ◌∷◌, codes, Bool, Option, Some, None, is_some, if◌then◌else◌}
use Rattle.std.specs.List.{filter, find}
use Rattle.std.specs.Str.{bytes_eq}
use Rattle.view_commands.specs.declared.names.Name.{Name}
use Rattle.view_commands.specs.declared.names.Name.TheVariants as n
use Rattle.view_commands.specs.declared.names.TheConstants.{NAMES}
use Rattle.view_commands.specs.Names.{long_name, short_name, begins}
use Rattle.view_commands.specs.Others.{told}

-- a word is the whole or the short name of a command
abbrev pub is_name : List ℕ → Name → Bool
is_name word x = bytes_eq word (long_name x) || bytes_eq word (short_name x)

-- the whole name of a command begins so
abbrev pub is_begun : List ℕ → Name → Bool
is_begun word x = begins (long_name x) word

-- the one of a list, where it has just one
abbrev pub only : List Name → Option Name
only (x ∷ []) = Some x
only _ = None

-- the command with this name, of all that there are
unfoldable pub named : List ℕ → Option Name
named word = find (is_name word) NAMES

-- the one of them whose name begins so
unfoldable pub begun : List ℕ → Option Name
begun word = only (filter (is_begun word) NAMES)

-- the command whose name a word is, else the one whose name begins so, but for a word of another program
abbrev pub named_or_begun : List ℕ → Option Name → Option Name
named_or_begun word (Some x) = Some x
named_or_begun word None = if is_some (told word) then None else begun word

-- the command that a word names
unfoldable pub name_of : List ℕ → Option Name
name_of word =
    if bytes_eq word (codes "?") then Some n.Help
    else if bytes_eq word (codes "undo") then Some n.Back
    else named_or_begun word (named word)
