-- The table of names that the code fills, mark by mark. The contracts of code speak of it; what it comes to is `before` of Naming.antt.
use Rattle.std.specs.Prelude.{ℕ, ◌+◌, nat_eq, if◌then◌else◌, is_some, List, [], ◌∷◌, ◌++◌}
use Rattle.promela_model.specs.declared.mark.Declared.{Declared}
use Rattle.promela_model.specs.declared.mark.What.{What}
use Rattle.promela_model.specs.declared.mark.What.TheVariants as what
use Rattle.promela_model.specs.declared.mark.Mark.{Mark}
use Rattle.promela_model.specs.declared.thing.Thing.{Thing}
use Rattle.promela_model.specs.Names.{Before, cells_in, variables_in, constants_in}
use Rattle.promela_model.specs.Names as first
use Rattle.check_names.specs.Entry.{Entry, entry, found}

-- the cells of an owner's variables
abbrev pub held : List Entry → ℕ → ℕ
held [] o = 0
held (e ∷ es) o = (if nat_eq e.owner o then cells_in e.thing else 0) + held es o

-- how many variables an owner has
abbrev pub variables : List Entry → ℕ → ℕ
variables [] o = 0
variables (e ∷ es) o = (if nat_eq e.owner o then variables_in e.thing else 0) + variables es o

-- how many mtype names there are
abbrev pub constants : List Entry → ℕ
constants [] = 0
constants (e ∷ es) = constants_in e.thing + constants es

-- what the table says is declared
abbrev pub told : List Entry → Before
told es = record { names = found es; cells = held es; variables = variables es; constants = constants es }

-- what a name is declared as, where es is declared before it
abbrev pub thing_of : List Entry → ℕ → Declared → Thing
thing_of es o d = first.thing_of (told es) o d

-- of two declarations of one name the first counts
unfoldable pub add : List Entry → ℕ → List ℕ → Thing → List Entry
add es o n t = if is_some (found es o n) then es else es ++ entry o n t ∷ []

unfoldable pub after : List Entry → ℕ → What → List Entry
after es o (what.Declares n d) = add es o n.text (thing_of es o d)
after es o _ = es

abbrev pub env_from : List Entry → List Mark → List Entry
env_from es [] = es
env_from es (m ∷ ms) = env_from (after es m.owner m.what) ms

-- what is declared by these marks
unfoldable pub env : List Mark → List Entry
env ms = env_from [] ms
