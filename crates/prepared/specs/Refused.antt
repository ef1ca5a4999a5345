-- What is answered for a text that the preprocessor refuses.
use Rattle.std.specs.Prelude.{ℕ, ◌-◌, List, Bool, true, false, Option, None, Some}
use Rattle.pml_macros.specs.declared.atom.Atom.{Atom}
use Rattle.pml_macros.specs.declared.atom.FilePlace.{FilePlace}
use Rattle.source_lines.specs.Places.{start_at, line_at}
use Rattle.source_lines.specs.Shown.{line_with_carets}
use Rattle.pml_macros.specs.declared.trouble.Trouble.{Trouble}
use Rattle.pml_macros.specs.declared.trouble.Trouble.TheVariants as trouble
use Rattle.pml_directives.specs.declared.refusal.Why.{Why}
use Rattle.pml_directives.specs.declared.refusal.Why.TheVariants as why

-- the token of a call that is wrong
abbrev pub token_of : Trouble → Option Atom
token_of trouble.Memory = None
token_of (trouble.Open a) = Some a
token_of (trouble.Arguments a n) = Some a
token_of (trouble.Joined a) = Some a
token_of (trouble.Much a) = Some a
token_of (trouble.Deep a) = Some a

abbrev pub atom_of : Why → Option Atom
atom_of (why.Call t) = token_of t
atom_of _ = None

abbrev pub is_of_memory : Trouble → Bool
is_of_memory trouble.Memory = true
is_of_memory _ = false

abbrev pub is_memory : Why → Bool
is_memory why.Memory = true
is_memory (why.Call t) = is_of_memory t
is_memory _ = false

abbrev pub is_missing : Why → Bool
is_missing why.File = true
is_missing _ = false

-- the line of a place, with a mark below it
abbrev pub line_told : List ℕ → FilePlace → List ℕ
line_told text p = line_with_carets p.line (line_at text p.offset) (p.offset - start_at text p.offset) 1
