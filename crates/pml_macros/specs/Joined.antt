-- Two tokens as one.
use Rattle.std.specs.Prelude.{◌≡◌, ◌++◌}
use Rattle.pml_macros.specs.declared.atom.Atom.{Atom}
use Rattle.pml_macros.specs.declared.book.Book.{Book}
use Rattle.pml_macros.specs.Texts.{IsText, text_in}

-- a token stands where the first of two stood, and its text is theirs, one behind the other
abbrev pub IsOfBoth : Book → Book → Atom → Atom → Atom → Type 0
IsOfBoth old new left right a = (a.place ≡ left.place) × IsText new a.text (text_in old left.text ++ text_in old right.text)
