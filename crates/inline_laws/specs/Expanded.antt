-- What is answered of the tokens of a text, with the definitions of inlines in them, is what comes of them by rules.
use Rattle.std.specs.Prelude.{List}
use Rattle.pml_token.specs.Word.{Word}
use Rattle.promela_text.specs.Inlines.{Expands}
use Rattle.pml_inline.specs.Expansion.{Gives}

-- the whole of what is answered of a text's tokens is what the rules derive
abbrev pub ExpansionsAreDerived : Type 0
ExpansionsAreDerived = (ts us : List Word) → Gives ts us → Expands ts us

-- and no other
abbrev pub DerivedAreExpansions : Type 0
DerivedAreExpansions = (ts us : List Word) → Expands ts us → Gives ts us
