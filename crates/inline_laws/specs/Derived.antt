-- What is answered of tokens in which inlines are called is what comes of them by rules.
use Rattle.std.specs.Prelude.{◌≡◌, ℕ, List, Some}
use Rattle.pml_token.specs.Word.{Word}
use Rattle.promela_text.specs.Inlines.{Inline, Becomes}
use Rattle.pml_inline.specs.Expansion.{Given, answered}

abbrev pub AnswersAreDerived : Type 0
AnswersAreDerived = (known : List Inline) (room : ℕ) (active : List (List ℕ)) (ts : List Word) (g : Given) → answered known room active ts ≡ Some g
    → Becomes known room active ts g.tokens g.count

abbrev pub DerivedAreAnswered : Type 0
DerivedAreAnswered = (known : List Inline) (room : ℕ) (active : List (List ℕ)) (ts us : List Word) (c : ℕ) → Becomes known room active ts us c
    → answered known room active ts ≡ Some (record { tokens = us; count = c })
