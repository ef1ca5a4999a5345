-- What takes any number of a message.
use Rattle.std.specs.Prelude.{◌≡◌, ℤ, true, List, [], ◌∷◌, Ok}
use Rattle.pml_program.specs.declared.expr.Want.{Want}
use Rattle.promela_process.specs.declared.sought.Sought.{Sought}
use Rattle.promela_process.specs.Expressions.{Reading, want, matches_field}

-- what is asked for a field takes any number
abbrev pub TakesAny : Want → Type 0
TakesAny w = (r : Reading) (q : Sought) (x : ℤ) → want w r ≡ Ok q → matches_field q x ≡ true

-- so does what is asked for each
abbrev pub EachTakesAny : List Want → Type 0
EachTakesAny [] = Unit {0}
EachTakesAny (w ∷ ws) = TakesAny w × EachTakesAny ws
