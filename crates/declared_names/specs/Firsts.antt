-- The names that marks declare, each where it is declared first.
use Rattle.std.specs.Prelude.{ℕ, nat_eq, if◌then◌else◌, List, [], ◌∷◌, length, flat_map, Option, Some, None}
use Rattle.std.specs.Option.{option_map_or}
use Rattle.pml_token.specs.Word.{Word}
use Rattle.promela_model.specs.declared.mark.What.{What}
use Rattle.promela_model.specs.declared.mark.What.TheVariants as what
use Rattle.promela_model.specs.declared.mark.Mark.{Mark}
use Rattle.promela_model.specs.Names.{Naming, before}
use Rattle.declared_names.specs.Sites.{Sites, sites, labels}
use Rattle.declared_names.specs.declared.declared.Declaration.{Declaration}
use Rattle.declared_names.specs.declared.declared.Stands.{Stands}
use Rattle.declared_names.specs.declared.declared.Stands.TheVariants.{Thing, Label}

-- a name of o, if it is first declared there
abbrev pub declared_first : ℕ → Word → Option ℕ → Stands → List Declaration
declared_first o w None s = []
declared_first o w (Some p) s =
    if nat_eq p w.line then record { at = w.line; length = length w.text; owner = o; stands = s } ∷ [] else []

-- what a mark declares, where it is the first that does so
abbrev pub declared_in : Naming → Sites → Sites → ℕ → What → List Declaration
declared_in names ss ls o (what.Declares w d) = option_map_or (λ t. declared_first o w (ss o w.text) (Thing t)) (names o w.text) []
declared_in names ss ls o (what.Label w) = declared_first o w (ls o w.text) Label
declared_in names ss ls o x = []

abbrev pub declared_by_mark : Naming → Sites → Sites → Mark → List Declaration
declared_by_mark names ss ls m = declared_in names ss ls m.owner m.what

-- the names that these marks declare, with what they stand for
abbrev pub declared : List Mark → List Declaration
declared ms = flat_map (declared_by_mark (before ms).names (sites ms) (labels ms)) ms
