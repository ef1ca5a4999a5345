-- What a declared name is, for an editor.
use Rattle.std.specs.Prelude.{ℕ, nat_eq, Bool, true, false, if◌then◌else◌, List, Option, Some, None, codes, find, option_map}
use Rattle.std.specs.Option.{option_or}
use Rattle.std.specs.List.{list_any}
use Rattle.promela_model.specs.declared.thing.Thing.TheVariants as thing
use Rattle.declared_names.specs.declared.declared.Declaration.{Declaration}
use Rattle.declared_names.specs.declared.declared.Stands.{Stands}
use Rattle.declared_names.specs.declared.declared.Stands.TheVariants as stands
use Rattle.model_names.specs.declared.names.TextNames.{TextNames}
use Rattle.lsp_results.specs.declared.sorts.DeclaredSort.{DeclaredSort}
use Rattle.lsp_results.specs.declared.sorts.DeclaredSort.TheVariants.{Variable, Field, Constant, Typedef, Proctype, Label, Inline, Parameter}

-- the number of what is most like it (LSP 3.17, `SymbolKind`)
abbrev pub number_of : DeclaredSort → ℕ
number_of Variable = 13
number_of Field = 8
number_of Constant = 22
number_of Typedef = 23
number_of Proctype = 5
number_of Label = 20
number_of Inline = 12
number_of Parameter = 13

-- what it is called
abbrev pub words_of : DeclaredSort → List ℕ
words_of Variable = codes "variable"
words_of Field = codes "field"
words_of Constant = codes "mtype name"
words_of Typedef = codes "typedef"
words_of Proctype = codes "proctype"
words_of Label = codes "label"
words_of Inline = codes "inline"
words_of Parameter = codes "parameter of an inline"

-- what declared names stand for
abbrev pub sort_of : Stands → DeclaredSort
sort_of (stands.Thing (thing.Variable v)) = Variable
sort_of (stands.Thing (thing.Constant n)) = Constant
sort_of (stands.Thing (thing.Typedef o n)) = Typedef
sort_of (stands.Thing (thing.Proctype n k)) = Proctype
sort_of stands.Label = Label
sort_of stands.Inline = Inline
sort_of stands.Parameter = Parameter

-- the typedef whose fields have this owner
abbrev pub holds_by : ℕ → Stands → Bool
holds_by o (stands.Thing (thing.Typedef p n)) = nat_eq p o
holds_by o s = false

abbrev pub holds : ℕ → Declaration → Bool
holds o d = holds_by o d.stands

-- a variable of a typedef is a field
abbrev pub field_or : Bool → DeclaredSort → DeclaredSort
field_or true Variable = Field
field_or b s = s

-- what a declaration is among all of a text but those of inlines
abbrev pub sort_in : List Declaration → Declaration → DeclaredSort
sort_in ds d = field_or (list_any (holds d.owner) ds) (sort_of d.stands)

abbrev pub is_declared_at : ℕ → Declaration → Bool
is_declared_at at d = nat_eq d.at at

-- the declaration at a place: of an inline or its parameter first
abbrev pub declared_at : TextNames → ℕ → Option Declaration
declared_at names at =
    option_or (find (is_declared_at at) names.inlines.declarations.items) (find (is_declared_at at) names.declarations.items)

-- what the name is that is declared at a place
abbrev pub sort_at : TextNames → ℕ → Option DeclaredSort
sort_at names at = option_map (sort_in names.declarations.items) (declared_at names at)
