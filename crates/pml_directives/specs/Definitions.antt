-- What a `#define` line says.
use Rattle.std.specs.Prelude.{◌≡◌, ℕ, ◌==◌, Bool, true, false, if◌then◌else◌, List, [], ◌∷◌, map, Option, None, Some, position, slice_index_or}
use Rattle.pml_macros.specs.Calls.{same_sort}
use Rattle.pml_macros.specs.declared.atom.Atom.{Atom}
use Rattle.pml_macros.specs.declared.atom.AtomSort.{AtomSort}
use Rattle.pml_macros.specs.declared.atom.AtomSort.TheVariants as sort
use Rattle.pml_macros.specs.declared.table.Macro.{Macro}
use Rattle.pml_macros.specs.declared.table.Substitution.{Substitution}
use Rattle.pml_macros.specs.declared.table.Substitution.TheVariants.{Itself, Expanded, Raw}

-- the sort of a token, by its place
abbrev pub sort_at : List Atom → ℕ → AtomSort
sort_at as' n = slice_index_or (map (λ a. a.sort) as') n sort.Gone

-- which parameter a token names
abbrev pub number_of : List ℕ → Atom → Option ℕ
number_of names a = if same_sort a.sort sort.Name then position (λ n. n == a.text) names else None

-- what a parameter stands for, beside `##` or not
abbrev pub role : Bool → Option ℕ → Substitution
role is_beside None = Itself
role true (Some n) = Raw n
role false (Some n) = Expanded n

-- a macro is called by the first of these tokens, which is a name
abbrev pub IsNamed : List Atom → Macro → Type 0
IsNamed [] m = ⊥
IsNamed (name ∷ behind) m = (same_sort name.sort sort.Name ≡ true) × (m.name ≡ name.text)
