-- Which parts of a text are read, by its conditions.
use Rattle.std.specs.Prelude.{ℕ, ◌-◌, Bool, false, not, ◌&&◌, ◌||◌, if◌then◌else◌, List, [], ◌∷◌, length, take, Option, None, Some, slice_get, slice_set}
use Rattle.std.specs.Option.{option_map_or}
use Rattle.pml_macros.specs.Calls.{same_sort}
use Rattle.pml_macros.specs.declared.atom.Atom.{Atom}
use Rattle.pml_macros.specs.declared.atom.AtomSort.TheVariants as sort
use Rattle.pml_macros.specs.declared.atom.FilePlace.{FilePlace}
use Rattle.pml_directives.specs.States.{is_live}
use Rattle.pml_directives.specs.declared.state.Open.{Open}

-- the name that `defined` asks for without parentheses, and how many tokens it is
abbrev pub named : Atom → Option (ℕ × ℕ)
named a = if same_sort a.sort sort.Name then Some (a.text, 1) else None

-- with them or without
abbrev pub asked : List Atom → Option (ℕ × ℕ)
asked [] = None
asked (o ∷ n ∷ c ∷ as') =
    if same_sort o.sort sort.OpenParen then (if same_sort n.sort sort.Name && same_sort c.sort sort.CloseParen then Some (n.text, 3) else None) else named o
asked (a ∷ as') = named a

-- a condition that begins here
abbrev pub begun : List Open → Bool → FilePlace → Open
begun os is_met p = record { is_live = is_live os && is_met; is_done = not (is_live os) || is_met; is_last = false; place = p }

-- the next branch of a condition
abbrev pub turned : Open → Bool → Bool → Open
turned o is_met is_last = record { is_live = not o.is_done && is_met; is_done = o.is_done || is_met; is_last = is_last; place = o.place }

-- the conditions round the innermost
abbrev pub around : List Open → List Open
around os = take (length os - 1) os

-- no branch of the innermost was read
abbrev pub is_asked : List Open → Bool
is_asked os = option_map_or (λ o. not o.is_done) (slice_get os (length os - 1)) false

-- a branch may follow in it
abbrev pub may_turn : List Open → Bool
may_turn os = option_map_or (λ o. not o.is_last) (slice_get os (length os - 1)) false

-- these conditions are open then
abbrev pub turned_all : List Open → Bool → Bool → List Open
turned_all os is_met is_last = option_map_or (λ o. slice_set os (length os - 1) (turned o is_met is_last)) (slice_get os (length os - 1)) os
