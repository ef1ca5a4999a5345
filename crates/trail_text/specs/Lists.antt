-- What Spin shows of declarations, and lists of names that are being declared.
use Rattle.std.specs.Prelude.{ℕ, ◌+◌, ◌-◌, ◌^◌, min, nat_eq, ◌&&◌, not, List, length, take, Bool, true, false, Option, Some, None, if◌then◌else◌}
use Rattle.std.specs.List.{starts_with}
use Rattle.pml_token.specs.Word.{Word}
use Rattle.pml_token.specs.declared.token.Kind.{Kind}
use Rattle.pml_token.specs.declared.token.Kind.TheVariants as kind
use Rattle.trail_text.specs.declared.declared.Declaring.{Declaring}
use Rattle.trail_text.specs.declared.marks.NameList.{NameList}
use Rattle.trail_text.specs.Declarations.{opens, closes, begins, kind_in}

-- how many bytes of the statement of a declaration are known
abbrev pub known : Declaring → ℕ
known d = min d.known (length d.statement.items)

-- all of it is known, and a statement is of another length
abbrev pub is_other : Declaring → List ℕ → Bool
is_other d statement = nat_eq (known d) (length d.statement.items) && not (nat_eq (length statement) (known d))

-- Spin may show a statement of a line for a declaration there
abbrev pub is_shown_as : Declaring → List ℕ → ℕ → Bool
is_shown_as d statement line =
    (nat_eq d.line line && not (is_other d statement)) && starts_with nat_eq statement (take (known d) d.statement.items)

-- the list behind a token that stands in no bracket of it, none where it has ended
abbrev pub behind_plain : NameList → Kind → Option NameList
behind_plain l kind.Semicolon = None
behind_plain l kind.Arrow = None
behind_plain l kind.Comma = Some (record l { is_expected = true })
behind_plain l k = Some (record l { is_expected = false })

-- the list behind a token in so many brackets of it
abbrev pub within : ℕ → NameList
within depth = record { depth = depth; is_expected = false }

-- the list behind a token of it
abbrev pub behind : NameList → Kind → Option NameList
behind l k =
    if opens k then Some (within (min (l.depth + 1) (2 ^ 64 - 1)))
    else if nat_eq l.depth 0 then (if closes k then None else behind_plain l k)
    else if closes k then Some (within (l.depth - 1))
    else Some l

-- the list that begins, if one does
abbrev pub opened : Bool → Option NameList
opened true = Some (record { depth = 0; is_expected = true })
opened false = None

-- the list behind the token at a place, where this one is there before it
abbrev pub list_behind : List Word → ℕ → Option NameList → Option NameList
list_behind tokens at None = opened (begins (kind_in tokens at) (kind_in tokens (at + 1)))
list_behind tokens at (Some l) = behind l (kind_in tokens at)
