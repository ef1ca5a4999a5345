-- What becomes of the tokens of a text where one name is divided.
use Rattle.std.specs.Prelude.{ℕ, Bool, ◌||◌, nat_lt, if◌then◌else◌, List, [], ◌∷◌}
use Rattle.pml_token.specs.declared.token.Kind.{Kind}
use Rattle.prepare.specs.Written.{Written}
use Rattle.names_apart.specs.declared.scope.Force.{Force}
use Rattle.names_apart.specs.declared.scope.NameScope.{NameScope}
use Rattle.names_apart.specs.declared.changes.NameChange.{NameChange}
use Rattle.names_apart.specs.declared.changes.NameChange.TheVariants as change
use Rattle.names_apart.specs.InlineCount.{InlineCount}
use Rattle.prepare.specs.Changed.{Changed, changed}
use Rattle.names_apart.specs.Scopes.{more, is_name, declares, is_header, ends_call, force_behind, behind, start}
use Rattle.names_apart.specs.Tallies.{count_at}

-- the number that is written: in an inline one more, since there the name is a parameter, which is to be no field
abbrev pub index : Bool → ℕ → ℕ
index is_inline n = if is_inline then more n 1 else n

-- the number of the first declaration of a call
abbrev pub first : Force → ℕ
first f = if nat_lt 0 f.level then f.number else more f.number 1

-- the declaration that a token is of
abbrev pub force_at : NameScope → List ℕ → Kind → List ℕ → Force
force_at s name k t = if declares s name k t then force_behind s name k t else s.force

abbrev pub named : Bool → Force → NameChange
named is_inline f = if nat_lt 0 f.level then change.Named (index is_inline f.number) else change.Kept

-- what becomes of a token: the name gets the number of the declaration in force, and behind the arguments of a call stand names for all that
-- the inline declares
abbrev pub change_at : NameScope → List ℕ → Kind → List ℕ → NameChange
change_at s name k t =
    if is_name name k t then (if s.is_field || is_header s then change.Kept else named s.is_inline (force_at s name k t))
    else (if ends_call s k then change.Passed (index s.is_inline (first s.force)) s.call.within s.call.is_bare else change.Kept)

abbrev pub changes_by : List ℕ → List InlineCount → NameScope → List Written → List (Changed NameChange)
changes_by name cs s [] = []
changes_by name cs s (t ∷ ts) =
    changed t (change_at s name t.kind t.token) ∷ changes_by name cs (behind s name (count_at cs t.kind t.token) t.kind t.token) ts

-- what becomes of the tokens of a text where a name is divided which these inlines declare
abbrev pub changes : List ℕ → List InlineCount → List Written → List (Changed NameChange)
changes name cs ts = changes_by name cs start ts
