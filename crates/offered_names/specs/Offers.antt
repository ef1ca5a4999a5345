-- Which declared names may stand at a place.
use Rattle.std.specs.Prelude.{ℕ, nat_eq, nat_lt, Bool, true, false, not, ◌&&◌, ◌||◌, List, take, drop, codes}
use Rattle.std.specs.Str.{bytes_eq}
use Rattle.std.specs.List.{starts_with}
use Rattle.promela_model.specs.declared.thing.Thing.TheVariants as thing
use Rattle.declared_names.specs.declared.declared.Declaration.{Declaration}
use Rattle.declared_names.specs.declared.declared.Stands.{Stands}
use Rattle.declared_names.specs.declared.declared.Stands.TheVariants as stands
use Rattle.offered_names.specs.declared.asked.Fitting.{Fitting}
use Rattle.offered_names.specs.declared.asked.Fitting.TheVariants.{Any, Proctype, Label, Field, Message}
use Rattle.offered_names.specs.declared.offers.SoughtNames.{SoughtNames}

-- variables, mtype names, typedefs, inlines and their parameters
abbrev pub is_common : Stands → Bool
is_common (stands.Thing (thing.Variable v)) = true
is_common (stands.Thing (thing.Constant n)) = true
is_common (stands.Thing (thing.Typedef o n)) = true
is_common (stands.Thing (thing.Proctype n k)) = false
is_common stands.Label = false
is_common stands.Inline = true
is_common stands.Parameter = true

abbrev pub is_proctype : Stands → Bool
is_proctype (stands.Thing (thing.Proctype n k)) = true
is_proctype s = false

abbrev pub is_label : Stands → Bool
is_label stands.Label = true
is_label s = false

abbrev pub is_variable : Stands → Bool
is_variable (stands.Thing (thing.Variable v)) = true
is_variable s = false

-- what is declared so may stand where this is asked
abbrev pub may_stand : Fitting → Stands → Bool
may_stand Any s = is_common s
may_stand Message s = is_common s
may_stand Proctype s = is_proctype s
may_stand Label s = is_label s
may_stand Field s = is_variable s

-- what is asked for has to be declared before the place
abbrev pub must_precede : Fitting → Bool
must_precede Any = true
must_precede Message = true
must_precede a = false

-- the name that is declared
abbrev pub name_of : List ℕ → Declaration → List ℕ
name_of text d = take d.length (drop d.at text)

-- it begins as typed, and is not `init`, which is declared as the name of its process
abbrev pub begins_so : List ℕ → List ℕ → Bool
begins_so name typed = starts_with nat_eq name typed && not (bytes_eq name (codes "init"))

-- it is one of these, declared before the place where it has to, and begins as typed
abbrev pub is_offered : List ℕ → SoughtNames → Declaration → Bool
is_offered text w d =
    ((nat_eq d.owner w.owner && may_stand w.asked d.stands) && (not (must_precede w.asked) || nat_lt d.at w.offset)) && begins_so (name_of text d) w.typed.now
