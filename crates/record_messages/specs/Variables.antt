-- The variables that are records.
use Rattle.std.specs.Prelude.{ℕ, ◌-◌, Bool, true, false, not, ◌&&◌, ◌||◌, nat_lt, nat_le, if◌then◌else◌, List, [], ◌∷◌, ◌++◌, length}
use Rattle.std.specs.Str.{bytes_eq}
use Rattle.pml_token.specs.declared.token.Kind.{Kind}
use Rattle.pml_token.specs.declared.token.Kind.TheVariants as kind
use Rattle.pml_token.specs.Word.{same_kind}
use Rattle.prepare.specs.declared.sizes.Lead.{Lead}
use Rattle.prepare.specs.declared.sizes.Lead.TheVariants as lead
use Rattle.prepare.specs.declared.sizes.DeclarationReading.{DeclarationReading}
use Rattle.prepare.specs.Sizes as sizes
use Rattle.prepare.specs.Written.{Written}
use Rattle.record_messages.specs.declared.variables.TheConstants.{MOST_RECORDS, MOST_LENGTH}
use Rattle.record_messages.specs.Member.{Member}
use Rattle.record_messages.specs.Members.{either, is_record}
use Rattle.record_messages.specs.DeclaredName.{DeclaredName}

-- whether a token of this kind stands at the front of stretches
abbrev pub begins_with : Kind → List Written → Bool
begins_with k [] = false
begins_with k (t ∷ ts) = same_kind t.kind k

abbrev pub is_led_by_type : Lead → Bool
is_led_by_type lead.Type = true
is_led_by_type _ = false

-- whether a name is declared behind its type
abbrev pub is_first : DeclarationReading → Kind → Bool
is_first r k = sizes.declares r k && is_led_by_type r.lead

-- the type of a name that is declared before these stretches; nothing for an array and for a parameter of an inline
abbrev pub type_of : DeclarationReading → List ℕ → List Written → List ℕ
type_of r word ts = if r.is_header || begins_with kind.OpenBracket ts then [] else word

abbrev pub variable_at : DeclarationReading → List ℕ → Written → List Written → List DeclaredName
variable_at r word t ts = if sizes.declares r t.kind then record { name = t.token; word = type_of r word ts } ∷ [] else []

-- the names that the rest of the stretches declares, where `last` is the token before, and `word` the type of the last declaration
abbrev pub variables_by : DeclarationReading → List ℕ → List ℕ → List Written → List DeclaredName
variables_by r last word [] = []
variables_by r last word (t ∷ ts) =
    let here = either (is_first r t.kind) last word in
    variable_at r here t ts ++ variables_by (sizes.behind r t.kind t.token) t.token here ts

-- the names that a text declares
abbrev pub variables : List Written → List DeclaredName
variables ts = variables_by sizes.start [] [] ts

-- whether all of these that have the name are of the type
abbrev pub agree : List DeclaredName → List ℕ → List ℕ → Bool
agree [] name word = true
agree (v ∷ vs) name word = if bytes_eq v.name name && not (bytes_eq v.word word) then false else agree vs name word

abbrev pub is_short : List ℕ → Bool
is_short name = nat_le (length name) MOST_LENGTH

-- those that are records, as many as there is room for
abbrev pub declared_records : ℕ → List Member → List DeclaredName → List DeclaredName
declared_records room ms [] = []
declared_records room ms (v ∷ vs) =
    if nat_lt 0 room && (is_short v.name && is_record ms v.word) then v ∷ declared_records (room - 1) ms vs else declared_records room ms vs

-- those of them of which all declarations agree
abbrev pub settled : List DeclaredName → List DeclaredName → List DeclaredName
settled all [] = []
settled all (v ∷ vs) = if agree all v.name v.word then v ∷ settled all vs else settled all vs

-- the variables that are records, wherever the text declares them
abbrev pub records : List Member → List Written → List DeclaredName
records ms ts = settled (variables ts) (declared_records MOST_RECORDS ms (variables ts))

-- the typedef of a record; nothing where this is none
abbrev pub record_of : List DeclaredName → List ℕ → List ℕ
record_of [] name = []
record_of (v ∷ vs) name = if bytes_eq v.name name then v.word else record_of vs name
