-- The fields of typedefs.
use Rattle.std.specs.Prelude.{ℕ, Bool, true, false, not, ◌||◌, nat_lt, if◌then◌else◌, List, [], ◌∷◌, ◌++◌, length}
use Rattle.std.specs.Str.{bytes_eq}
use Rattle.pml_token.specs.declared.token.Kind.{Kind}
use Rattle.pml_token.specs.declared.token.Kind.TheVariants as kind
use Rattle.pml_token.specs.Word.{same_kind}
use Rattle.prepare.specs.Written.{Written}
use Rattle.record_messages.specs.declared.members.TheConstants.{MOST_MEMBERS}
use Rattle.record_messages.specs.declared.members.TypedefPlace.{TypedefPlace}
use Rattle.record_messages.specs.declared.members.TypedefPlace.TheVariants as fields
use Rattle.record_messages.specs.Member.{Member}

-- a type that a field of a message may have
abbrev pub is_plain : Kind → Bool
is_plain kind.Bit = true
is_plain kind.Bool = true
is_plain kind.Byte = true
is_plain kind.Chan = true
is_plain kind.Int = true
is_plain kind.Mtype = true
is_plain kind.Pid = true
is_plain kind.Short = true
is_plain _ = false

abbrev pub begun : Kind → TypedefPlace
begun k = if same_kind k kind.Typedef then fields.Headed else fields.Outside

abbrev pub if_kind : Kind → Kind → TypedefPlace → TypedefPlace
if_kind wanted k next = if same_kind k wanted then next else begun k

abbrev pub behind_lead : Kind → TypedefPlace
behind_lead k = if is_plain k then fields.Typed else if_kind kind.Semicolon k fields.Ahead

abbrev pub behind_field : Kind → TypedefPlace
behind_field k = if same_kind k kind.Comma then fields.Typed else if_kind kind.Semicolon k fields.Ahead

-- behind a token: `typedef`, its name, `{`, and there a type, a name, and a comma or a separator
abbrev pub behind : TypedefPlace → Kind → TypedefPlace
behind fields.Outside k = begun k
behind fields.Headed k = if_kind kind.Name k fields.Named
behind fields.Named k = if_kind kind.OpenBrace k fields.Ahead
behind fields.Ahead k = behind_lead k
behind fields.Typed k = if_kind kind.Name k fields.Field
behind fields.Field k = behind_field k

abbrev pub is_end : Kind → Bool
is_end k = same_kind k kind.Semicolon || same_kind k kind.CloseBrace

-- whether a typedef has something here that is no field of a plain type: a size, a value, another record
abbrev pub is_odd : TypedefPlace → Kind → Bool
is_odd fields.Ahead k = not (is_plain k || is_end k)
is_odd fields.Typed k = not (same_kind k kind.Name)
is_odd fields.Field k = not (same_kind k kind.Comma || is_end k)
is_odd _ k = false

abbrev pub is_field : TypedefPlace → Kind → Bool
is_field fields.Typed k = same_kind k kind.Name
is_field _ k = false

abbrev pub names_home : TypedefPlace → Kind → Bool
names_home fields.Headed k = same_kind k kind.Name
names_home _ k = false

abbrev pub names_type : TypedefPlace → Kind → Bool
names_type fields.Ahead k = is_plain k
names_type _ k = false

abbrev pub either : Bool → List ℕ → List ℕ → List ℕ
either b one other = if b then one else other

-- what a typedef has here: a field, or something else, which has no name
abbrev pub member_at : TypedefPlace → Kind → List ℕ → List ℕ → List ℕ → List Member
member_at f k t home word =
    if is_field f k || is_odd f k then record { home = home; word = word; name = either (is_field f k) t [] } ∷ [] else []

-- what typedefs have in the rest of the stretches, where `home` is the typedef that was begun last, and `word` the last type of a field
abbrev pub members_by : TypedefPlace → List ℕ → List ℕ → List Written → List Member
members_by f home word [] = []
members_by f home word (t ∷ ts) =
    member_at f t.kind t.token home word
    ++ members_by (behind f t.kind) (either (names_home f t.kind) t.token home) (either (names_type f t.kind) t.token word) ts

abbrev pub all_members : List Written → List Member
all_members ts = members_by fields.Outside [] [] ts

abbrev pub unless_many : List Member → List Member
unless_many ms = if nat_lt MOST_MEMBERS (length ms) then [] else ms

-- what the typedefs of a text have, if that is not too much
abbrev pub members : List Written → List Member
members ts = unless_many (all_members ts)

abbrev pub is_empty : List ℕ → Bool
is_empty [] = true
is_empty _ = false

abbrev pub is_record_by : Bool → List ℕ → List Member → Bool
is_record_by b name [] = b
is_record_by b name (m ∷ ms) =
    if bytes_eq m.home name then (if is_empty m.name then false else is_record_by true name ms) else is_record_by b name ms

-- whether a typedef of this name has fields, all of a plain type
abbrev pub is_record : List Member → List ℕ → Bool
is_record ms name = is_record_by false name ms
