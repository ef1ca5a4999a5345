-- What becomes of the tokens of a text where records are messages.
use Rattle.std.specs.Prelude.{ℕ, ◌+◌, Bool, false, not, ◌&&◌, ◌||◌, nat_lt, min, if◌then◌else◌, List, [], ◌∷◌}
use Rattle.std.specs.Str.{bytes_eq}
use lib.Chars.{codes}
use Rattle.pml_token.specs.declared.token.Kind.{Kind}
use Rattle.pml_token.specs.declared.token.Kind.TheVariants as kind
use Rattle.pml_token.specs.Word.{same_kind}
use Rattle.prepare.specs.Written.{Written}
use Rattle.record_messages.specs.declared.place.MessagePlace.{MessagePlace}
use Rattle.record_messages.specs.declared.place.MessagePlace.TheVariants as place
use Rattle.record_messages.specs.declared.changes.TheConstants.{MOST_LOOPS}
use Rattle.record_messages.specs.declared.changes.MessageChange.{MessageChange}
use Rattle.record_messages.specs.declared.changes.MessageChange.TheVariants as change
use Rattle.record_messages.specs.Member.{Member}
use Rattle.record_messages.specs.Members.{is_empty, is_record, either}
use Rattle.record_messages.specs.DeclaredName.{DeclaredName}
use Rattle.record_messages.specs.Variables.{begins_with, record_of}
use Rattle.record_messages.specs.Places.{behind}
use Rattle.record_messages.specs.MessageToken.{Loop, MessageToken}

abbrev pub is_in : Written → Bool
is_in t = same_kind t.kind kind.Name && bytes_eq t.token (codes "in")

-- whether a body begins behind `)`
abbrev pub closes : List Written → Bool
closes (e ∷ b ∷ ts) = same_kind e.kind kind.CloseParen && same_kind b.kind kind.OpenBrace
closes _ = false

abbrev pub is_index : Kind → Bool
is_index k = same_kind k kind.Number || same_kind k kind.Name

-- whether an index stands before that, which is a name or a number
abbrev pub is_indexed : List Written → Bool
is_indexed (o ∷ i ∷ c ∷ ts) = (same_kind o.kind kind.OpenBracket && is_index i.kind) && (same_kind c.kind kind.CloseBracket && closes ts)
is_indexed _ = false

-- whether the head of a loop ends here, behind its channel
abbrev pub ends_head : List Written → Bool
ends_head ts = closes ts || is_indexed ts

-- whether these are `(` and a record
abbrev pub begins_head : List DeclaredName → Written → Written → Bool
begins_head vs o v = same_kind o.kind kind.OpenParen && (same_kind v.kind kind.Name && not (is_empty (record_of vs v.token)))

-- whether these are `in` and a channel
abbrev pub goes_over : Written → Written → Bool
goes_over i c = is_in i && same_kind c.kind kind.Name

-- whether `(`, a record, `in`, a channel and a body stand here
abbrev pub opens_loop : List DeclaredName → List Written → Bool
opens_loop vs (o ∷ v ∷ i ∷ c ∷ ts) = begins_head vs o v && (goes_over i c && ends_head ts)
opens_loop vs _ = false

-- whether a token begins a loop over messages, where n are made before it: behind a label none is
abbrev pub is_loop : List DeclaredName → ℕ → Kind → Kind → List Written → Bool
is_loop vs n last k ts = (same_kind k kind.For && not (same_kind last kind.Colon)) && (nat_lt n MOST_LOOPS && opens_loop vs ts)

-- whether a name stands alone: it is no field, and nothing of it is selected
abbrev pub is_alone : Kind → List Written → Bool
is_alone last ts = not (same_kind last kind.Dot) && (not (begins_with kind.Dot ts) && not (begins_with kind.OpenBracket ts))

-- a record in a message is its fields
abbrev pub change_of_sent : List DeclaredName → Kind → Written → List Written → MessageChange
change_of_sent vs last t ts =
    if same_kind t.kind kind.Name && (is_alone last ts && not (is_empty (record_of vs t.token))) then change.Fields else change.Kept

-- and among the types of messages it is their types
abbrev pub change_of_type : List Member → Written → MessageChange
change_of_type ms t = if same_kind t.kind kind.Name && is_record ms t.token then change.Types else change.Kept

abbrev pub change_of_channel : Kind → MessageChange
change_of_channel k = if same_kind k kind.CloseParen then change.Ended else change.Kept

-- what becomes of a token that begins no loop over messages, where `ts` stand behind it
abbrev pub change_at : List Member → List DeclaredName → MessagePlace → Kind → Written → List Written → MessageChange
change_at ms vs (place.Sent n) last t ts = change_of_sent vs last t ts
change_at ms vs place.Types last t ts = change_of_type ms t
change_at ms vs place.Counted last t ts = change.Counter
change_at ms vs place.Ranged last t ts = change.Range
change_at ms vs place.Over last t ts = change_of_channel t.kind
change_at ms vs place.Entered last t ts = change.Turned
change_at ms vs _ last t ts = change.Kept

abbrev pub change_or_loop : Bool → MessageChange → MessageChange
change_or_loop b c = if b then change.Declared else c

abbrev pub count : Bool → ℕ → ℕ
count b n = if b then min (n + 1) MOST_LOOPS else n

-- the variable of a loop, its channel and the index of that, by what stands behind its `for`: `(`, a record, `in`, a name, and `)` or an index
abbrev pub variable_at : List Written → List ℕ
variable_at (o ∷ v ∷ ts) = v.token
variable_at _ = []

abbrev pub channel_at : List Written → List ℕ
channel_at (o ∷ v ∷ i ∷ c ∷ ts) = c.token
channel_at _ = []

abbrev pub index_at : List Written → List ℕ
index_at (o ∷ v ∷ i ∷ c ∷ b ∷ n ∷ ts) = if same_kind b.kind kind.OpenBracket then n.token else []
index_at _ = []

-- the last loop, where one may begin before these stretches
abbrev pub loop_behind : Bool → Loop → List Written → Loop
loop_behind b l ts =
    record { number = count b l.number; name = either b (variable_at ts) l.name; channel = either b (channel_at ts) l.channel; index = either b (index_at ts) l.index }

-- what becomes of the rest of the stretches, where `l` is the last loop over messages
abbrev pub changes_by : List Member → List DeclaredName → MessagePlace → Kind → Loop → List Written → List MessageToken
changes_by ms vs p last l [] = []
changes_by ms vs p last l (t ∷ ts) =
    let begins = is_loop vs l.number last t.kind ts in
    let loop = loop_behind begins l ts in
    record { gap = t.gap; token = t.token; kind = t.kind; change = change_or_loop begins (change_at ms vs p last t ts); loop = loop }
    ∷ changes_by ms vs (behind p begins t.kind) t.kind loop ts

-- what becomes of the tokens of a text, where n loops over messages are made before
abbrev pub changes : List Member → List DeclaredName → ℕ → List Written → List MessageToken
changes ms vs n ts = changes_by ms vs place.Outside kind.End (record { number = n; name = []; channel = []; index = [] }) ts
