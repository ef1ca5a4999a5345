-- A text in which a record that is a message is its fields.
use Rattle.std.specs.Prelude.{◌≡◌, ℕ, Bool, true, false, nat_lt, if◌then◌else◌, List, [], ◌∷◌, ◌++◌, length, ◌⊎◌}
use Rattle.std.specs.List.{flat_map}
use Rattle.std.specs.Str.{bytes_eq}
use Rattle.std.specs.Fmt.{decimal}
use lib.Chars.{codes}
use Rattle.prepare.specs.declared.TheConstants.{MOST_BYTES}
use Rattle.prepare.specs.Written.{Written}
use Rattle.prepare.specs.Stretches.{stretches}
use Rattle.names_apart.specs.declared.writing.TheConstants.{MOST_JOINT}
use Rattle.names_apart.specs.Writing.{joint}
use Rattle.record_messages.specs.declared.changes.TheConstants.{MOST_LOOPS}
use Rattle.record_messages.specs.declared.changes.MessageChange.{MessageChange}
use Rattle.record_messages.specs.declared.changes.MessageChange.TheVariants as change
use Rattle.record_messages.specs.Member.{Member}
use Rattle.record_messages.specs.Members.{is_empty, members}
use Rattle.record_messages.specs.DeclaredName.{DeclaredName}
use Rattle.record_messages.specs.Variables.{record_of, records}
use Rattle.record_messages.specs.MessageToken.{Loop, MessageToken}
use Rattle.record_messages.specs.Changes.{changes}

abbrev pub divider : Bool → List ℕ
divider is_front = if is_front then [] else codes ", "

-- the types of the fields of a typedef, in their order
abbrev pub types : Bool → List Member → List ℕ → List ℕ
types is_front [] word = []
types is_front (m ∷ ms) word =
    if bytes_eq m.home word then divider is_front ++ (m.word ++ types false ms word) else types is_front ms word

-- the fields of a record that is of a typedef, in their order
abbrev pub fields : Bool → List Member → List ℕ → List ℕ → List ℕ
fields is_front [] word name = []
fields is_front (m ∷ ms) word name =
    if bytes_eq m.home word then divider is_front ++ (name ++ (codes "." ++ (m.name ++ fields false ms word name))) else fields is_front ms word name

-- the counter of the loop of number n
abbrev pub counter : List ℕ → ℕ → List ℕ
counter joint n = codes "for" ++ (joint ++ decimal n)

abbrev pub indexed : List ℕ → List ℕ
indexed i = if is_empty i then [] else codes "[" ++ (i ++ codes "]")

abbrev pub channel : Loop → List ℕ
channel l = l.channel ++ indexed l.index

-- the sign of an operation stands between a channel and the fields of a message
abbrev pub operation : List ℕ → List Member → List DeclaredName → Loop → List ℕ
operation sign ms vs l = channel l ++ (sign ++ fields true ms (record_of vs l.name) l.name)

-- a message is received, and sent again
abbrev pub turn : List Member → List DeclaredName → Loop → List ℕ
turn ms vs l = codes " " ++ (operation (codes "?") ms vs l ++ (codes "; " ++ (operation (codes "!") ms vs l ++ codes ";")))

abbrev pub declared : List ℕ → ℕ → List ℕ → List ℕ
declared joint n t = codes "byte " ++ (counter joint n ++ (codes "; " ++ t))

abbrev pub shown_by : List Member → List DeclaredName → List ℕ → Loop → MessageChange → List ℕ → List ℕ
shown_by ms vs joint l change.Kept t = t
shown_by ms vs joint l change.Types t = types true ms t
shown_by ms vs joint l change.Fields t = fields true ms (record_of vs t) t
shown_by ms vs joint l change.Declared t = declared joint l.number t
shown_by ms vs joint l change.Counter t = counter joint l.number
shown_by ms vs joint l change.Range t = codes ": 0 .. len("
shown_by ms vs joint l change.Ended t = codes ") - 1" ++ t
shown_by ms vs joint l change.Turned t = t ++ turn ms vs l

abbrev pub shown : List Member → List DeclaredName → List ℕ → MessageToken → List ℕ
shown ms vs joint c = shown_by ms vs joint c.loop c.change c.token

abbrev pub one : List Member → List DeclaredName → List ℕ → MessageToken → List ℕ
one ms vs joint c = c.gap ++ shown ms vs joint c

abbrev pub written : List Member → List DeclaredName → List ℕ → List MessageToken → List ℕ
written ms vs joint cs = flat_map (one ms vs joint) cs

-- all is written; where it is too long, so much of it that this is so
abbrev pub IsWritten : List ℕ → List ℕ → Type 0
IsWritten all out = (out ≡ all) ⊎ ((nat_lt MOST_BYTES (length out) ≡ true) × (nat_lt MOST_BYTES (length all) ≡ true))

-- no loop is made where names may have no numbers
abbrev pub first : List ℕ → ℕ
first joint = if nat_lt MOST_JOINT (length joint) then MOST_LOOPS else 0

abbrev pub made_of : List ℕ → List Member → List Written → List ℕ
made_of joint ms ts = written ms (records ms ts) joint (changes ms (records ms ts) (first joint) ts)

abbrev pub made : List ℕ → List ℕ
made text = made_of (joint text) (members (stretches text)) (stretches text)

abbrev pub unless_long : List ℕ → List ℕ → List ℕ
unless_long made text = if nat_lt MOST_BYTES (length made) then text else made

-- a text in which a record that is a message is its fields, unless that is too long
abbrev pub recorded : List ℕ → List ℕ
recorded text = unless_long (made text) text
