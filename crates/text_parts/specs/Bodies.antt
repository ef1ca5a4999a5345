-- Where the bodies of processes stand, by tokens: from the brace behind `proctype` or `init` to the one that closes it. Where none does, a body ends before the next
-- word with which a unit begins, or with the text.
use Rattle.std.specs.Prelude.{ℕ, ◌+◌, ◌-◌, nat_lt, nat_le, Bool, ◌||◌, ◌&&◌, if◌then◌else◌, List, [], ◌∷◌, Option, Some, None}
use Rattle.std.specs.Option.{option_or}
use Rattle.pml_token.specs.declared.token.Kind.{Kind}
use Rattle.pml_token.specs.declared.token.Kind.TheVariants as kind
use Rattle.pml_token.specs.Word.{same_kind, Word}
use Rattle.text_parts.specs.declared.bodies.ProcessBody.{ProcessBody}
use Rattle.text_parts.specs.declared.bodies.Stand.{Stand}
use Rattle.text_parts.specs.declared.bodies.Stand.TheVariants.{Outside, Headed, Within}

-- a process begins with this word
abbrev pub begins_process : Kind → Bool
begins_process k = same_kind k kind.Proctype || same_kind k kind.Init

-- a unit begins with this word
abbrev pub begins_unit : Kind → Bool
begins_unit k = ((begins_process k || same_kind k kind.Active) || same_kind k kind.Inline) || same_kind k kind.Typedef

-- how many braces are open
abbrev pub depth_in : Stand → ℕ
depth_in Outside = 0
depth_in Headed = 0
depth_in (Within b n) = n

-- behind a token that stands in no body
abbrev pub outside : Stand → Kind → Stand
outside s k = if begins_process k then Headed else if begins_unit k then Outside else s

abbrev pub within : ℕ → ℕ → Kind → Stand
within b n k =
    if same_kind k kind.OpenBrace then Within b (n + 1)
    else if same_kind k kind.CloseBrace then (if nat_lt n 2 then Outside else Within b (n - 1))
    else if begins_unit k then outside Outside k
    else Within b n

-- behind one more token
abbrev pub next : Stand → Word → Stand
next Outside w = outside Outside w.kind
next Headed w = if same_kind w.kind kind.OpenBrace then Within w.line 1 else outside Headed w.kind
next (Within b n) w = within b n w.kind

abbrev pub body : ℕ → ℕ → ℕ → ProcessBody
body b l e = record { brace = b; last = l; end = e }

-- the body that ends with a token
abbrev pub ended : Stand → Word → Option ProcessBody
ended Outside w = None
ended Headed w = None
ended (Within b n) w =
    if same_kind w.kind kind.CloseBrace && nat_lt n 2 then Some (body b w.line (w.line + 1))
    else if begins_unit w.kind then Some (body b w.line w.line)
    else None

-- the body that ends with a text of so many bytes
abbrev pub left : Stand → ℕ → Option ProcessBody
left Outside n = None
left Headed n = None
left (Within b d) n = Some (body b n n)

-- a body in which a place lies
abbrev pub held : ℕ → Option ProcessBody → Option ProcessBody
held at None = None
held at (Some b) = if nat_le b.brace at && nat_le at b.last then Some b else None

-- the first one of a text of so many bytes
abbrev pub body_at : ℕ → ℕ → Stand → List Word → Option ProcessBody
body_at at n s [] = held at (left s n)
body_at at n s (w ∷ ws) = option_or (held at (ended s w)) (body_at at n (next s w) ws)
