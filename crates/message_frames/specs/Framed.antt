-- A message between an editor and a server: a head that says how many bytes the body has, an empty line, and the body.
use Rattle.std.specs.Prelude.{◌≡◌, ℕ, List, ◌++◌, ◌-◌, take, drop, length, codes, Option, Some, None, ⊤}
use Rattle.std.specs.Fmt.{decimal}
use Rattle.std.specs.Io.KnownBytes.{prepend_known, Keeps, IsAtEnd}
use Rattle.message_frames.specs.declared.front.Front.TheVariants.{Message, Part, Bad}
use Rattle.message_frames.specs.declared.frames.NoMessage.{NoMessage}
use Rattle.message_frames.specs.declared.frames.NoMessage.TheVariants as why
use Rattle.message_frames.specs.Front.{front_of}

abbrev pub framed : List ℕ → List ℕ
framed body = codes "Content-Length: " ++ decimal (length body) ++ codes "\r\n\r\n" ++ body

-- a whole message is at the front of bytes, with this body, and with this behind it
pub record IsFirst (bytes body rest : List ℕ) : Type 0 where
  pub from : ℕ
  pub to : ℕ
  pub front : front_of bytes ≡ Message from to
  pub body_is : body ≡ take (to - from) (drop from bytes)
  pub rest_is : rest ≡ drop to bytes

-- of what a reader gives, as far as it is known, the first message is taken
abbrev pub TakesFirst : Option (List ℕ) → Option (List ℕ) → List ℕ → Type 0
TakesFirst None new body = ⊤
TakesFirst (Some bytes) None body = ⊥
TakesFirst (Some bytes) (Some rest) body = IsFirst bytes body rest

-- the same of what is held of a reader and of what it has left, before and behind
abbrev pub TakesNext : List ℕ → Option (List ℕ) → List ℕ → Option (List ℕ) → List ℕ → Type 0
TakesNext held left held' left' body = TakesFirst (prepend_known held left) (prepend_known held' left') body

-- of what is held and left together nothing that is known is lost
abbrev pub KeepsAll : List ℕ → Option (List ℕ) → List ℕ → Option (List ℕ) → Type 0
KeepsAll held left held' left' = Keeps (prepend_known held left) (prepend_known held' left')

-- nothing was read: a reader has ended, or it or memory failed
abbrev pub IsNoRead : Option (List ℕ) → NoMessage → Type 0
IsNoRead left why.Ended = IsAtEnd left
IsNoRead left why.Head = ⊥
IsNoRead left why.Device = ⊤
IsNoRead left why.Memory = ⊤

-- no message is at the front of bytes: an input that ended has a part of one, or nothing, and a head that is none is bad
abbrev pub IsWhy : NoMessage → List ℕ → Type 0
IsWhy why.Ended bytes = front_of bytes ≡ Part
IsWhy why.Head bytes = front_of bytes ≡ Bad
IsWhy why.Device bytes = ⊤
IsWhy why.Memory bytes = ⊤

abbrev pub HasNone : Option (List ℕ) → NoMessage → Type 0
HasNone None why = ⊤
HasNone (Some bytes) why = IsWhy why bytes
