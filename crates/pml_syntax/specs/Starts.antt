-- What tokens begin, for readers that are to choose.
use Rattle.std.specs.Prelude.{Bool, true, false}
use Rattle.pml_token.specs.declared.token.Kind.{Kind}
use Rattle.pml_token.specs.declared.token.Kind.TheVariants as k
use Rattle.pml_tree.specs.declared.tree.Search.TheVariants as looks
use Rattle.pml_tree.specs.declared.tree.SendOrder.TheVariants as orders
use Rattle.pml_syntax.specs.declared.starts.Opening.{Opening}
use Rattle.pml_syntax.specs.declared.starts.Opening.TheVariants as o
use Rattle.pml_syntax.specs.declared.starts.Deed.{Deed}
use Rattle.pml_syntax.specs.declared.starts.Deed.TheVariants as d
use Rattle.pml_syntax.specs.declared.starts.Change.{Change}
use Rattle.pml_syntax.specs.declared.starts.Change.TheVariants as c
use Rattle.pml_syntax.specs.declared.starts.Head.{Head}
use Rattle.pml_syntax.specs.declared.starts.Head.TheVariants as h

-- a statement, by its first token: its structure
abbrev pub opening : Kind → Opening
opening k.If = o.If
opening k.Do = o.Do
opening k.OpenBrace = o.Block
opening k.Atomic = o.Atomic
opening k.DStep = o.DStep
opening k.For = o.For
opening k.Select = o.Select
opening k.Goto = o.Goto
opening k.Break = o.Break
opening _ = o.Other

-- a statement without structure, by its first token
abbrev pub deed : Kind → Deed
deed k.Else = d.Else
deed k.Name = d.Name
deed k.Run = d.Run
deed k.OpenParen = d.Group
deed k.Printf = d.Printf
deed k.Printm = d.Printm
deed k.Assert = d.Assert
deed _ = d.Other

-- such a statement that begins with a reference, by the token behind that
abbrev pub change : Kind → Change
change k.Assign = c.Assign
change k.Increment = c.Increment
change k.Decrement = c.Decrement
change k.Bang = c.Send orders.Fifo
change k.BangBang = c.Send orders.Sorted
change k.Query = c.Receive looks.First
change k.QueryQuery = c.Receive looks.Matching
change _ = c.Other

-- what begins a declaration, but a typedef's name
abbrev pub declares : Kind → Bool
declares k.Hidden = true
declares k.Show = true
declares k.Local = true
declares k.Bit = true
declares k.Bool = true
declares k.Byte = true
declares k.Chan = true
declares k.Mtype = true
declares k.Pid = true
declares k.Short = true
declares k.Int = true
declares k.Unsigned = true
declares _ = false

-- what comes behind a body
abbrev pub is_end : Kind → Bool
is_end k.CloseBrace = true
is_end k.Fi = true
is_end k.Od = true
is_end k.DoubleColon = true
is_end k.End = true
is_end _ = false

-- a unit, by its first token
abbrev pub head : Kind → Head
head k.Mtype = h.Mtype
head k.Typedef = h.Typedef
head k.Active = h.Proctype
head k.Proctype = h.Proctype
head k.Init = h.Init
head _ = h.Other
