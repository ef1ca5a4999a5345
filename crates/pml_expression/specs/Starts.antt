-- What a token begins, for readers that are to choose.
use Rattle.std.specs.Prelude.{true, false}
use Rattle.pml_token.specs.declared.token.Kind.{Kind}
use Rattle.pml_token.specs.declared.token.Kind.TheVariants as k
use Rattle.pml_tree.specs.declared.tree.Prefix.TheVariants as prefixes
use Rattle.pml_tree.specs.declared.tree.Fill.TheVariants as fills
use Rattle.pml_expression.specs.declared.operators.Start.{Start}
use Rattle.pml_expression.specs.declared.operators.Start.TheVariants as s

-- an operand or an argument, by its first token
abbrev pub start : Kind → Start
start k.Name = s.Name
start k.Number = s.Number
start k.True = s.Truth true
start k.Skip = s.Truth true
start k.False = s.Truth false
start k.Timeout = s.Timeout
start k.Len = s.Ask fills.Length
start k.Empty = s.Ask fills.IsEmpty
start k.Full = s.Ask fills.IsFull
start k.Nempty = s.Ask fills.IsNotEmpty
start k.Nfull = s.Ask fills.IsNotFull
start k.Bang = s.Prefix prefixes.Not
start k.Tilde = s.Prefix prefixes.Complement
start k.Minus = s.Prefix prefixes.Minus
start k.OpenParen = s.Group
start k.Eval = s.Eval
start _ = s.Other
