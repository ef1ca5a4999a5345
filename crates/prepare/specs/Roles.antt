-- What a token is to the end of a line, and to the block that it stands in.
use Rattle.std.specs.Prelude.{ℕ, Bool, true, false, ◌||◌, if◌then◌else◌, List}
use Rattle.std.specs.Str.{bytes_eq}
use lib.Chars.{codes}
use Rattle.pml_token.specs.declared.token.Kind.{Kind}
use Rattle.pml_token.specs.declared.token.Kind.TheVariants as kind
use Rattle.pml_token.specs.Word.{same_kind}
use Rattle.prepare.specs.declared.roles.TokenRole.{TokenRole}
use Rattle.prepare.specs.declared.roles.TokenRole.TheVariants as as_role

-- a word that heads a block which only verification needs
abbrev pub is_block_word : List ℕ → Bool
is_block_word t = bytes_eq t (codes "never") || (bytes_eq t (codes "ltl") || (bytes_eq t (codes "trace") || bytes_eq t (codes "notrace")))

-- signs and words with roles of their own
abbrev pub bracket : Kind → TokenRole
bracket kind.OpenBrace = as_role.Opens
bracket kind.CloseBrace = as_role.Closes
bracket kind.OpenParen = as_role.Enters
bracket kind.OpenBracket = as_role.Indexes
bracket kind.CloseParen = as_role.Leaves
bracket kind.CloseBracket = as_role.Leaves
bracket kind.Colon = as_role.Labels
bracket kind.Assign = as_role.Assigns
bracket kind.DoubleColon = as_role.Parts
bracket kind.Fi = as_role.Parts
bracket kind.Od = as_role.Parts
bracket kind.Typedef = as_role.Typedef
bracket kind.For = as_role.For
bracket kind.Mtype = as_role.Mtype
bracket kind.Quoted = as_role.Quotes
bracket kind.Name = as_role.Names
bracket kind.LeftOut = as_role.LeftOut
bracket _ = as_role.Other

abbrev pub is_both : Kind → Bool
is_both x = same_kind x kind.Number || same_kind x kind.Skip || same_kind x kind.True || same_kind x kind.False || same_kind x kind.Timeout || same_kind x kind.Break

abbrev pub is_ending : Kind → Bool
is_ending x = same_kind x kind.Increment || same_kind x kind.Decrement

-- a word that begins a declaration
abbrev pub declares : Kind → Bool
declares kind.Bit = true
declares kind.Bool = true
declares kind.Byte = true
declares kind.Chan = true
declares kind.Hidden = true
declares kind.Int = true
declares kind.Local = true
declares kind.Pid = true
declares kind.Short = true
declares kind.Show = true
declares kind.Unsigned = true
declares kind.Xr = true
declares kind.Xs = true
declares _ = false

-- a word that begins a statement, and no expression
abbrev pub acts : Kind → Bool
acts kind.Assert = true
acts kind.Atomic = true
acts kind.DStep = true
acts kind.Do = true
acts kind.Goto = true
acts kind.If = true
acts kind.Printf = true
acts kind.Printm = true
acts kind.Select = true
acts _ = false

-- a word or a sign that begins an expression, and ends none
abbrev pub asks : Kind → Bool
asks kind.Empty = true
asks kind.Full = true
asks kind.Len = true
asks kind.Nempty = true
asks kind.Nfull = true
asks kind.Run = true
asks kind.Minus = true
asks kind.Tilde = true
asks kind.Bang = true
asks _ = false

-- what a token is, by its kind and its bytes
abbrev pub role : Kind → List ℕ → TokenRole
role x t =
    if is_block_word t then as_role.Heads
    else (if is_both x then as_role.Both
    else (if is_ending x then as_role.Ends
    else (if declares x || (acts x || asks x) then as_role.Begins
    else bracket x)))

-- whether a token may begin a statement
abbrev pub begins : TokenRole → Bool
begins as_role.Opens = true
begins as_role.Enters = true
begins as_role.For = true
begins as_role.Mtype = true
begins as_role.Names = true
begins as_role.Both = true
begins as_role.Begins = true
begins _ = false
