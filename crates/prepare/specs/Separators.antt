-- Where something is written between the tokens of a text, by its tokens.
use Rattle.std.specs.Prelude.{◌≡◌, ◌<◌, ℕ, ◌-◌, Bool, true, false, if◌then◌else◌, List, ◌∷◌, ◌++◌, fold, Option, None, Some}
use Rattle.std.specs.List.{list_any}
use Rattle.pml_token.specs.declared.token.Kind.{Kind}
use Rattle.pml_token.specs.declared.token.Kind.TheVariants as kind
use Rattle.prepare.specs.declared.context.Supply.TheVariants.{Separator, Skip}
use Rattle.prepare.specs.Contexts.{deeper}
use Rattle.prepare.specs.Written.{Written}
use Rattle.prepare.specs.Stretches.{ends_line}
use Rattle.prepare.specs.Blocks.{is_blanked, open_behind}

-- what a statement may end with: a name, a number, a word that is a statement or an expression, `++`, `--`, `)`, `]`, or the `}` of a channel
abbrev pub may_end : Kind → Bool
may_end kind.Name = true
may_end kind.Number = true
may_end kind.Skip = true
may_end kind.True = true
may_end kind.False = true
may_end kind.Timeout = true
may_end kind.Break = true
may_end kind.Increment = true
may_end kind.Decrement = true
may_end kind.CloseParen = true
may_end kind.CloseBracket = true
may_end kind.CloseBrace = true
may_end _ = false

-- what a statement may begin with: `{`, `(`, a name, a number, the word of a declaration, of a statement or of an expression, `-`, `~` or `!`
abbrev pub may_begin : Kind → Bool
may_begin kind.OpenBrace = true
may_begin kind.OpenParen = true
may_begin kind.Name = true
may_begin kind.Number = true
may_begin kind.Skip = true
may_begin kind.True = true
may_begin kind.False = true
may_begin kind.Timeout = true
may_begin kind.Break = true
may_begin kind.Bit = true
may_begin kind.Bool = true
may_begin kind.Byte = true
may_begin kind.Chan = true
may_begin kind.Hidden = true
may_begin kind.Int = true
may_begin kind.Local = true
may_begin kind.Mtype = true
may_begin kind.Pid = true
may_begin kind.Short = true
may_begin kind.Show = true
may_begin kind.Unsigned = true
may_begin kind.Xr = true
may_begin kind.Xs = true
may_begin kind.Assert = true
may_begin kind.Atomic = true
may_begin kind.DStep = true
may_begin kind.Do = true
may_begin kind.For = true
may_begin kind.Goto = true
may_begin kind.If = true
may_begin kind.Printf = true
may_begin kind.Printm = true
may_begin kind.Select = true
may_begin kind.Empty = true
may_begin kind.Full = true
may_begin kind.Len = true
may_begin kind.Nempty = true
may_begin kind.Nfull = true
may_begin kind.Run = true
may_begin kind.Minus = true
may_begin kind.Tilde = true
may_begin kind.Bang = true
may_begin _ = false

-- what ends a sequence, behind which a label has no statement: `}`, `::`, `fi` and `od`
abbrev pub ends_sequence : Kind → Bool
ends_sequence kind.CloseBrace = true
ends_sequence kind.DoubleColon = true
ends_sequence kind.Fi = true
ends_sequence kind.Od = true
ends_sequence _ = false

abbrev pub is_colon : Kind → Bool
is_colon kind.Colon = true
is_colon _ = false

-- `(` and `[`
abbrev pub enters : Kind → Bool
enters kind.OpenParen = true
enters kind.OpenBracket = true
enters _ = false

-- `)` and `]`
abbrev pub leaves : Kind → Bool
leaves kind.CloseParen = true
leaves kind.CloseBracket = true
leaves _ = false

-- how many braces are open behind a token that is not blanked
abbrev pub braces_behind : ℕ → Written → ℕ
braces_behind n t = if is_blanked t then n else open_behind n t

-- how many other brackets are
abbrev pub brackets_behind : ℕ → Written → ℕ
brackets_behind n t = if is_blanked t then n else (if enters t.kind then deeper n else (if leaves t.kind then n - 1 else n))

-- the last token that is not blanked
abbrev pub last_behind : Option Kind → Written → Option Kind
last_behind o t = if is_blanked t then o else Some t.kind

abbrev pub braces : List Written → ℕ
braces ts = fold braces_behind 0 ts

abbrev pub brackets : List Written → ℕ
brackets ts = fold brackets_behind 0 ts

abbrev pub last : List Written → Option Kind
last ts = fold last_behind None ts

abbrev pub is : (Kind → Bool) → Option Kind → Bool
is p None = false
is p (Some k) = p k

-- between two tokens a line ends, a statement may end before it and another begin behind it, and they stand within braces and in no other brackets
pub record EndsAStatement (front : List Written) (t : Written) : Type 0 where
  pub line : list_any ends_line t.gap ≡ true
  pub ends : is may_end (last front) ≡ true
  pub begins : may_begin t.kind ≡ true
  pub stays : is_blanked t ≡ false
  pub within : 0 < braces front
  pub outside : brackets front ≡ 0

-- a colon stands before, and behind it what ends a sequence
pub record LacksAStatement (front : List Written) (t : Written) : Type 0 where
  pub label : is is_colon (last front) ≡ true
  pub ends : ends_sequence t.kind ≡ true
  pub stays : is_blanked t ≡ false

-- each `;` that is written ends a statement
abbrev pub SeparatorsEndStatements : List Written → Type 0
SeparatorsEndStatements ts = (front back : List Written) (t : Written) → ts ≡ front ++ t ∷ back → t.supply ≡ Separator → EndsAStatement front t

-- each `skip` that is written is the statement of a label
abbrev pub SkipsAreLabelled : List Written → Type 0
SkipsAreLabelled ts = (front back : List Written) (t : Written) → ts ≡ front ++ t ∷ back → t.supply ≡ Skip → LacksAStatement front t
