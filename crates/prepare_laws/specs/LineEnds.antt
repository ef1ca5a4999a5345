-- Where a `;` is written, by the kinds of the tokens before the place alone: of those that are not blanked, the last one first.
use Rattle.std.specs.Prelude.{◌≡◌, ◌<◌, ℕ, ◌-◌, Bool, true, false, not, if◌then◌else◌, List, [], ◌∷◌, ◌++◌, fold, ⊤}
use Rattle.std.specs.List.{list_any}
use Rattle.pml_token.specs.declared.token.Kind.{Kind}
use Rattle.pml_token.specs.declared.token.Kind.TheVariants as kind
use Rattle.prepare.specs.declared.context.Supply.TheVariants.{Separator}
use Rattle.prepare.specs.Contexts.{deeper}
use Rattle.prepare.specs.Written.{Written}
use Rattle.prepare.specs.Stretches.{ends_line}
use Rattle.prepare.specs.Blocks.{is_blanked}
use Rattle.prepare.specs.Separators.{may_begin, may_end, enters, leaves}

abbrev pub kinds_behind : List Kind → Written → List Kind
kinds_behind ks t = if is_blanked t then ks else t.kind ∷ ks

-- the kinds of these tokens
abbrev pub kinds : List Written → List Kind
kinds ts = fold kinds_behind [] ts

abbrev pub braces_with : Kind → ℕ → ℕ
braces_with kind.OpenBrace n = deeper n
braces_with kind.CloseBrace n = n - 1
braces_with _ n = n

-- how many braces are open
abbrev pub opened : List Kind → ℕ
opened [] = 0
opened (k ∷ ks) = braces_with k (opened ks)

abbrev pub brackets_with : Kind → ℕ → ℕ
brackets_with k n = if enters k then deeper n else (if leaves k then n - 1 else n)

-- how many other brackets are open
abbrev pub entered : List Kind → ℕ
entered [] = 0
entered (k ∷ ks) = brackets_with k (entered ks)

-- whether the last tokens are a type that is written by `mtype`: the word, or a subtype of it
abbrev pub is_type : List Kind → Bool
is_type (kind.Mtype ∷ ks) = true
is_type (kind.Name ∷ kind.Colon ∷ ks) = is_type ks
is_type _ = false

-- whether the last token is `=`, and not that before the names of `mtype`
abbrev pub is_assigned : List Kind → Bool
is_assigned (kind.Assign ∷ ks) = not (is_type ks)
is_assigned _ = false

-- a list begins: `{` behind `=`
abbrev pub BeginsList : List Kind → Type 0
BeginsList (kind.OpenBrace ∷ ks) = is_assigned ks ≡ true
BeginsList _ = ⊥

-- a typedef begins: its word
abbrev pub BeginsTypedef : List Kind → Type 0
BeginsTypedef (kind.Typedef ∷ ks) = ⊤
BeginsTypedef _ = ⊥

-- each `}` of the first tokens, which stand behind the others, leaves a brace open
abbrev pub StaysOpen : List Kind → List Kind → Type 0
StaysOpen inside before = (later earlier : List Kind) → inside ≡ later ++ kind.CloseBrace ∷ earlier → 1 < opened (earlier ++ before)

-- since a beginning of this sort the braces have not all been closed
pub record OpenSince (begins : List Kind → Type 0) (ks : List Kind) : Type 0 where
  pub inside : List Kind
  pub before : List Kind
  pub splits : ks ≡ inside ++ before
  pub begun : begins before
  pub stays : StaysOpen inside before

-- whether a `for` stands behind the last `{`, and so waits for its body
abbrev pub waits : List Kind → Bool
waits [] = false
waits (kind.For ∷ ks) = true
waits (kind.OpenBrace ∷ ks) = false
waits (k ∷ ks) = waits ks

-- a bracket closes the range of a `for`
pub record ClosesHead (ks : List Kind) : Type 0 where
  pub waiting : waits ks ≡ true
  pub outer : entered ks < 2

-- a brace closes a part of a typedef, as the fields of a channel
pub record ClosesPart (ks : List Kind) : Type 0 where
  pub typedef : OpenSince BeginsTypedef ks
  pub within : 1 < opened ks

-- a statement or a field may end with the last token: a name that is no subtype, a bracket that does not close the range of a `for`, a brace
-- within a typedef, or another token that may end one
abbrev pub MayEnd : List Kind → Type 0
MayEnd [] = ⊥
MayEnd (kind.Name ∷ ks) = is_type (kind.Name ∷ ks) ≡ false
MayEnd (kind.CloseParen ∷ ks) = ClosesHead ks → ⊥
MayEnd (kind.CloseBracket ∷ ks) = ClosesHead ks → ⊥
MayEnd (kind.CloseBrace ∷ ks) = ClosesPart ks
MayEnd (k ∷ ks) = may_end k ≡ true

-- a line ends before a token, behind one that may end a statement and before one that may begin one, within braces, and in no other bracket and no list
pub record EndsLine (ks : List Kind) (t : Written) : Type 0 where
  pub line : list_any ends_line t.gap ≡ true
  pub stays : is_blanked t ≡ false
  pub ends : MayEnd ks
  pub begins : may_begin t.kind ≡ true
  pub within : 0 < opened ks
  pub outside : entered ks ≡ 0
  pub no_list : OpenSince BeginsList ks → ⊥

-- a `;` is written before a token exactly there
pub record Exact (front : List Written) (t : Written) : Type 0 where
  pub only : t.supply ≡ Separator → EndsLine (kinds front) t
  pub each : EndsLine (kinds front) t → t.supply ≡ Separator

abbrev pub SeparatorsAreExact : List Written → Type 0
SeparatorsAreExact ts = (front back : List Written) (t : Written) → ts ≡ front ++ t ∷ back → Exact front t
