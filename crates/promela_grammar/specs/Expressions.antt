-- The grammar of expressions: which tree the tokens from one place up to another spell. Each relation has one rule for each
-- production. `from` is the list of the tokens from a place on, and `to` the list of those that are left behind it.
-- Hold it against the page `grammar`; docs/LANGUAGE.md, 'Expressions'.
use Rattle.std.specs.Prelude.{◌≡◌, ◌≤◌, ℕ, ◌-◌, ◌+◌, Bool, true, false, List, [], ◌∷◌, length, take, Option, Some, None}
use Rattle.pml_token.specs.Word.{Word}
use Rattle.pml_token.specs.declared.token.Kind.{Kind}
use Rattle.pml_token.specs.declared.token.Kind.TheVariants as k
use Rattle.pml_tree.specs.declared.tree.Infix.{Infix}
use Rattle.pml_tree.specs.declared.tree.Infix.TheVariants as op
use Rattle.pml_tree.specs.declared.tree.Prefix.{Prefix}
use Rattle.pml_tree.specs.declared.tree.Prefix.TheVariants as prefixes
use Rattle.pml_tree.specs.declared.tree.Fill.{Fill}
use Rattle.pml_tree.specs.declared.tree.Fill.TheVariants as fills
use Rattle.pml_tree.specs.declared.tree.Search.{Search}
use Rattle.pml_tree.specs.declared.tree.Search.TheVariants as looks
use Rattle.pml_tree.specs.declared.tree.Sign.TheVariants as signs
use Rattle.pml_tree.specs.declared.tree.Expr.{Expr}
use Rattle.pml_tree.specs.declared.tree.Expr.TheVariants as e
use Rattle.pml_tree.specs.declared.tree.Argument.{Argument}
use Rattle.pml_tree.specs.declared.tree.Argument.TheVariants as g
use Rattle.pml_tree.specs.declared.tree.Reference.{Reference, roll-Reference}
use Rattle.pml_tree.specs.declared.tree.Step.{Step, roll-Step}

-- ---- what the tokens mean alone

-- between two operands
abbrev pub operator : Kind → Option Infix
operator k.OrOr = Some op.Or
operator k.AndAnd = Some op.And
operator k.Bar = Some op.BitOr
operator k.Caret = Some op.BitXor
operator k.Ampersand = Some op.BitAnd
operator k.Equal = Some op.Equal
operator k.Unequal = Some op.Unequal
operator k.Less = Some op.Below
operator k.AtMost = Some op.AtMost
operator k.Greater = Some op.Above
operator k.AtLeast = Some op.AtLeast
operator k.ShiftLeft = Some op.ShiftLeft
operator k.ShiftRight = Some op.ShiftRight
operator k.Plus = Some op.Plus
operator k.Minus = Some op.Minus
operator k.Star = Some op.Times
operator k.Slash = Some op.Divide
operator k.Percent = Some op.Remainder
operator _ = None

-- how tightly an operator binds its operands, from 1
abbrev pub level : Infix → ℕ
level op.Or = 1
level op.And = 2
level op.BitOr = 3
level op.BitXor = 4
level op.BitAnd = 5
level op.Equal = 6
level op.Unequal = 6
level op.Below = 7
level op.AtMost = 7
level op.Above = 7
level op.AtLeast = 7
level op.ShiftLeft = 8
level op.ShiftRight = 8
level op.Plus = 9
level op.Minus = 9
level op.Times = 10
level op.Divide = 10
level op.Remainder = 10

-- the operators before an operand bind tighter than all of these
abbrev pub prefix_level : ℕ
prefix_level = 11

-- the operator before an operand that a token is: `!`, `~` or `-`
abbrev pub prefix_operator : Kind → Option Prefix
prefix_operator k.Bang = Some prefixes.Not
prefix_operator k.Tilde = Some prefixes.Complement
prefix_operator k.Minus = Some prefixes.Minus
prefix_operator _ = None

-- `true` and `skip` are 1, `false` is 0
abbrev pub truth_of_word : Kind → Option Bool
truth_of_word k.True = Some true
truth_of_word k.Skip = Some true
truth_of_word k.False = Some false
truth_of_word _ = None

-- what a word asks of how full a channel is
abbrev pub fill : Kind → Option Fill
fill k.Len = Some fills.Length
fill k.Empty = Some fills.IsEmpty
fill k.Full = Some fills.IsFull
fill k.Nempty = Some fills.IsNotEmpty
fill k.Nfull = Some fills.IsNotFull
fill _ = None

-- `?` or `??`
abbrev pub query : Kind → Option Search
query k.Query = Some looks.First
query k.QueryQuery = Some looks.Matching
query _ = None

-- ---- the trees, by their parts

-- a name, and the index behind it, if there is one
abbrev pub named_step : Word → Option Expr → Step
named_step name index = roll-Step (record { name = name; index = index })

-- a name, and the fields behind it
abbrev pub reference_of : Step → List Step → Reference
reference_of first fields = roll-Reference (record { first = first; fields = fields })

-- the tokens from one place up to another
abbrev pub between : List Word → List Word → List Word
between from to = take (length from - length to) from

-- ---- expressions. The number is the least level that the outermost operator may have.

mutual
  pub data SpellsIndex : Option Expr → List Word → List Word → Type 0 where
    no_index : {to : List Word} → SpellsIndex None to to
    index : {o c : Word} {x : Expr} {from to : List Word} → o.kind ≡ k.OpenBracket → SpellsExpr 1 x from (c ∷ to) → c.kind ≡ k.CloseBracket
        → SpellsIndex (Some x) (o ∷ from) to

  pub data SpellsStep : Step → List Word → List Word → Type 0 where
    step : {n : Word} {i : Option Expr} {from to : List Word} → n.kind ≡ k.Name → SpellsIndex i from to → SpellsStep (named_step n i) (n ∷ from) to

  pub data SpellsFields : List Step → List Word → List Word → Type 0 where
    no_field : {to : List Word} → SpellsFields [] to to
    one_field : {d : Word} {s : Step} {ss : List Step} {from middle to : List Word} → d.kind ≡ k.Dot → SpellsStep s from middle
        → SpellsFields ss middle to → SpellsFields (s ∷ ss) (d ∷ from) to

  pub data SpellsReference : Reference → List Word → List Word → Type 0 where
    reference : {s : Step} {ss : List Step} {from middle to : List Word} → SpellsStep s from middle → SpellsFields ss middle to
        → SpellsReference (reference_of s ss) from to

  pub data SpellsExpr : ℕ → Expr → List Word → List Word → Type 0 where
    number : {least : ℕ} {n : Word} {to : List Word} → n.kind ≡ k.Number → SpellsExpr least (e.Number n) (n ∷ to) to
    truth_value : {least : ℕ} {w : Word} {v : Bool} {to : List Word} → truth_of_word w.kind ≡ Some v → SpellsExpr least (e.Truth v) (w ∷ to) to
    timeout : {least : ℕ} {w : Word} {to : List Word} → w.kind ≡ k.Timeout → SpellsExpr least e.Timeout (w ∷ to) to
    read : {least : ℕ} {r : Reference} {from to : List Word} → SpellsReference r from to → SpellsExpr least (e.Read r) from to
    poll : {least : ℕ} {r : Reference} {q o c : Word} {look : Search} {xs : List Argument} {from middle to : List Word}
        → SpellsReference r from (q ∷ o ∷ middle) → query q.kind ≡ Some look → o.kind ≡ k.OpenBracket
        → SpellsArguments xs middle (c ∷ to) → c.kind ≡ k.CloseBracket → SpellsExpr least (e.Poll r look xs) from to
    ask : {least : ℕ} {w o c : Word} {f : Fill} {r : Reference} {from to : List Word} → fill w.kind ≡ Some f → o.kind ≡ k.OpenParen
        → SpellsReference r from (c ∷ to) → c.kind ≡ k.CloseParen
        → SpellsExpr least (e.Ask f r) (w ∷ o ∷ from) to
    unary : {least : ℕ} {o : Word} {p : Prefix} {x : Expr} {from to : List Word} → prefix_operator o.kind ≡ Some p → least ≤ prefix_level
        → SpellsExpr prefix_level x from to
        → SpellsExpr least (e.Unary p x) (o ∷ from) to
    -- left associative: the left side may have the same level, and the right side is above it
    binary : {least : ℕ} {o : Word} {i : Infix} {x y : Expr} {from middle to : List Word} → operator o.kind ≡ Some i → least ≤ level i
        → SpellsExpr (level i) x from (o ∷ middle) → SpellsExpr (level i + 1) y middle to → SpellsExpr least (e.Binary i x y) from to
    parentheses : {least : ℕ} {o c : Word} {x : Expr} {from to : List Word} → o.kind ≡ k.OpenParen → SpellsExpr 1 x from (c ∷ to) → c.kind ≡ k.CloseParen
        → SpellsExpr least x (o ∷ from) to
    choice : {least : ℕ} {o q d c : Word} {x y z : Expr} {from chosen other to : List Word} → o.kind ≡ k.OpenParen → SpellsExpr 1 x from (q ∷ chosen)
        → q.kind ≡ k.Arrow
        → SpellsExpr 1 y chosen (d ∷ other) → d.kind ≡ k.Colon → SpellsExpr 1 z other (c ∷ to) → c.kind ≡ k.CloseParen
        → SpellsExpr least (e.Choice x y z) (o ∷ from) to

  -- an argument of a receive or a poll
  pub data SpellsArgument : Argument → List Word → List Word → Type 0 where
    into : {r : Reference} {from to : List Word} → SpellsReference r from to → SpellsArgument (g.Into r) from to
    exactly : {n : Word} {to : List Word} → n.kind ≡ k.Number → SpellsArgument (g.Exactly signs.Plus n) (n ∷ to) to
    exactly_minus : {m n : Word} {to : List Word} → m.kind ≡ k.Minus → n.kind ≡ k.Number → SpellsArgument (g.Exactly signs.Minus n) (m ∷ n ∷ to) to
    fixed : {w : Word} {v : Bool} {to : List Word} → truth_of_word w.kind ≡ Some v → SpellsArgument (g.Fixed v) (w ∷ to) to
    eval : {v o c : Word} {x : Expr} {from to : List Word} → v.kind ≡ k.Eval → o.kind ≡ k.OpenParen → SpellsExpr 1 x from (c ∷ to) → c.kind ≡ k.CloseParen
        → SpellsArgument (g.Eval x) (v ∷ o ∷ from) to

  -- one or more, with commas
  pub data SpellsArgumentList : List Argument → List Word → List Word → Type 0 where
    last_argument : {x : Argument} {from to : List Word} → SpellsArgument x from to → SpellsArgumentList (x ∷ []) from to
    more_arguments : {x : Argument} {xs : List Argument} {c : Word} {from middle to : List Word} → SpellsArgument x from (c ∷ middle)
        → c.kind ≡ k.Comma → SpellsArgumentList xs middle to
        → SpellsArgumentList (x ∷ xs) from to

  -- `x,y`, `x(y)` and `(x,y)` are the same arguments
  pub data SpellsArguments : List Argument → List Word → List Word → Type 0 where
    argument_list : {xs : List Argument} {from to : List Word} → SpellsArgumentList xs from to → SpellsArguments xs from to
    argument_call : {x : Argument} {xs : List Argument} {o c : Word} {from middle to : List Word} → SpellsArgument x from (o ∷ middle)
        → o.kind ≡ k.OpenParen → SpellsArgumentList xs middle (c ∷ to) → c.kind ≡ k.CloseParen
        → SpellsArguments (x ∷ xs) from to
    argument_group : {xs : List Argument} {o c : Word} {from to : List Word} → o.kind ≡ k.OpenParen → SpellsArgumentList xs from (c ∷ to)
        → c.kind ≡ k.CloseParen
        → SpellsArguments xs (o ∷ from) to

-- ---- lists with commas

-- one or more
pub data SpellsList {A : Type 0} (Spell : A → List Word → List Word → Type 0) : List A → List Word → List Word → Type 0 where
  last_listed : {x : A} {from to : List Word} → Spell x from to → SpellsList Spell (x ∷ []) from to
  more_listed : {x : A} {xs : List A} {c : Word} {from middle to : List Word} → Spell x from (c ∷ middle) → c.kind ≡ k.Comma
      → SpellsList Spell xs middle to → SpellsList Spell (x ∷ xs) from to
