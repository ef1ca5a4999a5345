-- Reading from left to right, and the reading of expressions. A fault is the count of the tokens from the one on that no
-- rule reads.
use Rattle.std.specs.Prelude.{◌≡◌, ℕ, zero, suc, ◌+◌, Bool, true, false, nat_lt, List, [], ◌∷◌, ◌++◌, length, drop, Option, Some, None, Result, Ok, Err}
use Rattle.pml_token.specs.Word.{Word, same_kind}
use Rattle.pml_token.specs.declared.token.Kind.{Kind}
use Rattle.pml_token.specs.declared.token.Kind.TheVariants as k
use Rattle.pml_tree.specs.declared.tree.Infix.{Infix}
use Rattle.pml_tree.specs.declared.tree.Prefix.{Prefix}
use Rattle.pml_tree.specs.declared.tree.Prefix.TheVariants as prefixes
use Rattle.pml_tree.specs.declared.tree.Fill.{Fill}
use Rattle.pml_tree.specs.declared.tree.Search.{Search}
use Rattle.pml_tree.specs.declared.tree.Sign.TheVariants as signs
use Rattle.pml_tree.specs.declared.tree.Expr.{Expr}
use Rattle.pml_tree.specs.declared.tree.Expr.TheVariants as e
use Rattle.pml_tree.specs.declared.tree.Argument.{Argument}
use Rattle.pml_tree.specs.declared.tree.Argument.TheVariants as g
use Rattle.pml_tree.specs.declared.tree.Reference.{Reference}
use Rattle.pml_tree.specs.declared.tree.Step.{Step}
use Rattle.pml_expression.specs.declared.fault.ReadFault.{ReadFault}
use Rattle.pml_expression.specs.declared.fault.ReadFault.TheVariants as fault
use Rattle.pml_expression.specs.declared.operators.Start.{Start}
use Rattle.pml_expression.specs.declared.operators.Start.TheVariants as s
use Rattle.promela_grammar.specs.Expressions.{operator, level, prefix_level, query, named_step, reference_of}
use Rattle.pml_expression.specs.Starts.{start}

-- what was read, and the tokens behind it
abbrev pub Read : Type 0 → Type 0
Read A = Result (A × List Word) ℕ

unfoldable pub and_then : {A B : Type 0} → Result A ℕ → (A → Result B ℕ) → Result B ℕ
and_then (Ok x) f = f x
and_then (Err left) f = Err left

unfoldable pub pick : {A : Type 0} → Bool → A → A → A
pick true x y = x
pick false x y = y

-- Both are opaque to a proof that does not unfold them, so that a lemma finds their parts.
infixl 10 ◌>>=◌
abbrev pub ◌>>=◌ : {A B : Type 0} → Result A ℕ → (A → Result B ℕ) → Result B ℕ
r >>= f = and_then r f

infix 5 when◌then◌else◌
abbrev pub when◌then◌else◌ : {A : Type 0} → Bool → A → A → A
when b then x else y = pick b x y

-- What a function returned, with the tokens that it left, is what reading gives, unless memory ran out.
abbrev pub Fails : {Y : Type 0} → ReadFault → Result Y ℕ → Type 0
Fails fault.Memory read = Unit {0}
Fails (fault.Syntax left) read = read ≡ Err left

abbrev pub Reads : {A : Type 0} → Read A → Result A ReadFault → List Word → Type 0
Reads read (Ok x) to = read ≡ Ok (x, to)
Reads read (Err f) to = Fails f read

-- the kind of the next token
abbrev pub next : List Word → Kind
next [] = k.End
next (w ∷ ws) = w.kind

abbrev pub is_empty : List Word → Bool
is_empty [] = true
is_empty (w ∷ ws) = false

unfoldable pub sees : Kind → List Word → Bool
sees kind ts = same_kind (next ts) kind

-- no rule reads the next token
abbrev pub refuse : {A : Type 0} → List Word → Result A ℕ
refuse ts = Err (length ts)

-- the next token, which is to be of this kind
unfoldable pub expect : Kind → List Word → Read Word
expect kind [] = Err 0
expect kind (w ∷ ws) = when same_kind w.kind kind then Ok (w, ws) else Err (length (w ∷ ws))

-- the next tokens, which are to be of these kinds
unfoldable pub expect_all : List Kind → List Word → Read (Unit {0})
expect_all [] ts = Ok (tt, ts)
expect_all (kind ∷ kinds) ts = do
  word ← expect kind ts
  expect_all kinds word.1

-- what was read, where a token of this kind closes it
unfoldable pub closing : {A : Type 0} → Kind → A → List Word → Read A
closing kind x ts = do
  close ← expect kind ts
  Ok (x, close.1)

-- what was read, with the token of this kind that ends it
unfoldable pub ending : {A : Type 0} → Kind → A → List Word → Read (A × Word)
ending kind x ts = do
  end ← expect kind ts
  Ok ((x, end.0), end.1)

-- a name between two tokens of these kinds
unfoldable pub expect_name : Kind → Kind → List Word → Read Word
expect_name front back ts = do
  word ← expect front ts
  name ← expect k.Name word.1
  end ← expect back name.1
  Ok (name.0, end.1)

-- ---- lists with commas, above the reader of their elements

module _ {A : Type 0} (element : List Word → Read A) where
  -- one or more, behind those that were found. The number bounds the turns.
  unfoldable pub list_from : ℕ → List A → List Word → Read (List A)
  list_from zero found ts = refuse ts
  list_from (suc n) found ts = do
    x ← element ts
    when sees k.Comma x.1 then (do
      comma ← expect k.Comma x.1
      list_from n (found ++ x.0 ∷ []) comma.1) else Ok (found ++ x.0 ∷ [], x.1)

  -- in parentheses
  unfoldable pub enclosed : List A → List Word → Read (List A)
  enclosed found ts = do
    opened ← expect k.OpenParen ts
    xs ← list_from (length opened.1) found opened.1
    closing k.CloseParen xs.0 xs.1

  -- behind the first, which a comma or a parenthesis goes on from
  unfoldable pub behind_first : List A → List Word → Read (List A)
  behind_first first ts = when sees k.OpenParen ts then enclosed first ts else (
      when sees k.Comma ts then (do
        comma ← expect k.Comma ts
        list_from (length comma.1) first comma.1) else Ok (first, ts))

-- ---- parts with no expression inside them

unfoldable pub exactly : List Word → Read Argument
exactly ts = do
  n ← expect k.Number ts
  Ok (g.Exactly signs.Plus n.0, n.1)

unfoldable pub exactly_minus : List Word → Read Argument
exactly_minus ts = do
  minus ← expect k.Minus ts
  n ← expect k.Number minus.1
  Ok (g.Exactly signs.Minus n.0, n.1)

unfoldable pub number : List Word → Read Expr
number ts = do
  n ← expect k.Number ts
  Ok (e.Number n.0, n.1)

-- ---- expressions, above the reader of the expressions inside them

module _ (expr : ℕ → List Word → Read Expr) where
  -- behind a token of this kind
  unfoldable pub expr_behind : Kind → List Word → Read Expr
  expr_behind kind ts = do
    word ← expect kind ts
    expr 1 word.1

  -- between tokens of these kinds
  unfoldable pub expr_between : Kind → Kind → List Word → Read Expr
  expr_between front back ts = do
    x ← expr_behind front ts
    closing back x.0 x.1

  -- behind a name
  unfoldable pub index : List Word → Read (Option Expr)
  index ts = when sees k.OpenBracket ts then (do
    x ← expr_between k.OpenBracket k.CloseBracket ts
    Ok (Some x.0, x.1)) else Ok (None, ts)

  unfoldable pub step : List Word → Read Step
  step ts = do
    name ← expect k.Name ts
    i ← index name.1
    Ok (named_step name.0 i.0, i.1)

  unfoldable pub fields_from : ℕ → List Step → List Word → Read (List Step)
  fields_from zero found ts = Ok (found, ts)
  fields_from (suc n) found ts = when sees k.Dot ts then (do
    dot ← expect k.Dot ts
    x ← step dot.1
    fields_from n (found ++ x.0 ∷ []) x.1) else Ok (found, ts)

  unfoldable pub reference : List Word → Read Reference
  reference ts = do
    first ← step ts
    fields ← fields_from (length first.1) [] first.1
    Ok (reference_of first.0 fields.0, fields.1)

  -- ---- arguments of a receive or a poll

  unfoldable pub into : List Word → Read Argument
  into ts = do
    r ← reference ts
    Ok (g.Into r.0, r.1)

  unfoldable pub eval : List Word → Read Argument
  eval ts = do
    word ← expect k.Eval ts
    x ← expr_between k.OpenParen k.CloseParen word.1
    Ok (g.Eval x.0, x.1)

  -- by what the next token begins
  abbrev pub argument_by : Start → List Word → Read Argument
  argument_by s.Name ts = into ts
  argument_by s.Number ts = exactly ts
  argument_by (s.Prefix prefixes.Minus) ts = exactly_minus ts
  argument_by (s.Truth v) ts = Ok (g.Fixed v, drop 1 ts)
  argument_by s.Eval ts = eval ts
  argument_by _ ts = refuse ts

  unfoldable pub argument : List Word → Read Argument
  argument ts = argument_by (start (next ts)) ts

  unfoldable pub arguments : List Word → Read (List Argument)
  arguments ts = when sees k.OpenParen ts then enclosed argument [] ts else (do
    first ← argument ts
    behind_first argument (first.0 ∷ []) first.1)

  -- ---- operands

  -- in brackets
  unfoldable pub polled : List Word → Read (List Argument)
  polled ts = do
    opened ← expect k.OpenBracket ts
    xs ← arguments opened.1
    closing k.CloseBracket xs.0 xs.1

  -- behind the question mark
  unfoldable pub poll : Search → Reference → List Word → Read Expr
  poll look r ts = do
    xs ← polled ts
    Ok (e.Poll r look xs.0, xs.1)

  -- behind a reference: a poll, where a bracket stands behind a question mark
  abbrev pub behind_by : Option Search → Reference → List Word → Read Expr
  behind_by None r ts = Ok (e.Read r, ts)
  behind_by (Some look) r ts = when sees k.OpenBracket (drop 1 ts) then poll look r (drop 1 ts) else Ok (e.Read r, ts)

  unfoldable pub behind : Reference → List Word → Read Expr
  behind r ts = behind_by (query (next ts)) r ts

  unfoldable pub variable : List Word → Read Expr
  variable ts = do
    r ← reference ts
    behind r.0 r.1

  -- behind the word
  unfoldable pub ask : Fill → List Word → Read Expr
  ask f ts = do
    opened ← expect k.OpenParen ts
    r ← reference opened.1
    closing k.CloseParen (e.Ask f r.0) r.1

  -- behind the operator
  unfoldable pub operand : Prefix → List Word → Read Expr
  operand p ts = do
    x ← expr prefix_level ts
    Ok (e.Unary p x.0, x.1)

  -- behind the condition
  unfoldable pub chosen : Expr → List Word → Read Expr
  chosen x ts = do
    y ← expr_behind k.Arrow ts
    z ← expr_behind k.Colon y.1
    Ok (e.Choice x y.0 z.0, z.1)

  -- behind the first expression in parentheses
  unfoldable pub alternatives : Expr → List Word → Read Expr
  alternatives x ts = when sees k.Arrow ts then chosen x ts else Ok (x, ts)

  unfoldable pub group : List Word → Read Expr
  group ts = do
    x ← expr_behind k.OpenParen ts
    y ← alternatives x.0 x.1
    closing k.CloseParen y.0 y.1

  -- by what the next token begins
  abbrev pub prefix_by : Start → List Word → Read Expr
  prefix_by s.Name ts = variable ts
  prefix_by s.Number ts = number ts
  prefix_by (s.Truth v) ts = Ok (e.Truth v, drop 1 ts)
  prefix_by s.Timeout ts = Ok (e.Timeout, drop 1 ts)
  prefix_by (s.Ask f) ts = ask f (drop 1 ts)
  prefix_by (s.Prefix p) ts = operand p (drop 1 ts)
  prefix_by s.Group ts = group ts
  prefix_by s.Eval ts = refuse ts
  prefix_by s.Other ts = refuse ts

  unfoldable pub prefix : List Word → Read Expr
  prefix ts = prefix_by (start (next ts)) ts

  -- ---- operators

  -- behind the operator between two operands
  unfoldable pub infix_with : Infix → Expr → List Word → Read Expr
  infix_with op left ts = do
    right ← expr (level op + 1) ts
    Ok (e.Binary op left right.0, right.1)

  -- at the operator that comes next, if one does
  abbrev pub climb_by : (Expr → List Word → Read Expr) → ℕ → Expr → List Word → Option Infix → Read Expr
  climb_by again least left ts None = Ok (left, ts)
  climb_by again least left ts (Some op) = when nat_lt (level op) least then Ok (left, ts) else (do
    x ← infix_with op left (drop 1 ts)
    again x.0 x.1)

  -- The number bounds the turns.
  unfoldable pub climb : ℕ → ℕ → Expr → List Word → Read Expr
  climb zero least left ts = Ok (left, ts)
  climb (suc n) least left ts = climb_by (climb n least) least left ts (operator (next ts))

  unfoldable pub level_of : ℕ → List Word → Read Expr
  level_of least ts = do
    first ← prefix ts
    climb (length first.1) least first.0 first.1

-- expressions that nest no deeper than the first number
unfoldable pub expr : ℕ → ℕ → List Word → Read Expr
expr zero least ts = refuse ts
expr (suc depth) least ts = level_of (expr depth) least ts

-- what is sent, by expressions that nest no deeper than this
unfoldable pub values : ℕ → List Word → Read (List Expr)
values depth ts = do
  first ← expr depth 1 ts
  behind_first (expr depth 1) (first.0 ∷ []) first.1
