-- The reading of units, and of a model.
use Rattle.std.specs.Prelude.{ℕ, zero, suc, Bool, true, false, List, [], ◌∷◌, ◌++◌, length, drop, Option, Some, None, Ok}
use Rattle.pml_token.specs.Word.{Word}
use Rattle.pml_token.specs.declared.token.Kind.{Kind}
use Rattle.pml_token.specs.declared.token.Kind.TheVariants as k
use Rattle.pml_tree.specs.declared.tree.Expr.{Expr}
use Rattle.pml_tree.specs.declared.tree.Scalar.{Scalar}
use Rattle.pml_tree.specs.declared.tree.Sort.TheVariants as sort
use Rattle.pml_tree.specs.declared.tree.Variable.{Variable}
use Rattle.pml_tree.specs.declared.tree.Item.{Item}
use Rattle.pml_tree.specs.declared.tree.Starts.{Starts}
use Rattle.pml_tree.specs.declared.tree.Starts.TheVariants as starting
use Rattle.pml_tree.specs.declared.tree.Unit.{Unit as ModelUnit}
use Rattle.pml_tree.specs.declared.tree.Unit.TheVariants as u
use Rattle.pml_tree.specs.declared.tree.Tree.{Tree}
use Rattle.pml_expression.specs.Reading.{Read, ◌>>=◌, when◌then◌else◌, next, sees, refuse, is_empty, expect, expect_name, list_from, index, expr}
use Rattle.promela_grammar.specs.declared.opener.Opener.{Opener}
use Rattle.promela_grammar.specs.declared.opener.Opener.TheVariants as opener
use Rattle.pml_syntax.specs.declared.starts.Head.{Head}
use Rattle.pml_syntax.specs.declared.starts.Head.TheVariants as h
use Rattle.promela_grammar.specs.Actions.{variable_of, seq_of, proctype_tree, tree_of}
use Rattle.pml_syntax.specs.Starts.{declares, head}
use Rattle.pml_syntax.specs.ReadingStatements.{skip_visibility, opener_of, declaration_from, items}

unfoldable pub skip_semicolons : List Word → List Word
skip_semicolons [] = []
skip_semicolons (w ∷ ws) = when sees k.Semicolon (w ∷ ws) then skip_semicolons ws else w ∷ ws

-- ---- parameters

unfoldable pub plain_parameter : Scalar → List Word → Read Variable
plain_parameter s ts = do
  name ← expect k.Name ts
  Ok (variable_of (sort.Plain s) name.0 None None, name.1)

unfoldable pub packed_parameter : List Word → Read Variable
packed_parameter ts = do
  name ← expect k.Name ts
  colon ← expect k.Colon name.1
  width ← expect k.Number colon.1
  Ok (variable_of (sort.Unsigned width.0) name.0 None None, width.1)

-- behind its type; a typedef is none
abbrev pub parameter_by : Opener → List Word → Read Variable
parameter_by (opener.Plain s) ts = plain_parameter s ts
parameter_by opener.Unsigned ts = packed_parameter ts
parameter_by (opener.Named t) ts = refuse ts

-- with its type, which the next one may have too
unfoldable pub typed_parameter : List Word → Read (Variable × Opener)
typed_parameter ts = do
  f ← opener_of (skip_visibility ts)
  v ← parameter_by f.0 f.1
  Ok ((v.0, f.0), v.1)

unfoldable pub next_parameter : Opener → List Word → Read (Variable × Opener)
next_parameter f ts = when declares (next ts) then typed_parameter ts else (do
  v ← parameter_by f ts
  Ok ((v.0, f), v.1))

-- behind a separator, or none
unfoldable pub more_parameter : Opener → List Word → Read (Variable × Opener)
more_parameter f ts = when sees k.Semicolon ts then typed_parameter (drop 1 ts) else next_parameter f (drop 1 ts)

abbrev pub parts_parameters : Kind → Bool
parts_parameters k.Semicolon = true
parts_parameters k.Comma = true
parts_parameters _ = false

unfoldable pub parameters_from : ℕ → Opener → List Variable → List Word → Read (List Variable)
parameters_from zero f found ts = Ok (found, ts)
parameters_from (suc n) f found ts = when parts_parameters (next ts) then (do
  v ← more_parameter f ts
  parameters_from n v.0.1 (found ++ v.0.0 ∷ []) v.1) else Ok (found, ts)

unfoldable pub parameters : List Word → Read (List Variable)
parameters ts = when sees k.CloseParen ts then Ok ([], ts) else (do
  v ← typed_parameter ts
  parameters_from (length v.1) v.0.1 (v.0.0 ∷ []) v.1)

-- ---- units. The number is how deep the expressions and bodies nest.

unfoldable pub names : List Word → Read (List Word)
names ts = do
  opened ← expect k.OpenBrace ts
  ns ← list_from (expect k.Name) (length opened.1) [] opened.1
  close ← expect k.CloseBrace ns.1
  Ok (ns.0, close.1)

-- behind the word
unfoldable pub constants : List Word → Read ModelUnit
constants ts = when sees k.Assign ts then (do
  sign ← expect k.Assign ts
  ns ← names sign.1
  Ok (u.Constants ns.0, ns.1)) else (do
    ns ← names ts
    Ok (u.Constants ns.0, ns.1))

abbrev pub starts_of : Option Expr → Starts
starts_of None = starting.Once
starts_of (Some x) = starting.Times x

-- the name and the parameters
unfoldable pub signature : List Word → Read (Word × List Variable)
signature ts = do
  name ← expect_name k.Proctype k.OpenParen ts
  vs ← parameters name.1
  close ← expect k.CloseParen vs.1
  Ok ((name.0, vs.0), close.1)

module _ (depth : ℕ) where
  unfoldable pub starts : List Word → Read Starts
  starts ts = when sees k.Active ts then (do
    word ← expect k.Active ts
    i ← index (expr depth) word.1
    Ok (starts_of i.0, i.1)) else Ok (starting.Never, ts)

  -- behind the declarations that were found
  unfoldable pub members_from : ℕ → List Variable → List Word → Read (List Variable)
  members_from zero found ts = refuse ts
  members_from (suc n) found ts = do
    vs ← declaration_from depth found ts
    when sees k.CloseBrace (skip_semicolons vs.1) then Ok (vs.0.0, skip_semicolons vs.1) else (
        when sees k.Semicolon vs.1 then members_from n vs.0.0 (skip_semicolons vs.1) else refuse (skip_semicolons vs.1))

  unfoldable pub typedef : List Word → Read ModelUnit
  typedef ts = do
    name ← expect_name k.Typedef k.OpenBrace ts
    vs ← members_from (length name.1) [] name.1
    close ← expect k.CloseBrace vs.1
    Ok (u.Typedef name.0 vs.0, close.1)

  unfoldable pub items_or_none : List Word → Read (List Item)
  items_or_none ts = when sees k.CloseBrace ts then Ok ([], ts) else (do
    xs ← items depth ts
    Ok (xs.0.0, xs.1))

  -- the body of a process, with the brace that ends it
  unfoldable pub body : List Word → Read (List Item × Word)
  body ts = do
    opened ← expect k.OpenBrace ts
    xs ← items_or_none opened.1
    close ← expect k.CloseBrace xs.1
    Ok ((xs.0, close.0), close.1)

  -- a proctype or `init`, from its body on
  unfoldable pub process : Starts → Word → List Variable → List Word → Read ModelUnit
  process s name vs ts = do
    x ← body ts
    Ok (u.Proctype (proctype_tree s name vs (seq_of x.0.0) x.0.1), x.1)

  unfoldable pub proctype : List Word → Read ModelUnit
  proctype ts = do
    s ← starts ts
    m ← signature s.1
    process s.0 m.0.0 m.0.1 m.1

  unfoldable pub init : List Word → Read ModelUnit
  init ts = do
    word ← expect k.Init ts
    process starting.Once word.0 [] word.1

  unfoldable pub variables : List Word → Read ModelUnit
  variables ts = do
    vs ← declaration_from depth [] ts
    Ok (u.Variables vs.0.0, vs.1)

  abbrev pub unit_by : Head → List Word → Read ModelUnit
  unit_by h.Mtype ts = when sees k.Name (drop 1 ts) then variables ts else constants (drop 1 ts)
  unit_by h.Typedef ts = typedef ts
  unit_by h.Proctype ts = proctype ts
  unit_by h.Init ts = init ts
  unit_by h.Other ts = variables ts

  unfoldable pub unit : List Word → Read ModelUnit
  unit ts = unit_by (head (next ts)) ts

  unfoldable pub units_from : ℕ → List ModelUnit → List Word → Read (List ModelUnit)
  units_from zero found ts = when is_empty (skip_semicolons ts) then Ok (found, skip_semicolons ts) else refuse (skip_semicolons ts)
  units_from (suc n) found ts = when is_empty (skip_semicolons ts) then Ok (found, skip_semicolons ts) else (do
    x ← unit (skip_semicolons ts)
    units_from n (found ++ x.0 ∷ []) x.1)

  -- all of the tokens
  unfoldable pub model : List Word → Read Tree
  model ts = do
    us ← units_from (length ts) [] ts
    Ok (tree_of us.0, us.1)
