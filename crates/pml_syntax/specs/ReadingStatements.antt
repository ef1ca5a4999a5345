-- The reading of statements, declarations and bodies. What may end with `}`, `fi`, `od` or `else` is read with whether it
-- does.
use Rattle.std.specs.Prelude.{ℕ, zero, suc, Bool, true, false, ◌&&◌, ◌||◌, List, [], ◌∷◌, ◌++◌, length, drop, Option, Some, None, Ok}
use Rattle.pml_token.specs.Word.{Word, same_kind}
use Rattle.pml_token.specs.declared.token.Kind.{Kind}
use Rattle.pml_token.specs.declared.token.Kind.TheVariants as k
use Rattle.pml_tree.specs.declared.tree.Scalar.{Scalar}
use Rattle.pml_tree.specs.declared.tree.Search.{Search}
use Rattle.pml_tree.specs.declared.tree.SendOrder.{SendOrder}
use Rattle.pml_tree.specs.declared.tree.Removal.TheVariants as removal
use Rattle.pml_tree.specs.declared.tree.Argument.{Argument}
use Rattle.pml_tree.specs.declared.tree.Expr.{Expr}
use Rattle.pml_tree.specs.declared.tree.Reference.{Reference}
use Rattle.pml_tree.specs.declared.tree.Sort.TheVariants as sort
use Rattle.pml_tree.specs.declared.tree.Initial.{Initial}
use Rattle.pml_tree.specs.declared.tree.Initial.TheVariants as ini
use Rattle.pml_tree.specs.declared.tree.Variable.{Variable}
use Rattle.pml_tree.specs.declared.tree.Run.{Run}
use Rattle.pml_tree.specs.declared.tree.Action.{Action}
use Rattle.pml_tree.specs.declared.tree.Action.TheVariants as a
use Rattle.pml_tree.specs.declared.tree.Basic.{Basic}
use Rattle.pml_tree.specs.declared.tree.Basic.TheVariants as b
use Rattle.pml_tree.specs.declared.tree.Item.{Item}
use Rattle.pml_tree.specs.declared.tree.Seq.{Seq}
use Rattle.promela_grammar.specs.Expressions.{between}
use Rattle.pml_expression.specs.Reading.{Read, ◌>>=◌, when◌then◌else◌, next, sees, refuse, expect, expect_all, expect_name, list_from, values, expr_behind, expr_between, index, reference, arguments, behind, climb, expr}
use Rattle.promela_grammar.specs.declared.opener.Opener.{Opener}
use Rattle.promela_grammar.specs.declared.opener.Opener.TheVariants as opener
use Rattle.pml_syntax.specs.declared.starts.Opening.{Opening}
use Rattle.pml_syntax.specs.declared.starts.Opening.TheVariants as o
use Rattle.pml_syntax.specs.declared.starts.Deed.{Deed}
use Rattle.pml_syntax.specs.declared.starts.Deed.TheVariants as d
use Rattle.pml_syntax.specs.declared.starts.Change.{Change}
use Rattle.pml_syntax.specs.declared.starts.Change.TheVariants as c
use Rattle.promela_grammar.specs.declared.range.Counter.{Counter}
use Rattle.promela_grammar.specs.declared.range.Bound.{Bound}
use Rattle.promela_grammar.specs.declared.range.Range.{Range}
use Rattle.promela_grammar.specs.Actions.{scalar, is_visibility, is_exclusive, is_separator, run_of, variable_of, item_of, seq_of, counter_of, bound_of, range_of}
use Rattle.promela_grammar.specs.Models.{for_of, select_of}
use Rattle.pml_syntax.specs.Starts.{opening, deed, change, declares, is_end}

-- whether `run` stands behind any number of `(`
unfoldable pub leads_to_run : List Word → Bool
leads_to_run [] = false
leads_to_run (w ∷ ws) = when same_kind w.kind k.OpenParen then leads_to_run ws else same_kind w.kind k.Run

unfoldable pub skip_separators : List Word → List Word
skip_separators [] = []
skip_separators (w ∷ ws) = when is_separator w.kind then skip_separators ws else w ∷ ws

unfoldable pub is_label : List Word → Bool
is_label ts = sees k.Name ts && sees k.Colon (drop 1 ts)

unfoldable pub is_declaration : List Word → Bool
is_declaration ts = declares (next ts) || (sees k.Name ts && sees k.Name (drop 1 ts))

unfoldable pub skip_visibility : List Word → List Word
skip_visibility ts = when is_visibility (next ts) then drop 1 ts else ts

unfoldable pub labels_from : ℕ → List Word → List Word → Read (List Word)
labels_from zero found ts = Ok (found, ts)
labels_from (suc n) found ts = when is_label ts then (do
  name ← expect k.Name ts
  colon ← expect k.Colon name.1
  labels_from n (found ++ name.0 ∷ []) colon.1) else Ok (found, ts)

-- a type, or the name of a typedef
abbrev pub opener_by : Option Scalar → List Word → Read Opener
opener_by (Some s) ts = Ok (opener.Plain s, drop 1 ts)
opener_by None ts = when sees k.Unsigned ts then (do
  word ← expect k.Unsigned ts
  Ok (opener.Unsigned, word.1)) else (do
    name ← expect k.Name ts
    Ok (opener.Named name.0, name.1))

unfoldable pub opener_of : List Word → Read Opener
opener_of ts = opener_by (scalar (next ts)) ts

abbrev pub scalar_by : Option Scalar → List Word → Read Scalar
scalar_by (Some s) ts = Ok (s, drop 1 ts)
scalar_by None ts = refuse ts

unfoldable pub scalar_of : List Word → Read Scalar
scalar_of ts = scalar_by (scalar (next ts)) ts

-- behind the word
unfoldable pub goto : List Word → Read (Basic × Bool)
goto ts = do
  name ← expect k.Name ts
  Ok ((b.Goto name.0, false), name.1)

-- a `printf` up to its string
unfoldable pub format : List Word → Read Word
format ts = do
  front ← expect_all (k.Printf ∷ k.OpenParen ∷ []) ts
  expect k.Quoted front.1

-- a word of this kind, and the parenthesis behind it; what is read is the line of the word
unfoldable pub opened : Kind → List Word → Read ℕ
opened kind ts = do
  word ← expect kind ts
  paren ← expect k.OpenParen word.1
  Ok (word.0.line, paren.1)

-- The number is how deep the expressions nest.
module _ (depth : ℕ) where
  -- ---- statements without structure

  -- between the parentheses of a run
  unfoldable pub run_values : List Word → Read (List Expr)
  run_values ts = when sees k.CloseParen ts then Ok ([], ts) else list_from (expr depth 1) (length ts) [] ts

  unfoldable pub run_call : List Word → Read Run
  run_call ts = do
    name ← expect_name k.Run k.OpenParen ts
    xs ← run_values name.1
    close ← expect k.CloseParen xs.1
    Ok (run_of name.0 xs.0, close.1)

  -- The number bounds the parentheses.
  unfoldable pub run_within : ℕ → List Word → Read Run
  run_within zero ts = refuse ts
  run_within (suc n) ts = when sees k.OpenParen ts then (do
    opened ← expect k.OpenParen ts
    x ← run_within n opened.1
    close ← expect k.CloseParen x.1
    Ok (x.0, close.1)) else run_call ts

  unfoldable pub run_first : List Word → Read (Action × Bool)
  run_first ts = do
    x ← run_within (length ts) ts
    Ok ((a.Run x.0, false), x.1)

  unfoldable pub holds : List Word → Read (Action × Bool)
  holds ts = do
    x ← expr depth 1 ts
    Ok ((a.Holds x.0, false), x.1)

  -- behind a reference that begins an expression
  unfoldable pub continued : Reference → List Word → Read (Action × Bool)
  continued r ts = do
    first ← behind (expr depth) r ts
    x ← climb (expr depth) (length first.1) 1 first.0 first.1
    Ok ((a.Holds x.0, false), x.1)

  unfoldable pub assigned : Reference → List Word → Read (Action × Bool)
  assigned r ts = when leads_to_run ts then (do
    x ← run_within (length ts) ts
    Ok ((a.AssignRun r x.0, false), x.1)) else (do
      x ← expr depth 1 ts
      Ok ((a.Assign r x.0, false), x.1))

  unfoldable pub sent : SendOrder → Reference → List Word → Read (Action × Bool)
  sent order r ts = do
    xs ← values depth ts
    Ok ((a.Send r order xs.0, false), xs.1)

  -- between `<` and `>`
  unfoldable pub copied : List Word → Read (List Argument)
  copied ts = do
    opened ← expect k.Less ts
    xs ← arguments (expr depth) opened.1
    close ← expect k.Greater xs.1
    Ok (xs.0, close.1)

  unfoldable pub received : Search → Reference → List Word → Read (Action × Bool)
  received look r ts = when sees k.Less ts then (do
    xs ← copied ts
    Ok ((a.Receive r look removal.Keep xs.0, false), xs.1)) else (do
      xs ← arguments (expr depth) ts
      Ok ((a.Receive r look removal.Remove xs.0, false), xs.1))

  abbrev pub changed_by : Change → Reference → List Word → Read (Action × Bool)
  changed_by c.Assign r ts = assigned r (drop 1 ts)
  changed_by c.Increment r ts = Ok ((a.Increment r, false), drop 1 ts)
  changed_by c.Decrement r ts = Ok ((a.Decrement r, false), drop 1 ts)
  changed_by (c.Send order) r ts = sent order r (drop 1 ts)
  changed_by (c.Receive look) r ts = when sees k.OpenBracket (drop 1 ts) then continued r ts else received look r (drop 1 ts)
  changed_by c.Other r ts = continued r ts

  unfoldable pub changed : Reference → List Word → Read (Action × Bool)
  changed r ts = changed_by (change (next ts)) r ts

  unfoldable pub reference_first : List Word → Read (Action × Bool)
  reference_first ts = do
    r ← reference (expr depth) ts
    changed r.0 r.1

  -- behind the string
  unfoldable pub printed : List Word → Read (List Expr)
  printed ts = when sees k.Comma ts then (do
    comma ← expect k.Comma ts
    list_from (expr depth 1) (length comma.1) [] comma.1) else Ok ([], ts)

  unfoldable pub printf : List Word → Read (Action × Bool)
  printf ts = do
    string ← format ts
    xs ← printed string.1
    close ← expect k.CloseParen xs.1
    Ok ((a.Printf string.0 xs.0, false), close.1)

  unfoldable pub printm : List Word → Read (Action × Bool)
  printm ts = do
    word ← expect k.Printm ts
    x ← expr_between (expr depth) k.OpenParen k.CloseParen word.1
    Ok ((a.Printm x.0, false), x.1)

  unfoldable pub assert : List Word → Read (Action × Bool)
  assert ts = do
    x ← expr_behind (expr depth) k.Assert ts
    Ok ((a.Assert x.0, false), x.1)

  abbrev pub action_by : Deed → List Word → Read (Action × Bool)
  action_by d.Else ts = Ok ((a.Else, true), drop 1 ts)
  action_by d.Name ts = reference_first ts
  action_by d.Run ts = run_first ts
  action_by d.Group ts = when leads_to_run ts then run_first ts else holds ts
  action_by d.Printf ts = printf ts
  action_by d.Printm ts = printm ts
  action_by d.Assert ts = assert ts
  action_by d.Other ts = holds ts

  unfoldable pub action : List Word → Read (Action × Bool)
  action ts = action_by (deed (next ts)) ts

  -- ---- what `for` and `select` count over

  -- behind the parenthesis
  unfoldable pub loop_variable : ℕ → List Word → Read Counter
  loop_variable line ts = do
    i ← reference (expr depth) ts
    Ok (counter_of line i.0 (between ts i.1), i.1)

  -- behind a token of this kind
  unfoldable pub loop_bound : Kind → List Word → Read Bound
  loop_bound kind ts = do
    word ← expect kind ts
    x ← expr depth 1 word.1
    Ok (bound_of x.0 (between word.1 x.1), x.1)

  -- up to the parenthesis
  unfoldable pub loop_bounds : List Word → Read (Bound × Bound)
  loop_bounds ts = do
    x ← loop_bound k.Colon ts
    y ← loop_bound k.DotDot x.1
    close ← expect k.CloseParen y.1
    Ok ((x.0, y.0), close.1)

  -- with the word, which is to be of this kind
  unfoldable pub loop_range : Kind → List Word → Read Range
  loop_range kind ts = do
    line ← opened kind ts
    i ← loop_variable line.0 line.1
    xs ← loop_bounds i.1
    Ok (range_of i.0 xs.0.0 xs.0.1, xs.1)

  unfoldable pub select : List Word → Read (Basic × Bool)
  select ts = do
    r ← loop_range k.Select ts
    Ok ((select_of r.0, false), r.1)

  -- ---- declarations

  -- up to the types that a channel carries
  unfoldable pub capacity : List Word → Read Expr
  capacity ts = do
    x ← expr_behind (expr depth) k.OpenBracket ts
    front ← expect_all (k.CloseBracket ∷ k.Of ∷ k.OpenBrace ∷ []) x.1
    Ok (x.0, front.1)

  unfoldable pub channel : List Word → Read (Option Initial × Bool)
  channel ts = do
    x ← capacity ts
    types ← list_from scalar_of (length x.1) [] x.1
    last ← expect k.CloseBrace types.1
    Ok ((Some (ini.Channel x.0 types.0), true), last.1)

  unfoldable pub initial : List Word → Read (Option Initial × Bool)
  initial ts = when sees k.Assign ts then (do
    sign ← expect k.Assign ts
    when sees k.OpenBracket sign.1 then channel sign.1 else (do
      x ← expr depth 1 sign.1
      Ok ((Some (ini.Value x.0), false), x.1))) else Ok ((None, false), ts)

  unfoldable pub packed_value : List Word → Read (Option Initial)
  packed_value ts = when sees k.Assign ts then (do
    x ← expr_behind (expr depth) k.Assign ts
    Ok (Some (ini.Value x.0), x.1)) else Ok (None, ts)

  unfoldable pub plain : Scalar → List Word → Read (Variable × Bool)
  plain s ts = do
    name ← expect k.Name ts
    size ← index (expr depth) name.1
    i ← initial size.1
    Ok ((variable_of (sort.Plain s) name.0 size.0 i.0.0, i.0.1), i.1)

  unfoldable pub structured : Word → List Word → Read (Variable × Bool)
  structured t ts = do
    name ← expect k.Name ts
    size ← index (expr depth) name.1
    Ok ((variable_of (sort.Named t) name.0 size.0 None, false), size.1)

  unfoldable pub packed : List Word → Read (Variable × Bool)
  packed ts = do
    name ← expect k.Name ts
    colon ← expect k.Colon name.1
    width ← expect k.Number colon.1
    x ← packed_value width.1
    Ok ((variable_of (sort.Unsigned width.0) name.0 None x.0, false), x.1)

  abbrev pub variable_by : Opener → List Word → Read (Variable × Bool)
  variable_by (opener.Plain s) ts = plain s ts
  variable_by (opener.Named t) ts = structured t ts
  variable_by opener.Unsigned ts = packed ts

  unfoldable pub variables_from : ℕ → Opener → List Variable → List Word → Read (List Variable × Bool)
  variables_from zero f found ts = refuse ts
  variables_from (suc n) f found ts = do
    v ← variable_by f ts
    when sees k.Comma v.1 then (do
      comma ← expect k.Comma v.1
      variables_from n f (found ++ v.0.0 ∷ []) comma.1) else Ok ((found ++ v.0.0 ∷ [], v.0.1), v.1)

  -- behind those that were found
  unfoldable pub declaration_from : List Variable → List Word → Read (List Variable × Bool)
  declaration_from found ts = do
    f ← opener_of (skip_visibility ts)
    variables_from (length f.1) f.0 found f.1

  unfoldable pub references : List Word → Read (List Reference)
  references ts = list_from (reference (expr depth)) (length ts) [] ts

  -- ---- what has no body inside

  unfoldable pub plainly : List Word → Read (Basic × Bool)
  plainly ts = do
    x ← action ts
    Ok ((b.Plain x.0.0, x.0.1), x.1)

  unfoldable pub declared : List Word → Read (Item × Bool × Bool)
  declared ts = do
    vs ← declaration_from [] ts
    Ok ((item_of [] (b.Declare vs.0.0) (between ts vs.1), false, vs.0.1), vs.1)

  unfoldable pub exclusive : List Word → Read (Item × Bool × Bool)
  exclusive ts = do
    rs ← references (drop 1 ts)
    Ok ((item_of [] (b.Exclusive rs.0) (between ts rs.1), false, false), rs.1)

-- Items are read with whether one of them is a statement. The number is how deep the expressions nest, and the reader that
-- of the bodies inside.
module _ (depth : ℕ) (body : List Word → Read (List Item × Bool)) where
  -- a body with a statement
  unfoldable pub seq : List Word → Read (List Item)
  seq ts = do
    xs ← body ts
    when xs.0.1 then Ok (xs.0.0, xs.1) else refuse xs.1

  unfoldable pub options_from : ℕ → List Seq → List Word → Read (List Seq)
  options_from zero found ts = refuse ts
  options_from (suc n) found ts = do
    first ← expect k.DoubleColon ts
    xs ← seq first.1
    when sees k.DoubleColon xs.1 then options_from n (found ++ seq_of xs.0 ∷ []) xs.1 else Ok (found ++ seq_of xs.0 ∷ [], xs.1)

  -- the options behind a word, up to the word that ends them
  unfoldable pub options : Kind → List Word → Read (List Seq)
  options last ts = do
    os ← options_from (length ts) [] ts
    close ← expect last os.1
    Ok (os.0, close.1)

  unfoldable pub braces : List Word → Read (List Item)
  braces ts = do
    opened ← expect k.OpenBrace ts
    xs ← seq opened.1
    close ← expect k.CloseBrace xs.1
    Ok (xs.0, close.1)

  unfoldable pub if_fi : List Word → Read (Basic × Bool)
  if_fi ts = do
    os ← options k.Fi ts
    Ok ((b.If os.0, true), os.1)

  unfoldable pub do_od : List Word → Read (Basic × Bool)
  do_od ts = do
    os ← options k.Od ts
    Ok ((b.Do os.0, true), os.1)

  unfoldable pub block : List Word → Read (Basic × Bool)
  block ts = do
    xs ← braces ts
    Ok ((b.Block (seq_of xs.0), true), xs.1)

  unfoldable pub atomic : List Word → Read (Basic × Bool)
  atomic ts = do
    xs ← braces ts
    Ok ((b.Atomic (seq_of xs.0), true), xs.1)

  unfoldable pub d_step : List Word → Read (Basic × Bool)
  d_step ts = do
    xs ← braces ts
    Ok ((b.DStep (seq_of xs.0), true), xs.1)

  unfoldable pub for_loop : List Word → Read (Basic × Bool)
  for_loop ts = do
    r ← loop_range depth k.For ts
    xs ← braces r.1
    Ok ((for_of r.0 xs.0, true), xs.1)

  abbrev pub embraced : Opening → List Word → Read (Basic × Bool)
  embraced o.Atomic ts = atomic ts
  embraced o.DStep ts = d_step ts
  embraced _ ts = block ts

  abbrev pub basic_by : Opening → List Word → Read (Basic × Bool)
  basic_by o.If ts = if_fi (drop 1 ts)
  basic_by o.Do ts = do_od (drop 1 ts)
  basic_by o.Block ts = block ts
  basic_by o.Atomic ts = atomic (drop 1 ts)
  basic_by o.DStep ts = d_step (drop 1 ts)
  basic_by o.For ts = for_loop ts
  basic_by o.Select ts = select depth ts
  basic_by o.Goto ts = goto (drop 1 ts)
  basic_by o.Break ts = Ok ((b.Break, false), drop 1 ts)
  basic_by o.Other ts = plainly depth ts

  unfoldable pub basic : List Word → Read (Basic × Bool)
  basic ts = basic_by (opening (next ts)) ts

  unfoldable pub statement : List Word → Read (Item × Bool)
  statement ts = do
    labels ← labels_from (length ts) [] ts
    x ← basic labels.1
    Ok ((item_of labels.0 x.0.0 (between labels.1 x.1), x.0.1), x.1)

  -- what a statement gives way to
  unfoldable pub escape : List Word → Read (List Item × Bool)
  escape ts = do
    word ← expect k.Unless ts
    x ← statement word.1
    Ok ((x.0.0 ∷ [], x.0.1), x.1)

  unfoldable pub stepped : List Word → Read (Item × Bool × Bool)
  stepped ts = do
    x ← statement ts
    when sees k.Unless x.1 then (do
      y ← escape x.1
      Ok ((item_of [] (b.Unless (seq_of (x.0.0 ∷ [])) (seq_of y.0.0)) (between ts y.1), true, y.0.1), y.1)) else Ok ((x.0.0, true, x.0.1), x.1)

  unfoldable pub item : List Word → Read (Item × Bool × Bool)
  item ts = when is_declaration ts then declared depth ts else (when is_exclusive (next ts) then exclusive depth ts else stepped ts)

  unfoldable pub items_from : ℕ → Bool → List Item → List Word → Read (List Item × Bool)
  items_from zero step found ts = refuse ts
  items_from (suc n) step found ts = do
    x ← item ts
    when is_end (next (skip_separators x.1)) then Ok ((found ++ x.0.0 ∷ [], step || x.0.1), skip_separators x.1) else (
        when x.0.2 || is_separator (next x.1) then items_from n (step || x.0.1) (found ++ x.0.0 ∷ []) (skip_separators x.1) else refuse (skip_separators x.1))

-- the items of a body that nests no deeper than the number
unfoldable pub items : ℕ → List Word → Read (List Item × Bool)
items zero ts = refuse ts
items (suc depth) ts = items_from depth (items depth) (length ts) false [] ts
