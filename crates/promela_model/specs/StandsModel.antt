-- What the declarations, the statements of a body and a whole tree stand for, by cases on their trees. The variables of the proctype grow
-- from one to the next: `ls` are those before, and `zs` those behind.
-- Hold it against docs/LANGUAGE.md, 'Statements' and 'A model'.
use Rattle.std.specs.Prelude.{◌≡◌, ℕ, ◌+◌, if◌then◌else◌, is_some, List, [], ◌∷◌, ◌++◌, map, Option, Some, None, true, false, length, reverse, fold, option_map, unwrap_or}
use Rattle.std.specs.List.{AllZip}
use Rattle.pml_token.specs.Word.{Word}
use Rattle.pml_tree.specs.declared.tree.Scalar.{Scalar}
use Rattle.pml_tree.specs.declared.tree.SendOrder.{SendOrder}
use Rattle.pml_tree.specs.declared.tree.Search.{Search}
use Rattle.pml_tree.specs.declared.tree.Removal.{Removal}
use Rattle.pml_tree.specs.declared.tree.Sort.{Sort}
use Rattle.pml_tree.specs.declared.tree.Sort.TheVariants as sort
use Rattle.pml_tree.specs.declared.tree.Initial.{Initial as TreeInitial}
use Rattle.pml_tree.specs.declared.tree.Initial.TheVariants as begin
use Rattle.pml_tree.specs.declared.tree.Variable.{Variable}
use Rattle.pml_tree.specs.declared.tree.Expr.{Expr as TreeExpr}
use Rattle.pml_tree.specs.declared.tree.Argument.{Argument}
use Rattle.pml_tree.specs.declared.tree.Reference.{Reference}
use Rattle.pml_tree.specs.declared.tree.Run.{Run as TreeRun}
use Rattle.pml_tree.specs.declared.tree.Action.{Action as TreeAction}
use Rattle.pml_tree.specs.declared.tree.Action.TheVariants as t
use Rattle.pml_tree.specs.declared.tree.Basic.{Basic as TreeBasic}
use Rattle.pml_tree.specs.declared.tree.Basic.TheVariants as form
use Rattle.pml_tree.specs.declared.tree.Item.{Item}
use Rattle.pml_tree.specs.declared.tree.Seq.{Seq as TreeSeq}
use Rattle.promela_grammar.specs.Actions.{item_of, seq_of}
use Rattle.promela_model.specs.Names.{constant, numeral, count_of, length_of, cells_counted}
use Rattle.promela_model.specs.declared.mark.Role.{Role}
use Rattle.promela_model.specs.declared.mark.Role.TheVariants as role
use Rattle.pml_program.specs.declared.form.Form.{Form}
use Rattle.pml_program.specs.declared.form.Form.TheVariants as kind
use Rattle.pml_program.specs.declared.expr.Expr.{Expr}
use Rattle.pml_program.specs.declared.expr.Want.{Want}
use Rattle.pml_program.specs.declared.expr.Target.{Target}
use Rattle.pml_program.specs.declared.program.Initial.{Initial}
use Rattle.pml_program.specs.declared.program.Initial.TheVariants as i
use Rattle.pml_program.specs.declared.program.Slot.{Slot}
use Rattle.pml_program.specs.declared.program.Run.{Run}
use Rattle.pml_program.specs.declared.program.Action.{Action}
use Rattle.pml_program.specs.declared.program.Action.TheVariants as a
use Rattle.pml_program.specs.declared.program.Basic.{Basic}
use Rattle.pml_program.specs.declared.program.Basic.TheVariants as b
use Rattle.pml_program.specs.declared.program.Stmt.{Stmt, roll-Stmt}
use Rattle.pml_program.specs.declared.program.Seq.{Seq, roll-Seq}
use Rattle.promela_model.specs.Stands.{Meaning, Place, as_place, StandsExpr, StandsReference, StandsArguments, Globals, Structure, variable_named, typedef_named, proctype_named, cells_in_all, is_declared, with_constant, with_typedef, with_proctype}
use Rattle.pml_tree.specs.declared.tree.Starts.{Starts}
use Rattle.pml_tree.specs.declared.tree.Starts.TheVariants as starts
use Rattle.pml_tree.specs.declared.tree.Proctype.{Proctype as TreeProctype}
use Rattle.pml_tree.specs.declared.tree.Unit.{Unit as Part}
use Rattle.pml_tree.specs.declared.tree.Unit.TheVariants as part
use Rattle.pml_tree.specs.declared.tree.Tree.{Tree}
use Rattle.pml_program.specs.declared.program.Fields.{Fields}
use Rattle.pml_program.specs.declared.program.Proctype.{Proctype}
use Rattle.pml_program.specs.declared.program.Program.{Program}

-- ---- variables

-- the type that a word names, and the cells of one element; a width that is no number is refused by itself
pub data StandsSort (gs : Globals) (ls : List Slot) : Sort → Form → ℕ → Type 0 where
  plain_sort : (s : Scalar) → StandsSort gs ls (sort.Plain s) (kind.Plain s) 1
  unsigned_sort : (n : Word) → StandsSort gs ls (sort.Unsigned n) (kind.Unsigned (unwrap_or (numeral n.text) 0)) 1
  typedef_sort : {n : Word} {x : Structure} → variable_named ls n.text ≡ None → typedef_named gs.typedefs n.text ≡ Some x
      → StandsSort gs ls (sort.Named n) (kind.Struct x.number) (cells_counted (cells_in_all x.fields))
  hidden_sort : {n : Word} {k : ℕ} {s : Slot} → variable_named ls n.text ≡ Some (k, s) → StandsSort gs ls (sort.Named n) kind.Unknown 1
  lost_sort : {n : Word} → typedef_named gs.typedefs n.text ≡ None → StandsSort gs ls (sort.Named n) kind.Unknown 1

-- what an initialiser stands for
pub data StandsInitial (gs : Globals) (ls : List Slot) : Option TreeInitial → Initial → Type 0 where
  no_initial : StandsInitial gs ls None i.Zero
  value_initial : {e : TreeExpr} {x : Expr} → StandsExpr gs ls e x → StandsInitial gs ls (Some (begin.Value e)) (i.Value x)
  channel_initial : {e : TreeExpr} {ts : List Scalar}
      → StandsInitial gs ls (Some (begin.Channel e ts)) (i.Channel (count_of (constant e)) (map kind.Plain ts))

-- A variable behind these ones of its owner: its cells begin where theirs end.
pub data StandsVariable (gs : Globals) (ls before : List Slot) : Variable → Slot → Type 0 where
  variable : {v : Variable} {f : Form} {width : ℕ} {x : Initial} → StandsSort gs ls v.sort f width → StandsInitial gs ls v.initial x
      → StandsVariable gs ls before v (record {
        name = v.name;
        form = f;
        array = is_some v.size;
        offset = cells_counted (cells_in_all before);
        length = length_of (option_map constant v.size);
        stride = width;
        initial = x;
      })

-- which variables of its owner a declaration sees: a field sees no other one
abbrev pub seen : Role → List Slot → List Slot
seen role.Variable ss = ss
seen role.Field ss = []

-- Parameters and locals, or the fields of a typedef. Of two declarations of one name the first counts.
pub data StandsVariables (gs : Globals) (use_as : Role) : List Slot → List Variable → List Slot → Type 0 where
  no_variable : {ss : List Slot} → StandsVariables gs use_as ss [] ss
  new_variable : {ss zs : List Slot} {v : Variable} {vs : List Variable} {s : Slot} → variable_named ss v.name.text ≡ None
      → StandsVariable gs (seen use_as ss) ss v s → StandsVariables gs use_as (ss ++ s ∷ []) vs zs → StandsVariables gs use_as ss (v ∷ vs) zs
  old_variable : {ss zs : List Slot} {v : Variable} {vs : List Variable} {k : ℕ} {s : Slot} → variable_named ss v.name.text ≡ Some (k, s)
      → StandsVariables gs use_as ss vs zs → StandsVariables gs use_as ss (v ∷ vs) zs

-- ---- statements that give no structure

-- where a store goes: nowhere for `_`
abbrev pub as_store : Meaning → Option Target
as_store (Place t) = Some t
as_store _ = None

-- a proctype of the whole text, by its number in the order of the text, where no variable of the proctype hides its
-- name; a name that is no proctype's is refused by itself
abbrev pub proctype_of : Globals → List Slot → List ℕ → ℕ
proctype_of gs ls n = if is_some (variable_named ls n) then 0 else unwrap_or (proctype_named 0 gs.text n) 0

-- what a `run` stands for: its arguments, and its proctype by its number
pub data StandsRun (gs : Globals) (ls : List Slot) : TreeRun → Run → Type 0 where
  run : {q : TreeRun} {xs : List Expr} → AllZip (StandsExpr gs ls) q.arguments xs
      → StandsRun gs ls q (record { proctype = proctype_of gs ls q.name.text; arguments = xs })

-- what a statement without a structure stands for
pub data StandsAction (gs : Globals) (ls : List Slot) : TreeAction → Action → Type 0 where
  otherwise : StandsAction gs ls t.Else a.Else
  assign : {r : Reference} {m : Meaning} {e : TreeExpr} {x : Expr}
      → StandsReference gs ls r m → StandsExpr gs ls e x → StandsAction gs ls (t.Assign r e) (a.Assign (as_store m) x)
  assign_run : {r : Reference} {m : Meaning} {q : TreeRun} {p : Run}
      → StandsReference gs ls r m → StandsRun gs ls q p → StandsAction gs ls (t.AssignRun r q) (a.AssignRun (as_store m) p)
  increment : {r : Reference} {m : Meaning} → StandsReference gs ls r m → StandsAction gs ls (t.Increment r) (a.Increment (as_place m))
  decrement : {r : Reference} {m : Meaning} → StandsReference gs ls r m → StandsAction gs ls (t.Decrement r) (a.Decrement (as_place m))
  run_alone : {q : TreeRun} {p : Run} → StandsRun gs ls q p → StandsAction gs ls (t.Run q) (a.Run p)
  send : {r : Reference} {m : Meaning} {order : SendOrder} {es : List TreeExpr} {xs : List Expr}
      → StandsReference gs ls r m → AllZip (StandsExpr gs ls) es xs → StandsAction gs ls (t.Send r order es) (a.Send (as_place m) order xs)
  receive : {r : Reference} {m : Meaning} {look : Search} {how : Removal} {qs : List Argument} {ws : List Want}
      → StandsReference gs ls r m → StandsArguments gs ls qs ws
      → StandsAction gs ls (t.Receive r look how qs) (a.Receive (as_place m) look how ws)
  printf : {s : Word} {es : List TreeExpr} {xs : List Expr} → AllZip (StandsExpr gs ls) es xs → StandsAction gs ls (t.Printf s es) (a.Printf s xs)
  printm : {e : TreeExpr} {x : Expr} → StandsExpr gs ls e x → StandsAction gs ls (t.Printm e) (a.Printm x)
  assert : {e : TreeExpr} {x : Expr} → StandsExpr gs ls e x → StandsAction gs ls (t.Assert e) (a.Assert x)
  holds : {e : TreeExpr} {x : Expr} → StandsExpr gs ls e x → StandsAction gs ls (t.Holds e) (a.Holds x)

-- ---- bodies

mutual
  -- an item without its labels: none for what takes no step
  pub data StandsBasic (gs : Globals) : List Slot → TreeBasic → Option Basic → List Slot → Type 0 where
    declare : {ls zs : List Slot} {vs : List Variable} → StandsVariables gs role.Variable ls vs zs → StandsBasic gs ls (form.Declare vs) None zs
    exclusive : {ls : List Slot} {rs : List Reference} → StandsBasic gs ls (form.Exclusive rs) None ls
    plain : {ls : List Slot} {x : TreeAction} {y : Action} → StandsAction gs ls x y → StandsBasic gs ls (form.Plain x) (Some (b.Plain y)) ls
    goto : {ls : List Slot} {l : Word} → StandsBasic gs ls (form.Goto l) (Some (b.Goto l)) ls
    break : {ls : List Slot} → StandsBasic gs ls form.Break (Some b.Break) ls
    if_fi : {ls zs : List Slot} {ss : List TreeSeq} {xs : List Seq}
        → StandsOptions gs ls ss xs zs → StandsBasic gs ls (form.If ss) (Some (b.If xs)) zs
    do_od : {ls zs : List Slot} {ss : List TreeSeq} {xs : List Seq}
        → StandsOptions gs ls ss xs zs → StandsBasic gs ls (form.Do ss) (Some (b.Do xs)) zs
    block : {ls zs : List Slot} {s : TreeSeq} {x : Seq} → StandsSeq gs ls s x zs → StandsBasic gs ls (form.Block s) (Some (b.Block x)) zs
    atomic : {ls zs : List Slot} {s : TreeSeq} {x : Seq} → StandsSeq gs ls s x zs → StandsBasic gs ls (form.Atomic s) (Some (b.Atomic x)) zs
    d_step : {ls zs : List Slot} {s : TreeSeq} {x : Seq} → StandsSeq gs ls s x zs → StandsBasic gs ls (form.DStep s) (Some (b.DStep x)) zs
    -- the main part, and then the escape
    unless : {ls ms zs : List Slot} {s e : TreeSeq} {x y : Seq}
        → StandsSeq gs ls s x ms → StandsSeq gs ms e y zs → StandsBasic gs ls (form.Unless s e) (Some (b.Unless x y)) zs

  pub data StandsItems (gs : Globals) : List Slot → List Item → List Stmt → List Slot → Type 0 where
    no_item : {ls : List Slot} → StandsItems gs ls [] [] ls
    no_step : {ls ms zs : List Slot} {labels tokens : List Word} {x : TreeBasic} {is : List Item} {ys : List Stmt}
        → StandsBasic gs ls x None ms → StandsItems gs ms is ys zs → StandsItems gs ls (item_of labels x tokens ∷ is) ys zs
    one_step : {ls ms zs : List Slot} {labels tokens : List Word} {x : TreeBasic} {y : Basic} {is : List Item} {ys : List Stmt}
        → StandsBasic gs ls x (Some y) ms → StandsItems gs ms is ys zs
        → StandsItems gs ls (item_of labels x tokens ∷ is) (roll-Stmt (record { labels = labels; basic = y; tokens = tokens }) ∷ ys) zs

  pub data StandsSeq (gs : Globals) : List Slot → TreeSeq → Seq → List Slot → Type 0 where
    sequence : {ls zs : List Slot} {is : List Item} {ys : List Stmt} → StandsItems gs ls is ys zs → StandsSeq gs ls (seq_of is) (roll-Seq (record { steps = ys })) zs

  pub data StandsOptions (gs : Globals) : List Slot → List TreeSeq → List Seq → List Slot → Type 0 where
    no_option : {ls : List Slot} → StandsOptions gs ls [] [] ls
    option : {ls ms zs : List Slot} {s : TreeSeq} {ss : List TreeSeq} {x : Seq} {xs : List Seq}
        → StandsSeq gs ls s x ms → StandsOptions gs ms ss xs zs → StandsOptions gs ls (s ∷ ss) (x ∷ xs) zs

-- ---- a whole tree, by cases on its units

-- Global variables, from these globals to those. Of two declarations of one name the first counts.
pub data StandsGlobals : Globals → List Variable → Globals → Type 0 where
  no_global : {gs : Globals} → StandsGlobals gs [] gs
  new_global : {gs zs : Globals} {v : Variable} {vs : List Variable} {s : Slot} → is_declared gs v.name.text ≡ false
      → StandsVariable gs [] gs.variables v s → StandsGlobals (record gs { variables = gs.variables ++ s ∷ [] }) vs zs
      → StandsGlobals gs (v ∷ vs) zs
  old_global : {gs zs : Globals} {v : Variable} {vs : List Variable} → is_declared gs v.name.text ≡ true
      → StandsGlobals gs vs zs → StandsGlobals gs (v ∷ vs) zs

-- how many processes begin
abbrev pub beginning : Starts → ℕ
beginning starts.Never = 0
beginning starts.Once = 1
beginning (starts.Times e) = count_of (constant e)

-- The units, the first with the number o: from these globals to those, with their mtype names, typedefs and proctypes. A list of
-- mtype names is numbered from its last to its first. A proctype is declared before its body, and a typedef behind its fields.
pub data StandsUnits : ℕ → Globals → List Part → Globals → List Word → List Fields → List Proctype → Type 0 where
  no_unit : {o : ℕ} {gs : Globals} → StandsUnits o gs [] gs [] [] []
  variables : {o : ℕ} {gs ms zs : Globals} {vs : List Variable} {us : List Part} {cs : List Word} {ts : List Fields} {ps : List Proctype}
      → StandsGlobals gs vs ms → StandsUnits (o + 1) ms us zs cs ts ps → StandsUnits o gs (part.Variables vs ∷ us) zs cs ts ps
  constants : {o : ℕ} {gs zs : Globals} {ns : List Word} {us : List Part} {cs : List Word} {ts : List Fields} {ps : List Proctype}
      → StandsUnits (o + 1) (fold with_constant gs (reverse ns)) us zs cs ts ps
      → StandsUnits o gs (part.Constants ns ∷ us) zs (reverse ns ++ cs) ts ps
  typedef : {o : ℕ} {gs zs : Globals} {t : Word} {vs : List Variable} {fs : List Slot} {us : List Part}
      {cs : List Word} {ts : List Fields} {ps : List Proctype}
      → StandsVariables gs role.Field [] vs fs
      → StandsUnits (o + 1) (with_typedef gs (record { name = t; number = o; fields = fs })) us zs cs ts ps
      → StandsUnits o gs (part.Typedef t vs ∷ us) zs cs (record { owner = o; fields = fs } ∷ ts) ps
  proctype : {o : ℕ} {gs zs : Globals} {p : TreeProctype} {ms ls : List Slot} {x : Seq} {us : List Part}
      {cs : List Word} {ts : List Fields} {ps : List Proctype}
      → StandsVariables (with_proctype gs p.name) role.Variable [] p.parameters ms → StandsSeq (with_proctype gs p.name) ms p.body x ls
      → StandsUnits (o + 1) (with_proctype gs p.name) us zs cs ts ps
      → StandsUnits o gs (part.Proctype p ∷ us) zs cs ts (record {
        name = p.name;
        owner = o;
        starts = beginning p.starts;
        parameters = length p.parameters;
        variables = ls;
        body = x;
        end = p.end;
      } ∷ ps)

-- a tree stands for a checked model
pub data StandsModel : Tree → Program → Type 0 where
  model : {t : Tree} {zs : Globals} {cs : List Word} {ts : List Fields} {ps : List Proctype}
      → StandsUnits 1 (record { text = t.units; variables = []; constants = []; typedefs = []; proctypes = [] }) t.units zs cs ts ps
      → StandsModel t (record { globals = zs.variables; constants = cs; typedefs = ts; proctypes = ps })
