-- How much a tree weighs: no less than what it stands for.
use Rattle.std.proofs.Common.{◌≡◌, ℕ, ◌+◌, ◌≤◌, List, [], ◌∷◌, map, Option, Some, None, sym, ap, ◌∙◌, arith}
use denote.Hole.Carrier.{roll}
use Rattle.pml_token.specs.Word.{Word}
use Rattle.pml_tree.specs.declared.tree.Action.{Action}
use Rattle.pml_tree.specs.declared.tree.Reference.{Reference}
use Rattle.pml_tree.specs.declared.tree.Variable.{Variable}
use Rattle.pml_tree.specs.declared.tree.Basic.{Basic as TreeBasic, Basic-F, map-Basic, roll-Basic, fold-Basic, fold-roll-Basic}
use Rattle.pml_tree.specs.declared.tree.Basic.TheVariants as form
use Rattle.pml_tree.specs.declared.tree.Item.{Item, Item-F, fold-Item, fold-roll-Item}
use Rattle.pml_tree.specs.declared.tree.Seq.{Seq as TreeSeq, Seq-F, fold-Seq, fold-roll-Seq}
use Rattle.pml_program.specs.declared.program.Slot.{Slot}
use Rattle.pml_program.specs.declared.program.Basic.{Basic}
use Rattle.pml_program.specs.declared.program.Basic.TheBlock.{shape-the_row-Stmt-1}
use Rattle.pml_program.specs.declared.program.Stmt.{Stmt}
use Rattle.pml_program.specs.declared.program.Seq.{Seq, roll-Seq, items_hidden-the_row-Stmt-1}
use Rattle.promela_process.specs.Offers.{first_line}
use Rattle.promela_model.specs.Stands.{Globals}
use Rattle.promela_model.specs.StandsModel as stands
use Rattle.promela_model.specs.StandsModel.{StandsBasic, StandsItems, StandsSeq, StandsOptions}
use Rattle.promela_grammar.specs.Actions.{item_of, seq_of}
use Rattle.pml_sim.proofs.Weight.{weight_in, weight_part, weight_list, weight_parts, weight_if, weight_do, part_list}

abbrev pub total : List ℕ → ℕ
total [] = 0
total (n ∷ ns) = n + total ns

-- ---- one for each statement, and its line

abbrev basic_weight : Basic-F ℕ ℕ ℕ → ℕ
basic_weight (Basic-F.Declare vs) = 0
basic_weight (Basic-F.Exclusive rs) = 0
basic_weight (Basic-F.Plain x) = 1
basic_weight (Basic-F.Goto l) = 1
basic_weight Basic-F.Break = 1
basic_weight (Basic-F.If ns) = total ns + 1
basic_weight (Basic-F.Do ns) = total ns + 1
basic_weight (Basic-F.Block n) = n + 1
basic_weight (Basic-F.Atomic n) = n + 1
basic_weight (Basic-F.DStep n) = n + 1
basic_weight (Basic-F.Unless n k) = n + k + 1

abbrev item_weight : Item-F ℕ ℕ ℕ → ℕ
item_weight i = first_line i.tokens 0 + i.basic

abbrev seq_weight : Seq-F ℕ ℕ ℕ → ℕ
seq_weight s = total s.items

abbrev pub tree_basic : TreeBasic → ℕ
tree_basic = fold-Basic ℕ ℕ ℕ basic_weight item_weight seq_weight

abbrev pub tree_item : Item → ℕ
tree_item = fold-Item ℕ ℕ ℕ basic_weight item_weight seq_weight

abbrev pub tree_seq : TreeSeq → ℕ
tree_seq = fold-Seq ℕ ℕ ℕ basic_weight item_weight seq_weight

basic-is : (x : TreeBasic) (y : Basic-F TreeBasic Item TreeSeq) → roll-Basic y ≡ x → tree_basic x ≡ basic_weight (map-Basic TreeBasic Item TreeSeq ℕ ℕ ℕ tree_basic tree_item tree_seq y)
basic-is x y is = ap tree_basic (sym is) ∙ fold-roll-Basic ℕ ℕ ℕ basic_weight item_weight seq_weight y

pub item-is : (labels : List Word) (x : TreeBasic) (tokens : List Word) → tree_item (item_of labels x tokens) ≡ first_line tokens 0 + tree_basic x
item-is labels x tokens = fold-roll-Item ℕ ℕ ℕ basic_weight item_weight seq_weight (record { labels = labels; basic = x; tokens = tokens })

pub seq-is : (is : List Item) → tree_seq (seq_of is) ≡ total (map tree_item is)
seq-is is = fold-roll-Seq ℕ ℕ ℕ basic_weight item_weight seq_weight (record { items = is })

pub declare-is : (vs : List Variable) → tree_basic (form.Declare vs) ≡ 0
declare-is vs = basic-is (form.Declare vs) (Basic-F.Declare vs) (form.rolls-Declare vs)

pub exclusive-is : (rs : List Reference) → tree_basic (form.Exclusive rs) ≡ 0
exclusive-is rs = basic-is (form.Exclusive rs) (Basic-F.Exclusive rs) (form.rolls-Exclusive rs)

pub plain-is : (x : Action) → tree_basic (form.Plain x) ≡ 1
plain-is x = basic-is (form.Plain x) (Basic-F.Plain x) (form.rolls-Plain x)

pub goto-is : (l : Word) → tree_basic (form.Goto l) ≡ 1
goto-is l = basic-is (form.Goto l) (Basic-F.Goto l) (form.rolls-Goto l)

pub break-is : tree_basic form.Break ≡ 1
break-is = basic-is form.Break Basic-F.Break form.rolls-Break

pub if-is : (ss : List TreeSeq) → tree_basic (form.If ss) ≡ total (map tree_seq ss) + 1
if-is ss = basic-is (form.If ss) (Basic-F.If ss) (form.rolls-If ss)

pub do-is : (ss : List TreeSeq) → tree_basic (form.Do ss) ≡ total (map tree_seq ss) + 1
do-is ss = basic-is (form.Do ss) (Basic-F.Do ss) (form.rolls-Do ss)

pub block-is : (s : TreeSeq) → tree_basic (form.Block s) ≡ tree_seq s + 1
block-is s = basic-is (form.Block s) (Basic-F.Block s) (form.rolls-Block s)

pub atomic-is : (s : TreeSeq) → tree_basic (form.Atomic s) ≡ tree_seq s + 1
atomic-is s = basic-is (form.Atomic s) (Basic-F.Atomic s) (form.rolls-Atomic s)

pub d_step-is : (s : TreeSeq) → tree_basic (form.DStep s) ≡ tree_seq s + 1
d_step-is s = basic-is (form.DStep s) (Basic-F.DStep s) (form.rolls-DStep s)

pub unless-is : (s e : TreeSeq) → tree_basic (form.Unless s e) ≡ tree_seq s + tree_seq e + 1
unless-is s e = basic-is (form.Unless s e) (Basic-F.Unless s e) (form.rolls-Unless s e)

-- ---- what it stands for

abbrev weight_of : Option Basic → ℕ
weight_of None = 0
weight_of (Some y) = weight_in y

-- statements of the model, one behind another
abbrev steps_of : List Stmt → Seq
steps_of xs = roll-Seq (record { steps = xs })

seq_list : (ys : List Stmt) → weight_part (steps_of ys) ≡ weight_list ys
unfolding roll-Seq roll shape-the_row-Stmt-1
seq_list ys = part_list (steps_of ys) ∙ ap weight_list (items_hidden-the_row-Stmt-1 ys)

module _ (gs : Globals) where
  mutual
    basic_weighs : {ls zs : List Slot} {x : TreeBasic} {y : Option Basic} → StandsBasic gs ls x y zs → weight_of y ≤ tree_basic x
    basic_weighs (stands.declare h) = omega arith
    basic_weighs stands.exclusive = omega arith
    basic_weighs (stands.plain {x} h) = omega (arith, plain-is x)
    basic_weighs (stands.goto {l}) = omega (arith, goto-is l)
    basic_weighs stands.break = omega (arith, break-is)
    basic_weighs (stands.if_fi {ss} {xs} h) = omega (arith, if-is ss, weight_if xs, options_weigh h)
    basic_weighs (stands.do_od {ss} {xs} h) = omega (arith, do-is ss, weight_do xs, options_weigh h)
    basic_weighs (stands.block {s} h) = omega (arith, block-is s, seq_weighs h)
    basic_weighs (stands.atomic {s} h) = omega (arith, atomic-is s, seq_weighs h)
    basic_weighs (stands.d_step {s} h) = omega (arith, d_step-is s, seq_weighs h)
    basic_weighs (stands.unless {s} {e} h k) = omega (arith, unless-is s e, seq_weighs h, seq_weighs k)

    items_weigh : {ls zs : List Slot} {is : List Item} {ys : List Stmt} → StandsItems gs ls is ys zs → weight_list ys ≤ total (map tree_item is)
    items_weigh stands.no_item = omega arith
    items_weigh (stands.no_step h k) = omega (arith, items_weigh k)
    items_weigh (stands.one_step {labels} {tokens} {x} h k) = omega (arith, item-is labels x tokens, basic_weighs h, items_weigh k)

    pub seq_weighs : {ls zs : List Slot} {s : TreeSeq} {x : Seq} → StandsSeq gs ls s x zs → weight_part x ≤ tree_seq s
    seq_weighs (stands.sequence {is} {ys} h) = omega (arith, seq-is is, seq_list ys, items_weigh h)

    options_weigh : {ls zs : List Slot} {ss : List TreeSeq} {xs : List Seq} → StandsOptions gs ls ss xs zs → weight_parts xs ≤ total (map tree_seq ss)
    options_weigh stands.no_option = omega arith
    options_weigh (stands.option h k) = omega (arith, seq_weighs h, options_weigh k)
