-- Whether all that a tree's statements hold is filled, and that what it stands for is.
use Rattle.std.proofs.Common.{◌≡◌, ◌∙◌, ap, sym, subst, refl, Bool, true, false, ◌&&◌, ◌||◌, List, [], ◌∷◌, map, Option, Some, None}
use Rattle.std.proofs.lemmas.Bool.{true≢false, and_parts}
use Rattle.std.proofs.lemmas.Option.{none-some}
use mathlib.Core.Former.{Count}
use denote.Hole.Carrier.{roll}
use Rattle.pml_token.specs.Word.{Word}
use Rattle.pml_tree.specs.declared.tree.Action.{Action}
use Rattle.pml_tree.specs.declared.tree.Reference.{Reference}
use Rattle.pml_tree.specs.declared.tree.Variable.{Variable}
use Rattle.pml_tree.specs.declared.tree.Basic.{Basic as TreeBasic, Basic-F, map-Basic, roll-Basic, fold-Basic, fold-roll-Basic}
use Rattle.pml_tree.specs.declared.tree.Basic.TheVariants as form
use Rattle.pml_tree.specs.declared.tree.Item.{Item, Item-F, fold-Item, fold-roll-Item}
use Rattle.pml_tree.specs.declared.tree.Seq.{Seq as TreeSeq, Seq-F, fold-Seq, fold-roll-Seq}
use Rattle.pml_program.specs.declared.program.Slot.{Slot}
use Rattle.pml_program.specs.declared.program.Basic.{Basic, If, If', Do, Do', Row_of-Seq, end_of-Seq, more_of-Seq, items-the_row-Seq, items_hidden-the_row-Seq-0}
use Rattle.pml_program.specs.declared.program.Basic.TheBlock.{shape-the_row-Stmt-1}
use Rattle.pml_program.specs.declared.program.Stmt.{Stmt}
use Rattle.pml_program.specs.declared.program.Seq.{Seq, Seq', Row_of-Stmt, end_of-Stmt, more_of-Stmt, items-the_row-Stmt, roll-Seq, items_hidden-the_row-Stmt-1}
use Rattle.promela_process.specs.Control.{steps}
use Rattle.promela_model.specs.Stands.{Globals}
use Rattle.promela_model.specs.StandsModel as stands
use Rattle.promela_model.specs.StandsModel.{StandsBasic, StandsItems, StandsSeq, StandsOptions}
use Rattle.promela_grammar.specs.Actions.{item_of, seq_of}
use Rattle.view_waits.specs.Filled.{IsFilled, HasSteps, SomeSteps, EachStep, HasOptions, EachOption, IsFilledBody}

-- ---- a tree

-- whether it has a statement or is one, and whether what is in it is filled
abbrev pub Code : Type 0
Code = Bool × Bool

abbrev pub good : Code → Bool
good c = c.0 && c.1

abbrev pub has_step : List Code → Bool
has_step [] = false
has_step (c ∷ cs) = c.0 || has_step cs

abbrev pub all_filled : List Code → Bool
all_filled [] = true
all_filled (c ∷ cs) = c.1 && all_filled cs

abbrev pub all_good : List Code → Bool
all_good [] = true
all_good (c ∷ cs) = good c && all_good cs

abbrev pub some_good : List Code → Bool
some_good [] = false
some_good (c ∷ cs) = good c && all_good cs

abbrev basic_code : Basic-F Code Code Code → Code
basic_code (Basic-F.Declare vs) = (false, true)
basic_code (Basic-F.Exclusive rs) = (false, true)
basic_code (Basic-F.Plain x) = (true, true)
basic_code (Basic-F.Goto l) = (true, true)
basic_code Basic-F.Break = (true, true)
basic_code (Basic-F.If cs) = (true, some_good cs)
basic_code (Basic-F.Do cs) = (true, some_good cs)
basic_code (Basic-F.Block c) = (true, good c)
basic_code (Basic-F.Atomic c) = (true, good c)
basic_code (Basic-F.DStep c) = (true, good c)
basic_code (Basic-F.Unless c d) = (true, good c && good d)

abbrev item_code : Item-F Code Code Code → Code
item_code i = i.basic

abbrev seq_code : Seq-F Code Code Code → Code
seq_code s = (has_step s.items, all_filled s.items)

abbrev pub tree_basic : TreeBasic → Code
tree_basic = fold-Basic Code Code Code basic_code item_code seq_code

abbrev pub tree_item : Item → Code
tree_item = fold-Item Code Code Code basic_code item_code seq_code

abbrev pub tree_seq : TreeSeq → Code
tree_seq = fold-Seq Code Code Code basic_code item_code seq_code

basic-is : (x : TreeBasic) (y : Basic-F TreeBasic Item TreeSeq) → roll-Basic y ≡ x → tree_basic x ≡ basic_code (map-Basic TreeBasic Item TreeSeq Code Code Code tree_basic tree_item tree_seq y)
basic-is x y is = ap tree_basic (sym is) ∙ fold-roll-Basic Code Code Code basic_code item_code seq_code y

pub item-is : (labels : List Word) (x : TreeBasic) (tokens : List Word) → tree_item (item_of labels x tokens) ≡ tree_basic x
item-is labels x tokens = fold-roll-Item Code Code Code basic_code item_code seq_code (record { labels = labels; basic = x; tokens = tokens })

pub seq-is : (is : List Item) → tree_seq (seq_of is) ≡ (has_step (map tree_item is), all_filled (map tree_item is))
seq-is is = fold-roll-Seq Code Code Code basic_code item_code seq_code (record { items = is })

pub declare-is : (vs : List Variable) → tree_basic (form.Declare vs) ≡ (false, true)
declare-is vs = basic-is (form.Declare vs) (Basic-F.Declare vs) (form.rolls-Declare vs)

pub exclusive-is : (rs : List Reference) → tree_basic (form.Exclusive rs) ≡ (false, true)
exclusive-is rs = basic-is (form.Exclusive rs) (Basic-F.Exclusive rs) (form.rolls-Exclusive rs)

pub plain-is : (x : Action) → tree_basic (form.Plain x) ≡ (true, true)
plain-is x = basic-is (form.Plain x) (Basic-F.Plain x) (form.rolls-Plain x)

pub goto-is : (l : Word) → tree_basic (form.Goto l) ≡ (true, true)
goto-is l = basic-is (form.Goto l) (Basic-F.Goto l) (form.rolls-Goto l)

pub break-is : tree_basic form.Break ≡ (true, true)
break-is = basic-is form.Break Basic-F.Break form.rolls-Break

pub if-is : (ss : List TreeSeq) → tree_basic (form.If ss) ≡ (true, some_good (map tree_seq ss))
if-is ss = basic-is (form.If ss) (Basic-F.If ss) (form.rolls-If ss)

pub do-is : (ss : List TreeSeq) → tree_basic (form.Do ss) ≡ (true, some_good (map tree_seq ss))
do-is ss = basic-is (form.Do ss) (Basic-F.Do ss) (form.rolls-Do ss)

pub block-is : (s : TreeSeq) → tree_basic (form.Block s) ≡ (true, good (tree_seq s))
block-is s = basic-is (form.Block s) (Basic-F.Block s) (form.rolls-Block s)

pub atomic-is : (s : TreeSeq) → tree_basic (form.Atomic s) ≡ (true, good (tree_seq s))
atomic-is s = basic-is (form.Atomic s) (Basic-F.Atomic s) (form.rolls-Atomic s)

pub d_step-is : (s : TreeSeq) → tree_basic (form.DStep s) ≡ (true, good (tree_seq s))
d_step-is s = basic-is (form.DStep s) (Basic-F.DStep s) (form.rolls-DStep s)

pub unless-is : (s e : TreeSeq) → tree_basic (form.Unless s e) ≡ (true, good (tree_seq s) && good (tree_seq e))
unless-is s e = basic-is (form.Unless s e) (Basic-F.Unless s e) (form.rolls-Unless s e)

-- ---- statements and options in a list

abbrev EachOf : List Stmt → Type 0
EachOf [] = Unit {0}
EachOf (s ∷ ss) = IsFilled s.basic × EachOf ss

abbrev SomeOf : List Stmt → Type 0
SomeOf [] = ⊥
SomeOf (s ∷ ss) = IsFilled s.basic × EachOf ss

abbrev EachIn : List Seq → Type 0
EachIn [] = Unit {0}
EachIn (s ∷ ss) = HasSteps s × EachIn ss

abbrev SomeIn : List Seq → Type 0
SomeIn [] = ⊥
SomeIn (s ∷ ss) = HasSteps s × EachIn ss

row_each : {n : _} (row : Row_of-Stmt n) → EachOf (items-the_row-Stmt _ row) → EachStep row
row_each end_of-Stmt h = tt
row_each (more_of-Stmt ls s ts rest) h = (h.0, row_each rest h.1)

row_some : {n : _} (row : Row_of-Stmt n) → SomeOf (items-the_row-Stmt _ row) → SomeSteps row
row_some end_of-Stmt h = absurd h
row_some (more_of-Stmt ls s ts rest) h = (h.0, row_each rest h.1)

options_each : {n : _} (row : Row_of-Seq n) → EachIn (items-the_row-Seq _ row) → EachOption row
options_each end_of-Seq h = tt
options_each (more_of-Seq s rest) h = (h.0, options_each rest h.1)

options_some : {n : _} (row : Row_of-Seq n) → SomeIn (items-the_row-Seq _ row) → HasOptions row
options_some end_of-Seq h = absurd h
options_some (more_of-Seq s rest) h = (h.0, options_each rest h.1)

steps_some : (s : Seq) → SomeOf (steps s) → HasSteps s
steps_some (Seq' m row) h = row_some row h

steps_each : (s : Seq) → EachOf (steps s) → IsFilledBody s
steps_each (Seq' m row) h = row_each row h

-- statements of the model, one behind another
abbrev steps_of : List Stmt → Seq
steps_of xs = roll-Seq (record { steps = xs })

seq_some : (ys : List Stmt) → SomeOf ys → HasSteps (steps_of ys)
unfolding roll-Seq roll shape-the_row-Stmt-1
seq_some ys h = steps_some (steps_of ys) (subst SomeOf (sym (items_hidden-the_row-Stmt-1 ys)) h)

seq_each : (ys : List Stmt) → EachOf ys → IsFilledBody (steps_of ys)
unfolding roll-Seq roll shape-the_row-Stmt-1
seq_each ys h = steps_each (steps_of ys) (subst EachOf (sym (items_hidden-the_row-Stmt-1 ys)) h)

-- the options of a choice, as a row
abbrev row_of : Basic → (n : Count) × Row_of-Seq n
row_of (If' m row) = (_, row)
row_of (Do' m row) = (_, row)
row_of s = (_, end_of-Seq)

if_some : (ss : List Seq) → SomeIn ss → IsFilled (If ss)
if_some ss h = options_some (row_of (If ss)).1 (subst SomeIn (sym (items_hidden-the_row-Seq-0 ss)) h)

do_some : (ss : List Seq) → SomeIn ss → IsFilled (Do ss)
do_some ss h = options_some (row_of (Do ss)).1 (subst SomeIn (sym (items_hidden-the_row-Seq-0 ss)) h)

-- ---- what a tree stands for

abbrev OfSome : Option Basic → Type 0
OfSome None = Unit {0}
OfSome (Some y) = IsFilled y

-- the second of two that are known
second : (c : Code) (a b : Bool) → c ≡ (a, b) → c.1 ≡ true → b ≡ true
second c a b is h = sym (ap (λ (d : Code). d.1) is) ∙ h

module _ (gs : Globals) where
  -- what stands for nothing is no statement
  no_statement : {ls zs : List Slot} {x : TreeBasic} {y : Option Basic} → StandsBasic gs ls x y zs → y ≡ None → (tree_basic x).0 ≡ false
  no_statement (stands.declare {vs} h) e = ap (λ (c : Code). c.0) (declare-is vs)
  no_statement (stands.exclusive {rs}) e = ap (λ (c : Code). c.0) (exclusive-is rs)
  no_statement (stands.plain h) e = absurd (none-some _ (sym e))
  no_statement (stands.goto {l}) e = absurd (none-some _ (sym e))
  no_statement stands.break e = absurd (none-some _ (sym e))
  no_statement (stands.if_fi h) e = absurd (none-some _ (sym e))
  no_statement (stands.do_od h) e = absurd (none-some _ (sym e))
  no_statement (stands.block h) e = absurd (none-some _ (sym e))
  no_statement (stands.atomic h) e = absurd (none-some _ (sym e))
  no_statement (stands.d_step h) e = absurd (none-some _ (sym e))
  no_statement (stands.unless h k) e = absurd (none-some _ (sym e))

  mutual
    basic_filled : {ls zs : List Slot} {x : TreeBasic} {y : Option Basic} → StandsBasic gs ls x y zs → (tree_basic x).1 ≡ true → OfSome y
    basic_filled (stands.declare h) f = tt
    basic_filled stands.exclusive f = tt
    basic_filled (stands.plain h) f = tt
    basic_filled (stands.goto {l}) f = tt
    basic_filled stands.break f = tt
    basic_filled (stands.if_fi {ss} {xs} h) f = if_some xs (some_filled h (second (tree_basic (form.If ss)) true (some_good (map tree_seq ss)) (if-is ss) f))
    basic_filled (stands.do_od {ss} {xs} h) f = do_some xs (some_filled h (second (tree_basic (form.Do ss)) true (some_good (map tree_seq ss)) (do-is ss) f))
    basic_filled (stands.block {s} h) f = seq_filled h (second (tree_basic (form.Block s)) true (good (tree_seq s)) (block-is s) f)
    basic_filled (stands.atomic {s} h) f = seq_filled h (second (tree_basic (form.Atomic s)) true (good (tree_seq s)) (atomic-is s) f)
    basic_filled (stands.d_step {s} h) f = seq_filled h (second (tree_basic (form.DStep s)) true (good (tree_seq s)) (d_step-is s) f)
    basic_filled (stands.unless {s} {e} h k) f =
        let g = and_parts (good (tree_seq s)) (good (tree_seq e)) (second (tree_basic (form.Unless s e)) true (good (tree_seq s) && good (tree_seq e)) (unless-is s e) f) in
        (seq_filled h g.0, seq_filled k g.1)

    items_each : {ls zs : List Slot} {is : List Item} {ys : List Stmt} → StandsItems gs ls is ys zs → all_filled (map tree_item is) ≡ true → EachOf ys
    items_each stands.no_item f = tt
    items_each (stands.no_step {labels} {tokens} {x} {is} h k) f =
        items_each k (and_parts (tree_item (item_of labels x tokens)).1 (all_filled (map tree_item is)) f).1
    items_each (stands.one_step {labels} {tokens} {x} {is} h k) f =
        let g = and_parts (tree_item (item_of labels x tokens)).1 (all_filled (map tree_item is)) f in
        (basic_filled h (ap (λ (c : Code). c.1) (sym (item-is labels x tokens)) ∙ g.0), items_each k g.1)

    items_some : {ls zs : List Slot} {is : List Item} {ys : List Stmt} → StandsItems gs ls is ys zs → has_step (map tree_item is) ≡ true → all_filled (map tree_item is) ≡ true → SomeOf ys
    items_some stands.no_item s f = absurd (true≢false (sym s))
    items_some (stands.no_step {labels} {tokens} {x} {is} h k) s f =
        let nothing : (tree_item (item_of labels x tokens)).0 ≡ false = ap (λ (c : Code). c.0) (item-is labels x tokens) ∙ no_statement h refl in
        items_some k (ap (λ (c : Bool). c || has_step (map tree_item is)) (sym nothing) ∙ s) (and_parts (tree_item (item_of labels x tokens)).1 (all_filled (map tree_item is)) f).1
    items_some (stands.one_step {labels} {tokens} {x} {is} h k) s f =
        let g = and_parts (tree_item (item_of labels x tokens)).1 (all_filled (map tree_item is)) f in
        (basic_filled h (ap (λ (c : Code). c.1) (sym (item-is labels x tokens)) ∙ g.0), items_each k g.1)

    seq_filled : {ls zs : List Slot} {s : TreeSeq} {x : Seq} → StandsSeq gs ls s x zs → good (tree_seq s) ≡ true → HasSteps x
    seq_filled (stands.sequence {is} {ys} h) f =
        let g = and_parts (has_step (map tree_item is)) (all_filled (map tree_item is)) (ap good (sym (seq-is is)) ∙ f) in
        seq_some ys (items_some h g.0 g.1)

    some_filled : {ls zs : List Slot} {ss : List TreeSeq} {xs : List Seq} → StandsOptions gs ls ss xs zs → some_good (map tree_seq ss) ≡ true → SomeIn xs
    some_filled stands.no_option f = absurd (true≢false (sym f))
    some_filled (stands.option {s} {ss} h k) f = let g = and_parts (good (tree_seq s)) (all_good (map tree_seq ss)) f in (seq_filled h g.0, each_filled k g.1)

    each_filled : {ls zs : List Slot} {ss : List TreeSeq} {xs : List Seq} → StandsOptions gs ls ss xs zs → all_good (map tree_seq ss) ≡ true → EachIn xs
    each_filled stands.no_option f = tt
    each_filled (stands.option {s} {ss} h k) f = let g = and_parts (good (tree_seq s)) (all_good (map tree_seq ss)) f in (seq_filled h g.0, each_filled k g.1)

  -- a body, which may have no statement
  pub body_filled : {ls zs : List Slot} {s : TreeSeq} {x : Seq} → StandsSeq gs ls s x zs → (tree_seq s).1 ≡ true → IsFilledBody x
  body_filled (stands.sequence {is} {ys} h) f = seq_each ys (items_each h (ap (λ (c : Code). c.1) (sym (seq-is is)) ∙ f))
