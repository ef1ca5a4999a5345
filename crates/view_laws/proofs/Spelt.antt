-- What is spelled is filled: the grammar asks for a statement in each sequence, and for an option.
use Rattle.std.proofs.Common.{◌≡◌, ◌∙◌, ap, refl, Bool, true, false, ◌&&◌, ◌||◌, List, [], ◌∷◌, ◌++◌, map}
use Rattle.std.specs.List.{AllByRecursion}
use Rattle.std.proofs.lemmas.Bool.{and_parts}
use Rattle.pml_token.specs.Word.{Word}
use Rattle.pml_tree.specs.declared.tree.Basic.{Basic}
use Rattle.pml_tree.specs.declared.tree.Basic.TheVariants as b
use Rattle.pml_tree.specs.declared.tree.Action.TheVariants as a
use Rattle.pml_tree.specs.declared.tree.Item.{Item}
use Rattle.pml_tree.specs.declared.tree.Seq.{Seq}
use Rattle.pml_tree.specs.declared.tree.Unit.{Unit as Part}
use Rattle.pml_tree.specs.declared.tree.Tree.{Tree}
use Rattle.promela_grammar.specs.declared.range.Range.{Range}
use Rattle.promela_grammar.specs.Models as bodies
use Rattle.promela_grammar.specs.Actions.{item_of, seq_of}
use Rattle.promela_grammar.specs.Models.{SpellsBasic, SpellsStatement, SpellsItem, SpellsItems, SpellsOptions, SpellsBody, for_of, select_of, for_on, for_out, select_on, select_out, setting, raising, otherwise_item, breaking, turning, SpellsUnit, SpellsUnits, Spells}
use Rattle.pml_program.specs.declared.program.Fields.{Fields}
use Rattle.pml_program.specs.declared.program.Proctype.{Proctype}
use Rattle.pml_program.specs.declared.program.Program.{Program}
use Rattle.promela_model.specs.Stands.{Globals}
use Rattle.promela_model.specs.StandsModel as stands
use Rattle.promela_model.specs.StandsModel.{StandsUnits, StandsModel}
use Rattle.view_waits.specs.Filled.{IsFilledBody}
use Rattle.view_laws.proofs.Coded.{Code, good, has_step, all_filled, all_good, some_good, tree_basic, tree_item, tree_seq, item-is, seq-is, declare-is, exclusive-is, plain-is, goto-is, break-is, if-is, do-is, block-is, atomic-is, d_step-is, unless-is, body_filled}

-- a statement, and what is in it filled
abbrev whole : Code
whole = (true, true)

both : (x y : Bool) → x ≡ true → y ≡ true → (x && y) ≡ true
both x y h k = ap (λ (c : Bool). c && y) h ∙ k

good_by : (c : Code) (x y : Bool) → c ≡ (x, y) → x ≡ true → y ≡ true → good c ≡ true
good_by c x y is h k = ap good is ∙ both x y h k

-- a sequence of items with a statement, each filled
seq_good : (xs : List Item) → has_step (map tree_item xs) ≡ true → all_filled (map tree_item xs) ≡ true → good (tree_seq (seq_of xs)) ≡ true
seq_good xs h k = good_by (tree_seq (seq_of xs)) (has_step (map tree_item xs)) (all_filled (map tree_item xs)) (seq-is xs) h k

item_whole : (labels : List Word) (x : Basic) (tokens : List Word) → tree_basic x ≡ whole → tree_item (item_of labels x tokens) ≡ whole
item_whole labels x tokens h = item-is labels x tokens ∙ h

-- two statements are a sequence
two_good : (x y : Item) → tree_item x ≡ whole → tree_item y ≡ whole → good (tree_seq (seq_of (x ∷ y ∷ []))) ≡ true
two_good x y h k =
    seq_good (x ∷ y ∷ [])
    (ap (λ (c : Code). c.0 || ((tree_item y).0 || false)) h)
    (both (tree_item x).1 ((tree_item y).1 && true) (ap (λ (c : Code). c.1) h) (both (tree_item y).1 true (ap (λ (c : Code). c.1) k) refl))

one_good : (x : Item) → tree_item x ≡ whole → good (tree_seq (seq_of (x ∷ []))) ≡ true
one_good x h = seq_good (x ∷ []) (ap (λ (c : Code). c.0 || false) h) (both (tree_item x).1 true (ap (λ (c : Code). c.1) h) refl)

all_append : (xs : List Item) (y : Item) → all_filled (map tree_item xs) ≡ true → tree_item y ≡ whole → all_filled (map tree_item (xs ++ y ∷ [])) ≡ true
all_append [] y h k = both (tree_item y).1 true (ap (λ (c : Code). c.1) k) refl
all_append (x ∷ xs) y h k = let g = and_parts (tree_item x).1 (all_filled (map tree_item xs)) h in both (tree_item x).1 (all_filled (map tree_item (xs ++ y ∷ []))) g.0 (all_append xs y g.1 k)

turning_whole : (o p : Seq) → good (tree_seq o) ≡ true → good (tree_seq p) ≡ true → tree_basic (b.Do (o ∷ p ∷ [])) ≡ whole
turning_whole o p h k =
    do-is (o ∷ p ∷ []) ∙ ap (λ (c : Bool). (true, c)) (both (good (tree_seq o)) (good (tree_seq p) && true) h (both (good (tree_seq p)) true k refl))

module _ (r : Range) where
  for_whole : (s : List Item) → all_filled (map tree_item s) ≡ true → tree_basic (for_of r s) ≡ whole
  for_whole s filled =
      let i = r.counter in
      let up : Item = raising i.line i.raised i.tokens in
      let up_whole : tree_item up ≡ whole = item_whole [] _ _ (plain-is (a.Increment i.raised)) in
      let test : Item = bodies.at_most i.line i.compared i.tokens r.last in
      let test_whole : tree_item test ≡ whole = item_whole [] _ _ (plain-is _) in
      let on_good : good (tree_seq (for_on i.line i.compared i.raised i.tokens r.last s)) ≡ true =
      seq_good (test ∷ s ++ up ∷ []) (ap (λ (c : Code). c.0 || has_step (map tree_item (s ++ up ∷ []))) test_whole)
      (both (tree_item test).1 (all_filled (map tree_item (s ++ up ∷ []))) (ap (λ (c : Code). c.1) test_whole) (all_append s up filled up_whole)) in
      let out_good : good (tree_seq (for_out i.line)) ≡ true = two_good (otherwise_item i.line) (breaking i.line) (item_whole [] _ _ (plain-is a.Else)) (item_whole [] _ _ break-is) in
      let leg : tree_item (turning i.line (for_on i.line i.compared i.raised i.tokens r.last s ∷ for_out i.line ∷ [])) ≡ whole =
      item_whole [] _ _ (turning_whole (for_on i.line i.compared i.raised i.tokens r.last s) (for_out i.line) on_good out_good) in
      let first : Item = setting i.line i.set i.tokens r.first in
      let all = two_good first (turning i.line (for_on i.line i.compared i.raised i.tokens r.last s ∷ for_out i.line ∷ [])) (item_whole [] _ _ (plain-is _)) leg in
      block-is (seq_of (first ∷ turning i.line (for_on i.line i.compared i.raised i.tokens r.last s ∷ for_out i.line ∷ []) ∷ [])) ∙ ap (λ (c : Bool). (true, c)) all

  select_whole : tree_basic (select_of r) ≡ whole
  select_whole =
      let i = r.counter in
      let on : Seq = select_on i.line i.compared i.raised i.tokens r.last in
      let out : Seq = select_out i.line in
      let on_good : good (tree_seq on) ≡ true = two_good _ _ (item_whole [] _ _ (plain-is _)) (item_whole [] _ _ (plain-is (a.Increment i.raised))) in
      let out_good : good (tree_seq out) ≡ true = one_good (breaking i.line) (item_whole [] _ _ break-is) in
      let leg : tree_item (turning i.line (on ∷ out ∷ [])) ≡ whole = item_whole [] _ _ (turning_whole on out on_good out_good) in
      let first : Item = setting i.line i.set i.tokens r.first in
      let all = two_good first (turning i.line (on ∷ out ∷ [])) (item_whole [] _ _ (plain-is _)) leg in
      block-is (seq_of (first ∷ turning i.line (on ∷ out ∷ []) ∷ [])) ∙ ap (λ (c : Bool). (true, c)) all

-- ---- bodies

-- the codes of items, of which one is a statement or none
record AreWhole (step : Bool) (xs : List Item) : Type 0 where
  pub steps : has_step (map tree_item xs) ≡ step
  pub filled : all_filled (map tree_item xs) ≡ true

or_none : (x : Bool) → (x || false) ≡ x
or_none true = refl
or_none false = refl

mutual
  basic_spelt : {closed : Bool} {x : Basic} {from to : List Word} → SpellsBasic closed x from to → tree_basic x ≡ whole
  basic_spelt (bodies.if_fi {options} _ os _) = if-is options ∙ ap (λ (c : Bool). (true, c)) (options_spelt os)
  basic_spelt (bodies.do_od {options} _ os _) = do-is options ∙ ap (λ (c : Bool). (true, c)) (options_spelt os)
  basic_spelt (bodies.block {xs} _ is _) = block-is (seq_of xs) ∙ ap (λ (c : Bool). (true, c)) (seq_good xs (items_step is) (items_filled is))
  basic_spelt (bodies.atomic {xs} _ _ is _) = atomic-is (seq_of xs) ∙ ap (λ (c : Bool). (true, c)) (seq_good xs (items_step is) (items_filled is))
  basic_spelt (bodies.d_step {xs} _ _ is _) = d_step-is (seq_of xs) ∙ ap (λ (c : Bool). (true, c)) (seq_good xs (items_step is) (items_filled is))
  basic_spelt (bodies.for_loop {r} {xs} head _ is _) = for_whole r xs (items_filled is)
  basic_spelt (bodies.select {r} head) = select_whole r
  basic_spelt (bodies.goto {n} _ _) = goto-is n
  basic_spelt (bodies.break _) = break-is
  basic_spelt (bodies.action {x} s) = plain-is x

  statement_spelt : {closed : Bool} {x : Item} {from to : List Word} → SpellsStatement closed x from to → tree_item x ≡ whole
  statement_spelt (bodies.statement {labels} {x} {middle} {to} ls s) = item_whole labels x _ (basic_spelt s)

  item_spelt : {step closed : Bool} {x : Item} {from to : List Word} → SpellsItem step closed x from to → tree_item x ≡ (step, true)
  item_spelt (bodies.declared {vs} d) = item-is [] (b.Declare vs) _ ∙ declare-is vs
  item_spelt (bodies.exclusive {rs} _ xs) = item-is [] (b.Exclusive rs) _ ∙ exclusive-is rs
  item_spelt (bodies.only s) = statement_spelt s
  item_spelt (bodies.unless {x} {y} s _ t) =
      item-is [] (b.Unless (seq_of (x ∷ [])) (seq_of (y ∷ []))) _ ∙ unless-is (seq_of (x ∷ [])) (seq_of (y ∷ []))
      ∙ ap (λ (c : Bool). (true, c)) (both (good (tree_seq (seq_of (x ∷ [])))) (good (tree_seq (seq_of (y ∷ [])))) (one_good x (statement_spelt s)) (one_good y (statement_spelt t)))

  items_step : {step : Bool} {xs : List Item} {from to : List Word} → SpellsItems step xs from to → has_step (map tree_item xs) ≡ step
  items_step (bodies.last_item {x} i s) = or_none (tree_item x).0 ∙ ap (λ (c : Code). c.0) (item_spelt i)
  items_step (bodies.more_items {step} {x} {xs} i g is) =
      ap (λ (c : Code). c.0 || has_step (map tree_item xs)) (item_spelt i) ∙ ap (λ (c : Bool). step || c) (items_step is)

  pub items_filled : {step : Bool} {xs : List Item} {from to : List Word} → SpellsItems step xs from to → all_filled (map tree_item xs) ≡ true
  items_filled (bodies.last_item {x} i s) = both (tree_item x).1 true (ap (λ (c : Code). c.1) (item_spelt i)) refl
  items_filled (bodies.more_items {x} {xs} i g is) = both (tree_item x).1 (all_filled (map tree_item xs)) (ap (λ (c : Code). c.1) (item_spelt i)) (items_filled is)

  options_spelt : {os : List Seq} {from to : List Word} → SpellsOptions os from to → some_good (map tree_seq os) ≡ true
  options_spelt (bodies.last_option {xs} _ is) = both (good (tree_seq (seq_of xs))) true (seq_good xs (items_step is) (items_filled is)) refl
  options_spelt (bodies.more_options {xs} {options} _ is os) = both (good (tree_seq (seq_of xs))) (all_good (map tree_seq options)) (seq_good xs (items_step is) (items_filled is)) (options_all os)

  options_all : {os : List Seq} {from to : List Word} → SpellsOptions os from to → all_good (map tree_seq os) ≡ true
  options_all (bodies.last_option {xs} _ is) = both (good (tree_seq (seq_of xs))) true (seq_good xs (items_step is) (items_filled is)) refl
  options_all (bodies.more_options {xs} {options} _ is os) = both (good (tree_seq (seq_of xs))) (all_good (map tree_seq options)) (seq_good xs (items_step is) (items_filled is)) (options_all os)

body_spelt : {xs : List Item} {from to : List Word} → SpellsBody xs from to → all_filled (map tree_item xs) ≡ true
body_spelt bodies.no_item = refl
body_spelt (bodies.some_items is) = items_filled is

-- ---- units

-- the statements of a proctype are filled
abbrev IsFilledPart : Part → Type 0
IsFilledPart (Part.Proctype p) = (tree_seq p.body).1 ≡ true
IsFilledPart (Part.Variables vs) = Unit {0}
IsFilledPart (Part.Constants ns) = Unit {0}
IsFilledPart (Part.Typedef t vs) = Unit {0}

body_code : {xs : List Item} {from to : List Word} → SpellsBody xs from to → (tree_seq (seq_of xs)).1 ≡ true
body_code {xs} s = ap (λ (c : Code). c.1) (seq-is xs) ∙ body_spelt s

unit_spelt : {x : Part} {from to : List Word} → SpellsUnit x from to → IsFilledPart x
unit_spelt (bodies.variables d) = tt
unit_spelt (bodies.constants _ _ ns _) = tt
unit_spelt (bodies.equal_constants _ _ _ ns _) = tt
unit_spelt (bodies.typedef _ _ _ vs _) = tt
unit_spelt (bodies.proctype s _ _ _ vs _ _ xs _) = body_code xs
unit_spelt (bodies.init _ _ xs _) = body_code xs

units_spelt : {us : List Part} {from : List Word} → SpellsUnits us from → AllByRecursion IsFilledPart us
units_spelt bodies.no_unit = tt
units_spelt (bodies.semicolon _ us) = units_spelt us
units_spelt (bodies.unit x us) = (unit_spelt x, units_spelt us)

proctypes_filled : {o : _} {gs zs : Globals} {us : List Part} {cs : List Word} {ts : List Fields} {ps : List Proctype} → StandsUnits o gs us zs cs ts ps → AllByRecursion IsFilledPart us
    → AllByRecursion (λ (q : Proctype). IsFilledBody q.body) ps
proctypes_filled stands.no_unit h = tt
proctypes_filled (stands.variables vs us) h = proctypes_filled us h.1
proctypes_filled (stands.constants us) h = proctypes_filled us h.1
proctypes_filled (stands.typedef vs us) h = proctypes_filled us h.1
proctypes_filled (stands.proctype {gs} vs x us) h = (body_filled _ x h.0, proctypes_filled us h.1)

-- the bodies of the model that a spelled tree stands for
pub model_filled : {t : Tree} {p : Program} {ws : List Word} → Spells t ws → StandsModel t p → AllByRecursion (λ (q : Proctype). IsFilledBody q.body) p.proctypes
model_filled (bodies.model us) (stands.model ss) = proctypes_filled ss (units_spelt us)
