-- A tree weighs little, where its tokens are few and on few lines.
use Rattle.std.proofs.Common.{◌≡◌, ℕ, zero, suc, ◌+◌, ◌-◌, ◌*◌, ◌<◌, ◌≤◌, Bool, List, [], ◌∷◌, ◌++◌, length, map, take, ap, subst, arith, length-append}
use Rattle.std.specs.List.{AllByRecursion}
use lib.Chars.{codes}
use Rattle.pml_token.specs.Word.{Word}
use Rattle.pml_token.specs.declared.token.Kind.{Kind}
use Rattle.pml_token.specs.declared.token.Kind.TheVariants as k
use Rattle.pml_tree.specs.declared.tree.Infix.{Infix}
use Rattle.pml_tree.specs.declared.tree.Infix.TheVariants as op
use Rattle.pml_tree.specs.declared.tree.Basic.{Basic}
use Rattle.pml_tree.specs.declared.tree.Basic.TheVariants as b
use Rattle.pml_tree.specs.declared.tree.Action.TheVariants as a
use Rattle.pml_tree.specs.declared.tree.Expr.TheVariants as e
use Rattle.pml_tree.specs.declared.tree.Item.{Item}
use Rattle.pml_tree.specs.declared.tree.Reference.{Reference}
use Rattle.pml_tree.specs.declared.tree.Seq.{Seq}
use Rattle.promela_process.specs.Offers.{first_line}
use Rattle.promela_grammar.specs.Expressions.{between, SpellsReference, SpellsList}
use Rattle.pml_expression.proofs.Kept.{Leads, ◌then◌, reference_leads, list_leads}
use Rattle.promela_grammar.specs.declared.opener.Opener.{Opener}
use Rattle.promela_grammar.specs.declared.range.Bound.{Bound}
use Rattle.promela_grammar.specs.declared.range.Range.{Range}
use Rattle.promela_grammar.specs.Actions as grammar
use Rattle.promela_grammar.specs.Models as bodies
use Rattle.promela_grammar.specs.Actions.{SpellsOpener, SpellsDeclaration, item_of, seq_of}
use Rattle.promela_grammar.specs.Models.{SpellsBasic, SpellsStatement, SpellsItem, SpellsItems, SpellsOptions, SpellsRange, made_word, setting, comparing, raising, otherwise_item, breaking, turning, for_on, for_out, select_on, select_out, for_of, select_of}
use Rattle.pml_syntax.proofs.Begins.{action_moves}
use Rattle.pml_syntax.proofs.Kept.{visibility_leads, variables_lead, separators_lead, labels_lead, gap_leads, item_leads, items_lead}
use Rattle.pml_syntax.proofs.Ranges.{range_moves, range_leads}
use Rattle.pml_play.proofs.Measured.{total, tree_basic, tree_item, tree_seq, item-is, seq-is, declare-is, exclusive-is, plain-is, goto-is, break-is, if-is, do-is, block-is, atomic-is, d_step-is, unless-is}

-- each token is on one of the first two million lines
abbrev pub AreLined : List Word → Type 0
AreLined ws = AllByRecursion (λ w. w.line ≤ 2000000) ws

behind_words : (ws to : List Word) → AreLined (ws ++ to) → AreLined to
behind_words [] to h = h
behind_words (w ∷ ws) to h = behind_words ws to h.1

pub lined_behind : {from to : List Word} → Leads from to → AreLined from → AreLined to
lined_behind {to} l h = behind_words l.words to (subst AreLined l.parts h)

pub no_more : {from to : List Word} → Leads from to → length to ≤ length from
no_more {to} l = let e = ap length l.parts in let g = length-append l.words to in omega (arith, e, g)

first_take : (n : ℕ) (ws : List Word) → AreLined ws → first_line (take n ws) 0 ≤ 2000000
first_take zero ws h = omega arith
first_take (suc n) [] h = omega arith
first_take (suc n) (w ∷ ws) h = h.0

take_lined : (n : ℕ) (ws : List Word) → AreLined ws → AreLined (take n ws)
take_lined zero ws h = tt
take_lined (suc n) [] h = tt
take_lined (suc n) (w ∷ ws) h = (h.0, take_lined n ws h.1)

first_made : (ws : List Word) (w : Word) (rest : List Word) → AreLined ws → w.line ≤ 2000000 → first_line (ws ++ w ∷ rest) 0 ≤ 2000000
first_made [] w rest h l = l
first_made (v ∷ vs) w rest h l = h.0

-- ---- what `for` and `select` stand for

item_few : (labels : List Word) (x : Basic) (tokens : List Word) (n : ℕ) → first_line tokens 0 ≤ 2000000 → tree_basic x ≤ n → tree_item (item_of labels x tokens) ≤ 2000000 + n
item_few labels x tokens n l h = omega (arith, item-is labels x tokens, l, h)

total-append : (xs ys : List Item) → total (map tree_item (xs ++ ys)) ≡ total (map tree_item xs) + total (map tree_item ys)
total-append [] ys = omega arith
total-append (x ∷ xs) ys = omega (arith, total-append xs ys)

-- what is made for a range is on lines of the text
record IsLinedRange (r : Range) : Type 0 where
  pub line : r.counter.line ≤ 2000000
  pub tokens : AreLined r.counter.tokens

range_lined : {kind : Kind} {r : Range} {from to : List Word} → SpellsRange kind r from to → AreLined from → IsLinedRange r
range_lined (bodies.range {c} {from} {first} _ _ _ _ _ _ _ _) h = record { line = h.0; tokens = take_lined (length from - length (c ∷ first)) from h.1.1 }

module _ (r : Range) (lined : IsLinedRange r) where
  setting_few : (x : Bound) → tree_item (setting r.counter.line r.counter.set r.counter.tokens x) ≤ 2000001
  setting_few x = item_few [] _ _ 1 (first_made r.counter.tokens _ x.tokens lined.tokens lined.line) (omega (arith, plain-is (a.Assign r.counter.set x.value)))

  comparing_few : (o : Infix) (w : Word) (y : Bound) → w.line ≤ 2000000 → tree_item (comparing o w r.counter.compared r.counter.tokens y) ≤ 2000001
  comparing_few o w y l = item_few [] _ _ 1 (first_made r.counter.tokens w y.tokens lined.tokens l) (omega (arith, plain-is (a.Holds (e.Binary o (e.Read r.counter.compared) y.value))))

  raising_few : tree_item (raising r.counter.line r.counter.raised r.counter.tokens) ≤ 2000001
  raising_few = item_few [] _ _ 1 (first_made r.counter.tokens _ [] lined.tokens lined.line) (omega (arith, plain-is (a.Increment r.counter.raised)))

  otherwise_few : tree_item (otherwise_item r.counter.line) ≤ 2000001
  otherwise_few = item_few [] _ _ 1 lined.line (omega (arith, plain-is a.Else))

  breaking_few : tree_item (breaking r.counter.line) ≤ 2000001
  breaking_few = item_few [] _ _ 1 lined.line (omega (arith, break-is))

  turning_few : (options : List Seq) (n : ℕ) → total (map tree_seq options) ≤ n → tree_item (turning r.counter.line options) ≤ 2000000 + (n + 1)
  turning_few options n h = item_few [] _ _ (n + 1) lined.line (omega (arith, do-is options, h))

  two_few : (x y : Item) (n m : ℕ) → tree_item x ≤ n → tree_item y ≤ m → tree_seq (seq_of (x ∷ y ∷ [])) ≤ n + m
  two_few x y n m h g = omega (arith, seq-is (x ∷ y ∷ []), h, g)

  for_few : (s : List Item) → tree_basic (for_of r s) ≤ total (map tree_item s) + 20000000
  for_few s =
      let i = r.counter in
      let on = for_on i.line i.compared i.raised i.tokens r.last s in
      let out = for_out i.line in
      let c = comparing_few op.AtMost (made_word k.AtMost (codes "<=") i.line) r.last lined.line in
      let on_few : tree_seq on ≤ total (map tree_item s) + 4000002 =
      omega (arith, seq-is (comparing op.AtMost (made_word k.AtMost (codes "<=") i.line) i.compared i.tokens r.last ∷ s ++ raising i.line i.raised i.tokens ∷ []), total-append s (raising i.line i.raised i.tokens ∷ []), c, raising_few) in
      let out_few : tree_seq out ≤ 4000002 = two_few (otherwise_item i.line) (breaking i.line) 2000001 2000001 otherwise_few breaking_few in
      let leg = turning_few (on ∷ out ∷ []) (total (map tree_item s) + 8000004) (omega (arith, on_few, out_few)) in
      let all = two_few (setting i.line i.set i.tokens r.first) (turning i.line (on ∷ out ∷ [])) 2000001 (2000000 + (total (map tree_item s) + 8000004 + 1)) (setting_few r.first) leg in
      let block = block-is (seq_of (setting i.line i.set i.tokens r.first ∷ turning i.line (on ∷ out ∷ []) ∷ [])) in
      omega (arith, block, all)

  select_few : tree_basic (select_of r) ≤ 20000000
  select_few =
      let i = r.counter in
      let on = select_on i.line i.compared i.raised i.tokens r.last in
      let out = select_out i.line in
      let on_few : tree_seq on ≤ 4000002 =
      two_few (comparing op.Below (made_word k.Less (codes "<") i.line) i.compared i.tokens r.last) (raising i.line i.raised i.tokens) 2000001 2000001
      (comparing_few op.Below (made_word k.Less (codes "<") i.line) r.last lined.line) raising_few in
      let out_few : tree_seq out ≤ 2000001 = omega (arith, seq-is (breaking i.line ∷ []), breaking_few) in
      let leg = turning_few (on ∷ out ∷ []) 6000003 (omega (arith, on_few, out_few)) in
      let all = two_few (setting i.line i.set i.tokens r.first) (turning i.line (on ∷ out ∷ [])) 2000001 8000004 (setting_few r.first) leg in
      let block = block-is (seq_of (setting i.line i.set i.tokens r.first ∷ turning i.line (on ∷ out ∷ []) ∷ [])) in
      omega (arith, block, all)

-- ---- bodies

opener_moves : {f : Opener} {from to : List Word} → SpellsOpener f from to → length to < length from
opener_moves (grammar.of_scalar _) = omega arith
opener_moves (grammar.of_unsigned _) = omega arith
opener_moves (grammar.of_typedef _) = omega arith

declaration_moves : {closed : Bool} {vs : _} {from to : List Word} → SpellsDeclaration closed vs from to → length to < length from
declaration_moves (grammar.declaration v f vs) = omega (arith, no_more (visibility_leads v), opener_moves f, no_more (variables_lead vs))

references_lead : {rs : List Reference} {from to : List Word} → SpellsList SpellsReference rs from to → Leads from to
references_lead rs = list_leads (λ r from to s. reference_leads s) rs

mutual
  basic_fits : {closed : Bool} {x : Basic} {from to : List Word} → SpellsBasic closed x from to → AreLined from → tree_basic x + 2000000 + 100000000 * length to ≤ 100000000 * length from
  basic_fits (bodies.if_fi {options} _ os _) h = omega (arith, if-is options, options_fit os h.1)
  basic_fits (bodies.do_od {options} _ os _) h = omega (arith, do-is options, options_fit os h.1)
  basic_fits (bodies.block {xs} _ is _) h = omega (arith, block-is (seq_of xs), seq-is xs, items_fit is h.1)
  basic_fits (bodies.atomic {xs} _ _ is _) h = omega (arith, atomic-is (seq_of xs), seq-is xs, items_fit is h.1.1)
  basic_fits (bodies.d_step {xs} _ _ is _) h = omega (arith, d_step-is (seq_of xs), seq-is xs, items_fit is h.1.1)
  basic_fits (bodies.for_loop {r} {xs} head _ is _) h = omega (arith, for_few r (range_lined head h) xs, range_moves head, items_fit is (lined_behind (range_leads head) h).1)
  basic_fits (bodies.select {r} head) h = omega (arith, select_few r (range_lined head h), range_moves head)
  basic_fits (bodies.goto {n} _ _) h = omega (arith, goto-is n)
  basic_fits (bodies.break _) h = omega (arith, break-is)
  basic_fits (bodies.action {x} s) h = omega (arith, plain-is x, action_moves s)

  statement_fits : {closed : Bool} {x : Item} {from to : List Word} → SpellsStatement closed x from to → AreLined from → tree_item x + 100000000 * length to ≤ 100000000 * length from
  statement_fits (bodies.statement {labels} {x} {middle} {to} ls s) h =
      let m : AreLined middle = lined_behind (labels_lead ls) h in
      omega (arith, item-is labels x (between middle to), first_take (length middle - length to) middle m, basic_fits s m, no_more (labels_lead ls))

  item_fits : {step closed : Bool} {x : Item} {from to : List Word} → SpellsItem step closed x from to → AreLined from → tree_item x + 100000000 * length to ≤ 100000000 * length from
  item_fits (bodies.declared {vs} {from} {to} d) h = omega (arith, item-is [] (b.Declare vs) (between from to), declare-is vs, first_take (length from - length to) from h, declaration_moves d)
  item_fits (bodies.exclusive {w} {rs} {from} {to} _ xs) h =
      omega (arith, item-is [] (b.Exclusive rs) (between (w ∷ from) to), exclusive-is rs, first_take (length (w ∷ from) - length to) (w ∷ from) h, no_more (references_lead xs))
  item_fits (bodies.only s) h = statement_fits s h
  item_fits (bodies.unless {x} {y} {from} {to} s _ t) h =
      let lead = item_leads (bodies.only s) in
      omega (arith, item-is [] (b.Unless (seq_of (x ∷ [])) (seq_of (y ∷ []))) (between from to), unless-is (seq_of (x ∷ [])) (seq_of (y ∷ [])), seq-is (x ∷ []), seq-is (y ∷ []), first_take (length from - length to) from h, statement_fits s h, statement_fits t (lined_behind lead h).1)

  pub items_fit : {step : Bool} {xs : List Item} {from to : List Word} → SpellsItems step xs from to → AreLined from → total (map tree_item xs) + 100000000 * length to ≤ 100000000 * length from
  items_fit (bodies.last_item x s) h = omega (arith, item_fits x h, no_more (separators_lead s))
  items_fit (bodies.more_items x g xs) h = omega (arith, item_fits x h, no_more (gap_leads g), items_fit xs (lined_behind (item_leads x then gap_leads g) h))

  options_fit : {os : List Seq} {from to : List Word} → SpellsOptions os from to → AreLined from → total (map tree_seq os) + 100000000 * length to ≤ 100000000 * length from
  options_fit (bodies.last_option {xs} _ is) h = omega (arith, seq-is xs, items_fit is h.1)
  options_fit (bodies.more_options {xs} _ is os) h = omega (arith, seq-is xs, items_fit is h.1, options_fit os (lined_behind (items_lead is) h.1))
