-- What is read as items is spelled so.
use Rattle.std.proofs.Common.{◌≡◌, ℕ, zero, suc, Bool, true, false, ◌||◌, List, [], ◌∷◌, ◌++◌, length, Ok, inl, inr, refl, sym, subst, ◌∙◌, append_assoc}
use Rattle.pml_token.specs.Word.{Word}
use Rattle.pml_token.specs.declared.token.Kind.{Kind}
use Rattle.pml_token.specs.declared.token.Kind.TheVariants as k
use Rattle.pml_tree.specs.declared.tree.Basic.{Basic}
use Rattle.pml_tree.specs.declared.tree.Basic.TheVariants as b
use Rattle.pml_tree.specs.declared.tree.Item.{Item}
use Rattle.pml_tree.specs.declared.tree.Seq.{Seq}
use Rattle.pml_syntax.specs.declared.starts.Opening.{Opening}
use Rattle.pml_syntax.specs.declared.starts.Opening.TheVariants as o
use Rattle.promela_grammar.specs.Models as bodies
use Rattle.promela_grammar.specs.Expressions.{between}
use Rattle.promela_grammar.specs.Actions.{is_separator, is_exclusive, item_of, seq_of, SpellsDeclaration}
use Rattle.promela_grammar.specs.Models.{SpellsBasic, SpellsStatement, SpellsItem, SpellsItems, SpellsOptions, SpellsSeparators, SpellsGap, SpellsLabels, SpellsRange}
use Rattle.pml_syntax.specs.Starts.{opening}
use Rattle.pml_expression.specs.Reading.{Read, pick, next}
use Rattle.pml_syntax.specs.ReadingStatements as reading
use Rattle.pml_syntax.specs.ReadingStatements.{skip_separators, is_declaration}
use Rattle.pml_expression.proofs.Steps.{bind_ok, chosen, ok_is, expect_ok, done, closed_by}
use Rattle.pml_expression.proofs.Lists.{GoesOn, one_more, just_one, none_more, all_found}
use Rattle.pml_syntax.proofs.FoundActions.{action_found}
use Rattle.pml_syntax.proofs.FoundDeclarations.{declaration_found, references_found}
use Rattle.pml_syntax.proofs.Ranges.{range_found}

-- ---- separators and labels

separators_by : (b : Bool) (w : Word) (ws : List Word) → is_separator w.kind ≡ b → SpellsSeparators ws (skip_separators ws) → SpellsSeparators (w ∷ ws) (pick b (skip_separators ws) (w ∷ ws))
unfolding pick
separators_by true w ws h rest = bodies.one_separator h rest
separators_by false w ws h rest = bodies.no_separator

separators_found : (ts : List Word) → SpellsSeparators ts (skip_separators ts)
unfolding skip_separators
separators_found [] = bodies.no_separator
separators_found (w ∷ ws) = separators_by (is_separator w.kind) w ws refl (separators_found ws)

gap_by : (b closed : Bool) (w : Word) (ws : List Word) → is_separator w.kind ≡ b → (closed || b) ≡ true → SpellsGap closed (w ∷ ws) (pick b (skip_separators ws) (w ∷ ws))
unfolding pick
gap_by true closed w ws h some = bodies.separated h (separators_found ws)
gap_by false true w ws h some = bodies.joined
gap_by false false w ws h some = absurd cc

gap_found : (closed : Bool) (ts : List Word) → (closed || is_separator (next ts)) ≡ true → SpellsGap closed ts (skip_separators ts)
unfolding skip_separators
gap_found true [] h = bodies.joined
gap_found false [] h = absurd cc
gap_found closed (w ∷ ws) h = gap_by (is_separator w.kind) closed w ws refl h

labels_found : (turns : ℕ) (found ts : List Word) (x : List Word × List Word) → reading.labels_from turns found ts ≡ Ok x → GoesOn (λ ls. SpellsLabels ls ts x.1) found x.0
unfolding reading.labels_from
labels_found zero found ts x h = subst (λ (r : List Word × List Word). GoesOn (λ ls. SpellsLabels ls ts r.1) found r.0) (ok_is h) (none_more found bodies.no_label)
labels_found (suc n) found ts x h = elim (chosen h) [
  | inl p ↦
      let name = bind_ok p.1 in
      let colon = bind_ok name.2 in
      let t = expect_ok name.1 in
      let u = expect_ok colon.1 in
      let more = labels_found n (found ++ name.0.0 ∷ []) colon.0.1 x colon.2 in
      subst (λ (from : List Word). GoesOn (λ ls. SpellsLabels ls from x.1) found x.0) (sym t.front)
      (subst (λ (from : List Word). GoesOn (λ ls. SpellsLabels ls (name.0.0 ∷ from) x.1) found x.0) (sym u.front)
      (one_more {Spell = λ ls. SpellsLabels ls colon.0.1 x.1} found x.0 name.0.0 (λ ls s. bodies.one_label t.is u.is s) more))
  | inr p ↦ subst (λ (r : List Word × List Word). GoesOn (λ ls. SpellsLabels ls ts r.1) found r.0) (ok_is p.1) (none_more found bodies.no_label)
]

-- ---- what a token begins, by the table

opening_if : (kind : Kind) → opening kind ≡ o.If → kind ≡ k.If
opening_if k.If h = refl
opening_if _ h = absurd cc

opening_do : (kind : Kind) → opening kind ≡ o.Do → kind ≡ k.Do
opening_do k.Do h = refl
opening_do _ h = absurd cc

opening_atomic : (kind : Kind) → opening kind ≡ o.Atomic → kind ≡ k.Atomic
opening_atomic k.Atomic h = refl
opening_atomic _ h = absurd cc

opening_d_step : (kind : Kind) → opening kind ≡ o.DStep → kind ≡ k.DStep
opening_d_step k.DStep h = refl
opening_d_step _ h = absurd cc

opening_goto : (kind : Kind) → opening kind ≡ o.Goto → kind ≡ k.Goto
opening_goto k.Goto h = refl
opening_goto _ h = absurd cc

opening_break : (kind : Kind) → opening kind ≡ o.Break → kind ≡ k.Break
opening_break k.Break h = refl
opening_break _ h = absurd cc

-- ---- items

-- items behind those that were found, of which some were statements or none
pub record ItemsGoOn (found : List Item) (step : Bool) (ts : List Word) (x : (List Item × Bool) × List Word) : Type 0 where
  pub more : List Item
  pub later : Bool
  pub whole_is : x.0.0 ≡ found ++ more
  pub step_is : x.0.1 ≡ (step || later)
  pub spells : SpellsItems later more ts x.1

pub or_assoc : (x y z : Bool) → ((x || y) || z) ≡ (x || (y || z))
or_assoc true y z = refl
or_assoc false y z = refl

module _ (depth : ℕ) (body : List Word → Read (List Item × Bool)) (sound : (ts : List Word) (x : (List Item × Bool) × List Word) → body ts ≡ Ok x → SpellsItems x.0.1 x.0.0 ts x.1) where
  seq_found : (ts : List Word) (x : List Item × List Word) → reading.seq depth body ts ≡ Ok x → SpellsItems true x.0 ts x.1
  unfolding reading.seq
  seq_found ts x h =
      let xs = bind_ok h in
      elim (chosen xs.2) [
        | inl p ↦ done (SpellsItems true) p.1 (subst (λ (step : Bool). SpellsItems step xs.0.0.0 ts xs.0.1) p.0 (sound ts xs.0 xs.1))
        | inr p ↦ absurd cc
      ]

  options_from_found : (turns : ℕ) (found : List Seq) (ts : List Word) (x : List Seq × List Word) → reading.options_from depth body turns found ts ≡ Ok x → GoesOn (λ os. SpellsOptions os ts x.1) found x.0
  unfolding reading.options_from
  options_from_found zero found ts x h = absurd cc
  options_from_found (suc n) found ts x h =
      let first = bind_ok h in
      let t = expect_ok first.1 in
      let xs = bind_ok first.2 in
      let inside = seq_found first.0.1 xs.0 xs.1 in
      subst (λ (from : List Word). GoesOn (λ os. SpellsOptions os from x.1) found x.0) (sym t.front)
      (elim (chosen xs.2) [
        | inl p ↦ one_more {Spell = λ os. SpellsOptions os xs.0.1 x.1} found x.0 (seq_of xs.0.0) (λ os s. bodies.more_options t.is inside s) (options_from_found n (found ++ seq_of xs.0.0 ∷ []) xs.0.1 x p.1)
        | inr p ↦ subst (λ (r : List Seq × List Word). GoesOn (λ os. SpellsOptions os (first.0.0 ∷ first.0.1) r.1) found r.0) (ok_is p.1) (just_one found (seq_of xs.0.0) (bodies.last_option t.is inside))
      ])

  -- all of the options, and the token that ends them
  record Ended (last : Kind) (ts : List Word) (x : List Seq × List Word) : Type 0 where
    close : Word
    is : close.kind ≡ last
    spells : SpellsOptions x.0 ts (close ∷ x.1)

  options_found : (last : Kind) (ts : List Word) (x : List Seq × List Word) → reading.options depth body last ts ≡ Ok x → Ended last ts x
  unfolding reading.options
  options_found last ts x h =
      let os = bind_ok h in
      let c = bind_ok os.2 in
      let t = expect_ok c.1 in
      let all = all_found {Spell = λ os'. SpellsOptions os' ts os.0.1} (options_from_found (length ts) [] ts os.0 os.1) in
      subst (λ (r : List Seq × List Word). Ended last ts r) (ok_is c.2) (record { close = c.0.0; is = t.is; spells = closed_by SpellsOptions t all })

  -- a body in braces
  record Braced (ts : List Word) (x : List Item × List Word) : Type 0 where
    opened : Word
    close : Word
    inside : List Word
    front : ts ≡ opened ∷ inside
    opens : opened.kind ≡ k.OpenBrace
    closes : close.kind ≡ k.CloseBrace
    spells : SpellsItems true x.0 inside (close ∷ x.1)

  braces_found : (ts : List Word) (x : List Item × List Word) → reading.braces depth body ts ≡ Ok x → Braced ts x
  unfolding reading.braces
  braces_found ts x h =
      let o = bind_ok h in
      let t = expect_ok o.1 in
      let xs = bind_ok o.2 in
      let c = bind_ok xs.2 in
      let u = expect_ok c.1 in
      subst (λ (r : List Item × List Word). Braced ts r) (ok_is c.2)
      (record { opened = o.0.0; close = c.0.0; inside = o.0.1; front = t.front; opens = t.is; closes = u.is; spells = closed_by (SpellsItems true) u (seq_found o.0.1 xs.0 xs.1) })

  abbrev IsBasic : List Word → (Basic × Bool) × List Word → Type 0
  IsBasic ts x = SpellsBasic x.0.1 x.0.0 ts x.1

  basic_by_found : (start : Opening) (ts : List Word) (x : (Basic × Bool) × List Word) → opening (next ts) ≡ start → reading.basic_by depth body start ts ≡ Ok x → IsBasic ts x
  unfolding reading.if_fi reading.do_od reading.block reading.atomic reading.d_step reading.for_loop reading.select reading.goto reading.plainly
  basic_by_found o.If [] x is h = absurd cc
  basic_by_found o.If (w ∷ ws) x is h =
      let os = bind_ok h in
      let e = options_found k.Fi ws os.0 os.1 in
      subst (IsBasic (w ∷ ws)) (ok_is os.2) (bodies.if_fi (opening_if w.kind is) e.spells e.is)
  basic_by_found o.Do [] x is h = absurd cc
  basic_by_found o.Do (w ∷ ws) x is h =
      let os = bind_ok h in
      let e = options_found k.Od ws os.0 os.1 in
      subst (IsBasic (w ∷ ws)) (ok_is os.2) (bodies.do_od (opening_do w.kind is) e.spells e.is)
  basic_by_found o.Block ts x is h =
      let xs = bind_ok h in
      let e = braces_found ts xs.0 xs.1 in
      subst (IsBasic ts) (ok_is xs.2) (subst (λ (from : List Word). SpellsBasic true (b.Block (seq_of xs.0.0)) from xs.0.1) (sym e.front) (bodies.block e.opens e.spells e.closes))
  basic_by_found o.Atomic [] x is h = absurd cc
  basic_by_found o.Atomic (w ∷ ws) x is h =
      let xs = bind_ok h in
      let e = braces_found ws xs.0 xs.1 in
      subst (IsBasic (w ∷ ws)) (ok_is xs.2) (subst (λ (from : List Word). SpellsBasic true (b.Atomic (seq_of xs.0.0)) (w ∷ from) xs.0.1) (sym e.front) (bodies.atomic (opening_atomic w.kind is) e.opens e.spells e.closes))
  basic_by_found o.DStep [] x is h = absurd cc
  basic_by_found o.DStep (w ∷ ws) x is h =
      let xs = bind_ok h in
      let e = braces_found ws xs.0 xs.1 in
      subst (IsBasic (w ∷ ws)) (ok_is xs.2) (subst (λ (from : List Word). SpellsBasic true (b.DStep (seq_of xs.0.0)) (w ∷ from) xs.0.1) (sym e.front) (bodies.d_step (opening_d_step w.kind is) e.opens e.spells e.closes))
  basic_by_found o.For ts x is h =
      let r = bind_ok h in
      let xs = bind_ok r.2 in
      let e = braces_found r.0.1 xs.0 xs.1 in
      subst (IsBasic ts) (ok_is xs.2)
      (bodies.for_loop (subst (λ (to : List Word). SpellsRange k.For r.0.0 ts to) e.front (range_found depth k.For ts r.0 r.1)) e.opens e.spells e.closes)
  basic_by_found o.Select ts x is h =
      let r = bind_ok h in
      subst (IsBasic ts) (ok_is r.2) (bodies.select (range_found depth k.Select ts r.0 r.1))
  basic_by_found o.Goto [] x is h = absurd cc
  basic_by_found o.Goto (w ∷ ws) x is h =
      let n = bind_ok h in
      let t = expect_ok n.1 in
      subst (IsBasic (w ∷ ws)) (ok_is n.2) (subst (λ (from : List Word). SpellsBasic false (b.Goto n.0.0) (w ∷ from) n.0.1) (sym t.front) (bodies.goto (opening_goto w.kind is) t.is))
  basic_by_found o.Break [] x is h = absurd cc
  basic_by_found o.Break (w ∷ ws) x is h = subst (IsBasic (w ∷ ws)) (ok_is h) (bodies.break (opening_break w.kind is))
  basic_by_found o.Other ts x is h =
      let y = bind_ok h in
      subst (IsBasic ts) (ok_is y.2) (bodies.action (action_found depth ts y.0 y.1))

  statement_found : (ts : List Word) (x : (Item × Bool) × List Word) → reading.statement depth body ts ≡ Ok x → SpellsStatement x.0.1 x.0.0 ts x.1
  unfolding reading.statement reading.basic
  statement_found ts x h =
      let ls = bind_ok h in
      let y = bind_ok ls.2 in
      let labels = all_found {Spell = λ all. SpellsLabels all ts ls.0.1} (labels_found (length ts) [] ts ls.0 ls.1) in
      subst (λ (r : (Item × Bool) × List Word). SpellsStatement r.0.1 r.0.0 ts r.1) (ok_is y.2) (bodies.statement labels (basic_by_found (opening (next ls.0.1)) ls.0.1 y.0 refl y.1))

  abbrev IsItem : List Word → (Item × Bool × Bool) × List Word → Type 0
  IsItem ts x = SpellsItem x.0.1 x.0.2 x.0.0 ts x.1

  declared_found : (ts : List Word) (x : (Item × Bool × Bool) × List Word) → reading.declared depth ts ≡ Ok x → IsItem ts x
  unfolding reading.declared
  declared_found ts x h =
      let vs = bind_ok h in
      let d = all_found {Spell = λ all. SpellsDeclaration vs.0.0.1 all ts vs.0.1} (declaration_found depth [] ts vs.0 vs.1) in
      subst (IsItem ts) (ok_is vs.2) (bodies.declared d)

  exclusive_found : (ts : List Word) (x : (Item × Bool × Bool) × List Word) → is_exclusive (next ts) ≡ true → reading.exclusive depth ts ≡ Ok x → IsItem ts x
  unfolding reading.exclusive
  exclusive_found [] x is h = absurd cc
  exclusive_found (w ∷ ws) x is h =
      let rs = bind_ok h in
      subst (IsItem (w ∷ ws)) (ok_is rs.2) (bodies.exclusive is (references_found depth ws rs.0 rs.1))

  stepped_found : (ts : List Word) (x : (Item × Bool × Bool) × List Word) → reading.stepped depth body ts ≡ Ok x → IsItem ts x
  unfolding reading.stepped reading.escape
  stepped_found ts x h =
      let y = bind_ok h in
      let first = statement_found ts y.0 y.1 in
      elim (chosen y.2) [
        | inl p ↦
            let z = bind_ok p.1 in
            let w = bind_ok z.1 in
            let t = expect_ok w.1 in
            let v = bind_ok w.2 in
            subst (IsItem ts) (ok_is z.2)
            (subst (λ (r : (List Item × Bool) × List Word). IsItem ts ((item_of [] (b.Unless (seq_of (y.0.0.0 ∷ [])) (seq_of r.0.0)) (between ts r.1), true, r.0.1), r.1)) (ok_is v.2)
            (bodies.unless (closed_by (SpellsStatement y.0.0.1) t first) t.is (statement_found w.0.1 v.0 v.1)))
        | inr p ↦ subst (IsItem ts) (ok_is p.1) (bodies.only first)
      ]

  item_found : (ts : List Word) (x : (Item × Bool × Bool) × List Word) → reading.item depth body ts ≡ Ok x → IsItem ts x
  unfolding reading.item
  item_found ts x h = elim (chosen h) [
    | inl p ↦ declared_found ts x p.1
    | inr p ↦ elim (chosen p.1) [
      | inl q ↦ exclusive_found ts x q.0 q.1
      | inr q ↦ stepped_found ts x q.1
    ]
  ]

  items_from_found : (turns : ℕ) (step : Bool) (found : List Item) (ts : List Word) (x : (List Item × Bool) × List Word) → reading.items_from depth body turns step found ts ≡ Ok x → ItemsGoOn found step ts x
  unfolding reading.items_from
  items_from_found zero step found ts x h = absurd cc
  items_from_found (suc n) step found ts x h =
      let i = bind_ok h in
      let first = item_found ts i.0 i.1 in
      elim (chosen i.2) [
        | inl p ↦ subst (ItemsGoOn found step ts) (ok_is p.1)
            (record { more = i.0.0.0 ∷ []; later = i.0.0.1; whole_is = refl; step_is = refl; spells = bodies.last_item first (separators_found i.0.1) })
        | inr p ↦ elim (chosen p.1) [
          | inl q ↦
              let g = items_from_found n (step || i.0.0.1) (found ++ i.0.0.0 ∷ []) (skip_separators i.0.1) x q.1 in
              record { more = i.0.0.0 ∷ g.more; later = i.0.0.1 || g.later; whole_is = g.whole_is ∙ append_assoc found (i.0.0.0 ∷ []) g.more; step_is = g.step_is ∙ or_assoc step i.0.0.1 g.later; spells = bodies.more_items first (gap_found i.0.0.2 i.0.1 q.0) g.spells }
          | inr q ↦ absurd cc
        ]
      ]

pub items_found : (depth : ℕ) (ts : List Word) (x : (List Item × Bool) × List Word) → reading.items depth ts ≡ Ok x → SpellsItems x.0.1 x.0.0 ts x.1
unfolding reading.items
items_found zero ts x h = absurd cc
items_found (suc depth) ts x h =
    let g = items_from_found depth (reading.items depth) (items_found depth) (length ts) false [] ts x h in
    subst (λ (all : List Item). SpellsItems x.0.1 all ts x.1) (sym g.whole_is) (subst (λ (step : Bool). SpellsItems step g.more ts x.1) (sym g.step_is) g.spells)
