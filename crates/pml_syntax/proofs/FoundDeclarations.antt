-- What is read as a declaration is spelled so.
use Rattle.std.proofs.Common.{◌≡◌, ℕ, zero, suc, Bool, true, false, List, [], ◌∷◌, ◌++◌, length, Option, Some, None, Ok, inl, inr, refl, sym, subst}
use Rattle.pml_token.specs.Word.{Word}
use Rattle.pml_token.specs.declared.token.Kind.TheVariants as k
use Rattle.pml_tree.specs.declared.tree.Scalar.{Scalar}
use Rattle.pml_tree.specs.declared.tree.Expr.{Expr}
use Rattle.pml_tree.specs.declared.tree.Reference.{Reference}
use Rattle.pml_tree.specs.declared.tree.Sort.TheVariants as sort
use Rattle.pml_tree.specs.declared.tree.Initial.{Initial}
use Rattle.pml_tree.specs.declared.tree.Initial.TheVariants as ini
use Rattle.pml_tree.specs.declared.tree.Variable.{Variable}
use Rattle.promela_grammar.specs.declared.opener.Opener.{Opener}
use Rattle.promela_grammar.specs.declared.opener.Opener.TheVariants as opener
use Rattle.promela_grammar.specs.Expressions as terms
use Rattle.promela_grammar.specs.Actions as grammar
use Rattle.promela_grammar.specs.Expressions.{SpellsIndex, SpellsReference, SpellsExpr, SpellsList}
use Rattle.promela_grammar.specs.Actions.{scalar, is_visibility, variable_of, SpellsScalar, SpellsVisibility, SpellsOpener, SpellsInitial, SpellsVariable, SpellsVariables, SpellsDeclaration}
use Rattle.pml_expression.specs.Reading as expressions
use Rattle.pml_expression.specs.Reading.{pick, next, expect_all, expr}
use Rattle.pml_syntax.specs.ReadingStatements as reading
use Rattle.pml_syntax.specs.ReadingStatements.{skip_visibility}
use Rattle.pml_expression.proofs.Steps.{bind_ok, chosen, ok_is, expect_ok, done, fronted, fronted3, closed_by, closed_by3}
use Rattle.pml_expression.proofs.Lists.{GoesOn, one_more, just_one, whole_list_found}
use Rattle.pml_expression.proofs.Found.{lowest_found, index_found, reference_found, expr_found}

visibility_by : (b : Bool) (w : Word) (ws : List Word) → is_visibility w.kind ≡ b → SpellsVisibility (w ∷ ws) (pick b ws (w ∷ ws))
unfolding pick
visibility_by true w ws is = grammar.visibility is
visibility_by false w ws is = grammar.no_visibility

pub visibility_found : (ts : List Word) → SpellsVisibility ts (skip_visibility ts)
unfolding skip_visibility pick
visibility_found [] = grammar.no_visibility
visibility_found (w ∷ ws) = visibility_by (is_visibility w.kind) w ws refl

opener_by_found : (o : Option Scalar) (ts : List Word) (x : Opener × List Word) → scalar (next ts) ≡ o → reading.opener_by o ts ≡ Ok x → SpellsOpener x.0 ts x.1
opener_by_found (Some s) [] x is h = absurd cc
opener_by_found (Some s) (w ∷ ws) x is h = done SpellsOpener h (grammar.of_scalar is)
opener_by_found None ts x is h = elim (chosen h) [
  | inl p ↦
      let w = bind_ok p.1 in
      let t = expect_ok w.1 in
      done SpellsOpener w.2 (fronted SpellsOpener t (grammar.of_unsigned t.is))
  | inr p ↦
      let w = bind_ok p.1 in
      let t = expect_ok w.1 in
      done SpellsOpener w.2 (fronted SpellsOpener t (grammar.of_typedef t.is))
]

pub opener_found : (ts : List Word) (x : Opener × List Word) → reading.opener_of ts ≡ Ok x → SpellsOpener x.0 ts x.1
unfolding reading.opener_of
opener_found ts x h = opener_by_found (scalar (next ts)) ts x refl h

scalar_by_found : (o : Option Scalar) (ts : List Word) (x : Scalar × List Word) → scalar (next ts) ≡ o → reading.scalar_by o ts ≡ Ok x → SpellsScalar x.0 ts x.1
scalar_by_found (Some s) [] x is h = absurd cc
scalar_by_found (Some s) (w ∷ ws) x is h = done SpellsScalar h (grammar.scalar_type is)
scalar_by_found None ts x is h = absurd cc

scalar_found : (ts : List Word) (x : Scalar × List Word) → reading.scalar_of ts ≡ Ok x → SpellsScalar x.0 ts x.1
unfolding reading.scalar_of
scalar_found ts x h = scalar_by_found (scalar (next ts)) ts x refl h

module _ (depth : ℕ) where
  one_found : (ts : List Word) (x : Expr × List Word) → expr depth 1 ts ≡ Ok x → SpellsExpr 1 x.0 ts x.1
  one_found ts x h = lowest_found (expr depth) (expr_found depth) ts x h

  size_found : (ts : List Word) (x : Option Expr × List Word) → expressions.index (expr depth) ts ≡ Ok x → SpellsIndex x.0 ts x.1
  size_found ts x h = index_found (expr depth) (expr_found depth) ts x h

  abbrev IsInitial : List Word → (Option Initial × Bool) × List Word → Type 0
  IsInitial ts x = SpellsInitial x.0.1 x.0.0 ts x.1

  record Capacity (ts : List Word) (x : Expr × List Word) : Type 0 where
    opened : Word
    close : Word
    of : Word
    brace : Word
    inside : List Word
    front : ts ≡ opened ∷ inside
    opens : opened.kind ≡ k.OpenBracket
    spells : SpellsExpr 1 x.0 inside (close ∷ of ∷ brace ∷ x.1)
    closes : close.kind ≡ k.CloseBracket
    is_of : of.kind ≡ k.Of
    braces : brace.kind ≡ k.OpenBrace

  capacity_found : (ts : List Word) (x : Expr × List Word) → reading.capacity depth ts ≡ Ok x → Capacity ts x
  unfolding reading.capacity expressions.expr_behind expect_all
  capacity_found ts x h =
      let y = bind_ok h in
      let o = bind_ok y.1 in
      let t = expect_ok o.1 in
      let g = bind_ok y.2 in
      let c = bind_ok g.1 in
      let tc = expect_ok c.1 in
      let f = bind_ok c.2 in
      let tf = expect_ok f.1 in
      let d = bind_ok f.2 in
      let td = expect_ok d.1 in
      let inner = closed_by3 (SpellsExpr 1) tc tf td (one_found o.0.1 y.0 o.2) in
      subst (Capacity ts) (ok_is g.2)
      (subst (λ (r : (Unit {0}) × List Word). Capacity ts (y.0.0, r.1)) (ok_is d.2)
      (record { opened = o.0.0; close = c.0.0; of = f.0.0; brace = d.0.0; inside = o.0.1; front = t.front; opens = t.is; spells = inner; closes = tc.is; is_of = tf.is; braces = td.is }))

  channel_found : (w : Word) (ts : List Word) (x : (Option Initial × Bool) × List Word) → w.kind ≡ k.Assign → reading.channel depth ts ≡ Ok x → IsInitial (w ∷ ts) x
  unfolding reading.channel
  channel_found w ts x is h =
      let y = bind_ok h in
      let q = capacity_found ts y.0 y.1 in
      let ss = bind_ok y.2 in
      let z = bind_ok ss.2 in
      let tz = expect_ok z.1 in
      let types = whole_list_found reading.scalar_of SpellsScalar (SpellsList SpellsScalar) scalar_found (λ x from to s. terms.last_listed s) (λ x xs c from middle to s is more. terms.more_listed s is more) (length y.0.1) y.0.1 ss.0 ss.1 in
      let whole = grammar.channel is q.opens q.spells q.closes q.is_of q.braces (closed_by (SpellsList SpellsScalar) tz types) tz.is in
      subst (IsInitial (w ∷ ts)) (ok_is z.2) (subst (λ (from : List Word). SpellsInitial true (Some (ini.Channel y.0.0 ss.0.0)) (w ∷ from) z.0.1) (sym q.front) whole)

  initial_found : (ts : List Word) (x : (Option Initial × Bool) × List Word) → reading.initial depth ts ≡ Ok x → IsInitial ts x
  unfolding reading.initial
  initial_found ts x h = elim (chosen h) [
    | inl p ↦
        let w = bind_ok p.1 in
        let t = expect_ok w.1 in
        subst (λ (from : List Word). IsInitial from x) (sym t.front)
        (elim (chosen w.2) [
          | inl q ↦ channel_found w.0.0 w.0.1 x t.is q.1
          | inr q ↦ let y = bind_ok q.1 in subst (IsInitial (w.0.0 ∷ w.0.1)) (ok_is y.2) (grammar.value t.is (one_found w.0.1 y.0 y.1))
        ])
    | inr p ↦ subst (IsInitial ts) (ok_is p.1) grammar.no_initial
  ]

  abbrev IsVariable : Opener → List Word → (Variable × Bool) × List Word → Type 0
  IsVariable f ts x = SpellsVariable x.0.1 f x.0.0 ts x.1

  packed_found : (n c w : Word) (ts : List Word) (x : Option Initial × List Word) → n.kind ≡ k.Name → c.kind ≡ k.Colon → w.kind ≡ k.Number → reading.packed_value depth ts ≡ Ok x
      → SpellsVariable false opener.Unsigned (variable_of (sort.Unsigned w) n None x.0) (n ∷ c ∷ w ∷ ts) x.1
  unfolding reading.packed_value expressions.expr_behind
  packed_found n c w ts x named colon wide h = elim (chosen h) [
    | inl p ↦
        let y = bind_ok p.1 in
        let o = bind_ok y.1 in
        let t = expect_ok o.1 in
        subst (λ (r : Option Initial × List Word). SpellsVariable false opener.Unsigned (variable_of (sort.Unsigned w) n None r.0) (n ∷ c ∷ w ∷ ts) r.1) (ok_is y.2)
        (subst (λ (from : List Word). SpellsVariable false opener.Unsigned (variable_of (sort.Unsigned w) n None (Some (ini.Value y.0.0))) (n ∷ c ∷ w ∷ from) y.0.1) (sym t.front) (grammar.packed_value named colon wide t.is (one_found o.0.1 y.0 o.2)))
    | inr p ↦ subst (λ (r : Option Initial × List Word). SpellsVariable false opener.Unsigned (variable_of (sort.Unsigned w) n None r.0) (n ∷ c ∷ w ∷ ts) r.1) (ok_is p.1) (grammar.packed named colon wide)
  ]

  variable_by_found : (f : Opener) (ts : List Word) (x : (Variable × Bool) × List Word) → reading.variable_by depth f ts ≡ Ok x → IsVariable f ts x
  unfolding reading.plain reading.structured reading.packed
  variable_by_found (opener.Plain s) ts x h =
      let n = bind_ok h in
      let t = expect_ok n.1 in
      let size = bind_ok n.2 in
      let i = bind_ok size.2 in
      subst (IsVariable (opener.Plain s) ts) (ok_is i.2) (fronted (SpellsVariable i.0.0.1 (opener.Plain s)) t (grammar.plain t.is (size_found n.0.1 size.0 size.1) (initial_found size.0.1 i.0 i.1)))
  variable_by_found (opener.Named w) ts x h =
      let n = bind_ok h in
      let t = expect_ok n.1 in
      let size = bind_ok n.2 in
      subst (IsVariable (opener.Named w) ts) (ok_is size.2) (fronted (SpellsVariable false (opener.Named w)) t (grammar.structured t.is (size_found n.0.1 size.0 size.1)))
  variable_by_found opener.Unsigned ts x h =
      let n = bind_ok h in
      let t = expect_ok n.1 in
      let c = bind_ok n.2 in
      let u = expect_ok c.1 in
      let w = bind_ok c.2 in
      let v = expect_ok w.1 in
      let i = bind_ok w.2 in
      subst (IsVariable opener.Unsigned ts) (ok_is i.2) (fronted3 (SpellsVariable false opener.Unsigned) t u v (packed_found n.0.0 c.0.0 w.0.0 w.0.1 i.0 t.is u.is v.is i.1))

  variables_found : (turns : ℕ) (f : Opener) (found : List Variable) (ts : List Word) (x : (List Variable × Bool) × List Word) → reading.variables_from depth turns f found ts ≡ Ok x → GoesOn (λ vs. SpellsVariables x.0.1 f vs ts x.1) found x.0.0
  unfolding reading.variables_from
  variables_found zero f found ts x h = absurd cc
  variables_found (suc n) f found ts x h =
      let v = bind_ok h in
      let inside = variable_by_found f ts v.0 v.1 in
      elim (chosen v.2) [
        | inl p ↦
            let c = bind_ok p.1 in
            let t = expect_ok c.1 in
            one_more {Spell = λ vs. SpellsVariables x.0.1 f vs c.0.1 x.1} found x.0.0 v.0.0.0 (λ vs s. grammar.more_variables (closed_by (SpellsVariable v.0.0.1 f) t inside) t.is s) (variables_found n f (found ++ v.0.0.0 ∷ []) c.0.1 x c.2)
        | inr p ↦ subst (λ (r : (List Variable × Bool) × List Word). GoesOn (λ vs. SpellsVariables r.0.1 f vs ts r.1) found r.0.0) (ok_is p.1) (just_one found v.0.0.0 (grammar.last_variable inside))
      ]

  pub declaration_found : (found : List Variable) (ts : List Word) (x : (List Variable × Bool) × List Word) → reading.declaration_from depth found ts ≡ Ok x → GoesOn (λ vs. SpellsDeclaration x.0.1 vs ts x.1) found x.0.0
  unfolding reading.declaration_from
  declaration_found found ts x h =
      let f = bind_ok h in
      let g = variables_found (length f.0.1) f.0.0 found f.0.1 x f.2 in
      record { more = g.more; whole_is = g.whole_is; spells = grammar.declaration (visibility_found ts) (opener_found (skip_visibility ts) f.0 f.1) g.spells }

  pub references_found : (ts : List Word) (x : List Reference × List Word) → reading.references depth ts ≡ Ok x → SpellsList SpellsReference x.0 ts x.1
  unfolding reading.references
  references_found ts x h =
      whole_list_found (expressions.reference (expr depth)) SpellsReference (SpellsList SpellsReference) (reference_found (expr depth) (expr_found depth)) (λ x from to s. terms.last_listed s) (λ x xs c from middle to s is more. terms.more_listed s is more) (length ts) ts x h
