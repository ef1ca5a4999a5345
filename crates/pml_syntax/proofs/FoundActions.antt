-- What is read as a statement without structure is spelled so.
use Rattle.std.proofs.Common.{◌≡◌, ℕ, zero, suc, Bool, false, List, [], ◌∷◌, length, Some, Ok, inl, inr, refl, sym, ap, subst, ◌∙◌, arith}
use Rattle.pml_token.specs.Word.{Word}
use Rattle.pml_token.specs.declared.token.Kind.{Kind}
use Rattle.pml_token.specs.declared.token.Kind.TheVariants as k
use Rattle.pml_tree.specs.declared.tree.Search.{Search}
use Rattle.pml_tree.specs.declared.tree.SendOrder.{SendOrder}
use Rattle.pml_tree.specs.declared.tree.Removal.TheVariants as removal
use Rattle.pml_tree.specs.declared.tree.Expr.{Expr}
use Rattle.pml_tree.specs.declared.tree.Argument.{Argument}
use Rattle.pml_tree.specs.declared.tree.Reference.{Reference}
use Rattle.pml_tree.specs.declared.tree.Run.{Run}
use Rattle.pml_tree.specs.declared.tree.Action.{Action}
use Rattle.pml_tree.specs.declared.tree.Action.TheVariants as a
use Rattle.pml_syntax.specs.declared.starts.Deed.{Deed}
use Rattle.pml_syntax.specs.declared.starts.Deed.TheVariants as d
use Rattle.pml_syntax.specs.declared.starts.Change.{Change}
use Rattle.pml_syntax.specs.declared.starts.Change.TheVariants as c
use Rattle.promela_grammar.specs.Expressions as terms
use Rattle.promela_grammar.specs.Actions as grammar
use Rattle.promela_grammar.specs.Expressions.{level, query, SpellsReference, SpellsExpr, SpellsArguments, SpellsList}
use Rattle.promela_grammar.specs.Actions.{bang, run_of, SpellsRun, SpellsValues, SpellsAction}
use Rattle.pml_syntax.specs.Starts.{deed, change}
use Rattle.pml_expression.specs.Reading as expressions
use Rattle.pml_expression.specs.Reading.{next, expect_all, expr}
use Rattle.pml_syntax.specs.ReadingStatements as reading
use Rattle.pml_expression.proofs.Steps.{bind_ok, chosen, ok_is, Takes, expect_ok, name_ok, done, fronted, fronted2, from_name, closed_by}
use Rattle.pml_expression.proofs.Lists.{whole_list_found, first_found}
use Rattle.pml_expression.proofs.Found.{lowest_found, reference_found, arguments_found, behind_found, climb_found, expr_found}

-- ---- what a token begins, by the tables

deed_else : (kind : Kind) → deed kind ≡ d.Else → kind ≡ k.Else
deed_else k.Else h = refl
deed_else _ h = absurd cc

change_assign : (kind : Kind) → change kind ≡ c.Assign → kind ≡ k.Assign
change_assign k.Assign h = refl
change_assign _ h = absurd cc

change_increment : (kind : Kind) → change kind ≡ c.Increment → kind ≡ k.Increment
change_increment k.Increment h = refl
change_increment _ h = absurd cc

change_decrement : (kind : Kind) → change kind ≡ c.Decrement → kind ≡ k.Decrement
change_decrement k.Decrement h = refl
change_decrement _ h = absurd cc

change_send : (kind : Kind) (order : SendOrder) → change kind ≡ c.Send order → bang kind ≡ Some order
change_send k.Bang order h = cc
change_send k.BangBang order h = cc
change_send _ order h = absurd cc

change_receive : (kind : Kind) (look : Search) → change kind ≡ c.Receive look → query kind ≡ Some look
change_receive k.Query look h = cc
change_receive k.QueryQuery look h = cc
change_receive _ look h = absurd cc

module _ (depth : ℕ) where
  one_found : (ts : List Word) (x : Expr × List Word) → expr depth 1 ts ≡ Ok x → SpellsExpr 1 x.0 ts x.1
  one_found ts x h = lowest_found (expr depth) (expr_found depth) ts x h

  list_found : (turns : ℕ) (ts : List Word) (x : List Expr × List Word) → expressions.list_from (expr depth 1) turns [] ts ≡ Ok x → SpellsList (SpellsExpr 1) x.0 ts x.1
  list_found turns ts x h =
      whole_list_found (expr depth 1) (SpellsExpr 1) (SpellsList (SpellsExpr 1)) one_found (λ x from to s. terms.last_listed s) (λ x xs c from middle to s is more. terms.more_listed s is more) turns ts x h

  values_found : (ts : List Word) (x : List Expr × List Word) → expressions.values depth ts ≡ Ok x → SpellsValues x.0 ts x.1
  unfolding expressions.values
  values_found ts x h =
      let y = bind_ok h in
      first_found (expr depth 1) (SpellsExpr 1) (SpellsList (SpellsExpr 1)) one_found (λ x from to s. terms.last_listed s) (λ x xs c from middle to s is more. terms.more_listed s is more)
      SpellsValues (λ xs from to s. grammar.value_list s) (λ x xs o c from middle to s opened more closed. grammar.value_call s opened more closed) y.0.0 ts y.0.1 x (one_found ts y.0 y.1) y.2

  -- ---- runs

  run_behind : (r n o : Word) (ts : List Word) (xs : List Expr × List Word) (c : Word × List Word) → r.kind ≡ k.Run → n.kind ≡ k.Name → o.kind ≡ k.OpenParen → reading.run_values depth ts ≡ Ok xs → Takes k.CloseParen xs.1 c
      → SpellsRun (run_of n xs.0) (r ∷ n ∷ o ∷ ts) c.1
  unfolding reading.run_values
  run_behind r n o ts xs c is named opened h t = elim (chosen h) [
    | inl p ↦
        let same : ([], ts) ≡ xs = ok_is p.1 in
        let front : ts ≡ c.0 ∷ c.1 = (subst (λ (x : List Expr × List Word). Takes k.CloseParen x.1 c) (sym same) t).front in
        subst (λ (x : List Expr × List Word). SpellsRun (run_of n x.0) (r ∷ n ∷ o ∷ ts) c.1) same
        (subst (λ (from : List Word). SpellsRun (run_of n []) (r ∷ n ∷ o ∷ from) c.1) (sym front) (grammar.run_nothing is named opened t.is))
    | inr p ↦ grammar.run_with is named opened (closed_by (SpellsList (SpellsExpr 1)) t (list_found (length ts) ts xs p.1)) t.is
  ]

  run_call_found : (ts : List Word) (x : Run × List Word) → reading.run_call depth ts ≡ Ok x → SpellsRun x.0 ts x.1
  unfolding reading.run_call
  run_call_found ts x h =
      let n = bind_ok h in
      let t = name_ok n.1 in
      let xs = bind_ok n.2 in
      let c = bind_ok xs.2 in
      done SpellsRun c.2 (from_name SpellsRun t (run_behind t.word n.0.0 t.end n.0.1 xs.0 c.0 t.is t.named t.ends xs.1 (expect_ok c.1)))

  run_found : (nested : ℕ) (ts : List Word) (x : Run × List Word) → reading.run_within depth nested ts ≡ Ok x → SpellsRun x.0 ts x.1
  unfolding reading.run_within
  run_found zero ts x h = absurd cc
  run_found (suc n) ts x h = elim (chosen h) [
    | inl p ↦
        let o = bind_ok p.1 in
        let t = expect_ok o.1 in
        let y = bind_ok o.2 in
        let c = bind_ok y.2 in
        let u = expect_ok c.1 in
        done SpellsRun c.2 (fronted SpellsRun t (grammar.run_group t.is (closed_by SpellsRun u (run_found n o.0.1 y.0 y.1)) u.is))
    | inr p ↦ run_call_found ts x p.1
  ]

  -- ---- actions

  abbrev IsAction : List Word → (Action × Bool) × List Word → Type 0
  IsAction ts x = SpellsAction x.0.1 x.0.0 ts x.1

  run_first_found : (ts : List Word) (x : (Action × Bool) × List Word) → reading.run_first depth ts ≡ Ok x → IsAction ts x
  unfolding reading.run_first
  run_first_found ts x h = let y = bind_ok h in subst (IsAction ts) (ok_is y.2) (grammar.run (run_found (length ts) ts y.0 y.1))

  holds_found : (ts : List Word) (x : (Action × Bool) × List Word) → reading.holds depth ts ≡ Ok x → IsAction ts x
  unfolding reading.holds
  holds_found ts x h = let y = bind_ok h in subst (IsAction ts) (ok_is y.2) (grammar.holds (one_found ts y.0 y.1))

  continued_found : (r : Reference) (from ts : List Word) (x : (Action × Bool) × List Word) → SpellsReference r from ts → reading.continued depth r ts ≡ Ok x → IsAction from x
  unfolding reading.continued
  continued_found r from ts x here h =
      let first = bind_ok h in
      let y = bind_ok first.2 in
      let left = λ (least : ℕ). behind_found (expr depth) (expr_found depth) least r from ts first.0 here first.1 in
      subst (IsAction from) (ok_is y.2)
      (grammar.holds (climb_found (expr depth) (expr_found depth) (length first.0.1) 1 first.0.0 from first.0.1 y.0 (omega arith) (omega arith) (left 1, λ b g. left (level b)) y.1).spells)

  changed_by_found : (ch : Change) (r : Reference) (from ts : List Word) (x : (Action × Bool) × List Word) → change (next ts) ≡ ch → SpellsReference r from ts → reading.changed_by depth ch r ts ≡ Ok x → IsAction from x
  unfolding reading.assigned reading.sent reading.received reading.copied
  changed_by_found c.Assign r from [] x is here h = absurd cc
  changed_by_found c.Assign r from (w ∷ ws) x is here h = elim (chosen h) [
    | inl p ↦ let y = bind_ok p.1 in subst (IsAction from) (ok_is y.2) (grammar.assign_run here (change_assign w.kind is) (run_found (length ws) ws y.0 y.1))
    | inr p ↦ let y = bind_ok p.1 in subst (IsAction from) (ok_is y.2) (grammar.assign here (change_assign w.kind is) (one_found ws y.0 y.1))
  ]
  changed_by_found c.Increment r from [] x is here h = absurd cc
  changed_by_found c.Increment r from (w ∷ ws) x is here h = subst (IsAction from) (ok_is h) (grammar.increment here (change_increment w.kind is))
  changed_by_found c.Decrement r from [] x is here h = absurd cc
  changed_by_found c.Decrement r from (w ∷ ws) x is here h = subst (IsAction from) (ok_is h) (grammar.decrement here (change_decrement w.kind is))
  changed_by_found (c.Send order) r from [] x is here h = absurd cc
  changed_by_found (c.Send order) r from (w ∷ ws) x is here h = let y = bind_ok h in subst (IsAction from) (ok_is y.2) (grammar.send here (change_send w.kind order is) (values_found ws y.0 y.1))
  changed_by_found (c.Receive look) r from [] x is here h = absurd cc
  changed_by_found (c.Receive look) r from (w ∷ ws) x is here h = elim (chosen h) [
    | inl p ↦ continued_found r from (w ∷ ws) x here p.1
    | inr p ↦ elim (chosen p.1) [
      | inl q ↦
          let ys = bind_ok q.1 in
          let o = bind_ok ys.1 in
          let t = expect_ok o.1 in
          let xs = bind_ok o.2 in
          let c = bind_ok xs.2 in
          let u = expect_ok c.1 in
          subst (IsAction from) (ok_is ys.2)
          (done (λ (zs : List Argument). SpellsAction false (a.Receive r look removal.Keep zs)) c.2 (grammar.copy (subst (λ (to : List Word). SpellsReference r from (w ∷ to)) t.front here) (change_receive w.kind look is) t.is (closed_by SpellsArguments u (arguments_found (expr depth) (expr_found depth) o.0.1 xs.0 xs.1)) u.is))
      | inr q ↦
          let xs = bind_ok q.1 in
          subst (IsAction from) (ok_is xs.2) (grammar.receive here (change_receive w.kind look is) (arguments_found (expr depth) (expr_found depth) ws xs.0 xs.1))
    ]
  ]
  changed_by_found c.Other r from ts x is here h = continued_found r from ts x here h

  printed_behind : (w o s : Word) (ts : List Word) (xs : List Expr × List Word) (c : Word × List Word) → w.kind ≡ k.Printf → o.kind ≡ k.OpenParen → s.kind ≡ k.Quoted → reading.printed depth ts ≡ Ok xs → Takes k.CloseParen xs.1 c
      → SpellsAction false (a.Printf s xs.0) (w ∷ o ∷ s ∷ ts) c.1
  unfolding reading.printed
  printed_behind w o s ts xs c is opened quoted h t = elim (chosen h) [
    | inl p ↦
        let m = bind_ok p.1 in
        let u = expect_ok m.1 in
        subst (λ (from : List Word). SpellsAction false (a.Printf s xs.0) (w ∷ o ∷ s ∷ from) c.1) (sym u.front)
        (grammar.printf_with is opened quoted u.is (closed_by (SpellsList (SpellsExpr 1)) t (list_found (length m.0.1) m.0.1 xs m.2)) t.is)
    | inr p ↦
        let same : ([], ts) ≡ xs = ok_is p.1 in
        let front : ts ≡ c.0 ∷ c.1 = (subst (λ (x : List Expr × List Word). Takes k.CloseParen x.1 c) (sym same) t).front in
        subst (λ (x : List Expr × List Word). SpellsAction false (a.Printf s x.0) (w ∷ o ∷ s ∷ ts) c.1) same
        (subst (λ (from : List Word). SpellsAction false (a.Printf s []) (w ∷ o ∷ s ∷ from) c.1) (sym front) (grammar.printf is opened quoted t.is))
  ]

  record Format (ts : List Word) (x : Word × List Word) : Type 0 where
    word : Word
    opened : Word
    parts : ts ≡ word ∷ opened ∷ x.0 ∷ x.1
    is : word.kind ≡ k.Printf
    opens : opened.kind ≡ k.OpenParen
    quoted : x.0.kind ≡ k.Quoted

  format_found : (ts : List Word) (x : Word × List Word) → reading.format ts ≡ Ok x → Format ts x
  unfolding reading.format expect_all
  format_found ts x h =
      let s = bind_ok h in
      let w = bind_ok s.1 in
      let o = bind_ok w.2 in
      let t = expect_ok w.1 in
      let u = expect_ok o.1 in
      let v = expect_ok s.2 in
      let behind : o.0.1 ≡ s.0.1 = ap (λ (r : (Unit {0}) × List Word). r.1) (ok_is o.2) in
      let parts : ts ≡ w.0.0 ∷ o.0.0 ∷ x.0 ∷ x.1 = t.front ∙ ap (λ (r : List Word). w.0.0 ∷ r) (u.front ∙ ap (λ (r : List Word). o.0.0 ∷ r) (behind ∙ v.front)) in
      record { word = w.0.0; opened = o.0.0; parts = parts; is = t.is; opens = u.is; quoted = v.is }

  action_by_found : (de : Deed) (ts : List Word) (x : (Action × Bool) × List Word) → deed (next ts) ≡ de → reading.action_by depth de ts ≡ Ok x → IsAction ts x
  unfolding reading.reference_first reading.changed reading.printf reading.printm reading.assert expressions.expr_between expressions.expr_behind expressions.closing
  action_by_found d.Else [] x is h = absurd cc
  action_by_found d.Else (w ∷ ws) x is h = subst (IsAction (w ∷ ws)) (ok_is h) (grammar.otherwise (deed_else w.kind is))
  action_by_found d.Name ts x is h =
      let r = bind_ok h in
      changed_by_found (change (next r.0.1)) r.0.0 ts r.0.1 x refl (reference_found (expr depth) (expr_found depth) ts r.0 r.1) r.2
  action_by_found d.Run ts x is h = run_first_found ts x h
  action_by_found d.Group ts x is h = elim (chosen h) [
    | inl p ↦ run_first_found ts x p.1
    | inr p ↦ holds_found ts x p.1
  ]
  action_by_found d.Printf ts x is h =
      let s = bind_ok h in
      let t = format_found ts s.0 s.1 in
      let xs = bind_ok s.2 in
      let c = bind_ok xs.2 in
      subst (IsAction ts) (ok_is c.2)
      (subst (λ (from : List Word). SpellsAction false (a.Printf s.0.0 xs.0.0) from c.0.1) (sym t.parts) (printed_behind t.word t.opened s.0.0 s.0.1 xs.0 c.0 t.is t.opens t.quoted xs.1 (expect_ok c.1)))
  action_by_found d.Printm ts x is h =
      let w = bind_ok h in
      let t = expect_ok w.1 in
      let i = bind_ok w.2 in
      let y = bind_ok i.1 in
      let o = bind_ok y.1 in
      let u = expect_ok o.1 in
      let c = bind_ok y.2 in
      let v = expect_ok c.1 in
      subst (IsAction ts) (ok_is i.2)
      (done (λ (z : Expr). SpellsAction false (a.Printm z)) c.2 (fronted2 (SpellsAction false) t u (grammar.printm t.is u.is (closed_by (SpellsExpr 1) v (one_found o.0.1 y.0 o.2)) v.is)))
  action_by_found d.Assert ts x is h =
      let y = bind_ok h in
      let w = bind_ok y.1 in
      let t = expect_ok w.1 in
      subst (IsAction ts) (ok_is y.2) (fronted (SpellsAction false) t (grammar.assert t.is (one_found w.0.1 y.0 w.2)))
  action_by_found d.Other ts x is h = holds_found ts x h

  pub action_found : (ts : List Word) (x : (Action × Bool) × List Word) → reading.action depth ts ≡ Ok x → IsAction ts x
  unfolding reading.action
  action_found ts x h = action_by_found (deed (next ts)) ts x refl h
