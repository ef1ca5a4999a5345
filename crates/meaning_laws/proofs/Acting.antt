-- Statements that give no structure stand for what they are numbered as.
use Rattle.std.proofs.Common.{◌≡◌, ℕ, cond, List, [], ◌∷◌, map, Option, Some, None, refl, ap, sym, subst, ◌∙◌}
use Rattle.std.specs.Option.{is_some, option_or, unwrap_or}
use Rattle.std.specs.List.{AllZip}
use Rattle.pml_tree.specs.declared.tree.Expr.{Expr as TreeExpr}
use Rattle.pml_tree.specs.declared.tree.Argument.{Argument}
use Rattle.pml_tree.specs.declared.tree.Reference.{Reference}
use Rattle.pml_tree.specs.declared.tree.Run.{Run as TreeRun}
use Rattle.pml_tree.specs.declared.tree.Action.{Action as TreeAction}
use Rattle.pml_tree.specs.declared.tree.Action.TheVariants as t
use Rattle.promela_model.specs.declared.thing.Thing.{Thing}
use Rattle.check_names.specs.Entry.{found}
use Rattle.promela_model.specs.Names.{meaning, only_process}
use Rattle.pml_program.specs.declared.expr.Expr.{Expr}
use Rattle.pml_program.specs.declared.expr.Target.{Target}
use Rattle.pml_program.specs.declared.program.Slot.{Slot}
use Rattle.pml_program.specs.declared.program.Run.{Run}
use Rattle.pml_program.specs.declared.program.Action.{Action}
use Rattle.pml_program.specs.declared.program.Action.TheVariants as a
use Rattle.check_resolve.specs.declared.reached.Reached.{Reached}
use Rattle.check_resolve.specs.declared.reached.Reached.TheVariants as r
use Rattle.check_resolve.specs.Numbered.{Scope, at_scope, numbered, numbered_argument, numbered_reference}
use Rattle.check_resolve.specs.Statements.{values, store, at, run, action, proctype_of as numbered_proctype}
use Rattle.promela_model.specs.Stands.{Meaning, as_place, StandsReference, StandsExpr, StandsArguments, Globals, variable_named, proctype_named}
use Rattle.promela_model.specs.Stands as parts
use Rattle.promela_model.specs.StandsModel as stands
use Rattle.promela_model.specs.StandsModel.{as_store, proctype_of, StandsRun, StandsAction}
use Rattle.meaning_laws.proofs.Agreeing.{Sees, meaning_of, own-local, own-none}
use Rattle.meaning_laws.proofs.Layers.{target-is}
use Rattle.meaning_laws.proofs.Standing.{expr-stands, argument-stands, reference-stands}
use Rattle.meaning_laws.proofs.Only.{only_expr, only_reference, only_arguments}
use Rattle.meaning_laws.proofs.Declaring.{Runs}

store-is : (x : Reached) → as_store (meaning_of x) ≡ store x
store-is (r.Place p) = refl
store-is (r.Constant n) = refl
store-is r.Pid = refl
store-is r.ProcessCount = refl
store-is r.Anything = refl
store-is r.Nothing = refl

module _ (gs : Globals) (ls : List Slot) (sc : Scope) (sees : Sees gs ls sc) (runs : Runs gs sc.all sc.names) where
  -- where a place, a store is wanted
  at-is : (p : Reference) → as_place (meaning_of (numbered_reference p sc)) ≡ at p sc
  at-is p = sym (target-is (numbered_reference p sc))

  stored-is : (p : Reference) → as_store (meaning_of (numbered_reference p sc)) ≡ store (numbered_reference p sc)
  stored-is p = store-is (numbered_reference p sc)

  exprs-stand : (es : List TreeExpr) → AllZip (StandsExpr gs ls) es (values es sc)
  exprs-stand [] = tt
  exprs-stand (e ∷ es) = (expr-stands gs ls sc sees e, exprs-stand es)

  only_exprs : (es : List TreeExpr) (xs : List Expr) → AllZip (StandsExpr gs ls) es xs → xs ≡ values es sc
  only_exprs [] [] h = refl
  only_exprs [] (x ∷ xs) h = absurd h
  only_exprs (e ∷ es) [] h = absurd h
  only_exprs (e ∷ es) (x ∷ xs) h = ap (λ (y : Expr). y ∷ xs) (only_expr gs ls sc sees h.0) ∙ ap (λ (ys : List Expr). numbered e sc ∷ ys) (only_exprs es xs h.1)

  arguments-stand : (qs : List Argument) → StandsArguments gs ls qs (at_scope (map numbered_argument qs) sc)
  arguments-stand [] = parts.no_argument
  arguments-stand (q ∷ qs) = parts.argument (argument-stands gs ls sc sees q) (arguments-stand qs)

  abbrev pick : List ℕ → Option (ℕ × Slot) → ℕ
  pick n x = cond (is_some x) 0 (unwrap_or (proctype_named 0 gs.text n) 0)

  proctype-is : (n : List ℕ) → proctype_of gs ls n ≡ numbered_proctype (meaning (found sc.all) (found sc.names) sc.owner n)
  proctype-is n = go (variable_named ls n) refl
    where
      others : Option Thing
      others = option_or (found sc.names 0 n) (only_process (found sc.all 0 n))

      go : (x : Option (ℕ × Slot)) → variable_named ls n ≡ x → proctype_of gs ls n ≡ numbered_proctype (meaning (found sc.all) (found sc.names) sc.owner n)
      go (Some p) e = ap (pick n) e ∙ sym (ap (λ (x : Option Thing). numbered_proctype (option_or x others)) (own-local ls sc.names sc.owner sees.own n p e).1)
      go None e = ap (pick n) e ∙ sym (ap numbered_proctype ((own-none ls sc.names sc.owner sees.own n e).1 (only_process (found sc.all 0 n))) ∙ runs n)

  abbrev run_of : ℕ → List Expr → Run
  run_of o xs = record { proctype = o; arguments = xs }

  run-stands : (q : TreeRun) → StandsRun gs ls q (run q sc)
  run-stands q = subst (λ (o : ℕ). StandsRun gs ls q (run_of o (values q.arguments sc))) (proctype-is q.name.text) (stands.run (exprs-stand q.arguments))

  only_run : {q : TreeRun} {x : Run} → StandsRun gs ls q x → x ≡ run q sc
  only_run (stands.run {q} {xs} h) = ap (run_of (proctype_of gs ls q.name.text)) (only_exprs q.arguments xs h) ∙ ap (λ (o : ℕ). run_of o (values q.arguments sc)) (proctype-is q.name.text)

  abbrev Acts : TreeAction → Action → Type 0
  Acts = StandsAction gs ls

  reference : (p : Reference) → StandsReference gs ls p (meaning_of (numbered_reference p sc))
  reference = reference-stands gs ls sc sees

  pub action-stands : (x : TreeAction) → Acts x (action x sc)
  action-stands t.Else = stands.otherwise
  action-stands (t.Assign p e) = subst (λ (m : Option Target). Acts (t.Assign p e) (a.Assign m (numbered e sc))) (stored-is p) (stands.assign (reference p) (expr-stands gs ls sc sees e))
  action-stands (t.AssignRun p q) = subst (λ (m : Option Target). Acts (t.AssignRun p q) (a.AssignRun m (run q sc))) (stored-is p) (stands.assign_run (reference p) (run-stands q))
  action-stands (t.Increment p) = subst (λ (m : Target). Acts (t.Increment p) (a.Increment m)) (at-is p) (stands.increment (reference p))
  action-stands (t.Decrement p) = subst (λ (m : Target). Acts (t.Decrement p) (a.Decrement m)) (at-is p) (stands.decrement (reference p))
  action-stands (t.Run q) = stands.run_alone (run-stands q)
  action-stands (t.Send p order es) = subst (λ (m : Target). Acts (t.Send p order es) (a.Send m order (values es sc))) (at-is p) (stands.send (reference p) (exprs-stand es))
  action-stands (t.Receive p look how qs) =
      subst (λ (m : Target). Acts (t.Receive p look how qs) (a.Receive m look how (at_scope (map numbered_argument qs) sc))) (at-is p) (stands.receive (reference p) (arguments-stand qs))
  action-stands (t.Printf s es) = stands.printf (exprs-stand es)
  action-stands (t.Printm e) = stands.printm (expr-stands gs ls sc sees e)
  action-stands (t.Assert e) = stands.assert (expr-stands gs ls sc sees e)
  action-stands (t.Holds e) = stands.holds (expr-stands gs ls sc sees e)

  place-is : {p : Reference} {m : Meaning} → StandsReference gs ls p m → as_place m ≡ at p sc
  place-is {p} h = ap as_place (only_reference gs ls sc sees h) ∙ at-is p

  kept-is : {p : Reference} {m : Meaning} → StandsReference gs ls p m → as_store m ≡ store (numbered_reference p sc)
  kept-is {p} h = ap as_store (only_reference gs ls sc sees h) ∙ stored-is p

  pub only_action : {x : TreeAction} {y : Action} → Acts x y → y ≡ action x sc
  only_action stands.otherwise = refl
  only_action (stands.assign {r = p} {x} h g) = ap (λ (m : Option Target). a.Assign m x) (kept-is h) ∙ ap (a.Assign (store (numbered_reference p sc))) (only_expr gs ls sc sees g)
  only_action (stands.assign_run {r = p} {p = x} h g) = ap (λ (m : Option Target). a.AssignRun m x) (kept-is h) ∙ ap (a.AssignRun (store (numbered_reference p sc))) (only_run g)
  only_action (stands.increment h) = ap a.Increment (place-is h)
  only_action (stands.decrement h) = ap a.Decrement (place-is h)
  only_action (stands.run_alone h) = ap a.Run (only_run h)
  only_action (stands.send {r = p} {order} {es} {xs} h g) = ap (λ (m : Target). a.Send m order xs) (place-is h) ∙ ap (a.Send (at p sc) order) (only_exprs es xs g)
  only_action (stands.receive {r = p} {look} {how} {ws} h g) = ap (λ (m : Target). a.Receive m look how ws) (place-is h) ∙ ap (a.Receive (at p sc) look how) (only_arguments gs ls sc sees g)
  only_action (stands.printf {s} {es} {xs} h) = ap (a.Printf s) (only_exprs es xs h)
  only_action (stands.printm h) = ap a.Printm (only_expr gs ls sc sees h)
  only_action (stands.assert h) = ap a.Assert (only_expr gs ls sc sees h)
  only_action (stands.holds h) = ap a.Holds (only_expr gs ls sc sees h)
