-- What is read as an expression is spelled so.
use Rattle.std.proofs.Common.{◌≡◌, ℕ, zero, suc, ◌+◌, ◌<◌, ◌≤◌, Bool, List, [], ◌∷◌, ◌++◌, length, Option, Some, None, Ok, inl, inr, refl, sym, subst, arith}
use Rattle.std.proofs.lemmas.Bool.{ltb-false, ltb-true}
use Rattle.pml_token.specs.Word.{Word}
use Rattle.pml_token.specs.declared.token.Kind.{Kind}
use Rattle.pml_token.specs.declared.token.Kind.TheVariants as k
use Rattle.pml_tree.specs.declared.tree.Infix.{Infix}
use Rattle.pml_tree.specs.declared.tree.Prefix.{Prefix}
use Rattle.pml_tree.specs.declared.tree.Prefix.TheVariants as prefixes
use Rattle.pml_tree.specs.declared.tree.Fill.{Fill}
use Rattle.pml_tree.specs.declared.tree.Search.{Search}
use Rattle.pml_tree.specs.declared.tree.Expr.{Expr}
use Rattle.pml_tree.specs.declared.tree.Expr.TheVariants as e
use Rattle.pml_tree.specs.declared.tree.Argument.{Argument}
use Rattle.pml_tree.specs.declared.tree.Argument.TheVariants as g
use Rattle.pml_tree.specs.declared.tree.Reference.{Reference}
use Rattle.pml_tree.specs.declared.tree.Step.{Step}
use Rattle.promela_grammar.specs.Expressions as grammar
use Rattle.promela_grammar.specs.Expressions.{operator, level, prefix_level, truth_of_word, fill, query, prefix_operator, SpellsIndex, SpellsStep, SpellsFields, SpellsReference, SpellsExpr, SpellsArgument, SpellsArgumentList, SpellsArguments}
use Rattle.pml_expression.specs.declared.operators.Start.{Start}
use Rattle.pml_expression.specs.declared.operators.Start.TheVariants as s
use Rattle.pml_expression.specs.Starts.{start as start_of}
use Rattle.pml_expression.specs.Reading as reading
use Rattle.pml_expression.specs.Reading.{Read, and_then, next, sees, expect}
use Rattle.pml_expression.proofs.Steps.{bind_ok, chosen, ok_is, Takes, expect_ok, done, fronted, fronted2, closed_by, strength, level_low, expr_moves}
use Rattle.pml_expression.proofs.Lists.{GoesOn, one_more, none_more, all_found, whole_list_found, first_found}

-- ---- what a token begins, by the tables

start_truth : (kind : Kind) (v : Bool) → start_of kind ≡ s.Truth v → truth_of_word kind ≡ Some v
start_truth k.True v h = cc
start_truth k.Skip v h = cc
start_truth k.False v h = cc
start_truth _ v h = absurd cc

start_fill : (kind : Kind) (f : Fill) → start_of kind ≡ s.Ask f → fill kind ≡ Some f
start_fill k.Len f h = cc
start_fill k.Empty f h = cc
start_fill k.Full f h = cc
start_fill k.Nempty f h = cc
start_fill k.Nfull f h = cc
start_fill _ f h = absurd cc

start_prefix : (kind : Kind) (p : Prefix) → start_of kind ≡ s.Prefix p → prefix_operator kind ≡ Some p
start_prefix k.Bang p h = cc
start_prefix k.Tilde p h = cc
start_prefix k.Minus p h = cc
start_prefix _ p h = absurd cc

start_timeout : (kind : Kind) → start_of kind ≡ s.Timeout → kind ≡ k.Timeout
start_timeout k.Timeout h = refl
start_timeout _ h = absurd cc

-- an expression that was read is spelled so, and what comes next does not go on with it
pub record IsFound (least : ℕ) (ts : List Word) (x : Expr × List Word) : Type 0 where
  pub spells : SpellsExpr least x.0 ts x.1
  pub stops : strength (operator (next x.1)) < least

abbrev pub IsSound : (ℕ → List Word → Read Expr) → Type 0
IsSound expr = (least : ℕ) (ts : List Word) (x : Expr × List Word) → 1 ≤ least → least ≤ prefix_level → expr least ts ≡ Ok x → IsFound least ts x

module _ (expr : ℕ → List Word → Read Expr) (sound : IsSound expr) where
  pub lowest_found : (ts : List Word) (x : Expr × List Word) → expr 1 ts ≡ Ok x → SpellsExpr 1 x.0 ts x.1
  lowest_found ts x h = (sound 1 ts x (omega arith) (omega arith) h).spells

  -- ---- references

  pub index_found : (ts : List Word) (x : Option Expr × List Word) → reading.index expr ts ≡ Ok x → SpellsIndex x.0 ts x.1
  unfolding reading.index reading.expr_between reading.expr_behind reading.closing
  index_found ts x h = elim (chosen h) [
    | inl p ↦
        let i = bind_ok p.1 in
        let y = bind_ok i.1 in
        let o = bind_ok y.1 in
        let c = bind_ok y.2 in
        let t = expect_ok o.1 in
        let u = expect_ok c.1 in
        done SpellsIndex i.2 (done (λ z. SpellsIndex (Some z)) c.2 (fronted SpellsIndex t (grammar.index t.is (closed_by (SpellsExpr 1) u (lowest_found o.0.1 y.0 o.2)) u.is)))
    | inr p ↦ done SpellsIndex p.1 grammar.no_index
  ]

  step_found : (ts : List Word) (x : Step × List Word) → reading.step expr ts ≡ Ok x → SpellsStep x.0 ts x.1
  unfolding reading.step
  step_found ts x h =
      let n = bind_ok h in
      let t = expect_ok n.1 in
      let i = bind_ok n.2 in
      done SpellsStep i.2 (fronted SpellsStep t (grammar.step t.is (index_found n.0.1 i.0 i.1)))

  fields_found : (turns : ℕ) (found : List Step) (ts : List Word) (x : List Step × List Word) → reading.fields_from expr turns found ts ≡ Ok x → GoesOn (λ ss. SpellsFields ss ts x.1) found x.0
  unfolding reading.fields_from
  fields_found zero found ts x h = subst (λ (r : List Step × List Word). GoesOn (λ ss. SpellsFields ss ts r.1) found r.0) (ok_is h) (none_more found grammar.no_field)
  fields_found (suc n) found ts x h = elim (chosen h) [
    | inl p ↦
        let d = bind_ok p.1 in
        let t = expect_ok d.1 in
        let y = bind_ok d.2 in
        subst (λ (from : List Word). GoesOn (λ ss. SpellsFields ss from x.1) found x.0) (sym t.front)
        (one_more {Spell = λ ss. SpellsFields ss y.0.1 x.1} found x.0 y.0.0 (λ ss m. grammar.one_field t.is (step_found d.0.1 y.0 y.1) m) (fields_found n (found ++ y.0.0 ∷ []) y.0.1 x y.2))
    | inr p ↦ subst (λ (r : List Step × List Word). GoesOn (λ ss. SpellsFields ss ts r.1) found r.0) (ok_is p.1) (none_more found grammar.no_field)
  ]

  pub reference_found : (ts : List Word) (x : Reference × List Word) → reading.reference expr ts ≡ Ok x → SpellsReference x.0 ts x.1
  unfolding reading.reference
  reference_found ts x h =
      let s = bind_ok h in
      let ss = bind_ok s.2 in
      done SpellsReference ss.2 (grammar.reference (step_found ts s.0 s.1) (all_found {Spell = λ all. SpellsFields all s.0.1 ss.0.1} (fields_found (length s.0.1) [] s.0.1 ss.0 ss.1)))

  -- ---- arguments

  eval_found : (ts : List Word) (x : Argument × List Word) → reading.eval expr ts ≡ Ok x → SpellsArgument x.0 ts x.1
  unfolding reading.eval reading.expr_between reading.expr_behind reading.closing
  eval_found ts x h =
      let w = bind_ok h in
      let t = expect_ok w.1 in
      let i = bind_ok w.2 in
      let y = bind_ok i.1 in
      let o = bind_ok y.1 in
      let v = expect_ok o.1 in
      let c = bind_ok y.2 in
      let z = expect_ok c.1 in
      let inside = grammar.eval t.is v.is (closed_by (SpellsExpr 1) z (lowest_found o.0.1 y.0 o.2)) z.is in
      done SpellsArgument i.2 (done (λ a. SpellsArgument (g.Eval a)) c.2 (fronted2 SpellsArgument t v inside))

  argument_by_found : (start : Start) (ts : List Word) (x : Argument × List Word) → start_of (next ts) ≡ start → reading.argument_by expr start ts ≡ Ok x → SpellsArgument x.0 ts x.1
  unfolding reading.into reading.exactly reading.exactly_minus
  argument_by_found s.Name ts x is h = let r = bind_ok h in done SpellsArgument r.2 (grammar.into (reference_found ts r.0 r.1))
  argument_by_found s.Number ts x is h =
      let n = bind_ok h in
      let t = expect_ok n.1 in
      done SpellsArgument n.2 (fronted SpellsArgument t (grammar.exactly t.is))
  argument_by_found (s.Prefix prefixes.Minus) ts x is h =
      let m = bind_ok h in
      let t = expect_ok m.1 in
      let n = bind_ok m.2 in
      let v = expect_ok n.1 in
      done SpellsArgument n.2 (fronted2 SpellsArgument t v (grammar.exactly_minus t.is v.is))
  argument_by_found (s.Truth v) [] x is h = absurd cc
  argument_by_found (s.Truth v) (w ∷ ws) x is h = done SpellsArgument h (grammar.fixed (start_truth w.kind v is))
  argument_by_found s.Eval ts x is h = eval_found ts x h
  argument_by_found _ ts x is h = absurd cc

  argument_found : (ts : List Word) (x : Argument × List Word) → reading.argument expr ts ≡ Ok x → SpellsArgument x.0 ts x.1
  unfolding reading.argument
  argument_found ts x h = argument_by_found (start_of (next ts)) ts x refl h

  pub arguments_found : (ts : List Word) (x : List Argument × List Word) → reading.arguments expr ts ≡ Ok x → SpellsArguments x.0 ts x.1
  unfolding reading.arguments reading.enclosed reading.closing
  arguments_found ts x h = elim (chosen h) [
    | inl p ↦
        let o = bind_ok p.1 in
        let t = expect_ok o.1 in
        let xs = bind_ok o.2 in
        let c = bind_ok xs.2 in
        let u = expect_ok c.1 in
        let inside = whole_list_found (reading.argument expr) SpellsArgument SpellsArgumentList argument_found (λ x from to s. grammar.last_argument s) (λ x xs c from middle to s is more. grammar.more_arguments s is more) (length o.0.1) o.0.1 xs.0 xs.1 in
        done SpellsArguments c.2 (fronted SpellsArguments t (grammar.argument_group t.is (closed_by SpellsArgumentList u inside) u.is))
    | inr p ↦
        let y = bind_ok p.1 in
        first_found (reading.argument expr) SpellsArgument SpellsArgumentList argument_found (λ x from to s. grammar.last_argument s) (λ x xs c from middle to s is more. grammar.more_arguments s is more) SpellsArguments (λ xs from to s. grammar.argument_list s) (λ x xs o c from middle to s opened more closed. grammar.argument_call s opened more closed) y.0.0 ts y.0.1 x (argument_found ts y.0 y.1) y.2
  ]

  -- ---- operands

  behind_by_found : (o : Option Search) (least : ℕ) (r : Reference) (from ts : List Word) (x : Expr × List Word) → query (next ts) ≡ o → SpellsReference r from ts → reading.behind_by expr o r ts ≡ Ok x → SpellsExpr least x.0 from x.1
  unfolding reading.poll reading.polled reading.closing
  behind_by_found None least r from ts x is here h = done (SpellsExpr least) h (grammar.read here)
  behind_by_found (Some look) least r from [] x is here h = absurd cc
  behind_by_found (Some look) least r from (w ∷ ws) x is here h = elim (chosen h) [
    | inl p ↦
        let ys = bind_ok p.1 in
        let o = bind_ok ys.1 in
        let t = expect_ok o.1 in
        let xs = bind_ok o.2 in
        let c = bind_ok xs.2 in
        let z = expect_ok c.1 in
        done (SpellsExpr least) ys.2 (done (λ zs. SpellsExpr least (e.Poll r look zs)) c.2 (grammar.poll (subst (λ (to : List Word). SpellsReference r from (w ∷ to)) t.front here) is t.is (closed_by SpellsArguments z (arguments_found o.0.1 xs.0 xs.1)) z.is))
    | inr p ↦ done (SpellsExpr least) p.1 (grammar.read here)
  ]

  pub behind_found : (least : ℕ) (r : Reference) (from ts : List Word) (x : Expr × List Word) → SpellsReference r from ts → reading.behind expr r ts ≡ Ok x → SpellsExpr least x.0 from x.1
  unfolding reading.behind
  behind_found least r from ts x here h = behind_by_found (query (next ts)) least r from ts x refl here h

  group_behind : (least : ℕ) (o : Word) (from middle : List Word) (x : Expr) (y : Expr × List Word) (c : Word × List Word) → o.kind ≡ k.OpenParen → SpellsExpr 1 x from middle → reading.alternatives expr x middle ≡ Ok y → Takes k.CloseParen y.1 c
      → SpellsExpr least y.0 (o ∷ from) c.1
  unfolding reading.alternatives reading.chosen reading.expr_behind
  group_behind least o from middle x y c is first h u = elim (chosen h) [
    | inl p ↦
        let z = bind_ok p.1 in
        let q = bind_ok z.1 in
        let tq = expect_ok q.1 in
        let w = bind_ok z.2 in
        let d = bind_ok w.1 in
        let td = expect_ok d.1 in
        subst (λ (r : Expr × List Word). Takes k.CloseParen r.1 c → SpellsExpr least r.0 (o ∷ from) c.1) (ok_is w.2)
        (λ t. grammar.choice is (closed_by (SpellsExpr 1) tq first) tq.is (closed_by (SpellsExpr 1) td (lowest_found q.0.1 z.0 q.2)) td.is (closed_by (SpellsExpr 1) t (lowest_found d.0.1 w.0 d.2)) t.is) u
    | inr p ↦
        subst (λ (r : Expr × List Word). Takes k.CloseParen r.1 c → SpellsExpr least r.0 (o ∷ from) c.1) (ok_is p.1) (λ t. grammar.parentheses is (closed_by (SpellsExpr 1) t first) t.is) u
  ]

  group_found : (least : ℕ) (ts : List Word) (x : Expr × List Word) → reading.group expr ts ≡ Ok x → SpellsExpr least x.0 ts x.1
  unfolding reading.group reading.expr_behind reading.closing
  group_found least ts x h =
      let y = bind_ok h in
      let o = bind_ok y.1 in
      let t = expect_ok o.1 in
      let z = bind_ok y.2 in
      let c = bind_ok z.2 in
      done (SpellsExpr least) c.2 (fronted (SpellsExpr least) t (group_behind least o.0.0 o.0.1 y.0.1 y.0.0 z.0 c.0 t.is (lowest_found o.0.1 y.0 o.2) z.1 (expect_ok c.1)))

  prefix_by_found : (start : Start) (least : ℕ) (ts : List Word) (x : Expr × List Word) → start_of (next ts) ≡ start → least ≤ prefix_level → reading.prefix_by expr start ts ≡ Ok x → SpellsExpr least x.0 ts x.1
  unfolding reading.number reading.variable reading.ask reading.operand reading.closing
  prefix_by_found s.Name least ts x is low h = let r = bind_ok h in behind_found least r.0.0 ts r.0.1 x (reference_found ts r.0 r.1) r.2
  prefix_by_found s.Number least ts x is low h =
      let n = bind_ok h in
      let t = expect_ok n.1 in
      done (SpellsExpr least) n.2 (fronted (SpellsExpr least) t (grammar.number t.is))
  prefix_by_found (s.Truth v) least [] x is low h = absurd cc
  prefix_by_found (s.Truth v) least (w ∷ ws) x is low h = done (SpellsExpr least) h (grammar.truth_value (start_truth w.kind v is))
  prefix_by_found s.Timeout least [] x is low h = absurd cc
  prefix_by_found s.Timeout least (w ∷ ws) x is low h = done (SpellsExpr least) h (grammar.timeout (start_timeout w.kind is))
  prefix_by_found (s.Ask f) least [] x is low h = absurd cc
  prefix_by_found (s.Ask f) least (w ∷ ws) x is low h =
      let o = bind_ok h in
      let v = expect_ok o.1 in
      let r = bind_ok o.2 in
      let c = bind_ok r.2 in
      let z = expect_ok c.1 in
      done (SpellsExpr least) c.2 (subst (λ (from : List Word). SpellsExpr least (e.Ask f r.0.0) (w ∷ from) c.0.1) (sym v.front) (grammar.ask (start_fill w.kind f is) v.is (closed_by SpellsReference z (reference_found o.0.1 r.0 r.1)) z.is))
  prefix_by_found (s.Prefix p) least [] x is low h = absurd cc
  prefix_by_found (s.Prefix p) least (w ∷ ws) x is low h =
      let y = bind_ok h in
      done (SpellsExpr least) y.2 (grammar.unary (start_prefix w.kind p is) low (sound prefix_level ws y.0 (omega arith) (omega arith) y.1).spells)
  prefix_by_found s.Group least ts x is low h = group_found least ts x h
  prefix_by_found _ least ts x is low h = absurd cc

  pub prefix_found : (least : ℕ) (ts : List Word) (x : Expr × List Word) → least ≤ prefix_level → reading.prefix expr ts ≡ Ok x → SpellsExpr least x.0 ts x.1
  unfolding reading.prefix
  prefix_found least ts x low h = prefix_by_found (start_of (next ts)) least ts x refl low h

  -- ---- operators

  -- Climbing goes on from a left side that may stand before the operator that comes next.
  abbrev pub IsLeft : ℕ → Expr → List Word → List Word → Type 0
  IsLeft least left from ts = SpellsExpr least left from ts × ((b : Infix) → operator (next ts) ≡ Some b → SpellsExpr (level b) left from ts)

  climb_by_found : (again : Expr → List Word → Read Expr) (least : ℕ) (left : Expr) (from ts : List Word) (x : Expr × List Word) (o : Option Infix) → operator (next ts) ≡ o → 1 ≤ least → IsLeft least left from ts
      → ((y : Expr) (us : List Word) → length us < length ts → IsLeft least y from us → again y us ≡ Ok x → IsFound least from x)
      → reading.climb_by expr again least left ts o ≡ Ok x → IsFound least from x
  unfolding reading.infix_with
  climb_by_found again least left from ts x None is high first further h = subst (IsFound least from) (ok_is h) (record { spells = first.0; stops = rw is (omega arith) })
  climb_by_found again least left from [] x (Some b) is high first further h = absurd cc
  climb_by_found again least left from (w ∷ ws) x (Some b) is high first further h = elim (chosen h) [
    | inl p ↦ subst (IsFound least from) (ok_is p.1) (record { spells = first.0; stops = rw is (ltb-true _ _ p.0) })
    | inr p ↦
        let q = bind_ok p.1 in
        let r = bind_ok q.1 in
        let right = sound (level b + 1) ws r.0 (omega arith) (omega (arith, level_low b)) r.1 in
        let low : least ≤ level b = ltb-false _ _ p.0 in
        let left_side = first.1 b is in
        let next_side : (c : Infix) → operator (next r.0.1) ≡ Some c → SpellsExpr (level c) (e.Binary b left r.0.0) from r.0.1 = λ c g. grammar.binary is (let s : strength (operator (next r.0.1)) < level b + 1 = right.stops in let t : level c < level b + 1 = rw g at s in omega arith) left_side right.spells in
        further (e.Binary b left r.0.0) r.0.1 (omega (arith, expr_moves right.spells)) (grammar.binary is low left_side right.spells, next_side) (subst (λ (z : Expr × List Word). again z.0 z.1 ≡ Ok x) (sym (ok_is r.2)) q.2)
  ]

  pub climb_found : (turns least : ℕ) (left : Expr) (from ts : List Word) (x : Expr × List Word) → length ts ≤ turns → 1 ≤ least → IsLeft least left from ts → reading.climb expr turns least left ts ≡ Ok x → IsFound least from x
  unfolding reading.climb
  climb_found zero least left from [] x enough high first h = subst (IsFound least from) (ok_is h) (record { spells = first.0; stops = omega arith })
  climb_found zero least left from (w ∷ ws) x enough high first h = absurd (omega arith)
  climb_found (suc n) least left from ts x enough high first h =
      climb_by_found (reading.climb expr n least) least left from ts x (operator (next ts)) refl high first (λ y us shorter left' g. climb_found n least y from us x (omega arith) high left' g) h

  level_found : (least : ℕ) (ts : List Word) (x : Expr × List Word) → 1 ≤ least → least ≤ prefix_level → reading.level_of expr least ts ≡ Ok x → IsFound least ts x
  unfolding reading.level_of
  level_found least ts x high low h =
      let p = bind_ok h in
      climb_found (length p.0.1) least p.0.0 ts p.0.1 x (omega arith) high (prefix_found least ts p.0 low p.1, λ b g. prefix_found (level b) ts p.0 (omega (arith, level_low b)) p.1) p.2

pub expr_found : (depth : ℕ) → IsSound (reading.expr depth)
unfolding reading.expr
expr_found zero least ts x high low h = absurd cc
expr_found (suc depth) least ts x high low h = level_found (reading.expr depth) (expr_found depth) least ts x high low h
