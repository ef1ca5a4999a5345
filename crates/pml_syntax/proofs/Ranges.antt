-- What a `for` or a `select` counts over: what is read is spelled so, and what is spelled is read, as that very range.
use Rattle.std.proofs.Common.{◌≡◌, ℕ, ◌<◌, ◌≤◌, List, ◌∷◌, length, Ok, refl, sym, ap, subst, ◌∙◌, arith}
use Rattle.pml_token.specs.Word.{Word}
use Rattle.pml_token.specs.declared.token.Kind.{Kind}
use Rattle.pml_token.specs.declared.token.Kind.TheVariants as k
use Rattle.pml_tree.specs.declared.tree.Expr.{Expr}
use Rattle.pml_tree.specs.declared.tree.Reference.{Reference}
use Rattle.promela_grammar.specs.Expressions.{between, SpellsReference, SpellsExpr}
use Rattle.promela_grammar.specs.declared.range.Counter.{Counter}
use Rattle.promela_grammar.specs.declared.range.Bound.{Bound}
use Rattle.promela_grammar.specs.declared.range.Range.{Range}
use Rattle.promela_grammar.specs.Models as bodies
use Rattle.promela_grammar.specs.Actions.{counter_of, bound_of, range_of}
use Rattle.promela_grammar.specs.Models.{SpellsRange}
use Rattle.pml_expression.specs.Reading.{and_then, next, expr}
use Rattle.pml_syntax.specs.ReadingStatements as reading
use Rattle.pml_expression.proofs.Steps.{bind_ok, ok_is, expect_ok, expect_again, at, closed_by, reference_moves, expr_moves}
use Rattle.pml_expression.proofs.Found.{lowest_found, reference_found, expr_found}
use Rattle.pml_expression.proofs.Kept.{Leads, past, ◌then◌, step, reference_leads, expr_leads}
use Rattle.pml_expression.proofs.Again.{IsFree, IsQuiet, quiet_paren, before, reference_again, expr_again}

-- ---- what is read

-- a word and a parenthesis
record Opened (kind : Kind) (ts : List Word) (x : ℕ × List Word) : Type 0 where
  word : Word
  paren : Word
  parts : ts ≡ word ∷ paren ∷ x.1
  is : word.kind ≡ kind
  opens : paren.kind ≡ k.OpenParen
  line_is : x.0 ≡ word.line

opened_found : (kind : Kind) (ts : List Word) (x : ℕ × List Word) → reading.opened kind ts ≡ Ok x → Opened kind ts x
unfolding reading.opened
opened_found kind ts x h =
    let w = bind_ok h in
    let o = bind_ok w.2 in
    let t = expect_ok w.1 in
    let u = expect_ok o.1 in
    subst (λ (r : ℕ × List Word). Opened kind ts r) (ok_is o.2)
    (record { word = w.0.0; paren = o.0.0; parts = t.front ∙ ap (λ (r : List Word). w.0.0 ∷ r) u.front; is = t.is; opens = u.is; line_is = refl })

-- a variable
record Named (line : ℕ) (ts : List Word) (x : Counter × List Word) : Type 0 where
  variable : Reference
  spells : SpellsReference variable ts x.1
  counter_is : x.0 ≡ counter_of line variable (between ts x.1)

variable_found : (depth line : ℕ) (ts : List Word) (x : Counter × List Word) → reading.loop_variable depth line ts ≡ Ok x → Named line ts x
unfolding reading.loop_variable
variable_found depth line ts x h =
    let i = bind_ok h in
    subst (λ (r : Counter × List Word). Named line ts r) (ok_is i.2)
    (record { variable = i.0.0; spells = reference_found (expr depth) (expr_found depth) ts i.0 i.1; counter_is = refl })

-- a value behind a token
record Bounded (kind : Kind) (ts : List Word) (x : Bound × List Word) : Type 0 where
  word : Word
  inside : List Word
  value : Expr
  front : ts ≡ word ∷ inside
  is : word.kind ≡ kind
  spells : SpellsExpr 1 value inside x.1
  bound_is : x.0 ≡ bound_of value (between inside x.1)

bound_found : (depth : ℕ) (kind : Kind) (ts : List Word) (x : Bound × List Word) → reading.loop_bound depth kind ts ≡ Ok x → Bounded kind ts x
unfolding reading.loop_bound
bound_found depth kind ts x h =
    let w = bind_ok h in
    let t = expect_ok w.1 in
    let y = bind_ok w.2 in
    subst (λ (r : Bound × List Word). Bounded kind ts r) (ok_is y.2)
    (record { word = w.0.0; inside = w.0.1; value = y.0.0; front = t.front; is = t.is; spells = lowest_found (expr depth) (expr_found depth) w.0.1 y.0 y.1; bound_is = refl })

-- both values, up to the parenthesis
record BoundedTwice (ts : List Word) (x : (Bound × Bound) × List Word) : Type 0 where
  colon : Word
  dots : Word
  close : Word
  first : List Word
  last : List Word
  from_value : Expr
  to_value : Expr
  front : ts ≡ colon ∷ first
  colon_is : colon.kind ≡ k.Colon
  dots_is : dots.kind ≡ k.DotDot
  close_is : close.kind ≡ k.CloseParen
  from_spells : SpellsExpr 1 from_value first (dots ∷ last)
  to_spells : SpellsExpr 1 to_value last (close ∷ x.1)
  first_is : x.0.0 ≡ bound_of from_value (between first (dots ∷ last))
  last_is : x.0.1 ≡ bound_of to_value (between last (close ∷ x.1))

bounds_found : (depth : ℕ) (ts : List Word) (x : (Bound × Bound) × List Word) → reading.loop_bounds depth ts ≡ Ok x → BoundedTwice ts x
unfolding reading.loop_bounds
bounds_found depth ts x h =
    let y = bind_ok h in
    let z = bind_ok y.2 in
    let c = bind_ok z.2 in
    let t = expect_ok c.1 in
    let b = bound_found depth k.Colon ts y.0 y.1 in
    let d = bound_found depth k.DotDot y.0.1 z.0 z.1 in
    subst (λ (r : (Bound × Bound) × List Word). BoundedTwice ts r) (ok_is c.2)
    (record {
      colon = b.word;
      dots = d.word;
      close = c.0.0;
      first = b.inside;
      last = d.inside;
      from_value = b.value;
      to_value = d.value;
      front = b.front;
      colon_is = b.is;
      dots_is = d.is;
      close_is = t.is;
      from_spells = subst (λ (to : List Word). SpellsExpr 1 b.value b.inside to) d.front b.spells;
      to_spells = subst (λ (to : List Word). SpellsExpr 1 d.value d.inside to) t.front d.spells;
      first_is = b.bound_is ∙ ap (λ (to : List Word). bound_of b.value (between b.inside to)) d.front;
      last_is = d.bound_is ∙ ap (λ (to : List Word). bound_of d.value (between d.inside to)) t.front;
    })

range_parts : {kind : Kind} {w o c : Word} {i : Reference} {x y : Expr} {from first ts middle to : List Word} {line : ℕ} {n : Counter} {a b : Bound} (d z : Word) (last : List Word) → ts ≡ w ∷ o ∷ from → line ≡ w.line → middle ≡ c ∷ first
    → n ≡ counter_of line i (between from middle) → a ≡ bound_of x (between first (d ∷ last)) → b ≡ bound_of y (between last (z ∷ to))
    → SpellsRange kind (range_of (counter_of w.line i (between from (c ∷ first))) (bound_of x (between first (d ∷ last))) (bound_of y (between last (z ∷ to)))) (w ∷ o ∷ from) to
    → SpellsRange kind (range_of n a b) ts to
range_parts d z last p l m n a b s = rw (p, n, a, b, l, m) s

pub range_found : (depth : ℕ) (kind : Kind) (ts : List Word) (x : Range × List Word) → reading.loop_range depth kind ts ≡ Ok x → SpellsRange kind x.0 ts x.1
unfolding reading.loop_range
range_found depth kind ts x h =
    let l = bind_ok h in
    let i = bind_ok l.2 in
    let bs = bind_ok i.2 in
    let o = opened_found kind ts l.0 l.1 in
    let n = variable_found depth l.0.0 l.0.1 i.0 i.1 in
    let b = bounds_found depth i.0.1 bs.0 bs.1 in
    subst (λ (r : Range × List Word). SpellsRange kind r.0 ts r.1) (ok_is bs.2)
    (range_parts b.dots b.close b.last o.parts o.line_is b.front n.counter_is b.first_is b.last_is
    (bodies.range o.is o.opens (subst (λ (to : List Word). SpellsReference n.variable l.0.1 to) b.front n.spells) b.colon_is b.from_spells b.dots_is b.to_spells b.close_is))

-- ---- what is spelled

pub range_begins : {kind : Kind} {r : Range} {from to : List Word} → SpellsRange kind r from to → next from ≡ kind
range_begins (bodies.range is _ _ _ _ _ _ _) = is

pub range_moves : {kind : Kind} {r : Range} {from to : List Word} → SpellsRange kind r from to → length to < length from
range_moves (bodies.range _ _ i _ x _ y _) = omega (arith, reference_moves i, expr_moves x, expr_moves y)

pub range_leads : {kind : Kind} {r : Range} {from to : List Word} → SpellsRange kind r from to → Leads from to
range_leads (bodies.range _ _ i _ x _ y _) = past (past (step (reference_leads i) then step (expr_leads x) then step (expr_leads y)))

free_colon : IsFree k.Colon
free_colon = record { no_index = refl; no_dot = refl }

quiet_dots : IsQuiet k.DotDot
quiet_dots = record { no_operator = refl; no_query = refl; free = record { no_index = refl; no_dot = refl } }

pub range_again : {kind : Kind} {r : Range} {from to : List Word} → SpellsRange kind r from to → (depth : ℕ) → length from ≤ depth → reading.loop_range depth kind from ≡ Ok (r, to)
unfolding reading.loop_range reading.opened reading.loop_variable reading.loop_bounds reading.loop_bound and_then
range_again {kind} (bodies.range {w} {o} {c} {d} {z} {from} {first} {last} {to} is opened i colon x dots y closed) depth room =
    let inner_x = before k.DotDot dots quiet_dots (expr_again x depth 1 (omega (arith, reference_moves i)) (omega arith)) in
    let inner_y = before k.CloseParen closed quiet_paren (expr_again y depth 1 (omega (arith, reference_moves i, expr_moves x)) (omega arith)) in
    rw (
      expect_again kind w (o ∷ from) is,
      expect_again k.OpenParen o from opened,
      reference_again i depth (omega arith) (at IsFree colon free_colon),
      expect_again k.Colon c first colon,
      inner_x,
      expect_again k.DotDot d last dots,
      inner_y,
      expect_again k.CloseParen z to closed,
    ) refl
