-- The steps of reading: what a step that did not fail read, and what a step reads.
use Rattle.std.proofs.Common.{◌≡◌, ℕ, ◌<◌, ◌≤◌, Bool, true, false, List, [], ◌∷◌, length, Option, Some, None, Result, Ok, Err, ◌⊎◌, inl, inr, refl, sym, ap, subst, ◌∙◌, arith}
use denote.Enum.Bare.{same_true, true_same}
use Rattle.pml_token.specs.contracts.token.Kind.{the_type}
use Rattle.pml_token.specs.declared.token.Kind.{Kind}
use Rattle.pml_token.specs.declared.token.Kind.TheVariants as k
use Rattle.pml_token.specs.Word.{same_kind, Word}
use Rattle.pml_tree.specs.declared.tree.Infix.{Infix}
use Rattle.pml_tree.specs.declared.tree.Infix.TheVariants as op
use Rattle.promela_grammar.specs.Expressions as grammar
use Rattle.promela_grammar.specs.Expressions.{level, prefix_level, SpellsIndex, SpellsStep, SpellsFields, SpellsReference, SpellsExpr, SpellsArgument, SpellsArgumentList, SpellsArguments}
use Rattle.pml_expression.specs.Reading.{and_then, pick, expect, expect_name}

pub bind_ok : {A B : Type 0} {r : Result A ℕ} {f : A → Result B ℕ} {y : B} → and_then r f ≡ Ok y → (x : A) × (r ≡ Ok x) × (f x ≡ Ok y)
unfolding and_then
bind_ok {r = Ok x} h = (x, refl, h)
bind_ok {r = Err left} h = absurd cc

pub chosen : {A : Type 0} {b : Bool} {x y z : A} → pick b x y ≡ z → ((b ≡ true) × (x ≡ z)) ⊎ ((b ≡ false) × (y ≡ z))
unfolding pick
chosen {b = true} h = inl (refl, h)
chosen {b = false} h = inr (refl, h)

pub ok_is : {A E : Type 0} {x y : A} → ◌≡◌ {A = Result A E} (Ok x) (Ok y) → x ≡ y
ok_is h = cc

pub some_is : {A : Type 0} {x y : A} → ◌≡◌ {A = Option A} (Some x) (Some y) → x ≡ y
some_is h = cc

pub kind_is : (a b : Kind) → same_kind a b ≡ true → a ≡ b
kind_is a b h = same_true the_type tt a b h

pub is_kind : (a b : Kind) → a ≡ b → same_kind a b ≡ true
is_kind a b h = true_same the_type a b h

pub not_kind : (a b c : Kind) → a ≡ b → same_kind b c ≡ false → same_kind a c ≡ false
not_kind a b c is h = subst (λ (x : Kind). same_kind x c ≡ false) (sym is) h

-- what holds of the kind that a token has
pub at : {x kind : Kind} (P : Kind → Type 0) → x ≡ kind → P kind → P x
at P is h = subst P (sym is) h

pub record Takes (kind : Kind) (ts : List Word) (x : Word × List Word) : Type 0 where
  pub front : ts ≡ x.0 ∷ x.1
  pub is : x.0.kind ≡ kind

pub expect_ok : {kind : Kind} {ts : List Word} {x : Word × List Word} → expect kind ts ≡ Ok x → Takes kind ts x
unfolding expect
expect_ok {ts = []} h = absurd cc
expect_ok {kind} {ts = w ∷ ws} {x} h = elim (chosen h) [
  | inl p ↦ let is : (w, ws) ≡ x = ok_is p.1 in subst (λ (y : Word × List Word). Takes kind (w ∷ ws) y) is (record { front = refl; is = kind_is _ _ p.0 })
  | inr p ↦ absurd cc
]

pub expect_again : (kind : Kind) (w : Word) (ws : List Word) → w.kind ≡ kind → expect kind (w ∷ ws) ≡ Ok (w, ws)
unfolding expect pick
expect_again kind w ws h = rw (is_kind w.kind kind h) refl

-- a name between two tokens
pub record TakesName (front back : Kind) (ts : List Word) (x : Word × List Word) : Type 0 where
  pub word : Word
  pub end : Word
  pub parts : ts ≡ word ∷ x.0 ∷ end ∷ x.1
  pub is : word.kind ≡ front
  pub named : x.0.kind ≡ k.Name
  pub ends : end.kind ≡ back

pub name_ok : {front back : Kind} {ts : List Word} {x : Word × List Word} → expect_name front back ts ≡ Ok x → TakesName front back ts x
unfolding expect_name
name_ok {front} {back} {ts} h =
    let w = bind_ok h in
    let n = bind_ok w.2 in
    let e = bind_ok n.2 in
    let t = expect_ok w.1 in
    let u = expect_ok n.1 in
    let v = expect_ok e.1 in
    let parts : ts ≡ w.0.0 ∷ n.0.0 ∷ e.0.0 ∷ e.0.1 = t.front ∙ ap (λ (r : List Word). w.0.0 ∷ r) (u.front ∙ ap (λ (r : List Word). n.0.0 ∷ r) v.front) in
    subst (TakesName front back ts) (ok_is e.2) (record { word = w.0.0; end = e.0.0; parts = parts; is = t.is; named = u.is; ends = v.is })

-- ---- what is spelled, from and to lists that are the same

-- what was answered is what was read
pub done : {A : Type 0} {ts : List Word} {x y : A × List Word} (Spell : A → List Word → List Word → Type 0) → ◌≡◌ {A = Result (A × List Word) ℕ} (Ok x) (Ok y) → Spell x.0 ts x.1 → Spell y.0 ts y.1
done {A} {ts} Spell h s = subst (λ (r : A × List Word). Spell r.0 ts r.1) (ok_is h) s

-- the tokens at the front
pub fronted : {A : Type 0} {kind : Kind} {ts to : List Word} {o : Word × List Word} {a : A} (Spell : A → List Word → List Word → Type 0) → Takes kind ts o → Spell a (o.0 ∷ o.1) to → Spell a ts to
fronted {to} {a} Spell t s = subst (λ (from : List Word). Spell a from to) (sym t.front) s

pub fronted2 : {A : Type 0} {kind kind' : Kind} {ts to : List Word} {o n : Word × List Word} {a : A} (Spell : A → List Word → List Word → Type 0) → Takes kind ts o → Takes kind' o.1 n → Spell a (o.0 ∷ n.0 ∷ n.1) to → Spell a ts to
fronted2 {to} {o} {a} Spell t u s = fronted Spell t (subst (λ (from : List Word). Spell a (o.0 ∷ from) to) (sym u.front) s)

pub fronted3 : {A : Type 0} {k1 k2 k3 : Kind} {ts to : List Word} {o n m : Word × List Word} {a : A} (Spell : A → List Word → List Word → Type 0) → Takes k1 ts o → Takes k2 o.1 n → Takes k3 n.1 m → Spell a (o.0 ∷ n.0 ∷ m.0 ∷ m.1) to → Spell a ts to
fronted3 {to} {o} {n} {a} Spell t u v s = fronted2 Spell t u (subst (λ (from : List Word). Spell a (o.0 ∷ n.0 ∷ from) to) (sym v.front) s)

pub fronted4 : {A : Type 0} {k1 k2 k3 k4 : Kind} {ts to : List Word} {o n m p : Word × List Word} {a : A} (Spell : A → List Word → List Word → Type 0) → Takes k1 ts o → Takes k2 o.1 n → Takes k3 n.1 m → Takes k4 m.1 p
    → Spell a (o.0 ∷ n.0 ∷ m.0 ∷ p.0 ∷ p.1) to → Spell a ts to
fronted4 {to} {o} {n} {m} {a} Spell t u v w s = fronted3 Spell t u v (subst (λ (from : List Word). Spell a (o.0 ∷ n.0 ∷ m.0 ∷ from) to) (sym w.front) s)

-- a name between two tokens at the front
pub from_name : {A : Type 0} {front back : Kind} {ts to : List Word} {x : Word × List Word} {a : A} (Spell : A → List Word → List Word → Type 0) → (t : TakesName front back ts x) → Spell a (t.word ∷ x.0 ∷ t.end ∷ x.1) to → Spell a ts to
from_name {to} {a} Spell t s = subst (λ (from : List Word). Spell a from to) (sym t.parts) s

-- the tokens behind
pub closed_by : {A : Type 0} {kind : Kind} {from ts : List Word} {c : Word × List Word} {a : A} (Spell : A → List Word → List Word → Type 0) → Takes kind ts c → Spell a from ts → Spell a from (c.0 ∷ c.1)
closed_by {from} {a} Spell t s = subst (λ (to : List Word). Spell a from to) t.front s

pub closed_by2 : {A : Type 0} {kind kind' : Kind} {from ts : List Word} {c d : Word × List Word} {a : A} (Spell : A → List Word → List Word → Type 0) → Takes kind ts c → Takes kind' c.1 d → Spell a from ts → Spell a from (c.0 ∷ d.0 ∷ d.1)
closed_by2 {from} {c} {a} Spell t u s = subst (λ (to : List Word). Spell a from (c.0 ∷ to)) u.front (closed_by Spell t s)

pub closed_by3 : {A : Type 0} {k1 k2 k3 : Kind} {from ts : List Word} {c d f : Word × List Word} {a : A} (Spell : A → List Word → List Word → Type 0) → Takes k1 ts c → Takes k2 c.1 d → Takes k3 d.1 f → Spell a from ts → Spell a from (c.0 ∷ d.0 ∷ f.0 ∷ f.1)
closed_by3 {from} {c} {d} {a} Spell t u v s = subst (λ (to : List Word). Spell a from (c.0 ∷ d.0 ∷ to)) v.front (closed_by2 Spell t u s)

-- ---- operators

-- how tightly what comes next binds, or 0 for what is no operator
abbrev pub strength : Option Infix → ℕ
strength None = 0
strength (Some b) = level b

abbrev IsWithin : ℕ → Type 0
IsWithin n = (1 ≤ n) × (n < prefix_level)

within : (b : Infix) → IsWithin (level b)
within op.Or = (omega arith, omega arith)
within op.And = (omega arith, omega arith)
within op.BitOr = (omega arith, omega arith)
within op.BitXor = (omega arith, omega arith)
within op.BitAnd = (omega arith, omega arith)
within op.Equal = (omega arith, omega arith)
within op.Unequal = (omega arith, omega arith)
within op.Below = (omega arith, omega arith)
within op.AtMost = (omega arith, omega arith)
within op.Above = (omega arith, omega arith)
within op.AtLeast = (omega arith, omega arith)
within op.ShiftLeft = (omega arith, omega arith)
within op.ShiftRight = (omega arith, omega arith)
within op.Plus = (omega arith, omega arith)
within op.Minus = (omega arith, omega arith)
within op.Times = (omega arith, omega arith)
within op.Divide = (omega arith, omega arith)
within op.Remainder = (omega arith, omega arith)

pub level_low : (b : Infix) → level b < prefix_level
level_low b = (within b).1

pub level_high : (b : Infix) → 1 ≤ level b
level_high b = (within b).0

-- ---- what is spelled is at least one token, but for what may be left out

mutual
  pub index_moves : {i : _} {from to : List Word} → SpellsIndex i from to → length to ≤ length from
  index_moves grammar.no_index = omega arith
  index_moves (grammar.index _ i _) = omega (arith, expr_moves i)

  pub step_moves : {s : _} {from to : List Word} → SpellsStep s from to → length to < length from
  step_moves (grammar.step _ i) = omega (arith, index_moves i)

  pub fields_move : {ss : _} {from to : List Word} → SpellsFields ss from to → length to ≤ length from
  fields_move grammar.no_field = omega arith
  fields_move (grammar.one_field _ s ss) = omega (arith, step_moves s, fields_move ss)

  pub reference_moves : {r : _} {from to : List Word} → SpellsReference r from to → length to < length from
  reference_moves (grammar.reference s ss) = omega (arith, step_moves s, fields_move ss)

  pub expr_moves : {least : ℕ} {x : _} {from to : List Word} → SpellsExpr least x from to → length to < length from
  expr_moves (grammar.number _) = omega arith
  expr_moves (grammar.truth_value _) = omega arith
  expr_moves (grammar.timeout _) = omega arith
  expr_moves (grammar.read r) = reference_moves r
  expr_moves (grammar.poll r _ _ xs _) = omega (arith, reference_moves r, arguments_move xs)
  expr_moves (grammar.ask _ _ r _) = omega (arith, reference_moves r)
  expr_moves (grammar.unary _ _ x) = omega (arith, expr_moves x)
  expr_moves (grammar.binary _ _ x y) = omega (arith, expr_moves x, expr_moves y)
  expr_moves (grammar.parentheses _ x _) = omega (arith, expr_moves x)
  expr_moves (grammar.choice _ x _ y _ z _) = omega (arith, expr_moves x, expr_moves y, expr_moves z)

  pub argument_moves : {x : _} {from to : List Word} → SpellsArgument x from to → length to < length from
  argument_moves (grammar.into r) = reference_moves r
  argument_moves (grammar.exactly _) = omega arith
  argument_moves (grammar.exactly_minus _ _) = omega arith
  argument_moves (grammar.fixed _) = omega arith
  argument_moves (grammar.eval _ _ x _) = omega (arith, expr_moves x)

  pub argument_list_moves : {xs : _} {from to : List Word} → SpellsArgumentList xs from to → length to < length from
  argument_list_moves (grammar.last_argument x) = argument_moves x
  argument_list_moves (grammar.more_arguments x _ xs) = omega (arith, argument_moves x, argument_list_moves xs)

  pub arguments_move : {xs : _} {from to : List Word} → SpellsArguments xs from to → length to < length from
  arguments_move (grammar.argument_list xs) = argument_list_moves xs
  arguments_move (grammar.argument_call x _ xs _) = omega (arith, argument_moves x, argument_list_moves xs)
  arguments_move (grammar.argument_group _ xs _) = omega (arith, argument_list_moves xs)
