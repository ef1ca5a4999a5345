-- One name more, and the totals.
use Rattle.std.proofs.Common.{◌≡◌, ◌≢◌, ℕ, ◌+◌, ◌≤◌, ◌<◌, Bool, true, false, cond, nat_eq, List, [], ◌∷◌, ◌++◌, length, min, ap, sym, subst, ◌∙◌, inl, inr, arith}
use Rattle.std.proofs.Math.ListN.{set}
use Rattle.std.proofs.lemmas.List.{get_or-set_same, get_or-set_other}
use Rattle.std.proofs.lemmas.Bool.Decides.{eqb_tells}
use Rattle.check_names.specs.declared.totals.Total.{Total}
use Rattle.promela_model.specs.declared.thing.Thing.{Thing}
use Rattle.promela_model.specs.declared.thing.Thing.TheVariants as thing
use Rattle.check_names.specs.Entry.{Entry, entry}
use Rattle.promela_model.specs.Names.{cells_in, variables_in, constants_in}
use Rattle.check_names.specs.Env.{held, variables, constants}
use Rattle.check_names.specs.Totals.{most_cells, none, grown, total_at, IsTotalled}

variables_in-le : (t : Thing) → variables_in t ≤ 1
variables_in-le (thing.Variable v) = omega arith
variables_in-le (thing.Constant n) = omega arith
variables_in-le (thing.Typedef o n) = omega arith
variables_in-le (thing.Proctype o n) = omega arith

constants_in-le : (t : Thing) → constants_in t ≤ 1
constants_in-le (thing.Variable v) = omega arith
constants_in-le (thing.Constant n) = omega arith
constants_in-le (thing.Typedef o n) = omega arith
constants_in-le (thing.Proctype o n) = omega arith

at_most : (b : Bool) (n : ℕ) → cond b n 0 ≤ n
at_most true n = omega arith
at_most false n = omega arith

pub variables-le : (es : List Entry) (o : ℕ) → variables es o ≤ length es
variables-le [] o = omega arith
variables-le (e ∷ es) o = omega (arith, variables-le es o, variables_in-le e.thing, at_most (nat_eq e.owner o) (variables_in e.thing))

pub constants-le : (es : List Entry) → constants es ≤ length es
constants-le [] = omega arith
constants-le (e ∷ es) = omega (arith, constants-le es, constants_in-le e.thing)

pub held-more : (es : List Entry) (e : Entry) (o : ℕ) → held (es ++ e ∷ []) o ≡ held es o + cond (nat_eq e.owner o) (cells_in e.thing) 0
held-more [] e o = omega arith
held-more (f ∷ es) e o = omega (arith, held-more es e o)

pub variables-more : (es : List Entry) (e : Entry) (o : ℕ) → variables (es ++ e ∷ []) o ≡ variables es o + cond (nat_eq e.owner o) (variables_in e.thing) 0
variables-more [] e o = omega arith
variables-more (f ∷ es) e o = omega (arith, variables-more es e o)

pub constants-more : (es : List Entry) (e : Entry) → constants (es ++ e ∷ []) ≡ constants es + constants_in e.thing
constants-more [] e = omega arith
constants-more (f ∷ es) e = omega (arith, constants-more es e)

module _ (es : List Entry) (ts us : List Total) (n : ℕ) (o : ℕ) (name : List ℕ) (x : Thing) (h : IsTotalled es ts n) (same : (k : ℕ) → total_at us k ≡ total_at ts k) (room : o < length us) where
  abbrev new : Total
  new = grown (total_at us o) x

  at_owner : (k : ℕ) → o ≡ k → total_at (set us o new) k ≡ grown (total_at ts k) x
  at_owner k e = subst (λ (j : ℕ). total_at (set us o new) j ≡ grown (total_at ts j) x) e (get_or-set_same us o new none room ∙ ap (λ t. grown t x) (same o))

  elsewhere : (k : ℕ) → o ≢ k → total_at (set us o new) k ≡ total_at ts k
  elsewhere k e = get_or-set_other us o k new none (λ f. e (sym f)) ∙ same k

  cells_at : (k : ℕ) → (total_at (set us o new) k).cells ≡ min (held (es ++ entry o name x ∷ []) k) most_cells
  cells_at k = elim (eqb_tells o k) [
    | inl e ↦ let f : cond (nat_eq o k) (cells_in x) 0 ≡ cells_in x = ap (λ b. cond b (cells_in x) 0) e.0 in
        ap (λ t. t.cells) (at_owner k e.1) ∙ omega (arith, held-more es (entry o name x) k, h.cells k, f)
    | inr e ↦ let f : cond (nat_eq o k) (cells_in x) 0 ≡ 0 = ap (λ b. cond b (cells_in x) 0) e.0 in
        ap (λ t. t.cells) (elsewhere k e.1) ∙ omega (arith, held-more es (entry o name x) k, h.cells k, f)
  ]

  variables_at : (k : ℕ) → (total_at (set us o new) k).variables ≡ variables (es ++ entry o name x ∷ []) k
  variables_at k = elim (eqb_tells o k) [
    | inl e ↦ let f : cond (nat_eq o k) (variables_in x) 0 ≡ variables_in x = ap (λ b. cond b (variables_in x) 0) e.0 in
        ap (λ t. t.variables) (at_owner k e.1) ∙ omega (arith, variables-more es (entry o name x) k, h.variables k, f)
    | inr e ↦ let f : cond (nat_eq o k) (variables_in x) 0 ≡ 0 = ap (λ b. cond b (variables_in x) 0) e.0 in
        ap (λ t. t.variables) (elsewhere k e.1) ∙ omega (arith, variables-more es (entry o name x) k, h.variables k, f)
  ]

  pub totalled_more : (m : ℕ) → m ≡ n + constants_in x → IsTotalled (es ++ entry o name x ∷ []) (set us o new) m
  totalled_more m e = record { cells = cells_at; variables = variables_at; constants = omega (arith, constants-more es (entry o name x), h.constants, e) }
