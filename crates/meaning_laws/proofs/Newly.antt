-- One global name more.
use Rattle.std.proofs.Common.{◌≡◌, ℕ, suc, ◌+◌, ◌<◌, Bool, true, false, ◌||◌, cond, nat_eq, min, List, [], ◌∷◌, ◌++◌, length, Option, Some, None, refl, ap, sym, subst, ◌∙◌, inl, inr, arith}
use Rattle.std.specs.List.{AllByRecursion}
use Rattle.std.specs.Option.{is_some, option_or}
use Rattle.std.specs.Str.{bytes_eq}
use Rattle.std.proofs.lemmas.List.{length-append}
use Rattle.std.proofs.lemmas.Bool.Decides.{eqb_tells}
use Rattle.pml_token.specs.Word.{Word}
use Rattle.promela_model.specs.declared.thing.Thing.{Thing}
use Rattle.promela_model.specs.declared.thing.Thing.TheVariants as thing
use Rattle.check_names.specs.Entry.{Entry, entry, found}
use Rattle.check_names.specs.Totals.{most_cells}
use Rattle.check_names.specs.Env.{held, constants}
use Rattle.pml_program.specs.declared.form.Form.{Form}
use Rattle.pml_program.specs.declared.form.Form.TheVariants as kind
use Rattle.pml_program.specs.declared.program.Slot.{Slot}
use Rattle.promela_model.specs.Stands.{Structure, Globals, variable_named, typedef_named, constant_named, has_name, is_declared, cells_in_all}
use Rattle.promela_model.specs.Names.{cells_counted}
use Rattle.meaning_laws.proofs.Words.{with_variables, fields_of, fields-cons}
use Rattle.meaning_laws.proofs.Things.{variable_of, as_variable, as_thing, as_typedef, in_variable, in_constant, in_typedef, has_number, IsKnown, AreKnown}
use Rattle.meaning_laws.proofs.Growing.{or, if_so, found-own, found-other, same-name, constants-more, variables-own, held-own, variable-more, constant-more, typedef-more, name-more, cells-more, known-more, kind-more}
use Rattle.meaning_laws.proofs.Declaring.{Base}

-- ---- tests of two kinds

or-nought : {A : Type 0} (x : Option A) (b : Bool) → or x (cond b None None) ≡ x
or-nought (Some a) b = refl
or-nought None true = refl
or-nought None false = refl

variable-or : (x : Option (ℕ × Slot)) (b : Bool) (p : ℕ × Slot) → as_variable (or x (if_so b p)) ≡ or (as_variable x) (cond b (Some (variable_of p)) None)
variable-or (Some q) b p = refl
variable-or None true p = refl
variable-or None false p = refl

constant-or : (x : Option ℕ) (b : Bool) (k : ℕ) → or x (if_so b k) ≡ or x (cond b (Some k) None)
constant-or (Some q) b k = refl
constant-or None true k = refl
constant-or None false k = refl

typedef-or : (x : Option Structure) (b : Bool) (s : Structure) → as_typedef (or x (if_so b s)) ≡ or (as_typedef x) (cond b (as_typedef (Some s)) None)
typedef-or (Some q) b s = refl
typedef-or None true s = refl
typedef-or None false s = refl

some-or : {A : Type 0} (x : Option A) (b : Bool) (a : A) → is_some (or x (if_so b a)) ≡ (is_some x || b)
some-or (Some y) b a = refl
some-or None true a = refl
some-or None false a = refl

some-else : (x : Option Thing) (b : Bool) (t : Thing) → is_some (option_or x (if_so b t)) ≡ (is_some x || b)
some-else (Some y) b a = refl
some-else None true a = refl
some-else None false a = refl

-- where a test of one of four kinds may be true now
first-more : (a b c d n : Bool) → (((a || b) || (c || d)) || n) ≡ (((a || n) || b) || (c || d))
first-more true b c d n = refl
first-more false true c d true = refl
first-more false true c d false = refl
first-more false false true d true = refl
first-more false false true d false = refl
first-more false false false true true = refl
first-more false false false true false = refl
first-more false false false false true = refl
first-more false false false false false = refl

second-more : (a b c d n : Bool) → (((a || b) || (c || d)) || n) ≡ ((a || (b || n)) || (c || d))
second-more true b c d n = refl
second-more false true c d n = refl
second-more false false true d true = refl
second-more false false true d false = refl
second-more false false false true true = refl
second-more false false false true false = refl
second-more false false false false true = refl
second-more false false false false false = refl

third-more : (a b c d n : Bool) → (((a || b) || (c || d)) || n) ≡ ((a || b) || ((c || n) || d))
third-more true b c d n = refl
third-more false true c d n = refl
third-more false false true d n = refl
third-more false false false true true = refl
third-more false false false true false = refl
third-more false false false false true = refl
third-more false false false false false = refl

fourth-more : (a b c d n : Bool) → (((a || b) || (c || d)) || n) ≡ ((a || b) || (c || (d || n)))
fourth-more true b c d n = refl
fourth-more false true c d n = refl
fourth-more false false true d n = refl
fourth-more false false false true n = refl
fourth-more false false false false n = refl

-- ---- typedefs

or-assoc : (a b c : Bool) → ((a || b) || c) ≡ (a || (b || c))
or-assoc true b c = refl
or-assoc false b c = refl

or-false : (a : Bool) → (a || false) ≡ a
or-false true = refl
or-false false = refl

number-more : (ts : List Structure) (x : Structure) (t : ℕ) → has_number (ts ++ x ∷ []) t ≡ (has_number ts t || nat_eq t x.number)
number-more [] x t = or-false (nat_eq t x.number)
number-more (y ∷ ts) x t = ap (λ (b : Bool). nat_eq t y.number || b) (number-more ts x t) ∙ sym (or-assoc (nat_eq t y.number) (has_number ts t) (nat_eq t x.number))

still-first : (b c : Bool) (x y z : List Slot) → (b || c) ≡ true → (c ≡ true → y ≡ z) → cond b x y ≡ cond b x z
still-first true c x y z h g = refl
still-first false c x y z h g = g h

fields-old : (ts : List Structure) (x : Structure) (t : ℕ) → has_number ts t ≡ true → fields_of (ts ++ x ∷ []) t ≡ fields_of ts t
fields-old [] x t h = cc
fields-old (y ∷ ts) x t h =
    fields-cons y (ts ++ x ∷ []) t
    ∙ still-first (nat_eq t y.number) (has_number ts t) y.fields (fields_of (ts ++ x ∷ []) t) (fields_of ts t) h (fields-old ts x t)
    ∙ sym (fields-cons y ts t)

now-first : (b c : Bool) (x y z : List Slot) → (b || c) ≡ false → (c ≡ false → y ≡ z) → cond b x y ≡ z
now-first true c x y z h g = cc
now-first false c x y z h g = g h

fields-new : (ts : List Structure) (x : Structure) (t : ℕ) → has_number ts t ≡ false → nat_eq t x.number ≡ true → fields_of (ts ++ x ∷ []) t ≡ x.fields
fields-new [] x t h g = fields-cons x [] t ∙ ap (λ (b : Bool). cond b x.fields []) g
fields-new (y ∷ ts) x t h g = fields-cons y (ts ++ x ∷ []) t ∙ now-first (nat_eq t y.number) (has_number ts t) y.fields (fields_of (ts ++ x ∷ []) t) x.fields h (λ f. fields-new ts x t f g)

known-later : (ts : List Structure) (x : Structure) (f : Form) → IsKnown ts f → IsKnown (ts ++ x ∷ []) f
known-later ts x (kind.Struct t) h = number-more ts x t ∙ ap (λ (b : Bool). b || nat_eq t x.number) h
known-later ts x (kind.Plain s) h = h
known-later ts x (kind.Unsigned w) h = h
known-later ts x kind.Unknown h = h

are-known-later : (ts : List Structure) (x : Structure) (ss : List Slot) → AreKnown ts ss → AreKnown (ts ++ x ∷ []) ss
are-known-later ts x [] h = tt
are-known-later ts x (s ∷ ss) h = (known-later ts x s.form h.0, are-known-later ts x ss h.1)

inner-later : (ts us : List Structure) (x : Structure) → AllByRecursion (λ (y : Structure). AreKnown ts y.fields) us → AreKnown ts x.fields
    → AllByRecursion (λ (y : Structure). AreKnown (ts ++ x ∷ []) y.fields) (us ++ x ∷ [])
inner-later ts [] x h g = (are-known-later ts x x.fields g, tt)
inner-later ts (y ∷ us) x h g = (are-known-later ts x y.fields h.0, inner-later ts us x h.1 g)

-- ---- a name that is declared now, and was not before

module _ (gs : Globals) (k : ℕ) (es : List Entry) (w : List ℕ) (t : Thing) (none : found es 0 w ≡ None) (h : Base gs k es) where
  abbrev now : List Entry
  now = es ++ entry 0 w t ∷ []

  there : (n : List ℕ) → found now 0 n ≡ option_or (found es 0 n) (if_so (bytes_eq n w) t)
  there n = found-own es 0 w t n

  newly : (n : List ℕ) → bytes_eq n w ≡ true → found es 0 n ≡ None
  newly n e = ap (λ (m : List ℕ). found es 0 m) (same-name n w e) ∙ none

  becomes : {A : Type 0} (kind : Option Thing → Option A) → kind None ≡ None → (a : Option A) → kind (Some t) ≡ a → (look : List ℕ → Option A)
      → ((n : List ℕ) → look n ≡ kind (found es 0 n)) → (n : List ℕ) → or (look n) (cond (bytes_eq n w) a None) ≡ kind (found now 0 n)
  becomes kind nothing a is look same n = kind-more kind nothing (look n) (found es 0 n) (bytes_eq n w) t a is (same n) (newly n) ∙ ap kind (sym (there n))

  stays : {A : Type 0} (kind : Option Thing → Option A) → kind None ≡ None → kind (Some t) ≡ None → (look : List ℕ → Option A)
      → ((n : List ℕ) → look n ≡ kind (found es 0 n)) → (n : List ℕ) → look n ≡ kind (found now 0 n)
  stays kind nothing is look same n = sym (or-nought (look n) (bytes_eq n w)) ∙ becomes kind nothing None is look same n

  some-now : (n : List ℕ) → is_some (found now 0 n) ≡ (is_declared gs n || bytes_eq n w)
  some-now n = ap is_some (there n) ∙ some-else (found es 0 n) (bytes_eq n w) t ∙ ap (λ (b : Bool). b || bytes_eq n w) (h.declared n)

  inner-found : (u : ℕ) → 0 < u → (n : List ℕ) → found now u n ≡ found es u n
  inner-found u p n = found-other es u 0 w t n (λ e. omega (arith, p, e))

module _ (gs : Globals) (k : ℕ) (es : List Entry) where
  -- a variable
  pub base-variable : (s : Slot) → found es 0 s.name.text ≡ None → IsKnown gs.typedefs s.form → Base gs k es
      → Base (with_variables gs (gs.variables ++ s ∷ [])) k (es ++ entry 0 s.name.text (thing.Variable (variable_of (length gs.variables, s))) ∷ [])
  base-variable s none known h =
      let w : List ℕ = s.name.text in
      let p : ℕ × Slot = (length gs.variables, s) in
      let t : Thing = thing.Variable (variable_of p) in
      let e : Entry = entry 0 w t in
      record {
        agrees = record {
          variables = λ n.
              ap as_variable (variable-more gs.variables s n) ∙ variable-or (variable_named gs.variables n) (bytes_eq n w) p
              ∙ becomes gs k es w t none h in_variable refl (Some (variable_of p)) refl (λ m. as_variable (variable_named gs.variables m)) h.agrees.variables n;
          constants = stays gs k es w t none h in_constant refl refl (constant_named gs.constants) h.agrees.constants;
          typedefs = stays gs k es w t none h in_typedef refl refl (λ m. as_typedef (typedef_named gs.typedefs m)) h.agrees.typedefs;
          fields = λ u is n. inner-found gs k es w t none h u (h.positive u is) n ∙ h.agrees.fields u is n;
          known = known-more gs.typedefs gs.variables s h.agrees.known known;
          inner = h.agrees.inner;
        };
        count = omega (arith, variables-own es e, h.count, length-append gs.variables (s ∷ []));
        held = omega (arith, held-own es e, h.held, cells-more gs.variables s);
        constants = omega (arith, constants-more es e, h.constants);
        bound = h.bound;
        positive = h.positive;
        declared = λ n.
            some-now gs k es w t none h n
            ∙ first-more (is_some (variable_named gs.variables n)) (is_some (constant_named gs.constants n)) (is_some (typedef_named gs.typedefs n)) (has_name gs.proctypes n) (bytes_eq n w)
            ∙ ap (λ (b : Bool). (b || is_some (constant_named gs.constants n)) || (is_some (typedef_named gs.typedefs n) || has_name gs.proctypes n)) (sym (ap is_some (variable-more gs.variables s n) ∙ some-or (variable_named gs.variables n) (bytes_eq n w) p));
      }

  abbrev with_constant_name : Word → Globals
  with_constant_name w = record gs { constants = gs.constants ++ w ∷ [] }

  -- an mtype name
  pub base-constant : (w : Word) → found es 0 w.text ≡ None → Base gs k es → Base (with_constant_name w) k (es ++ entry 0 w.text (thing.Constant (constants es + 1)) ∷ [])
  base-constant w none h =
      let t : Thing = thing.Constant (constants es + 1) in
      let e : Entry = entry 0 w.text t in
      let number : suc (length gs.constants) ≡ constants es + 1 = omega (arith, h.constants) in
      record {
        agrees = record {
          variables = stays gs k es w.text t none h in_variable refl refl (λ m. as_variable (variable_named gs.variables m)) h.agrees.variables;
          constants = λ n.
              constant-more gs.constants w n ∙ ap (λ (m : ℕ). or (constant_named gs.constants n) (if_so (bytes_eq n w.text) m)) number
              ∙ constant-or (constant_named gs.constants n) (bytes_eq n w.text) (constants es + 1)
              ∙ becomes gs k es w.text t none h in_constant refl (Some (constants es + 1)) refl (constant_named gs.constants) h.agrees.constants n;
          typedefs = stays gs k es w.text t none h in_typedef refl refl (λ m. as_typedef (typedef_named gs.typedefs m)) h.agrees.typedefs;
          fields = λ u is n. inner-found gs k es w.text t none h u (h.positive u is) n ∙ h.agrees.fields u is n;
          known = h.agrees.known;
          inner = h.agrees.inner;
        };
        count = omega (arith, variables-own es e, h.count);
        held = omega (arith, held-own es e, h.held);
        constants = omega (arith, constants-more es e, h.constants, length-append gs.constants (w ∷ []));
        bound = h.bound;
        positive = h.positive;
        declared = λ n.
            some-now gs k es w.text t none h n
            ∙ second-more (is_some (variable_named gs.variables n)) (is_some (constant_named gs.constants n)) (is_some (typedef_named gs.typedefs n)) (has_name gs.proctypes n) (bytes_eq n w.text)
            ∙ ap (λ (b : Bool). (is_some (variable_named gs.variables n) || b) || (is_some (typedef_named gs.typedefs n) || has_name gs.proctypes n)) (sym (ap is_some (constant-more gs.constants w n) ∙ some-or (constant_named gs.constants n) (bytes_eq n w.text) (suc (length gs.constants))));
      }

  abbrev with_typedef_name : Structure → Globals
  with_typedef_name x = record gs { typedefs = gs.typedefs ++ x ∷ [] }

  is-k : (x : Structure) → x.number ≡ k → (u : ℕ) → nat_eq u x.number ≡ true → u ≡ k
  is-k x same u e = elim (eqb_tells u x.number) [
    | inl q ↦ q.1 ∙ same
    | inr q ↦ let f : false ≡ true = sym q.0 ∙ e in cc
  ]

  field-now : (x : Structure) → x.number ≡ k → 0 < k → (w : List ℕ) (t : Thing) → found es 0 w ≡ None → ((n : List ℕ) → found es k n ≡ as_thing (variable_named x.fields n)) → Base gs k es
      → (u : ℕ) (n : List ℕ) (a b : Bool) → has_number gs.typedefs u ≡ a → nat_eq u x.number ≡ b → (a || b) ≡ true
      → found (es ++ entry 0 w t ∷ []) u n ≡ as_thing (variable_named (fields_of (gs.typedefs ++ x ∷ []) u) n)
  field-now x same p w t none own h u n true b e f g =
      inner-found gs k es w t none h u (h.positive u e) n ∙ h.agrees.fields u e n ∙ ap (λ (ss : List Slot). as_thing (variable_named ss n)) (sym (fields-old gs.typedefs x u e))
  field-now x same p w t none own h u n false true e f g =
      let here : u ≡ k = is-k x same u f in
      inner-found gs k es w t none h u (subst (λ (v : ℕ). 0 < v) (sym here) p) n ∙ ap (λ (v : ℕ). found es v n) here ∙ own n
      ∙ ap (λ (ss : List Slot). as_thing (variable_named ss n)) (sym (fields-new gs.typedefs x u e f))
  field-now x same p w t none own h u n false false e f g = cc

  bound-now : (x : Structure) → x.number ≡ k → Base gs k es → (u : ℕ) (a b : Bool) → has_number gs.typedefs u ≡ a → nat_eq u x.number ≡ b → (a || b) ≡ true → u < k + 1
  bound-now x same h u true b e f g = let q : u < k = h.bound u e in omega (arith, q)
  bound-now x same h u false true e f g = let q : u ≡ k = is-k x same u f in omega (arith, q)
  bound-now x same h u false false e f g = cc

  positive-now : (x : Structure) → x.number ≡ k → 0 < k → Base gs k es → (u : ℕ) (a b : Bool) → has_number gs.typedefs u ≡ a → nat_eq u x.number ≡ b → (a || b) ≡ true → 0 < u
  positive-now x same p h u true b e f g = h.positive u e
  positive-now x same p h u false true e f g = let q : u ≡ k = is-k x same u f in omega (arith, p, q)
  positive-now x same p h u false false e f g = cc

  -- a typedef with the number k
  pub base-typedef : (x : Structure) → x.number ≡ k → 0 < k → found es 0 x.name.text ≡ None → AreKnown gs.typedefs x.fields → held es k ≡ cells_in_all x.fields
      → ((n : List ℕ) → found es k n ≡ as_thing (variable_named x.fields n)) → Base gs k es
      → Base (with_typedef_name x) (k + 1) (es ++ entry 0 x.name.text (thing.Typedef k (min (held es k) most_cells)) ∷ [])
  base-typedef x same p none known has own h =
      let w : List ℕ = x.name.text in
      let t : Thing = thing.Typedef k (min (held es k) most_cells) in
      let e : Entry = entry 0 w t in
      let pair : as_typedef (Some x) ≡ Some (k, min (held es k) most_cells) = ap (λ (m : ℕ). Some (m, cells_counted (cells_in_all x.fields))) same ∙ ap (λ (m : ℕ). Some (k, min m most_cells)) (sym has) in
      record {
        agrees = record {
          variables = stays gs k es w t none h in_variable refl refl (λ m. as_variable (variable_named gs.variables m)) h.agrees.variables;
          constants = stays gs k es w t none h in_constant refl refl (constant_named gs.constants) h.agrees.constants;
          typedefs = λ n.
              ap as_typedef (typedef-more gs.typedefs x n) ∙ typedef-or (typedef_named gs.typedefs n) (bytes_eq n w) x
              ∙ becomes gs k es w t none h in_typedef refl (as_typedef (Some x)) (sym pair) (λ m. as_typedef (typedef_named gs.typedefs m)) h.agrees.typedefs n;
          fields = λ u is n. field-now x same p w t none own h u n (has_number gs.typedefs u) (nat_eq u x.number) refl refl (sym (number-more gs.typedefs x u) ∙ is);
          known = are-known-later gs.typedefs x gs.variables h.agrees.known;
          inner = inner-later gs.typedefs gs.typedefs x h.agrees.inner known;
        };
        count = omega (arith, variables-own es e, h.count);
        held = omega (arith, held-own es e, h.held);
        constants = omega (arith, constants-more es e, h.constants);
        bound = λ u is. bound-now x same h u (has_number gs.typedefs u) (nat_eq u x.number) refl refl (sym (number-more gs.typedefs x u) ∙ is);
        positive = λ u is. positive-now x same p h u (has_number gs.typedefs u) (nat_eq u x.number) refl refl (sym (number-more gs.typedefs x u) ∙ is);
        declared = λ n.
            some-now gs k es w t none h n
            ∙ third-more (is_some (variable_named gs.variables n)) (is_some (constant_named gs.constants n)) (is_some (typedef_named gs.typedefs n)) (has_name gs.proctypes n) (bytes_eq n w)
            ∙ ap (λ (b : Bool). (is_some (variable_named gs.variables n) || is_some (constant_named gs.constants n)) || (b || has_name gs.proctypes n)) (sym (ap is_some (typedef-more gs.typedefs x n) ∙ some-or (typedef_named gs.typedefs n) (bytes_eq n w) x));
      }

  abbrev with_proctype_name : Word → Globals
  with_proctype_name w = record gs { proctypes = gs.proctypes ++ w ∷ [] }

  -- a proctype
  pub base-proctype : (w : Word) (o m : ℕ) → found es 0 w.text ≡ None → Base gs k es → Base (with_proctype_name w) k (es ++ entry 0 w.text (thing.Proctype o m) ∷ [])
  base-proctype w o m none h =
      let t : Thing = thing.Proctype o m in
      let e : Entry = entry 0 w.text t in
      record {
        agrees = record {
          variables = stays gs k es w.text t none h in_variable refl refl (λ m. as_variable (variable_named gs.variables m)) h.agrees.variables;
          constants = stays gs k es w.text t none h in_constant refl refl (constant_named gs.constants) h.agrees.constants;
          typedefs = stays gs k es w.text t none h in_typedef refl refl (λ m. as_typedef (typedef_named gs.typedefs m)) h.agrees.typedefs;
          fields = λ u is n. inner-found gs k es w.text t none h u (h.positive u is) n ∙ h.agrees.fields u is n;
          known = h.agrees.known;
          inner = h.agrees.inner;
        };
        count = omega (arith, variables-own es e, h.count);
        held = omega (arith, held-own es e, h.held);
        constants = omega (arith, constants-more es e, h.constants);
        bound = h.bound;
        positive = h.positive;
        declared = λ n.
            some-now gs k es w.text t none h n
            ∙ fourth-more (is_some (variable_named gs.variables n)) (is_some (constant_named gs.constants n)) (is_some (typedef_named gs.typedefs n)) (has_name gs.proctypes n) (bytes_eq n w.text)
            ∙ ap (λ (b : Bool). (is_some (variable_named gs.variables n) || is_some (constant_named gs.constants n)) || (is_some (typedef_named gs.typedefs n) || b)) (sym (name-more gs.proctypes w n));
      }

pub base-later : (gs : Globals) (k : ℕ) (es : List Entry) → Base gs k es → Base gs (k + 1) es
base-later gs k es h = record {
  agrees = h.agrees;
  count = h.count;
  held = h.held;
  constants = h.constants;
  bound = λ t is. let f : t < k = h.bound t is in omega (arith, f);
  positive = h.positive;
  declared = h.declared;
}
