-- Variables stand for the slots that they are numbered as.
use Rattle.std.proofs.Common.{◌≡◌, ◌≢◌, ℕ, nat_eq, ◌||◌, ◌+◌, ◌<◌, ◌≤◌, Bool, true, false, cond, min, pos, negsuc, List, [], ◌∷◌, ◌++◌, map, length, Option, Some, None, refl, ap, sym, subst, ◌∙◌, inl, inr, arith}
use Rattle.std.specs.Option.{is_some, option_or, unwrap_or}
use Rattle.std.specs.Str.{bytes_eq}
use Rattle.std.proofs.lemmas.List.{length-append}
use Rattle.pml_token.specs.Word.{Word}
use Rattle.pml_tree.specs.declared.tree.Sort.{Sort}
use Rattle.pml_tree.specs.declared.tree.Sort.TheVariants as sort
use Rattle.pml_tree.specs.declared.tree.Initial.{Initial as TreeInitial}
use Rattle.pml_tree.specs.declared.tree.Initial.TheVariants as begin
use Rattle.pml_tree.specs.declared.tree.Variable.{Variable as TreeVariable}
use Rattle.pml_tree.specs.declared.tree.Expr.{Expr as TreeExpr}
use Rattle.promela_model.specs.Stands.{Structure, Globals, variable_named, typedef_named, is_declared, proctype_named, cells_in_all}
use Rattle.promela_model.specs.Marks.{made_by}
use Rattle.check_uses.specs.Parts.{size_of}
use Rattle.promela_model.specs.declared.mark.Constant.{Constant}
use Rattle.promela_model.specs.declared.mark.Constant.TheVariants as number
use Rattle.promela_model.specs.declared.mark.Declared.TheVariants as declared_as
use Rattle.promela_model.specs.declared.mark.Role.{Role}
use Rattle.promela_model.specs.declared.mark.Role.TheVariants as role
use Rattle.promela_model.specs.declared.thing.Thing.{Thing}
use Rattle.promela_model.specs.declared.thing.Thing.TheVariants as thing
use Rattle.check_names.specs.Entry.{Entry, entry, found}
use Rattle.promela_model.specs.Names.{visible, constants_in, form, stride, form_of, stride_of, user, only_process, constant, cells_counted, length_of, count_of}
use Rattle.check_names.specs.Totals.{most_cells}
use Rattle.check_names.specs.Env.{held, variables, constants, thing_of, after}
use Rattle.pml_program.specs.declared.form.Form.{Form}
use Rattle.pml_program.specs.declared.form.Form.TheVariants as kind
use Rattle.pml_program.specs.declared.program.Initial.{Initial}
use Rattle.pml_program.specs.declared.program.Initial.TheVariants as i
use Rattle.pml_program.specs.declared.program.Slot.{Slot}
use Rattle.check_resolve.specs.Numbered.{Scope, scope}
use Rattle.check_resolve.specs.Declarations.{Known, known, natural, initial, slot, declares, added_variable, with_variable, with_variables}
use Rattle.check_resolve.specs.Statements.{proctype_of}
use Rattle.promela_model.specs.StandsModel as stands
use Rattle.promela_model.specs.StandsModel.{seen, StandsSort, StandsInitial, StandsVariable, StandsVariables}
use Rattle.meaning_laws.proofs.Things.{variable_of, as_thing, as_typedef, in_variable, in_constant, in_typedef, has_number, IsKnown, AreKnown}
use Rattle.meaning_laws.proofs.Agreeing.{Agrees, Sees, own-local, own-none}
use Rattle.meaning_laws.proofs.Growing.{if_so, owner-same, found-own, found-other, after-new, name-same, constants-more, variables-own, held-own, variables-other, held-other, Below, below-more, variable-more, thing-or, cells-more, known-more}
use Rattle.meaning_laws.proofs.Standing.{expr-stands}
use Rattle.meaning_laws.proofs.Only.{only_expr}

-- ---- the words of the numbering are those of the relation

natural-is : (c : Constant) → count_of c ≡ natural c
natural-is (number.Is (pos n)) = refl
natural-is (number.Is (negsuc n)) = refl
natural-is number.Faulty = refl
natural-is number.Open = refl

pub count-is : (c : Constant) → count_of c ≡ natural c
count-is c = natural-is c

array-is : (x : Option TreeExpr) → is_some x ≡ is_some (size_of x)
array-is None = refl
array-is (Some e) = refl

-- ---- types

or-nothing : (x : Option Thing) → option_or x None ≡ x
or-nothing None = refl
or-nothing (Some t) = refl

typedef-found : (x : Option Thing) (t n : ℕ) → Some (t, n) ≡ in_typedef x → x ≡ Some (thing.Typedef t n)
typedef-found (Some (thing.Variable y)) t n e = cc
typedef-found (Some (thing.Constant k)) t n e = cc
typedef-found (Some (thing.Typedef u m)) t n e = let same : (t, n) ≡ (u, m) = cc in ap (λ (q : ℕ × ℕ). Some (thing.Typedef q.0 q.1)) (sym same)
typedef-found (Some (thing.Proctype o k)) t n e = cc
typedef-found None t n e = cc

no-form : (x : Option Thing) → None ≡ in_typedef x → (form_of x ≡ kind.Unknown) × (stride_of x ≡ 1)
no-form (Some (thing.Variable y)) e = (refl, refl)
no-form (Some (thing.Constant k)) e = (refl, refl)
no-form (Some (thing.Typedef u m)) e = cc
no-form (Some (thing.Proctype o k)) e = (refl, refl)
no-form None e = (refl, refl)

or-true : (b : Bool) → (b || true) ≡ true
or-true true = refl
or-true false = refl

numbered-first : (y x : Structure) (r : Option Structure) (c b : Bool) → cond b (Some y) r ≡ Some x → (r ≡ Some x → c ≡ true) → (nat_eq x.number y.number || c) ≡ true
numbered-first y x r c true e h = let same : y ≡ x = cc in subst (λ (z : Structure). (nat_eq z.number y.number || c) ≡ true) same (ap (λ (b : Bool). b || c) (owner-same y.number))
numbered-first y x r c false e h = ap (λ (d : Bool). nat_eq x.number y.number || d) (h e) ∙ or-true (nat_eq x.number y.number)

numbered-there : (ts : List Structure) (n : List ℕ) (x : Structure) → typedef_named ts n ≡ Some x → has_number ts x.number ≡ true
numbered-there [] n x e = cc
numbered-there (y ∷ ts) n x e = numbered-first y x (typedef_named ts n) (has_number ts x.number) (bytes_eq n y.name.text) e (numbered-there ts n x)

module _ (gs : Globals) (ls : List Slot) (all es : List Entry) (u : ℕ) (sees : Sees gs ls (scope all es u)) where
  visible-local : (n : List ℕ) (p : ℕ × Slot) → variable_named ls n ≡ Some p → visible (found es) u n ≡ Some (thing.Variable (variable_of p))
  visible-local n p e = ap (λ (x : Option Thing). option_or x (found es 0 n)) (own-local ls es u sees.own n p e).1

  visible-global : (n : List ℕ) → variable_named ls n ≡ None → visible (found es) u n ≡ found es 0 n
  visible-global n e =
      ap (option_or (found es u n)) (sym (or-nothing (found es 0 n))) ∙ (own-none ls es u sees.own n e).1 None ∙ or-nothing (found es 0 n)

  typedef-is : (n : List ℕ) (x : Structure) → variable_named ls n ≡ None → typedef_named gs.typedefs n ≡ Some x → visible (found es) u n ≡ Some (thing.Typedef x.number (cells_counted (cells_in_all x.fields)))
  typedef-is n x h e = visible-global n h ∙ typedef-found (found es 0 n) x.number (cells_counted (cells_in_all x.fields)) (sym (ap as_typedef e) ∙ sees.global.typedefs n)

  hidden-is : (n : List ℕ) (p : ℕ × Slot) → variable_named ls n ≡ Some p → (form_of (visible (found es) u n) ≡ kind.Unknown) × (stride_of (visible (found es) u n) ≡ 1)
  hidden-is n p e = (ap form_of (visible-local n p e), ap stride_of (visible-local n p e))

  lost-is : (n : List ℕ) → typedef_named gs.typedefs n ≡ None → (form_of (visible (found es) u n) ≡ kind.Unknown) × (stride_of (visible (found es) u n) ≡ 1)
  lost-is n e = go (variable_named ls n) refl
    where
      none : None ≡ in_typedef (found es 0 n)
      none = sym (ap as_typedef e) ∙ sees.global.typedefs n

      go : (x : Option (ℕ × Slot)) → variable_named ls n ≡ x → (form_of (visible (found es) u n) ≡ kind.Unknown) × (stride_of (visible (found es) u n) ≡ 1)
      go (Some p) h = hidden-is n p h
      go None h = (ap form_of (visible-global n h) ∙ (no-form (found es 0 n) none).0, ap stride_of (visible-global n h) ∙ (no-form (found es 0 n) none).1)

  abbrev Sorted : Sort → Form → ℕ → Type 0
  Sorted = StandsSort gs ls

  named-stands : (n : Word) (own : Option (ℕ × Slot)) (x : Option Structure) → variable_named ls n.text ≡ own → typedef_named gs.typedefs n.text ≡ x → Sorted (sort.Named n) (form_of (visible (found es) u n.text)) (stride_of (visible (found es) u n.text))
  named-stands n (Some p) x h e = rw ((hidden-is n.text p h).0, (hidden-is n.text p h).1) (stands.hidden_sort h)
  named-stands n None (Some x) h e = rw (typedef-is n.text x h e) (stands.typedef_sort h e)
  named-stands n None None h e = rw ((lost-is n.text e).0, (lost-is n.text e).1) (stands.lost_sort e)

  pub sort-stands : (s : Sort) → Sorted s (form (found es) u s) (stride (found es) u s)
  sort-stands (sort.Plain t) = stands.plain_sort t
  sort-stands (sort.Unsigned n) = stands.unsigned_sort n
  sort-stands (sort.Named n) = named-stands n (variable_named ls n.text) (typedef_named gs.typedefs n.text) refl refl

  only_sort : {s : Sort} {f : Form} {w : ℕ} → Sorted s f w → (f ≡ form (found es) u s) × (w ≡ stride (found es) u s)
  only_sort (stands.plain_sort t) = (refl, refl)
  only_sort (stands.unsigned_sort n) = (refl, refl)
  only_sort (stands.typedef_sort {n} {x} h e) = (sym (ap form_of (typedef-is n.text x h e)), sym (ap stride_of (typedef-is n.text x h e)))
  only_sort (stands.hidden_sort {n} {k} {s} h) = (sym (hidden-is n.text (k, s) h).0, sym (hidden-is n.text (k, s) h).1)
  only_sort (stands.lost_sort {n} e) = (sym (lost-is n.text e).0, sym (lost-is n.text e).1)

  pub sort-known : {s : Sort} {f : Form} {w : ℕ} → Sorted s f w → IsKnown gs.typedefs f
  sort-known (stands.plain_sort t) = tt
  sort-known (stands.unsigned_sort n) = tt
  sort-known (stands.typedef_sort {n} {x} h e) = numbered-there gs.typedefs n.text x e
  sort-known (stands.hidden_sort h) = tt
  sort-known (stands.lost_sort e) = tt

  -- ---- initialisers

  abbrev sc : Scope
  sc = scope all es u

  initial-stands : (x : Option TreeInitial) → StandsInitial gs ls x (initial x sc)
  initial-stands None = stands.no_initial
  initial-stands (Some (begin.Value e)) = stands.value_initial (expr-stands gs ls sc sees e)
  initial-stands (Some (begin.Channel e ts)) = subst (λ (n : ℕ). StandsInitial gs ls (Some (begin.Channel e ts)) (i.Channel n (map kind.Plain ts))) (natural-is (constant e)) stands.channel_initial

  only_initial : {x : Option TreeInitial} {y : Initial} → StandsInitial gs ls x y → y ≡ initial x sc
  only_initial stands.no_initial = refl
  only_initial (stands.value_initial h) = ap i.Value (only_expr gs ls sc sees h)
  only_initial (stands.channel_initial {e} {ts}) = ap (λ (n : ℕ). i.Channel n (map kind.Plain ts)) (natural-is (constant e))

abbrev slot_with : Word → Form → Bool → ℕ → ℕ → ℕ → Initial → Slot
slot_with n f a o l w x = record { name = n; form = f; array = a; offset = o; length = l; stride = w; initial = x }

-- the slot of a variable of the owner o, as it is numbered
abbrev pub slot_in : List Entry → List Entry → ℕ → ℕ → TreeVariable → Slot
slot_in all es o u v = slot_with v.name (form (found es) u v.sort) (is_some (size_of v.size)) (min (held es o) most_cells) (length_of (size_of v.size)) (stride (found es) u v.sort) (initial v.initial (scope all es u))

module _ (gs : Globals) (ls before : List Slot) (all es : List Entry) (o u : ℕ) (sees : Sees gs ls (scope all es u)) (count : held es o ≡ cells_in_all before) where
  variable-same : (v : TreeVariable) → slot_with v.name (form (found es) u v.sort) (is_some v.size) (cells_counted (cells_in_all before)) (length_of (size_of v.size)) (stride (found es) u v.sort) (initial v.initial (scope all es u)) ≡ slot_in all es o u v
  variable-same v =
      let f : Form = form (found es) u v.sort in
      let w : ℕ = stride (found es) u v.sort in
      let x : Initial = initial v.initial (scope all es u) in
      ap (λ (a : Bool). slot_with v.name f a (cells_counted (cells_in_all before)) (length_of (size_of v.size)) w x) (array-is v.size)
      ∙ ap (λ (c : ℕ). slot_with v.name f (is_some (size_of v.size)) (cells_counted c) (length_of (size_of v.size)) w x) (sym count)

  pub variable-stands : (v : TreeVariable) → StandsVariable gs ls before v (slot_in all es o u v)
  variable-stands v = subst (StandsVariable gs ls before v) (variable-same v) (stands.variable (sort-stands gs ls all es u sees v.sort) (initial-stands gs ls all es u sees v.initial))

  pub only_variable : {v : TreeVariable} {s : Slot} → StandsVariable gs ls before v s → s ≡ slot_in all es o u v
  only_variable (stands.variable {v} {f} {width} {x} h g) =
      let type = only_sort gs ls all es u sees h in
      ap (λ (y : Form). slot_with v.name y (is_some v.size) (cells_counted (cells_in_all before)) (length_of (size_of v.size)) width x) type.0
      ∙ ap (λ (y : ℕ). slot_with v.name (form (found es) u v.sort) (is_some v.size) (cells_counted (cells_in_all before)) (length_of (size_of v.size)) y x) type.1
      ∙ ap (slot_with v.name (form (found es) u v.sort) (is_some v.size) (cells_counted (cells_in_all before)) (length_of (size_of v.size)) (stride (found es) u v.sort)) (only_initial gs ls all es u sees g)
      ∙ variable-same v

-- ---- what is declared so far, and what is found of it

-- with the numbers of the global things
pub record Base (gs : Globals) (k : ℕ) (es : List Entry) : Type 0 where
  pub agrees : Agrees gs es
  pub count : variables es 0 ≡ length gs.variables
  pub held : held es 0 ≡ cells_in_all gs.variables
  pub constants : constants es ≡ length gs.constants
  pub bound : (t : ℕ) → has_number gs.typedefs t ≡ true → t < k
  pub positive : (t : ℕ) → has_number gs.typedefs t ≡ true → 0 < t
  pub declared : (n : List ℕ) → is_some (found es 0 n) ≡ is_declared gs n

-- a run finds its proctype as the text has it
abbrev pub Runs : Globals → List Entry → List Entry → Type 0
Runs gs all es = (n : List ℕ) → proctype_of (option_or (found es 0 n) (only_process (found all 0 n))) ≡ unwrap_or (proctype_named 0 gs.text n) 0

-- in a typedef or a proctype with the number o, where `start` was declared before it
pub record Ready (gs : Globals) (start : List Entry) (o : ℕ) (x : Known) : Type 0 where
  pub base : Base gs o x.names
  pub own : (n : List ℕ) → found x.names o n ≡ as_thing (variable_named x.slots n)
  pub known : AreKnown gs.typedefs x.slots
  pub count : variables x.names o ≡ length x.slots
  pub held : held x.names o ≡ cells_in_all x.slots
  pub below : Below (o + 1) x.names
  pub still : (n : List ℕ) → found x.names 0 n ≡ found start 0 n

above : (o : ℕ) → 0 < o → 0 ≢ o
above o p e = omega (arith, p, e)

agrees-other : (gs : Globals) (es : List Entry) (o k : ℕ) (w : List ℕ) (t : Thing) → 0 < o → k ≤ o → ((u : ℕ) → has_number gs.typedefs u ≡ true → u < k) → Agrees gs es → Agrees gs (es ++ entry o w t ∷ [])
agrees-other gs es o k w t p q bound h = record {
  variables = λ n. h.variables n ∙ ap in_variable (sym (found-other es 0 o w t n (above o p)));
  constants = λ n. h.constants n ∙ ap in_constant (sym (found-other es 0 o w t n (above o p)));
  typedefs = λ n. h.typedefs n ∙ ap in_typedef (sym (found-other es 0 o w t n (above o p)));
  fields = λ u is n. found-other es u o w t n (λ e. let f : u < k = bound u is in omega (arith, e, f, q)) ∙ h.fields u is n;
  known = h.known;
  inner = h.inner;
}

base-other : (gs : Globals) (es : List Entry) (o k : ℕ) (w : List ℕ) (t : Thing) → 0 < o → k ≤ o → constants_in t ≡ 0 → Base gs k es → Base gs k (es ++ entry o w t ∷ [])
base-other gs es o k w t p q none h = record {
  agrees = agrees-other gs es o k w t p q h.bound h.agrees;
  count = variables-other es (entry o w t) 0 (λ e. above o p (sym e)) ∙ h.count;
  held = held-other es (entry o w t) 0 (λ e. above o p (sym e)) ∙ h.held;
  constants = omega (arith, constants-more es (entry o w t), none, h.constants);
  bound = h.bound;
  positive = h.positive;
  declared = λ n. ap is_some (found-other es 0 o w t n (above o p)) ∙ h.declared n;
}

-- one variable more of the owner o
grown : (gs : Globals) (start es : List Entry) (o : ℕ) (ss : List Slot) (s : Slot) → 0 < o → IsKnown gs.typedefs s.form → Ready gs start o (known es ss) → Ready gs start o (known (es ++ entry o s.name.text (thing.Variable (variable_of (length ss, s))) ∷ []) (ss ++ s ∷ []))
grown gs start es o ss s p is h =
    let t : Thing = thing.Variable (variable_of (length ss, s)) in
    let e : Entry = entry o s.name.text t in
    record {
      base = base-other gs es o o s.name.text t p (omega arith) refl h.base;
      own = λ n.
          found-own es o s.name.text t n
          ∙ ap (λ (x : Option Thing). option_or x (if_so (bytes_eq n s.name.text) t)) (h.own n)
          ∙ sym (ap as_thing (variable-more ss s n) ∙ thing-or (variable_named ss n) (bytes_eq n s.name.text) (length ss, s) t refl);
      known = known-more gs.typedefs ss s h.known is;
      count = omega (arith, variables-own es e, h.count, length-append ss (s ∷ []));
      held = omega (arith, held-own es e, h.held, cells-more ss s);
      below = below-more (o + 1) es e h.below (omega arith);
      still = λ n. found-other es 0 o s.name.text t n (above o p) ∙ h.still n;
    }

-- what a declaration of the owner o sees
pub sees-of : (gs : Globals) (all start : List Entry) (use_as : Role) (o : ℕ) (x : Known) → 0 < o → Ready gs start o x → Sees gs (seen use_as x.slots) (scope all x.names (user use_as o))
sees-of gs all start role.Variable o x p h = record { global = h.base.agrees; own = inr (p, h.own); known = h.known }
sees-of gs all start role.Field o x p h = record { global = h.base.agrees; own = inl (refl, refl); known = tt }

-- a variable whose name was not declared before
module _ (all : List Entry) (use_as : Role) (o : ℕ) (v : TreeVariable) (es : List Entry) (ss : List Slot) (none : found es o v.name.text ≡ None) (count : variables es o ≡ length ss) where
  abbrev pub new : Slot
  new = slot_in all es o (user use_as o) v

  abbrev pub new_thing : Thing
  new_thing = thing.Variable (variable_of (length ss, new))

  abbrev pub new_names : List Entry
  new_names = es ++ entry o v.name.text new_thing ∷ []

  thing-is : thing_of es o (declared_as.Variable use_as v.sort (size_of v.size) (made_by v.initial)) ≡ new_thing
  thing-is = ap (λ (n : ℕ). thing.Variable (record {
    form = form (found es) (user use_as o) v.sort;
    array = is_some (size_of v.size);
    length = length_of (size_of v.size);
    stride = stride (found es) (user use_as o) v.sort;
    offset = min (held es o) most_cells;
    number = n;
  })) count

  pub names-are : after es o (declares use_as v) ≡ new_names
  names-are = after-new es o v.name (declared_as.Variable use_as v.sort (size_of v.size) (made_by v.initial)) none ∙ ap (λ (t : Thing). es ++ entry o v.name.text t ∷ []) thing-is

  new-found : found new_names o v.name.text ≡ Some new_thing
  new-found = found-own es o v.name.text new_thing v.name.text ∙ ap (λ (x : Option Thing). option_or x (if_so (bytes_eq v.name.text v.name.text) new_thing)) none ∙ ap (λ (b : Bool). if_so b new_thing) (name-same v.name.text)

  pub added-is : added_variable all use_as o v (known es ss) ≡ known new_names (ss ++ new ∷ [])
  added-is =
      let begins : Initial = initial v.initial (scope all es (user use_as o)) in
      ap (λ (fs : List Entry). known fs (ss ++ slot v.name begins (found fs o v.name.text) ∷ [])) names-are
      ∙ ap (λ (x : Option Thing). known new_names (ss ++ slot v.name begins x ∷ [])) new-found

module _ (gs : Globals) (all start : List Entry) (use_as : Role) (o : ℕ) (p : 0 < o) where
  -- one variable more stands, where none had its name
  record Added (v : TreeVariable) (x y : Known) : Type 0 where
    ready : Ready gs start o y
    slots : y.slots ≡ x.slots ++ slot_in all x.names o (user use_as o) v ∷ []

  added : (v : TreeVariable) (x : Known) → found x.names o v.name.text ≡ None → Ready gs start o x → Added v x (added_variable all use_as o v x)
  added v x none h =
      let is = added-is all use_as o v x.names x.slots none h.count in
      let sees = sees-of gs all start use_as o x p h in
      record {
        ready = subst (Ready gs start o) (sym is) (grown gs start x.names o x.slots (new all use_as o v x.names x.slots none h.count) p (sort-known gs (seen use_as x.slots) all x.names (user use_as o) sees (sort-stands gs (seen use_as x.slots) all x.names (user use_as o) sees v.sort)) h);
        slots = ap (λ (y : Known). y.slots) is;
      }

  with-old : (v : TreeVariable) (x : Known) (q : ℕ × Slot) → Ready gs start o x → variable_named x.slots v.name.text ≡ Some q → with_variable all use_as o v x ≡ x
  with-old v x q h e = ap (λ (f : Option Thing). cond (is_some f) x (added_variable all use_as o v x)) (h.own v.name.text ∙ ap as_thing e)

  with-new : (v : TreeVariable) (x : Known) → Ready gs start o x → variable_named x.slots v.name.text ≡ None → with_variable all use_as o v x ≡ added_variable all use_as o v x
  with-new v x h e = ap (λ (f : Option Thing). cond (is_some f) x (added_variable all use_as o v x)) (h.own v.name.text ∙ ap as_thing e)

  new-added : (v : TreeVariable) (x : Known) → Ready gs start o x → variable_named x.slots v.name.text ≡ None → Added v x (with_variable all use_as o v x)
  new-added v x h e = subst (Added v x) (sym (with-new v x h e)) (added v x (h.own v.name.text ∙ ap as_thing e) h)

  pub variable-ready : (v : TreeVariable) (x : Known) → Ready gs start o x → Ready gs start o (with_variable all use_as o v x)
  variable-ready v x h = go (variable_named x.slots v.name.text) refl
    where
      go : (q : Option (ℕ × Slot)) → variable_named x.slots v.name.text ≡ q → Ready gs start o (with_variable all use_as o v x)
      go (Some q) e = subst (Ready gs start o) (sym (with-old v x q h e)) h
      go None e = (new-added v x h e).ready

  pub variables-ready : (vs : List TreeVariable) (x : Known) → Ready gs start o x → Ready gs start o (with_variables all use_as o vs x)
  variables-ready [] x h = h
  variables-ready (v ∷ vs) x h = variables-ready vs (with_variable all use_as o v x) (variable-ready v x h)

  one-stands : (v : TreeVariable) (vs : List TreeVariable) (x : Known) (zs : List Slot) → Ready gs start o x → (q : Option (ℕ × Slot)) → variable_named x.slots v.name.text ≡ q
      → StandsVariables gs use_as (with_variable all use_as o v x).slots vs zs → StandsVariables gs use_as x.slots (v ∷ vs) zs
  one-stands v vs x zs h (Some q) e rest = stands.old_variable e (subst (λ (y : Known). StandsVariables gs use_as y.slots vs zs) (with-old v x q h e) rest)
  one-stands v vs x zs h None e rest =
      stands.new_variable e (variable-stands gs (seen use_as x.slots) x.slots all x.names o (user use_as o) (sees-of gs all start use_as o x p h) h.held v)
      (subst (λ (ss : List Slot). StandsVariables gs use_as ss vs zs) (new-added v x h e).slots rest)

  pub variables-stand : (vs : List TreeVariable) (x : Known) → Ready gs start o x → StandsVariables gs use_as x.slots vs (with_variables all use_as o vs x).slots
  variables-stand [] x h = stands.no_variable
  variables-stand (v ∷ vs) x h =
      let y : Known = with_variable all use_as o v x in
      one-stands v vs x (with_variables all use_as o vs y).slots h (variable_named x.slots v.name.text) refl (variables-stand vs y (variable-ready v x h))

  pub only_variables : {ss zs : List Slot} {vs : List TreeVariable} → StandsVariables gs use_as ss vs zs → (x : Known) → x.slots ≡ ss → Ready gs start o x → zs ≡ (with_variables all use_as o vs x).slots
  only_variables (stands.no_variable) x is h = sym is
  only_variables (stands.new_variable {ss} {v} {s} e one rest) x is h =
      let none : variable_named x.slots v.name.text ≡ None = ap (λ (ts : List Slot). variable_named ts v.name.text) is ∙ e in
      let there = rw (sym is) at one in
      let same : s ≡ slot_in all x.names o (user use_as o) v = only_variable gs (seen use_as x.slots) x.slots all x.names o (user use_as o) (sees-of gs all start use_as o x p h) h.held there in
      let more = new-added v x h none in
      only_variables rest (with_variable all use_as o v x) (more.slots ∙ ap (λ (t : Slot). x.slots ++ t ∷ []) (sym same) ∙ ap (λ (ts : List Slot). ts ++ s ∷ []) is) more.ready
  only_variables (stands.old_variable {v} {k} {s} e rest) x is h =
      let there : variable_named x.slots v.name.text ≡ Some (k, s) = ap (λ (ts : List Slot). variable_named ts v.name.text) is ∙ e in
      let y : Known = with_variable all use_as o v x in
      only_variables rest y (ap (λ (z : Known). z.slots) (with-old v x (k, s) h there) ∙ is) (variable-ready v x h)
