-- Names that are found as the lists of what is declared have them.
use Rattle.std.proofs.Common.{◌≡◌, ℕ, suc, ◌<◌, Bool, true, false, ◌&&◌, cond, nat_eq, List, [], ◌∷◌, Option, Some, None, refl, ap, sym, subst, ◌∙◌, ◌⊎◌, inl, inr, arith}
use Rattle.std.specs.Prelude.{codes}
use Rattle.std.specs.List.{AllByRecursion}
use Rattle.std.specs.Option.{is_some, option_or}
use Rattle.std.specs.Str.{bytes_eq}
use Rattle.std.proofs.lemmas.Bool.{lt-ltb, le-ltb}
use Rattle.promela_model.specs.declared.thing.Thing.{Thing}
use Rattle.promela_model.specs.declared.thing.Thing.TheVariants as thing
use Rattle.promela_model.specs.declared.thing.Variable.{Variable}
use Rattle.check_names.specs.Entry.{Entry, found}
use Rattle.promela_model.specs.Names.{is_any, is_pid, is_count, meaning, only_process, field_of_type as field_of}
use Rattle.pml_program.specs.declared.form.Form.{Form}
use Rattle.pml_program.specs.declared.form.Form.TheVariants as kind
use Rattle.pml_program.specs.declared.expr.Expr.{Expr}
use Rattle.pml_program.specs.declared.program.Slot.{Slot}
use Rattle.check_resolve.specs.declared.reached.Reached.{Reached}
use Rattle.check_resolve.specs.declared.reached.Reached.TheVariants as r
use Rattle.check_resolve.specs.Numbered.{Scope, Path, Stepped, reached, stands_for, is_local, into, through, with_turn}
use Rattle.meaning_laws.proofs.Words.{one_behind, fields_of, fields-cons}
use Rattle.meaning_laws.proofs.Things.{variable_of, as_variable, as_thing, as_typedef, in_variable, in_constant, in_typedef, has_number, IsKnown, AreKnown}
use Rattle.promela_model.specs.Stands.{Meaning, Place, Mtype, Pid, Count, Anything, Nothing, special, turn_to, target_at, Structure, Globals, variable_named, constant_named, typedef_named, fields_in}

-- the names so far are found as what is declared globally has them
pub record Agrees (gs : Globals) (es : List Entry) : Type 0 where
  pub variables : (n : List ℕ) → as_variable (variable_named gs.variables n) ≡ in_variable (found es 0 n)
  pub constants : (n : List ℕ) → constant_named gs.constants n ≡ in_constant (found es 0 n)
  pub typedefs : (n : List ℕ) → as_typedef (typedef_named gs.typedefs n) ≡ in_typedef (found es 0 n)
  pub fields : (t : ℕ) → has_number gs.typedefs t ≡ true → (n : List ℕ) → found es t n ≡ as_thing (variable_named (fields_of gs.typedefs t) n)
  pub known : AreKnown gs.typedefs gs.variables
  pub inner : AllByRecursion (λ (x : Structure). AreKnown gs.typedefs x.fields) gs.typedefs

-- the names of the owner are found as the variables of a proctype are, or it has none
abbrev pub Owns : List Slot → List Entry → ℕ → Type 0
Owns ls es u = ((u ≡ 0) × (ls ≡ [])) ⊎ ((0 < u) × ((n : List ℕ) → found es u n ≡ as_thing (variable_named ls n)))

pub record Sees (gs : Globals) (ls : List Slot) (sc : Scope) : Type 0 where
  pub global : Agrees gs sc.names
  pub own : Owns ls sc.names sc.owner
  pub known : AreKnown gs.typedefs ls

-- ---- the own variables

pub own-local : (ls : List Slot) (es : List Entry) (u : ℕ) → Owns ls es u → (n : List ℕ) (p : ℕ × Slot) → variable_named ls n ≡ Some p → (is_local es u n ≡ true) × (found es u n ≡ Some (thing.Variable (variable_of p)))
own-local ls es u (inl h) n p e = let f : None ≡ Some p = sym (ap (λ (ss : List Slot). variable_named ss n) h.1) ∙ e in cc
own-local ls es u (inr h) n p e =
    let f : found es u n ≡ Some (thing.Variable (variable_of p)) = h.1 n ∙ ap as_thing e in
    (ap (λ (b : Bool). b && is_some (found es u n)) (lt-ltb 0 u h.0) ∙ ap is_some f, f)

twice : (r s : Option Thing) → option_or r (option_or r s) ≡ option_or r s
twice None s = refl
twice (Some x) s = refl

pub own-none : (ls : List Slot) (es : List Entry) (u : ℕ) → Owns ls es u → (n : List ℕ) → variable_named ls n ≡ None → (is_local es u n ≡ false) × ((s : Option Thing) → option_or (found es u n) (option_or (found es 0 n) s) ≡ option_or (found es 0 n) s)
own-none ls es u (inl h) n e =
    (ap (λ (b : Bool). b && is_some (found es u n)) (le-ltb 0 u (omega (arith, h.0))), λ s. subst (λ (v : ℕ). option_or (found es v n) (option_or (found es 0 n) s) ≡ option_or (found es 0 n) s) (sym h.0) (twice (found es 0 n) s))
own-none ls es u (inr h) n e =
    let f : found es u n ≡ None = h.1 n ∙ ap as_thing e in
    (ap (λ (b : Bool). b && is_some (found es u n)) (lt-ltb 0 u h.0) ∙ ap is_some f, λ s. ap (λ (x : Option Thing). option_or x (option_or (found es 0 n) s)) f)

-- ---- what is found, from what it is as a kind of thing

variable-found : (x : Option Thing) (v : Variable) → Some v ≡ in_variable x → x ≡ Some (thing.Variable v)
variable-found (Some (thing.Variable y)) v e = cc
variable-found (Some (thing.Constant n)) v e = cc
variable-found (Some (thing.Typedef t n)) v e = cc
variable-found (Some (thing.Proctype o n)) v e = cc
variable-found None v e = cc

constant-found : (x : Option Thing) (k : ℕ) → Some k ≡ in_constant x → x ≡ Some (thing.Constant k)
constant-found (Some (thing.Variable y)) v e = cc
constant-found (Some (thing.Constant n)) v e = cc
constant-found (Some (thing.Typedef t n)) v e = cc
constant-found (Some (thing.Proctype o n)) v e = cc
constant-found None v e = cc

-- ---- references

abbrev pub meaning_of : Reached → Meaning
meaning_of (r.Place t) = Place t
meaning_of (r.Constant n) = Mtype n
meaning_of r.Pid = Pid
meaning_of r.ProcessCount = Count
meaning_of r.Anything = Anything
meaning_of r.Nothing = Nothing

abbrev or_special : Option Meaning → Meaning → Meaning
or_special (Some m) x = m
or_special None x = x

special-or : (a b c : Bool) (x : Reached) → meaning_of (cond a r.Anything (cond b r.Pid (cond c r.ProcessCount x))) ≡ or_special (cond a (Some Anything) (cond b (Some Pid) (cond c (Some Count) None))) (meaning_of x)
special-or true b c x = refl
special-or false true c x = refl
special-or false false true x = refl
special-or false false false x = refl

neither : (x y : Option Thing) (s : Stepped) (ss : List Stepped) (sc : Scope) → None ≡ in_variable x → None ≡ in_constant x → stands_for false (option_or x (only_process y)) s ss sc ≡ r.Nothing
neither (Some (thing.Variable z)) y s ss sc e f = cc
neither (Some (thing.Constant n)) y s ss sc e f = cc
neither (Some (thing.Typedef t n)) y s ss sc e f = refl
neither (Some (thing.Proctype o n)) y s ss sc e f = refl
neither None (Some (thing.Variable z)) s ss sc e f = refl
neither None (Some (thing.Constant n)) s ss sc e f = refl
neither None (Some (thing.Typedef t n)) s ss sc e f = refl
neither None (Some (thing.Proctype o n)) s ss sc e f = refl
neither None None s ss sc e f = refl

-- ---- the types of what is found are known

known-first : (ts : List Structure) (s : Slot) (ss : List Slot) (n : List ℕ) (p : ℕ × Slot) → IsKnown ts s.form → ((q : ℕ × Slot) → variable_named ss n ≡ Some q → IsKnown ts q.1.form)
    → (b : Bool) (x : Option (ℕ × Slot)) → variable_named ss n ≡ x → cond b (Some (0, s)) (one_behind x) ≡ Some p → IsKnown ts p.1.form
known-first ts s ss n p h rest true x e f = let same : (0, s) ≡ p = cc in subst (λ (q : ℕ × Slot). IsKnown ts q.1.form) same h
known-first ts s ss n p h rest false None e f = cc
known-first ts s ss n p h rest false (Some q) e f = let same : (suc q.0, q.1) ≡ p = cc in subst (λ (q : ℕ × Slot). IsKnown ts q.1.form) same (rest q e)

pub known-at : (ts : List Structure) (ss : List Slot) (n : List ℕ) (p : ℕ × Slot) → AreKnown ts ss → variable_named ss n ≡ Some p → IsKnown ts p.1.form
known-at ts [] n p h e = cc
known-at ts (s ∷ ss) n p h e = known-first ts s ss n p h.0 (λ q. known-at ts ss n q h.1) (bytes_eq n s.name.text) (variable_named ss n) refl e

fields-first : (ts us : List Structure) (t : ℕ) (x : Structure) → AreKnown ts x.fields → AreKnown ts (fields_of us t) → (b : Bool) → AreKnown ts (cond b x.fields (fields_of us t))
fields-first ts us t x h g true = h
fields-first ts us t x h g false = g

pub fields-known : (ts us : List Structure) (t : ℕ) → AllByRecursion (λ (x : Structure). AreKnown ts x.fields) us → AreKnown ts (fields_of us t)
fields-known ts [] t h = tt
fields-known ts (x ∷ us) t h = subst (AreKnown ts) (sym (fields-cons x us t)) (fields-first ts us t x h.0 (fields-known ts us t h.1) (nat_eq t x.number))

-- ---- what a field and a name are numbered as

module _ (gs : Globals) (es : List Entry) (agrees : Agrees gs es) where
  pub field-known : (f : Form) (n : List ℕ) (p : ℕ × Slot) → variable_named (fields_in gs f) n ≡ Some p → IsKnown gs.typedefs p.1.form
  field-known (kind.Struct t) n p e = known-at gs.typedefs (fields_of gs.typedefs t) n p (fields-known gs.typedefs gs.typedefs t agrees.inner) e
  field-known (kind.Plain s) n p e = cc
  field-known (kind.Unsigned w) n p e = cc
  field-known kind.Unknown n p e = cc

  field-found : (f : Form) → IsKnown gs.typedefs f → (n : List ℕ) (p : ℕ × Slot) → variable_named (fields_in gs f) n ≡ Some p → field_of (found es) f n ≡ Some (Some (thing.Variable (variable_of p)))
  field-found (kind.Struct t) k n p e = ap (λ (x : Option Thing). Some x) (agrees.fields t k n ∙ ap as_thing e)
  field-found (kind.Plain s) k n p e = cc
  field-found (kind.Unsigned w) k n p e = cc
  field-found kind.Unknown k n p e = cc

  field-lost : (f : Form) → IsKnown gs.typedefs f → (n : List ℕ) → variable_named (fields_in gs f) n ≡ None → (i : Option Expr) (rest : Form → Path) → into (field_of (found es) f n) i f rest ≡ (f, [])
  field-lost (kind.Struct t) k n e i rest = ap (λ (x : Option Thing). into (Some x) i (kind.Struct t) rest) (agrees.fields t k n ∙ ap as_thing e)
  field-lost (kind.Plain s) k n e i rest = refl
  field-lost (kind.Unsigned w) k n e i rest = refl
  field-lost kind.Unknown k n e i rest = refl

module _ (gs : Globals) (ls : List Slot) (sc : Scope) (sees : Sees gs ls sc) where
  pub through-field : (f : Form) → IsKnown gs.typedefs f → (s : Stepped) (ss : List Stepped) (p : ℕ × Slot) → variable_named (fields_in gs f) s.name ≡ Some p → through f (s ∷ ss) sc ≡ with_turn (turn_to p.1.offset p.1 (s.index sc)) (through p.1.form ss sc)
  through-field f k s ss p e = ap (λ (x : Option (Option Thing)). into x (s.index sc) f (λ g. through g ss sc)) (field-found gs sc.names sees.global f k s.name p e)

  pub through-lost : (f : Form) → IsKnown gs.typedefs f → (s : Stepped) (ss : List Stepped) → variable_named (fields_in gs f) s.name ≡ None → through f (s ∷ ss) sc ≡ (f, [])
  through-lost f k s ss e = field-lost gs sc.names sees.global f k s.name e (s.index sc) (λ g. through g ss sc)

  abbrev common : Stepped → List Stepped → Reached
  common s ss = stands_for (is_local sc.names sc.owner s.name) (meaning (found sc.all) (found sc.names) sc.owner s.name) s ss sc

  reached-common : (s : Stepped) (ss : List Stepped) → meaning_of (reached s ss sc) ≡ or_special (special s.name) (meaning_of (common s ss))
  unfolding is_any is_pid is_count
  reached-common s ss = special-or (bytes_eq s.name (codes "_")) (bytes_eq s.name (codes "_pid")) (bytes_eq s.name (codes "_nr_pr")) (common s ss)

  pub reached-special : (s : Stepped) (ss : List Stepped) (m : Meaning) → special s.name ≡ Some m → meaning_of (reached s ss sc) ≡ m
  reached-special s ss m e = reached-common s ss ∙ ap (λ (x : Option Meaning). or_special x (meaning_of (common s ss))) e

  reached-other : (s : Stepped) (ss : List Stepped) → special s.name ≡ None → meaning_of (reached s ss sc) ≡ meaning_of (common s ss)
  reached-other s ss e = reached-common s ss ∙ ap (λ (x : Option Meaning). or_special x (meaning_of (common s ss))) e

  pub reached-local : (s : Stepped) (ss : List Stepped) (p : ℕ × Slot) → special s.name ≡ None → variable_named ls s.name ≡ Some p
      → meaning_of (reached s ss sc) ≡ Place (target_at true p.0 (through p.1.form ss sc).0 (turn_to 0 p.1 (s.index sc) ∷ (through p.1.form ss sc).1))
  reached-local s ss p e h =
      let own = own-local ls sc.names sc.owner sees.own s.name p h in
      reached-other s ss e
      ∙ ap (λ (b : Bool). meaning_of (stands_for b (meaning (found sc.all) (found sc.names) sc.owner s.name) s ss sc)) own.0
      ∙ ap (λ (x : Option Thing). meaning_of (stands_for true (option_or x (option_or (found sc.names 0 s.name) (only_process (found sc.all 0 s.name)))) s ss sc)) own.1

  -- where no variable of the proctype has the name
  global : (s : Stepped) (ss : List Stepped) → special s.name ≡ None → variable_named ls s.name ≡ None
      → meaning_of (reached s ss sc) ≡ meaning_of (stands_for false (option_or (found sc.names 0 s.name) (only_process (found sc.all 0 s.name))) s ss sc)
  global s ss e h =
      let own = own-none ls sc.names sc.owner sees.own s.name h in
      reached-other s ss e
      ∙ ap (λ (b : Bool). meaning_of (stands_for b (meaning (found sc.all) (found sc.names) sc.owner s.name) s ss sc)) own.0
      ∙ ap (λ (x : Option Thing). meaning_of (stands_for false x s ss sc)) (own.1 (only_process (found sc.all 0 s.name)))

  pub reached-global : (s : Stepped) (ss : List Stepped) (p : ℕ × Slot) → special s.name ≡ None → variable_named ls s.name ≡ None → variable_named gs.variables s.name ≡ Some p
      → meaning_of (reached s ss sc) ≡ Place (target_at false p.0 (through p.1.form ss sc).0 (turn_to 0 p.1 (s.index sc) ∷ (through p.1.form ss sc).1))
  reached-global s ss p e h g =
      global s ss e h
      ∙ ap (λ (x : Option Thing). meaning_of (stands_for false (option_or x (only_process (found sc.all 0 s.name))) s ss sc))
      (variable-found (found sc.names 0 s.name) (variable_of p) (sym (ap as_variable g) ∙ sees.global.variables s.name))

  pub reached-mtype : (s : Stepped) (ss : List Stepped) (k : ℕ) → special s.name ≡ None → variable_named ls s.name ≡ None → constant_named gs.constants s.name ≡ Some k → meaning_of (reached s ss sc) ≡ Mtype k
  reached-mtype s ss k e h g =
      global s ss e h
      ∙ ap (λ (x : Option Thing). meaning_of (stands_for false (option_or x (only_process (found sc.all 0 s.name))) s ss sc))
      (constant-found (found sc.names 0 s.name) k (sym g ∙ sees.global.constants s.name))

  pub reached-nothing : (s : Stepped) (ss : List Stepped) → special s.name ≡ None → variable_named ls s.name ≡ None → variable_named gs.variables s.name ≡ None → constant_named gs.constants s.name ≡ None → meaning_of (reached s ss sc) ≡ Nothing
  reached-nothing s ss e h g f =
      global s ss e h
      ∙ ap meaning_of (neither (found sc.names 0 s.name) (found sc.all 0 s.name) s ss sc (sym (ap as_variable g) ∙ sees.global.variables s.name) (sym f ∙ sees.global.constants s.name))
