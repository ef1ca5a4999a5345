-- What a reference names is a cell that a path leads to.
use Rattle.std.proofs.Common.{◌≡◌, ℕ, suc, ◌+◌, ◌*◌, ◌<◌, Bool, true, false, cond, nat_eq, List, [], ◌∷◌, Option, Some, None, refl, ap, sym, subst, ◌∙◌, ◌⊎◌, inl, inr, arith}
use Rattle.std.specs.Prelude.{length, map, slice_get, codes}
use Rattle.std.specs.Str.{bytes_eq}
use Rattle.std.proofs.lemmas.Bool.Decides.{eqb_tells}
use Rattle.pml_tree.specs.declared.tree.Argument.{Argument}
use Rattle.pml_tree.specs.declared.tree.Expr.{Expr as TreeExpr}
use Rattle.pml_tree.specs.declared.tree.Step.{Step, Step-F, out-roll-Step}
use Rattle.pml_tree.specs.declared.tree.Reference.{Reference, Reference-F, out-roll-Reference}
use Rattle.pml_program.specs.declared.form.Form.{Form}
use Rattle.pml_program.specs.declared.form.Form.TheVariants as kind
use Rattle.pml_program.specs.declared.expr.Target.{out-roll-Target}
use Rattle.pml_program.specs.declared.expr.Turn.{Turn}
use Rattle.pml_program.specs.declared.program.Slot.{Slot}
use Rattle.pml_program.specs.declared.program.Fields.{Fields}
use Rattle.meaning_laws.proofs.Words.{one_behind, fields_of, fields-cons}
use Rattle.promela_model.specs.Stands as stands
use Rattle.pml_program.specs.declared.expr.Expr.{Expr}
use Rattle.promela_model.specs.Stands.{Meaning, Place, Pid, Count, Anything, special, turn_to, target_at, StandsStep, StandsFields, StandsReference, Structure, Globals, variable_named, fields_in}
use Rattle.promela_grammar.specs.Expressions.{reference_of}
use Rattle.meaning_laws.specs.Tiled as tiled
use Rattle.meaning_laws.specs.Tiled.{fields_at, listed, is_struct, Leads, reached, AreWithin, AreAmong, variables_of, fields_under, names_along, first_of, indices_along, name_of, names_of, LeadsOn, TargetLeads, LeadsAs}
use Rattle.meaning_laws.proofs.Growing.{same-name}

named-first : (s : Slot) (ss : List Slot) (n : List ℕ) (p : ℕ × Slot) → ((q : ℕ × Slot) → variable_named ss n ≡ Some q → slice_get ss q.0 ≡ Some q.1)
    → (b : Bool) (x : Option (ℕ × Slot)) → variable_named ss n ≡ x → cond b (Some (0, s)) (one_behind x) ≡ Some p → slice_get (s ∷ ss) p.0 ≡ Some p.1
named-first s ss n p rest true x e f = let same : (0, s) ≡ p = cc in subst (λ (q : ℕ × Slot). slice_get (s ∷ ss) q.0 ≡ Some q.1) same refl
named-first s ss n p rest false None e f = cc
named-first s ss n p rest false (Some q) e f = let same : (suc q.0, q.1) ≡ p = cc in subst (λ (r : ℕ × Slot). slice_get (s ∷ ss) r.0 ≡ Some r.1) same (rest q e)

-- what is found by its name stands there
named-there : (ss : List Slot) (n : List ℕ) (p : ℕ × Slot) → variable_named ss n ≡ Some p → slice_get ss p.0 ≡ Some p.1
named-there [] n p e = cc
named-there (s ∷ ss) n p e = named-first s ss n p (λ q. named-there ss n q) (bytes_eq n s.name.text) (variable_named ss n) refl e

named-first-so : (s : Slot) (ss : List Slot) (n : List ℕ) (p : ℕ × Slot) → ((q : ℕ × Slot) → variable_named ss n ≡ Some q → n ≡ q.1.name.text)
    → (b : Bool) → bytes_eq n s.name.text ≡ b → (x : Option (ℕ × Slot)) → variable_named ss n ≡ x → cond b (Some (0, s)) (one_behind x) ≡ Some p → n ≡ p.1.name.text
named-first-so s ss n p rest true same x e f = let first : (0, s) ≡ p = cc in subst (λ (q : ℕ × Slot). n ≡ q.1.name.text) first (same-name n s.name.text same)
named-first-so s ss n p rest false same None e f = cc
named-first-so s ss n p rest false same (Some q) e f = let later : (suc q.0, q.1) ≡ p = cc in subst (λ (r : ℕ × Slot). n ≡ r.1.name.text) later (rest q e)

-- what is found by its name is called so
named-so : (ss : List Slot) (n : List ℕ) (p : ℕ × Slot) → variable_named ss n ≡ Some p → n ≡ p.1.name.text
named-so [] n p e = cc
named-so (s ∷ ss) n p e = named-first-so s ss n p (λ q. named-so ss n q) (bytes_eq n s.name.text) refl (variable_named ss n) refl e

module _ (gs : Globals) (ts : List Fields) (among : AreAmong gs.typedefs ts) where
  fields-found : (xs : List Structure) → AreAmong xs ts → (t : ℕ) (n : List ℕ) (p : ℕ × Slot) → variable_named (fields_of xs t) n ≡ Some p → fields_at ts t ≡ Some (fields_of xs t)
  fields-found [] h t n p e = cc
  fields-found (x ∷ xs) h t n p e =
      let there : variable_named (cond (nat_eq t x.number) x.fields (fields_of xs t)) n ≡ Some p = subst (λ (ss : List Slot). variable_named ss n ≡ Some p) (fields-cons x xs t) e in
      subst (λ (ss : List Slot). fields_at ts t ≡ Some ss) (sym (fields-cons x xs t)) (elim (eqb_tells t x.number) [
        | inl q ↦ subst (λ (b : Bool). fields_at ts t ≡ Some (cond b x.fields (fields_of xs t))) (sym q.0) (ap (fields_at ts) q.1 ∙ h.0)
        | inr q ↦ subst (λ (b : Bool). fields_at ts t ≡ Some (cond b x.fields (fields_of xs t))) (sym q.0)
            (fields-found xs h.1 t n p (subst (λ (b : Bool). variable_named (cond b x.fields (fields_of xs t)) n ≡ Some p) q.0 there))
      ])

  found-under : (f : Form) (t : ℕ) (fs : List Slot) → f ≡ kind.Struct t → fields_at ts t ≡ Some fs → fields_under ts f ≡ fs
  found-under f t fs e h = ap (fields_under ts) e ∙ ap listed h

  -- a path to a cell, with these names, where so many turns go by as many, and these indices
  record Path (ss : List Slot) (k c : ℕ) (turns : List Turn) (names : List (List ℕ)) (is : List ℕ) : Type 0 where
    path : List (ℕ × ℕ)
    first : first_of path ≡ Some k
    leads : Leads ts ss c path
    named : length turns ≡ length names → names_along ts ss path ≡ names
    indexed : indices_along path ≡ is

  -- behind a place of this type: nothing more, or a path among its fields
  abbrev Behind : Form → List Turn → List (List ℕ) → List ℕ → Type 0
  Behind f us ns is = ((is_struct f ≡ false) × (us ≡ []) × (is ≡ [])) ⊎ ((t : ℕ) × (f ≡ kind.Struct t) × (fs : List Slot) × (fields_at ts t ≡ Some fs) × (k : ℕ) × Path fs k (reached us is) us ns is)

  no-names : (ns : List (List ℕ)) → 0 ≡ length ns → [] ≡ ns
  no-names [] h = refl
  no-names (n ∷ ns) h = absurd (omega (arith, h))

  named-one : (ss : List Slot) (k i : ℕ) (s : Slot) (p : List (ℕ × ℕ)) → slice_get ss k ≡ Some s → names_along ts ss ((k, i) ∷ p) ≡ s.name.text ∷ names_along ts (fields_under ts s.form) p
  named-one ss k i s p e = ap (λ (x : Option Slot). elim x as (λ _. List (List ℕ)) [
    | None ↦ []
    | Some s ↦ s.name.text ∷ names_along ts (fields_under ts s.form) p
  ]) e

  one-more : (m n : List ℕ) (xs ys : List (List ℕ)) → m ≡ n → xs ≡ ys → m ∷ xs ≡ n ∷ ys
  one-more m n xs ys e f = ap (λ (a : List ℕ). a ∷ xs) e ∙ ap (λ (zs : List (List ℕ)). n ∷ zs) f

  -- one turn more in front
  joined : (ss : List Slot) (k i : ℕ) (s : Slot) (u : Turn) (us : List Turn) (n : List ℕ) (ns : List (List ℕ)) (is : List ℕ) → slice_get ss k ≡ Some s → s.name.text ≡ n → i < s.length → Behind s.form us ns is
      → Path ss k (s.offset + (i * s.stride + reached us is)) (u ∷ us) (n ∷ ns) (i ∷ is)
  joined ss k i s u us n ns is there called within (inl h) =
      let none : reached us is ≡ 0 = ap (λ (vs : List Turn). reached vs is) h.1 in
      let same : s.offset + i * s.stride ≡ s.offset + (i * s.stride + reached us is) = omega (arith, none) in
      record {
        path = (k, i) ∷ [];
        first = refl;
        leads = subst (λ (d : ℕ). Leads ts ss d ((k, i) ∷ [])) same (tiled.ends there within h.0);
        named = λ as_many. named-one ss k i s [] there ∙ one-more s.name.text n [] ns called (no-names ns (let l : length us ≡ 0 = ap length h.1 in omega (arith, as_many, l)));
        indexed = ap (λ (js : List ℕ). i ∷ js) (sym h.2);
      }
  joined ss k i s u us n ns is there called within (inr h) =
      let q = h.5 in
      record {
        path = (k, i) ∷ q.path;
        first = refl;
        leads = tiled.goes_on there within h.1 h.3 q.leads;
        named = λ as_many. named-one ss k i s q.path there ∙ one-more s.name.text n (names_along ts (fields_under ts s.form) q.path) ns called (ap (λ (gs : List Slot). names_along ts gs q.path) (found-under s.form h.0 h.2 h.1 h.3) ∙ q.named (omega (arith, as_many)));
        indexed = ap (λ (js : List ℕ). i ∷ js) q.indexed;
      }

  struct-of : (f : Form) (n : List ℕ) (p : ℕ × Slot) → variable_named (fields_in gs f) n ≡ Some p → (t : ℕ) × (f ≡ kind.Struct t) × (fields_at ts t ≡ Some (fields_in gs f))
  struct-of (kind.Struct t) n p e = (t, refl, fields-found gs.typedefs among t n p e)
  struct-of (kind.Plain s) n p e = cc
  struct-of (kind.Unsigned w) n p e = cc
  struct-of kind.Unknown n p e = cc

  step-called : {ls : List Slot} {s : Step} {n : List ℕ} {x : Option Expr} → StandsStep gs ls s n x → n ≡ name_of s
  step-called (stands.step {n} {i} h) = ap (λ (s : Step-F Argument TreeExpr Reference Step). s.name.text) (sym (out-roll-Step (record { name = n; index = i })))

  no-more : (is : List ℕ) → AreWithin [] is → is ≡ []
  no-more [] w = refl
  no-more (i ∷ is) w = elim w [ ]

  fields-lead : {ls : List Slot} {f h : Form} {ss : List Step} {us : List Turn} → StandsFields gs ls f ss h us → is_struct h ≡ false → (is : List ℕ) → AreWithin us is → Behind f us (map name_of ss) is
  fields-lead stands.no_field e is w = inl (e, refl, no-more is w)
  fields-lead (stands.lost_field a none) e is w = inl (e, refl, no-more is w)
  fields-lead (stands.field a found rest) e [] w = elim w [ ]
  fields-lead (stands.field {f} {s = st} {ss} {n} {x} {k} {t} {ts = us} a found rest) e (i ∷ is) w =
      let s = struct-of f n (k, t) found in
      let called : t.name.text ≡ name_of st = sym (named-so (fields_in gs f) n (k, t) found) ∙ step-called a in
      let r = joined (fields_in gs f) k i t (turn_to t.offset t x) us (name_of st) (map name_of ss) is (named-there (fields_in gs f) n (k, t) found) called w.0 (fields-lead rest e is w.1) in
      inr (s.0, s.1, fields_in gs f, s.2, k, r)

  -- a variable, and the fields behind it
  leads-on : (ls ss : List Slot) (k : ℕ) (s : Slot) (x : Option Expr) (f : Form) (n : List ℕ) (steps : List Step) (us : List Turn) → slice_get ss k ≡ Some s → s.name.text ≡ n → StandsFields gs ls s.form steps f us
      → (is : List ℕ) → is_struct f ≡ false → AreWithin (turn_to 0 s x ∷ us) is → LeadsOn ts ss (n ∷ map name_of steps) k (turn_to 0 s x ∷ us) is
  leads-on ls ss k s x f n steps us there called h [] e w = elim w [ ]
  leads-on ls ss k s x f n steps us there called h (i ∷ is) e w =
      let c : ℕ = reached us is in
      let r = joined ss k i s (turn_to 0 s x) us n (map name_of steps) is there called w.0 (fields-lead h e is w.1) in
      let same : s.offset + (i * s.stride + c) ≡ s.offset + (0 + (i * s.stride + c)) = omega arith in
      record { slot = s; there = there; path = r.path; first = r.first; leads = subst (λ (d : ℕ). Leads ts ss d r.path) same r.leads; named = r.named; indexed = r.indexed }

  special-leads : (ls : List Slot) (names : List (List ℕ)) (a b c : Bool) (m : Meaning) → cond a (Some Anything) (cond b (Some Pid) (cond c (Some Count) None)) ≡ Some m → LeadsAs gs ls ts names m
  special-leads ls names true b c m e = let same : Anything ≡ m = cc in subst (LeadsAs gs ls ts names) same tt
  special-leads ls names false true c m e = let same : Pid ≡ m = cc in subst (LeadsAs gs ls ts names) same tt
  special-leads ls names false false true m e = let same : Count ≡ m = cc in subst (LeadsAs gs ls ts names) same tt
  special-leads ls names false false false m e = cc

  named-as : (s : Step) (ss : List Step) → name_of s ∷ map name_of ss ≡ names_of (reference_of s ss)
  named-as s ss = ap (λ (r : Reference-F Argument TreeExpr Reference Step). name_of r.first ∷ map name_of r.fields) (sym (out-roll-Reference (record { first = s; fields = ss })))

  -- the variable of a place, and what is behind it
  place-leads : (ls ss : List Slot) (local : Bool) (k : ℕ) (t : Slot) (x : Option Expr) (f : Form) (st : Step) (steps : List Step) (us : List Turn) → variables_of gs ls local ≡ ss → slice_get ss k ≡ Some t → t.name.text ≡ name_of st
      → StandsFields gs ls t.form steps f us → LeadsAs gs ls ts (names_of (reference_of st steps)) (Place (target_at local k f (turn_to 0 t x ∷ us)))
  place-leads ls ss local k t x f st steps us whose there called h =
      subst (λ (names : List (List ℕ)). LeadsAs gs ls ts names (Place (target_at local k f (turn_to 0 t x ∷ us)))) (named-as st steps)
      (subst (TargetLeads gs ls ts (name_of st ∷ map name_of steps)) (sym (out-roll-Target (record { local = local; variable = k; form = f; turns = turn_to 0 t x ∷ us })))
      (λ is e w. leads-on ls (variables_of gs ls local) k t x f (name_of st) steps us (ap (λ (vs : List Slot). slice_get vs k) whose ∙ there) called h is e w))

  pub reference-leads : {ls : List Slot} {p : Reference} {m : Meaning} → StandsReference gs ls p m → LeadsAs gs ls ts (names_of p) m
  reference-leads {ls = ls} (stands.special_name steps {s} {n} {m} a is) = special-leads ls (names_of (reference_of s steps)) (bytes_eq n (codes "_")) (bytes_eq n (codes "_pid")) (bytes_eq n (codes "_nr_pr")) m is
  reference-leads {ls = ls} (stands.local_variable {s = st} {ss} {n} {x} {k} {t} {f} {ts = us} a is found h) =
      place-leads ls ls true k t x f st ss us refl (named-there ls n (k, t) found) (sym (named-so ls n (k, t) found) ∙ step-called a) h
  reference-leads {ls = ls} (stands.global_variable {s = st} {ss} {n} {x} {k} {t} {f} {ts = us} a is none found h) =
      place-leads ls gs.variables false k t x f st ss us refl (named-there gs.variables n (k, t) found) (sym (named-so gs.variables n (k, t) found) ∙ step-called a) h
  reference-leads (stands.mtype_name steps a is none found) = tt
  reference-leads (stands.no_name steps a is none no_global no_constant) = tt
