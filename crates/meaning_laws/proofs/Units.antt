-- Units stand for what they are numbered as.
use Rattle.std.proofs.Common.{◌≡◌, ℕ, ◌+◌, ◌<◌, Bool, true, false, cond, List, [], ◌∷◌, ◌++◌, map, length, reverse, Option, Some, None, refl, ap, sym, subst, ◌∙◌, inl, arith}
use Rattle.std.specs.Option.{is_some}
use Rattle.std.proofs.lemmas.List.{append_assoc, append-nil, length-append}
use Rattle.pml_token.specs.Word.{Word}
use Rattle.pml_tree.specs.declared.tree.Variable.{Variable as TreeVariable}
use Rattle.pml_tree.specs.declared.tree.Starts.{Starts}
use Rattle.pml_tree.specs.declared.tree.Starts.TheVariants as starts
use Rattle.pml_tree.specs.declared.tree.Proctype.{Proctype as TreeProctype}
use Rattle.pml_tree.specs.declared.tree.Unit.{Unit as Part}
use Rattle.pml_tree.specs.declared.tree.Unit.TheVariants as part
use Rattle.promela_model.specs.Stands.{Globals, is_declared, with_constant, with_typedef, with_proctype, declares, proctype_named}
use Rattle.promela_model.specs.Names.{constant}
use Rattle.meaning_laws.proofs.Words.{with_constants, with_variables as with_slots, structure, fields_with, program_of, proctype_with}
use Rattle.check_uses.specs.Parts.{constant_mark}
use Rattle.promela_model.specs.declared.mark.Declared.TheVariants as declared_as
use Rattle.promela_model.specs.declared.mark.What.TheVariants as what
use Rattle.promela_model.specs.declared.mark.Role.TheVariants as role
use Rattle.promela_model.specs.declared.thing.Thing.{Thing}
use Rattle.promela_model.specs.declared.thing.Thing.TheVariants as thing
use Rattle.check_names.specs.Entry.{Entry, entry, found}
use Rattle.check_names.specs.Env.{after, env_from, thing_of}
use Rattle.pml_program.specs.declared.program.Slot.{Slot}
use Rattle.pml_program.specs.declared.program.Seq.{Seq}
use Rattle.pml_program.specs.declared.program.Fields.{Fields}
use Rattle.pml_program.specs.declared.program.Proctype.{Proctype}
use Rattle.pml_program.specs.declared.program.Program.{Program}
use Rattle.check_resolve.specs.Numbered.{scope}
use Rattle.check_resolve.specs.Declarations.{Known, known, added_variable, with_variable, with_variables}
use Rattle.check_resolve.specs.Statements.{numbered_seq}
use Rattle.check_resolve.specs.Model.{Made, made, count, with_unit, with_units}
use Rattle.promela_model.specs.StandsModel.{StandsVariables, StandsSeq, beginning, StandsGlobals, StandsUnits}
use Rattle.promela_model.specs.StandsModel as stands
use Rattle.meaning_laws.proofs.Things.{variable_of}
use Rattle.meaning_laws.proofs.Agreeing.{Sees}
use Rattle.meaning_laws.proofs.Growing.{after-new, after-old, Below, below-more, below-later, found-below, variables-below, held-below}
use Rattle.meaning_laws.proofs.Declaring.{Base, Runs, Ready, count-is, slot_in, added-is, variable-stands, only_variable, sort-known, sort-stands, variables-ready, variables-stand, only_variables}
use Rattle.meaning_laws.proofs.Bodies.{seq-stands, only_seq}
use Rattle.meaning_laws.proofs.Newly.{base-variable, base-constant, base-typedef, base-proctype, base-later}
use Rattle.meaning_laws.proofs.Reading.{Reads, ReadsAll, or_process, runs-of, after-read, variables-read, constants-read, name-reversed}

none-of : (x : Option Thing) → is_some x ≡ false → x ≡ None
none-of None h = refl
none-of (Some t) h = cc

-- declared before, or not
undeclared : (gs : Globals) (k : ℕ) (es : List Entry) (n : List ℕ) → Base gs k es → is_declared gs n ≡ false → found es 0 n ≡ None
undeclared gs k es n h e = none-of (found es 0 n) (h.declared n ∙ e)

-- ---- global variables

module _ (all : List Entry) (o : ℕ) (p : 0 < o) where
  abbrev global_sees : (gs : Globals) (es : List Entry) → Base gs o es → Sees gs [] (scope all es 0)
  global_sees gs es h = record { global = h.agrees; own = inl (refl, refl); known = tt }

  abbrev global_slot : List Entry → TreeVariable → Slot
  global_slot es v = slot_in all es 0 0 v

  abbrev global_names : Globals → List Entry → TreeVariable → List Entry
  global_names gs es v = es ++ entry 0 v.name.text (thing.Variable (variable_of (length gs.variables, global_slot es v))) ∷ []

  old-global : (gs : Globals) (es : List Entry) (v : TreeVariable) → Base gs o es → is_declared gs v.name.text ≡ true → with_variable all role.Variable 0 v (known es gs.variables) ≡ known es gs.variables
  old-global gs es v h e = ap (λ (b : Bool). cond b (known es gs.variables) (added_variable all role.Variable 0 v (known es gs.variables))) (h.declared v.name.text ∙ e)

  new-global : (gs : Globals) (es : List Entry) (v : TreeVariable) → Base gs o es → is_declared gs v.name.text ≡ false
      → with_variable all role.Variable 0 v (known es gs.variables) ≡ known (global_names gs es v) (gs.variables ++ global_slot es v ∷ [])
  new-global gs es v h e =
      ap (λ (b : Bool). cond b (known es gs.variables) (added_variable all role.Variable 0 v (known es gs.variables))) (h.declared v.name.text ∙ e)
      ∙ added-is all role.Variable 0 v es gs.variables (undeclared gs o es v.name.text h e) h.count

  global-base : (gs : Globals) (es : List Entry) (v : TreeVariable) → Base gs o es → is_declared gs v.name.text ≡ false → Base (with_slots gs (gs.variables ++ global_slot es v ∷ [])) o (global_names gs es v)
  global-base gs es v h e = base-variable gs o es (global_slot es v) (undeclared gs o es v.name.text h e) (sort-known gs [] all es 0 (global_sees gs es h) (sort-stands gs [] all es 0 (global_sees gs es h) v.sort)) h

  -- what global variables stand for, from these names
  record Spread (gs : Globals) (es : List Entry) (vs : List TreeVariable) (y : Known) : Type 0 where
    stand : StandsGlobals gs vs (with_slots gs y.slots)
    base : Base (with_slots gs y.slots) o y.names
    below : Below o y.names

  spread-old : (gs : Globals) (es : List Entry) (v : TreeVariable) (vs : List TreeVariable) (y : Known) → is_declared gs v.name.text ≡ true → Spread gs es vs y → Spread gs es (v ∷ vs) y
  spread-old gs es v vs y e h = record { stand = stands.old_global e h.stand; base = h.base; below = h.below }

  spread-new : (gs : Globals) (es : List Entry) (v : TreeVariable) (vs : List TreeVariable) (y : Known) → Base gs o es → is_declared gs v.name.text ≡ false
      → Spread (with_slots gs (gs.variables ++ global_slot es v ∷ [])) (global_names gs es v) vs y → Spread gs es (v ∷ vs) y
  spread-new gs es v vs y b e h = record {
    stand = stands.new_global e (variable-stands gs [] gs.variables all es 0 0 (global_sees gs es b) b.held v) h.stand;
    base = h.base;
    below = h.below;
  }

  globals-one : (v : TreeVariable) (vs : List TreeVariable) (gs : Globals) (es : List Entry) → Base gs o es → Below o es
      → ((hs : Globals) (fs : List Entry) → Base hs o fs → Below o fs → Spread hs fs vs (with_variables all role.Variable 0 vs (known fs hs.variables)))
      → (b : Bool) → is_declared gs v.name.text ≡ b → Spread gs es (v ∷ vs) (with_variables all role.Variable 0 (v ∷ vs) (known es gs.variables))
  globals-one v vs gs es h g rest true e =
      subst (λ (x : Known). Spread gs es (v ∷ vs) (with_variables all role.Variable 0 vs x)) (sym (old-global gs es v h e)) (spread-old gs es v vs _ e (rest gs es h g))
  globals-one v vs gs es h g rest false e =
      let fs : List Entry = global_names gs es v in
      subst (λ (x : Known). Spread gs es (v ∷ vs) (with_variables all role.Variable 0 vs x)) (sym (new-global gs es v h e))
      (spread-new gs es v vs _ h e (rest (with_slots gs (gs.variables ++ global_slot es v ∷ [])) fs (global-base gs es v h e) (below-more o es _ g p)))

  globals-spread : (vs : List TreeVariable) (gs : Globals) (es : List Entry) → Base gs o es → Below o es → Spread gs es vs (with_variables all role.Variable 0 vs (known es gs.variables))
  globals-spread [] gs es h g = record { stand = stands.no_global; base = h; below = g }
  globals-spread (v ∷ vs) gs es h g = globals-one v vs gs es h g (globals-spread vs) (is_declared gs v.name.text) refl

  only_globals : {gs zs : Globals} {vs : List TreeVariable} → StandsGlobals gs vs zs → (es : List Entry) → Base gs o es → zs ≡ with_slots gs (with_variables all role.Variable 0 vs (known es gs.variables)).slots
  only_globals stands.no_global es h = refl
  only_globals (stands.new_global {gs} {zs} {v} {vs} {s} e one rest) es h =
      let same : s ≡ global_slot es v = only_variable gs [] gs.variables all es 0 0 (global_sees gs es h) h.held one in
      let base = subst (λ (t : Slot). Base (with_slots gs (gs.variables ++ t ∷ [])) o (global_names gs es v)) (sym same) (global-base gs es v h e) in
      only_globals rest (global_names gs es v) base
      ∙ ap (λ (t : Slot). with_slots gs (with_variables all role.Variable 0 vs (known (global_names gs es v) (gs.variables ++ t ∷ []))).slots) same
      ∙ ap (λ (x : Known). with_slots gs (with_variables all role.Variable 0 vs x).slots) (sym (new-global gs es v h e))
  only_globals (stands.old_global {gs} {zs} {v} {vs} e rest) es h =
      only_globals rest es h ∙ ap (λ (x : Known). with_slots gs (with_variables all role.Variable 0 vs x).slots) (sym (old-global gs es v h e))

-- ---- mtype names

module _ (o : ℕ) (p : 0 < o) where
  record Constants (gs : Globals) (es : List Entry) : Type 0 where
    base : Base gs o es
    below : Below o es

  constant-one : (w : Word) (gs : Globals) (es : List Entry) → Constants gs es → (b : Bool) → is_declared gs w.text ≡ b → Constants (with_constant gs w) (after es 0 (what.Declares w declared_as.Constant))
  constant-one w gs es h true e =
      subst (λ (hs : Globals). Constants hs (after es 0 (what.Declares w declared_as.Constant))) (sym (ap (λ (b : Bool). cond b gs (record gs { constants = gs.constants ++ w ∷ [] })) e))
      (subst (Constants gs) (sym (old-name (found es 0 w.text) refl (h.base.declared w.text ∙ e))) h)
    where
      old-name : (x : Option Thing) → found es 0 w.text ≡ x → is_some (found es 0 w.text) ≡ true → after es 0 (what.Declares w declared_as.Constant) ≡ es
      old-name (Some t) f g = after-old es 0 w declared_as.Constant t f
      old-name None f g = let q : false ≡ true = sym (ap is_some f) ∙ g in cc
  constant-one w gs es h false e =
      let none : found es 0 w.text ≡ None = undeclared gs o es w.text h.base e in
      subst (λ (hs : Globals). Constants hs (after es 0 (what.Declares w declared_as.Constant))) (sym (ap (λ (b : Bool). cond b gs (record gs { constants = gs.constants ++ w ∷ [] })) e))
      (subst (Constants (record gs { constants = gs.constants ++ w ∷ [] })) (sym (after-new es 0 w declared_as.Constant none))
      (record { base = base-constant gs o es w none h.base; below = below-more o es (entry 0 w.text (thing_of es 0 declared_as.Constant)) h.below p }))

  constants-spread : (ws : List Word) (gs : Globals) (es : List Entry) → Constants gs es → Constants (with_constants gs ws) (env_from es (map constant_mark ws))
  constants-spread [] gs es h = h
  constants-spread (w ∷ ws) gs es h = constants-spread ws (with_constant gs w) (after es 0 (what.Declares w declared_as.Constant)) (constant-one w gs es h (is_declared gs w.text) refl)

-- ---- before the variables of a typedef or of a proctype

own-start : (gs : Globals) (o : ℕ) (es : List Entry) → Base gs o es → Below o es → Ready gs es o (known es [])
own-start gs o es h g = record {
  base = h;
  own = λ n. found-below o es n g;
  known = tt;
  count = variables-below o es g;
  held = held-below o es g;
  below = below-later o es g;
  still = λ n. refl;
}

-- ---- what stays as it is

abbrev Same : Globals → Globals → Type 0
Same gs hs = (hs.text ≡ gs.text) × (hs.variables ≡ gs.variables)

same-if : (b : Bool) (gs hs : Globals) → Same gs hs → Same gs (cond b gs hs)
same-if true gs hs h = (refl, refl)
same-if false gs hs h = h

constants-same : (ws : List Word) (gs : Globals) → Same gs (with_constants gs ws)
constants-same [] gs = (refl, refl)
constants-same (w ∷ ws) gs =
    let one : Same gs (with_constant gs w) = same-if (is_declared gs w.text) gs (record gs { constants = gs.constants ++ w ∷ [] }) (refl, refl) in
    let more : Same (with_constant gs w) (with_constants (with_constant gs w) ws) = constants-same ws (with_constant gs w) in
    (more.0 ∙ one.0, more.1 ∙ one.1)

starts-is : (s : Starts) → beginning s ≡ count s
starts-is starts.Never = refl
starts-is starts.Once = refl
starts-is (starts.Times e) = count-is (constant e)

-- how many proctypes are made
abbrev pub made_so_far : Made → ℕ
made_so_far m = length m.program.proctypes

pub one-longer : {A : Type 0} → (xs : List A) (x : A) → length xs + 1 ≡ length (xs ++ x ∷ [])
one-longer xs x = sym (length-append xs (x ∷ []))

module _ (text : List Part) (all : List Entry) (whole : ReadsAll text all) where
  -- before the units us, the first with the number o
  pub record Whole (gs : Globals) (o : ℕ) (us : List Part) (m : Made) : Type 0 where
    pub base : Base gs o m.names
    pub below : Below o m.names
    pub globals : m.program.globals ≡ gs.variables
    pub same : gs.text ≡ text
    pub reads : Reads text (made_so_far m) us m.names

  -- ---- variables

  abbrev variables_of : List TreeVariable → Globals → Made → Known
  variables_of vs gs m = with_variables all role.Variable 0 vs (known m.names gs.variables)

  abbrev after_variables : List TreeVariable → Globals → Made → Made
  after_variables vs gs m = made (record m.program { globals = (variables_of vs gs m).slots }) (variables_of vs gs m).names

  variables-unit : (o : ℕ) (vs : List TreeVariable) (gs : Globals) (m : Made) → m.program.globals ≡ gs.variables → with_unit all o (part.Variables vs) m ≡ after_variables vs gs m
  variables-unit o vs gs m e = ap (λ (ss : List Slot). made (record m.program { globals = (with_variables all role.Variable 0 vs (known m.names ss)).slots }) (with_variables all role.Variable 0 vs (known m.names ss)).names) e

  variables-whole : (o : ℕ) (vs : List TreeVariable) (us : List Part) (gs : Globals) (m : Made) → 0 < o → Whole gs o (part.Variables vs ∷ us) m → Whole (with_slots gs (variables_of vs gs m).slots) (o + 1) us (after_variables vs gs m)
  variables-whole o vs us gs m p h =
      let r = globals-spread all o p vs gs m.names h.base h.below in
      record {
        base = base-later _ o _ r.base;
        below = below-later o _ r.below;
        globals = refl;
        same = h.same;
        reads = λ n. variables-read all vs (known m.names gs.variables) n (proctype_named (made_so_far m) us n) ∙ h.reads n;
      }

  -- ---- mtype names

  constants-whole : (o : ℕ) (ns : List Word) (us : List Part) (gs : Globals) (m : Made) → 0 < o → Whole gs o (part.Constants ns ∷ us) m → Whole (with_constants gs (reverse ns)) (o + 1) us (with_unit all o (part.Constants ns) m)
  constants-whole o ns us gs m p h =
      let r = constants-spread o p (reverse ns) gs m.names (record { base = h.base; below = h.below }) in
      let kept = constants-same (reverse ns) gs in
      record {
        base = base-later _ o _ r.base;
        below = below-later o _ r.below;
        globals = h.globals ∙ sym kept.1;
        same = kept.0 ∙ h.same;
        reads = λ n.
            constants-read (reverse ns) m.names n (proctype_named (made_so_far m) us n)
            ∙ ap (λ (b : Bool). or_process (found m.names 0 n) (cond b None (proctype_named (made_so_far m) us n))) (name-reversed ns n) ∙ h.reads n;
      }

  -- ---- typedefs

  abbrev fields_made : ℕ → List TreeVariable → Made → Known
  fields_made o vs m = with_variables all role.Field o vs (known m.names [])

  abbrev now_typedef : ℕ → Word → List Entry → List Entry
  now_typedef o t es = after es 0 (what.Declares t (declared_as.Typedef o))

  record Closed (gs : Globals) (o : ℕ) (es : List Entry) : Type 0 where
    base : Base gs (o + 1) es
    below : Below (o + 1) es

  typedef-closed : (gs : Globals) (start : List Entry) (o : ℕ) (t : Word) (x : Known) → 0 < o → Ready gs start o x → (b : Bool) → is_declared gs t.text ≡ b → Closed (with_typedef gs (structure t o x.slots)) o (now_typedef o t x.names)
  typedef-closed gs start o t x p h true e =
      subst (λ (hs : Globals). Closed hs o (now_typedef o t x.names)) (sym (ap (λ (b : Bool). cond b gs (record gs { typedefs = gs.typedefs ++ structure t o x.slots ∷ [] })) e))
      (subst (Closed gs o) (sym (old-name (found x.names 0 t.text) refl (h.base.declared t.text ∙ e))) (record { base = base-later gs o x.names h.base; below = h.below }))
    where
      old-name : (f : Option Thing) → found x.names 0 t.text ≡ f → is_some (found x.names 0 t.text) ≡ true → now_typedef o t x.names ≡ x.names
      old-name (Some y) f g = after-old x.names 0 t (declared_as.Typedef o) y f
      old-name None f g = let q : false ≡ true = sym (ap is_some f) ∙ g in cc
  typedef-closed gs start o t x p h false e =
      let none : found x.names 0 t.text ≡ None = undeclared gs o x.names t.text h.base e in
      subst (λ (hs : Globals). Closed hs o (now_typedef o t x.names)) (sym (ap (λ (b : Bool). cond b gs (record gs { typedefs = gs.typedefs ++ structure t o x.slots ∷ [] })) e))
      (subst (Closed (record gs { typedefs = gs.typedefs ++ structure t o x.slots ∷ [] }) o) (sym (after-new x.names 0 t (declared_as.Typedef o) none))
      (record {
        base = base-typedef gs o x.names (structure t o x.slots) refl p none h.known h.held h.own h.base;
        below = below-more (o + 1) x.names (entry 0 t.text (thing_of x.names 0 (declared_as.Typedef o))) h.below (omega arith);
      }))

  fields-ready : (o : ℕ) (vs : List TreeVariable) (us : List Part) (gs : Globals) (m : Made) → 0 < o → Base gs o m.names → Below o m.names → Ready gs m.names o (fields_made o vs m)
  fields-ready o vs us gs m p h g = variables-ready gs all m.names role.Field o p vs (known m.names []) (own-start gs o m.names h g)

  typedef-whole : (o : ℕ) (t : Word) (vs : List TreeVariable) (us : List Part) (gs : Globals) (m : Made) → 0 < o → Whole gs o (part.Typedef t vs ∷ us) m
      → Whole (with_typedef gs (structure t o (fields_made o vs m).slots)) (o + 1) us (with_unit all o (part.Typedef t vs) m)
  typedef-whole o t vs us gs m p h =
      let x : Known = fields_made o vs m in
      let ready = fields-ready o vs us gs m p h.base h.below in
      let r = typedef-closed gs m.names o t x p ready (is_declared gs t.text) refl in
      let kept = same-if (is_declared gs t.text) gs (record gs { typedefs = gs.typedefs ++ structure t o x.slots ∷ [] }) (refl, refl) in
      record {
        base = r.base;
        below = r.below;
        globals = h.globals ∙ sym kept.1;
        same = kept.0 ∙ h.same;
        reads = λ n.
            after-read x.names t (declared_as.Typedef o) n (proctype_named (made_so_far m) us n)
            ∙ ap (λ (f : Option Thing). or_process f (cond (declares (part.Typedef t vs) n) None (proctype_named (made_so_far m) us n))) (ready.still n) ∙ h.reads n;
      }

  -- ---- proctypes

  abbrev now_process : ℕ → TreeProctype → List Entry → List Entry
  now_process k q es = after es 0 (what.Declares q.name (declared_as.Proctype k (length q.parameters)))

  pub record Opened (gs : Globals) (o : ℕ) (es : List Entry) : Type 0 where
    pub base : Base gs o es
    pub below : Below o es

  process-opened : (gs : Globals) (o k : ℕ) (q : TreeProctype) (es : List Entry) → 0 < o → Base gs o es → Below o es → (b : Bool) → is_declared gs q.name.text ≡ b → Opened (with_proctype gs q.name) o (now_process k q es)
  process-opened gs o k q es p h g true e =
      subst (λ (hs : Globals). Opened hs o (now_process k q es)) (sym (ap (λ (b : Bool). cond b gs (record gs { proctypes = gs.proctypes ++ q.name ∷ [] })) e))
      (subst (Opened gs o) (sym (old-name (found es 0 q.name.text) refl (h.declared q.name.text ∙ e))) (record { base = h; below = g }))
    where
      old-name : (f : Option Thing) → found es 0 q.name.text ≡ f → is_some (found es 0 q.name.text) ≡ true → now_process k q es ≡ es
      old-name (Some y) f g = after-old es 0 q.name (declared_as.Proctype k (length q.parameters)) y f
      old-name None f g = let r : false ≡ true = sym (ap is_some f) ∙ g in cc
  process-opened gs o k q es p h g false e =
      let none : found es 0 q.name.text ≡ None = undeclared gs o es q.name.text h e in
      subst (λ (hs : Globals). Opened hs o (now_process k q es)) (sym (ap (λ (b : Bool). cond b gs (record gs { proctypes = gs.proctypes ++ q.name ∷ [] })) e))
      (subst (Opened (record gs { proctypes = gs.proctypes ++ q.name ∷ [] }) o) (sym (after-new es 0 q.name (declared_as.Proctype k (length q.parameters)) none))
      (record {
        base = base-proctype gs o es q.name k (length q.parameters) none h;
        below = below-more o es (entry 0 q.name.text (thing.Proctype k (length q.parameters))) g p;
      }))

  module _ (o : ℕ) (q : TreeProctype) (us : List Part) (gs : Globals) (m : Made) (p : 0 < o) (h : Whole gs o (part.Proctype q ∷ us) m) where
    abbrev es : List Entry
    es = now_process (made_so_far m) q m.names

    abbrev hs : Globals
    hs = with_proctype gs q.name

    pub opened : Opened hs o es
    opened = process-opened gs o (made_so_far m) q m.names p h.base h.below (is_declared gs q.name.text) refl

    kept : Same gs hs
    kept = same-if (is_declared gs q.name.text) gs (record gs { proctypes = gs.proctypes ++ q.name ∷ [] }) (refl, refl)

    opened-reads : Reads text (made_so_far m + 1) us es
    opened-reads n = after-read m.names q.name (declared_as.Proctype (made_so_far m) (length q.parameters)) n (proctype_named (made_so_far m + 1) us n) ∙ h.reads n

    opened-runs : Runs hs all es
    opened-runs =
        runs-of hs all es (made_so_far m + 1) us (subst (λ (ts : List Part). Reads ts (made_so_far m + 1) us es) (sym (kept.0 ∙ h.same)) opened-reads)
        (subst (λ (ts : List Part). ReadsAll ts all) (sym (kept.0 ∙ h.same)) whole)

    opened-start : Ready hs es o (known es [])
    opened-start = own-start hs o es opened.base opened.below

    abbrev parameters : Known
    parameters = with_variables all role.Variable o q.parameters (known es [])

    parameters-ready : Ready hs es o parameters
    parameters-ready = variables-ready hs all es role.Variable o p q.parameters (known es []) opened-start

    parameters-stand : StandsVariables hs role.Variable [] q.parameters parameters.slots
    parameters-stand = variables-stand hs all es role.Variable o p q.parameters (known es []) opened-start

    abbrev body : Seq × Known
    body = numbered_seq q.body all o parameters

    body-stands : StandsSeq hs parameters.slots q.body body.0 body.1.slots × Ready hs es o body.1
    body-stands = seq-stands hs all es o p opened-runs q.body parameters parameters-ready

    process-whole : Whole hs (o + 1) us (with_unit all o (part.Proctype q) m)
    process-whole = record {
      base = base-later hs o body.1.names body-stands.1.base;
      below = body-stands.1.below;
      globals = h.globals ∙ sym kept.1;
      same = kept.0 ∙ h.same;
      reads =
          subst (λ (k : ℕ). Reads text k us body.1.names) (one-longer m.program.proctypes _)
          (λ n. ap (λ (f : Option Thing). or_process f (proctype_named (made_so_far m + 1) us n)) (body-stands.1.still n) ∙ opened-reads n);
    }

    -- ---- nothing else stands for the parameters and the body

    only_parameters : {ms : List Slot} → StandsVariables hs role.Variable [] q.parameters ms → parameters.slots ≡ ms
    only_parameters g = sym (only_variables hs all es role.Variable o p g (known es []) refl opened-start)

    only_body : {ms ls : List Slot} {x : Seq} → parameters.slots ≡ ms → StandsSeq hs ms q.body x ls → (x ≡ body.0) × (ls ≡ body.1.slots)
    only_body e g = let r = only_seq hs all es o p opened-runs g parameters e parameters-ready in (r.part, r.slots)

  -- ---- all units

  abbrev shown : Globals → Made → List Word → List Fields → List Proctype → Program
  shown zs m cs ts ps = program_of zs.variables (m.program.constants ++ cs) (m.program.typedefs ++ ts) (m.program.proctypes ++ ps)

  -- what the units stand for is what comes out
  pub record Stood (o : ℕ) (gs : Globals) (us : List Part) (m : Made) : Type 0 where
    pub zs : Globals
    pub cs : List Word
    pub ts : List Fields
    pub ps : List Proctype
    pub stand : StandsUnits o gs us zs cs ts ps
    pub same : (with_units all o us m).program ≡ shown zs m cs ts ps

  program-same : (gs : List Slot) (cs ds : List Word) (ts us : List Fields) (ps qs : List Proctype) → cs ≡ ds → ts ≡ us → ps ≡ qs → program_of gs cs ts ps ≡ program_of gs ds us qs
  program-same gs cs ds ts us ps qs e f g = ap (λ xs. program_of gs xs ts ps) e ∙ ap (λ xs. program_of gs ds xs ps) f ∙ ap (program_of gs ds us) g

  nothing-left : (gs : Globals) (m : Made) → m.program.globals ≡ gs.variables → m.program ≡ shown gs m [] [] []
  nothing-left gs m e =
      ap (λ ss. program_of ss m.program.constants m.program.typedefs m.program.proctypes) e
      ∙ program-same gs.variables _ _ _ _ _ _ (sym (append-nil m.program.constants)) (sym (append-nil m.program.typedefs)) (sym (append-nil m.program.proctypes))

  abbrev Goes : List Part → Type 0
  Goes us = (o : ℕ) (gs : Globals) (m : Made) → 0 < o → Whole gs o us m → Stood o gs us m

  later : (o : ℕ) → 0 < o → 0 < o + 1
  later o p = omega (arith, p)

  -- behind a unit what is left is before the others
  pub unit-whole : (u : Part) (us : List Part) (o : ℕ) (gs : Globals) (m : Made) → 0 < o → Whole gs o (u ∷ us) m → (hs : Globals) × Whole hs (o + 1) us (with_unit all o u m)
  unit-whole (part.Variables vs) us o gs m p h =
      let hs : Globals = with_slots gs (variables_of vs gs m).slots in
      (hs, subst (Whole hs (o + 1) us) (sym (variables-unit o vs gs m h.globals)) (variables-whole o vs us gs m p h))
  unit-whole (part.Constants ns) us o gs m p h = (with_constants gs (reverse ns), constants-whole o ns us gs m p h)
  unit-whole (part.Typedef t vs) us o gs m p h = (with_typedef gs (structure t o (fields_made o vs m).slots), typedef-whole o t vs us gs m p h)
  unit-whole (part.Proctype q) us o gs m p h = (with_proctype gs q.name, process-whole o q us gs m p h)

  unit-stands : (u : Part) (us : List Part) → Goes us → Goes (u ∷ us)
  unit-stands (part.Variables vs) us rest o gs m p h =
      let r = rest (o + 1) (with_slots gs (variables_of vs gs m).slots) (after_variables vs gs m) (later o p) (variables-whole o vs us gs m p h) in
      record {
        zs = r.zs;
        cs = r.cs;
        ts = r.ts;
        ps = r.ps;
        stand = stands.variables (globals-spread all o p vs gs m.names h.base h.below).stand r.stand;
        same = ap (λ (n : Made). (with_units all (o + 1) us n).program) (variables-unit o vs gs m h.globals) ∙ r.same;
      }
  unit-stands (part.Constants ns) us rest o gs m p h =
      let r = rest (o + 1) (with_constants gs (reverse ns)) (with_unit all o (part.Constants ns) m) (later o p) (constants-whole o ns us gs m p h) in
      record {
        zs = r.zs;
        cs = reverse ns ++ r.cs;
        ts = r.ts;
        ps = r.ps;
        stand = stands.constants r.stand;
        same = r.same ∙ program-same r.zs.variables _ _ _ _ _ _ (append_assoc m.program.constants (reverse ns) r.cs) refl refl;
      }
  unit-stands (part.Typedef t vs) us rest o gs m p h =
      let x : Known = fields_made o vs m in
      let r = rest (o + 1) (with_typedef gs (structure t o x.slots)) (with_unit all o (part.Typedef t vs) m) (later o p) (typedef-whole o t vs us gs m p h) in
      record {
        zs = r.zs;
        cs = r.cs;
        ts = fields_with o x.slots ∷ r.ts;
        ps = r.ps;
        stand = stands.typedef (variables-stand gs all m.names role.Field o p vs (known m.names []) (own-start gs o m.names h.base h.below)) r.stand;
        same = r.same ∙ program-same r.zs.variables _ _ _ _ _ _ refl (append_assoc m.program.typedefs (fields_with o x.slots ∷ []) r.ts) refl;
      }
  unit-stands (part.Proctype q) us rest o gs m p h =
      let b : Seq × Known = body o q us gs m p h in
      let r = rest (o + 1) (with_proctype gs q.name) (with_unit all o (part.Proctype q) m) (later o p) (process-whole o q us gs m p h) in
      let made_so : Proctype = record { name = q.name; owner = o; starts = count q.starts; parameters = length q.parameters; variables = b.1.slots; body = b.0; end = q.end } in
      let is : proctype_with o q b.1.slots b.0 ≡ made_so = ap (λ (n : ℕ). record { name = q.name; owner = o; starts = n; parameters = length q.parameters; variables = b.1.slots; body = b.0; end = q.end }) (starts-is q.starts) in
      record {
        zs = r.zs;
        cs = r.cs;
        ts = r.ts;
        ps = proctype_with o q b.1.slots b.0 ∷ r.ps;
        stand = stands.proctype (parameters-stand o q us gs m p h) (body-stands o q us gs m p h).0 r.stand;
        same = r.same ∙ program-same r.zs.variables _ _ _ _ _ _ refl refl (append_assoc m.program.proctypes (made_so ∷ []) r.ps ∙ ap (λ (x : Proctype). m.program.proctypes ++ x ∷ r.ps) (sym is));
      }

  pub units-stand : (us : List Part) → Goes us
  units-stand [] = λ o gs m p h. record { zs = gs; cs = []; ts = []; ps = []; stand = stands.no_unit; same = nothing-left gs m h.globals }
  units-stand (u ∷ us) = unit-stands u us (units-stand us)

  pub only_units : {o : ℕ} {gs zs : Globals} {us : List Part} {cs : List Word} {ts : List Fields} {ps : List Proctype} → StandsUnits o gs us zs cs ts ps
      → (m : Made) → 0 < o → Whole gs o us m → (with_units all o us m).program ≡ shown zs m cs ts ps
  only_units (stands.no_unit {gs}) m p h = nothing-left gs m h.globals
  only_units (stands.variables {o} {gs} {vs} {us} {cs} {ts} {ps} g rest) m p h =
      let same = only_globals all o p g m.names h.base in
      ap (λ (n : Made). (with_units all (o + 1) us n).program) (variables-unit o vs gs m h.globals)
      ∙ only_units rest (after_variables vs gs m) (later o p) (subst (λ (hs : Globals). Whole hs (o + 1) us (after_variables vs gs m)) (sym same) (variables-whole o vs us gs m p h))
  only_units (stands.constants {o} {gs} {zs} {ns} {us} {cs} rest) m p h =
      only_units rest (with_unit all o (part.Constants ns) m) (later o p) (constants-whole o ns us gs m p h)
      ∙ program-same zs.variables _ _ _ _ _ _ (append_assoc m.program.constants (reverse ns) cs) refl refl
  only_units (stands.typedef {o} {gs} {zs} {t} {vs} {fs} {us} {ts} g rest) m p h =
      let same = only_variables gs all m.names role.Field o p g (known m.names []) refl (own-start gs o m.names h.base h.below) in
      only_units rest (with_unit all o (part.Typedef t vs) m) (later o p) (subst (λ (ss : List Slot). Whole (with_typedef gs (structure t o ss)) (o + 1) us (with_unit all o (part.Typedef t vs) m)) (sym same) (typedef-whole o t vs us gs m p h))
      ∙ program-same zs.variables _ _ _ _ _ _ refl (append_assoc m.program.typedefs (fields_with o (fields_made o vs m).slots ∷ []) ts ∙ ap (λ (ss : List Slot). m.program.typedefs ++ fields_with o ss ∷ ts) (sym same)) refl
  only_units (stands.proctype {o} {gs} {zs} {p = q} {ms} {ls} {x} {us} {ps} g k rest) m p h =
      let b : Seq × Known = body o q us gs m p h in
      let e = only_body o q us gs m p h (only_parameters o q us gs m p h g) k in
      let made_so : Proctype = record { name = q.name; owner = o; starts = count q.starts; parameters = length q.parameters; variables = b.1.slots; body = b.0; end = q.end } in
      let is : proctype_with o q b.1.slots b.0 ≡ made_so = ap (λ (n : ℕ). record { name = q.name; owner = o; starts = n; parameters = length q.parameters; variables = b.1.slots; body = b.0; end = q.end }) (starts-is q.starts) in
      let same : proctype_with o q ls x ≡ made_so = ap (λ (ss : List Slot). proctype_with o q ss x) e.1 ∙ ap (proctype_with o q b.1.slots) e.0 ∙ is in
      only_units rest (with_unit all o (part.Proctype q) m) (later o p) (process-whole o q us gs m p h)
      ∙ program-same zs.variables _ _ _ _ _ _ refl refl (append_assoc m.program.proctypes (made_so ∷ []) ps ∙ ap (λ (y : Proctype). m.program.proctypes ++ y ∷ ps) (sym same))
