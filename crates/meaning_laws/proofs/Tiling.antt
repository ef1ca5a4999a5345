-- The variables of an owner lie one behind another.
use Rattle.std.proofs.Common.{◌≡◌, ◌≢◌, ℕ, ◌+◌, ◌*◌, ◌<◌, Bool, true, false, ◌&&◌, cond, nat_eq, nat_lt, pos, negsuc, List, [], ◌∷◌, ◌++◌, reverse, Option, Some, None, refl, ap, subst, ◌∙◌, inl, inr, arith, rules}
use Rattle.std.specs.Option.{option_map}
use Rattle.std.specs.List.{AllByRecursion}
use Rattle.std.specs.Str.{bytes_eq}
use Rattle.std.proofs.lemmas.Bool.Decides.{eqb_tells}
use Rattle.std.proofs.lemmas.List.{append_assoc}
use Rattle.profile.specs.declared.TheConstants.{MOST_CELLS}
use Rattle.pml_token.specs.Word.{Word}
use Rattle.pml_tree.specs.declared.tree.Sort.{Sort}
use Rattle.pml_tree.specs.declared.tree.Expr.{Expr as TreeExpr}
use Rattle.pml_tree.specs.declared.tree.Basic.{Basic as TreeBasic}
use Rattle.pml_tree.specs.declared.tree.Item.{Item}
use Rattle.pml_tree.specs.declared.tree.Seq.{Seq as TreeSeq}
use Rattle.pml_tree.specs.declared.tree.Variable.{Variable}
use Rattle.pml_tree.specs.declared.tree.Unit.{Unit as Part}
use Rattle.pml_tree.specs.declared.tree.Tree.{Tree}
use Rattle.promela_model.specs.Stands.{Structure, Globals, typedef_named, is_declared, with_constant, with_proctype, cells_in_all}
use Rattle.promela_model.specs.Names.{constant, length_of, cells_counted}
use Rattle.meaning_laws.proofs.Words.{with_constants, structure, fields_with}
use Rattle.promela_model.specs.declared.mark.Role.{Role}
use Rattle.promela_model.specs.declared.mark.Constant.{Constant}
use Rattle.promela_model.specs.declared.mark.Constant.TheVariants as number
use Rattle.pml_program.specs.declared.form.Form.{Form}
use Rattle.pml_program.specs.declared.form.Form.TheVariants as kind
use Rattle.pml_program.specs.declared.program.Basic.{Basic}
use Rattle.pml_program.specs.declared.program.Seq.{Seq}
use Rattle.pml_program.specs.declared.program.Slot.{Slot}
use Rattle.pml_program.specs.declared.program.Stmt.{Stmt}
use Rattle.pml_program.specs.declared.program.Fields.{Fields}
use Rattle.pml_program.specs.declared.program.Proctype.{Proctype}
use Rattle.pml_program.specs.declared.program.Program.{Program}
use Rattle.promela_model.specs.StandsModel as stands
use Rattle.promela_model.specs.StandsModel.{StandsSort, StandsVariable, StandsVariables, StandsBasic, StandsItems, StandsSeq, StandsOptions, StandsGlobals, StandsUnits, StandsModel}
use Rattle.meaning_laws.specs.Tiled.{fields_at, HasWidth, Begins, Tile, TypedefsTile, OwnersFrom, IsTiled}

-- ---- one more

tile-more : (ts : List Fields) (at : ℕ) (ss : List Slot) (s : Slot) → Tile ts at ss → Begins ts (at + cells_in_all ss) s → Tile ts at (ss ++ s ∷ [])
tile-more ts at [] s h g = (record { offset = g.offset ∙ ap cells_counted (omega arith); some = g.some; width = g.width }, tt)
tile-more ts at (x ∷ ss) s h g =
    let same : at + (x.length * x.stride + cells_in_all ss) ≡ (at + x.length * x.stride) + cells_in_all ss = omega arith in
    (h.0, tile-more ts (at + x.length * x.stride) ss s h.1 (record { offset = g.offset ∙ ap cells_counted same; some = g.some; width = g.width }))

first-still : (b : Bool) (x : List Slot) (r q : Option (List Slot)) (fs : List Slot) → (r ≡ Some fs → q ≡ Some fs) → cond b (Some x) r ≡ Some fs → cond b (Some x) q ≡ Some fs
first-still true x r q fs h g = g
first-still false x r q fs h g = h g

pub fields-still : (ts us : List Fields) (t : ℕ) (fs : List Slot) → fields_at ts t ≡ Some fs → fields_at (ts ++ us) t ≡ Some fs
fields-still [] us t fs h = cc
fields-still (f ∷ ts) us t fs h = first-still (nat_eq t f.owner) f.fields (fields_at ts t) (fields_at (ts ++ us) t) fs (fields-still ts us t fs) h

width-still : (ts us : List Fields) (f : Form) (w : ℕ) → HasWidth ts f w → HasWidth (ts ++ us) f w
width-still ts us (kind.Struct t) w h = (h.0, fields-still ts us t h.0 h.1, h.2)
width-still ts us (kind.Plain s) w h = h
width-still ts us (kind.Unsigned n) w h = h
width-still ts us kind.Unknown w h = h

pub tile-still : (ts us : List Fields) (at : ℕ) (ss : List Slot) → Tile ts at ss → Tile (ts ++ us) at ss
tile-still ts us at [] h = tt
tile-still ts us at (s ∷ ss) h = (record { offset = h.0.offset; some = h.0.some; width = width-still ts us s.form s.stride h.0.width }, tile-still ts us (at + s.length * s.stride) ss h.1)

-- ---- the typedefs so far are those of the model so far

abbrev Covers : List Structure → List Fields → Type 0
Covers xs ts = AllByRecursion (λ (x : Structure). fields_at ts x.number ≡ Some x.fields) xs

abbrev OwnersBelow : ℕ → List Fields → Type 0
OwnersBelow o = AllByRecursion (λ (f : Fields). f.owner < o)

covers-still : (xs : List Structure) (ts us : List Fields) → Covers xs ts → Covers xs (ts ++ us)
covers-still [] ts us h = tt
covers-still (x ∷ xs) ts us h = (fields-still ts us x.number x.fields h.0, covers-still xs ts us h.1)

covers-more : (xs : List Structure) (ts : List Fields) (x : Structure) → Covers xs ts → fields_at ts x.number ≡ Some x.fields → Covers (xs ++ x ∷ []) ts
covers-more [] ts x h g = (g, tt)
covers-more (y ∷ xs) ts x h g = (h.0, covers-more xs ts x h.1 g)

owners-more : (o : ℕ) (ts : List Fields) (f : Fields) → OwnersBelow o ts → f.owner ≡ o → OwnersBelow (o + 1) (ts ++ f ∷ [])
owners-more o [] f h e = (omega (arith, e), tt)
owners-more o (g ∷ ts) f h e = (omega (arith, h.0), owners-more o ts f h.1 e)

owners-later : (o : ℕ) (ts : List Fields) → OwnersBelow o ts → OwnersBelow (o + 1) ts
owners-later o [] h = tt
owners-later o (f ∷ ts) h = (omega (arith, h.0), owners-later o ts h.1)

owner-other : (o p : ℕ) → o ≢ p → nat_eq o p ≡ false
owner-other o p h = elim (eqb_tells o p) [
  | inl e ↦ absurd (h e.1)
  | inr e ↦ e.0
]

owner-same : (o : ℕ) → nat_eq o o ≡ true
owner-same o = elim (eqb_tells o o) [
  | inl e ↦ e.0
  | inr e ↦ absurd (e.1 refl)
]

-- the fields of the newest typedef are found
fields-newest : (o : ℕ) (ts : List Fields) (fs : List Slot) → OwnersBelow o ts → fields_at (ts ++ fields_with o fs ∷ []) o ≡ Some fs
fields-newest o [] fs h = ap (λ (b : Bool). cond b (Some fs) None) (owner-same o)
fields-newest o (f ∷ ts) fs h = ap (λ (b : Bool). cond b (Some f.fields) (fields_at (ts ++ fields_with o fs ∷ []) o)) (owner-other o f.owner (omega (arith, h.0))) ∙ fields-newest o ts fs h.1

covered-first : (y x : Structure) (r : Option Structure) (ts : List Fields) (b : Bool) → fields_at ts y.number ≡ Some y.fields → (r ≡ Some x → fields_at ts x.number ≡ Some x.fields) → cond b (Some y) r ≡ Some x → fields_at ts x.number ≡ Some x.fields
covered-first y x r ts true h g e = let same : y ≡ x = cc in subst (λ (z : Structure). fields_at ts z.number ≡ Some z.fields) same h
covered-first y x r ts false h g e = g e

covered : (xs : List Structure) (ts : List Fields) (n : List ℕ) (x : Structure) → Covers xs ts → typedef_named xs n ≡ Some x → fields_at ts x.number ≡ Some x.fields
covered [] ts n x h e = cc
covered (y ∷ xs) ts n x h e = covered-first y x (typedef_named xs n) ts (bytes_eq n y.name.text) h.0 (covered xs ts n x h.1) e

-- ---- variables

at_least : (n : ℕ) (b c : Bool) → (b ≡ true → 0 < n) → 0 < cond (b && c) n 1
at_least n true true h = h refl
at_least n true false h = omega arith
at_least n false c h = omega arith

size-some : (c : Constant) → 0 < length_of (Some c)
size-some (number.Is (pos n)) = at_least n (nat_lt 0 n) (nat_lt n (MOST_CELLS + 1)) (λ h. search (rules, h))
size-some (number.Is (negsuc n)) = omega arith
size-some number.Faulty = omega arith
size-some number.Open = omega arith

elements-some : (x : Option TreeExpr) → 0 < length_of (option_map constant x)
elements-some None = omega arith
elements-some (Some e) = size-some (constant e)

module _ (gs : Globals) (ts : List Fields) (covers : Covers gs.typedefs ts) where
  sort-width : {ls : List Slot} {s : Sort} {f : Form} {w : ℕ} → StandsSort gs ls s f w → HasWidth ts f w
  sort-width (stands.plain_sort s) = refl
  sort-width (stands.unsigned_sort n) = refl
  sort-width (stands.typedef_sort {n} {x} none is) = (x.fields, covered gs.typedefs ts n.text x covers is, refl)
  sort-width (stands.hidden_sort is) = refl
  sort-width (stands.lost_sort none) = refl

  variable-begins : {ls before : List Slot} {v : Variable} {s : Slot} → StandsVariable gs ls before v s → Begins ts (cells_in_all before) s
  variable-begins (stands.variable {v} h g) = record { offset = refl; some = elements-some v.size; width = sort-width h }

  variable-tiles : {ls : List Slot} {v : Variable} (ss : List Slot) (s : Slot) → StandsVariable gs ls ss v s → Tile ts 0 ss → Tile ts 0 (ss ++ s ∷ [])
  variable-tiles ss s h g =
      let b : Begins ts (cells_in_all ss) s = variable-begins h in
      tile-more ts 0 ss s g (record { offset = b.offset ∙ ap cells_counted (omega arith); some = b.some; width = b.width })

  variables-tile : {use_as : Role} {ss zs : List Slot} {vs : List Variable} → StandsVariables gs use_as ss vs zs → Tile ts 0 ss → Tile ts 0 zs
  variables-tile stands.no_variable h = h
  variables-tile (stands.new_variable {ss} {s} none one rest) h = variables-tile rest (variable-tiles ss s one h)
  variables-tile (stands.old_variable is rest) h = variables-tile rest h

  mutual
    basic-tiles : {ls zs : List Slot} {x : TreeBasic} {y : Option Basic} → StandsBasic gs ls x y zs → Tile ts 0 ls → Tile ts 0 zs
    basic-tiles (stands.declare h) g = variables-tile h g
    basic-tiles stands.exclusive g = g
    basic-tiles (stands.plain h) g = g
    basic-tiles stands.goto g = g
    basic-tiles stands.break g = g
    basic-tiles (stands.if_fi h) g = options-tile h g
    basic-tiles (stands.do_od h) g = options-tile h g
    basic-tiles (stands.block h) g = seq-tiles h g
    basic-tiles (stands.atomic h) g = seq-tiles h g
    basic-tiles (stands.d_step h) g = seq-tiles h g
    basic-tiles (stands.unless h k) g = seq-tiles k (seq-tiles h g)

    items-tile : {ls zs : List Slot} {is : List Item} {ys : List Stmt} → StandsItems gs ls is ys zs → Tile ts 0 ls → Tile ts 0 zs
    items-tile stands.no_item g = g
    items-tile (stands.no_step h k) g = items-tile k (basic-tiles h g)
    items-tile (stands.one_step h k) g = items-tile k (basic-tiles h g)

    seq-tiles : {ls zs : List Slot} {s : TreeSeq} {y : Seq} → StandsSeq gs ls s y zs → Tile ts 0 ls → Tile ts 0 zs
    seq-tiles (stands.sequence h) g = items-tile h g

    options-tile : {ls zs : List Slot} {ss : List TreeSeq} {xs : List Seq} → StandsOptions gs ls ss xs zs → Tile ts 0 ls → Tile ts 0 zs
    options-tile stands.no_option g = g
    options-tile (stands.option h k) g = options-tile k (seq-tiles h g)

record Spread (ts : List Fields) (gs : Globals) : Type 0 where
  covers : Covers gs.typedefs ts
  tile : Tile ts 0 gs.variables

globals-tile : (ts : List Fields) {gs zs : Globals} {vs : List Variable} → StandsGlobals gs vs zs → Spread ts gs → Spread ts zs
globals-tile ts stands.no_global h = h
globals-tile ts (stands.new_global {gs} {s} none one rest) h = globals-tile ts rest (record { covers = h.covers; tile = variable-tiles gs ts h.covers gs.variables s one h.tile })
globals-tile ts (stands.old_global is rest) h = globals-tile ts rest h

-- ---- units

spread-if : (ts : List Fields) (b : Bool) (gs hs : Globals) → Spread ts gs → Spread ts hs → Spread ts (cond b gs hs)
spread-if ts true gs hs h g = h
spread-if ts false gs hs h g = g

constants-spread : (ts : List Fields) (ws : List Word) (gs : Globals) → Spread ts gs → Spread ts (with_constants gs ws)
constants-spread ts [] gs h = h
constants-spread ts (w ∷ ws) gs h = constants-spread ts ws (with_constant gs w) (spread-if ts (is_declared gs w.text) gs (record gs { constants = gs.constants ++ w ∷ [] }) h (record { covers = h.covers; tile = h.tile }))

record UnitsTile (before : List Fields) (zs : Globals) (ts : List Fields) (ps : List Proctype) : Type 0 where
  typedefs : TypedefsTile before ts
  globals : Tile (before ++ ts) 0 zs.variables
  proctypes : AllByRecursion (λ (q : Proctype). Tile (before ++ ts) 0 q.variables) ps

units-tile : {o : ℕ} {gs zs : Globals} {us : List Part} {cs : List Word} {ts : List Fields} {ps : List Proctype} → StandsUnits o gs us zs cs ts ps
    → (before : List Fields) → OwnersBelow o before → Spread before gs → UnitsTile before zs ts ps
units-tile (stands.no_unit {gs}) before below h = record { typedefs = tt; globals = tile-still before [] 0 gs.variables h.tile; proctypes = tt }
units-tile (stands.variables {o} g rest) before below h = units-tile rest before (owners-later o before below) (globals-tile before g h)
units-tile (stands.constants {o} {gs} {ns} rest) before below h =
    let r = units-tile rest before (owners-later o before below) (constants-spread before (reverse ns) gs h) in
    record { typedefs = r.typedefs; globals = r.globals; proctypes = r.proctypes }
units-tile (stands.typedef {o} {gs} {zs} {t} {fs} {ts} {ps} g rest) before below h =
    let f : Fields = fields_with o fs in
    let fields : Tile before 0 fs = variables-tile gs before h.covers g tt in
    let now : List Fields = before ++ f ∷ [] in
    let old : Spread now gs = record { covers = covers-still gs.typedefs before (f ∷ []) h.covers; tile = tile-still before (f ∷ []) 0 gs.variables h.tile } in
    let new : Spread now (record gs { typedefs = gs.typedefs ++ structure t o fs ∷ [] }) = record { covers = covers-more gs.typedefs now (structure t o fs) old.covers (fields-newest o before fs below); tile = old.tile } in
    let r = units-tile rest now (owners-more o before f below refl) (spread-if now (is_declared gs t.text) gs (record gs { typedefs = gs.typedefs ++ structure t o fs ∷ [] }) old new) in
    let same : now ++ ts ≡ before ++ f ∷ ts = append_assoc before (f ∷ []) ts in
    record {
      typedefs = (fields, r.typedefs);
      globals = subst (λ (us : List Fields). Tile us 0 zs.variables) same r.globals;
      proctypes = subst (λ (us : List Fields). AllByRecursion (λ (q : Proctype). Tile us 0 q.variables) ps) same r.proctypes;
    }
units-tile (stands.proctype {o} {gs} {p} {ls} {ts} g k rest) before below h =
    let hs : Globals = with_proctype gs p.name in
    let s : Spread before hs = spread-if before (is_declared gs p.name.text) gs (record gs { proctypes = gs.proctypes ++ p.name ∷ [] }) h (record { covers = h.covers; tile = h.tile }) in
    let own : Tile before 0 ls = seq-tiles hs before s.covers k (variables-tile hs before s.covers g tt) in
    let r = units-tile rest before (owners-later o before below) s in
    record { typedefs = r.typedefs; globals = r.globals; proctypes = (tile-still before ts 0 ls own, r.proctypes) }

-- ---- the numbers of typedefs

owners-sooner : (o : ℕ) (ts : List Fields) → OwnersFrom (o + 1) ts → OwnersFrom o ts
owners-sooner o [] h = tt
owners-sooner o (f ∷ ts) h = (omega (arith, h.0), h.1)

units-owners : {o : ℕ} {gs zs : Globals} {us : List Part} {cs : List Word} {ts : List Fields} {ps : List Proctype} → StandsUnits o gs us zs cs ts ps → OwnersFrom o ts
units-owners stands.no_unit = tt
units-owners (stands.variables {o} {ts} g rest) = owners-sooner o ts (units-owners rest)
units-owners (stands.constants {o} {ts} rest) = owners-sooner o ts (units-owners rest)
units-owners (stands.typedef g rest) = (omega arith, units-owners rest)
units-owners (stands.proctype {o} {ts} g k rest) = owners-sooner o ts (units-owners rest)

pub model-tiled : (t : Tree) (p : Program) → StandsModel t p → IsTiled p
model-tiled t p (stands.model h) =
    let r = units-tile h [] tt (record { covers = tt; tile = tt }) in
    record { owners = units-owners h; globals = r.globals; typedefs = r.typedefs; proctypes = r.proctypes }
