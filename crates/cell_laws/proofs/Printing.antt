-- What a value line prints for a cell is the path that leads to it.
use Rattle.std.proofs.Common.{◌≡◌, ◌≢◌, ℕ, zero, suc, ◌+◌, ◌-◌, ◌*◌, ◌/◌, ◌%◌, ◌<◌, ◌≤◌, Bool, true, false, cond, nat_eq, ltb, List, [], ◌∷◌, ◌++◌, length, Option, Some, None, refl, ap, sym, subst, ◌∙◌, ◌⊎◌, inl, inr, arith}
use Rattle.std.specs.Prelude.{slice_get, codes}
use Rattle.std.proofs.lemmas.Bool.Decides.{eqb_tells, Decides-ltb}
use Rattle.std.proofs.lemmas.List.{append_assoc}
use Rattle.std.proofs.lemmas.Nat.{div-mul-add, mod-mul-add}
use Rattle.std.proofs.lemmas.Option.{slice_get_within}
use Rattle.profile.specs.declared.TheConstants.{MOST_CELLS}
use Rattle.pml_program.specs.declared.form.Form.{Form}
use Rattle.pml_program.specs.declared.form.Form.TheVariants as kind
use Rattle.pml_program.specs.declared.program.Slot.{Slot}
use Rattle.pml_program.specs.declared.program.Fields.{Fields}
use Rattle.promela_run.specs.State.{slot_of, cell_of, fields_at as listed_at, fields_of}
use Rattle.promela_run.specs.Lines.{index_text, element, fields_path}
use Rattle.promela_model.specs.Stands.{cells_in_all}
use Rattle.meaning_laws.specs.Tiled as tiled
use Rattle.meaning_laws.specs.Tiled.{fields_at, listed, HasWidth, Tile, TypedefsTile, OwnersFrom, is_struct, Leads, fields_under, first_of}
use Rattle.meaning_laws.proofs.Leading.{lies, element as element-in, Good, struct-cells, plain-cells, leads-within}
use Rattle.cell_laws.specs.Paths.{further, spelled}

-- ---- the variable that has a cell

not-true : (b : Bool) → (b ≡ true → ⊥) → b ≡ false
not-true true h = absurd (h refl)
not-true false h = refl

is-below : (m n : ℕ) → m < n → ltb m n ≡ true
is-below m n h = (Decides-ltb m n).1 h

not-below : (m n : ℕ) → n ≤ m → ltb m n ≡ false
not-below m n h = not-true (ltb m n) (λ t. absurd (omega (arith, h, (Decides-ltb m n).0 t)))

-- the one with a cell, counted from where the first begins, and the number of the cell in it
slot-at : (ts : List Fields) (at : ℕ) (ss : List Slot) → Tile ts at ss → at + cells_in_all ss ≤ MOST_CELLS → (k : ℕ) (s : Slot) → slice_get ss k ≡ Some s
    → (c : ℕ) → s.offset ≤ c → c < s.offset + s.length * s.stride → (slot_of ss (c - at) ≡ Some s) × (cell_of ss (c - at) ≡ c - s.offset)
slot-at ts at [] h m k s e c p q = cc
slot-at ts at (x ∷ ss) h m zero s e c p q =
    let same : x ≡ s = cc in
    let o : x.offset ≡ at = h.0.offset ∙ omega (arith, m) in
    let from : x.offset ≤ c = subst (λ (y : Slot). y.offset ≤ c) (sym same) p in
    let to : c < x.offset + x.length * x.stride = subst (λ (y : Slot). c < y.offset + y.length * y.stride) (sym same) q in
    let b = is-below (c - at) (x.length * x.stride) (omega (arith, o, from, to)) in (
      ap (λ (t : Bool). cond t (Some x) (slot_of ss ((c - at) - x.length * x.stride))) b ∙ ap Some same,
      ap (λ (t : Bool). cond t (c - at) (cell_of ss ((c - at) - x.length * x.stride))) b ∙ ap (λ (n : ℕ). c - n) (sym o) ∙ ap (λ (y : Slot). c - y.offset) same,
    )
slot-at ts at (x ∷ ss) h m (suc k) s e c p q =
    let l = lies ts (at + x.length * x.stride) ss h.1 (omega (arith, m)) k s e in
    let r = slot-at ts (at + x.length * x.stride) ss h.1 (omega (arith, m)) k s e c p q in
    let b = not-below (c - at) (x.length * x.stride) (omega (arith, l.from, p)) in
    let rest : (c - at) - x.length * x.stride ≡ c - (at + x.length * x.stride) = omega arith in (
      ap (λ (t : Bool). cond t (Some x) (slot_of ss ((c - at) - x.length * x.stride))) b ∙ ap (slot_of ss) rest ∙ r.0,
      ap (λ (t : Bool). cond t (c - at) (cell_of ss ((c - at) - x.length * x.stride))) b ∙ ap (cell_of ss) rest ∙ r.1,
    )

-- the fields of a typedef that is there
fields-are : (ts : List Fields) (t : ℕ) (fs : List Slot) → fields_at ts t ≡ Some fs → listed_at ts t ≡ fs
fields-are [] t fs h = cc
fields-are (f ∷ ts) t fs h = elim (eqb_tells t f.owner) [
  | inl e ↦ ap (λ (b : Bool). cond b f.fields (listed_at ts t)) e.0 ∙ (let first : Some f.fields ≡ Some fs = sym (ap (λ (b : Bool). cond b (Some f.fields) (fields_at ts t)) e.0) ∙ h in cc)
  | inr e ↦ ap (λ (b : Bool). cond b f.fields (listed_at ts t)) e.0 ∙ fields-are ts t fs (sym (ap (λ (b : Bool). cond b (Some f.fields) (fields_at ts t)) e.0) ∙ h)
]

-- ---- where typedefs stand

-- the typedef with these fields stands at a place
pub record Stands_at (ts : List Fields) (t : ℕ) (fs : List Slot) (j : ℕ) : Type 0 where
  pub typedef : Fields
  pub there : slice_get ts j ≡ Some typedef
  pub owner : typedef.owner ≡ t
  pub fields : typedef.fields ≡ fs

found-first : (f : Fields) (ts : List Fields) (t : ℕ) (fs : List Slot) → ((j : ℕ) × Stands_at ts t fs j → (j : ℕ) × Stands_at (f ∷ ts) t fs j) → (fields_at ts t ≡ Some fs → (j : ℕ) × Stands_at ts t fs j)
    → ((nat_eq t f.owner ≡ true) × (t ≡ f.owner)) ⊎ ((nat_eq t f.owner ≡ false) × (t ≢ f.owner)) → fields_at (f ∷ ts) t ≡ Some fs → (j : ℕ) × Stands_at (f ∷ ts) t fs j
found-first f ts t fs more rest (inl e) h =
    let first : Some f.fields ≡ Some fs = sym (ap (λ (b : Bool). cond b (Some f.fields) (fields_at ts t)) e.0) ∙ h in
    (0, record { typedef = f; there = refl; owner = sym e.1; fields = cc })
found-first f ts t fs more rest (inr e) h = more (rest (sym (ap (λ (b : Bool). cond b (Some f.fields) (fields_at ts t)) e.0) ∙ h))

found-there : (ts : List Fields) (t : ℕ) (fs : List Slot) → fields_at ts t ≡ Some fs → (j : ℕ) × Stands_at ts t fs j
found-there [] t fs h = cc
found-there (f ∷ ts) t fs h =
    found-first f ts t fs (λ r. (suc r.0, record { typedef = r.1.typedef; there = r.1.there; owner = r.1.owner; fields = r.1.fields })) (λ g. found-there ts t fs g) (eqb_tells t f.owner) h

owner-from : (o : ℕ) (ts : List Fields) (j : ℕ) (f : Fields) → OwnersFrom o ts → slice_get ts j ≡ Some f → o ≤ f.owner
owner-from o [] j f h e = cc
owner-from o (g ∷ ts) zero f h e = let same : g ≡ f = cc in subst (λ (x : Fields). o ≤ x.owner) same h.0
owner-from o (g ∷ ts) (suc j) f h e = let r = owner-from (g.owner + 1) ts j f h.1 e in omega (arith, h.0, r)

-- no two typedefs have one number
one-owner : (o : ℕ) (ts : List Fields) (i j : ℕ) (f g : Fields) → OwnersFrom o ts → slice_get ts i ≡ Some f → slice_get ts j ≡ Some g → f.owner ≡ g.owner → i ≡ j
one-owner o [] i j f g h e d same = cc
one-owner o (x ∷ ts) zero zero f g h e d same = refl
one-owner o (x ∷ ts) zero (suc j) f g h e d same =
    let first : x ≡ f = cc in
    let r = owner-from (x.owner + 1) ts j g h.1 d in
    let l : x.owner ≡ f.owner = ap (λ (y : Fields). y.owner) first in
    absurd (omega (arith, r, l, same))
one-owner o (x ∷ ts) (suc i) zero f g h e d same =
    let first : x ≡ g = cc in
    let r = owner-from (x.owner + 1) ts i f h.1 e in
    let l : x.owner ≡ g.owner = ap (λ (y : Fields). y.owner) first in
    absurd (omega (arith, r, l, same))
one-owner o (x ∷ ts) (suc i) (suc j) f g h e d same = ap suc (one-owner (x.owner + 1) ts i j f g h.1 e d same)

-- the typedefs before a place, and the fields there
record Before (before us : List Fields) (j : ℕ) (fs : List Slot) : Type 0 where
  xs : List Fields
  early : (i : ℕ) (f : Fields) → slice_get xs i ≡ Some f → (i < j) × (slice_get us i ≡ Some f)
  tile : Tile (before ++ xs) 0 fs

before-at : (before us : List Fields) → TypedefsTile before us → (j : ℕ) (f : Fields) → slice_get us j ≡ Some f → Before before us j f.fields
before-at before [] h j f e = cc
before-at before (g ∷ us) h zero f e =
    let same : g ≡ f = cc in
    record { xs = []; early = λ i x d. cc; tile = subst (λ (y : Fields). Tile (before ++ []) 0 y.fields) same (nothing-more before g.fields h.0) }
  where
    nothing-more : (bs : List Fields) (fs : List Slot) → Tile bs 0 fs → Tile (bs ++ []) 0 fs
    nothing-more bs fs t = subst (λ (ys : List Fields). Tile ys 0 fs) (sym (append-none bs)) t
      where
        append-none : (bs : List Fields) → bs ++ [] ≡ bs
        append-none [] = refl
        append-none (b ∷ bs) = ap (λ (ys : List Fields). b ∷ ys) (append-none bs)
before-at before (g ∷ us) h (suc j) f e =
    let r = before-at (before ++ g ∷ []) us h.1 j f e in
    record {
      xs = g ∷ r.xs;
      early = earlier r.xs r.early;
      tile = subst (λ (ys : List Fields). Tile ys 0 f.fields) (append_assoc before (g ∷ []) r.xs) r.tile;
    }
  where
    earlier : (xs : List Fields) → ((i : ℕ) (x : Fields) → slice_get xs i ≡ Some x → (i < j) × (slice_get us i ≡ Some x)) → (i : ℕ) (x : Fields) → slice_get (g ∷ xs) i ≡ Some x → (i < suc j) × (slice_get (g ∷ us) i ≡ Some x)
    earlier xs some zero x d = (omega arith, d)
    earlier xs some (suc i) x d = let r = some i x d in (omega (arith, r.0), r.1)

width-at : (ts : List Fields) (at : ℕ) (ss : List Slot) → Tile ts at ss → (k : ℕ) (s : Slot) → slice_get ss k ≡ Some s → HasWidth ts s.form s.stride
width-at ts at [] h k s e = cc
width-at ts at (x ∷ ss) h zero s e = let same : x ≡ s = cc in subst (λ (y : Slot). HasWidth ts y.form y.stride) same h.0.width
width-at ts at (x ∷ ss) h (suc k) s e = width-at ts (at + x.length * x.stride) ss h.1 k s e

-- ---- the words of a path

module _ (ts : List Fields) (tile : TypedefsTile [] ts) (owners : OwnersFrom 1 ts) (all : (t : ℕ) (fs : List Slot) → fields_at ts t ≡ Some fs → Tile ts 0 fs) where
  -- the types of these variables stand before a place
  abbrev pub StandBefore : ℕ → List Slot → Type 0
  StandBefore n ss = (k : ℕ) (s : Slot) (t : ℕ) (fs : List Slot) → slice_get ss k ≡ Some s → s.form ≡ kind.Struct t → fields_at ts t ≡ Some fs → (j : ℕ) × Stands_at ts t fs j × (j < n)

  fields-before : (t : ℕ) (fs : List Slot) (j : ℕ) → Stands_at ts t fs j → StandBefore j fs
  fields-before t fs j at k s u gs e f found =
      let b = before-at [] ts tile j at.typedef at.there in
      let own : slice_get at.typedef.fields k ≡ Some s = ap (λ (xs : List Slot). slice_get xs k) at.fields ∙ e in
      let w : HasWidth b.xs (kind.Struct u) s.stride = subst (λ (x : Form). HasWidth b.xs x s.stride) f (width-at b.xs 0 at.typedef.fields b.tile k s own) in
      let r = found-there b.xs u w.0 w.1 in
      let early = b.early r.0 r.1.typedef r.1.there in
      let q = found-there ts u gs found in
      let same : q.0 ≡ r.0 = one-owner 1 ts q.0 r.0 q.1.typedef r.1.typedef owners q.1.there early.1 (q.1.owner ∙ sym r.1.owner) in
      (q.0, q.1, omega (arith, same, early.0))

  pub all-before : (ss : List Slot) → StandBefore (length ts) ss
  all-before ss k s t fs e f found = let r = found-there ts t fs found in (r.0, r.1, slice_get_within ts r.0 r.1.typedef r.1.there)

  before-more : (j n : ℕ) (ss : List Slot) → j ≤ n → StandBefore j ss → StandBefore n ss
  before-more j n ss h b k s t fs e f found = let r = b k s t fs e f found in (r.0, r.1, omega (arith, h, r.2))

  -- what is behind a place, by the field with a cell
  abbrev behind : ℕ → ℕ → Option Slot → List ℕ
  behind n cell x = elim x as (λ _. List ℕ) [
    | None ↦ []
    | Some f ↦ codes "." ++ (element f cell ++ fields_path ts n f.form (cell % f.stride))
  ]

  no-fields : (form : Form) → is_struct form ≡ false → fields_of ts form ≡ []
  no-fields (kind.Struct t) h = cc
  no-fields (kind.Plain s) h = refl
  no-fields (kind.Unsigned n) h = refl
  no-fields kind.Unknown h = refl

  plain-path : (n : ℕ) (form : Form) (c : ℕ) → is_struct form ≡ false → fields_path ts n form c ≡ []
  plain-path zero form c h = refl
  plain-path (suc n) form c h = ap (λ (fs : List Slot). behind n (cell_of fs c) (slot_of fs c)) (no-fields form h)

  field-path : (n t c : ℕ) (fs : List Slot) (s : Slot) → fields_at ts t ≡ Some fs → slot_of fs c ≡ Some s → cell_of fs c ≡ c - s.offset
      → fields_path ts (suc n) (kind.Struct t) c ≡ codes "." ++ (element s (c - s.offset) ++ fields_path ts n s.form ((c - s.offset) % s.stride))
  field-path n t c fs s found e d =
      ap (λ (gs : List Slot). behind n (cell_of gs c) (slot_of gs c)) (fields-are ts t fs found)
      ∙ ap (λ (m : ℕ). behind n m (slot_of fs c)) d
      ∙ ap (behind n (c - s.offset)) e

  -- ---- along a path

  pub record Words (n : ℕ) (ss : List Slot) (cell : ℕ) (q : List (ℕ × ℕ)) : Type 0 where
    pub k : ℕ
    pub s : Slot
    pub there : slice_get ss k ≡ Some s
    pub from : s.offset ≤ cell
    pub to : cell < s.offset + s.length * s.stride
    pub words : element s (cell - s.offset) ++ fields_path ts n s.form ((cell - s.offset) % s.stride) ≡ spelled ts ss q
    pub first : first_of q ≡ Some k
    pub dotted : further q (spelled ts ss q) ≡ codes "." ++ spelled ts ss q

  spelled-one : (ss : List Slot) (k i : ℕ) (s : Slot) (p : List (ℕ × ℕ)) → slice_get ss k ≡ Some s → spelled ts ss ((k, i) ∷ p) ≡ (s.name.text ++ index_text s.array i) ++ further p (spelled ts (fields_under ts s.form) p)
  spelled-one ss k i s p e = ap (λ (x : Option Slot). elim x as (λ _. List ℕ) [
    | None ↦ []
    | Some s ↦ (s.name.text ++ index_text s.array i) ++ further p (spelled ts (fields_under ts s.form) p)
  ]) e

  element-is : (s : Slot) (c i r : ℕ) → c ≡ i * s.stride + r → r < s.stride → element s c ≡ s.name.text ++ index_text s.array i
  element-is s c i r e h = ap (λ (m : ℕ). s.name.text ++ index_text s.array m) (ap (λ (d : ℕ). d / s.stride) e ∙ div-mul-add i s.stride r h)

  both : (a b x y : List ℕ) → a ≡ b → x ≡ y → a ++ x ≡ b ++ y
  both a b x y e f = ap (λ (l : List ℕ). l ++ x) e ∙ ap (λ (l : List ℕ). b ++ l) f

  pub printed : {ss : List Slot} {cell : ℕ} {q : List (ℕ × ℕ)} → Leads ts ss cell q → Good ts all ss → (n : ℕ) → StandBefore n ss → Words n ss cell q
  printed (tiled.ends {ss} {k} {i} {s} e h f) g n before =
      let one = plain-cells ts all ss g k s e f in
      let some : 0 < s.stride = omega (arith, one) in
      let inside = element-in i s.length s.stride 0 h some in
      let cell : ℕ = s.offset + i * s.stride in
      record {
        k = k;
        s = s;
        there = e;
        from = omega arith;
        to = omega (arith, inside);
        words = both (element s (cell - s.offset)) (s.name.text ++ index_text s.array i) (fields_path ts n s.form ((cell - s.offset) % s.stride)) []
            (element-is s (cell - s.offset) i 0 (omega arith) some) (plain-path n s.form ((cell - s.offset) % s.stride) f) ∙ sym (spelled-one ss k i s [] e);
        first = refl;
        dotted = refl;
      }
  printed (tiled.goes_on {ss} {fs} {k} {i} {t} {cell} {s} {p} e h f found rest) g zero before = absurd (let b = before k s t fs e f found in omega (arith, b.2))
  printed (tiled.goes_on {ss} {fs} {k} {i} {t} {cell} {s} {p} e h f found rest) g (suc n) before =
      let inner = struct-cells ts all ss g k t s fs e f found in
      let low : cell < cells_in_all fs = leads-within ts all rest inner.1 in
      let small : cell < s.stride = omega (arith, low, inner.0) in
      let inside = element-in i s.length s.stride cell h small in
      let b = before k s t fs e f found in
      let w = printed rest inner.1 n (before-more b.0 n fs (omega (arith, b.2)) (fields-before t fs b.0 b.1)) in
      let here : ℕ = s.offset + (i * s.stride + cell) in
      let at : here - s.offset ≡ i * s.stride + cell = omega arith in
      let within : (here - s.offset) % s.stride ≡ cell = ap (λ (d : ℕ). d % s.stride) at ∙ mod-mul-add i s.stride cell small in
      let none : cell ≡ cell - 0 = omega arith in
      let field = slot-at ts 0 fs inner.1.tile (omega (arith, inner.1.few)) w.k w.s w.there cell w.from w.to in
      let under : fields_under ts s.form ≡ fs = ap (fields_under ts) f ∙ ap listed found in
      record {
        k = k;
        s = s;
        there = e;
        from = omega arith;
        to = omega (arith, inside);
        words = both (element s (here - s.offset)) (s.name.text ++ index_text s.array i) (fields_path ts (suc n) s.form ((here - s.offset) % s.stride)) (further p (spelled ts fs p))
            (element-is s (here - s.offset) i cell at small)
            (ap (fields_path ts (suc n) s.form) within ∙ ap (λ (x : Form). fields_path ts (suc n) x cell) f ∙ field-path n t cell fs w.s found (ap (slot_of fs) none ∙ field.0) (ap (cell_of fs) none ∙ field.1) ∙ ap (λ (l : List ℕ). codes "." ++ l) w.words ∙ sym w.dotted)
            ∙ ap (λ (xs : List Slot). (s.name.text ++ index_text s.array i) ++ further p (spelled ts xs p)) (sym under)
            ∙ sym (spelled-one ss k i s p e);
        first = refl;
        dotted = refl;
      }
