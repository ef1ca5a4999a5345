-- Each cell has exactly one path.
use Rattle.std.proofs.Common.{◌≡◌, ℕ, zero, suc, ◌+◌, ◌-◌, ◌*◌, ◌/◌, ◌%◌, ◌<◌, ◌≤◌, Bool, true, false, cond, nat_eq, List, [], ◌∷◌, ◌++◌, length, Some, refl, ap, sym, subst, ◌∙◌, ◌⊎◌, inl, inr, arith}
use Rattle.std.specs.Prelude.{slice_get}
use Rattle.std.specs.List.{AllByRecursion}
use Rattle.std.proofs.lemmas.List.{append_assoc}
use Rattle.std.proofs.lemmas.Nat.{div-mul-add, mod-mul-add, div_below, mod_below, mul-le}
use Rattle.std.proofs.Math.Nat.{div-add-mod, mul_comm}
use Rattle.profile.specs.declared.TheConstants.{MOST_CELLS}
use Rattle.pml_program.specs.declared.form.Form.{Form}
use Rattle.pml_program.specs.declared.form.Form.TheVariants as kind
use Rattle.pml_program.specs.declared.program.Slot.{Slot}
use Rattle.pml_program.specs.declared.program.Fields.{Fields}
use Rattle.pml_program.specs.declared.program.Proctype.{Proctype}
use Rattle.pml_program.specs.declared.program.Program.{Program}
use Rattle.promela_model.specs.Stands.{cells_in_all}
use Rattle.promela_model.specs.Names.{cells_counted}
use Rattle.meaning_laws.specs.Tiled as tiled
use Rattle.meaning_laws.specs.Tiled.{fields_at, HasWidth, Begins, Tile, TypedefsTile, IsTiled, is_struct, Leads, HasPaths, IsOwner}
use Rattle.meaning_laws.proofs.Tiling.{tile-still, fields-still, model-tiled}
use Rattle.pml_tree.specs.declared.tree.Tree.{Tree}
use Rattle.promela_model.specs.StandsModel.{StandsModel}

-- where a variable lies
pub record Lies (ts : List Fields) (at most : ℕ) (s : Slot) : Type 0 where
  pub from : at ≤ s.offset
  pub to : s.offset + s.length * s.stride ≤ most
  pub some : 0 < s.length
  pub width : HasWidth ts s.form s.stride

few : (n : ℕ) → n ≤ MOST_CELLS → cells_counted n ≡ n
few n h = omega (arith, h)

pub lies : (ts : List Fields) (at : ℕ) (ss : List Slot) → Tile ts at ss → at + cells_in_all ss ≤ MOST_CELLS → (k : ℕ) (s : Slot) → slice_get ss k ≡ Some s → Lies ts at (at + cells_in_all ss) s
lies ts at [] h m k s e = cc
lies ts at (x ∷ ss) h m zero s e =
    let same : x ≡ s = cc in
    let o : x.offset ≡ at = h.0.offset ∙ few at (omega (arith, m)) in
    subst (Lies ts at (at + cells_in_all (x ∷ ss))) same (record { from = omega (arith, o); to = omega (arith, o); some = h.0.some; width = h.0.width })
lies ts at (x ∷ ss) h m (suc k) s e =
    let l = lies ts (at + x.length * x.stride) ss h.1 (omega (arith, m)) k s e in
    record { from = omega (arith, l.from); to = omega (arith, l.to); some = l.some; width = l.width }

-- two variables with one cell are the same
pub apart : (ts : List Fields) (at : ℕ) (ss : List Slot) → Tile ts at ss → at + cells_in_all ss ≤ MOST_CELLS → (k m : ℕ) (s t : Slot) → slice_get ss k ≡ Some s → slice_get ss m ≡ Some t
    → (c : ℕ) → s.offset ≤ c → c < s.offset + s.length * s.stride → t.offset ≤ c → c < t.offset + t.length * t.stride → k ≡ m
apart ts at [] h b k m s t e f c p q u v = cc
apart ts at (x ∷ ss) h b zero zero s t e f c p q u v = refl
apart ts at (x ∷ ss) h b zero (suc m) s t e f c p q u v =
    let same : x ≡ s = cc in
    let o : x.offset ≡ at = h.0.offset ∙ few at (omega (arith, b)) in
    let before : c < x.offset + x.length * x.stride = subst (λ (y : Slot). c < y.offset + y.length * y.stride) (sym same) q in
    let l = lies ts (at + x.length * x.stride) ss h.1 (omega (arith, b)) m t f in
    absurd (omega (arith, o, before, l.from, u))
apart ts at (x ∷ ss) h b (suc k) zero s t e f c p q u v =
    let same : x ≡ t = cc in
    let o : x.offset ≡ at = h.0.offset ∙ few at (omega (arith, b)) in
    let before : c < x.offset + x.length * x.stride = subst (λ (y : Slot). c < y.offset + y.length * y.stride) (sym same) v in
    let l = lies ts (at + x.length * x.stride) ss h.1 (omega (arith, b)) k s e in
    absurd (omega (arith, o, before, l.from, p))
apart ts at (x ∷ ss) h b (suc k) (suc m) s t e f c p q u v = ap suc (apart ts (at + x.length * x.stride) ss h.1 (omega (arith, b)) k m s t e f c p q u v)

-- some variable has each cell
record Located (ss : List Slot) (c : ℕ) : Type 0 where
  k : ℕ
  s : Slot
  there : slice_get ss k ≡ Some s
  from : s.offset ≤ c
  to : c < s.offset + s.length * s.stride

nat-below : (c n : ℕ) → (c < n) ⊎ (n ≤ c)
nat-below c zero = inr (omega arith)
nat-below zero (suc n) = inl (omega arith)
nat-below (suc c) (suc n) = next (nat-below c n)
  where
    next : (c < n) ⊎ (n ≤ c) → (suc c < suc n) ⊎ (suc n ≤ suc c)
    next (inl h) = inl (omega (arith, h))
    next (inr h) = inr (omega (arith, h))

locate : (ts : List Fields) (at : ℕ) (ss : List Slot) → Tile ts at ss → at + cells_in_all ss ≤ MOST_CELLS → (c : ℕ) → at ≤ c → c < at + cells_in_all ss → Located ss c
locate ts at [] h b c p q = absurd (omega (arith, p, q))
locate ts at (x ∷ ss) h b c p q = go (nat-below c (at + x.length * x.stride)) (λ r. locate ts (at + x.length * x.stride) ss h.1 (omega (arith, b)) c r (omega (arith, q)))
  where
    o : x.offset ≡ at
    o = h.0.offset ∙ few at (omega (arith, b))

    go : (c < at + x.length * x.stride) ⊎ (at + x.length * x.stride ≤ c) → (at + x.length * x.stride ≤ c → Located ss c) → Located (x ∷ ss) c
    go (inl r) rest = record { k = 0; s = x; there = refl; from = omega (arith, o, p); to = omega (arith, o, r) }
    go (inr r) rest = let l = rest r in record { k = suc l.k; s = l.s; there = l.there; from = l.from; to = l.to }

-- ---- one element

-- a cell within an element lies within the variable
pub element : (i l w r : ℕ) → i < l → r < w → i * w + r < l * w
element i l w r h g = let m : suc i * w ≤ l * w = mul-le (suc i) w l w h (omega arith) in omega (arith, m, next i w, g)
  where
    next : (i w : ℕ) → suc i * w ≡ i * w + w
    next i w = omega arith

record Way (ss : List Slot) (k i r : ℕ) (s : Slot) : Type 0 where
  there : slice_get ss k ≡ Some s
  index : i < s.length
  inside : r < s.stride

module _ (ts : List Fields) (all : (t : ℕ) (fs : List Slot) → fields_at ts t ≡ Some fs → Tile ts 0 fs) where
  -- variables that lie one behind another from cell 0 on
  pub record Good (ss : List Slot) : Type 0 where
    pub tile : Tile ts 0 ss
    pub few : cells_in_all ss ≤ MOST_CELLS

  pub lies-in : (ss : List Slot) → Good ss → (k : ℕ) (s : Slot) → slice_get ss k ≡ Some s → Lies ts 0 (cells_in_all ss) s
  lies-in ss g k s e = let l = lies ts 0 ss g.tile (omega (arith, g.few)) k s e in record { from = omega arith; to = omega (arith, l.to); some = l.some; width = l.width }

  stride-few : (ss : List Slot) → Good ss → (k : ℕ) (s : Slot) → slice_get ss k ≡ Some s → s.stride ≤ MOST_CELLS
  stride-few ss g k s e =
      let l = lies-in ss g k s e in
      let m : 1 * s.stride ≤ s.length * s.stride = mul-le 1 s.stride s.length s.stride l.some (omega arith) in
      omega (arith, m, l.to, g.few)

  -- an element of a typedef's type has just the cells of its fields
  pub struct-cells : (ss : List Slot) → Good ss → (k t : ℕ) (s : Slot) (fs : List Slot) → slice_get ss k ≡ Some s → s.form ≡ kind.Struct t → fields_at ts t ≡ Some fs → (cells_in_all fs ≡ s.stride) × Good fs
  struct-cells ss g k t s fs e f h =
      let l = lies-in ss g k s e in
      let w : HasWidth ts (kind.Struct t) s.stride = subst (λ (u : Form). HasWidth ts u s.stride) f l.width in
      let found : Some w.0 ≡ Some fs = sym w.1 ∙ h in
      let same : w.0 ≡ fs = cc in
      let width : s.stride ≡ cells_counted (cells_in_all fs) = w.2 ∙ ap (λ (us : List Slot). cells_counted (cells_in_all us)) same in
      let small = stride-few ss g k s e in
      let just : cells_in_all fs ≡ s.stride = omega (arith, width, small) in
      (just, record { tile = all t fs h; few = omega (arith, just, small) })

  pub plain-cells : (ss : List Slot) → Good ss → (k : ℕ) (s : Slot) → slice_get ss k ≡ Some s → is_struct s.form ≡ false → s.stride ≡ 1
  plain-cells ss g k s e f = go s.form (lies-in ss g k s e).width f
    where
      go : (x : Form) → HasWidth ts x s.stride → is_struct x ≡ false → s.stride ≡ 1
      go (kind.Struct t) w h = cc
      go (kind.Plain t) w h = w
      go (kind.Unsigned n) w h = w
      go kind.Unknown w h = w

  way-below : (ss : List Slot) → Good ss → (k i r : ℕ) (s : Slot) → Way ss k i r s → s.offset + (i * s.stride + r) < cells_in_all ss
  way-below ss g k i r s w =
      let l = lies-in ss g k s w.there in
      let e = element i s.length s.stride r w.index w.inside in
      omega (arith, l.to, e)

  pub leads-within : {ss : List Slot} {c : ℕ} {p : List (ℕ × ℕ)} → Leads ts ss c p → Good ss → c < cells_in_all ss
  leads-within (tiled.ends {ss} {k} {i} {s} e h f) g =
      let one = plain-cells ss g k s e f in
      let b = way-below ss g k i 0 s (record { there = e; index = h; inside = omega (arith, one) }) in
      omega (arith, b)
  leads-within (tiled.goes_on {ss} {fs} {k} {i} {t} {cell} {s} e h f found rest) g =
      let inner = struct-cells ss g k t s fs e f found in
      let b : cell < cells_in_all fs = leads-within rest inner.1 in
      way-below ss g k i cell s (record { there = e; index = h; inside = omega (arith, b, inner.0) })

  record SameWay (k m i j r q : ℕ) : Type 0 where
    variable : k ≡ m
    index : i ≡ j
    inside : r ≡ q

  same-way : (ss : List Slot) → Good ss → (k m i j r q : ℕ) (s t : Slot) → Way ss k i r s → Way ss m j q t → s.offset + (i * s.stride + r) ≡ t.offset + (j * t.stride + q) → SameWay k m i j r q
  same-way ss g k m i j r q s t v w e =
      let c : ℕ = s.offset + (i * s.stride + r) in
      let a = element i s.length s.stride r v.index v.inside in
      let b = element j t.length t.stride q w.index w.inside in
      let same : k ≡ m = apart ts 0 ss g.tile (omega (arith, g.few)) k m s t v.there w.there c (omega arith) (omega (arith, a)) (omega (arith, e)) (omega (arith, e, b)) in
      let one : Some s ≡ Some t = sym v.there ∙ ap (slice_get ss) same ∙ w.there in
      let slot : s ≡ t = cc in
      let offset : s.offset ≡ t.offset = ap (λ (x : Slot). x.offset) slot in
      let stride : s.stride ≡ t.stride = ap (λ (x : Slot). x.stride) slot in
      let inner : i * s.stride + r ≡ j * t.stride + q = omega (arith, e, offset) in
      let total : i * s.stride + r ≡ j * s.stride + q = inner ∙ ap (λ (n : ℕ). j * n + q) (sym stride) in
      let inside : q < s.stride = omega (arith, w.inside, stride) in
      record {
        variable = same;
        index = sym (div-mul-add i s.stride r v.inside) ∙ ap (λ (n : ℕ). n / s.stride) total ∙ div-mul-add j s.stride q inside;
        inside = sym (mod-mul-add i s.stride r v.inside) ∙ ap (λ (n : ℕ). n % s.stride) total ∙ mod-mul-add j s.stride q inside;
      }

  -- ---- one path

  paths-same : {k m i j : ℕ} {p q : List (ℕ × ℕ)} → k ≡ m → i ≡ j → p ≡ q → (k, i) ∷ p ≡ (m, j) ∷ q
  paths-same {k} {m} {i} {j} {p} {q} e f h = ap (λ (n : ℕ). (n, i) ∷ p) e ∙ ap (λ (n : ℕ). (m, n) ∷ p) f ∙ ap (λ (r : List (ℕ × ℕ)). (m, j) ∷ r) h

  same-slot : (ss : List Slot) (k m : ℕ) (s t : Slot) → slice_get ss k ≡ Some s → slice_get ss m ≡ Some t → k ≡ m → s ≡ t
  same-slot ss k m s t e f h = let one : Some s ≡ Some t = sym e ∙ ap (slice_get ss) h ∙ f in cc

  not-both : (f g : Form) (t : ℕ) → f ≡ g → is_struct f ≡ false → g ≡ kind.Struct t → ⊥
  not-both f g t e h i = let b : is_struct f ≡ true = ap is_struct (e ∙ i) in absurd cc

  one-path : {ss : List Slot} {c : ℕ} {p : List (ℕ × ℕ)} → Leads ts ss c p → Good ss → (us : List Slot) (d : ℕ) (q : List (ℕ × ℕ)) → ss ≡ us → c ≡ d → Leads ts us d q → p ≡ q
  one-path (tiled.ends {ss} {k} {i} {s} e h f) g us d q same at (tiled.ends {k = m} {i = j} {s = t} e2 h2 f2) =
      let there : slice_get ss m ≡ Some t = ap (λ (xs : List Slot). slice_get xs m) same ∙ e2 in
      let v : Way ss k i 0 s = record { there = e; index = h; inside = omega (arith, plain-cells ss g k s e f) } in
      let w : Way ss m j 0 t = record { there = there; index = h2; inside = omega (arith, plain-cells ss g m t there f2) } in
      let r = same-way ss g k m i j 0 0 s t v w (omega (arith, at)) in
      paths-same r.variable r.index refl
  one-path (tiled.ends {ss} {k} {i} {s} e h f) g us d q same at (tiled.goes_on {fs} {k = m} {i = j} {t = u} {cell} {s = t} e2 h2 f2 found2 rest2) =
      let there : slice_get ss m ≡ Some t = ap (λ (xs : List Slot). slice_get xs m) same ∙ e2 in
      let inner = struct-cells ss g m u t fs there f2 found2 in
      let b : cell < cells_in_all fs = leads-within rest2 inner.1 in
      let v : Way ss k i 0 s = record { there = e; index = h; inside = omega (arith, plain-cells ss g k s e f) } in
      let w : Way ss m j cell t = record { there = there; index = h2; inside = omega (arith, b, inner.0) } in
      let r = same-way ss g k m i j 0 cell s t v w (omega (arith, at)) in
      absurd (not-both s.form t.form u (ap (λ (x : Slot). x.form) (same-slot ss k m s t e there r.variable)) f f2)
  one-path (tiled.goes_on {ss} {fs} {k} {i} {t = u} {cell} {s} e h f found rest) g us d q same at (tiled.ends {k = m} {i = j} {s = t} e2 h2 f2) =
      let there : slice_get ss m ≡ Some t = ap (λ (xs : List Slot). slice_get xs m) same ∙ e2 in
      let inner = struct-cells ss g k u s fs e f found in
      let b : cell < cells_in_all fs = leads-within rest inner.1 in
      let v : Way ss k i cell s = record { there = e; index = h; inside = omega (arith, b, inner.0) } in
      let w : Way ss m j 0 t = record { there = there; index = h2; inside = omega (arith, plain-cells ss g m t there f2) } in
      let r = same-way ss g k m i j cell 0 s t v w (omega (arith, at)) in
      absurd (not-both t.form s.form u (sym (ap (λ (x : Slot). x.form) (same-slot ss k m s t e there r.variable))) f2 f)
  one-path (tiled.goes_on {ss} {fs} {k} {i} {t = u} {cell} {s} {p} e h f found rest) g us d q same at (tiled.goes_on {fs = fs2} {k = m} {i = j} {t = u2} {cell = cell2} {s = t} {p = p2} e2 h2 f2 found2 rest2) =
      let there : slice_get ss m ≡ Some t = ap (λ (xs : List Slot). slice_get xs m) same ∙ e2 in
      let inner = struct-cells ss g k u s fs e f found in
      let inner2 = struct-cells ss g m u2 t fs2 there f2 found2 in
      let b : cell < cells_in_all fs = leads-within rest inner.1 in
      let b2 : cell2 < cells_in_all fs2 = leads-within rest2 inner2.1 in
      let v : Way ss k i cell s = record { there = e; index = h; inside = omega (arith, b, inner.0) } in
      let w : Way ss m j cell2 t = record { there = there; index = h2; inside = omega (arith, b2, inner2.0) } in
      let r = same-way ss g k m i j cell cell2 s t v w at in
      let forms : kind.Struct u ≡ kind.Struct u2 = sym f ∙ ap (λ (x : Slot). x.form) (same-slot ss k m s t e there r.variable) ∙ f2 in
      let typedef : u ≡ u2 = cc in
      let fields : Some fs ≡ Some fs2 = sym found ∙ ap (fields_at ts) typedef ∙ found2 in
      let same_fields : fs ≡ fs2 = cc in
      paths-same r.variable r.index (one-path rest inner.1 fs2 cell2 p2 same_fields r.inside rest2)

-- ---- some path

leads-still : (ts us : List Fields) {ss : List Slot} {c : ℕ} {p : List (ℕ × ℕ)} → Leads ts ss c p → Leads (ts ++ us) ss c p
leads-still ts us (tiled.ends e h f) = tiled.ends e h f
leads-still ts us (tiled.goes_on {fs} {t} e h f found rest) = tiled.goes_on e h f (fields-still ts us t fs found) (leads-still ts us rest)

-- the typedefs before the one with these fields
record Earlier (before us : List Fields) (fs : List Slot) : Type 0 where
  xs : List Fields
  rest : List Fields
  split : us ≡ xs ++ rest
  shorter : length xs < length us
  tile : Tile (before ++ xs) 0 fs
  typedefs : TypedefsTile before xs

earlier-first : (before us : List Fields) (f : Fields) (t : ℕ) (fs : List Slot) → TypedefsTile before (f ∷ us) → (fields_at us t ≡ Some fs → Earlier (before ++ f ∷ []) us fs)
    → (b : Bool) → cond b (Some f.fields) (fields_at us t) ≡ Some fs → Earlier before (f ∷ us) fs
earlier-first before us f t fs h g true e =
    let same : f.fields ≡ fs = cc in
    record { xs = []; rest = f ∷ us; split = refl; shorter = omega arith; tile = subst (Tile (before ++ []) 0) same (tile-still before [] 0 f.fields h.0); typedefs = tt }
earlier-first before us f t fs h g false e =
    let r = g e in
    record {
      xs = f ∷ r.xs;
      rest = r.rest;
      split = ap (λ (ys : List Fields). f ∷ ys) r.split;
      shorter = omega (arith, r.shorter);
      tile = subst (λ (ys : List Fields). Tile ys 0 fs) (append_assoc before (f ∷ []) r.xs) r.tile;
      typedefs = (h.0, r.typedefs);
    }

earlier : (before us : List Fields) (t : ℕ) (fs : List Slot) → TypedefsTile before us → fields_at us t ≡ Some fs → Earlier before us fs
earlier before [] t fs h e = cc
earlier before (f ∷ us) t fs h e = earlier-first before us f t fs h (earlier (before ++ f ∷ []) us t fs h.1) (nat_eq t f.owner) e

pub all-tile : (us : List Fields) → TypedefsTile [] us → (t : ℕ) (fs : List Slot) → fields_at us t ≡ Some fs → Tile us 0 fs
all-tile us h t fs e = let r = earlier [] us t fs h e in subst (λ (ys : List Fields). Tile ys 0 fs) (sym r.split) (tile-still r.xs r.rest 0 fs r.tile)

no-cells : (l : ℕ) → l * 0 ≡ 0
no-cells l = omega arith

some-stride : (w l d : ℕ) → d < l * w → 0 < w
some-stride zero l d h = absurd (omega (arith, no-cells l, h))
some-stride (suc w) l d h = omega arith

struct-or-not : (f : Form) → ((t : ℕ) × (f ≡ kind.Struct t)) ⊎ (is_struct f ≡ false)
struct-or-not (kind.Struct t) = inl (t, refl)
struct-or-not (kind.Plain s) = inr refl
struct-or-not (kind.Unsigned n) = inr refl
struct-or-not kind.Unknown = inr refl

abbrev Some_path : List Fields → List Slot → ℕ → Type 0
Some_path us ss c = (p : List (ℕ × ℕ)) × Leads us ss c p

-- from the paths in typedefs before
path-by : (us : List Fields) (h : TypedefsTile [] us) → ((xs : List Fields) → length xs < length us → TypedefsTile [] xs → (fs : List Slot) → Tile xs 0 fs → cells_in_all fs ≤ MOST_CELLS → (r : ℕ) → r < cells_in_all fs → Some_path xs fs r)
    → (ss : List Slot) → Tile us 0 ss → cells_in_all ss ≤ MOST_CELLS → (c : ℕ) → c < cells_in_all ss → Some_path us ss c
path-by us h before ss tile few c below = go (struct-or-not s.form)
  where
    l : Located ss c
    l = locate us 0 ss tile (omega (arith, few)) c (omega arith) (omega (arith, below))

    s : Slot
    s = l.s

    good : Good us (all-tile us h) ss
    good = record { tile = tile; few = few }

    positive : 0 < s.stride
    positive = some-stride s.stride s.length (c - s.offset) (omega (arith, l.from, l.to))

    i : ℕ
    i = (c - s.offset) / s.stride

    r : ℕ
    r = (c - s.offset) % s.stride

    index : i < s.length
    index = div_below (c - s.offset) s.stride s.length positive (omega (arith, l.from, l.to))

    inside : r < s.stride
    inside = mod_below (c - s.offset) s.stride positive

    swap : (a b : ℕ) → a * b ≡ b * a
    swap a b = mul_comm a b

    whole : s.offset + (i * s.stride + r) ≡ c
    whole =
        let e : s.stride * i + r ≡ c - s.offset = div-add-mod (c - s.offset) s.stride in
        omega (arith, e, swap i s.stride, l.from)

    go : ((t : ℕ) × (s.form ≡ kind.Struct t)) ⊎ (is_struct s.form ≡ false) → Some_path us ss c
    go (inr f) =
        let one = plain-cells us (all-tile us h) ss good l.k s l.there f in
        let same : s.offset + i * s.stride ≡ c = omega (arith, whole, inside, one) in
        ((l.k, i) ∷ [], subst (λ (d : ℕ). Leads us ss d ((l.k, i) ∷ [])) same (tiled.ends l.there index f))
    go (inl f) =
        let w : HasWidth us (kind.Struct f.0) s.stride = subst (λ (x : Form). HasWidth us x s.stride) f.1 (lies-in us (all-tile us h) ss good l.k s l.there).width in
        let inner = struct-cells us (all-tile us h) ss good l.k f.0 s w.0 l.there f.1 w.1 in
        let e = earlier [] us f.0 w.0 h w.1 in
        let p = before e.xs e.shorter e.typedefs w.0 e.tile inner.1.few r (omega (arith, inside, inner.0)) in
        let there : Leads us w.0 r p.0 = subst (λ (ys : List Fields). Leads ys w.0 r p.0) (sym e.split) (leads-still e.xs e.rest {p = p.0} p.1) in
        ((l.k, i) ∷ p.0, subst (λ (d : ℕ). Leads us ss d ((l.k, i) ∷ p.0)) whole (tiled.goes_on {p = p.0} l.there index f.1 w.1 there))

some-path : (n : ℕ) (us : List Fields) → length us < n → TypedefsTile [] us → (ss : List Slot) → Tile us 0 ss → cells_in_all ss ≤ MOST_CELLS → (c : ℕ) → c < cells_in_all ss → Some_path us ss c
some-path zero us m h ss tile few c below = absurd (omega (arith, m))
some-path (suc n) us m h ss tile few c below = path-by us h (λ xs q g fs. some-path n xs (omega (arith, m, q)) g fs) ss tile few c below

-- ---- the owners of a model

has-paths : (us : List Fields) → TypedefsTile [] us → (ss : List Slot) → Tile us 0 ss → cells_in_all ss ≤ MOST_CELLS → HasPaths us ss
has-paths us h ss tile few =
    let good : Good us (all-tile us h) ss = record { tile = tile; few = few } in
    record {
      some = λ c below. some-path (length us + 1) us (omega arith) h ss tile few c below;
      one = λ c p q l m. one-path us (all-tile us h) l good ss c q refl refl m;
      within = λ c p l. leads-within us (all-tile us h) l good;
    }

pub tile-at : (ts : List Fields) (ps : List Proctype) (k : ℕ) (q : Proctype) → AllByRecursion (λ (q : Proctype). Tile ts 0 q.variables) ps → slice_get ps k ≡ Some q → Tile ts 0 q.variables
tile-at ts [] k q h e = cc
tile-at ts (p ∷ ps) zero q h e = let same : p ≡ q = cc in subst (λ (r : Proctype). Tile ts 0 r.variables) same h.0
tile-at ts (p ∷ ps) (suc k) q h e = tile-at ts ps k q h.1 e

owner-paths : (p : Program) (ss : List Slot) → IsTiled p → IsOwner p ss → HasPaths p.typedefs ss
owner-paths p ss h (tiled.globally few) = has-paths p.typedefs h.typedefs p.globals h.globals few
owner-paths p ss h (tiled.locally k {q} e few) = has-paths p.typedefs h.typedefs q.variables (tile-at p.typedefs p.proctypes k q h.proctypes e) few

pub model-paths : (t : Tree) (p : Program) (ss : List Slot) → StandsModel t p → IsOwner p ss → HasPaths p.typedefs ss
model-paths t p ss h o = owner-paths p ss (model-tiled t p h) o
