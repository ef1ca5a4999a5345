-- One name more, and where it stands.
use Rattle.std.proofs.Common.{◌≡◌, ℕ, suc, ◌+◌, Bool, true, false, ◌&&◌, nat_eq, cond, List, [], ◌∷◌, ◌++◌, length, Option, Some, None, refl, ap, sym, subst, ◌∙◌, inl, inr, arith}
use Rattle.std.specs.Str.{bytes_eq}
use Rattle.std.specs.Borrow.{Bor}
use Rattle.std.proofs.lemmas.Bool.{eq-eqb, eqb-true}
use Rattle.std.proofs.lemmas.Bool.Decides.{eqb_tells}
use Rattle.std.proofs.lemmas.Slice.Eq.{bytes_eq-Decides}
use Rattle.indexmap.specs.IndexMap.{insert_entry}
use Rattle.promela_model.specs.declared.thing.Thing.{Thing}
use Rattle.check_names.specs.Entry.{Entry, entry, entry_of, entries_of, is_named, found}
use Rattle.check_names.specs.Places.{Numbers, Places, stands, one_behind, place_of, AreCounted, IsKept, IsPlaced}

-- ---- a place more

abbrev or_place : Option ℕ → Option ℕ → Option ℕ
or_place (Some k) r = Some k
or_place None r = r

or-behind : (k r : Option ℕ) → one_behind (or_place k r) ≡ or_place (one_behind k) (one_behind r)
or-behind None r = refl
or-behind (Some k) r = refl

or-first : (b : Bool) (k q r s : Option ℕ) → k ≡ or_place q r → one_behind r ≡ s → cond b (Some 0) (one_behind k) ≡ or_place (cond b (Some 0) (one_behind q)) s
or-first true k q r s h e = refl
or-first false k q r s h e = ap one_behind h ∙ or-behind q r ∙ ap (or_place (one_behind q)) e

last-behind : (b : Bool) (n : ℕ) → one_behind (cond b (Some n) None) ≡ cond b (Some (suc n)) None
last-behind true n = refl
last-behind false n = refl

place-more : (es : List Entry) (e : Entry) (o : ℕ) (n : List ℕ) → place_of (es ++ e ∷ []) o n ≡ or_place (place_of es o n) (cond (is_named o n e) (Some (length es)) None)
place-more [] e o n = refl
place-more (f ∷ es) e o n =
    or-first (is_named o n f) (place_of (es ++ e ∷ []) o n) (place_of es o n) (cond (is_named o n e) (Some (length es)) None)
    (cond (is_named o n e) (Some (suc (length es))) None) (place-more es e o n) (last-behind (is_named o n e) (length es))

none-first : (b : Bool) (t : Thing) (r : Option Thing) (k : Option ℕ) → cond b (Some t) r ≡ None → (r ≡ None → k ≡ None) → cond b (Some 0) (one_behind k) ≡ None
none-first true t r k h f = cc
none-first false t r k h f = ap one_behind (f h)

place-none : (es : List Entry) (o : ℕ) (n : List ℕ) → found es o n ≡ None → place_of es o n ≡ None
place-none [] o n h = refl
place-none (e ∷ es) o n h = none-first (is_named o n e) e.thing (found es o n) (place_of es o n) h (place-none es o n)

-- ---- the keys are the places

abbrev pub Held : Type 0
Held = ℕ × ((ℕ × Bor (List ℕ)) × Thing)

counted-more : (k : ℕ) (es : List Held) (v : (ℕ × Bor (List ℕ)) × Thing) → AreCounted k es → AreCounted k (es ++ (k + length es, v) ∷ [])
counted-more k [] v h = (omega arith, tt)
counted-more k (e ∷ es) v h =
    let n : suc k + length es ≡ k + suc (length es) = omega arith in
    (h.0, subst (λ (j : ℕ). AreCounted (suc k) (es ++ (j, v) ∷ [])) n (counted-more (suc k) es v h.1))

insert-last : (k : ℕ) (es : List Held) (v : (ℕ × Bor (List ℕ)) × Thing) → AreCounted k es → insert_entry nat_eq es (k + length es) v ≡ es ++ (k + length es, v) ∷ []
insert-last k [] v h = refl
insert-last k (e ∷ es) v h =
    let n : suc k + length es ≡ k + suc (length es) = omega arith in
    let is_k = h.0 in
    let rest : insert_entry nat_eq es (k + suc (length es)) v ≡ es ++ (k + suc (length es), v) ∷ [] =
    subst (λ (j : ℕ). insert_entry nat_eq es j v ≡ es ++ (j, v) ∷ []) n (insert-last (suc k) es v h.1) in
    elim (eqb_tells (k + suc (length es)) e.0) [
      | inl s ↦ absurd (let same = s.1 in omega arith)
      | inr s ↦ ap (λ (b : Bool). cond b ((e.0, v) ∷ es) (e ∷ insert_entry nat_eq es (k + suc (length es)) v)) s.0 ∙ ap (λ (x : List Held). e ∷ x) rest
    ]

entries-more : (es : List Held) (e : Held) → entries_of (es ++ e ∷ []) ≡ entries_of es ++ entry_of e ∷ []
entries-more [] e = refl
entries-more (f ∷ es) e = ap (λ (x : List Entry). entry_of f ∷ x) (entries-more es e)

-- the last key is the number of those before it
insert-next : (things : List Held) (v : (ℕ × Bor (List ℕ)) × Thing) → AreCounted 0 things → insert_entry nat_eq things (length things) v ≡ things ++ (length things, v) ∷ []
insert-next things v h =
    let z : 0 + length things ≡ length things = omega arith in
    subst (λ (j : ℕ). insert_entry nat_eq things j v ≡ things ++ (j, v) ∷ []) z (insert-last 0 things v h)

pub entries-after : (things : List Held) (o : ℕ) (name : Bor (List ℕ)) (t : Thing) → AreCounted 0 things → entries_of (insert_entry nat_eq things (length things) ((o, name), t)) ≡ entries_of things ++ entry o name.now t ∷ []
entries-after things o name t h = ap entries_of (insert-next things ((o, name), t) h) ∙ entries-more things (length things, ((o, name), t))

length-entries : (es : List Held) → length (entries_of es) ≡ length es
length-entries [] = refl
length-entries (e ∷ es) = ap suc (length-entries es)

-- ---- one name more

or_place-none : (k : Option ℕ) → k ≡ or_place k None
or_place-none None = refl
or_place-none (Some k) = refl

same_owner : (o p : ℕ) → nat_eq o p ≡ nat_eq p o
same_owner o p = elim (eqb_tells o p) [
  | inl s ↦ s.0 ∙ sym (eq-eqb p o (sym s.1))
  | inr s ↦ s.0 ∙ sym (elim (eqb_tells p o) [
    | inl z ↦ absurd (s.1 (sym z.1))
    | inr z ↦ z.0
  ])
]

same_texts : (n m : List ℕ) → bytes_eq n m ≡ bytes_eq m n
same_texts n m = by_test (bytes_eq n m) refl (bytes_eq m n) refl
  where
    by_test : (b : Bool) → b ≡ bytes_eq n m → (c : Bool) → c ≡ bytes_eq m n → bytes_eq n m ≡ bytes_eq m n
    by_test true e c f = sym e ∙ sym ((bytes_eq-Decides m n).1 (sym ((bytes_eq-Decides n m).0 (sym e))))
    by_test false e true f = (bytes_eq-Decides n m).1 (sym ((bytes_eq-Decides m n).0 (sym f))) ∙ f
    by_test false e false f = sym e ∙ f

module _ (ns ms : Numbers) (ps qs : Places ℕ) (things : List Held) (o : ℕ) (name : Bor (List ℕ)) (t : Thing) (h : IsPlaced ns ps things) (kept : IsKept ms qs) (new : found (entries_of things) o name.now ≡ None) (is : (p : ℕ) (n : List ℕ) → stands ms qs p n ≡ cond (nat_eq o p && bytes_eq name.now n) (Some (length things)) (stands ns ps p n)) where
  abbrev here : Held
  here = (length things, ((o, name), t))

  by_test : (b : Bool) (x : Option ℕ) → (b ≡ true → x ≡ None) → cond b (Some (length things)) x ≡ or_place x (cond b (Some (length things)) None)
  by_test true x f = let e : x ≡ None = f refl in sym (ap (λ (y : Option ℕ). or_place y (Some (length things))) e)
  by_test false x f = or_place-none x

  and_true : (b c : Bool) → (b && c) ≡ true → (b ≡ true) × (c ≡ true)
  and_true true c f = (refl, f)
  and_true false c f = absurd cc

  none_there : (p : ℕ) (n : List ℕ) → (nat_eq o p && bytes_eq name.now n) ≡ true → stands ns ps p n ≡ None
  none_there p n e =
      let both = and_true (nat_eq o p) (bytes_eq name.now n) e in
      let same : o ≡ p = eqb-true o p both.0 in
      let text : name.now ≡ n = (bytes_eq-Decides name.now n).0 both.1 in
      ap (λ (q : ℕ). stands ns ps q n) (sym same) ∙ ap (stands ns ps o) (sym text) ∙ h.found o name.now ∙ place-none (entries_of things) o name.now new

  found-more : (p : ℕ) (n : List ℕ) → stands ms qs p n ≡ place_of (entries_of (things ++ here ∷ [])) p n
  found-more p n =
      is p n
      ∙ by_test (nat_eq o p && bytes_eq name.now n) (stands ns ps p n) (none_there p n)
      ∙ ap (λ (x : Option ℕ). or_place x (cond (nat_eq o p && bytes_eq name.now n) (Some (length things)) None)) (h.found p n)
      ∙ ap (λ (b : Bool). or_place (place_of (entries_of things) p n) (cond (b && bytes_eq name.now n) (Some (length things)) None)) (same_owner o p)
      ∙ ap (λ (b : Bool). or_place (place_of (entries_of things) p n) (cond (nat_eq p o && b) (Some (length things)) None)) (same_texts name.now n)
      ∙ ap (λ (j : ℕ). or_place (place_of (entries_of things) p n) (cond (nat_eq p o && bytes_eq n name.now) (Some j) None)) (sym (length-entries things))
      ∙ sym (place-more (entries_of things) (entry_of here) p n)
      ∙ ap (λ (es : List Entry). place_of es p n) (sym (entries-more things here))

  pub placed-more : IsPlaced ms qs (insert_entry nat_eq things (length things) ((o, name), t))
  placed-more =
      let z : 0 + length things ≡ length things = omega arith in
      let counted : AreCounted 0 (things ++ here ∷ []) =
      subst (λ (j : ℕ). AreCounted 0 (things ++ (j, ((o, name), t)) ∷ [])) z (counted-more 0 things ((o, name), t) h.counted) in
      subst (λ (es : List Held). IsPlaced ms qs es) (sym (insert-next things ((o, name), t) h.counted)) (record { kept = kept; counted = counted; found = found-more })

-- the same places
pub placed-same : (ns ms : Numbers) (ps qs : Places ℕ) (things : List Held) → IsPlaced ns ps things → IsKept ms qs → ((o : ℕ) (n : List ℕ) → stands ms qs o n ≡ stands ns ps o n) → IsPlaced ms qs things
placed-same ns ms ps qs things h kept same = record { kept = kept; counted = h.counted; found = λ o n. same o n ∙ h.found o n }
