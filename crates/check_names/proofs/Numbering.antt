-- One name more, by its number.
use Rattle.std.proofs.Common.{◌≡◌, ◌≢◌, ◌⊎◌, ℕ, ◌+◌, ◌<◌, ◌≤◌, Bool, true, false, ◌&&◌, nat_eq, cond, List, Option, Some, None, refl, ap, sym, ◌∙◌, inl, inr, arith, Ordering}
use Rattle.std.specs.Str.{bytes_eq}
use Rattle.std.specs.Ordering.{nat_cmp, is_eq, ordering_then, MatchOrdering}
use Rattle.std.specs.declared.cmp.Ordering.TheVariants.{Less, Equal, Greater}
use Rattle.std.specs.Cmp.{both_tied}
use Rattle.std.specs.BTreeMap.{btree_map_len}
use Rattle.std.proofs.lemmas.Cmp.{ranked}
use Rattle.std.proofs.lemmas.Bool.{cases_lt, eq-eqb, eqb-true}
use Rattle.std.proofs.lemmas.Bool.Decides.{eqb_tells}
use Rattle.std.proofs.lemmas.Slice.Eq.{bytes_eq-Decides}
use Rattle.check_names.specs.Places.{Numbers, Places, number_in, place_in, place_by, AreNumbered, IsKept}

-- ---- a number more

same_text : (n : List ℕ) → bytes_eq n n ≡ true
same_text n = (bytes_eq-Decides n n).1 refl

module _ (ns ms : Numbers) (name : List ℕ) (old : AreNumbered ns) (fresh : number_in ns name ≡ None) (one : btree_map_len ms ≡ btree_map_len ns + 1) (is : (n : List ℕ) → number_in ms n ≡ cond (bytes_eq name n) (Some (btree_map_len ns)) (number_in ns n)) where
  size : ℕ
  size = btree_map_len ns

  -- a number of the new ones is the new one, or an old one
  sorted_out : (n : List ℕ) (k : ℕ) (b : Bool) → b ≡ bytes_eq name n → number_in ms n ≡ Some k → ((name ≡ n) × (k ≡ btree_map_len ns)) ⊎ (number_in ns n ≡ Some k)
  sorted_out n k true e h = inl ((bytes_eq-Decides name n).0 (sym e), let g : Some (btree_map_len ns) ≡ Some k = ap (λ (c : Bool). cond c (Some (btree_map_len ns)) (number_in ns n)) e ∙ sym (is n) ∙ h in cc)
  sorted_out n k false e h = inr (ap (λ (c : Bool). cond c (Some (btree_map_len ns)) (number_in ns n)) e ∙ sym (is n) ∙ h)

  pub number-others : (n : List ℕ) (k : ℕ) → number_in ms n ≡ Some k → k < btree_map_len ns → number_in ns n ≡ Some k
  number-others n k h lt = elim (sorted_out n k (bytes_eq name n) refl h) [
    | inl e ↦ absurd (let same = e.1 in omega arith)
    | inr e ↦ e
  ]

  kept_by : (n : List ℕ) (k : ℕ) (b : Bool) → b ≡ bytes_eq name n → number_in ns n ≡ Some k → number_in ms n ≡ Some k
  kept_by n k true e h =
      let same : name ≡ n = (bytes_eq-Decides name n).0 (sym e) in
      let none : number_in ns n ≡ None = ap (number_in ns) (sym same) ∙ fresh in
      absurd cc
  kept_by n k false e h = is n ∙ ap (λ (c : Bool). cond c (Some (btree_map_len ns)) (number_in ns n)) (sym e) ∙ h

  pub number-kept : (n : List ℕ) (k : ℕ) → number_in ns n ≡ Some k → number_in ms n ≡ Some k
  number-kept n k h = kept_by n k (bytes_eq name n) refl h

  below : (n : List ℕ) (k : ℕ) → number_in ms n ≡ Some k → k < btree_map_len ms
  below n k h = elim (sorted_out n k (bytes_eq name n) refl h) [
    | inl e ↦ let same = e.1 in omega arith
    | inr e ↦ let lt = old.below n k e in omega arith
  ]

  apart : (n m : List ℕ) (k : ℕ) → number_in ms n ≡ Some k → number_in ms m ≡ Some k → n ≡ m
  apart n m k h g = elim (sorted_out n k (bytes_eq name n) refl h) [
    | inl e ↦ elim (sorted_out m k (bytes_eq name m) refl g) [
      | inl f ↦ sym e.0 ∙ f.0
      | inr f ↦ absurd (let same = e.1 in let lt = old.below m k f in omega arith)
    ]
    | inr e ↦ elim (sorted_out m k (bytes_eq name m) refl g) [
      | inl f ↦ absurd (let same = f.1 in let lt = old.below n k e in omega arith)
      | inr f ↦ old.apart n m k e f
    ]
  ]

  pub numbered-more : AreNumbered ms
  numbered-more = record { below = below; apart = apart }

-- ---- keys of two numbers

same_number : (a b : ℕ) (o : Ordering) → MatchOrdering o (a < b) (a ≡ b) (b < a) → nat_eq a b ≡ is_eq o
same_number a b Less m = elim (eqb_tells a b) [
  | inl e ↦ absurd (let lt : a < b = m in let same = e.1 in omega arith)
  | inr e ↦ e.0
]
same_number a b Equal m = eq-eqb a b m
same_number a b Greater m = elim (eqb_tells a b) [
  | inl e ↦ absurd (let lt : b < a = m in let same = e.1 in omega arith)
  | inr e ↦ e.0
]

pub same_key : (a b c d : ℕ) → is_eq (ordering_then (nat_cmp a c) (nat_cmp b d)) ≡ (nat_eq a c && nat_eq b d)
same_key a b c d = sym (both_tied (nat_eq a c) (nat_eq b d) (nat_cmp a c) (nat_cmp b d) (same_number a c (nat_cmp a c) (ranked a c (nat_cmp a c) refl)) (same_number b d (nat_cmp b d) (ranked b d (nat_cmp b d) refl)))

-- ---- one name more

apart_none : {X : Type 0} (k : Option X) → ((j : X) → k ≡ Some j → ⊥) → k ≡ None
apart_none None h = refl
apart_none (Some j) h = absurd (h j refl)

-- ns were the numbers, and ms are they now
module _ {X : Type 0} (ns ms : Numbers) (ps : Places X) (h : IsKept ns ps) (numbered : AreNumbered ms) (more : btree_map_len ns ≤ btree_map_len ms) (others : (n : List ℕ) (k : ℕ) → number_in ms n ≡ Some k → k < btree_map_len ns → number_in ns n ≡ Some k) (kept : (n : List ℕ) (k : ℕ) → number_in ns n ≡ Some k → number_in ms n ≡ Some k) where
  old : (p : ℕ) (n : List ℕ) (x : Option ℕ) → number_in ms n ≡ x → place_by ps p x ≡ place_by ps p (number_in ns n)
  old p n (Some k) e = elim (cases_lt k (btree_map_len ns)) [
    | inl lt ↦ ap (place_by ps p) (sym (others n k e lt))
    | inr le ↦
        let none : place_in ps p k ≡ None = apart_none (place_in ps p k) (λ j f. let lt = h.below p k j f in omega arith) in
        let no_number : number_in ns n ≡ None = apart_none (number_in ns n) (λ j f. let g = kept n j f in let same : j ≡ k = cc in let lt = h.numbered.below n j f in omega arith) in
        none ∙ ap (place_by ps p) (sym no_number)
  ]
  old p n None e =
      let no_number : number_in ns n ≡ None = apart_none (number_in ns n) (λ j f. let g = kept n j f in absurd cc) in
      ap (place_by ps p) (sym no_number)

  -- the places are still those
  pub still : (p : ℕ) (n : List ℕ) → place_by ps p (number_in ms n) ≡ place_by ps p (number_in ns n)
  still p n = old p n (number_in ms n) refl

  pub kept-still : IsKept ms ps
  kept-still = record { numbered = numbered; below = λ p k j e. let lt = h.below p k j e in omega arith }

module _ {X : Type 0} (ms : Numbers) (ps qs : Places X) (o : ℕ) (name : List ℕ) (number : ℕ) (place : X) (h : IsKept ms ps) (its : number_in ms name ≡ Some number) (is : (p k : ℕ) → place_in qs p k ≡ cond (nat_eq o p && nat_eq number k) (Some place) (place_in ps p k)) where
  -- a name with a number is called so where it has the new number
  same_name : (n : List ℕ) (k : ℕ) → number_in ms n ≡ Some k → nat_eq number k ≡ bytes_eq name n
  same_name n k e = elim (eqb_tells number k) [
    | inl s ↦ let f : name ≡ n = h.numbered.apart name n k (its ∙ ap Some s.1) e in s.0 ∙ sym ((bytes_eq-Decides name n).1 f)
    | inr s ↦ s.0 ∙ sym (differ (bytes_eq name n) refl s.1)
  ]
    where
      differ : (b : Bool) → b ≡ bytes_eq name n → number ≢ k → bytes_eq name n ≡ false
      differ true f apart =
          let g : name ≡ n = (bytes_eq-Decides name n).0 (sym f) in
          let j : number_in ms n ≡ Some number = ap (number_in ms) (sym g) ∙ its in
          absurd (apart (let i : Some number ≡ Some k = sym j ∙ e in cc))
      differ false f apart = sym f

  by_number : (p : ℕ) (n : List ℕ) (x : Option ℕ) → number_in ms n ≡ x → place_by qs p x ≡ cond (nat_eq o p && bytes_eq name n) (Some place) (place_by ps p x)
  by_number p n (Some k) e = is p k ∙ ap (λ (b : Bool). cond (nat_eq o p && b) (Some place) (place_in ps p k)) (same_name n k e)
  by_number p n None e = sym (ap (λ (b : Bool). cond (nat_eq o p && b) (Some place) None) (other (bytes_eq name n) refl) ∙ never (nat_eq o p))
    where
      other : (b : Bool) → b ≡ bytes_eq name n → bytes_eq name n ≡ false
      other true f =
          let g : name ≡ n = (bytes_eq-Decides name n).0 (sym f) in
          let j : number_in ms n ≡ Some number = ap (number_in ms) (sym g) ∙ its in
          absurd cc
      other false f = sym f

      never : (b : Bool) → cond (b && false) (Some place) None ≡ None
      never true = refl
      never false = refl

  pub put-one : (p : ℕ) (n : List ℕ) → place_by qs p (number_in ms n) ≡ cond (nat_eq o p && bytes_eq name n) (Some place) (place_by ps p (number_in ms n))
  put-one p n = by_number p n (number_in ms n) refl

  pub kept-more : IsKept ms qs
  kept-more = record { numbered = h.numbered; below = λ p k j e. by_case p k j e (nat_eq o p && nat_eq number k) refl }
    where
      at_new : (k : ℕ) (b : Bool) → (b && nat_eq number k) ≡ true → k < btree_map_len ms
      at_new k true f = let same : number ≡ k = eqb-true number k f in let lt = h.numbered.below name number its in omega arith
      at_new k false f = absurd cc

      by_case : (p k : ℕ) (j : X) → place_in qs p k ≡ Some j → (b : Bool) → b ≡ (nat_eq o p && nat_eq number k) → k < btree_map_len ms
      by_case p k j e true f = at_new k (nat_eq o p) (sym f)
      by_case p k j e false f =
          h.below p k j (ap (λ (b : Bool). cond b (Some place) (place_in ps p k)) f ∙ sym (is p k) ∙ e)
