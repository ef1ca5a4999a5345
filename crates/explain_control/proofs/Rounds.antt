-- Chains that come to a circle, and the way round it.
use Rattle.std.proofs.Common.{◌≡◌, ◌≢◌, ℕ, zero, suc, ◌+◌, ◌<◌, ◌≤◌, ◌⊎◌, inl, inr, Bool, true, false, List, [], ◌∷◌, ◌++◌, length, get_or, sum_by, eqb, Option, Some, None, unwrap_or, slice_index_or, refl, sym, ap, subst, ◌∙◌, arith}
use Rattle.std.specs.Prelude.{slice_set}
use Rattle.std.proofs.lemmas.Bool.Decides.{eqb_tells}
use Rattle.std.proofs.lemmas.List.{append_assoc, append-nil, get_or-set_other}
use Rattle.std.proofs.lemmas.List.Sums.{sum_by-set}
use Rattle.pml_control.specs.Ends.{next_of, Leads, Circling}
use Rattle.pml_control.proofs.Chains.{leads_on}
use Rattle.pml_control.proofs.Circling.{same_some}
use Rattle.explain_control.specs.declared.site.Label.{Label}
use Rattle.explain_control.specs.declared.site.PostSite.{PostSite}
use Rattle.explain_control.specs.Blamed.{site_at, own_label, labels_along, Returns, IsRound}

-- 1 where a post is not yet passed
abbrev pub unpassed : Bool → ℕ
unpassed true = 0
unpassed false = 1

pub passed_is : (ps : List Bool) (k : ℕ) → slice_index_or ps k true ≡ true → (get_or ps k false ≡ true) ⊎ (length ps ≤ k)
passed_is [] k h = inr (omega arith)
passed_is (p ∷ ps) zero h = inl h
passed_is (p ∷ ps) (suc k) h = deeper (passed_is ps k h)
  where
    deeper : (get_or ps k false ≡ true) ⊎ (length ps ≤ k) → (get_or ps k false ≡ true) ⊎ (suc (length ps) ≤ suc k)
    deeper (inl a) = inl a
    deeper (inr a) = inr (omega (arith, a))

pub open_is : (ps : List Bool) (k : ℕ) → slice_index_or ps k true ≡ false → (k < length ps) × (get_or ps k false ≡ false)
open_is [] k h = cc
open_is (p ∷ ps) zero h = (omega arith, h)
open_is (p ∷ ps) (suc k) h = let r = open_is ps k h in (omega (arith, r.0), r.1)

pub beyond : (ns : List (Option ℕ)) (k : ℕ) → length ns ≤ k → next_of ns k ≡ None
beyond [] k h = refl
beyond (n ∷ ns) zero h = absurd (omega (arith, h))
beyond (n ∷ ns) (suc k) h = beyond ns k (omega (arith, h))

pub one_less : (ps : List Bool) (k : ℕ) → k < length ps → get_or ps k false ≡ false → sum_by unpassed (slice_set ps k true) < sum_by unpassed ps
one_less ps k h e =
    let s = sum_by-set unpassed ps k true false h in
    let u : unpassed (get_or ps k false) ≡ 1 = ap unpassed e in omega (arith, s, u)

-- two numbers are the same, or not
abbrev Tells : ℕ → ℕ → Type 0
Tells a b = ((eqb a b ≡ true) × (a ≡ b)) ⊎ ((eqb a b ≡ false) × (a ≢ b))

module _ (ns : List (Option ℕ)) where
  -- a circle goes on
  on_from : (i j k more before : ℕ) → Leads ns before i k → Leads ns (suc more) k k → next_of ns i ≡ Some j → Circling ns j
  on_from i j k more zero e r h =
      let there : r.0 ≡ j = same_some (next_of ns k) r.0 j r.1 (ap (next_of ns) (sym e) ∙ h) in
      record { round = k; before = more; leads = subst (λ (x : ℕ). Leads ns more x k) there r.2; more = more; returns = r }
  on_from i j k more (suc n) l r h =
      let there : l.0 ≡ j = same_some (next_of ns i) l.0 j l.1 h in
      record { round = k; before = n; leads = subst (λ (x : ℕ). Leads ns n x k) there l.2; more = more; returns = r }

  pub circling_on : (i j : ℕ) → Circling ns i → next_of ns i ≡ Some j → Circling ns j
  circling_on i j c h = on_from i j c.round c.more c.before c.leads c.returns h

  never_from : (i k more before : ℕ) → Leads ns before i k → Leads ns (suc more) k k → next_of ns i ≡ None → ⊥
  never_from i k more zero e r h =
      let there : next_of ns k ≡ None = ap (next_of ns) (sym e) ∙ h in
      let here : next_of ns k ≡ Some r.0 = r.1 in
      cc
  never_from i k more (suc n) l r h = let there : next_of ns i ≡ Some l.0 = l.1 in cc

  pub circling_goes : (i : ℕ) → Circling ns i → next_of ns i ≡ None → ⊥
  circling_goes i c h = never_from i c.round c.more c.before c.leads c.returns h

  pub returning : (k : ℕ) → Returns ns k → Circling ns k
  returning k r = record { round = k; before = zero; leads = refl; more = r.more; returns = r.leads }

  pub returns_on : (k j : ℕ) → Returns ns k → next_of ns k ≡ Some j → Returns ns j
  returns_on k j r h =
      let there : r.leads.0 ≡ j = same_some (next_of ns k) r.leads.0 j r.leads.1 h in
      record { more = r.more; leads = leads_on ns r.more j k j (subst (λ (x : ℕ). Leads ns r.more x k) there r.leads.2) h }

  pub one_of : (k post other : ℕ) → Returns ns post → Returns ns other → (k ≡ post) ⊎ (k ≡ other) → Returns ns k
  one_of k post other p o (inl e) = subst (λ (x : ℕ). Returns ns x) (sym e) p
  one_of k post other p o (inr e) = subst (λ (x : ℕ). Returns ns x) (sym e) o

  pub one_way : (n i j k : ℕ) → Leads ns n i j → Leads ns n i k → j ≡ k
  one_way zero i j k a b = sym a ∙ b
  one_way (suc n) i j k a b =
      let is : b.0 ≡ a.0 = same_some (next_of ns i) b.0 a.0 b.1 a.1 in
      one_way n a.0 j k a.2 (subst (λ (x : ℕ). Leads ns n x k) is b.2)

  pub labels_on : (ss : List PostSite) (n k here : ℕ) → Leads ns n k here → labels_along ss ns (suc n) k ≡ labels_along ss ns n k ++ own_label (site_at ss here).matter
  labels_on ss zero k here e = ap (λ (x : ℕ). own_label (site_at ss x).matter ++ []) e ∙ append-nil (own_label (site_at ss here).matter)
  labels_on ss (suc n) k here l =
      let is : unwrap_or (next_of ns k) k ≡ l.0 = ap (λ (o : Option ℕ). unwrap_or o k) l.1 in
      let rest : labels_along ss ns (suc n) l.0 ≡ labels_along ss ns n l.0 ++ own_label (site_at ss here).matter = labels_on ss n l.0 here l.2 in
      ap (λ (x : ℕ). own_label (site_at ss k).matter ++ labels_along ss ns (suc n) x) is
      ∙ ap (λ (xs : List Label). own_label (site_at ss k).matter ++ xs) rest
      ∙ sym (append_assoc (own_label (site_at ss k).matter) (labels_along ss ns n l.0) (own_label (site_at ss here).matter))
      ∙ ap (λ (x : ℕ). (own_label (site_at ss k).matter ++ labels_along ss ns n x) ++ own_label (site_at ss here).matter) (sym is)

  -- what is known of the posts that were passed: each leads to the present one
  abbrev pub Back : List Bool → ℕ → Type 0
  Back ps here = (k : ℕ) → get_or ps k false ≡ true → (n : ℕ) × Leads ns n k here

  pub comes_back : (ps : List Bool) (here there : ℕ) → length ps ≡ length ns → Circling ns here → Back ps here → next_of ns here ≡ Some there → slice_index_or ps there true ≡ true → Returns ns there
  comes_back ps here there long goes back e h = by (passed_is ps there h)
    where
      by : (get_or ps there false ≡ true) ⊎ (length ps ≤ there) → Returns ns there
      by (inl a) = let way = back there a in record { more = way.0; leads = leads_on ns way.0 there here there way.1 e }
      by (inr a) = absurd (circling_goes there (circling_on here there goes e) (beyond ns there (omega (arith, a, long))))

  pub back_on : (ps : List Bool) (here there : ℕ) → there < length ps → Back ps here → next_of ns here ≡ Some there → Back (slice_set ps there true) there
  back_on ps here there within back e k = by (eqb_tells k there)
    where
      by : Tells k there → get_or (slice_set ps there true) k false ≡ true → (n : ℕ) × Leads ns n k there
      by (inl is) h = (zero, is.1)
      by (inr other) h =
          let way = back k (sym (get_or-set_other ps there k true false other.1) ∙ h) in
          (suc way.0, leads_on ns way.0 k here there way.1 e)

  pub not_yet : (n : ℕ) (post here there : ℕ) → ((m : ℕ) → m < n → Leads ns (suc m) post post → ⊥) → Leads ns n post here → next_of ns here ≡ Some there → there ≢ post → (m : ℕ) → m < suc n → Leads ns (suc m) post post → ⊥
  not_yet n post here there first l e other m h r = by (eqb_tells m n)
    where
      by : Tells m n → ⊥
      by (inl is) = other (one_way (suc n) post there post (leads_on ns n post here there l e) (subst (λ (x : ℕ). Leads ns (suc x) post post) is.1 r))
      by (inr less) = first m (let apart : m ≢ n = less.1 in omega (arith, h, apart)) r

  module _ (ss : List PostSite) (n post here : ℕ) (ls : List Label) (leads : Leads ns n post here) (first : (m : ℕ) → m < n → Leads ns (suc m) post post → ⊥) (is : ls ≡ labels_along ss ns n post) where
    pub more_labels : (more : List Label) → more ≡ ls ++ own_label (site_at ss here).matter → more ≡ labels_along ss ns (suc n) post
    more_labels more e = e ∙ ap (λ (xs : List Label). xs ++ own_label (site_at ss here).matter) is ∙ sym (labels_on ss n post here leads)

    pub round_back : (more : List Label) → Returns ns post → more ≡ ls ++ own_label (site_at ss here).matter → next_of ns here ≡ Some post → IsRound ss ns post more
    round_back more r e h = record {
      more = n;
      round = inl (leads_on ns n post here post leads h);
      first = first;
      labels = more_labels more e;
      returns = r;
    }

  pub round_out : (ss : List PostSite) (n post : ℕ) (ls : List Label) → ((m : ℕ) → m < n → Leads ns (suc m) post post → ⊥) → ls ≡ labels_along ss ns n post → Returns ns post → n ≡ length ns → IsRound ss ns post ls
  round_out ss zero post ls first is r e = absurd (circling_goes post (returning post r) (beyond ns post (omega (arith, e))))
  round_out ss (suc n) post ls first is r e = record {
    more = n;
    round = inr e;
    first = λ m l. first m (omega (arith, l));
    labels = is;
    returns = r;
  }

pub one_more : (P : ℕ → Type 0) (n : ℕ) → P (suc n) → P (n + 1)
one_more P n h = subst P (let e : suc n ≡ n + 1 = omega arith in e) h
