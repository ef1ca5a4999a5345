-- Choices behind others, and the states that they lead to.
use Rattle.std.proofs.Common.{◌≡◌, ◌∙◌, ap, sym, refl, ℕ, zero, suc, ◌+◌, ◌≤◌, Bool, true, false, List, ◌∷◌, [], ◌++◌, length, take, drop, Option, Some, None, if◌then◌else◌, arith, eq-eqb}
use Rattle.std.specs.Prelude.{slice_get, ◌==◌, ◌&&◌}
use Rattle.std.specs.List.{Contains}
use Rattle.std.proofs.lemmas.Bool.{false≢true, eqb-true, and_parts}
use Rattle.std.proofs.lemmas.List.{length-take-le, length_push, take_all}
use Rattle.std.proofs.lemmas.Option.{none-some, same_Some, slice_get_within, get_or_from_slice_get}
use Rattle.diagnostics.specs.declared.fault.Fault.{Fault}
use Rattle.promela_machine.specs.Machine.{Rules, Goes, Faults}
use Rattle.view_walk.specs.declared.leg.Leg.{Leg}
use Rattle.view_walk.specs.Choices.{numbered, after, behind, chosen, on, led, led_from, is_leg, with_leg}

on_on : {S : Type 0} (r : Option S) (go more : S → Option S) → on (on r go) more ≡ on r (λ u. on (go u) more)
on_on None go more = refl
on_on (Some u) go more = refl

on_same : {S : Type 0} (r : Option S) (go more : S → Option S) → ((u : S) → go u ≡ more u) → on r go ≡ on r more
on_same None go more h = refl
on_same (Some u) go more h = h u

-- choices behind others
pub led_append : {S : Type 0} (go : S → Leg → Option S) (s : S) (xs ys : List Leg) → led go s (xs ++ ys) ≡ on (led go s xs) (λ u. led go u ys)
led_append go s [] ys = refl
led_append go s (t ∷ xs) ys =
    on_same (go s t) (λ u. led go u (xs ++ ys)) (λ u. on (led go u xs) (λ v. led go v ys)) (λ u. led_append go u xs ys)
    ∙ sym (on_on (go s t) (λ u. led go u xs) (λ v. led go v ys))

-- a list up to a place that it has, and one more
pub take_one_more : {T : Type 0} (ts : List T) (n : ℕ) (t : T) → slice_get ts n ≡ Some t → take (suc n) ts ≡ take n ts ++ t ∷ []
take_one_more [] n t h = absurd (none-some t h)
take_one_more (x ∷ ts) zero t h = ap (λ y. y ∷ []) (same_Some x t h)
take_one_more (x ∷ ts) (suc n) t h = ap (λ r. x ∷ r) (take_one_more ts n t h)

-- what a list is made of at a place that it has
pub split_at : {T : Type 0} (ts : List T) (n : ℕ) (t : T) → slice_get ts n ≡ Some t → ts ≡ take n ts ++ t ∷ drop (suc n) ts
split_at [] n t h = absurd (none-some t h)
split_at (x ∷ ts) zero t h = ap (λ y. y ∷ ts) (same_Some x t h)
split_at (x ∷ ts) (suc n) t h = ap (λ r. x ∷ r) (split_at ts n t h)

pub some_on : {S : Type 0} (r : Option S) (go : S → Option S) (u : S) → on r go ≡ Some u → (v : S) × (r ≡ Some v)
some_on None go u h = absurd (none-some u h)
some_on (Some v) go u h = (v, refl)

module _ {S M : Type 0} (rules : Rules S M) where
  lead_append : (s : Option S) (xs ys : List Leg) → led_from rules s (xs ++ ys) ≡ on (led_from rules s xs) (λ u. led (chosen rules) u ys)
  lead_append None xs ys = refl
  lead_append (Some s) xs ys = led_append (chosen rules) s xs ys

  -- where all choices lead somewhere, so does the next of them
  pub next_leads : (s : Option S) (ts : List Leg) (n : ℕ) (t : Leg) (here last : S) → slice_get ts n ≡ Some t
      → led_from rules s (take n ts) ≡ Some here → led_from rules s ts ≡ Some last → (u : S) × (chosen rules here t ≡ Some u)
  next_leads s ts n t here last at h whole =
      let split = lead_append s (take n ts) (t ∷ drop (suc n) ts) in
      let e = sym split ∙ ap (led_from rules s) (sym (split_at ts n t at)) ∙ whole in
      let f = ap (λ r. on r (λ u. led (chosen rules) u (t ∷ drop (suc n) ts))) (sym h) ∙ e in
      some_on (chosen rules here t) (λ u. led (chosen rules) u (drop (suc n) ts)) last f

  -- another choice behind the first n
  pub leads_aside : (s : Option S) (ts : List Leg) (n : ℕ) (t : Leg) (here u : S)
      → led_from rules s (take n ts) ≡ Some here → chosen rules here t ≡ Some u → led_from rules s (take n ts ++ t ∷ []) ≡ Some u
  leads_aside s ts n t here u h goes =
      lead_append s (take n ts) (t ∷ []) ∙ ap (λ r. on r (λ v. led (chosen rules) v (t ∷ []))) h ∙ ap (λ r. on r (λ v. led (chosen rules) v [])) goes

  -- and the next choice leads to the state behind it
  pub leads_on : (s : Option S) (ts : List Leg) (n : ℕ) (t : Leg) (here u : S) → slice_get ts n ≡ Some t
      → led_from rules s (take n ts) ≡ Some here → chosen rules here t ≡ Some u → led_from rules s (take (n + 1) ts) ≡ Some u
  leads_on s ts n t here u at h goes =
      let one : n + 1 ≡ suc n = omega arith in
      ap (λ k. led_from rules s (take k ts)) one ∙ ap (led_from rules s) (take_one_more ts n t at) ∙ leads_aside s ts n t here u h goes

  -- ---- a choice

  cond_is : (b : Bool) (r : Option S) (u : S) → (if b then r else None) ≡ Some u → (b ≡ true) × (r ≡ Some u)
  cond_is true r u h = (refl, h)
  cond_is false r u h = absurd (none-some u h)

  behind_is : (s : S) (o : Option M) (u : S) → behind rules s o ≡ Some u → (m : M) × (o ≡ Some m) × (after (rules.step s m) ≡ Some u)
  behind_is s None u h = absurd (none-some u h)
  behind_is s (Some m) u h = (m, refl, h)

  -- what leads somewhere is the number of a move whose step is no fault
  pub chosen_is : (s : S) (t : Leg) (u : S) → chosen rules s t ≡ Some u → (m : M) × (numbered (rules.moves s) t.choice ≡ Some m) × (after (rules.step s m) ≡ Some u)
  chosen_is s t u h = behind_is s (numbered (rules.moves s) t.choice) u (cond_is (length (rules.moves s) == t.of) (behind rules s (numbered (rules.moves s) t.choice)) u h).1

  pub choice_counts : (s : S) (t : Leg) (u : S) → chosen rules s t ≡ Some u → length (rules.moves s) ≡ t.of
  choice_counts s t u h = eqb-true (length (rules.moves s)) t.of (cond_is (length (rules.moves s) == t.of) (behind rules s (numbered (rules.moves s) t.choice)) u h).0

  -- a move that is taken is a choice
  pub is_chosen : (s : S) (t : Leg) (m : M) (u : S) (printed : List ℕ) → length (rules.moves s) ≡ t.of → numbered (rules.moves s) t.choice ≡ Some m
      → rules.step s m ≡ Goes u printed → chosen rules s t ≡ Some u
  is_chosen s t m u printed count number goes =
      ap (λ b. if b then behind rules s (numbered (rules.moves s) t.choice) else None) (eq-eqb (length (rules.moves s)) t.of count)
      ∙ ap (behind rules s) number ∙ ap after goes

  -- no fault
  pub no_fault : (s : S) (t : Leg) (m : M) (u : S) (f : Fault) → chosen rules s t ≡ Some u → numbered (rules.moves s) t.choice ≡ Some m → rules.step s m ≡ Faults f → ⊥
  no_fault s t m u f h number faults =
      let c = chosen_is s t u h in
      let same = same_Some c.0 m (sym c.1 ∙ number) in
      none-some u (sym (ap after (ap (rules.step s) same ∙ faults)) ∙ c.2)

-- a move with a number is there
pub numbered_there : {M : Type 0} (ms : List M) (k : ℕ) (m : M) → numbered ms k ≡ Some m → Contains ms m
numbered_there ms zero m h = absurd (none-some m h)
numbered_there ms (suc k) m h = (k, slice_get_within ms k m h, get_or_from_slice_get ms k m m h)

leg_is : (u t : Leg) → ((u.choice == t.choice) && (u.of == t.of)) ≡ true → u ≡ t
leg_is u t h =
    let p = and_parts (u.choice == t.choice) (u.of == t.of) h in
    ap (λ (n : ℕ). record { choice = n; of = u.of }) (eqb-true u.choice t.choice p.0) ∙ ap (λ (n : ℕ). record { choice = t.choice; of = n }) (eqb-true u.of t.of p.1)

is_next : (t : Leg) (o : Option Leg) → is_leg t o ≡ true → o ≡ Some t
is_next t None h = absurd (false≢true h)
is_next t (Some u) h = ap Some (leg_is u t h)

-- What a choice makes of a walk: its choices lead somewhere, those up to this one to the state behind it, and there are as many.
pub record Leads {S M : Type 0} (rules : Rules S M) (s : Option S) (ts : List Leg) (n : ℕ) (u : S) : Type 0 where
  pub last : S
  pub whole : led_from rules s ts ≡ Some last
  pub here : led_from rules s (take n ts) ≡ Some u
  pub within : n ≤ length ts

module _ {S M : Type 0} (rules : Rules S M) (s : Option S) (ts : List Leg) (n : ℕ) (t : Leg) (here u : S)
    (stands : led_from rules s (take n ts) ≡ Some here) (goes : chosen rules here t ≡ Some u) where
  -- the next of those to come
  pub same_leads : (last : S) → led_from rules s ts ≡ Some last → slice_get ts n ≡ Some t → Leads rules s ts (n + 1) u
  same_leads last whole at = record {
    last = last;
    whole = whole;
    here = leads_on rules s ts n t here u at stands goes;
    within = omega (arith, slice_get_within ts n t at);
  }

  -- another
  pub other_leads : n ≤ length ts → Leads rules s (take n ts ++ t ∷ []) (n + 1) u
  other_leads within =
      let count : length (take n ts ++ t ∷ []) ≡ n + 1 = length_push (take n ts) t ∙ ap (λ (k : ℕ). k + 1) (length-take-le n ts within) in
      let all = leads_aside rules s ts n t here u stands goes in
      let few : length (take n ts ++ t ∷ []) ≤ n + 1 = omega (arith, count) in
      record {
        last = u;
        whole = all;
        here = ap (led_from rules s) (take_all (n + 1) (take n ts ++ t ∷ []) few) ∙ all;
        within = omega (arith, count);
      }

  by_leg : (last : S) → led_from rules s ts ≡ Some last → n ≤ length ts → (b : Bool) → is_leg t (slice_get ts n) ≡ b
      → Leads rules s (if b then ts else take n ts ++ t ∷ []) (n + 1) u
  by_leg last whole within true h = same_leads last whole (is_next t (slice_get ts n) h)
  by_leg last whole within false h = other_leads within

  -- the choice
  pub leg_leads : (last : S) → led_from rules s ts ≡ Some last → n ≤ length ts → Leads rules s (with_leg ts n t) (n + 1) u
  leg_leads last whole within = by_leg last whole within (is_leg t (slice_get ts n)) refl
