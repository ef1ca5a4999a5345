-- Choices that lead somewhere have a path along them.
use Rattle.std.proofs.Common.{◌≡◌, ◌∙◌, ap, sym, subst, refl, ℕ, zero, suc, ◌+◌, ◌<◌, ◌≤◌, Bool, true, false, if◌then◌else◌, List, ◌∷◌, [], ◌++◌, length, take, drop, Option, Some, arith, append_assoc}
use Rattle.std.specs.Prelude.{nat_lt}
use Rattle.std.specs.List.{flat_map}
use Rattle.std.proofs.lemmas.Bool.Decides.{nat_tests}
use Rattle.std.proofs.lemmas.Grind.{flat_map-append}
use Rattle.std.proofs.lemmas.List.{take_all, take-append-drop}
use Rattle.std.proofs.lemmas.Option.{none-some, same_Some}
use Rattle.promela_machine.specs.Machine.{Rules, Outcome, Goes, Faults}
use Rattle.promela_session.specs.Events.{record_line}
use Rattle.pml_play.specs.Run.{Leg, IsChosen, IsStep, IsPath, last_state}
use Rattle.view_walk.specs.declared.leg.Leg as choice
use Rattle.view_walk.specs.Choices.{numbered, after, chosen, on, led}
use Rattle.view_walk.specs.Records.{number_of, numbers_of, record_of}
use Rattle.view_walk.proofs.Leads.{some_on, chosen_is, choice_counts, numbered_there}
use Rattle.view_laws.specs.Along.{IsAlong}

-- a step that leads to a state is no fault
goes_to : {S : Type 0} (o : Outcome S) (u : S) → after o ≡ Some u → (printed : List ℕ) × (o ≡ Goes u printed)
goes_to {S = S} (Goes t printed) u h = (printed, ap (λ (x : S). Goes x printed) (same_Some t u h))
goes_to (Faults f) u h = absurd (none-some u h)

lt_true : (a b : ℕ) → a < b → nat_lt a b ≡ true
lt_true a b h = grind (arith, nat_tests)

lt_false : (a b : ℕ) → b < a + 1 → nat_lt a b ≡ false
lt_false a b h = grind (arith, nat_tests)

-- the number of the only move is not noted
only_noted : (t : choice.Leg) → t.of ≡ 1 → number_of t ≡ []
only_noted t one = ap (λ (b : Bool). if b then t.choice ∷ [] else []) (lt_false 1 t.of (omega (arith, one)))

-- one of several is
several_noted : (t : choice.Leg) (n k : ℕ) → t.of ≡ n → 1 < n → t.choice ≡ suc k → number_of t ≡ (k + 1) ∷ []
several_noted t n k is several choice =
    let next : suc k ≡ k + 1 = omega arith in
    ap (λ (b : Bool). if b then t.choice ∷ [] else []) (lt_true 1 t.of (omega (arith, is, several))) ∙ ap (λ (c : ℕ). c ∷ []) (choice ∙ next)

none_is_numbered : {M : Type 0} (k : ℕ) (m : M) → numbered [] k ≡ Some m → ⊥
none_is_numbered zero m e = none-some m e
none_is_numbered (suc k) m e = none-some m e

one_is_numbered : {M : Type 0} (k : ℕ) (a m : M) → numbered (a ∷ []) k ≡ Some m → m ≡ a
one_is_numbered zero a m e = absurd (none-some m e)
one_is_numbered (suc zero) a m e = sym (same_Some a m e)
one_is_numbered (suc (suc k)) a m e = absurd (none-some m e)

several_numbered : {M : Type 0} (t : choice.Leg) (n : ℕ) (a b m : M) (more : List M) → t.of ≡ n → 1 < n → (k : ℕ) → t.choice ≡ k → numbered (a ∷ b ∷ more) k ≡ Some m → IsChosen (a ∷ b ∷ more) (number_of t) m
several_numbered t n a b m more is several zero choice e = absurd (none-some m e)
several_numbered t n a b m more is several (suc k) choice e = (k, several_noted t n k is several choice, e)

-- the move of a choice is the only one, or the one that its number picks
is_picked : {M : Type 0} (ms : List M) (t : choice.Leg) (m : M) → length ms ≡ t.of → numbered ms t.choice ≡ Some m → IsChosen ms (number_of t) m
is_picked [] t m count h = none_is_numbered t.choice m h
is_picked (a ∷ []) t m count h = (only_noted t (sym count), one_is_numbered t.choice a m h)
is_picked (a ∷ b ∷ more) t m count h = several_numbered t (length (a ∷ b ∷ more)) a b m more (sym count) (omega arith) t.choice refl h

-- The same of each beginning of the choices.
pub record Fronts {S M : Type 0} (rules : Rules S M) (s : S) (path : List (Leg S M)) (ts : List choice.Leg) : Type 0 where
  pub counted : length path ≡ length ts
  pub fronts : (k : ℕ) → IsPath rules s (take k path) (numbers_of (take k ts))
  pub leads : (k : ℕ) → led (chosen rules) s (take k ts) ≡ Some (last_state s (take k path))

module _ {S M : Type 0} (rules : Rules S M) where
  -- a step along a choice
  step_along : (s : S) (t : choice.Leg) (u : S) → chosen rules s t ≡ Some u → (m : M) × IsStep rules s (number_of t) (record { move = m; next = u })
  step_along s t u h =
      let c = chosen_is rules s t u h in
      let goes = goes_to (rules.step s c.0) u c.2 in (
        c.0,
        record {
          there = numbered_there (rules.moves s) t.choice c.0 c.1;
          chosen = is_picked (rules.moves s) t c.0 (choice_counts rules s t u h) c.1;
          printed = goes.0;
          goes = goes.1;
        },
      )

  none_along : (s : S) → Fronts rules s [] []
  none_along s = record { counted = refl; fronts = front; leads = leads }
    where
      front : (k : ℕ) → IsPath rules s (take k []) (numbers_of (take k []))
      front zero = refl
      front (suc k) = refl

      leads : (k : ℕ) → led (chosen rules) s (take k []) ≡ Some (last_state {M = M} s (take k []))
      leads zero = refl
      leads (suc k) = refl

  one_along : (s u : S) (m : M) (t : choice.Leg) (ts : List choice.Leg) (path : List (Leg S M)) → chosen rules s t ≡ Some u → IsStep rules s (number_of t) (record { move = m; next = u })
      → Fronts rules u path ts → Fronts rules s (record { move = m; next = u } ∷ path) (t ∷ ts)
  one_along s u m t ts path goes step later = record { counted = ap (λ (n : ℕ). suc n) later.counted; fronts = front; leads = leads }
    where
      front : (k : ℕ) → IsPath rules s (take k (record { move = m; next = u } ∷ path)) (numbers_of (take k (t ∷ ts)))
      front zero = refl
      front (suc k) = (number_of t, numbers_of (take k ts), refl, step, later.fronts k)

      leads : (k : ℕ) → led (chosen rules) s (take k (t ∷ ts)) ≡ Some (last_state s (take k (record { move = m; next = u } ∷ path)))
      leads zero = refl
      leads (suc k) = ap (λ (r : Option S). on r (λ v. led (chosen rules) v (take k ts))) goes ∙ later.leads k

  -- choices that lead somewhere have a path along them
  pub path_along : (s : S) (ts : List choice.Leg) (last : S) → led (chosen rules) s ts ≡ Some last → (path : List (Leg S M)) × Fronts rules s path ts
  path_along s [] last h = ([], none_along s)
  path_along s (t ∷ ts) last h =
      let next = some_on (chosen rules s t) (λ u. led (chosen rules) u ts) last h in
      let goes = next.1 in
      let rest : led (chosen rules) next.0 ts ≡ Some last = ap (λ (r : Option S). on r (λ u. led (chosen rules) u ts)) (sym goes) ∙ h in
      let step = step_along s t next.0 goes in
      let later = path_along next.0 ts last rest in
      (record { move = step.0; next = next.0 } ∷ later.0, one_along s next.0 step.0 t ts later.0 goes step.1 later.1)

  pub goes_along : (s : S) (path : List (Leg S M)) (ts : List choice.Leg) → Fronts rules s path ts → IsAlong rules s path ts
  goes_along s path ts a = record {
    is_path = whole;
    counted = a.counted;
    leads = a.leads;
  }
    where
      few : length path ≤ length ts
      few = omega (arith, a.counted)

      whole : IsPath rules s path (numbers_of ts)
      whole = subst (λ (ns : List choice.Leg). IsPath rules s path (numbers_of ns)) (take_all (length ts) ts (omega arith))
          (subst (λ (p : List (Leg S M)). IsPath rules s p (numbers_of (take (length ts) ts))) (take_all (length ts) path few) (a.fronts (length ts)))

-- a record and what is behind it, from so many choices on
pub record_split : (k : ℕ) (ts : List choice.Leg) (more : List ℕ) → record_of ts ++ more ≡ record_of (take k ts) ++ (record_of (drop k ts) ++ more)
record_split k ts more =
    ap (λ (l : List choice.Leg). record_of l ++ more) (sym (take-append-drop k ts))
    ∙ ap (λ (l : List ℕ). flat_map record_line l ++ more) (flat_map-append number_of (take k ts) (drop k ts))
    ∙ ap (λ (l : List ℕ). l ++ more) (flat_map-append record_line (numbers_of (take k ts)) (numbers_of (drop k ts)))
    ∙ append_assoc (record_of (take k ts)) (record_of (drop k ts)) more
