-- What a step leads back to.
use Rattle.std.proofs.Common.{◌≡◌, ◌⊎◌, inl, inr, ℕ, zero, suc, ◌+◌, ◌<◌, ◌≤◌, None, List, [], ◌∷◌, ◌++◌, length, take, min, refl, sym, ap, ◌∙◌, arith, Result, Ok, Err}
use Rattle.std.proofs.lemmas.List.{take_all, take-append-le}
use Rattle.std.proofs.lemmas.Bool.{cases_lt}
use Rattle.diagnostics.specs.declared.fault.Fault.{Fault}
use Rattle.promela_machine.specs.Machine.{Outcome, Goes, Faults}
use Rattle.promela_process.specs.Store.{Frame}
use Rattle.diagnostics.specs.declared.stop.Stop.TheVariants as stop
use Rattle.promela_run.specs.declared.moves.Move.{Move}
use Rattle.promela_run.specs.declared.moves.Move.TheVariants.{Death, Alone, Pair}
use Rattle.promela_run.specs.State.{State}
use Rattle.profile.specs.declared.TheConstants.{MOST_DSTEP_STATEMENTS}
use Rattle.promela_run.specs.Steps.{Done, after_move}
use Rattle.run_step.specs.Done.{Does}
use Rattle.promela_run.specs.World.{Running, led_to}
use Rattle.run_step.specs.Taking.{PastBy}

goes_is : {s t : Running} {xs ys : List ℕ} → ◌≡◌ {A = Outcome Running} (Goes s xs) (Goes t ys) → s ≡ t
goes_is h = cc

pub leads_back : (frames : List Frame) (d : Result Done Fault) (t : Running) (printed : List ℕ) → led_to frames d ≡ Goes t printed → t.past ≡ take (length t.state.frames) frames
leads_back frames (Ok d) t printed h =
    ap (λ (w : Running). w.past) (sym (goes_is h)) ∙ ap (λ (w : Running). take (length w.state.frames) frames) (goes_is h)
leads_back frames (Err f) t printed h = absurd cc

-- ---- as far as variables are still there

length-take-le : {A : Type 0} (m : ℕ) (xs : List A) → length (take m xs) ≤ length xs
length-take-le zero xs = omega arith
length-take-le (suc m) [] = omega arith
length-take-le (suc m) (x ∷ xs) = let h = length-take-le m xs in omega (arith, h)

taken_less : {A : Type 0} (m : ℕ) (xs : List A) → take (length (take m xs)) xs ≡ take m xs
taken_less zero xs = refl
taken_less (suc m) [] = refl
taken_less (suc m) (x ∷ xs) = ap (λ (l : List _). x ∷ l) (taken_less m xs)

lesser : {A : Type 0} (xs : List A) (a b : ℕ) → length xs ≡ a + 1 → take (min a b + 1) xs ≡ take (b + 1) xs
lesser xs a b l = by (cases_lt b a)
  where
    by : (b < a) ⊎ (a ≤ b) → take (min a b + 1) xs ≡ take (b + 1) xs
    by (inl h) = ap (λ (i : ℕ). take i xs) (let e : min a b + 1 ≡ b + 1 = omega (arith, h) in e)
    by (inr h) = take_all (min a b + 1) xs (omega (arith, l, h)) ∙ sym (take_all (b + 1) xs (omega (arith, l, h)))

-- where the log leads back to the old ones, and to new ones behind
pub past_grown : (old new past rest : List Frame) (a b : ℕ) → length old ≡ a + 1 → length new ≡ b + 1 → past ≡ old ++ rest → take (min a b + 1) past ≡ take (length new) old
past_grown old new past rest a b m n p =
    ap (take (min a b + 1)) p ∙ take-append-le (min a b + 1) old rest (omega (arith, m)) ∙ lesser old a b m ∙ ap (λ (i : ℕ). take i old) (sym n)

-- where the youngest has died
pub past_less : (old new past : List Frame) (m a b : ℕ) → new ≡ take m old → length old ≡ a + 1 → length new ≡ b + 1 → past ≡ new → take (min a b + 1) past ≡ take (length new) old
past_less old new past m a b e l n p =
    let fewer : length new ≤ length old = (let l : length (take m old) ≤ length old = length-take-le m old in omega (arith, l, ap length e)) in
    let h : b ≤ a = omega (arith, l, n, fewer) in
    let same : min a b + 1 ≡ length new = omega (arith, n, h) in
    ap (take (min a b + 1)) p ∙ ap (λ (i : ℕ). take i new) same ∙ take_all (length new) new (omega arith) ∙ e ∙ sym (taken_less m old) ∙ sym (ap (λ (l : List Frame). take (length l) old) e)

-- ---- what the session is told

module _ (s : State) (m : Move) (new : State) (past : List Frame) (before after : List ℕ) where
  abbrev Goes_on : Result Done Fault → Type 0
  Goes_on r = (x : List ℕ) × (led_to s.frames r ≡ Goes (record { state = new; past = past; halt = None }) x) × (after ≡ before ++ x)

  pub went : (r : Result Done Fault) (u : Unit {0}) → Does r (Ok u) new before after → past ≡ take (length new.frames) s.frames → Goes_on r
  went (Ok d) u h p = (
    d.printed,
    ap (λ (t : State). Goes (record { state = t; past = take (length t.frames) s.frames; halt = None }) d.printed) (sym h.0)
        ∙ ap (λ (fs : List Frame). Goes (record { state = new; past = fs; halt = None }) d.printed) (sym p),
    h.1,
  )
  went (Err f) u h p = absurd h

  pub failed : (r : Result Done Fault) (f : Fault) → Does r (Err (stop.Fault f)) new before after → led_to s.frames r ≡ Faults f
  failed (Ok d) f h = absurd h
  failed (Err g) f h = ap Faults (sym h)

-- after a move of the present list
pub past_by : (m : Move) (old new : Running) (before after : List ℕ) (u : Unit {0}) (a b : ℕ) → Does (after_move MOST_DSTEP_STATEMENTS old.state m) (Ok u) new.state before after → PastBy m old new → old.past ≡ old.state.frames →
    length old.state.frames ≡ a + 1 → length new.state.frames ≡ b + 1 → take (min a b + 1) new.past ≡ take (length new.state.frames) old.state.frames
past_by (Death p) old new before after u a b d h w m n =
    let less : new.state.frames ≡ take (length old.state.stands) old.state.frames = ap (λ (s : State). s.frames) d.0 in
    past_less old.state.frames new.state.frames new.past (length old.state.stands) a b less m n (h ∙ ap (take (length old.state.stands)) w ∙ sym less)
past_by (Alone k t) old new before after u a b d h w m n =
    past_grown old.state.frames new.state.frames new.past h.0 a b m n (h.1 ∙ ap (λ (fs : List Frame). fs ++ h.0) w)
past_by (Pair k j t) old new before after u a b d h w m n =
    past_grown old.state.frames new.state.frames new.past h.0 a b m n (h.1 ∙ ap (λ (fs : List Frame). fs ++ h.0) w)
