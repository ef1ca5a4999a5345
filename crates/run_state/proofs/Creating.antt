-- A process is created, or nothing is.
use Rattle.std.proofs.Common.{Bool, ◌≡◌, ℕ, ◌+◌, ◌-◌, take, arith, ◌<◌, ◌≤◌, false, List, [], ◌∷◌, ◌++◌, ℤ, map, length, refl, sym, ap, ◌∙◌, subst, Option, Some, Result, Ok, Err, OnOk}
use Rattle.std.specs.Prelude.{slice_get, option_map}
use Rattle.std.specs.Result.{is_err}
use Rattle.std.proofs.lemmas.List.{length-map, map_push, length_push}
use Rattle.std.proofs.Math.Seq.{take-append_seam}
use Rattle.diagnostics.specs.declared.fault.Fault.{Fault}
use Rattle.diagnostics.specs.declared.stop.Stop.{Stop}
use Rattle.diagnostics.specs.declared.stop.Stop.TheVariants as stop
use Rattle.pml_program.specs.declared.program.Fields.{Fields}
use Rattle.pml_program.specs.declared.program.Slot.{Slot}
use Rattle.pml_program.specs.declared.program.Proctype.{Proctype}
use Rattle.pml_program.specs.declared.program.Program.{Program}
use Rattle.promela_process.specs.Store.{Frame}
use Rattle.pml_store.specs.Writing.{Contents, joined as cells}
use Rattle.promela_run.specs.declared.live_channel.LiveChannel.{LiveChannel}
use Rattle.promela_run.specs.State.{size, variables_at, Stand, State, body_of, first_control, begins_at, youngest_joined}
use Rattle.run_start.specs.Shown.{Begins, held, no_program, idle, shape}
use Rattle.promela_run.specs.Statements.{created}
use Rattle.run_start.specs.Bound.{cells_of, AreBounded}
use Rattle.run_start.specs.Starting.{IsDeclared}
use Rattle.run_start.proofs.Bounding.{room_for, created_bounded}
use Rattle.run_start.proofs.Declaring.{declared_next}
use Rattle.run_state.specs.declared.seat.Seat.{Seat}
use Rattle.run_state.specs.Standing.{stand_of}
use Rattle.run_state.proofs.Finding.{within}
use Rattle.promela_run.specs.Steps.{with_new}
use Rattle.run_start.proofs.Shapes.{idle_sorts}
use Rattle.run_start.proofs.Touching.{over, carried, created_alike}
use Rattle.run_state.specs.Standing.{begins_by}
use Rattle.run_state.specs.Live.{Leads}
use Rattle.run_state.specs.Held.{IsHeld, sorts_of, live_of}
use Rattle.run_layout.specs.Tables.{slots_of}

-- what is held, where of the processes nothing is known but how many there are
abbrev bare : Contents → List LiveChannel → List ℕ → State
bare store cs ks = held no_program store cs (map idle ks)

-- one process more
pub held_more : (p : Program) (old new : Contents) (cs ds : List LiveChannel) (ks ls : List ℕ) (xs ys : List Seat) (x : Seat) (q : Proctype) →
    IsHeld p old cs ks xs → length ks < 255 → slice_get p.proctypes x.sort ≡ Some q → shape new.frames ≡ shape old.frames ++ map size q.variables ∷ [] → ls ≡ ks ++ x.sort ∷ [] →
    ys ≡ xs ++ x ∷ [] → new.most ≡ old.most → AreBounded p ds → IsHeld p new ds ls ys
held_more p old new cs ds ks ls xs ys x q h few e s k y m b =
    let variables : variables_at p x.sort ≡ q.variables = ap slots_of e in
    let more : shape new.frames ≡ shape old.frames ++ map size (variables_at p x.sort) ∷ [] = s ∙ sym (ap (λ (l : List _). shape old.frames ++ map size l ∷ []) variables) in
    record {
      declared = declared_next p old.frames new.frames ks ls x.sort h.declared few (within p.proctypes x.sort q e) more k;
      seated = k ∙ ap (λ (l : List ℕ). l ++ x.sort ∷ []) h.seated ∙ sym (ap sorts_of y ∙ map_push (λ (x : Seat). x.sort) xs x);
      bounded = record { counted = h.bounded.counted; most = m ∙ h.bounded.most; live = b };
    }

-- there is room for its variables
pub room_more : (p : Program) (store : Contents) (cs : List LiveChannel) (ks : List ℕ) (xs : List Seat) (sort : ℕ) (q : Proctype) →
    IsHeld p store cs ks xs → length ks < 255 → slice_get p.proctypes sort ≡ Some q → length (cells store.frames) + cells_of q.variables ≤ store.most
room_more p store cs ks xs sort q h few e =
    subst (λ (l : List Slot). length (cells store.frames) + cells_of l ≤ store.most) (ap slots_of e) (room_for p store.frames ks sort store.most h.declared few h.bounded.most)

-- and no channel of it has more room than the model says
pub bounded_more : (p : Program) (store new : Contents) (cs ds : List LiveChannel) (ks ls : List ℕ) (xs : List Seat) (sort : ℕ) (q : Proctype) (ts : List Fields) (vs : List ℤ) (r : Result (Unit {0}) Stop) →
    IsHeld p store cs ks xs → ts ≡ p.typedefs → slice_get p.proctypes sort ≡ Some q → Begins (created ts (idle sort) q.variables vs (bare store cs ks)) r (bare new ds ls) → is_err r ≡ false → AreBounded p ds
bounded_more p store new cs ds ks ls xs sort q ts vs r h t e b ok =
    let one : Begins (created p.typedefs (idle sort) q.variables vs (bare store cs ks)) r (bare new ds ls) =
    subst (λ (l : List Fields). Begins (created l (idle sort) q.variables vs (bare store cs ks)) r (bare new ds ls)) t b in
    by r ok (created_bounded p sort (idle sort) q vs (bare store cs ks) (bare new ds ls) r e h.bounded.live one)
  where
    by : (r : Result (Unit {0}) Stop) → is_err r ≡ false → OnOk r (AreBounded p ds) → AreBounded p ds
    by (Ok u) ok f = f
    by (Err s) ok f = absurd cc

-- what was pushed is popped
pub popped : (xs ys zs : List Seat) (x : Seat) (n : ℕ) → zs ≡ xs ++ x ∷ [] → n ≡ length zs → ys ≡ take (n - 1) zs → ys ≡ xs
popped xs ys zs x n z l y =
    let m : n - 1 ≡ length xs = omega (arith, l, ap length z, length_push xs x) in
    y ∙ ap (λ (i : ℕ). take i zs) m ∙ ap (take (length xs)) z ∙ take-append_seam xs (x ∷ [])

-- where it was not created, no more is kept than before
pub held_yet : (p : Program) (old new : Contents) (cs ds : List LiveChannel) (ks ls : List ℕ) (xs ys : List Seat) →
    IsHeld p old cs ks xs → bare new ds ls ≡ bare old cs ks → ys ≡ xs → new.most ≡ old.most → IsHeld p new ds ls ys
held_yet p old new cs ds ks ls xs ys h e y m =
    let same : ls ≡ ks = sym (idle_sorts ls) ∙ ap (λ (s : State). map (λ (z : Stand). z.sort) s.stands) e ∙ idle_sorts ks in
    let frames : new.frames ≡ old.frames = ap (λ (s : State). s.frames) e in
    record {
      declared = subst (λ (fs : List Frame). IsDeclared p fs ls) (sym frames) (subst (IsDeclared p old.frames) (sym same) h.declared);
      seated = same ∙ h.seated ∙ sym (ap sorts_of y);
      bounded = record { counted = h.bounded.counted; most = m ∙ h.bounded.most; live = subst (AreBounded p) (sym (ap (λ (s : State). s.channels) e)) h.bounded.live };
    }

pub sorts_are : (p : Program) (xs : List Seat) → map (λ (y : Stand). y.sort) (map (stand_of p) xs) ≡ sorts_of xs
sorts_are p [] = refl
sorts_are p (x ∷ xs) = ap (λ (l : List ℕ). x.sort ∷ l) (sorts_are p xs)

module _ (p : Program) (store new : Contents) (cs ds : List LiveChannel) (ks ls : List ℕ) (xs ys : List Seat) (holder : Option ℕ) (lossy : Bool) (x : Seat) (q : Proctype) where
  abbrev was : State
  was = (live_of p store cs xs holder lossy).state

  abbrev is_now : State
  is_now = (live_of p new ds ys holder lossy).state

  abbrev first_stand : Stand
  first_stand = record { sort = x.sort; control = first_control q.body }

  seen : stand_of p x ≡ first_stand → ys ≡ xs ++ x ∷ [] → is_now ≡ over (youngest_joined first_stand was) new.frames ds
  seen s y =
      ap (λ (zs : List Seat). (live_of p new ds zs holder lossy).state) y
      ∙ ap (λ (zs : List Stand). record was { frames = new.frames; channels = ds; stands = zs }) (map_push (stand_of p) xs x ∙ ap (λ (z : Stand). was.stands ++ z ∷ []) s)

  by_begun : (b : Result State Fault) (r : Result (Unit {0}) Stop) → Begins b r (over (youngest_joined first_stand was) new.frames ds) → stand_of p x ≡ first_stand → OnOk r (ys ≡ xs ++ x ∷ []) → Leads b r is_now
  by_begun (Ok b) (Ok u) h s y = seen s y ∙ h
  by_begun (Ok b) (Err stop.Memory) h s y = tt
  by_begun (Ok b) (Err (stop.Fault f)) h s y = absurd h
  by_begun (Err f) (Err (stop.Fault g)) h s y = h
  by_begun (Err f) (Err stop.Memory) h s y = tt
  by_begun (Err f) (Ok u) h s y = absurd h

  -- what lives afterwards is what the definition says
  pub created_leads : (ts : List Fields) (vs : List ℤ) (r : Result (Unit {0}) Stop) → ts ≡ p.typedefs → ks ≡ sorts_of xs → slice_get p.proctypes x.sort ≡ Some q →
      stand_of p x ≡ begins_at p x.sort → Begins (created ts (idle x.sort) q.variables vs (bare store cs ks)) r (bare new ds ls) → OnOk r (ys ≡ xs ++ x ∷ []) →
      Leads (with_new was x.sort (slice_get was.program.proctypes x.sort) vs) r is_now
  created_leads ts vs r t k e s h y =
      let body : body_of p x.sort ≡ Some q.body = ap (option_map (λ (q : Proctype). q.body)) e in
      let many : length was.stands ≡ length (map idle ks) =
      length-map xs (stand_of p) ∙ sym (length-map xs (λ (x : Seat). x.sort)) ∙ sym (ap length k) ∙ sym (length-map ks idle) in
      let alike = created_alike ts first_stand (idle x.sort) q.variables vs was (bare store cs ks) store.frames cs many in
      let one : Begins (created ts first_stand q.variables vs was) r (over (youngest_joined first_stand was) new.frames ds) =
      carried (youngest_joined first_stand was) (youngest_joined (idle x.sort) (bare store cs ks)) (created ts first_stand q.variables vs was) (created ts (idle x.sort) q.variables vs (bare store cs ks)) r (bare new ds ls) alike h in
      let two : Begins (created p.typedefs first_stand q.variables vs was) r (over (youngest_joined first_stand was) new.frames ds) =
      subst (λ (l : List Fields). Begins (created l first_stand q.variables vs was) r (over (youngest_joined first_stand was) new.frames ds)) t one in
      subst (λ (o : Option Proctype). Leads (with_new was x.sort o vs) r is_now) (sym e)
      (by_begun (created p.typedefs first_stand q.variables vs was) r two (s ∙ ap (begins_by x.sort) body) y)

  -- the same by the number of the proctype that was asked for
  pub created_at : (sort : ℕ) → x.sort ≡ sort → (ts : List Fields) (vs : List ℤ) (r : Result (Unit {0}) Stop) → ts ≡ p.typedefs → ks ≡ sorts_of xs → slice_get p.proctypes sort ≡ Some q →
      stand_of p x ≡ begins_at p sort → Begins (created ts (idle sort) q.variables vs (bare store cs ks)) r (bare new ds ls) → OnOk r (ys ≡ xs ++ x ∷ []) →
      Leads (with_new was sort (slice_get was.program.proctypes sort) vs) r is_now
  created_at sort e ts vs r t k f s h y =
      subst (λ (n : ℕ). Leads (with_new was n (slice_get was.program.proctypes n) vs) r is_now) e
      (created_leads ts vs r t k (ap (slice_get p.proctypes) e ∙ f) (s ∙ ap (begins_at p) (sym e))
      (subst (λ (n : ℕ). Begins (created ts (idle n) q.variables vs (bare store cs ks)) r (bare new ds ls)) (sym e) h) y)
