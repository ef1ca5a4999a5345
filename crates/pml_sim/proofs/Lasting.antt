-- What a step leads to weighs no more than the bodies of the model.
use Rattle.std.proofs.Common.{◌≡◌, ℕ, zero, suc, ◌-◌, ◌<◌, ◌≤◌, Bool, true, false, List, [], ◌∷◌, ◌++◌, length, map, take, ℤ, Option, Some, None, Result, Ok, IfOk, refl, ap, arith, length-append, nat_lt, sym, subst}
use Rattle.std.specs.Prelude.{slice_get, slice_set, unwrap_or, option_map, IfSome, if◌then◌else◌}
use Rattle.std.specs.List.{filter, AllByRecursion}
use Rattle.std.proofs.lemmas.Bool.{ltb-true}
use Rattle.std.proofs.lemmas.List.{length-take}
use Rattle.diagnostics.specs.declared.fault.Fault.{Fault}
use Rattle.profile.specs.declared.TheConstants.{MOST_PROCESSES}
use Rattle.pml_program.specs.declared.program.Stmt.{Stmt}
use Rattle.pml_program.specs.declared.program.Seq.{Seq}
use Rattle.pml_program.specs.declared.program.Basic.{Basic, Plain, Goto, Break, If', Do', Block, Atomic, DStep, Unless}
use Rattle.pml_program.specs.declared.program.Action.{Action}
use Rattle.pml_program.specs.declared.program.Action.TheVariants as a
use Rattle.pml_program.specs.declared.program.Proctype.{Proctype}
use Rattle.pml_program.specs.declared.program.Program.{Program}
use Rattle.pml_program.specs.declared.program.Run.{Run}
use Rattle.promela_process.specs.Control.{Position, Control, at, steps, descent, sequence_at, basic_at}
use Rattle.promela_process.specs.Offers.{Edge, Levels, offers, Offer, offer_of, entry_of, offer_line}
use Rattle.promela_process.specs.Expressions.{Reading, val, ◌>>=◌}
use Rattle.promela_run.specs.declared.goes.Goes.{Goes}
use Rattle.promela_run.specs.declared.live_channel.LiveChannel.{LiveChannel}
use Rattle.promela_run.specs.Statements.{outcome, created, goes_to, sent, received, values, asserted}
use Rattle.promela_run.specs.State.{Stand, State, reads, body_of, levels, levels_in, first_control, youngest_joined, picked}
use Rattle.run_start.proofs.Chaining.{chain, chain_any, weaker}
use Rattle.run_start.proofs.Touching.{Touched, created_touches}
use Rattle.promela_run.specs.declared.moves.Pick.{Pick}
use Rattle.promela_run.specs.declared.moves.Move.{Move}
use Rattle.promela_run.specs.declared.moves.Move.TheVariants.{Death, Alone, Pair}
use Rattle.promela_run.specs.Moves.{or_else, choices, is_choice, message}
use Rattle.promela_run.specs.Steps.{put, put_by, put_all, with_sent, with_received, go_to, went, without_youngest, with_new, ran, run_number, Done, quiet, run_into, does, effect, behind_printed, first_of, onward, within, within_from, taken, body_by, alone, both_on, paired, passed, after_move, moved_to}
use Rattle.run_search.specs.Lifted.{offer_on, offer_at, is_other, moved}
use Rattle.run_state.specs.Calls.{put_if}
use Rattle.pml_sim.proofs.Weight.{weight_part, AreLight, IsLight, light_steps, light_sequence, light_at}
use Rattle.pml_sim.proofs.Settling.{GoOn, AreFew, few_offers, light_settled}
use Rattle.pml_sim.proofs.Crowding.{IsLightProctype, IsLightStand, IsLightState}

module _ (most : ℕ) where
  -- ---- offers

  abbrev pub IsLightOption : Option Control → Type 0
  IsLightOption None = Unit {0}
  IsLightOption (Some c) = IsLight most c

  -- what follows an offer and what is inside it weigh at most so much, and so does its line
  pub record IsLightOffer (o : Offer) : Type 0 where
    pub next : IsLight most o.next
    pub entry : IsLightOption o.entry
    pub line : o.line ≤ most

  line_light : (ss : List Stmt) (i : ℕ) → AreLight most ss → unwrap_or (option_map offer_line (slice_get ss i)) 0 ≤ most
  line_light [] i h = omega arith
  line_light (s ∷ ss) zero h = omega (arith, h.0)
  line_light (s ∷ ss) (suc i) h = line_light ss i h.1

  module _ (b : Seq) (light : weight_part b ≤ most) where
    abbrev all : AreLight most (steps b)
    all = light_steps most b light

    pub first_light : IsLight most (first_control b)
    first_light = light_settled most b all (at (steps b) ([], 0)) (light_at most (steps b) ([], 0) all)

    entry_light : (p : Position) (o : Option Basic) → IsLightOption (entry_of b p o)
    entry_light p None = tt
    entry_light p (Some (Plain x)) = tt
    entry_light p (Some (Goto l)) = tt
    entry_light p (Some Break) = tt
    entry_light p (Some (If' m row)) = tt
    entry_light p (Some (Do' m row)) = tt
    entry_light p (Some (Block s)) = tt
    entry_light p (Some (Atomic s)) = tt
    entry_light p (Some (DStep s)) = light_settled most b all (at (steps b) (descent p 0, 0)) (light_at most (steps b) (descent p 0, 0) all)
    entry_light p (Some (Unless s e)) = tt

    offer_light : (e : Edge) → IsLight most e.1 → IsLightOffer (offer_of b e)
    offer_light e l = record {
      next = l;
      entry = entry_light e.0 (basic_at (sequence_at (steps b) e.0.0) e.0.1);
      line = line_light (sequence_at (steps b) e.0.0) e.0.1 (light_sequence most (steps b) e.0.0 all);
    }

    level_light : (es : List Edge) → GoOn most b all es → AllByRecursion IsLightOffer (map (offer_of b) es)
    level_light [] h = tt
    level_light (e ∷ es) h = (offer_light e h.0, level_light es h.1)

    levels_light : (xs : Levels) → AreFew most b all most xs → AllByRecursion (AllByRecursion IsLightOffer) (map (map (offer_of b)) xs)
    levels_light [] h = tt
    levels_light (x ∷ xs) h = (level_light x h.0.1, levels_light xs h.1)

    pub offers_light : (c : Control) → IsLight most c → AllByRecursion (AllByRecursion IsLightOffer) (levels b c)
    offers_light c l = levels_light (offers b c) (few_offers most b all c l)

  -- ---- lists

  pub get_light : {A : Type 0} (P : A → Type 0) (xs : List A) (i : ℕ) → AllByRecursion P xs → IfSome (slice_get xs i) P
  get_light P [] i h = tt
  get_light P (x ∷ xs) zero h = h.0
  get_light P (x ∷ xs) (suc i) h = get_light P xs i h.1

  append_light : {A : Type 0} (P : A → Type 0) (xs ys : List A) → AllByRecursion P xs → AllByRecursion P ys → AllByRecursion P (xs ++ ys)
  append_light P [] ys h k = k
  append_light P (x ∷ xs) ys h k = (h.0, append_light P xs ys h.1 k)

  take_light : {A : Type 0} (P : A → Type 0) (n : ℕ) (xs : List A) → AllByRecursion P xs → AllByRecursion P (take n xs)
  take_light P zero xs h = tt
  take_light P (suc n) [] h = tt
  take_light P (suc n) (x ∷ xs) h = (h.0, take_light P n xs h.1)

  set_light : {A : Type 0} (P : A → Type 0) (xs : List A) (i : ℕ) (x : A) → AllByRecursion P xs → P x → AllByRecursion P (slice_set xs i x)
  set_light P [] i x h k = tt
  set_light P (y ∷ ys) zero x h k = (k, h.1)
  set_light P (y ∷ ys) (suc i) x h k = (h.0, set_light P ys i x h.1 k)

  set_length : {A : Type 0} (xs : List A) (i : ℕ) (x : A) → length (slice_set xs i x) ≡ length xs
  set_length [] i x = refl
  set_length (y ∷ ys) zero x = refl
  set_length (y ∷ ys) (suc i) x = ap suc (set_length ys i x)

  filter_light : {A : Type 0} (P : A → Type 0) (p : A → Bool) (xs : List A) → AllByRecursion P xs → AllByRecursion P (filter p xs)
  filter_light P p [] h = tt
  filter_light P p (x ∷ xs) h = by (p x) (filter_light P p xs h.1)
    where
      by : (t : Bool) → AllByRecursion P (filter p xs) → AllByRecursion P (if t then x ∷ filter p xs else filter p xs)
      by true k = (h.0, k)
      by false k = k

  or_light : {A : Type 0} (P : A → Type 0) (xs ys : List A) → AllByRecursion P xs → AllByRecursion P ys → AllByRecursion P (or_else xs ys)
  or_light P [] ys h k = k
  or_light P (x ∷ xs) ys h k = h

  -- ---- states

  abbrev Light : State → Type 0
  Light s = IsLightState most s

  abbrev LightDone : Done → Type 0
  LightDone d = Light d.state

  abbrev IsLightBody : Seq → Type 0
  IsLightBody b = weight_part b ≤ most

  proctype_light : (s : State) → Light s → (k : ℕ) → IfSome (slice_get s.program.proctypes k) (IsLightProctype most)
  proctype_light s h k = get_light (IsLightProctype most) s.program.proctypes k h.bodies

  of_proctype : (o : Option Proctype) → IfSome o (IsLightProctype most) → IfSome (option_map (λ (q : Proctype). q.body) o) IsLightBody
  of_proctype None h = tt
  of_proctype (Some q) h = omega (arith, h)

  pub body_weighs : (p : Program) (k : ℕ) → AllByRecursion (IsLightProctype most) p.proctypes → IfSome (body_of p k) IsLightBody
  body_weighs p k h = of_proctype (slice_get p.proctypes k) (get_light (IsLightProctype most) p.proctypes k h)

  sort_light : (s : State) → Light s → (k : ℕ) → IfSome (body_of s.program k) IsLightBody
  sort_light s h k = body_weighs s.program k h.bodies

  stand_body : (s : State) → Light s → (o : Option Stand) → IfSome (body_by s o) IsLightBody
  stand_body s h None = tt
  stand_body s h (Some y) = sort_light s h y.sort

  -- ---- the offer of a pick

  inside_light : (o : Option Seq) (c : Control) → IfSome o IsLightBody → IsLight most c → AllByRecursion (AllByRecursion IsLightOffer) (levels_in o c)
  inside_light None c h l = tt
  inside_light (Some b) c h l = offers_light b h c l

  on_light : (o : Option (List Offer)) (i : ℕ) → IfSome o (AllByRecursion IsLightOffer) → IfSome (offer_on o i) IsLightOffer
  on_light None i h = tt
  on_light (Some os) i h = get_light IsLightOffer os i h

  stood_light : (s : State) (k : Pick) → Light s → (o : Option Stand) → IfSome o (IsLightStand most) → IfSome (offer_at s k o) IsLightOffer
  stood_light s k h None l = tt
  stood_light s k h (Some y) l =
      on_light (slice_get (levels_in (body_of s.program y.sort) y.control) k.level) k.place
      (get_light (AllByRecursion IsLightOffer) (levels_in (body_of s.program y.sort) y.control) k.level (inside_light (body_of s.program y.sort) y.control (sort_light s h y.sort) l))

  pub picked_light : (s : State) (k : Pick) → Light s → IfSome (picked s k) IsLightOffer
  picked_light s k h = stood_light s k h (slice_get s.stands k.process) (get_light (IsLightStand most) s.stands k.process h.stands)

  -- ---- changes

  put_light : (s : State) (o : Option Goes) → Light s → Light (put_if s o)
  put_light s None h = h
  put_light s (Some g) h = record { few = h.few; bodies = h.bodies; stands = h.stands }

  all_light : (gs : List Goes) (s : State) → Light s → Light (put_all s gs)
  all_light [] s h = h
  all_light (g ∷ gs) s h = all_light gs (put s g) (record { few = h.few; bodies = h.bodies; stands = h.stands })

  by_light : (s : State) (r : Result (Option Goes) Fault) → Light s → IfOk (put_by s r) Light
  by_light s r h = chain_any Light r (λ g. Ok (put_if s g)) (λ g. put_light s g h)

  moved_length : (c : Control) (o : Option Stand) (p : ℕ) (ys : List Stand) → length (moved_to c o p ys) ≡ length ys
  moved_length c None p ys = refl
  moved_length c (Some y) p ys = set_length ys p (record y { control = c })

  moved_light : (c : Control) (o : Option Stand) (p : ℕ) (ys : List Stand) → IsLight most c → AllByRecursion (IsLightStand most) ys → AllByRecursion (IsLightStand most) (moved_to c o p ys)
  moved_light c None p ys l h = h
  moved_light c (Some y) p ys l h = set_light (IsLightStand most) ys p (record y { control = c }) h l

  go_light : (s : State) (p : ℕ) (c : Control) → IsLight most c → Light s → Light (go_to s p c)
  go_light s p c l h = record {
    few = let e = moved_length c (slice_get s.stands p) p s.stands in let f = h.few in omega (arith, e, f);
    bodies = h.bodies;
    stands = moved_light c (slice_get s.stands p) p s.stands l h.stands;
  }

  went_light : (s : State) (p : ℕ) (o : Offer) → IsLightOffer o → Light s → Light (went s p o)
  went_light s p o l h = let g = go_light s p o.next l.next h in record { few = g.few; bodies = g.bodies; stands = g.stands }

  dies_light : (s : State) → Light s → Light (without_youngest s)
  dies_light s h = record {
    few = let e = length-take (length s.stands - 1) s.stands in let f = h.few in omega (arith, e, f);
    bodies = h.bodies;
    stands = take_light (IsLightStand most) (length s.stands - 1) s.stands h.stands;
  }

  -- a process more, that stands before its first statement, and what is there then
  joined_light : (s n : State) (sort : ℕ) (q : Proctype) → IsLightProctype most q → length s.stands < 255 → Light s → Touched (youngest_joined (record { sort = sort; control = first_control q.body }) s) n → Light n
  joined_light s n sort q w room h touched = subst Light (sym touched) (record {
    few = let e = length-append s.stands (record { sort = sort; control = first_control q.body } ∷ []) in omega (arith, e, room);
    bodies = h.bodies;
    stands = append_light (IsLightStand most) s.stands (record { sort = sort; control = first_control q.body } ∷ []) h.stands (first_light q.body (omega (arith, w)), tt);
  })

  new_light : (s : State) (sort : ℕ) (o : Option Proctype) (vs : List ℤ) → IfSome o (IsLightProctype most) → length s.stands < 255 → Light s → IfOk (with_new s sort o vs) Light
  new_light s sort None vs w room h = h
  new_light s sort (Some q) vs w room h =
      let y : Stand = record { sort = sort; control = first_control q.body } in
      weaker (Touched (youngest_joined y s)) Light (created s.program.typedefs y q.variables vs s) (λ n touched. joined_light s n sort q w room h touched)
      (created_touches s.program.typedefs y q.variables vs s)

  ran_light : (s : State) (r : Reading) (q : Run) → Light s → IfOk (ran s r q) Light
  ran_light s r q h = by (nat_lt (length s.stands) MOST_PROCESSES) refl
    where
      by : (t : Bool) → nat_lt (length s.stands) MOST_PROCESSES ≡ t → IfOk (if t then (values q.arguments r >>= with_new s q.proctype (slice_get s.program.proctypes q.proctype)) else Ok s) Light
      by true e = chain_any Light (values q.arguments r) (with_new s q.proctype (slice_get s.program.proctypes q.proctype))
          (λ vs. new_light s q.proctype (slice_get s.program.proctypes q.proctype) vs (proctype_light s h q.proctype) (ltb-true (length s.stands) MOST_PROCESSES e) h)
      by false e = h

  -- ---- a statement by itself

  then_quiet : (x : Result State Fault) → IfOk x Light → IfOk (x >>= quiet) LightDone
  then_quiet x h = chain Light LightDone x quiet h (λ s l. l)

  does_light : (s : State) (p : ℕ) (t : Bool) (x : Action) → Light s → IfOk (does s p t x) LightDone
  does_light s p t (a.Run q) h = then_quiet (ran s (reads s p t) q) (ran_light s (reads s p t) q h)
  does_light s p t (a.AssignRun x q) h =
      then_quiet (run_into s p t x q) (chain Light Light (ran s (reads s p t) q) (λ now. put_by now (goes_to x (run_number s) (reads now p t))) (ran_light s (reads s p t) q h) (λ now l. by_light now (goes_to x (run_number s) (reads now p t)) l))
  does_light s p t (a.Send q order es) h =
      then_quiet (with_sent s (sent s.channels (reads s p t) q order es)) (chain_any Light (sent s.channels (reads s p t) q order es) (λ cs. Ok (record s { channels = cs })) (λ cs. record { few = h.few; bodies = h.bodies; stands = h.stands }))
  does_light s p t (a.Receive q search how ws) h =
      then_quiet (with_received s (received s.channels (reads s p t) q search how ws)) (chain_any Light (received s.channels (reads s p t) q search how ws) (λ x. Ok (record (put_all s x.numbers) { channels = x.live }))
      (λ x. let l = all_light x.numbers s h in record { few = l.few; bodies = l.bodies; stands = l.stands }))
  does_light s p t (a.Printf text es) h = chain_any LightDone (values es (reads s p t)) _ (λ vs. h)
  does_light s p t (a.Printm e) h = chain_any LightDone (val e (reads s p t)) _ (λ v. h)
  does_light s p t (a.Assert e) h = chain_any LightDone (asserted e (reads s p t)) (λ u. quiet s) (λ u. h)
  does_light s p t a.Else h = h
  does_light s p t (a.Assign x e) h = then_quiet (put_by s (outcome (a.Assign x e) (reads s p t))) (by_light s (outcome (a.Assign x e) (reads s p t)) h)
  does_light s p t (a.Increment x) h = then_quiet (put_by s (outcome (a.Increment x) (reads s p t))) (by_light s (outcome (a.Increment x) (reads s p t)) h)
  does_light s p t (a.Decrement x) h = then_quiet (put_by s (outcome (a.Decrement x) (reads s p t))) (by_light s (outcome (a.Decrement x) (reads s p t)) h)
  does_light s p t (a.Holds e) h = then_quiet (put_by s (outcome (a.Holds e) (reads s p t))) (by_light s (outcome (a.Holds e) (reads s p t)) h)

  effect_light : (s : State) (p : ℕ) (t : Bool) (x : Option Basic) → Light s → IfOk (effect s p t x) LightDone
  effect_light s p t None h = h
  effect_light s p t (Some (Plain x)) h = does_light s p t x h
  effect_light s p t (Some (Goto l)) h = h
  effect_light s p t (Some Break) h = h
  effect_light s p t (Some (If' m row)) h = h
  effect_light s p t (Some (Do' m row)) h = h
  effect_light s p t (Some (Block b)) h = h
  effect_light s p t (Some (Atomic b)) h = h
  effect_light s p t (Some (DStep b)) h = h
  effect_light s p t (Some (Unless b e)) h = h

  -- ---- inside a d_step

  choices_light : (lossy : Bool) (cs : List LiveChannel) (r : Reading) (ls : List (List Offer)) → AllByRecursion (AllByRecursion IsLightOffer) ls → AllByRecursion IsLightOffer (choices lossy cs r ls)
  choices_light lossy cs r [] h = tt
  choices_light lossy cs r (os ∷ ls) h =
      or_light IsLightOffer (filter (is_choice lossy cs r) os) (filter is_other os) (filter_light IsLightOffer (is_choice lossy cs r) os h.0) (filter_light IsLightOffer is_other os h.0)

  first_goes : (os : List Offer) (rest : Offer → Result Done Fault) → AllByRecursion IsLightOffer os → ((o : Offer) → IsLightOffer o → IfOk (rest o) LightDone) → IfOk (first_of os rest) LightDone
  first_goes [] rest h k = tt
  first_goes (o ∷ os) rest h k = k o h.0

  onward_light : (stays : Bool) (d : Done) (rest : Done → Result Done Fault) → LightDone d → ((e : Done) → LightDone e → IfOk (rest e) LightDone) → IfOk (onward stays d rest) LightDone
  onward_light true d rest h k = k d h
  onward_light false d rest h k = h

  within_light : (n : ℕ) (s : State) (p : ℕ) (t : Bool) (b : Seq) (c : Control) → IsLightBody b → Light s → IsLight most c → IfOk (within n s p t b c) LightDone
  within_light zero s p t b c w h l = tt
  within_light (suc n) s p t b c w h l =
      first_goes (choices s.lossy s.channels (reads s p t) (levels b c)) (λ o. effect s p t o.basic >>= λ d. onward o.stays d (λ e. within n e.state p false b o.next >>= behind_printed e.printed))
      (choices_light s.lossy s.channels (reads s p t) (levels b c) (offers_light b w c l))
      (λ o lo. chain LightDone LightDone (effect s p t o.basic) (λ d. onward o.stays d (λ e. within n e.state p false b o.next >>= behind_printed e.printed)) (effect_light s p t o.basic h)
      (λ d hd. onward_light o.stays d (λ e. within n e.state p false b o.next >>= behind_printed e.printed) hd
      (λ e he. chain LightDone LightDone (within n e.state p false b o.next) (behind_printed e.printed) (within_light n e.state p false b o.next w he lo.next) (λ x hx. hx))))

  from_light : (n : ℕ) (s : State) (p : ℕ) (t : Bool) (b : Option Seq) (c : Option Control) → IfSome b IsLightBody → Light s → IsLightOption c → IfOk (within_from n s p t b c) LightDone
  from_light n s p t (Some b) (Some c) w h l = within_light n s p t b c w h l
  from_light n s p t (Some b) None w h l = h
  from_light n s p t None (Some c) w h l = h
  from_light n s p t None None w h l = h

  -- ---- steps

  taken_light : (n : ℕ) (s : State) (k : Pick) (t : Bool) (o : Offer) (x : Option Basic) → IfSome (body_by s (slice_get s.stands k.process)) IsLightBody → Light s → IsLightOffer o → IfOk (taken n s k t o x) LightDone
  taken_light n s k t o (Some (DStep d)) w h l = from_light n s k.process t (body_by s (slice_get s.stands k.process)) o.entry w h l.entry
  taken_light n s k t o None w h l = effect_light s k.process t None h
  taken_light n s k t o (Some (Plain x)) w h l = effect_light s k.process t (Some (Plain x)) h
  taken_light n s k t o (Some (Goto x)) w h l = h
  taken_light n s k t o (Some Break) w h l = h
  taken_light n s k t o (Some (If' m row)) w h l = h
  taken_light n s k t o (Some (Do' m row)) w h l = h
  taken_light n s k t o (Some (Block x)) w h l = h
  taken_light n s k t o (Some (Atomic x)) w h l = h
  taken_light n s k t o (Some (Unless x e)) w h l = h

  alone_light : (n : ℕ) (s : State) (k : Pick) (t : Bool) (o : Option Offer) → Light s → IfSome o IsLightOffer → IfOk (alone n s k t o) LightDone
  alone_light n s k t None h l = h
  alone_light n s k t (Some o) h l =
      chain LightDone LightDone (taken n s k t o o.basic) (moved k.process o)
      (taken_light n s k t o o.basic (stand_body s h (slice_get s.stands k.process)) h l) (λ d hd. went_light d.state k.process o l hd)

  paired_light : (s : State) (k j : Pick) (t : Bool) (o w : Option Offer) → Light s → IfSome o IsLightOffer → IfSome w IsLightOffer → IfOk (paired s k j t o w) LightDone
  paired_light s k j t (Some o) (Some w) h lo lw =
      chain_any LightDone (passed (reads s j.process t) (message s.channels (reads s k.process t) o.basic) w.basic) (both_on s k.process j.process o w)
      (λ gs. went_light (go_to (put_all s gs) k.process o.next) j.process w lw (go_light (put_all s gs) k.process o.next lo.next (all_light gs s h)))
  paired_light s k j t (Some o) None h lo lw = h
  paired_light s k j t None (Some w) h lo lw = h
  paired_light s k j t None None h lo lw = h

  -- a state that a step leads to is light too
  pub step_light : (n : ℕ) (s : State) (m : Move) → Light s → IfOk (after_move n s m) LightDone
  step_light n s (Death p) h = dies_light s h
  step_light n s (Alone k t) h = alone_light n s k t (picked s k) h (picked_light s k h)
  step_light n s (Pair k j t) h = paired_light s k j t (picked s k) (picked s j) h (picked_light s k h) (picked_light s j h)
