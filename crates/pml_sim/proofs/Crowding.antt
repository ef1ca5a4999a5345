-- How many moves a state has at most, whose processes have no more to do than so much weighs.
use Rattle.std.proofs.Common.{◌≡◌, ℕ, zero, suc, ◌+◌, ◌*◌, ◌≤◌, Bool, true, false, List, [], ◌∷◌, length, map, nat_eq, refl, sym, arith, Option, Some, None, length-append}
use Rattle.std.specs.Prelude.{slice_get, option_map, if◌then◌else◌}
use Rattle.std.specs.List.{AllByRecursion}
use Rattle.std.proofs.Math.Nat.{mul-le-mul_right}
use Rattle.std.proofs.lemmas.List.{length-map}
use Rattle.profile.specs.declared.TheConstants.{MOST_PROCESSES}
use Rattle.pml_program.specs.declared.program.Seq.{Seq}
use Rattle.pml_program.specs.declared.program.Proctype.{Proctype}
use Rattle.promela_process.specs.Control.{Control}
use Rattle.promela_process.specs.Offers.{Levels, offers, Offer, offer_of}
use Rattle.promela_run.specs.declared.moves.Pick.{Pick}
use Rattle.promela_run.specs.declared.moves.Move.{Move}
use Rattle.promela_run.specs.declared.moves.Move.TheVariants.{Death, Alone, Pair}
use Rattle.promela_run.specs.State.{Stand, State, body_of, levels, levels_in, reads}
use Rattle.promela_run.specs.Moves.{or_else, each, last, only_if, is_else, can_alone, accepts, Message, message, pick, pairs_on, pairs_with, pairs, moves_by, plain_moves, else_moves, moves_on, moves_of, moves_at, moves_under, moves_held, moves}
use Rattle.run_search.specs.Lifted.{moves_if}
use Rattle.pml_sim.proofs.Weight.{weight_part, IsLight, light_steps}
use Rattle.pml_sim.proofs.Settling.{AreFew, few_offers}

-- a proctype's body, with the line of its closing brace, weighs at most so much
abbrev pub IsLightProctype : ℕ → Proctype → Type 0
IsLightProctype most q = weight_part q.body + q.end.line ≤ most

-- and so does what a process has to do
abbrev pub IsLightStand : ℕ → Stand → Type 0
IsLightStand most y = IsLight most y.control

-- A state with at most 255 processes, whose bodies and what is left of them weigh at most so much.
pub record IsLightState (most : ℕ) (s : State) : Type 0 where
  pub few : length s.stands ≤ MOST_PROCESSES
  pub bodies : AllByRecursion (IsLightProctype most) s.program.proctypes
  pub stands : AllByRecursion (IsLightStand most) s.stands

-- ---- lists

each_some : {A B : Type 0} (n : ℕ) (P : A → Type 0) (f : ℕ → A → List B) → ((i : ℕ) (x : A) → P x → length (f i x) ≤ n) → (i : ℕ) (xs : List A) → AllByRecursion P xs → length (each f i xs) ≤ length xs * n
each_some n P f h i [] all = omega arith
each_some n P f h i (x ∷ xs) all = let e = length-append (f i x) (each f (i + 1) xs) in omega (arith, e, h i x all.0, each_some n P f h (i + 1) xs all.1)

each_any : {A B : Type 0} (n : ℕ) (f : ℕ → A → List B) → ((i : ℕ) (x : A) → length (f i x) ≤ n) → (i : ℕ) (xs : List A) → length (each f i xs) ≤ length xs * n
each_any n f h i [] = omega arith
each_any n f h i (x ∷ xs) = let e = length-append (f i x) (each f (i + 1) xs) in omega (arith, e, h i x, each_any n f h (i + 1) xs)

or_few : {A : Type 0} (n : ℕ) (xs ys : List A) → length xs ≤ n → length ys ≤ n → length (or_else xs ys) ≤ n
or_few n [] ys h k = k
or_few n (x ∷ xs) ys h k = h

if_one : {A : Type 0} (b : Bool) (x : A) → length (only_if b x) ≤ 1
if_one true x = omega arith
if_one false x = omega arith

module _ (most : ℕ) where
  abbrev IsFew : List Offer → Type 0
  IsFew os = length os ≤ most

  last_few : (n : ℕ) (f : ℕ → List Offer → List Move) → ((l : ℕ) (os : List Offer) → IsFew os → length (f l os) ≤ n) → (l : ℕ) (ls : List (List Offer)) → AllByRecursion IsFew ls → length (last f l ls) ≤ n
  last_few n f h l [] all = omega arith
  last_few n f h l (os ∷ ls) all = or_few n (last f (l + 1) ls) (f l os) (last_few n f h (l + 1) ls all.1) (h l os all.0)

  -- ---- offers

  pub body_light : (ps : List Proctype) (k : ℕ) (b : Seq) → AllByRecursion (IsLightProctype most) ps → option_map (λ (q : Proctype). q.body) (slice_get ps k) ≡ Some b → weight_part b ≤ most
  body_light [] k b h e = absurd cc
  body_light (q ∷ qs) zero b h e = let same : q.body ≡ b = some_is q.body b e in rw (sym same) (omega (arith, h.0))
    where
      some_is : (x y : Seq) → Some x ≡ Some y → x ≡ y
      some_is x y f = cc
  body_light (q ∷ qs) (suc k) b h e = body_light qs k b h.1 e

  few_levels : (b : Seq) (light : weight_part b ≤ most) (xs : Levels) → AreFew most b (light_steps most b light) most xs → AllByRecursion IsFew (map (map (offer_of b)) xs)
  few_levels b light [] h = tt
  few_levels b light (x ∷ xs) h = (let e = length-map x (offer_of b) in omega (arith, e, h.0.0), few_levels b light xs h.1)

  levels_few : (b : Seq) (c : Control) → weight_part b ≤ most → IsLight most c → AllByRecursion IsFew (levels b c)
  levels_few b c light l = few_levels b light (offers b c) (few_offers most b (light_steps most b light) c l)

  -- ---- moves

  module _ (s : State) (light : IsLightState most s) where
    body_of_light : (k : ℕ) (b : Seq) → body_of s.program k ≡ Some b → weight_part b ≤ most
    body_of_light k b e = body_light s.program.proctypes k b light.bodies e

    levels_in_few : (o : Option Seq) (k : ℕ) (c : Control) → body_of s.program k ≡ o → IsLight most c → AllByRecursion IsFew (levels_in o c)
    levels_in_few None k c e l = tt
    levels_in_few (Some b) k c e l = levels_few b c (body_of_light k b e) l

    pairs_on_few : (t : Bool) (k : Pick) (m : Message) (j l : ℕ) (os : List Offer) → IsFew os → length (pairs_on s t k m j l os) ≤ most
    pairs_on_few t k m j l os h =
        let e = each_any 1 (λ i o. only_if (accepts s.channels (reads s j t) m o.basic) (Pair k (pick j l i) t)) (λ i o. if_one (accepts s.channels (reads s j t) m o.basic) (Pair k (pick j l i) t)) 0 os in
        omega (arith, e, h)

    pairs_with_few : (t : Bool) (k : Pick) (m : Message) (j : ℕ) (y : Stand) → IsLightStand most y → length (pairs_with s t k m j y) ≤ most
    pairs_with_few t k m j y h = by (nat_eq j k.process)
      where
        by : (same : Bool) → length (if same then [] else last (pairs_on s t k m j) 0 (levels_in (body_of s.program y.sort) y.control)) ≤ most
        by true = omega arith
        by false = last_few most (pairs_on s t k m j) (pairs_on_few t k m j) 0 (levels_in (body_of s.program y.sort) y.control) (levels_in_few (body_of s.program y.sort) y.sort y.control refl h)

    stands_few : (n : ℕ) → length s.stands * n ≤ 255 * n
    stands_few n = mul-le-mul_right n light.few

    pairs_few : (t : Bool) (k : Pick) (o : Option Message) → length (pairs s t k o) ≤ 255 * most
    pairs_few t k None = omega arith
    pairs_few t k (Some m) = omega (arith, each_some most (IsLightStand most) (pairs_with s t k m) (pairs_with_few t k m) 0 s.stands light.stands, stands_few most)

    by_few : (p : ℕ) (t : Bool) (b : Seq) (l i : ℕ) (o : Offer) → length (moves_by s p t b l i o) ≤ 255 * most + 1
    by_few p t b l i o = by (can_alone s.lossy s.channels (reads s p t) b o o.basic)
      where
        by : (can : Bool) → length (if can then Alone (pick p l i) t ∷ [] else pairs s t (pick p l i) (message s.channels (reads s p t) o.basic)) ≤ 255 * most + 1
        by true = omega arith
        by false = let e = pairs_few t (pick p l i) (message s.channels (reads s p t) o.basic) in omega (arith, e)

    plain_few : (p : ℕ) (t : Bool) (b : Seq) (l : ℕ) (os : List Offer) → IsFew os → length (plain_moves s p t b l os) ≤ most * (255 * most + 1)
    plain_few p t b l os h =
        let e = each_any (255 * most + 1) (λ i o. if is_else o.basic then [] else moves_by s p t b l i o) (λ i o. by i o (is_else o.basic)) 0 os in
        let m : length os * (255 * most + 1) ≤ most * (255 * most + 1) = mul-le-mul_right (255 * most + 1) h in
        omega (arith, e, m)
      where
        by : (i : ℕ) (o : Offer) (e : Bool) → length (if e then [] else moves_by s p t b l i o) ≤ 255 * most + 1
        by i o true = omega arith
        by i o false = by_few p t b l i o

    else_few : (p : ℕ) (t : Bool) (l : ℕ) (os : List Offer) → IsFew os → length (else_moves p t l os) ≤ most
    else_few p t l os h = let e = each_any 1 (λ i o. only_if (is_else o.basic) (Alone (pick p l i) t)) (λ i o. if_one (is_else o.basic) (Alone (pick p l i) t)) 0 os in omega (arith, e, h)

    -- the most moves of one process
    abbrev many : ℕ
    many = most * (255 * most + 1) + most + 1

    of_few : (p : ℕ) (t : Bool) (k : ℕ) (b : Option Seq) (c : Control) → body_of s.program k ≡ b → IsLight most c → length (moves_of s p t b c) ≤ many
    of_few p t k b [] e l = let h = if_one (nat_eq (p + 1) (length s.stands)) (Death p) in omega (arith, h)
    of_few p t k None (f ∷ c) e l = omega arith
    of_few p t k (Some b) (f ∷ c) e l =
        last_few many (moves_on s p t b) (λ i os h. let x = plain_few p t b i os h in let y = else_few p t i os h in or_few many (plain_moves s p t b i os) (else_moves p t i os) (omega (arith, x)) (omega (arith, y)))
        0 (levels b (f ∷ c)) (levels_few b (f ∷ c) (body_of_light k b e) l)

    under_few : (t : Bool) → length (moves_under s t) ≤ 255 * many
    under_few t =
        let e = each_some many (IsLightStand most) (λ p y. moves_at s p t y) (λ p y h. of_few p t y.sort (body_of s.program y.sort) y.control refl h) 0 s.stands light.stands in
        omega (arith, e, stands_few many)

    held_few : (h : Option ℕ) → length (moves_held s h) ≤ 255 * many
    held_few None = omega arith
    held_few (Some p) = by (slice_get s.stands p) (light_stand s.stands p light.stands)
      where
        OfStand : Option Stand → Type 0
        OfStand None = Unit {0}
        OfStand (Some y) = IsLightStand most y

        light_stand : (ys : List Stand) (i : ℕ) → AllByRecursion (IsLightStand most) ys → OfStand (slice_get ys i)
        light_stand [] i all = tt
        light_stand (y ∷ ys) zero all = all.0
        light_stand (y ∷ ys) (suc i) all = light_stand ys i all.1

        by : (o : Option Stand) → OfStand o → length (moves_if s p o) ≤ 255 * many
        by None h = omega arith
        by (Some y) h = let e = of_few p false y.sort (body_of s.program y.sort) y.control refl h in omega (arith, e)

    pub moves_few : length (moves s) ≤ 255 * many
    moves_few =
        or_few (255 * many) (moves_held s s.holder) (or_else (moves_under s false) (moves_under s true)) (held_few s.holder)
        (or_few (255 * many) (moves_under s false) (moves_under s true) (under_few false) (under_few true))
