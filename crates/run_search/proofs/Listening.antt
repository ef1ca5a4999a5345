-- Between which processes those lie that may receive on a channel.
use Rattle.std.proofs.Common.{◌≡◌, ◌⊎◌, inl, inr, ℕ, zero, suc, ◌+◌, ◌<◌, ◌≤◌, Bool, true, false, if◌then◌else◌, nat_lt, ◌&&◌, ◌||◌, List, [], ◌∷◌, ◌++◌, ℤ, length, map, drop, refl, sym, ap, ◌∙◌, subst, arith, Option, Some, None}
use Rattle.std.specs.Prelude.{slice_get, slice_set, slice_index_or}
use Rattle.std.specs.Ordering.{int_eq}
use Rattle.std.proofs.lemmas.Int.{ints}
use Rattle.std.proofs.lemmas.Bool.{cases_lt}
use Rattle.std.proofs.lemmas.List.{drop_all}
use Rattle.std.proofs.lemmas.Bool.Decides.{nat_tests}
use Rattle.promela_run.specs.declared.moves.Pick.{Pick}
use Rattle.promela_run.specs.declared.moves.Move.{Move}
use Rattle.run_state.specs.declared.seat.Seat.{Seat}
use Rattle.run_search.specs.declared.demand.Demand.{Demand}
use Rattle.run_search.specs.declared.demand.Interests.{Interests}
use Rattle.run_search.specs.declared.demand.Interests.TheVariants.{Nothing, One, Two, Anything}
use Rattle.run_search.specs.declared.listeners.Span.{Span}
use Rattle.run_search.specs.declared.listeners.Known.{Known}
use Rattle.promela_run.specs.State.{State, Stand}
use Rattle.promela_run.specs.Moves.{Message, each, pairs, pairs_with}
use Rattle.run_search.specs.declared.interest.Interest.{Interest}
use Rattle.run_search.specs.Demands.{may_take, asks, begins_so, AreDemands}
use Rattle.run_search.specs.Listeners.{place_of, with_one, joined, widened, spans_with, any_with, LiesIn, Hears, AreHeard, AreKnown}
use Rattle.run_state.specs.Standing.{stand_of}
use Rattle.run_state.proofs.Placing.{seat_stands}
use Rattle.run_state.proofs.Finding.{within, past, there, opens_at, at_end}

-- ---- spans

least : (b : Bool) (j f i : ℕ) → nat_lt j f ≡ b → (f ≤ i) ⊎ (j ≤ i) → (if b then j else f) ≤ i
least true j f i e (inl h) = let l : j < f = grind (arith, nat_tests) in omega (arith, l, h)
least true j f i e (inr h) = h
least false j f i e (inl h) = h
least false j f i e (inr h) = let l : f ≤ j = grind (arith, nat_tests) in omega (arith, l, h)

most : (b : Bool) (l j i : ℕ) → nat_lt l j ≡ b → (i ≤ l) ⊎ (i ≤ j) → i ≤ (if b then j else l)
most true l j i e (inl h) = let k : l < j = grind (arith, nat_tests) in omega (arith, k, h)
most true l j i e (inr h) = h
most false l j i e (inl h) = h
most false l j i e (inr h) = let k : j ≤ l = grind (arith, nat_tests) in omega (arith, k, h)

still_in : (x : Span) (j i : ℕ) → LiesIn x i → LiesIn (with_one x j) i
still_in x j i h = (least (nat_lt j x.first) j x.first i refl (inl h.0), most (nat_lt x.last j) x.last j i refl (inl h.1))

now_in : (x : Span) (j : ℕ) → LiesIn (with_one x j) j
now_in x j = (least (nat_lt j x.first) j x.first j refl (inr (omega arith)), most (nat_lt x.last j) x.last j j refl (inr (omega arith)))

pub in_both : (x y : Span) (i : ℕ) → LiesIn x i ⊎ LiesIn y i → LiesIn (joined x y) i
in_both x y i (inl h) = (least (nat_lt y.first x.first) y.first x.first i refl (inl h.0), most (nat_lt x.last y.last) x.last y.last i refl (inl h.1))
in_both x y i (inr h) = (least (nat_lt y.first x.first) y.first x.first i refl (inr h.0), most (nat_lt x.last y.last) x.last y.last i refl (inr h.1))

-- ---- a span is widened

put_at : {A : Type 0} (xs : List A) (k : ℕ) (x : A) → k < length xs → slice_get (slice_set xs k x) k ≡ Some x
put_at [] k x h = absurd (omega (arith, h))
put_at (y ∷ ys) zero x h = refl
put_at (y ∷ ys) (suc k) x h = let l : k < length ys = omega (arith, h) in put_at ys k x l

-- what stands at a place is as before, or is what was put
put : {A : Type 0} (P : Option A → Type 0) (xs : List A) (k i : ℕ) (x d : A) → (P (Some (slice_index_or xs k d)) → P (Some x)) → P (slice_get xs i) → P (slice_get (slice_set xs k x) i)
put P [] k i x d f h = h
put P (y ∷ ys) zero zero x d f h = f h
put P (y ∷ ys) zero (suc i) x d f h = h
put P (y ∷ ys) (suc k) zero x d f h = h
put P (y ∷ ys) (suc k) (suc i) x d f h = put P ys k i x d f h

nobody : Span
nobody = record { first = 0; last = 0 }

still_heard : (xs : List Span) (any : Span) (k j at i : ℕ) → Hears (slice_get xs at) any i → Hears (slice_get (widened xs k j) at) any i
still_heard xs any k j at i h = by (nat_lt k (length xs))
  where
    on : Hears (Some (slice_index_or xs k (record { first = 0; last = 0 }))) any i → Hears (Some (with_one (slice_index_or xs k (record { first = 0; last = 0 })) j)) any i
    on (inl l) = inl (still_in (slice_index_or xs k (record { first = 0; last = 0 })) j i l)
    on (inr r) = inr r

    by : (b : Bool) → Hears (slice_get (if b then slice_set xs k (with_one (slice_index_or xs k (record { first = 0; last = 0 })) j) else xs) at) any i
    by true = put (λ o. Hears o any i) xs k at (with_one (slice_index_or xs k (record { first = 0; last = 0 })) j) (record { first = 0; last = 0 }) on h
    by false = h

now_heard : (xs : List Span) (any : Span) (k j : ℕ) → Hears (slice_get (widened xs k j) k) any j
now_heard xs any k j = by (nat_lt k (length xs)) refl
  where
    by : (b : Bool) → nat_lt k (length xs) ≡ b → Hears (slice_get (if b then slice_set xs k (with_one (slice_index_or xs k (record { first = 0; last = 0 })) j) else xs) k) any j
    by true e =
        let l : k < length xs = grind (arith, nat_tests) in
        subst (λ o. Hears o any j) (sym (put_at xs k (with_one (slice_index_or xs k (record { first = 0; last = 0 })) j) l)) (inl (now_in (slice_index_or xs k (record { first = 0; last = 0 })) j))
    by false e =
        let l : length xs ≤ k = grind (arith, nat_tests) in
        subst (λ o. Hears o any j) (sym (past xs k l)) tt

still_any : (o : Option Span) (any : Span) (j i : ℕ) → Hears o any i → Hears o (with_one any j) i
still_any None any j i h = tt
still_any (Some x) any j i (inl l) = inl l
still_any (Some x) any j i (inr r) = inr (still_in any j i r)

now_any : (o : Option Span) (any : Span) (j : ℕ) → Hears o (with_one any j) j
now_any None any j = tt
now_any (Some x) any j = inr (now_in any j)

-- ---- one more process

equal : (a b : ℤ) → int_eq a b ≡ true → a ≡ b
equal a b e = grind (arith, ints)

first_true : (a b : Bool) → (a && b) ≡ true → a ≡ true
first_true true b e = refl
first_true false b e = cc

kept_on : (xs : List Span) (any : Span) (w : Interests) (j at i : ℕ) → Hears (slice_get xs at) any i → Hears (slice_get (spans_with xs w j) at) (any_with any w j) i
kept_on xs any Nothing j at i h = h
kept_on xs any (One x) j at i h = still_heard xs any (place_of x.number) j at i h
kept_on xs any (Two x y) j at i h = still_heard (widened xs (place_of x.number) j) any (place_of y.number) j at i (still_heard xs any (place_of x.number) j at i h)
kept_on xs any Anything j at i h = still_any (slice_get xs at) any j i h

-- a message that is asked for is heard where its channel's span is widened
asked_here : (xs : List Span) (any : Span) (x : Interest) (j : ℕ) (m : Message) → asks x m ≡ true → Hears (slice_get (widened xs (place_of x.number) j) (place_of m.number)) any j
asked_here xs any x j m e =
    subst (λ (a : ℤ). Hears (slice_get (widened xs (place_of x.number) j) (place_of a)) any j) (equal x.number m.number (first_true (int_eq x.number m.number) (begins_so x.first m.fields) e))
    (now_heard xs any (place_of x.number) j)

here : (xs : List Span) (any : Span) (w : Interests) (j : ℕ) (m : Message) → may_take w m ≡ true → Hears (slice_get (spans_with xs w j) (place_of m.number)) (any_with any w j) j
here xs any Nothing j m e = cc
here xs any (One x) j m e = asked_here xs any x j m e
here xs any (Two x y) j m e = by (asks x m) refl
  where
    by : (b : Bool) → asks x m ≡ b → Hears (slice_get (widened (widened xs (place_of x.number) j) (place_of y.number) j) (place_of m.number)) any j
    by true i = still_heard (widened xs (place_of x.number) j) any (place_of y.number) j (place_of m.number) j (asked_here xs any x j m i)
    by false i = asked_here (widened xs (place_of x.number) j) any y j m (sym (ap (λ (b : Bool). b || asks y m) i) ∙ e)
here xs any Anything j m e = now_any (slice_get xs (place_of m.number)) any j

pub heard_one : (ws : List Demand) (xs : List Span) (any : Span) (w : Demand) (j : ℕ) → slice_get ws j ≡ Some w → AreHeard ws xs any j → AreHeard ws (spans_with xs w.interests j) (any_with any w.interests j) (j + 1)
heard_one ws xs any w j at h i v m l is e = by (cases_lt i j)
  where
    by : (i < j) ⊎ (j ≤ i) → Hears (slice_get (spans_with xs w.interests j) (place_of m.number)) (any_with any w.interests j) i
    by (inl k) = kept_on xs any w.interests j (place_of m.number) i (h i v m k is e)
    by (inr k) =
        let same : i ≡ j = omega (arith, l, k) in
        let vw : Some v ≡ Some w = sym is ∙ (ap (slice_get ws) same ∙ at) in
        let one : v ≡ w = cc in
        subst (λ (a : ℕ). Hears (slice_get (spans_with xs w.interests j) (place_of m.number)) (any_with any w.interests j) a) (sym same)
        (here xs any w.interests j m (ap (λ (u : Demand). may_take u.interests m) (sym one) ∙ e))

-- ---- what is known

-- who is heard on another channel alone receives nothing
pub known_all : (s : State) (t : Bool) (k : Known) → AreDemands s t k.demands.now → length k.demands.now ≡ length s.stands → AreHeard k.demands.now k.spans.now k.any (length k.demands.now) → AreKnown s t k
known_all s t k demands many heard = record {
  demands = demands;
  heard = λ i y q m at out.
      let l : i < length k.demands.now = omega (arith, within s.stands i y at, many) in
      let w = there k.demands.now i l in
      by i y q m at out l w.0 w.1 (may_take w.0.interests m) refl;
}
  where
    by : (i : ℕ) (y : Stand) (q : Pick) (m : Message) → slice_get s.stands i ≡ Some y → (Hears (slice_get k.spans.now (place_of m.number)) k.any i → ⊥) → i < length k.demands.now → (w : Demand) → slice_get k.demands.now i ≡ Some w → (b : Bool) → may_take w.interests m ≡ b → pairs_with s t q m i y ≡ []
    by i y q m at out l w is true e = absurd (out (heard i w m l is e))
    by i y q m at out l w is false e = (demands i w y is at).receives q m e

-- who does not lie where a channel is heard receives nothing there
pub outside : (s : State) (t : Bool) (k : Known) (q : Pick) (m : Message) (xs : List Seat) (number : ℤ) (first end : ℕ) → AreKnown s t k → map (stand_of s.program) xs ≡ s.stands → number ≡ m.number → ((i : ℕ) → i < length xs → Hears (slice_get k.spans.now (place_of number)) k.any i → (first ≤ i) × (i < end)) → (i : ℕ) (x : Seat) → slice_get xs i ≡ Some x → (first ≤ i → i < end → ⊥) → pairs_with s t q m i (stand_of s.program x) ≡ []
outside s t k q m xs number first end known seats of among i x e out =
    known.heard i (stand_of s.program x) q m (seat_stands s.program xs s.stands i x seats e)
    (λ h. let r = among i (within xs i x e) (subst (λ (n : ℤ). Hears (slice_get k.spans.now (place_of n)) k.any i) (sym of) h) in out r.0 r.1)

-- ---- a channel on which nobody is heard

each_none : {A B : Type 0} (f : ℕ → A → List B) (n : ℕ) (xs : List A) → ((i : ℕ) (x : A) → slice_get xs i ≡ Some x → f (n + i) x ≡ []) → each f n xs ≡ []
each_none {B = B} f n [] h = refl
each_none {B = B} f n (x ∷ xs) h =
    let e : n + 0 ≡ n = omega arith in
    let first : f n x ≡ [] = ap (λ (i : ℕ). f i x) (sym e) ∙ h 0 x refl in
    let rest : each f (n + 1) xs ≡ [] = each_none f (n + 1) xs (λ i y at. let k : n + 1 + i ≡ n + suc i = omega arith in ap (λ (j : ℕ). f j y) k ∙ h (suc i) y at) in
    ap (λ (ys : List B). ys ++ each f (n + 1) xs) first ∙ rest

-- a message over it has no pairs
pub unheard : (s : State) (t : Bool) (k : Known) (q : Pick) (m : Message) (number : ℤ) → AreKnown s t k → number ≡ m.number → ((i : ℕ) → i < length s.stands → Hears (slice_get k.spans.now (place_of number)) k.any i → ⊥) → pairs s t q (Some m) ≡ []
unheard s t k q m number known of none =
    each_none (pairs_with s t q m) 0 s.stands (λ i y at.
    let e : 0 + i ≡ i = omega arith in
    let l : i < length s.stands = within s.stands i y at in
    ap (λ (j : ℕ). pairs_with s t q m j y) e ∙ known.heard i y q m at (λ h. none i l (subst (λ (n : ℤ). Hears (slice_get k.spans.now (place_of n)) k.any i) (sym of) h)))

-- ---- the pairs with those of a span

module _ (f : ℕ → Stand → List Move) (g : Seat → Stand) where
  next : (xs : List Seat) (n : ℕ) (o : Option Seat) → slice_get xs n ≡ o → ((x : Seat) → slice_get xs n ≡ Some x → f n (g x) ≡ []) → each f (n + 1) (map g (drop (n + 1) xs)) ≡ each f n (map g (drop n xs))
  next xs n (Some x) e h =
      sym (ap (λ (ys : List Seat). each f n (map g ys)) (opens_at xs n x e) ∙ ap (λ (zs : List Move). zs ++ each f (n + 1) (map g (drop (n + 1) xs))) (h x e))
  next xs n None e h =
      let l = at_end xs n e in
      ap (λ (ys : List Seat). each f (n + 1) (map g ys)) (drop_all (n + 1) xs (omega (arith, l)))
      ∙ sym (ap (λ (ys : List Seat). each f n (map g ys)) (drop_all n xs l))

  -- those before give nothing
  pub before : (xs : List Seat) (n : ℕ) → ((i : ℕ) (x : Seat) → i < n → slice_get xs i ≡ Some x → f i (g x) ≡ []) → each f n (map g (drop n xs)) ≡ each f 0 (map g xs)
  before xs zero h = refl
  before xs (suc n) h =
      let c : n + 1 ≡ suc n = omega arith in
      let rest = before xs n (λ i x l. h i x (omega (arith, l))) in
      ap (λ (k : ℕ). each f k (map g (drop k xs))) (sym c) ∙ next xs n (slice_get xs n) refl (λ x e. h n x (omega arith) e) ∙ rest

  ended : (d : ℕ) (xs : List Seat) (n : ℕ) → length xs ≤ n + d → ((i : ℕ) (x : Seat) → n ≤ i → slice_get xs i ≡ Some x → f i (g x) ≡ []) → each f n (map g (drop n xs)) ≡ []
  ended zero xs n l h = let m : length xs ≤ n = omega (arith, l) in ap (λ (ys : List Seat). each f n (map g ys)) (drop_all n xs m)
  ended (suc d) xs n l h =
      let m : length xs ≤ n + 1 + d = omega (arith, l) in
      sym (next xs n (slice_get xs n) refl (λ x e. h n x (omega arith) e)) ∙ ended d xs (n + 1) m (λ i x k. h i x (omega (arith, k)))

  -- those behind give nothing
  pub behind : (xs : List Seat) (n : ℕ) → ((i : ℕ) (x : Seat) → n ≤ i → slice_get xs i ≡ Some x → f i (g x) ≡ []) → each f n (map g (drop n xs)) ≡ []
  behind xs n h = ended (length xs) xs n (omega arith) h
