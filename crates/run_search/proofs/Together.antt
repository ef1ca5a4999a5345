-- Where every process can take the same, one is asked for all.
use Rattle.std.proofs.Common.{◌≡◌, ℕ, zero, suc, ◌+◌, ◌-◌, ◌<◌, ◌≤◌, Bool, true, false, nat_eq, nat_lt, ◌&&◌, min, List, [], ◌∷◌, ◌++◌, take, drop, get_or, map, length, append-nil, append_assoc, length-append, Some, refl, sym, ap, subst, ◌∙◌, arith}
use Rattle.std.specs.Prelude.{slice_get}
use Rattle.std.proofs.lemmas.List.{drop_all, length-map, length-take, take-append-le}
use Rattle.std.proofs.Math.Seq.{take-length}
use Rattle.pml_flow.specs.declared.edge.Edge.{Edge}
use Rattle.promela_run.specs.declared.moves.Pick.{Pick}
use Rattle.promela_run.specs.State.{Stand, State}
use Rattle.promela_run.specs.declared.moves.Move.{Move}
use Rattle.promela_run.specs.declared.moves.Move.TheVariants.{Death}
use Rattle.promela_run.specs.Moves.{Message, each, last, only_if, pick, moves_on, moves_at, pairs_on, pairs_with}
use Rattle.common_offers.specs.Offers.{IsCommonOffer, AreCommonOffers, by_process}
use Rattle.common_offers.proofs.Silent.{all_are_deaf}
use Rattle.common_offers.proofs.Moving.{all_move_alike}
use Rattle.run_state.specs.declared.seat.Seat.{Seat}
use Rattle.run_state.specs.declared.body.Body.{Body}
use Rattle.run_state.specs.Standing.{stand_of, StandsIn, shows, edges_at, seq_of}
use Rattle.run_search.specs.declared.round.Round.{Round}
use Rattle.run_search.specs.Kept.{Extends}
use Rattle.run_search.specs.Round.{round_at, round_behind}
use Rattle.run_search.specs.Together.{IsCommonSeat, StandThere}
use Rattle.run_state.proofs.Finding.{opens_at, held}
use Rattle.run_state.proofs.Placing.{seat_stands}
use Rattle.run_search.proofs.Placing.{moves_in, moves_closed, pairs_in}
use Rattle.run_search.proofs.Waiting.{demands_in, demands_closed}

not_next : (p : ℕ) → nat_eq p (p + 1) ≡ false
not_next p = grind arith

-- where its one level is such
pub common_seat : (s : State) (x : Seat) (b : Body) (es : List Edge) → StandsIn s x b → edges_at b x.node ≡ es ∷ [] → AreCommonOffers (map (shows b) es) → IsCommonSeat s x
common_seat s x b es h one common = record {
  moves = λ t p m older younger.
      level t m
      ∙ (all_move_alike s p m t (seq_of b) 0 (map (shows b) es) common ∙ ap (map (by_process m)) (sym (level t p)));
  demands = λ t p j w older younger known. demands_in x b s t j w es h one
      (λ k m l d.
      all_are_deaf s t (pick (p + 1) 0 0) k m p j 0 l (map (shows b) es) common
      (sym (heard t (pick (p + 1) 0 0) m p (not_next p)) ∙ known.receives (pick (p + 1) 0 0) m d))
      (λ q. level t j ∙ (all_move_alike s p j t (seq_of b) 0 (map (shows b) es) common ∙ ap (map (by_process j)) (sym (level t p) ∙ known.moves q)));
}
  where
    level : (t : Bool) (p : ℕ) → moves_at s p t (stand_of s.program x) ≡ moves_on s p t (seq_of b) 0 (map (shows b) es)
    level t p = moves_in x b s p t h ∙ ap (λ (ls : List (List Edge)). last (moves_on s p t (seq_of b)) 0 (map (map (shows b)) ls)) one

    heard : (t : Bool) (k : Pick) (m : Message) (p : ℕ) → nat_eq p k.process ≡ false → pairs_with s t k m p (stand_of s.program x) ≡ pairs_on s t k m p 0 (map (shows b) es)
    heard t k m p n = pairs_in x b s t k m p n h ∙ ap (λ (ls : List (List Edge)). last (pairs_on s t k m p) 0 (map (map (shows b)) ls)) one

-- at a closing brace the youngest alone dies, and nobody receives anything
pub closed_seat : (s : State) (x : Seat) → (stand_of s.program x).control ≡ [] → IsCommonSeat s x
closed_seat s x e = record {
  moves = λ t p m older younger. nothing m t younger ∙ ap (map (by_process m)) (sym (nothing p t older));
  demands = λ t p j w older younger known. demands_closed s t j (stand_of s.program x) w e (λ q. nothing j t younger);
}
  where
    not_youngest : (m n : ℕ) → m + 1 < n → nat_eq (m + 1) n ≡ false
    not_youngest m n l = grind arith

    nothing : (m : ℕ) (t : Bool) → m + 1 < length s.stands → moves_at s m t (stand_of s.program x) ≡ []
    nothing m t l = moves_closed s m t (stand_of s.program x) e ∙ ap (λ (b : Bool). only_if b (Death m)) (not_youngest m (length s.stands) l)

-- ---- those from a process on

-- those of the process that stands there come first
next_behind : (r : Round) (x : Seat) (n : ℕ) → slice_get r.live.now.state.stands n ≡ Some (stand_of r.live.now.state.program x) → round_behind r n ≡ round_at r n x ++ round_behind r (n + 1)
next_behind r x n at =
    ap (λ (ys : List Stand). each (λ p y. moves_at r.live.now.state p r.timeout y) n ys) (opens_at r.live.now.state.stands n (stand_of r.live.now.state.program x) at)

-- one process more
pub one_behind : (r : Round) (x : Seat) (n : ℕ) (new mid all : List Move) → slice_get r.live.now.state.stands n ≡ Some (stand_of r.live.now.state.program x)
    → new ≡ mid ++ round_at r n x → mid ++ round_behind r n ≡ all → new ++ round_behind r (n + 1) ≡ all
one_behind r x n new mid all at e same =
    ap (λ (ms : List Move). ms ++ round_behind r (n + 1)) e
    ∙ (append_assoc mid (round_at r n x) (round_behind r (n + 1))
    ∙ (ap (λ (ms : List Move). mid ++ ms) (sym (next_behind r x n at)) ∙ same))

-- those who have no moves are passed over
none_behind : (r : Round) (x : Seat) (first n : ℕ) → StandThere r.live.now.state x first (first + n) → ((m : ℕ) → first ≤ m → m < first + n → round_at r m x ≡ []) → round_behind r first ≡ round_behind r (first + n)
none_behind r x first zero there none = let e : first ≡ first + 0 = omega arith in ap (λ (k : ℕ). round_behind r k) e
none_behind r x first (suc n) there none =
    let e : first + n + 1 ≡ first + suc n = omega arith in
    let l : first ≤ first + n = omega arith in
    let k : first + n < first + suc n = omega arith in
    none_behind r x first n (λ m a b. let c : m < first + suc n = omega (arith, b) in there m a c) (λ m a b. let c : m < first + suc n = omega (arith, b) in none m a c)
    ∙ (next_behind r x (first + n) (there (first + n) l k)
    ∙ (ap (λ (ms : List Move). ms ++ round_behind r (first + n + 1)) (none (first + n) l k) ∙ ap (λ (k : ℕ). round_behind r k) e))

-- where one was asked and has none, and each stands there of whom one can be asked for all
pub all_silent : (r : Round) (x : Seat) (p end begin : ℕ) (ms : List Move) → IsCommonSeat r.live.now.state x → p < end → end < length r.live.now.state.stands → StandThere r.live.now.state x (p + 1) end
    → drop begin ms ≡ round_at r p x → begin ≡ length ms → round_behind r end ≡ round_behind r (p + 1)
all_silent r x p end begin ms common order older there moves all =
    let e : p + 1 + (end - (p + 1)) ≡ end = omega (arith, order) in
    let l : p + 1 < length r.live.now.state.stands = omega (arith, order, older) in
    let over : length ms ≤ begin = omega (arith, all) in
    let none : round_at r p x ≡ [] = sym moves ∙ drop_all begin ms over in
    sym (none_behind r x (p + 1) (end - (p + 1))
    (λ m a b. let c : m < end = omega (arith, b, e) in there m a c)
    (λ m a b.
    let c : m + 1 < length r.live.now.state.stands = omega (arith, b, e, older) in
    common.moves r.timeout p m l c ∙ ap (map (by_process m)) none)
    ∙ ap (λ (k : ℕ). round_behind r k) e)

-- what lay at the front lies there still
front_of : (old new : List Move) → Extends new old → take (length old) new ≡ old
front_of old new h =
    let l : length old ≤ length old = omega arith in
    ap (take (length old)) h.is ∙ (take-append-le (length old) old h.more l ∙ take-length old)

-- one process more has the moves of the one that was asked
pub one_shared : (r : Round) (x : Seat) (p n begin behind : ℕ) (new mid old all : List Move) → IsCommonSeat r.live.now.state x → p + 1 < length r.live.now.state.stands → n + 1 < length r.live.now.state.stands
    → slice_get r.live.now.state.stands n ≡ Some (stand_of r.live.now.state.program x) → drop begin old ≡ round_at r p x → behind ≡ length old → Extends mid old
    → new ≡ mid ++ map (by_process n) (drop begin (take behind mid)) → mid ++ round_behind r n ≡ all → new ++ round_behind r (n + 1) ≡ all
one_shared r x p n begin behind new mid old all common l k at moves is ext e same =
    let front : take behind mid ≡ old = ap (λ (i : ℕ). take i mid) is ∙ front_of old mid ext in
    one_behind r x n new mid all at
    (e
    ∙ ap (λ (ms : List Move). mid ++ ms)
    (ap (λ (ms : List Move). map (by_process n) (drop begin ms)) front
    ∙ (ap (map (by_process n)) moves ∙ sym (common.moves r.timeout p n l k))))
    same

-- behind the last nobody is left
pub nobody_behind : (r : Round) (n : ℕ) → length r.live.now.state.stands ≤ n → round_behind r n ≡ []
nobody_behind r n l = ap (λ (ys : List Stand). each (λ p y. moves_at r.live.now.state p r.timeout y) n ys) (drop_all n r.live.now.state.stands l)

-- the process at a place stands where its seat is
pub seat_there : (s : State) (xs : List Seat) (p : ℕ) (d : Seat) → map (stand_of s.program) xs ≡ s.stands → p < length s.stands → slice_get s.stands p ≡ Some (stand_of s.program (get_or xs p d))
seat_there s xs p d e l =
    let many : length s.stands ≡ length xs = ap length (sym e) ∙ length-map xs (stand_of s.program) in
    let k : p < length xs = omega (arith, l, many) in
    seat_stands s.program xs s.stands p (get_or xs p d) e (held xs p d k)

-- one stands there alone
pub only_there : (s : State) (x : Seat) (p : ℕ) → slice_get s.stands p ≡ Some (stand_of s.program x) → StandThere s x p (p + 1)
only_there s x p at m a b = let is : m ≡ p = omega (arith, a, b) in ap (slice_get s.stands) is ∙ at

-- some that stand there, and others behind them
pub joined_there : (s : State) (x : Seat) (first at end : ℕ) → StandThere s x first at → StandThere s x at end → StandThere s x first end
joined_there s x first at end there more m a b = by_place (nat_lt m at) refl
  where
    by_place : (is : Bool) → nat_lt m at ≡ is → slice_get s.stands m ≡ Some (stand_of s.program x)
    by_place true e = let c : m < at = grind (arith, e) in there m a c
    by_place false e = let c : at ≤ m = grind (arith, e) in more m c b

left_true : (p q : Bool) → (p && q) ≡ true → p ≡ true
left_true true q e = refl
left_true false q e = cc

right_true : (p q : Bool) → (p && q) ≡ true → q ≡ true
right_true true q e = e
right_true false q e = cc

-- where both are said to
pub both_there : (s : State) (x : Seat) (first at end more : ℕ) (p q : Bool) → more ≡ end → (p ≡ true → StandThere s x first at) → (q ≡ true → StandThere s x at more) → (p && q) ≡ true → StandThere s x first end
both_there s x first at end more p q e there behind both =
    joined_there s x first at end (there (left_true p q both)) (subst (λ (n : ℕ). StandThere s x at n) e (behind (right_true p q both)))

-- ---- moves that are copied

at_front : (xs ys : List Move) (k : ℕ) → k < length xs → slice_get (xs ++ ys) k ≡ slice_get xs k
at_front [] ys k l = absurd (omega (arith, l))
at_front (x ∷ xs) ys zero l = refl
at_front (x ∷ xs) ys (suc k) l = let m : k < length xs = omega (arith, l) in at_front xs ys k m

taken_at : (n : ℕ) (xs : List Move) (k : ℕ) → k < n → slice_get (take n xs) k ≡ slice_get xs k
taken_at zero xs k l = absurd (omega (arith, l))
taken_at (suc n) [] k l = refl
taken_at (suc n) (x ∷ xs) zero l = refl
taken_at (suc n) (x ∷ xs) (suc k) l = let m : k < n = omega (arith, l) in taken_at n xs k m

-- one more is copied
pub one_copied : (h : Move → Move) (all old ms new : List Move) (k end : ℕ) (d : Move) → Extends ms old → k < end → end ≤ length old → new ≡ ms ++ h (get_or ms k d) ∷ []
    → ms ++ map h (drop k (take end old)) ≡ all → new ++ map h (drop (k + 1) (take end old)) ≡ all
one_copied h all old ms new k end d ext l w e same =
    let x : Move = get_or ms k d in
    let r : List Move = map h (drop (k + 1) (take end old)) in
    let n = length-append old ext.more in
    let is : length ms ≡ length (old ++ ext.more) = ap length ext.is in
    let in_ms : k < length ms = omega (arith, l, w, n, is) in
    let in_old : k < length old = omega (arith, l, w) in
    let at : slice_get (take end old) k ≡ Some x =
    taken_at end old k l
    ∙ (sym (at_front old ext.more k in_old) ∙ (ap (λ (xs : List Move). slice_get xs k) (sym ext.is) ∙ held ms k d in_ms)) in
    ap (λ (xs : List Move). xs ++ r) e
    ∙ (append_assoc ms (h x ∷ []) r
    ∙ (ap (λ (xs : List Move). ms ++ map h xs) (sym (opens_at (take end old) k x at)) ∙ same))

-- behind the last none is left
pub all_copied : (h : Move → Move) (all old ms : List Move) (k end : ℕ) → end ≤ k → ms ++ map h (drop k (take end old)) ≡ all → ms ≡ all
all_copied h all old ms k end l same =
    let n : length (take end old) ≤ k = let m = length-take end old in let s = min_least end (length old) in omega (arith, l, m, s) in
    sym (append-nil ms) ∙ (ap (λ (xs : List Move). ms ++ map h xs) (sym (drop_all k (take end old) n)) ∙ same)
  where
    min_least : (a b : ℕ) → min a b ≤ a
    min_least a b = grind arith

-- ---- a level, edge by edge

-- one offer more
pub also_offer : (b : Body) (es : List Edge) (i : ℕ) (d : Edge) → i < length es → IsCommonOffer (shows b (get_or es i d)).basic
    → (AreCommonOffers (map (shows b) (drop i es)) → AreCommonOffers (map (shows b) es)) → AreCommonOffers (map (shows b) (drop (i + 1) es)) → AreCommonOffers (map (shows b) es)
also_offer b es i d l here all rest =
    all (subst (λ (xs : List Edge). AreCommonOffers (map (shows b) xs)) (sym (opens_at es i (get_or es i d) (held es i d l))) (here, rest))

-- behind the last there is none
pub no_offers : (b : Body) (es : List Edge) (i : ℕ) → length es ≤ i → AreCommonOffers (map (shows b) (drop i es))
no_offers b es i l = subst (λ (xs : List Edge). AreCommonOffers (map (shows b) xs)) (sym (drop_all i es l)) (tt {0})
