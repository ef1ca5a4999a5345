-- A receive that asks for any numbers takes the oldest message.
use Rattle.std.proofs.Common.{◌≡◌, ℕ, ◌+◌, Bool, true, false, ◌&&◌, ◌||◌, nat_eq, if◌then◌else◌, List, [], ◌∷◌, drop, length, ℤ, Some, Result, Ok, Err, refl, sym, ap, ◌∙◌, subst, arith}
use Rattle.std.specs.Prelude.{slice_get}
use denote.Hole.Carrier.{roll}
use Rattle.diagnostics.specs.declared.fault.Fault.{Fault}
use Rattle.pml_tree.specs.declared.tree.Search.{Search}
use Rattle.pml_tree.specs.declared.tree.Search.TheVariants.{First, Matching}
use Rattle.pml_program.specs.declared.expr.Target.{Target}
use Rattle.pml_program.specs.declared.expr.Want.{Want, Want-F, roll-Want, fold-roll-Want}
use Rattle.pml_program.specs.declared.expr.Want.TheVariants as asks
use Rattle.promela_process.specs.declared.place.Place.{Place}
use Rattle.promela_process.specs.declared.sought.Sought.{Sought}
use Rattle.promela_process.specs.declared.sought.Sought.TheVariants.{Into, Anything}
use Rattle.promela_process.specs.Expressions.{Reading, Valued, Wanted, Placed, Turned, placed_target, want, matches_field, matched, is_match, asked_by, value_step, want_step, target_step, turn_step, ◌>>=◌}
use Rattle.promela_process.specs.Store.{ChannelState}
use Rattle.promela_run.specs.Moves.{does_match, is_rendezvous, or_fault, can_receive}
use Rattle.run_search.specs.Taking.{TakesAny, EachTakesAny}
use Rattle.run_state.proofs.Finding.{opens_at}

-- ---- an argument

into_is : (t : Target) (r : Reading) → want (asks.Into t) r ≡ ((placed_target t).lies r >>= λ at. Ok (Into at (placed_target t).form))
unfolding roll-Want roll
into_is t r = ap (λ (f : Wanted). f r) (fold-roll-Want Valued Wanted Placed Turned value_step want_step target_step turn_step (Want-F.Into t))

pub into_any : (t : Target) → TakesAny (asks.Into t)
into_any t r q x e = go ((placed_target t).lies r) (sym (into_is t r) ∙ e)
  where
    go : (p : Result Place Fault) → (p >>= λ at. Ok (Into at (placed_target t).form)) ≡ Ok q → matches_field q x ≡ true
    go (Ok at) k = let same : Into at (placed_target t).form ≡ q = cc in ap (λ (w : Sought). matches_field w x) (sym same)
    go (Err f) k = cc

anything_is : (r : Reading) → want asks.Anything r ≡ Ok Anything
unfolding roll-Want roll
anything_is r = ap (λ (f : Wanted). f r) (fold-roll-Want Valued Wanted Placed Turned value_step want_step target_step turn_step Want-F.Anything)

pub anything_any : TakesAny asks.Anything
anything_any r q x e =
    let k : Ok Anything ≡ Ok q = sym (anything_is r) ∙ e in
    let same : Anything ≡ q = cc in
    ap (λ (w : Sought). matches_field w x) (sym same)

-- one more
pub also_any : (ws : List Want) (i : ℕ) (w : Want) → slice_get ws i ≡ Some w → TakesAny w → (EachTakesAny (drop i ws) → EachTakesAny ws) → EachTakesAny (drop (i + 1) ws) → EachTakesAny ws
also_any ws i w at here all rest = all (subst EachTakesAny (sym (opens_at ws i w at)) (here, rest))

-- ---- a message

taken_all : (ws : List Want) (xs : List ℤ) (r : Reading) → EachTakesAny ws → length xs ≡ length ws → does_match (asked_by ws r) xs ≡ true
taken_all [] [] r t n = refl
taken_all [] (x ∷ xs) r t n = cc
taken_all (w ∷ ws) [] r t n = cc
taken_all (w ∷ ws) (x ∷ xs) r t n = let less : length xs ≡ length ws = omega (arith, n) in go (want w r) refl (asked_by ws r) refl (taken_all ws xs r t.1 less)
  where
    go : (q : Result Sought Fault) → want w r ≡ q → (qs : Result (List Sought) Fault) → asked_by ws r ≡ qs → does_match (asked_by ws r) xs ≡ true → does_match (want w r >>= λ a. asked_by ws r >>= λ bs. Ok (a ∷ bs)) (x ∷ xs) ≡ true
    go (Err f) e qs k more = ap (λ (q : Result Sought Fault). does_match (q >>= λ a. asked_by ws r >>= λ bs. Ok (a ∷ bs)) (x ∷ xs)) e
    go (Ok a) e (Err f) k more =
        ap (λ (q : Result Sought Fault). does_match (q >>= λ a. asked_by ws r >>= λ bs. Ok (a ∷ bs)) (x ∷ xs)) e
        ∙ ap (λ (qs : Result (List Sought) Fault). does_match (qs >>= λ bs. Ok (a ∷ bs)) (x ∷ xs)) k
    go (Ok a) e (Ok bs) k more =
        let rest : matched bs xs ≡ true = sym (ap (λ (qs : Result (List Sought) Fault). does_match qs xs) k) ∙ more in
        ap (λ (q : Result Sought Fault). does_match (q >>= λ a. asked_by ws r >>= λ bs. Ok (a ∷ bs)) (x ∷ xs)) e
        ∙ (ap (λ (qs : Result (List Sought) Fault). does_match (qs >>= λ bs. Ok (a ∷ bs)) (x ∷ xs)) k
        ∙ (ap (λ (b : Bool). b && matched bs xs) (t.0 r a x e) ∙ rest))

-- the oldest message will do
or_match : (search : Search) (ms : List (List ℤ)) (m : List ℤ) (qs : Result (List Sought) Fault) → slice_get ms 0 ≡ Some m → does_match qs m ≡ true → or_fault (qs >>= λ ws. Ok (is_match search ws ms)) ≡ true
or_match search [] m qs at e = cc
or_match search (x ∷ ms) m (Err f) at e = refl
or_match First (x ∷ ms) m (Ok ws) at e = let same : x ≡ m = cc in ap (matched ws) same ∙ e
or_match Matching (x ∷ ms) m (Ok ws) at e = let same : x ≡ m = cc in ap (λ (b : Bool). b || is_match Matching ws ms) (ap (matched ws) same ∙ e)

filled : (ms : List (List ℤ)) (m : List ℤ) → slice_get ms 0 ≡ Some m → nat_eq (length ms) 0 ≡ false
filled [] m at = cc
filled (x ∷ ms) m at = grind arith

pub received : (search : Search) (c : ChannelState) (m : List ℤ) (ws : List Want) (r : Reading) → is_rendezvous c ≡ false → slice_get c.messages 0 ≡ Some m → length m ≡ length ws → EachTakesAny ws → or_fault (can_receive search c (asked_by ws r)) ≡ true
received search c m ws r meets at n t =
    ap (λ (b : Bool). or_fault (if b then Ok false else (asked_by ws r >>= λ ws. Ok (is_match search ws c.messages))))
    (ap (λ (b : Bool). b || nat_eq (length c.messages) 0) meets ∙ filled c.messages m at)
    ∙ or_match search c.messages m (asked_by ws r) at (taken_all ws m r t n)
