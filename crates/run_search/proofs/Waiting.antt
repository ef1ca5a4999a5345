-- What it means that a process waits for some messages alone.
use Rattle.std.proofs.Common.{◌≡◌, ◌⊎◌, inl, inr, ℕ, zero, suc, ◌+◌, ◌<◌, ◌≤◌, Bool, true, false, nat_eq, if◌then◌else◌, List, [], ◌∷◌, ◌++◌, get_or, length, map, drop, refl, sym, ap, ◌∙◌, subst, Option, Some, None}
use Rattle.std.specs.Prelude.{slice_get, slice_index_or}
use Rattle.std.proofs.lemmas.List.{drop_all}
use Rattle.pml_flow.specs.declared.edge.Edge.{Edge}
use Rattle.promela_process.specs.Offers.{Offer}
use Rattle.promela_run.specs.declared.moves.Pick.{Pick}
use Rattle.promela_run.specs.declared.moves.Move.{Move}
use Rattle.run_state.specs.declared.seat.Seat.{Seat}
use Rattle.run_state.specs.declared.body.Body.{Body}
use Rattle.run_search.specs.declared.demand.Demand.{Demand}
use Rattle.promela_run.specs.State.{State, Stand, body_of, levels_in}
use Rattle.run_state.specs.Standing.{stand_of, StandsIn, shows, edges_at, seq_of}
use Rattle.promela_run.specs.Moves.{Message, or_else, each, last, pairs_on, pairs_with, moves_on, moves_at}
use Rattle.run_search.specs.declared.demand.OwnMoves.{OwnMoves}
use Rattle.run_search.specs.declared.demand.OwnMoves.TheVariants.{Unknown}
use Rattle.run_search.specs.Demands.{may_take, may_at, own_at, HasNone, DemandsFor, AreDemands, AreIdleOn}
use Rattle.run_state.proofs.Finding.{opens, opens_at, held}
use Rattle.run_search.proofs.Placing.{moves_in, pairs_in, pairs_closed}

-- ---- a process

-- the sender itself receives nothing
own : (s : State) (t : Bool) (k : Pick) (m : Message) (j : ℕ) (y : Stand) → nat_eq j k.process ≡ true → pairs_with s t k m j y ≡ []
own s t k m j y i =
    ap (λ (b : Bool). if b then [] else last (pairs_on s t k m j) 0 (levels_in (body_of s.program y.sort) y.control)) i

-- at its closing brace it waits for nothing
pub demands_closed : (s : State) (t : Bool) (j : ℕ) (y : Stand) (w : Demand) → y.control ≡ [] → (HasNone s t w.own → moves_at s j t y ≡ []) → DemandsFor s t j y w
demands_closed s t j y w e none = record { receives = λ k m d. by k m (nat_eq j k.process) refl; moves = none }
  where
    by : (k : Pick) (m : Message) (b : Bool) → nat_eq j k.process ≡ b → pairs_with s t k m j y ≡ []
    by k m true i = own s t k m j y i
    by k m false i = pairs_closed s t k m j y i e

-- where nothing is known of its moves nothing is said of them
pub unknown : (s : State) (t : Bool) (j : ℕ) (y : Stand) (w : Demand) → w.own ≡ Unknown → HasNone s t w.own → moves_at s j t y ≡ []
unknown s t j y w e none = absurd (subst (λ (o : OwnMoves). HasNone s t o) e none)

-- where it has one level it waits for what that receives
pub demands_in : (x : Seat) (b : Body) (s : State) (t : Bool) (j : ℕ) (w : Demand) (es : List Edge) → StandsIn s x b → edges_at b x.node ≡ es ∷ []
    → ((k : Pick) (m : Message) (l : ℕ) → may_take w.interests m ≡ false → pairs_on s t k m j l (map (shows b) es) ≡ [])
    → (HasNone s t w.own → moves_at s j t (stand_of s.program x) ≡ []) → DemandsFor s t j (stand_of s.program x) w
demands_in x b s t j w es h l none mine = record { receives = λ k m d. by k m d (nat_eq j k.process) refl; moves = mine }
  where
    by : (k : Pick) (m : Message) → may_take w.interests m ≡ false → (o : Bool) → nat_eq j k.process ≡ o → pairs_with s t k m j (stand_of s.program x) ≡ []
    by k m d true i = own s t k m j (stand_of s.program x) i
    by k m d false i = pairs_in x b s t k m j i h ∙ (ap (λ (ls : List (List Edge)). last (pairs_on s t k m j) 0 (map (map (shows b)) ls)) l ∙ none k m 0 d)

-- where its one level gives none it has no move
pub none_in : (x : Seat) (b : Body) (s : State) (t : Bool) (j : ℕ) (own : OwnMoves) (es : List Edge) → StandsIn s x b → edges_at b x.node ≡ es ∷ []
    → AreIdleOn own s t j (map (shows b) es) → HasNone s t own → moves_at s j t (stand_of s.program x) ≡ []
none_in x b s t j mine es h l idle none =
    moves_in x b s j t h ∙ (ap (λ (ls : List (List Edge)). last (moves_on s j t (seq_of b)) 0 (map (map (shows b)) ls)) l ∙ idle none (seq_of b) 0)

-- ---- all

pushed : {A : Type 0} (xs : List A) (x : A) (j : ℕ) (v : A) → slice_get (xs ++ x ∷ []) j ≡ Some v → (slice_get xs j ≡ Some v) ⊎ ((j ≡ length xs) × (x ≡ v))
pushed [] x zero v h = let e : x ≡ v = cc in inr (refl, e)
pushed [] x (suc j) v h = cc
pushed (y ∷ ys) x zero v h = inl h
pushed (y ∷ ys) x (suc j) v h = by (pushed ys x j v h)
  where
    by : ((slice_get ys j ≡ Some v) ⊎ ((j ≡ length ys) × (x ≡ v))) → (slice_get (y ∷ ys) (suc j) ≡ Some v) ⊎ ((suc j ≡ length (y ∷ ys)) × (x ≡ v))
    by (inl l) = inl l
    by (inr r) = inr (ap suc r.0, r.1)

-- one more is known
pub demands_push : (s : State) (t : Bool) (ws : List Demand) (w : Demand) (i : ℕ) (y : Stand) → AreDemands s t ws → i ≡ length ws → slice_get s.stands i ≡ Some y → DemandsFor s t i y w → AreDemands s t (ws ++ w ∷ [])
demands_push s t ws w i y h l at on j v z e f = by (pushed ws w j v e)
  where
    by : ((slice_get ws j ≡ Some v) ⊎ ((j ≡ length ws) × (w ≡ v))) → DemandsFor s t j z v
    by (inl k) = h j v z k f
    by (inr r) =
        let same : j ≡ i = r.0 ∙ sym l in
        let q : Some z ≡ Some y = sym f ∙ (ap (slice_get s.stands) same ∙ at) in
        let zy : z ≡ y = cc in
        subst (λ (a : ℕ). DemandsFor s t a z v) (sym same) (subst (λ (u : Stand). DemandsFor s t i u v) (sym zy) (subst (λ (u : Demand). DemandsFor s t i y u) r.1 on))

-- who waits for another message has no pairs
pub demands_at : (s : State) (t : Bool) (ws : List Demand) (j : ℕ) (y : Stand) → AreDemands s t ws → slice_get s.stands j ≡ Some y → (k : Pick) (m : Message) → may_at (slice_get ws j) m ≡ false → pairs_with s t k m j y ≡ []
demands_at s t ws j y h e k m d = by (slice_get ws j) refl
  where
    by : (o : Option Demand) → slice_get ws j ≡ o → pairs_with s t k m j y ≡ []
    by None i = let z : true ≡ false = sym (ap (λ (o : Option Demand). may_at o m) i) ∙ d in cc
    by (Some w) i = (h j w y i e).receives k m (sym (ap (λ (o : Option Demand). may_at o m) i) ∙ d)

-- of whom it is known has no move
pub none_there : (s : State) (t : Bool) (ws : List Demand) (j : ℕ) (y : Stand) → AreDemands s t ws → slice_get s.stands j ≡ Some y → HasNone s t (own_at (slice_get ws j)) → moves_at s j t y ≡ []
none_there s t ws j y h e none = by (slice_get ws j) refl
  where
    by : (o : Option Demand) → slice_get ws j ≡ o → moves_at s j t y ≡ []
    by None i = absurd (subst (λ (o : Option Demand). HasNone s t (own_at o)) i none)
    by (Some w) i = (h j w y i e).moves (subst (λ (o : Option Demand). HasNone s t (own_at o)) i none)

-- ---- an offer that gives nothing, and the end of a level

skip : (f : ℕ → Offer → List Move) (g : Edge → Offer) (es : List Edge) (i : ℕ) (x : Edge) (all : List Move) → slice_get es i ≡ Some x → f i (g x) ≡ [] → each f i (map g (drop i es)) ≡ all → each f (i + 1) (map g (drop (i + 1) es)) ≡ all
skip f g es i x all at none e =
    sym (ap (λ (ys : List Edge). each f i (map g ys)) (opens_at es i x at) ∙ ap (λ (zs : List Move). zs ++ each f (i + 1) (map g (drop (i + 1) es))) none) ∙ e

pub over : (f : ℕ → Offer → List Move) (g : Edge → Offer) (es : List Edge) (i : ℕ) (all : List Move) → length es ≤ i → each f i (map g (drop i es)) ≡ all → all ≡ []
over f g es i all l e = sym e ∙ ap (λ (ys : List Edge). each f i (map g ys)) (drop_all i es l)

pub skip_at : (f : ℕ → Offer → List Move) (g : Edge → Offer) (es : List Edge) (i : ℕ) (d : Edge) (all : List Move) → i < length es → f i (g (get_or es i d)) ≡ [] → each f i (map g (drop i es)) ≡ all → each f (i + 1) (map g (drop (i + 1) es)) ≡ all
skip_at f g es i d all l none e = skip f g es i (get_or es i d) all (held es i d l) none e

-- ---- level by level

or_else_nil : {A : Type 0} (xs : List A) → or_else xs [] ≡ xs
or_else_nil [] = refl
or_else_nil (x ∷ xs) = refl

-- a level that gives nothing is passed over
pub last_skips : {A B : Type 0} (f : ℕ → A → List B) (xs : List A) (n : ℕ) (d : A) → n < length xs → f n (slice_index_or xs n d) ≡ [] → last f (n + 1) (drop (n + 1) xs) ≡ last f n (drop n xs)
last_skips f xs n d l none =
    sym (ap (λ ys. last f n ys) (opens xs n d l) ∙ (ap (λ zs. or_else (last f (n + 1) (drop (n + 1) xs)) zs) none ∙ or_else_nil (last f (n + 1) (drop (n + 1) xs))))

pub last_over : {A B : Type 0} (f : ℕ → A → List B) (xs : List A) (n : ℕ) → length xs ≤ n → last f n (drop n xs) ≡ []
last_over f xs n l = ap (λ ys. last f n ys) (drop_all n xs l)

-- where no level receives anything else
pub demands_down : (x : Seat) (b : Body) (s : State) (t : Bool) (j : ℕ) (w : Demand) → StandsIn s x b
    → ((k : Pick) (m : Message) → may_take w.interests m ≡ false → last (pairs_on s t k m j) 0 (map (map (shows b)) (edges_at b x.node)) ≡ [])
    → w.own ≡ Unknown → DemandsFor s t j (stand_of s.program x) w
demands_down x b s t j w h none mine = record { receives = λ k m d. by k m d (nat_eq j k.process) refl; moves = unknown s t j (stand_of s.program x) w mine }
  where
    by : (k : Pick) (m : Message) → may_take w.interests m ≡ false → (o : Bool) → nat_eq j k.process ≡ o → pairs_with s t k m j (stand_of s.program x) ≡ []
    by k m d true i = own s t k m j (stand_of s.program x) i
    by k m d false i = pairs_in x b s t k m j i h ∙ none k m d
