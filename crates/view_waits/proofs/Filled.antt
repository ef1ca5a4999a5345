-- Where something is left to do in a filled body, something is offered.
use Rattle.std.proofs.Common.{◌≡◌, ◌⊎◌, inl, inr, ◌∙◌, ap, sym, subst, refl, ℕ, zero, suc, ◌+◌, ◌<◌, Bool, true, false, if◌then◌else◌, List, [], ◌∷◌, ◌++◌, length, map, Option, Some, None, arith}
use Rattle.std.specs.Prelude.{slice_get, slice_index_or, IfSome}
use Rattle.std.specs.List.{AllByRecursion}
use Rattle.std.proofs.lemmas.Bool.{true≢false}
use Rattle.std.proofs.lemmas.Option.{none-some, same_Some}
use Rattle.pml_program.specs.declared.program.Seq.{Seq, Seq', Row_of-Stmt, end_of-Stmt, more_of-Stmt, items-the_row-Stmt}
use Rattle.pml_program.specs.declared.program.Basic.{Basic, Plain, Goto, Break, If', Do', Block, Atomic, DStep, Unless, Row_of-Seq, end_of-Seq, more_of-Seq}
use Rattle.promela_process.specs.Control.{Descent, Position, Control, Todo, Back, Under, InAtomic, InDStep, descent, todos, settle, in_d_step}
use Rattle.promela_process.specs.Offers.{Edge, Levels, one, join, begins, begins_seq, begins_row, begins_any, escapes, offers, Offer, offer_of}
use Rattle.pml_flow.specs.Points.{points_in, points_arm, points_row, points_options, point_at}
use Rattle.promela_run.specs.State.{picked, Stand, State, body_of, levels, levels_in}
use Rattle.run_state.specs.declared.seat.Seat.{Seat}
use Rattle.run_state.specs.Standing.{control_at, stand_of}
use Rattle.promela_run.specs.Moves.{pick, moves}
use Rattle.run_search.specs.Lifted.{offer_at, offer_on}
use Rattle.view_waits.specs.Filled.{KeptStatesStandAtNodes, IsFilled, HasSteps, SomeSteps, EachStep, HasOptions, EachOption, IsFilledBody, HasFilledBodies, StandAtNodes}
use Rattle.view_waits.specs.Laws.{IsOfferedNothing}
use Rattle.view_waits.specs.Waits.{is_in, in_control, last_timeout, waits_behind, waits_left, waits_at, waits}
use Rattle.view_waits.proofs.Nothing.{at_end}
use Rattle.view_waits.proofs.Waiting.{moves_without_waiting, waits_without_moves}

-- ---- a filled statement offers something

-- the first level has an offer
Opens : Levels → Type 0
Opens ls = (e : Edge) × (es : List Edge) × (rest : Levels) × (ls ≡ (e ∷ es) ∷ rest)

opens_join : (xs ys : Levels) → Opens xs → Opens (join xs ys)
unfolding Opens
opens_join xs [] (e, es, rest, is) = (e, es, rest, ap (λ (l : Levels). join l []) is)
opens_join xs (y ∷ ys) (e, es, rest, is) = (e, es ++ y, join rest ys, ap (λ (l : Levels). join l (y ∷ ys)) is)

opens_append : (xs ys : Levels) → Opens xs → Opens (xs ++ ys)
unfolding Opens
opens_append xs ys (e, es, rest, is) = (e, es, rest ++ ys, ap (λ (l : Levels). l ++ ys) is)

opens_either : (d : Bool) (xs ys : Levels) → Opens xs → Opens ys → Opens (if d then xs else ys)
opens_either true xs ys h k = h
opens_either false xs ys h k = k

module _ (b : Seq) where
  opens_one : (p : Position) (c : Control) → Opens (one p c)
  unfolding Opens
  opens_one p c = ((p, c), [], [], refl)

  mutual
    begins_opens : (p : Position) (x : Basic) (c : Control) → IsFilled x → Opens (begins b p x c)
    begins_opens p (Plain x) c h = opens_one p (settle b c)
    begins_opens p (Goto l) c h = opens_one p (settle b (Todo p (Goto l) ∷ c))
    begins_opens p Break c h = opens_one p (settle b (Todo p Break ∷ c))
    begins_opens p (If' m row) c h = any_opens p 0 row c h
    begins_opens p (Do' m row) c h = any_opens p 0 row (Back p (Do' m row) ∷ c) h
    begins_opens p (Block s) c h = seq_opens (descent p 0) s c h
    begins_opens p (Atomic s) c h = seq_opens (descent p 0) s (InAtomic p ∷ c) h
    begins_opens p (DStep s) c h = opens_either (in_d_step c) (begins_seq b (descent p 0) s (InDStep p ∷ c)) (one p (settle b c)) (seq_opens (descent p 0) s (InDStep p ∷ c) h) (opens_one p (settle b c))
    begins_opens p (Unless s e) c h = opens_append (begins_seq b (descent p 0) s (Under p e ∷ c)) (begins_seq b (descent p 1) e c) (seq_opens (descent p 0) s (Under p e ∷ c) h.0)

    seq_opens : (q : List Descent) (s : Seq) (c : Control) → HasSteps s → Opens (begins_seq b q s c)
    seq_opens q (Seq' m row) c h = row_opens q row c h

    row_opens : {n : _} (q : List Descent) (row : Row_of-Stmt n) (c : Control) → SomeSteps row → Opens (begins_row b q row c)
    row_opens q end_of-Stmt c h = absurd h
    row_opens q (more_of-Stmt ls s ts rest) c h = begins_opens (q, 0) s (todos q 1 (items-the_row-Stmt _ rest) c) h.0

    any_opens : {n : _} (p : Position) (k : ℕ) (row : Row_of-Seq n) (c : Control) → HasOptions row → Opens (begins_any b p k row c)
    any_opens p k end_of-Seq c h = absurd h
    any_opens p k (more_of-Seq s rest) c h = opens_join (begins_seq b (descent p k) s c) (begins_any b p (k + 1) rest c) (seq_opens (descent p k) s c h.0)

-- ---- each point begins with a filled statement

Begins : Control → Type 0
Begins c = (p : Position) × (x : Basic) × (d : Control) × (c ≡ Todo p x ∷ d) × IsFilled x

all_both : (xs ys : List Control) → AllByRecursion Begins xs → AllByRecursion Begins ys → AllByRecursion Begins (xs ++ ys)
all_both [] ys h k = k
all_both (x ∷ xs) ys h k = (h.0, all_both xs ys h.1 k)

some_steps : {n : _} (row : Row_of-Stmt n) → SomeSteps row → EachStep row
some_steps end_of-Stmt h = absurd h
some_steps (more_of-Stmt ls s ts rest) h = h

some_options : {n : _} (row : Row_of-Seq n) → HasOptions row → EachOption row
some_options end_of-Seq h = absurd h
some_options (more_of-Seq s rest) h = h

own_point : (d : Bool) (p : Position) (x : Basic) (c : Control) → IsFilled x → AllByRecursion Begins (if d then [] else (Todo p x ∷ c) ∷ [])
unfolding Begins
own_point true p x c h = tt
own_point false p x c h = ((p, x, c, refl, h), tt)

mutual
  points_begin : (inside : Bool) (p : Position) (c : Control) (x : Basic) → IsFilled x → AllByRecursion Begins (points_in inside p c x)
  points_begin inside p c (Plain a) h = own_point false p (Plain a) c h
  points_begin inside p c (Goto l) h = tt
  points_begin inside p c Break h = tt
  points_begin inside p c (If' m row) h = all_both (points_options inside p 0 c row) ((Todo p (If' m row) ∷ c) ∷ []) (options_begin inside p 0 c row (some_options row h)) (own_point false p (If' m row) c h)
  points_begin inside p c (Do' m row) h = all_both ((Todo p (Do' m row) ∷ c) ∷ []) (points_options inside p 0 (Back p (Do' m row) ∷ c) row) (own_point false p (Do' m row) c h) (options_begin inside p 0 (Back p (Do' m row) ∷ c) row (some_options row h))
  points_begin inside p c (Block s) h = part_begins inside (descent p 0) c s h
  points_begin inside p c (Atomic s) h = part_begins inside (descent p 0) (InAtomic p ∷ c) s h
  points_begin inside p c (DStep s) h = all_both (points_arm true (descent p 0) (InDStep p ∷ c) s) (if inside then [] else (Todo p (DStep s) ∷ c) ∷ []) (part_begins true (descent p 0) (InDStep p ∷ c) s h) (own_point inside p (DStep s) c h)
  points_begin inside p c (Unless s e) h = all_both (points_arm inside (descent p 1) c e) (points_arm inside (descent p 0) (Under p e ∷ c) s) (part_begins inside (descent p 1) c e h.1) (part_begins inside (descent p 0) (Under p e ∷ c) s h.0)

  part_begins : (inside : Bool) (q : List Descent) (c : Control) (s : Seq) → HasSteps s → AllByRecursion Begins (points_arm inside q c s)
  part_begins inside q c (Seq' m row) h = row_begins inside q 0 c row (some_steps row h)

  row_begins : {n : _} (inside : Bool) (q : List Descent) (i : ℕ) (c : Control) (row : Row_of-Stmt n) → EachStep row → AllByRecursion Begins (points_row inside q i c row)
  row_begins inside q i c end_of-Stmt h = tt
  row_begins inside q i c (more_of-Stmt ls s ts rest) h =
      all_both (points_row inside q (i + 1) c rest) (points_in inside (q, i) (todos q (i + 1) (items-the_row-Stmt _ rest) c) s)
      (row_begins inside q (i + 1) c rest h.1) (points_begin inside (q, i) (todos q (i + 1) (items-the_row-Stmt _ rest) c) s h.0)

  options_begin : {n : _} (inside : Bool) (p : Position) (k : ℕ) (c : Control) (row : Row_of-Seq n) → EachOption row → AllByRecursion Begins (points_options inside p k c row)
  options_begin inside p k c end_of-Seq h = tt
  options_begin inside p k c (more_of-Seq s rest) h =
      all_both (points_options inside p (k + 1) c rest) (points_arm inside (descent p k) c s) (options_begin inside p (k + 1) c rest h.1) (part_begins inside (descent p k) c s h.0)

body_begins : (b : Seq) → IsFilledBody b → AllByRecursion Begins (points_arm false [] [] b)
body_begins (Seq' m row) h = row_begins false [] 0 [] row h

at_place : (cs : List Control) → AllByRecursion Begins cs → (n : ℕ) → (slice_index_or cs n [] ≡ []) ⊎ Begins (slice_index_or cs n [])
at_place [] all n = inl refl
at_place (c ∷ cs) all zero = inr all.0
at_place (c ∷ cs) all (suc n) = at_place cs all.1 n

point_begins : (b : Seq) → IsFilledBody b → (n : ℕ) → (point_at b n ≡ []) ⊎ Begins (point_at b n)
point_begins b h zero = inl refl
point_begins b h (suc n) = at_place (points_arm false [] [] b) (body_begins b h) n

-- ---- so something is offered

offers_open : (b : Seq) (c : Control) → Begins c → Opens (offers b c)
unfolding Begins
offers_open b c (p, x, d, is, filled) =
    subst (λ (e : Control). Opens (offers b e)) (sym is) (opens_append (begins b p x d) (escapes b d) (begins_opens b p x d filled))

first_offer : (b : Seq) (c : Control) → Opens (offers b c) → (o : Offer) × (offer_on (slice_get (levels b c) 0) 0 ≡ Some o)
unfolding Opens
first_offer b c (e, es, rest, is) = (offer_of b e, ap (λ (ls : Levels). offer_on (slice_get (map (map (offer_of b)) ls) 0) 0) is)

module _ (s : State) (filled : HasFilledBodies s.program) (at_nodes : StandAtNodes s) (p : ℕ) where
  -- a process that is offered nothing is at its closing brace
  closed : (y : Stand) → slice_get s.stands p ≡ Some y → IsOfferedNothing s p → y.control ≡ []
  closed y at nothing = by (body_of s.program y.sort) refl (filled y.sort) (at_nodes p y at)
    where
      some : (b : Seq) → body_of s.program y.sort ≡ Some b → (c : Control) → y.control ≡ c → Begins c → ⊥
      some b body c is begin =
          let o = first_offer b c (offers_open b c begin) in
          let found : picked s (pick p 0 0) ≡ Some o.0 =
          ap (offer_at s (pick p 0 0)) at
          ∙ ap (λ (d : Control). offer_on (slice_get (levels_in (body_of s.program y.sort) d) 0) 0) is
          ∙ ap (λ (x : Option Seq). offer_on (slice_get (levels_in x c) 0) 0) body
          ∙ o.1 in
          none-some o.0 (sym (nothing (pick p 0 0) refl) ∙ found)

      at_point : (b : Seq) → body_of s.program y.sort ≡ Some b → (n : ℕ) → y.control ≡ point_at b n → (point_at b n ≡ []) ⊎ Begins (point_at b n) → y.control ≡ []
      at_point b body n is (inl none) = is ∙ none
      at_point b body n is (inr begin) = absurd (some b body (point_at b n) is begin)

      by : (x : Option Seq) → body_of s.program y.sort ≡ x → IfSome x IsFilledBody → (n : ℕ) × (y.control ≡ control_at (body_of s.program y.sort) n) → y.control ≡ []
      by None body f (n, is) = is ∙ ap (λ (o : Option Seq). control_at o n) body
      by (Some b) body f (n, is) = at_point b body n (is ∙ ap (λ (o : Option Seq). control_at o n) body) (point_begins b f n)

  some_wait : (y : Stand) → slice_get s.stands p ≡ Some y → IsOfferedNothing s p → waits_behind s p (in_control s) ≡ [] → ⊥
  some_wait y at nothing = by (in_control s)
    where
      here : (c : Control) → y.control ≡ c → c ≡ [] → waits_left s (last_timeout s) p (body_of s.program y.sort) c ≡ [] → ⊥
      here [] is none h = cc
      here (f ∷ c) is none h = cc

      by : (h : Option ℕ) → waits_behind s p h ≡ [] → ⊥
      by (Some h) none = cc
      by None none =
          here y.control refl (closed y at nothing)
          (ap (waits_at s (last_timeout s) p) (sym at) ∙ none)

  pub waits_exactly : p < length s.stands → (waits s p ≡ [] → is_in p (moves s) ≡ true) × (is_in p (moves s) ≡ true → waits s p ≡ [])
  waits_exactly lives = (by (is_in p (moves s)) refl, moves_without_waiting s p)
    where
      stood : (y : Option Stand) → slice_get s.stands p ≡ y → IsOfferedNothing s p → waits_behind s p (in_control s) ≡ [] → ⊥
      stood None at nothing none = let far = at_end s.stands p at in omega (arith, far, lives)
      stood (Some y) at nothing none = some_wait y at nothing none

      or_other : is_in p (moves s) ≡ false → waits_behind s p (in_control s) ≡ [] → (is_in p (moves s) ≡ true) ⊎ IsOfferedNothing s p → ⊥
      or_other out none (inl takes) = true≢false (sym takes ∙ out)
      or_other out none (inr nothing) = stood (slice_get s.stands p) refl nothing none

      by : (b : Bool) → is_in p (moves s) ≡ b → waits s p ≡ [] → is_in p (moves s) ≡ true
      by true is none = is
      by false is none =
          let same : waits s p ≡ waits_behind s p (in_control s) = ap (λ (b : Bool). if b then [] else waits_behind s p (in_control s)) is in
          absurd (or_other is (sym same ∙ none) (waits_without_moves s p lives none))

-- ---- the states that are kept of a run

pub kept_stand : KeptStatesStandAtNodes
kept_stand pr store cs xs holder lossy p y at = by xs p at
  where
    by : (xs : List Seat) (q : ℕ) → slice_get (map (stand_of pr) xs) q ≡ Some y → (n : ℕ) × (y.control ≡ control_at (body_of pr y.sort) n)
    by [] q h = absurd (none-some y h)
    by (x ∷ xs) zero h = let same = same_Some (stand_of pr x) y h in subst (λ (z : Stand). (n : ℕ) × (z.control ≡ control_at (body_of pr z.sort) n)) same (x.node, refl)
    by (x ∷ xs) (suc q) h = by xs q h
