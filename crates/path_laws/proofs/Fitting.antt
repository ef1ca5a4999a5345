-- What is to do in a body: each frame is of a statement that stands in it, and so is each offer.
use Rattle.std.proofs.Common.{◌≡◌, ℕ, zero, suc, ◌+◌, List, [], ◌∷◌, ◌++◌, drop, Bool, true, false, Option, Some, None, refl, sym, ap, ◌∙◌, if◌then◌else◌}
use Rattle.std.specs.Prelude.{slice_get}
use Rattle.pml_program.specs.declared.program.Stmt.{Stmt}
use Rattle.pml_program.specs.declared.program.Seq.{Seq, Seq', Row_of-Stmt, end_of-Stmt, more_of-Stmt, items-the_row-Stmt}
use Rattle.pml_program.specs.declared.program.Basic.{Basic, Plain, Goto, Break, If', Do', Block, Atomic, DStep, Unless, Row_of-Seq, end_of-Seq, more_of-Seq, items-the_row-Seq}
use Rattle.promela_process.specs.Control.{Position, Descent, Control, Todo, Back, Under, InAtomic, InDStep, steps, arm, descent, todos, behind, into_arm, basic_at, sequence_at, beyond, at, all_of, position_of, behind_break, in_d_step, move_on, settle_within, settle, most_moves}
use Rattle.pml_control.proofs.Words.{steps_of, behind_of, basic_of, at_position, go_on}
use Rattle.promela_process.specs.Offers.{Edge, Levels, one, join, begins, begins_seq, begins_row, begins_any, escapes, offers}
use Rattle.pml_control.proofs.Positions.{arm_there}
use Rattle.pml_control.proofs.Reaching.{first_of, rest_of, zero_plus, plus_zero, plus_one}

module _ (b : Seq) where
  -- this statement stands at the place
  abbrev pub IsStated : Position → Basic → Type 0
  IsStated p s = basic_at (sequence_at (steps b) p.0) p.1 ≡ Some s

  -- each frame is of a statement that stands at its place
  abbrev pub Fits : Control → Type 0
  Fits [] = Unit {0}
  Fits (Todo p s ∷ c) = IsStated p s × Fits c
  Fits (Back p s ∷ c) = IsStated p s × Fits c
  Fits (Under p e ∷ c) = ((s : Seq) × IsStated p (Unless s e)) × Fits c
  Fits (InAtomic p ∷ c) = Fits c
  Fits (InDStep p ∷ c) = Fits c

  -- ---- from a place on

  todos_fit : (q : List Descent) (i : ℕ) (ss : List Stmt) (c : Control) → drop i (sequence_at (steps b) q) ≡ ss → Fits c → Fits (todos q i ss c)
  todos_fit q i [] c is f = f
  todos_fit q i (s ∷ ss) c is f =
      (ap basic_of (first_of (sequence_at (steps b) q) i s ss is), todos_fit q (i + 1) ss c (rest_of (sequence_at (steps b) q) i s ss is) f)

  behind_fits : (p : Position) (s : Basic) (k : ℕ) (c : Control) → IsStated p s → Fits c → Fits (behind p s k c)
  behind_fits p (Do' m row) k c is f = (is, f)
  behind_fits p (Atomic s) k c is f = f
  behind_fits p (DStep s) k c is f = f
  behind_fits p (Unless s e) zero c is f = ((s, is), f)
  behind_fits p (Unless s e) (suc k) c is f = f
  behind_fits p (Plain x) k c is f = f
  behind_fits p (Goto l) k c is f = f
  behind_fits p Break k c is f = f
  behind_fits p (If' m row) k c is f = f
  behind_fits p (Block s) k c is f = f

  into_fits : (p : Position) (s : Basic) (k : ℕ) (c : Control) → IsStated p s → Fits c → Fits (into_arm p s k c)
  into_fits p s k c is f = todos_fit (descent p k) 0 (arm s k) (behind p s k c) (arm_there (steps b) p.0 p.1 k s is) (behind_fits p s k c is f)

  beyond_fits : (q : List Descent) → Fits (beyond (steps b) q)
  beyond_fits [] = tt
  beyond_fits (t ∷ q) =
      by (slice_get (sequence_at (steps b) q) t.0) refl (todos_fit q (t.0 + 1) (drop (t.0 + 1) (sequence_at (steps b) q)) (beyond (steps b) q) refl (beyond_fits q))
    where
      by : (o : Option Stmt) → slice_get (sequence_at (steps b) q) t.0 ≡ o → Fits (todos q (t.0 + 1) (drop (t.0 + 1) (sequence_at (steps b) q)) (beyond (steps b) q))
          → Fits (behind_of (q, t.0) o t.1 (todos q (t.0 + 1) (drop (t.0 + 1) (sequence_at (steps b) q)) (beyond (steps b) q)))
      by None e f = tt
      by (Some s) e f = behind_fits (q, t.0) s.basic t.1 (todos q (t.0 + 1) (drop (t.0 + 1) (sequence_at (steps b) q)) (beyond (steps b) q)) (ap basic_of e) f

  pub at_fits : (p : Position) → Fits (at (steps b) p)
  at_fits p = todos_fit p.0 p.1 (drop p.1 (sequence_at (steps b) p.0)) (beyond (steps b) p.0) refl (beyond_fits p.0)

  -- ---- settling

  abbrev MoveFits : Option Control → Type 0
  MoveFits None = Unit {0}
  MoveFits (Some d) = Fits d

  broken_fits : (c : Control) → Fits c → Fits (behind_break c)
  broken_fits [] f = tt
  broken_fits (Back p s ∷ c) f = f.1
  broken_fits (Todo p s ∷ c) f = broken_fits c f.1
  broken_fits (Under p e ∷ c) f = broken_fits c f.1
  broken_fits (InAtomic p ∷ c) f = broken_fits c f
  broken_fits (InDStep p ∷ c) f = broken_fits c f

  place_fits : (o : Option Position) → Fits (at_position (steps b) o)
  place_fits None = tt
  place_fits (Some p) = at_fits p

  move_fits : (c : Control) → Fits c → MoveFits (move_on b c)
  move_fits [] f = tt
  move_fits (Todo p (Goto w) ∷ c) f = place_fits (position_of w.text (all_of b))
  move_fits (Todo p Break ∷ c) f = broken_fits c f.1
  move_fits (Todo p (Block s) ∷ c) f = into_fits p (Block s) 0 c f.0 f.1
  move_fits (Todo p (Atomic s) ∷ c) f = into_fits p (Atomic s) 0 c f.0 f.1
  move_fits (Todo p (Unless s e) ∷ c) f = into_fits p (Unless s e) 0 c f.0 f.1
  move_fits (Todo p (DStep s) ∷ c) f = by (in_d_step c)
    where
      by : (t : Bool) → MoveFits (if t then Some (into_arm p (DStep s) 0 c) else None)
      by true = into_fits p (DStep s) 0 c f.0 f.1
      by false = tt
  move_fits (Todo p (Plain a) ∷ c) f = tt
  move_fits (Todo p (If' m row) ∷ c) f = tt
  move_fits (Todo p (Do' m row) ∷ c) f = tt
  move_fits (Back p s ∷ c) f = f
  move_fits (Under p e ∷ c) f = f.1
  move_fits (InAtomic p ∷ c) f = f
  move_fits (InDStep p ∷ c) f = f

  gone_fits : (c : Control) (o : Option Control) (rest : Control → Control) → Fits c → MoveFits o → ((d : Control) → Fits d → Fits (rest d)) → Fits (go_on c o rest)
  gone_fits c None rest f m h = f
  gone_fits c (Some d) rest f m h = h d m

  within_fits : (n : ℕ) (c : Control) → Fits c → Fits (settle_within n b c)
  within_fits zero c f = f
  within_fits (suc n) c f = gone_fits c (move_on b c) (settle_within n b) f (move_fits c f) (λ d m. within_fits n d m)

  pub settle_fits : (c : Control) → Fits c → Fits (settle b c)
  unfolding settle
  settle_fits c f = within_fits (most_moves b) c f

  -- ---- offers

  -- its statement stands in the body, and what follows it fits
  abbrev pub IsSound : Edge → Type 0
  IsSound e = ((s : Basic) × IsStated e.0 s) × Fits e.1

  abbrev pub AreSound : List Edge → Type 0
  AreSound [] = Unit {0}
  AreSound (e ∷ es) = IsSound e × AreSound es

  abbrev pub Sound : Levels → Type 0
  Sound [] = Unit {0}
  Sound (x ∷ xs) = AreSound x × Sound xs

  both_sound : (xs ys : List Edge) → AreSound xs → AreSound ys → AreSound (xs ++ ys)
  both_sound [] ys h k = k
  both_sound (x ∷ xs) ys h k = (h.0, both_sound xs ys h.1 k)

  levels_sound : (xs ys : Levels) → Sound xs → Sound ys → Sound (xs ++ ys)
  levels_sound [] ys h k = k
  levels_sound (x ∷ xs) ys h k = (h.0, levels_sound xs ys h.1 k)

  join_sound : (xs ys : Levels) → Sound xs → Sound ys → Sound (join xs ys)
  join_sound [] ys h k = k
  join_sound (x ∷ xs) [] h k = h
  join_sound (x ∷ xs) (y ∷ ys) h k = (both_sound x y h.0 k.0, join_sound xs ys h.1 k.1)

  one_sound : (p : Position) (s : Basic) (c : Control) → IsStated p s → Fits c → Sound (one p c)
  one_sound p s c is f = ((((s, is), f), tt), tt)

  -- the statements of each option, the first of which is arm k
  abbrev Options : {n : _} → Position → ℕ → Row_of-Seq n → Type 0
  Options p k row = (j : ℕ) → sequence_at (steps b) (descent p (k + j)) ≡ steps_of (slice_get (items-the_row-Seq _ row) j)

  options_of : {n : _} (p : Position) (s : Basic) (row : Row_of-Seq n) → ((j : ℕ) → sequence_at (steps b) (descent p j) ≡ steps_of (slice_get (items-the_row-Seq _ row) j)) → Options p 0 row
  options_of p s row each j = ap (λ (k : ℕ). sequence_at (steps b) (descent p k)) (zero_plus j) ∙ each j

  mutual
    begin_sound : (p : Position) (s : Basic) (c : Control) → IsStated p s → Fits c → Sound (begins b p s c)
    begin_sound p (Plain a) c is f = one_sound p (Plain a) (settle b c) is (settle_fits c f)
    begin_sound p (Goto x) c is f = one_sound p (Goto x) (settle b (Todo p (Goto x) ∷ c)) is (settle_fits (Todo p (Goto x) ∷ c) (is, f))
    begin_sound p Break c is f = one_sound p Break (settle b (Todo p Break ∷ c)) is (settle_fits (Todo p Break ∷ c) (is, f))
    begin_sound p (If' m row) c is f = any_sound p 0 row c (options_of p (If' m row) row (λ j. arm_there (steps b) p.0 p.1 j (If' m row) is)) f
    begin_sound p (Do' m row) c is f = any_sound p 0 row (Back p (Do' m row) ∷ c) (options_of p (Do' m row) row (λ j. arm_there (steps b) p.0 p.1 j (Do' m row) is)) (is, f)
    begin_sound p (Block s) c is f = seq_sound (descent p 0) s c (arm_there (steps b) p.0 p.1 0 (Block s) is) f
    begin_sound p (Atomic s) c is f = seq_sound (descent p 0) s (InAtomic p ∷ c) (arm_there (steps b) p.0 p.1 0 (Atomic s) is) f
    begin_sound p (DStep s) c is f = by (in_d_step c) (seq_sound (descent p 0) s (InDStep p ∷ c) (arm_there (steps b) p.0 p.1 0 (DStep s) is) f)
      where
        by : (t : Bool) → Sound (begins_seq b (descent p 0) s (InDStep p ∷ c)) → Sound (if t then begins_seq b (descent p 0) s (InDStep p ∷ c) else one p (settle b c))
        by true h = h
        by false h = one_sound p (DStep s) (settle b c) is (settle_fits c f)
    begin_sound p (Unless s e) c is f =
        levels_sound (begins_seq b (descent p 0) s (Under p e ∷ c)) (begins_seq b (descent p 1) e c)
        (seq_sound (descent p 0) s (Under p e ∷ c) (arm_there (steps b) p.0 p.1 0 (Unless s e) is) ((s, is), f))
        (seq_sound (descent p 1) e c (arm_there (steps b) p.0 p.1 1 (Unless s e) is) f)

    seq_sound : (q : List Descent) (s : Seq) (c : Control) → sequence_at (steps b) q ≡ steps s → Fits c → Sound (begins_seq b q s c)
    seq_sound q (Seq' m row) c is f = row_sound q row c is f

    row_sound : {n : _} (q : List Descent) (row : Row_of-Stmt n) (c : Control) → sequence_at (steps b) q ≡ items-the_row-Stmt _ row → Fits c → Sound (begins_row b q row c)
    row_sound q end_of-Stmt c is f = tt
    row_sound q (more_of-Stmt ls s ts rest) c is f =
        begin_sound (q, 0) s (todos q 1 (items-the_row-Stmt _ rest) c) (ap (λ (xs : List Stmt). basic_at xs 0) is)
        (todos_fit q 1 (items-the_row-Stmt _ rest) c (ap (drop 1) is) f)

    any_sound : {n : _} (p : Position) (k : ℕ) (row : Row_of-Seq n) (c : Control) → Options p k row → Fits c → Sound (begins_any b p k row c)
    any_sound p k end_of-Seq c is f = tt
    any_sound p k (more_of-Seq s rest) c is f =
        join_sound (begins_seq b (descent p k) s c) (begins_any b p (k + 1) rest c)
        (seq_sound (descent p k) s c (ap (λ (j : ℕ). sequence_at (steps b) (descent p j)) (sym (plus_zero k)) ∙ is 0) f)
        (any_sound p (k + 1) rest c (λ j. ap (λ (i : ℕ). sequence_at (steps b) (descent p i)) (plus_one k j) ∙ is (suc j)) f)

  escapes_sound : (c : Control) → Fits c → Sound (escapes b c)
  escapes_sound [] f = tt
  escapes_sound (InDStep p ∷ c) f = tt
  escapes_sound (Under p e ∷ c) f =
      levels_sound (begins_seq b (descent p 1) e c) (escapes b c) (seq_sound (descent p 1) e c (arm_there (steps b) p.0 p.1 1 (Unless f.0.0 e) f.0.1) f.1) (escapes_sound c f.1)
  escapes_sound (Todo p s ∷ c) f = escapes_sound c f.1
  escapes_sound (Back p s ∷ c) f = escapes_sound c f.1
  escapes_sound (InAtomic p ∷ c) f = escapes_sound c f

  -- each offer is of a statement that stands in the body, and what follows it fits
  pub offers_sound : (c : Control) → Fits c → Sound (offers b c)
  offers_sound [] f = tt
  offers_sound (Todo p s ∷ c) f = levels_sound (begins b p s c) (escapes b c) (begin_sound p s c f.0 f.1) (escapes_sound c f.1)
  offers_sound (Back p s ∷ c) f = tt
  offers_sound (Under p e ∷ c) f = tt
  offers_sound (InAtomic p ∷ c) f = tt
  offers_sound (InDStep p ∷ c) f = tt
