-- What settling comes to, and what is offered there, weighs no more than the body.
use Rattle.std.proofs.Common.{ℕ, zero, suc, ◌+◌, ◌≤◌, List, [], ◌∷◌, ◌++◌, length, Bool, true, false, Option, Some, None, arith, length-append, if◌then◌else◌}
use Rattle.std.specs.Prelude.{unwrap_or, option_map}
use Rattle.pml_program.specs.declared.program.Seq.{Seq, Seq', Row_of-Stmt, end_of-Stmt, more_of-Stmt, items-the_row-Stmt}
use Rattle.pml_program.specs.declared.program.Basic.{Basic, Plain, Goto, Break, If', Do', Block, Atomic, DStep, Unless, Row_of-Seq, end_of-Seq, more_of-Seq}
use Rattle.promela_process.specs.Control.{Position, Descent, Control, Todo, Back, Under, InAtomic, InDStep, steps, descent, todos, into_arm, all_of, position_of, at, behind_break, in_d_step, move_on, settle_within, settle, most_moves}
use Rattle.promela_process.specs.Offers.{Edge, Levels, one, join, begins, begins_seq, begins_row, begins_any, escapes, offers}
use Rattle.pml_sim.proofs.Weight.{weight_in, weight_part, weight_row, weight_options, AreLight, IsLight, light_row, light_todos, light_at, light_into}

module _ (most : ℕ) (b : Seq) (all : AreLight most (steps b)) where
  abbrev AfterMove : Option Control → Type 0
  AfterMove None = Unit {0}
  AfterMove (Some d) = IsLight most d

  light_broken : (c : Control) → IsLight most c → IsLight most (behind_break c)
  light_broken [] l = tt
  light_broken (Back p s ∷ c) l = l.1
  light_broken (Todo p s ∷ c) l = light_broken c l.1
  light_broken (Under p e ∷ c) l = light_broken c l.1
  light_broken (InAtomic p ∷ c) l = light_broken c l
  light_broken (InDStep p ∷ c) l = light_broken c l

  light_place : (o : Option Position) → IsLight most (unwrap_or (option_map (at (steps b)) o) [])
  light_place None = tt
  light_place (Some p) = light_at most (steps b) p all

  light_moved : (c : Control) → IsLight most c → AfterMove (move_on b c)
  light_moved [] l = tt
  light_moved (Todo p (Goto w) ∷ c) l = light_place (position_of w.text (all_of b))
  light_moved (Todo p Break ∷ c) l = light_broken c l.1
  light_moved (Todo p (Block s) ∷ c) l = light_into most p (Block s) 0 c l.0 l.1
  light_moved (Todo p (Atomic s) ∷ c) l = light_into most p (Atomic s) 0 c l.0 l.1
  light_moved (Todo p (Unless s e) ∷ c) l = light_into most p (Unless s e) 0 c l.0 l.1
  light_moved (Todo p (DStep s) ∷ c) l = by (in_d_step c)
    where
      by : (t : Bool) → AfterMove (if t then Some (into_arm p (DStep s) 0 c) else None)
      by true = light_into most p (DStep s) 0 c l.0 l.1
      by false = tt
  light_moved (Todo p (Plain a) ∷ c) l = tt
  light_moved (Todo p (If' m row) ∷ c) l = tt
  light_moved (Todo p (Do' m row) ∷ c) l = tt
  light_moved (Back p s ∷ c) l = l
  light_moved (Under p e ∷ c) l = l.1
  light_moved (InAtomic p ∷ c) l = l
  light_moved (InDStep p ∷ c) l = l

  light_gone : (c : Control) (o : Option Control) (rest : Control → Control) → IsLight most c → AfterMove o → ((d : Control) → IsLight most d → IsLight most (rest d)) → IsLight most (unwrap_or (option_map rest o) c)
  light_gone c None rest l m h = l
  light_gone c (Some d) rest l m h = h d m

  light_within : (n : ℕ) (c : Control) → IsLight most c → IsLight most (settle_within n b c)
  light_within zero c l = l
  light_within (suc n) c l = light_gone c (move_on b c) (settle_within n b) l (light_moved c l) (λ d m. light_within n d m)

  pub light_settled : (c : Control) → IsLight most c → IsLight most (settle b c)
  unfolding settle
  light_settled c l = light_within (most_moves b) c l

  -- ---- offers

  -- each goes on so
  abbrev pub GoOn : List Edge → Type 0
  GoOn [] = Unit {0}
  GoOn (e ∷ es) = IsLight most e.1 × GoOn es

  -- each level has at most n
  abbrev pub AreFew : ℕ → Levels → Type 0
  AreFew n [] = Unit {0}
  AreFew n (x ∷ xs) = ((length x ≤ n) × GoOn x) × AreFew n xs

  go_both : (xs ys : List Edge) → GoOn xs → GoOn ys → GoOn (xs ++ ys)
  go_both [] ys h k = k
  go_both (x ∷ xs) ys h k = (h.0, go_both xs ys h.1 k)

  fewer : (n m : ℕ) (xs : Levels) → n ≤ m → AreFew n xs → AreFew m xs
  fewer n m [] le h = tt
  fewer n m (x ∷ xs) le h = ((omega (arith, le, h.0.0), h.0.1), fewer n m xs le h.1)

  few_both : (n : ℕ) (xs ys : Levels) → AreFew n xs → AreFew n ys → AreFew n (xs ++ ys)
  few_both n [] ys h k = k
  few_both n (x ∷ xs) ys h k = (h.0, few_both n xs ys h.1 k)

  few_joined : (n m : ℕ) (xs ys : Levels) → AreFew n xs → AreFew m ys → AreFew (n + m) (join xs ys)
  few_joined n m [] ys h k = fewer m (n + m) ys (omega arith) k
  few_joined n m (x ∷ xs) [] h k = fewer n (n + m) (x ∷ xs) (omega arith) h
  few_joined n m (x ∷ xs) (y ∷ ys) h k =
      let e = length-append x y in
      ((omega (arith, e, h.0.0, k.0.0), go_both x y h.0.1 k.0.1), few_joined n m xs ys h.1 k.1)

  mutual
    few_begin : (p : Position) (s : Basic) (c : Control) → weight_in s ≤ most → IsLight most c → AreFew (weight_in s) (begins b p s c)
    few_begin p (Plain a) c w l = ((omega arith, (light_settled c l, tt)), tt)
    few_begin p (Goto x) c w l = ((omega arith, (light_settled (Todo p (Goto x) ∷ c) (w, l), tt)), tt)
    few_begin p Break c w l = ((omega arith, (light_settled (Todo p Break ∷ c) (w, l), tt)), tt)
    few_begin p (If' m row) c w l = fewer (weight_options row) (weight_options row + 1) (begins_any b p 0 row c) (omega arith) (few_any p 0 row c (omega (arith, w)) l)
    few_begin p (Do' m row) c w l =
        fewer (weight_options row) (weight_options row + 1) (begins_any b p 0 row (Back p (Do' m row) ∷ c)) (omega arith) (few_any p 0 row (Back p (Do' m row) ∷ c) (omega (arith, w)) (w, l))
    few_begin p (Block s) c w l = fewer (weight_part s) (weight_part s + 1) (begins_seq b (descent p 0) s c) (omega arith) (few_seq (descent p 0) s c (omega (arith, w)) l)
    few_begin p (Atomic s) c w l = fewer (weight_part s) (weight_part s + 1) (begins_seq b (descent p 0) s (InAtomic p ∷ c)) (omega arith) (few_seq (descent p 0) s (InAtomic p ∷ c) (omega (arith, w)) l)
    few_begin p (DStep s) c w l = by (in_d_step c)
        (fewer (weight_part s) (weight_part s + 1) (begins_seq b (descent p 0) s (InDStep p ∷ c)) (omega arith) (few_seq (descent p 0) s (InDStep p ∷ c) (omega (arith, w)) l))
      where
        by : (t : Bool) → AreFew (weight_part s + 1) (begins_seq b (descent p 0) s (InDStep p ∷ c)) → AreFew (weight_part s + 1) (if t then begins_seq b (descent p 0) s (InDStep p ∷ c) else one p (settle b c))
        by true h = h
        by false h = ((omega arith, (light_settled c l, tt)), tt)
    few_begin p (Unless s e) c w l =
        few_both (weight_part s + weight_part e + 1) (begins_seq b (descent p 0) s (Under p e ∷ c)) (begins_seq b (descent p 1) e c)
        (fewer (weight_part s) (weight_part s + weight_part e + 1) (begins_seq b (descent p 0) s (Under p e ∷ c)) (omega arith) (few_seq (descent p 0) s (Under p e ∷ c) (omega (arith, w)) (omega (arith, w), l)))
        (fewer (weight_part e) (weight_part s + weight_part e + 1) (begins_seq b (descent p 1) e c) (omega arith) (few_seq (descent p 1) e c (omega (arith, w)) l))

    few_seq : (q : List Descent) (s : Seq) (c : Control) → weight_part s ≤ most → IsLight most c → AreFew (weight_part s) (begins_seq b q s c)
    few_seq q (Seq' m row) c w l = few_row q row c w l

    few_row : {n : _} (q : List Descent) (row : Row_of-Stmt n) (c : Control) → weight_row row ≤ most → IsLight most c → AreFew (weight_row row) (begins_row b q row c)
    few_row q end_of-Stmt c w l = tt
    few_row q (more_of-Stmt ls s ts rest) c w l =
        let behind : IsLight most (todos q 1 (items-the_row-Stmt _ rest) c) = light_todos most q 1 (items-the_row-Stmt _ rest) c (light_row most rest (omega (arith, w))) l in
        fewer (weight_in s) (weight_row (more_of-Stmt ls s ts rest)) (begins b (q, 0) s (todos q 1 (items-the_row-Stmt _ rest) c)) (omega arith) (few_begin (q, 0) s (todos q 1 (items-the_row-Stmt _ rest) c) (omega (arith, w)) behind)

    few_any : {n : _} (p : Position) (k : ℕ) (row : Row_of-Seq n) (c : Control) → weight_options row ≤ most → IsLight most c → AreFew (weight_options row) (begins_any b p k row c)
    few_any p k end_of-Seq c w l = tt
    few_any p k (more_of-Seq s rest) c w l =
        few_joined (weight_part s) (weight_options rest) (begins_seq b (descent p k) s c) (begins_any b p (k + 1) rest c) (few_seq (descent p k) s c (omega (arith, w)) l) (few_any p (k + 1) rest c (omega (arith, w)) l)

  few_escapes : (c : Control) → IsLight most c → AreFew most (escapes b c)
  few_escapes [] l = tt
  few_escapes (InDStep p ∷ c) l = tt
  few_escapes (Under p e ∷ c) l =
      few_both most (begins_seq b (descent p 1) e c) (escapes b c) (fewer (weight_part e) most (begins_seq b (descent p 1) e c) l.0 (few_seq (descent p 1) e c l.0 l.1)) (few_escapes c l.1)
  few_escapes (Todo p s ∷ c) l = few_escapes c l.1
  few_escapes (Back p s ∷ c) l = few_escapes c l.1
  few_escapes (InAtomic p ∷ c) l = few_escapes c l

  -- each level has at most as many as the body weighs, and each goes on with what weighs no more
  pub few_offers : (c : Control) → IsLight most c → AreFew most (offers b c)
  few_offers [] l = tt
  few_offers (Todo p s ∷ c) l = few_both most (begins b p s c) (escapes b c) (fewer (weight_in s) most (begins b p s c) l.0 (few_begin p s c l.0 l.1)) (few_escapes c l.1)
  few_offers (Back p s ∷ c) l = tt
  few_offers (Under p e ∷ c) l = tt
  few_offers (InAtomic p ∷ c) l = tt
  few_offers (InDStep p ∷ c) l = tt
