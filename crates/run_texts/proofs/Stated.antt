-- All statements of a body with their places: each stands at its place, and each that stands at a place is among them.
use Rattle.std.proofs.Common.{◌≡◌, ℕ, zero, suc, ◌+◌, Bool, true, false, ◌||◌, List, [], ◌∷◌, ◌++◌, drop, Option, Some, None, refl, sym, ap, subst, ◌∙◌, arith}
use Rattle.std.specs.Prelude.{slice_get}
use Rattle.std.specs.List.{list_any}
use Rattle.pml_program.specs.declared.program.Stmt.{Stmt}
use Rattle.pml_program.specs.declared.program.Seq.{Seq, Seq', Row_of-Stmt, end_of-Stmt, more_of-Stmt, items-the_row-Stmt}
use Rattle.pml_program.specs.declared.program.Basic.{Basic, Plain, Goto, Break, If', Do', Block, Atomic, DStep, Unless, Row_of-Seq, end_of-Seq, more_of-Seq, items-the_row-Seq}
use Rattle.promela_process.specs.Control.{Descent, Position, steps, arms, descent, basic_at, sequence_at, all_in, all_seq, all_row, all_arms, all_of}
use Rattle.pml_control.proofs.Words.{basic_of, arm_of, steps_of}
use Rattle.pml_control.proofs.Positions.{arm_there}
use Rattle.pml_control.proofs.Reaching.{first_of, rest_of, zero_plus, plus_one}

-- ---- each stands at its place

module _ (bs : List Stmt) where
  abbrev AllStated : List (Position × Stmt) → Type 0
  AllStated [] = Unit {0}
  AllStated (e ∷ es) = (slice_get (sequence_at bs e.0.0) e.0.1 ≡ Some e.1) × AllStated es

  both_stated : (xs ys : List (Position × Stmt)) → AllStated xs → AllStated ys → AllStated (xs ++ ys)
  both_stated [] ys h k = k
  both_stated (x ∷ xs) ys h k = (h.0, both_stated xs ys h.1 k)

  mutual
    stated_in : (p : Position) (x : Basic) → basic_at (sequence_at bs p.0) p.1 ≡ Some x → AllStated (all_in p x)
    stated_in p (Plain a) h = tt
    stated_in p (Goto l) h = tt
    stated_in p Break h = tt
    stated_in p (If' m row) h =
        stated_parts p 0 row (λ j n f. ap (λ k. sequence_at bs (descent p k)) (f ∙ zero_plus j) ∙ arm_there bs p.0 p.1 j (If' m row) h)
    stated_in p (Do' m row) h =
        stated_parts p 0 row (λ j n f. ap (λ k. sequence_at bs (descent p k)) (f ∙ zero_plus j) ∙ arm_there bs p.0 p.1 j (Do' m row) h)
    stated_in p (Block s) h = stated_seq (descent p 0) s (arm_there bs p.0 p.1 0 (Block s) h)
    stated_in p (Atomic s) h = stated_seq (descent p 0) s (arm_there bs p.0 p.1 0 (Atomic s) h)
    stated_in p (DStep s) h = stated_seq (descent p 0) s (arm_there bs p.0 p.1 0 (DStep s) h)
    stated_in p (Unless s e) h =
        both_stated (all_seq (descent p 0) s) (all_seq (descent p 1) e)
        (stated_seq (descent p 0) s (arm_there bs p.0 p.1 0 (Unless s e) h))
        (stated_seq (descent p 1) e (arm_there bs p.0 p.1 1 (Unless s e) h))

    stated_seq : (q : List Descent) (s : Seq) → sequence_at bs q ≡ steps s → AllStated (all_seq q s)
    stated_seq q (Seq' m row) h = stated_row q 0 row h

    stated_row : {n : _} (q : List Descent) (i : ℕ) (row : Row_of-Stmt n) → drop i (sequence_at bs q) ≡ items-the_row-Stmt _ row → AllStated (all_row q i row)
    stated_row q i end_of-Stmt h = tt
    stated_row q i (more_of-Stmt ls s ts rest) h =
        let f = first_of (sequence_at bs q) i _ _ h in (
          f,
          both_stated (all_in (q, i) s) (all_row q (i + 1) rest) (stated_in (q, i) s (ap basic_of f)) (stated_row q (i + 1) rest (rest_of (sequence_at bs q) i _ _ h)),
        )

    stated_parts : {n : _} (p : Position) (k : ℕ) (row : Row_of-Seq n) → ((j n : ℕ) → n ≡ k + j → sequence_at bs (descent p n) ≡ steps_of (slice_get (items-the_row-Seq _ row) j)) → AllStated (all_arms p k row)
    stated_parts p k end_of-Seq h = tt
    stated_parts p k (more_of-Seq s rest) h =
        both_stated (all_seq (descent p k) s) (all_arms p (k + 1) rest) (stated_seq (descent p k) s (h 0 k (omega arith)))
        (stated_parts p (k + 1) rest (λ j n f. h (suc j) n (f ∙ plus_one k j)))

  stated_get : (es : List (Position × Stmt)) (k : ℕ) (e : Position × Stmt) → AllStated es → slice_get es k ≡ Some e → slice_get (sequence_at bs e.0.0) e.0.1 ≡ Some e.1
  stated_get [] k e h g = cc
  stated_get (x ∷ es) zero e h g =
      let y : x ≡ e = cc in subst (λ (z : Position × Stmt). slice_get (sequence_at bs z.0.0) z.0.1 ≡ Some z.1) y h.0
  stated_get (x ∷ es) (suc k) e h g = stated_get es k e h.1 g

pub stated_at : (b : Seq) (k : ℕ) (e : Position × Stmt) → slice_get (all_of b) k ≡ Some e → slice_get (sequence_at (steps b) e.0.0) e.0.1 ≡ Some e.1
stated_at b k e g = stated_get (steps b) (all_of b) k e (stated_seq (steps b) [] b refl) g

-- ---- and each that stands at a place is among them

any_left : {X : Type 0} (f : X → Bool) (xs ys : List X) → list_any f xs ≡ true → list_any f (xs ++ ys) ≡ true
any_left f [] ys h = cc
any_left f (x ∷ xs) ys h = by (f x) (any_left f xs ys) h
  where
    by : (t : Bool) → (list_any f xs ≡ true → list_any f (xs ++ ys) ≡ true) → (t || list_any f xs) ≡ true → (t || list_any f (xs ++ ys)) ≡ true
    by true g h = refl
    by false g h = g h

any_behind : (t u : Bool) → u ≡ true → (t || u) ≡ true
any_behind true u h = refl
any_behind false u h = h

any_right : {X : Type 0} (f : X → Bool) (xs ys : List X) → list_any f ys ≡ true → list_any f (xs ++ ys) ≡ true
any_right f [] ys h = h
any_right f (x ∷ xs) ys h = any_behind (f x) (list_any f (xs ++ ys)) (any_right f xs ys h)

module _ (b : Seq) (f : Position × Stmt → Bool) where
  abbrev bs : List Stmt
  bs = steps b

  -- what one of these does, one of all does
  abbrev In : List (Position × Stmt) → Type 0
  In xs = list_any f xs ≡ true → list_any f (all_of b) ≡ true

  in_left : (xs ys : List (Position × Stmt)) → In (xs ++ ys) → In xs
  in_left xs ys h e = h (any_left f xs ys e)

  in_right : (xs ys : List (Position × Stmt)) → In (xs ++ ys) → In ys
  in_right xs ys h e = h (any_right f xs ys e)

  -- each statement of a sequence, and all inside it
  abbrev Down : List Descent → Type 0
  Down q = (i : ℕ) (s : Stmt) → slice_get (sequence_at bs q) i ≡ Some s → In (((q, i), s) ∷ all_in (q, i) s.basic)

  down_row : {n : _} (q : List Descent) (i : ℕ) (row : Row_of-Stmt n) → In (all_row q i row) → (j m : ℕ) (s : Stmt) → m ≡ i + j → slice_get (items-the_row-Stmt _ row) j ≡ Some s → In (((q, m), s) ∷ all_in (q, m) s.basic)
  down_row q i end_of-Stmt h j m s e g = cc
  down_row q i (more_of-Stmt ls x ts rest) h zero m s e g =
      let own : Stmt = record { labels = ls; basic = x; tokens = ts } in
      let k : i ≡ m = omega arith in
      let y : own ≡ s = cc in
      subst (λ (n : ℕ). In (((q, n), s) ∷ all_in (q, n) s.basic)) k
      (subst (λ (z : Stmt). In (((q, i), z) ∷ all_in (q, i) z.basic)) y (in_left (((q, i), own) ∷ all_in (q, i) x) (all_row q (i + 1) rest) h))
  down_row q i (more_of-Stmt ls x ts rest) h (suc j) m s e g =
      let own : Stmt = record { labels = ls; basic = x; tokens = ts } in
      let k : m ≡ (i + 1) + j = omega arith in
      down_row q (i + 1) rest (in_right (((q, i), own) ∷ all_in (q, i) x) (all_row q (i + 1) rest) h) j m s k g

  down_seq : (q : List Descent) (s : Seq) → In (all_seq q s) → sequence_at bs q ≡ steps s → Down q
  down_seq q (Seq' m row) h e i s g = down_row q 0 row h i i s (sym (zero_plus i)) (ap (λ xs. slice_get xs i) (sym e) ∙ g)

  down_parts : {n : _} (p : Position) (k : ℕ) (row : Row_of-Seq n) → In (all_arms p k row) → (j m : ℕ) (s : Seq) → m ≡ k + j → slice_get (items-the_row-Seq _ row) j ≡ Some s → In (all_seq (descent p m) s)
  down_parts p k end_of-Seq h j m s e g = cc
  down_parts p k (more_of-Seq r rest) h zero m s e g =
      let n : k ≡ m = omega arith in
      let y : r ≡ s = cc in
      subst (λ (l : ℕ). In (all_seq (descent p l) s)) n (subst (λ (z : Seq). In (all_seq (descent p k) z)) y (in_left (all_seq (descent p k) r) (all_arms p (k + 1) rest) h))
  down_parts p k (more_of-Seq r rest) h (suc j) m s e g =
      let n : m ≡ (k + 1) + j = omega arith in down_parts p (k + 1) rest (in_right (all_seq (descent p k) r) (all_arms p (k + 1) rest) h) j m s n g

  down_one : (p : Position) (r : Seq) (k : ℕ) (s : Seq) → In (all_seq (descent p 0) r) → slice_get (r ∷ []) k ≡ Some s → In (all_seq (descent p k) s)
  down_one p r zero s h g = let y : r ≡ s = cc in subst (λ (z : Seq). In (all_seq (descent p 0) z)) y h
  down_one p r (suc k) s h g = cc

  down_in : (p : Position) (x : Basic) → In (all_in p x) → (k : ℕ) (s : Seq) → slice_get (arms x) k ≡ Some s → In (all_seq (descent p k) s)
  down_in p (Plain a) h k s g = cc
  down_in p (Goto l) h k s g = cc
  down_in p Break h k s g = cc
  down_in p (If' m row) h k s g = down_parts p 0 row h k k s (sym (zero_plus k)) g
  down_in p (Do' m row) h k s g = down_parts p 0 row h k k s (sym (zero_plus k)) g
  down_in p (Block r) h k s g = down_one p r k s h g
  down_in p (Atomic r) h k s g = down_one p r k s h g
  down_in p (DStep r) h k s g = down_one p r k s h g
  down_in p (Unless r u) h zero s g =
      let y : r ≡ s = cc in subst (λ (z : Seq). In (all_seq (descent p 0) z)) y (in_left (all_seq (descent p 0) r) (all_seq (descent p 1) u) h)
  down_in p (Unless r u) h (suc zero) s g =
      let y : u ≡ s = cc in subst (λ (z : Seq). In (all_seq (descent p 1) z)) y (in_right (all_seq (descent p 0) r) (all_seq (descent p 1) u) h)
  down_in p (Unless r u) h (suc (suc k)) s g = cc

  nothing : (q : List Descent) → sequence_at bs q ≡ [] → Down q
  nothing q e i s g = let z : slice_get [] i ≡ Some s = ap (λ xs. slice_get xs i) (sym e) ∙ g in cc

  down_on : (q : List Descent) (t : Descent) (o : Option Stmt) → slice_get (sequence_at bs q) t.0 ≡ o → Down q → Down (t ∷ q)
  down_on q t None e d = nothing (t ∷ q) (ap (λ o. arm_of o t.1) e)
  down_on q t (Some y) e d = by (slice_get (arms y.basic) t.1) refl
    where
      by : (o : Option Seq) → slice_get (arms y.basic) t.1 ≡ o → Down (t ∷ q)
      by None g = nothing (t ∷ q) (ap (λ o. arm_of o t.1) e ∙ ap steps_of g)
      by (Some s) g =
          down_seq (t ∷ q) s (down_in (q, t.0) y.basic (in_right (((q, t.0), y) ∷ []) (all_in (q, t.0) y.basic) (d t.0 y e)) t.1 s g)
          (ap (λ o. arm_of o t.1) e ∙ ap steps_of g)

  down : (q : List Descent) → Down q
  down [] = down_seq [] b (λ h. h) refl
  down (t ∷ q) = down_on q t (slice_get (sequence_at bs q) t.0) refl (down q)

  pub is_among_all : (p : Position) (s : Stmt) → slice_get (sequence_at bs p.0) p.1 ≡ Some s → f (p, s) ≡ true → list_any f (all_of b) ≡ true
  is_among_all p s h e = down p.0 p.1 s h (ap (λ t. t || list_any f (all_in p s.basic)) e)
