-- How much a body weighs: a bound of how many offers a point of it has, and of the lines of their statements.
use Rattle.std.proofs.Common.{◌≡◌, ℕ, zero, suc, ◌+◌, ◌≤◌, List, [], ◌∷◌, drop, refl, ap, ◌∙◌, arith, slice_get}
use Rattle.std.specs.Prelude.{unwrap_or, option_map}
use mathlib.Core.Former.{Count}
use Rattle.pml_program.specs.declared.program.Stmt.{Stmt}
use Rattle.pml_program.specs.declared.program.Seq.{Seq, Seq', Row_of-Stmt, end_of-Stmt, more_of-Stmt, items-the_row-Stmt}
use Rattle.pml_program.specs.declared.program.Basic.{Basic, Plain, Goto, Break, If, If', Do, Do', Block, Atomic, DStep, Unless, Row_of-Seq, end_of-Seq, more_of-Seq, items-the_row-Seq, items_hidden-the_row-Seq-0}
use Rattle.promela_process.specs.Control.{Position, Descent, Control, Todo, Back, Under, InAtomic, InDStep, steps, arm, descent, todos, behind, into_arm, sequence_at, beyond, at}
use Rattle.promela_process.specs.Offers.{first_line}

-- one for each statement, and its line
abbrev mutual
  pub weight_in : Basic → ℕ
  weight_in (Plain a) = 1
  weight_in (Goto l) = 1
  weight_in Break = 1
  weight_in (If' m row) = weight_options row + 1
  weight_in (Do' m row) = weight_options row + 1
  weight_in (Block s) = weight_part s + 1
  weight_in (Atomic s) = weight_part s + 1
  weight_in (DStep s) = weight_part s + 1
  weight_in (Unless s e) = weight_part s + weight_part e + 1

  pub weight_part : Seq → ℕ
  weight_part (Seq' m row) = weight_row row

  pub weight_row : {n : _} → Row_of-Stmt n → ℕ
  weight_row end_of-Stmt = 0
  weight_row (more_of-Stmt ls s ts rest) = first_line ts 0 + weight_in s + weight_row rest

  pub weight_options : {n : _} → Row_of-Seq n → ℕ
  weight_options end_of-Seq = 0
  weight_options (more_of-Seq s rest) = weight_part s + weight_options rest

-- the same of statements and options in a list
abbrev pub weight_list : List Stmt → ℕ
weight_list [] = 0
weight_list (s ∷ ss) = first_line s.tokens 0 + weight_in s.basic + weight_list ss

abbrev pub weight_parts : List Seq → ℕ
weight_parts [] = 0
weight_parts (s ∷ ss) = weight_part s + weight_parts ss

row_list : {n : _} (row : Row_of-Stmt n) → weight_row row ≡ weight_list (items-the_row-Stmt _ row)
row_list end_of-Stmt = refl
row_list (more_of-Stmt ls s ts rest) = ap (λ n. first_line ts 0 + weight_in s + n) (row_list rest)

options_list : {n : _} (row : Row_of-Seq n) → weight_options row ≡ weight_parts (items-the_row-Seq _ row)
options_list end_of-Seq = refl
options_list (more_of-Seq s rest) = ap (λ n. weight_part s + n) (options_list rest)

pub part_list : (s : Seq) → weight_part s ≡ weight_list (steps s)
part_list (Seq' m row) = row_list row

-- the options of a choice, as a row
abbrev row_of : Basic → (n : Count) × Row_of-Seq n
row_of (If' m row) = (_, row)
row_of (Do' m row) = (_, row)
row_of s = (_, end_of-Seq)

pub weight_if : (ss : List Seq) → weight_in (If ss) ≡ weight_parts ss + 1
weight_if ss = ap (λ n. n + 1) (options_list (row_of (If ss)).1 ∙ ap weight_parts (items_hidden-the_row-Seq-0 ss))

pub weight_do : (ss : List Seq) → weight_in (Do ss) ≡ weight_parts ss + 1
weight_do ss = ap (λ n. n + 1) (options_list (row_of (Do ss)).1 ∙ ap weight_parts (items_hidden-the_row-Seq-0 ss))

-- ---- what weighs at most so much

module _ (most : ℕ) where
  -- each statement
  abbrev pub AreLight : List Stmt → Type 0
  AreLight [] = Unit {0}
  AreLight (s ∷ ss) = (first_line s.tokens 0 + weight_in s.basic ≤ most) × AreLight ss

  -- each frame of what is to do
  abbrev pub IsLight : Control → Type 0
  IsLight [] = Unit {0}
  IsLight (Todo p s ∷ c) = (weight_in s ≤ most) × IsLight c
  IsLight (Back p s ∷ c) = (weight_in s ≤ most) × IsLight c
  IsLight (Under p e ∷ c) = (weight_part e ≤ most) × IsLight c
  IsLight (InAtomic p ∷ c) = IsLight c
  IsLight (InDStep p ∷ c) = IsLight c

  light_list : (ss : List Stmt) → weight_list ss ≤ most → AreLight ss
  light_list [] h = tt
  light_list (s ∷ ss) h = (omega (arith, h), light_list ss (omega (arith, h)))

  pub light_steps : (s : Seq) → weight_part s ≤ most → AreLight (steps s)
  light_steps s h = light_list (steps s) (rw (part_list s) at h)

  pub light_row : {n : _} (row : Row_of-Stmt n) → weight_row row ≤ most → AreLight (items-the_row-Stmt _ row)
  light_row row h = light_list (items-the_row-Stmt _ row) (rw (row_list row) at h)

  light_parts : (ss : List Seq) (k : ℕ) → weight_parts ss ≤ most → AreLight (unwrap_or (option_map steps (slice_get ss k)) [])
  light_parts [] k h = tt
  light_parts (s ∷ ss) zero h = light_steps s (omega (arith, h))
  light_parts (s ∷ ss) (suc k) h = light_parts ss k (omega (arith, h))

  light_part : (s : Basic) (k : ℕ) → weight_in s ≤ most → AreLight (arm s k)
  light_part (Plain a) k h = tt
  light_part (Goto l) k h = tt
  light_part Break k h = tt
  light_part (If' m row) k h = light_parts (items-the_row-Seq _ row) k (let e = options_list row in omega (arith, h, e))
  light_part (Do' m row) k h = light_parts (items-the_row-Seq _ row) k (let e = options_list row in omega (arith, h, e))
  light_part (Block s) k h = light_parts (s ∷ []) k (omega (arith, h))
  light_part (Atomic s) k h = light_parts (s ∷ []) k (omega (arith, h))
  light_part (DStep s) k h = light_parts (s ∷ []) k (omega (arith, h))
  light_part (Unless s e) k h = light_parts (s ∷ e ∷ []) k (omega (arith, h))

  light_part_of : (ss : List Stmt) (i k : ℕ) → AreLight ss → AreLight (unwrap_or (option_map (λ (s : Stmt). arm s.basic k) (slice_get ss i)) [])
  light_part_of [] i k h = tt
  light_part_of (s ∷ ss) zero k h = light_part s.basic k (omega (arith, h.0))
  light_part_of (s ∷ ss) (suc i) k h = light_part_of ss i k h.1

  light_drop : (i : ℕ) (ss : List Stmt) → AreLight ss → AreLight (drop i ss)
  light_drop zero ss h = h
  light_drop (suc i) [] h = tt
  light_drop (suc i) (s ∷ ss) h = light_drop i ss h.1

  pub light_sequence : (b : List Stmt) (q : List Descent) → AreLight b → AreLight (sequence_at b q)
  light_sequence b [] h = h
  light_sequence b (t ∷ q) h = light_part_of (sequence_at b q) t.0 t.1 (light_sequence b q h)

  pub light_todos : (q : List Descent) (i : ℕ) (ss : List Stmt) (c : Control) → AreLight ss → IsLight c → IsLight (todos q i ss c)
  light_todos q i [] c h l = l
  light_todos q i (s ∷ ss) c h l = (omega (arith, h.0), light_todos q (i + 1) ss c h.1 l)

  light_behind : (p : Position) (s : Basic) (k : ℕ) (c : Control) → weight_in s ≤ most → IsLight c → IsLight (behind p s k c)
  light_behind p (Do' m row) k c h l = (h, l)
  light_behind p (Atomic s) k c h l = l
  light_behind p (DStep s) k c h l = l
  light_behind p (Unless s e) zero c h l = (omega (arith, h), l)
  light_behind p (Unless s e) (suc k) c h l = l
  light_behind p (Plain a) k c h l = l
  light_behind p (Goto w) k c h l = l
  light_behind p Break k c h l = l
  light_behind p (If' m row) k c h l = l
  light_behind p (Block s) k c h l = l

  light_behind_of : (p : Position) (ss : List Stmt) (i k : ℕ) (c : Control) → AreLight ss → IsLight c → IsLight (unwrap_or (option_map (λ (s : Stmt). behind p s.basic k c) (slice_get ss i)) [])
  light_behind_of p [] i k c h l = tt
  light_behind_of p (s ∷ ss) zero k c h l = light_behind p s.basic k c (omega (arith, h.0)) l
  light_behind_of p (s ∷ ss) (suc i) k c h l = light_behind_of p ss i k c h.1 l

  light_beyond : (b : List Stmt) (q : List Descent) → AreLight b → IsLight (beyond b q)
  light_beyond b [] h = tt
  light_beyond b (t ∷ q) h =
      let s = light_sequence b q h in
      light_behind_of (q, t.0) (sequence_at b q) t.0 t.1 _ s (light_todos q (t.0 + 1) (drop (t.0 + 1) (sequence_at b q)) (beyond b q) (light_drop (t.0 + 1) (sequence_at b q) s) (light_beyond b q h))

  pub light_at : (b : List Stmt) (p : Position) → AreLight b → IsLight (at b p)
  light_at b p h = light_todos p.0 p.1 (drop p.1 (sequence_at b p.0)) (beyond b p.0) (light_drop p.1 (sequence_at b p.0) (light_sequence b p.0 h)) (light_beyond b p.0 h)

  pub light_into : (p : Position) (s : Basic) (k : ℕ) (c : Control) → weight_in s ≤ most → IsLight c → IsLight (into_arm p s k c)
  light_into p s k c h l = light_todos (descent p k) 0 (arm s k) (behind p s k c) (light_part s k h) (light_behind p s k c h l)
