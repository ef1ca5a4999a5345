-- The lines of nodes, and which of them are valid end points.
use Rattle.std.proofs.Common.{◌≡◌, ◌⊎◌, inl, inr, MatchBool, ℕ, zero, suc, ◌+◌, ◌<◌, ◌≤◌, Bool, true, false, cond, List, [], ◌∷◌, length, map, replicate, Option, Some, None, refl, sym, ap, ◌∙◌, arith}
use Rattle.std.specs.Prelude.{slice_get, slice_index_or, slice_set, nat_lt}
use Rattle.std.proofs.lemmas.Bool.Decides.{nat_tests}
use Rattle.pml_program.specs.declared.program.Stmt.{Stmt}
use Rattle.pml_program.specs.declared.program.Seq.{Seq}
use Rattle.promela_process.specs.Control.{Control, Todo, Back, Under, InAtomic, InDStep, at, settle, steps, sequence_at, basic_at}
use Rattle.pml_control.proofs.Words.{basic_of}
use Rattle.pml_control.specs.Told.{told_of}
use Rattle.pml_control.proofs.Reaching.{IsAt, all_at-get, at_arm, zero_plus, plus_zero, plus_one}
use Rattle.pml_control.proofs.Positions.{stands}
use Rattle.pml_control.proofs.Telling.{Holds}
use Rattle.pml_control.proofs.Covering.{covered_at}
use Rattle.pml_control.proofs.Circling.{got, within, same_some as same}
use Rattle.pml_flow.specs.Points.{points_of}
use Rattle.promela_process.specs.Offers.{statement_at, stated, line_at}
use Rattle.pml_flow.specs.Marked.{line_of, has_end, IsValidEnd, at_end, by_label, lines_from, flag, flag_if, marked}
use Rattle.pml_flow.specs.Graph.{kept, rank, is_end_at}
use Rattle.pml_flow.proofs.Beginning.{read}
use Rattle.pml_flow.proofs.Begun.{begun}
use Rattle.pml_flow.proofs.Differing.{one_node}

-- ---- lines

pub read_map : {X Y : Type 0} (f : X → Y) (xs : List X) (k : ℕ) (x : X) (d : Y) → slice_get xs k ≡ Some x → slice_index_or (map f xs) k d ≡ f x
read_map f [] k x d h = cc
read_map f (y ∷ xs) zero x d h = let e : y ≡ x = cc in ap f e
read_map f (y ∷ xs) (suc k) x d h = read_map f xs k x d h

module _ (b : Seq) (line : ℕ) (cs : List Control) where
  pub lines_by : (k : ℕ) (os : List (Option ℕ)) (xs : List Control) → length os ≡ length xs → Holds b cs k xs → lines_from line (map (stated b) cs) k os ≡ map (line_at b line) (kept os xs)
  lines_by k [] [] e h = refl
  lines_by k (None ∷ os) (x ∷ xs) e h =
      let z = read_map (stated b) cs k x None (ap (slice_get cs) (sym (plus_zero k)) ∙ h zero x refl) in
      ap (λ (o : Option Stmt). line_of o line ∷ lines_from line (map (stated b) cs) (k + 1) os) z
      ∙ ap (λ ls. line_at b line x ∷ ls) (lines_by (k + 1) os xs (omega (arith, e)) (λ i y g. ap (slice_get cs) (plus_one k i) ∙ h (suc i) y g))
  lines_by k (Some j ∷ os) (x ∷ xs) e h = lines_by (k + 1) os xs (omega (arith, e)) (λ i y g. ap (slice_get cs) (plus_one k i) ∙ h (suc i) y g)
  lines_by k [] (x ∷ xs) e h = cc
  lines_by k (o ∷ os) [] e h = cc

lt_false : (a b : ℕ) → nat_lt a b ≡ false → b ≤ a
lt_false a b h = grind (arith, nat_tests)

-- ---- valid end points

set_keeps : (bs : List Bool) (m n : ℕ) → is_end_at bs n ≡ true → is_end_at (slice_set bs m true) n ≡ true
set_keeps [] m n h = h
set_keeps (x ∷ bs) zero zero h = refl
set_keeps (x ∷ bs) zero (suc n) h = h
set_keeps (x ∷ bs) (suc m) zero h = h
set_keeps (x ∷ bs) (suc m) (suc n) h = set_keeps bs m n h

set_sound : (bs : List Bool) (m n : ℕ) → is_end_at (slice_set bs m true) n ≡ true → (m ≡ n) ⊎ (is_end_at bs n ≡ true)
set_sound [] m n h = inr h
set_sound (x ∷ bs) zero zero h = inl refl
set_sound (x ∷ bs) zero (suc n) h = inr h
set_sound (x ∷ bs) (suc m) zero h = inr h
set_sound (x ∷ bs) (suc m) (suc n) h = by_case (set_sound bs m n h)
  where
    by_case : (m ≡ n) ⊎ (is_end_at bs n ≡ true) → (suc m ≡ suc n) ⊎ (is_end_at bs n ≡ true)
    by_case (inl e) = inl (ap suc e)
    by_case (inr e) = inr e

set_sets : (bs : List Bool) (m : ℕ) → m < length bs → is_end_at (slice_set bs m true) m ≡ true
set_sets [] m h = absurd (omega (arith, h))
set_sets (x ∷ bs) zero h = refl
set_sets (x ∷ bs) (suc m) h = set_sets bs m (omega (arith, h))

set-length : (bs : List Bool) (m : ℕ) → length (slice_set bs m true) ≡ length bs
set-length [] m = refl
set-length (x ∷ bs) zero = refl
set-length (x ∷ bs) (suc m) = ap suc (set-length bs m)

pub flag_keeps : (bs : List Bool) (m n : ℕ) → is_end_at bs n ≡ true → is_end_at (flag bs m) n ≡ true
flag_keeps bs m n h = by_case (nat_lt m (length bs))
  where
    by_case : (t : Bool) → is_end_at (cond t (slice_set bs m true) bs) n ≡ true
    by_case true = set_keeps bs m n h
    by_case false = h

flag_sound : (bs : List Bool) (m n : ℕ) → is_end_at (flag bs m) n ≡ true → (m ≡ n) ⊎ (is_end_at bs n ≡ true)
flag_sound bs m n h = by_case (nat_lt m (length bs)) h
  where
    by_case : (t : Bool) → is_end_at (cond t (slice_set bs m true) bs) n ≡ true → (m ≡ n) ⊎ (is_end_at bs n ≡ true)
    by_case true h = set_sound bs m n h
    by_case false h = inr h

pub flag_sets : (bs : List Bool) (m : ℕ) → m < length bs → is_end_at (flag bs m) m ≡ true
flag_sets bs m h = by_case (nat_lt m (length bs)) refl
  where
    by_case : (t : Bool) → nat_lt m (length bs) ≡ t → is_end_at (cond t (slice_set bs m true) bs) m ≡ true
    by_case true e = set_sets bs m h
    by_case false e = let l = lt_false m (length bs) e in absurd (omega (arith, h, l))

pub flag-length : (bs : List Bool) (m : ℕ) → length (flag bs m) ≡ length bs
flag-length bs m = by_case (nat_lt m (length bs))
  where
    by_case : (t : Bool) → length (cond t (slice_set bs m true) bs) ≡ length bs
    by_case true = set-length bs m
    by_case false = refl

marked_keeps : (ds : List (Option Stmt)) (k : ℕ) (bs : List Bool) (ts : List ℕ) (n : ℕ) → is_end_at bs n ≡ true → is_end_at (marked ds k bs ts) n ≡ true
marked_keeps ds k bs [] n h = h
marked_keeps ds k bs (t ∷ ts) n h =
    by_case (has_end (slice_index_or ds k None)) (λ xs g. marked_keeps ds (k + 1) xs ts n g)
  where
    by_case : (m : Bool) → ((xs : List Bool) → is_end_at xs n ≡ true → is_end_at (marked ds (k + 1) xs ts) n ≡ true) → is_end_at (marked ds (k + 1) (flag_if m bs t) ts) n ≡ true
    by_case true rest = rest (flag bs t) (flag_keeps bs t n h)
    by_case false rest = rest bs h

-- a number that leads to node n
record Cause (ds : List (Option Stmt)) (k : ℕ) (ts : List ℕ) (n : ℕ) : Type 0 where
  index : ℕ
  leads : slice_get ts index ≡ Some n
  has : has_end (slice_index_or ds (k + index) None) ≡ true

later : (ds : List (Option Stmt)) (k t : ℕ) (ts : List ℕ) (n : ℕ) → Cause ds (k + 1) ts n → Cause ds k (t ∷ ts) n
later ds k t ts n c = record {
  index = suc c.index;
  leads = c.leads;
  has = ap (λ i. has_end (slice_index_or ds i None)) (sym (plus_one k c.index)) ∙ c.has;
}

marked_sound : (ds : List (Option Stmt)) (k : ℕ) (bs : List Bool) (ts : List ℕ) (n : ℕ) → is_end_at (marked ds k bs ts) n ≡ true → (is_end_at bs n ≡ true) ⊎ Cause ds k ts n
marked_sound ds k bs [] n h = inl h
marked_sound ds k bs (t ∷ ts) n h =
    by_case (has_end (slice_index_or ds k None)) refl (λ xs g. marked_sound ds (k + 1) xs ts n g) h
  where
    on : (is_end_at bs n ≡ true) ⊎ Cause ds (k + 1) ts n → (is_end_at bs n ≡ true) ⊎ Cause ds k (t ∷ ts) n
    on (inl e) = inl e
    on (inr c) = inr (later ds k t ts n c)

    first : has_end (slice_index_or ds k None) ≡ true → (t ≡ n) ⊎ (is_end_at bs n ≡ true) → (is_end_at bs n ≡ true) ⊎ Cause ds k (t ∷ ts) n
    first e (inl g) = inr (record { index = 0; leads = ap Some g; has = ap (λ i. has_end (slice_index_or ds i None)) (plus_zero k) ∙ e })
    first e (inr g) = inl g

    by_flag : has_end (slice_index_or ds k None) ≡ true → (is_end_at (flag bs t) n ≡ true) ⊎ Cause ds (k + 1) ts n → (is_end_at bs n ≡ true) ⊎ Cause ds k (t ∷ ts) n
    by_flag e (inl g) = first e (flag_sound bs t n g)
    by_flag e (inr c) = inr (later ds k t ts n c)

    by_case : (m : Bool) → has_end (slice_index_or ds k None) ≡ m → ((xs : List Bool) → is_end_at (marked ds (k + 1) xs ts) n ≡ true → (is_end_at xs n ≡ true) ⊎ Cause ds (k + 1) ts n) → is_end_at (marked ds (k + 1) (flag_if m bs t) ts) n ≡ true → (is_end_at bs n ≡ true) ⊎ Cause ds k (t ∷ ts) n
    by_case true e rest g = by_flag e (rest (flag bs t) g)
    by_case false e rest g = on (rest bs g)

marked_sets : (ds : List (Option Stmt)) (k : ℕ) (bs : List Bool) (ts : List ℕ) (i n : ℕ) → slice_get ts i ≡ Some n → has_end (slice_index_or ds (k + i) None) ≡ true → n < length bs → is_end_at (marked ds k bs ts) n ≡ true
marked_sets ds k bs [] i n h e l = cc
marked_sets ds k bs (t ∷ ts) zero n h e l =
    let g : t ≡ n = cc in
    let f : has_end (slice_index_or ds k None) ≡ true = ap (λ i. has_end (slice_index_or ds i None)) (sym (plus_zero k)) ∙ e in
    marked_keeps ds (k + 1) (flag_if (has_end (slice_index_or ds k None)) bs t) ts n
    (ap (λ m. is_end_at (flag_if m bs t) n) f ∙ ap (λ m. is_end_at (flag bs m) n) g ∙ flag_sets bs n l)
marked_sets ds k bs (t ∷ ts) (suc i) n h e l =
    by_case (has_end (slice_index_or ds k None)) (λ xs m. marked_sets ds (k + 1) xs ts i n h f m)
  where
    f : has_end (slice_index_or ds ((k + 1) + i) None) ≡ true
    f = ap (λ j. has_end (slice_index_or ds j None)) (plus_one k i) ∙ e

    by_case : (m : Bool) → ((xs : List Bool) → n < length xs → is_end_at (marked ds (k + 1) xs ts) n ≡ true) → is_end_at (marked ds (k + 1) (flag_if m bs t) ts) n ≡ true
    by_case true rest = rest (flag bs t) (omega (arith, l, flag-length bs t))
    by_case false rest = rest bs l

none_set : (k n : ℕ) → is_end_at (replicate k false) n ≡ false
none_set zero n = refl
none_set (suc k) zero = refl
none_set (suc k) (suc n) = none_set k n

replicate-length : (k : ℕ) → length (replicate k false) ≡ k
replicate-length zero = refl
replicate-length (suc k) = ap suc (replicate-length k)

module _ (b : Seq) (ts : List ℕ) (long : length ts ≡ length (told_of b)) (target_at : (t : ℕ) (c : Control) → slice_get (told_of b) t ≡ Some c → slice_get (points_of b) (rank ts t) ≡ Some (settle b c)) where
  abbrev cs : List Control
  cs = told_of b

  whole : Holds b cs 0 cs
  whole k x e = ap (slice_get cs) (zero_plus k) ∙ e

  abbrev flags : List Bool
  flags = flag (replicate (length (points_of b)) false) 0

  abbrev es : List Bool
  es = marked (map (stated b) cs) 0 flags ts

  is_at : (k : ℕ) (c : Control) → slice_get cs k ≡ Some c → IsAt (steps b) c
  is_at k c h = all_at-get (steps b) cs k c (at_arm (steps b) [] [] b refl refl) h

  -- what has such a label in front is its position
  labelled : (x c : Control) → has_end (stated b x) ≡ true → IsAt (steps b) x → c ≡ settle b x → IsValidEnd b c
  labelled [] c h i e = cc
  labelled (Todo p s ∷ d) c h i e = by_label p h (ap (settle b) (begun (steps b) p s d i) ∙ sym e)
  labelled (Back p s ∷ d) c h i e = cc
  labelled (Under p s ∷ d) c h i e = cc
  labelled (InAtomic p ∷ d) c h i e = cc
  labelled (InDStep p ∷ d) c h i e = cc

  sound : (n : ℕ) (c : Control) → slice_get (points_of b) n ≡ Some c → is_end_at es n ≡ true → IsValidEnd b c
  sound n c h e = by_case (marked_sound (map (stated b) cs) 0 flags ts n e)
    where
      first : (0 ≡ n) ⊎ (is_end_at (replicate (length (points_of b)) false) n ≡ true) → IsValidEnd b c
      first (inl g) = let z : [] ≡ c = same (slice_get (points_of b) n) [] c (ap (slice_get (points_of b)) (sym g)) h in at_end (sym z)
      first (inr g) = let z : true ≡ false = sym g ∙ none_set (length (points_of b)) n in cc

      by_case : (is_end_at flags n ≡ true) ⊎ Cause (map (stated b) cs) 0 ts n → IsValidEnd b c
      by_case (inl g) = first (flag_sound (replicate (length (points_of b)) false) 0 n g)
      by_case (inr k) =
          let l = within ts k.index n k.leads in
          let x = got cs k.index (omega (arith, l, long)) in
          let f : has_end (stated b x.0) ≡ true = ap has_end (sym (read_map (stated b) cs k.index x.0 None x.1)) ∙ ap (λ i. has_end (slice_index_or (map (stated b) cs) i None)) (sym (zero_plus k.index)) ∙ k.has in
          let r : rank ts k.index ≡ n = read ts k.index n 0 k.leads in
          labelled x.0 c f (is_at k.index x.0 x.1) (same (slice_get (points_of b) n) c (settle b x.0) h (ap (slice_get (points_of b)) (sym r) ∙ target_at k.index x.0 x.1))

  complete : (n : ℕ) (c : Control) → slice_get (points_of b) n ≡ Some c → IsValidEnd b c → is_end_at es n ≡ true
  complete n c h (at_end e) =
      let z : n ≡ 0 = one_node b n 0 c h (ap Some (sym e)) in
      let l : 0 < length (replicate (length (points_of b)) false) = omega (arith, replicate-length (length (points_of b))) in
      ap (is_end_at es) z
      ∙ marked_keeps (map (stated b) cs) 0 flags ts 0 (flag_sets (replicate (length (points_of b)) false) 0 l)
  complete n c h (by_label p f e) = by_statement (statement_at b p) refl f
    where
      by_statement : (o : Option Stmt) → statement_at b p ≡ o → has_end o ≡ true → is_end_at es n ≡ true
      by_statement None g f = cc
      by_statement (Some s) g f =
          let a : basic_at (sequence_at (steps b) p.0) p.1 ≡ Some s.basic = ap basic_of g in
          let k = covered_at b cs whole p s.basic a in
          let l = within cs k.post (at (steps b) p) k.is in
          let t = got ts k.post (omega (arith, l, long)) in
          let r : rank ts k.post ≡ t.0 = read ts k.post t.0 0 t.1 in
          let x : slice_get (points_of b) t.0 ≡ Some c = ap (slice_get (points_of b)) (sym r) ∙ target_at k.post (at (steps b) p) k.is ∙ ap Some e in
          let z : t.0 ≡ n = one_node b t.0 n c x h in
          let w : stated b (at (steps b) p) ≡ Some s = ap (stated b) (stands (steps b) p.0 p.1 s.basic a) ∙ g in
          let v : has_end (slice_index_or (map (stated b) cs) (0 + k.post) None) ≡ true =
          ap (λ i. has_end (slice_index_or (map (stated b) cs) i None)) (zero_plus k.post) ∙ ap has_end (read_map (stated b) cs k.post (at (steps b) p) None k.is ∙ w) ∙ f in
          let m = within (points_of b) n c h in
          marked_sets (map (stated b) cs) 0 flags ts k.post n (t.1 ∙ ap Some z) v (omega (arith, m, replicate-length (length (points_of b)), flag-length (replicate (length (points_of b)) false) 0))

  pub ends_are : (n : ℕ) (c : Control) → slice_get (points_of b) n ≡ Some c → MatchBool (is_end_at es n) (IsValidEnd b c) (IsValidEnd b c → ⊥)
  ends_are n c h = by_case (is_end_at es n) refl
    where
      by_case : (t : Bool) → is_end_at es n ≡ t → MatchBool t (IsValidEnd b c) (IsValidEnd b c → ⊥)
      by_case true e = sound n c h e
      by_case false e = λ v. let z : true ≡ false = sym (complete n c h v) ∙ e in cc
