-- The statements that edges offer have their texts.
use Rattle.std.proofs.Common.{◌≡◌, ℕ, zero, suc, ◌+◌, ◌<◌, Bool, true, false, List, [], ◌∷◌, ◌++◌, length, map, replicate, Option, None, refl, sym, ap, subst, ◌∙◌, arith}
use Rattle.std.specs.Prelude.{slice_index_or}
use Rattle.pml_program.specs.declared.program.Stmt.{Stmt}
use Rattle.pml_program.specs.declared.program.Seq.{Seq}
use Rattle.promela_process.specs.Control.{Control, Todo}
use Rattle.pml_control.proofs.Reaching.{zero_plus, plus_zero, plus_one}
use Rattle.pml_control.proofs.Circling.{within}
use Rattle.pml_flow.specs.declared.level.Way.{Way}
use Rattle.pml_flow.specs.declared.edge.Edge.{Edge}
use Rattle.pml_flow.specs.Ways.{Ways, Site}
use Rattle.pml_flow.specs.Arms.{all_of}
use Rattle.promela_process.specs.Offers.{statement_at, stated}
use Rattle.pml_flow.specs.Marked.{flag}
use Rattle.pml_flow.specs.Composed.{text_by, line_by, text_if, text_at, offer_line_at, texts_from, offer_lines_from, texts_of}
use Rattle.pml_flow.specs.Graph.{first_position, numbered_at, is_end_at, Tables, edge, edges_level, own_levels, site_of, flag_edges}
use Rattle.pml_flow.proofs.Beginning.{read, Own}
use Rattle.pml_flow.proofs.Ending.{read_map, flag_keeps, flag_sets, flag-length}
use Rattle.pml_flow.proofs.Parting.{arm_is, all_append}
use Rattle.pml_flow.proofs.Sharing.{all_ways}

-- ---- what edges offer is marked, of the first n numbers

abbrev pub AllMarked : ℕ → List Bool → List Edge → Type 0
AllMarked n bs [] = Unit {0}
AllMarked n bs (e ∷ es) = (e.statement < n → is_end_at bs e.statement ≡ true) × AllMarked n bs es

edges_keep : (bs : List Bool) (es : List Edge) (n : ℕ) → is_end_at bs n ≡ true → is_end_at (flag_edges bs es) n ≡ true
edges_keep bs [] n h = h
edges_keep bs (e ∷ es) n h = edges_keep (flag bs e.statement) es n (flag_keeps bs e.statement n h)

edges_flag : (n : ℕ) (bs : List Bool) (es : List Edge) → length bs ≡ n → AllMarked n (flag_edges bs es) es
edges_flag n bs [] l = tt
edges_flag n bs (e ∷ es) l = (
  (λ h. edges_keep (flag bs e.statement) es e.statement (flag_sets bs e.statement (omega (arith, h, l)))),
  edges_flag n (flag bs e.statement) es (flag-length bs e.statement ∙ l),
)

none-length : (k : ℕ) → length (replicate k false) ≡ k
none-length zero = refl
none-length (suc k) = ap suc (none-length k)

-- ---- of ways

abbrev pub MayLevel : ℕ → List Bool → List Way → Type 0
MayLevel n bs [] = Unit {0}
MayLevel n bs (w ∷ ws) = (w.statement < n → is_end_at bs w.statement ≡ true) × MayLevel n bs ws

abbrev pub MayLevels : ℕ → List Bool → Ways → Type 0
MayLevels n bs [] = Unit {0}
MayLevels n bs (ws ∷ rest) = MayLevel n bs ws × MayLevels n bs rest

split_left : (n : ℕ) (bs : List Bool) (xs ys : List Edge) → AllMarked n bs (xs ++ ys) → AllMarked n bs xs
split_left n bs [] ys h = tt
split_left n bs (x ∷ xs) ys h = (h.0, split_left n bs xs ys h.1)

split_right : (n : ℕ) (bs : List Bool) (xs ys : List Edge) → AllMarked n bs (xs ++ ys) → AllMarked n bs ys
split_right n bs [] ys h = h
split_right n bs (x ∷ xs) ys h = split_right n bs xs ys h.1

may_append : (n : ℕ) (bs : List Bool) (xs ys : Ways) → MayLevels n bs xs → MayLevels n bs ys → MayLevels n bs (xs ++ ys)
may_append n bs [] ys h k = k
may_append n bs (x ∷ xs) ys h k = (h.0, may_append n bs xs ys h.1 k)

module _ (n : ℕ) (bs : List Bool) (t : Tables) where
  may_level : (ws : List Way) → AllMarked n bs (edges_level t ws) → MayLevel n bs ws
  may_level [] h = tt
  may_level (w ∷ ws) h = (
    (split_right n bs (edges_level t ws) (edge t w ∷ []) h).0,
    may_level ws (split_left n bs (edges_level t ws) (edge t w ∷ []) h),
  )

  may_levels : (ws : Ways) → AllMarked n bs (all_of (map (edges_level t) ws)) → MayLevels n bs ws
  may_levels [] h = tt
  may_levels (w ∷ ws) h = (
    may_level w (split_left n bs (edges_level t w) (all_of (map (edges_level t) ws)) h),
    may_levels ws (split_right n bs (edges_level t w) (all_of (map (edges_level t) ws)) h),
  )

  may_site : (ss : List Site) (k : ℕ) → AllMarked n bs (all_of (all_of (map (own_levels t) ss))) → MayLevels n bs (site_of ss k).ways
  may_site [] k h = tt
  may_site (s ∷ ss) zero h =
      may_levels s.ways (split_left n bs (all_of (own_levels t s)) (all_of (all_of (map (own_levels t) ss))) (subst (λ es. AllMarked n bs es) (all_append (own_levels t s) (all_of (map (own_levels t) ss))) h))
  may_site (s ∷ ss) (suc k) h =
      may_site ss k (split_right n bs (all_of (own_levels t s)) (all_of (all_of (map (own_levels t) ss))) (subst (λ es. AllMarked n bs es) (all_append (own_levels t s) (all_of (map (own_levels t) ss))) h))

  may_ways : (ss : List Site) (ks : List ℕ) → AllMarked n bs (all_of (all_of (map (own_levels t) ss))) → MayLevels n bs (all_ways ss ks)
  may_ways ss [] h = tt
  may_ways ss (k ∷ ks) h = may_append n bs (site_of ss k).ways (all_ways ss ks) (may_site ss k h) (may_ways ss ks h)

-- what a position shows is marked
pub shown_marked : (n : ℕ) (t : Tables) (ss : List Site) (ks : List ℕ) → MayLevels n (flag_edges (replicate n false) (all_of (all_of (map (own_levels t) ss)))) (all_ways ss ks)
shown_marked n t ss ks =
    let es : List Edge = all_of (all_of (map (own_levels t) ss)) in
    may_ways n (flag_edges (replicate n false) es) t ss ks (edges_flag n (replicate n false) es (none-length n))

-- ---- what is marked has its text

texts_read : (ds : List (Option Stmt)) (k : ℕ) (bs : List Bool) (n : ℕ) → is_end_at bs n ≡ true → slice_index_or (texts_from ds k bs) n [] ≡ text_by (slice_index_or ds (k + n) None)
texts_read ds k [] n h = cc
texts_read ds k (x ∷ bs) zero h =
    ap (λ m. text_if m (slice_index_or ds k None)) h ∙ ap (λ i. text_by (slice_index_or ds i None)) (sym (plus_zero k))
texts_read ds k (x ∷ bs) (suc n) h = texts_read ds (k + 1) bs n h ∙ ap (λ i. text_by (slice_index_or ds i None)) (plus_one k n)

lines_read : (ds : List (Option Stmt)) (k : ℕ) (bs : List Bool) (n : ℕ) → is_end_at bs n ≡ true → slice_index_or (offer_lines_from ds k bs) n 0 ≡ line_by (slice_index_or ds (k + n) None)
lines_read ds k [] n h = cc
lines_read ds k (x ∷ bs) zero h = ap (λ i. line_by (slice_index_or ds i None)) (sym (plus_zero k))
lines_read ds k (x ∷ bs) (suc n) h = lines_read ds (k + 1) bs n h ∙ ap (λ i. line_by (slice_index_or ds i None)) (plus_one k n)

module _ (b : Seq) (cs : List Control) where
  -- the statement with a way's number
  way_is : {X : Type 0} (f : Option Stmt → X) (w : Way) → Own b cs w → f (slice_index_or (map (stated b) cs) w.statement None) ≡ f (statement_at b (first_position (numbered_at cs w.statement)))
  way_is f w o =
      let c : Control = Todo o.position o.statement ∷ o.after in
      ap f (read_map (stated b) cs w.statement c None o.stands)
      ∙ ap (λ (d : Control). f (statement_at b (first_position d))) (sym (read cs w.statement c [] o.stands))

  pub line_is : (bs : List Bool) (w : Way) → (w.statement < length cs → is_end_at bs w.statement ≡ true) → Own b cs w → offer_line_at (texts_of (map (stated b) cs) bs) w.statement ≡ line_by (statement_at b (first_position (numbered_at cs w.statement)))
  line_is bs w h o =
      lines_read (map (stated b) cs) 0 bs w.statement (h (within cs w.statement (Todo o.position o.statement ∷ o.after) o.stands))
      ∙ ap (λ i. line_by (slice_index_or (map (stated b) cs) i None)) (zero_plus w.statement)
      ∙ way_is line_by w o

  pub text_is : (bs : List Bool) (w : Way) → (w.statement < length cs → is_end_at bs w.statement ≡ true) → Own b cs w → text_at (texts_of (map (stated b) cs) bs) w.statement ≡ text_by (statement_at b (first_position (numbered_at cs w.statement)))
  text_is bs w h o =
      arm_is (texts_from (map (stated b) cs) 0 bs) w.statement
      ∙ texts_read (map (stated b) cs) 0 bs w.statement (h (within cs w.statement (Todo o.position o.statement ∷ o.after) o.stands))
      ∙ ap (λ i. text_by (slice_index_or (map (stated b) cs) i None)) (zero_plus w.statement)
      ∙ way_is text_by w o
