-- The ways that a position shows are its own, and those of the escapes above it.
use Rattle.std.proofs.Common.{◌≡◌, ℕ, zero, suc, ◌+◌, Bool, true, false, List, [], ◌∷◌, ◌++◌, length, map, Option, Some, None, refl, sym, ap, ◌∙◌, arith, if◌then◌else◌}
use Rattle.std.specs.Prelude.{slice_get}
use Rattle.pml_program.specs.declared.program.Seq.{Seq, Seq', Row_of-Stmt, end_of-Stmt, more_of-Stmt}
use Rattle.pml_program.specs.declared.program.Basic.{Basic, Plain, Goto, Break, If', Do', Block, Atomic, DStep, Unless, Row_of-Seq, end_of-Seq, more_of-Seq}
use Rattle.pml_control.proofs.Reaching.{zero_plus, plus_zero, plus_one}
use Rattle.pml_flow.specs.Ways.{Ways, Site, way, own_step, one, outer, site, bare, count_arm, count_row, count_options, ways_arm, ways_row, ways_options, sites_in, sites_arm, sites_escape, sites_row, sites_options, sites_of}
use Rattle.pml_flow.specs.Graph.{kept, site_of}
use Rattle.pml_flow.proofs.Whole as whole
use Rattle.pml_flow.proofs.Whole.{sites_whole}
use Rattle.pml_flow.proofs.Beginning.{read, append_nil}
use Rattle.pml_flow.proofs.Rows.{sites_row_list, count_sites_arm, count_sites_escape, count_sites_row, count_sites_options}

map_append : {X Y : Type 0} (f : X → Y) (xs ys : List X) → map f (xs ++ ys) ≡ map f xs ++ map f ys
map_append f [] ys = refl
map_append f (x ∷ xs) ys = ap (λ r. f x ∷ r) (map_append f xs ys)

get_left : {X : Type 0} (xs ys : List X) (i : ℕ) (x : X) → slice_get xs i ≡ Some x → slice_get (xs ++ ys) i ≡ Some x
get_left [] ys i x h = cc
get_left (z ∷ xs) ys zero x h = h
get_left (z ∷ xs) ys (suc i) x h = get_left xs ys i x h

get_right : {X : Type 0} (xs ys : List X) (i : ℕ) (x : X) → slice_get ys i ≡ Some x → slice_get (xs ++ ys) (length xs + i) ≡ Some x
get_right [] ys i x h = ap (slice_get ys) (zero_plus i) ∙ h
get_right (z ∷ xs) ys i x h =
    let n : suc (length xs) + i ≡ suc (length xs + i) = omega arith in
    ap (slice_get (z ∷ (xs ++ ys))) n ∙ get_right xs ys i x h

module _ (ss : List Site) where
  -- the ways of these numbers
  abbrev pub all_ways : List ℕ → Ways
  all_ways [] = []
  all_ways (k ∷ ks) = (site_of ss k).ways ++ all_ways ks

  -- a position with all that it shows
  abbrev pub full : Site → whole.Site
  full s = whole.site s.atomic s.inside (all_ways s.shows)

  -- these stand from number k on
  abbrev Here : ℕ → List Site → Type 0
  Here k xs = (i : ℕ) (x : Site) → slice_get xs i ≡ Some x → slice_get ss (k + i) ≡ Some x

  here_left : (k : ℕ) (xs ys : List Site) → Here k (xs ++ ys) → Here k xs
  here_left k xs ys h i x g = h i x (get_left xs ys i x g)

  here_right : (k m : ℕ) (xs ys : List Site) → k + length xs ≡ m → Here k (xs ++ ys) → Here m ys
  here_right k m xs ys e h i x g =
      let n : m + i ≡ k + (length xs + i) = omega (arith, e) in
      ap (slice_get ss) n ∙ h (length xs + i) x (get_right xs ys i x g)

  here_head : (k : ℕ) (x : Site) (xs : List Site) → Here k (x ∷ xs) → slice_get ss k ≡ Some x
  here_head k x xs h = ap (slice_get ss) (sym (plus_zero k)) ∙ h zero x refl

  here_tail : (k : ℕ) (x : Site) (xs : List Site) → Here k (x ∷ xs) → Here (k + 1) xs
  here_tail k x xs h i y g = ap (slice_get ss) (plus_one k i) ∙ h (suc i) y g

  -- its own ways, and those above
  own_is : (k : ℕ) (a : Option ℕ) (inside : Bool) (ns ks : List ℕ) (ws : Ways) → slice_get ss k ≡ Some (site a inside ns ws) → whole.site a inside (all_ways (k ∷ ks)) ≡ whole.site a inside (ws ++ all_ways ks)
  own_is k a inside ns ks ws h =
      ap (λ (s : Site). whole.site a inside (s.ways ++ all_ways ks)) (read ss k (site a inside ns ws) (bare None false) h)

  -- a d_step
  gate_is : (k : ℕ) (a : Option ℕ) (inside : Bool) (ks : List ℕ) (ws : Ways) → slice_get ss k ≡ Some (site a inside (if inside then [] else (k ∷ ks)) (if inside then [] else ws)) → whole.site a inside (all_ways (if inside then [] else (k ∷ ks))) ≡ whole.site a inside (if inside then [] else (ws ++ all_ways ks))
  gate_is k a true ks ws h = refl
  gate_is k a false ks ws h = own_is k a false (k ∷ ks) ks ws h

  -- an escape
  escape_own : (last : ℕ) (inside : Bool) (a : Option ℕ) (ks : List ℕ) (e : Seq) → Here (last + 1) (sites_escape last inside a ks e) → (site_of ss (last + 1)).ways ≡ ways_arm last inside e
  escape_own last inside a ks (Seq' m row) h =
      let s : Site = site a inside ((last + 1) ∷ []) (ways_row (last + 1) inside row) in
      ap (λ (x : Site). x.ways) (read ss (last + 1) s (bare None false) (here_head (last + 1) s (sites_row (last + 1) inside a ks row) h))

  mutual
    full_in : (last : ℕ) (inside : Bool) (a : Option ℕ) (ks : List ℕ) (x : Basic) → Here (last + 1) (sites_in last inside a ks x) → map full (sites_in last inside a ks x) ≡ whole.sites_in last inside a (all_ways ks) x
    full_in last inside a ks (Plain y) h =
        ap (λ (s : whole.Site). s ∷ []) (own_is (last + 1) a inside ((last + 1) ∷ ks) ks (one (way (last + 1) last)) (here_head (last + 1) _ [] h))
    full_in last inside a ks (Goto l) h = refl
    full_in last inside a ks Break h = refl
    full_in last inside a ks (If' m row) h =
        let xs : List Site = sites_options last inside a ks row in
        let k : ℕ = (last + count_options row) + 1 in
        let s : Site = site a inside (k ∷ ks) (ways_options last inside row) in
        let n = count_sites_options last inside a ks row in
        map_append full xs (s ∷ [])
        ∙ ap (λ r. r ++ full s ∷ []) (full_options last inside a ks row (here_left (last + 1) xs (s ∷ []) h))
        ∙ ap (λ (x : whole.Site). whole.sites_options last inside a (all_ways ks) row ++ x ∷ []) (own_is k a inside (k ∷ ks) ks (ways_options last inside row) (here_head k s [] (here_right (last + 1) k xs (s ∷ []) (omega (arith, n)) h)))
    full_in last inside a ks (Do' m row) h =
        let xs : List Site = sites_options (last + 1) inside a ks row in
        let z : Site = bare a inside in
        let s : Site = site a inside ((last + 1) ∷ ks) (ways_options (last + 1) inside row) in
        ap (λ r. full s ∷ r) (map_append full xs (z ∷ []) ∙ ap (λ r. r ++ full z ∷ []) (full_options (last + 1) inside a ks row (here_left (last + 1 + 1) xs (z ∷ []) (here_tail (last + 1) s (xs ++ z ∷ []) h))))
        ∙ ap (λ (x : whole.Site). x ∷ (whole.sites_options (last + 1) inside a (all_ways ks) row ++ full z ∷ [])) (own_is (last + 1) a inside ((last + 1) ∷ ks) ks (ways_options (last + 1) inside row) (here_head (last + 1) s (xs ++ z ∷ []) h))
    full_in last inside a ks (Block s) h =
        let xs : List Site = sites_arm last inside a ks s in
        map_append full xs (bare a inside ∷ [])
        ∙ ap (λ r. r ++ full (bare a inside) ∷ []) (full_arm last inside a ks s (here_left (last + 1) xs (bare a inside ∷ []) h))
    full_in last inside a ks (Atomic s) h =
        let xs : List Site = sites_arm last inside (outer a (last + 1)) ks s in
        map_append full xs (bare a inside ∷ [])
        ∙ ap (λ r. r ++ full (bare a inside) ∷ []) (full_arm last inside (outer a (last + 1)) ks s (here_left (last + 1) xs (bare a inside ∷ []) h))
    full_in last inside a ks (DStep s) h =
        let xs : List Site = sites_arm last true a [] s in
        let k : ℕ = (last + count_arm s) + 1 in
        let z : Site = site a inside (if inside then [] else (k ∷ ks)) (if inside then [] else (one (own_step last s))) in
        let n = count_sites_arm last true a [] s in
        map_append full xs (z ∷ [])
        ∙ ap (λ r. r ++ full z ∷ []) (full_arm last true a [] s (here_left (last + 1) xs (z ∷ []) h))
        ∙ ap (λ (x : whole.Site). whole.sites_arm last true a [] s ++ x ∷ []) (gate_is k a inside ks (one (own_step last s)) (here_head k z [] (here_right (last + 1) k xs (z ∷ []) (omega (arith, n)) h)))
    full_in last inside a ks (Unless s e) h =
        let es : List Site = sites_escape last inside a ks e in
        let z : Site = bare a inside in
        let last' : ℕ = last + count_arm e in
        let xs : List Site = sites_arm last' inside a ((last + 1) ∷ ks) s in
        let n = count_sites_escape last inside a ks e in
        let i = here_left (last + 1) es (xs ++ z ∷ []) h in
        let r = here_right (last + 1) (last' + 1) es (xs ++ z ∷ []) (omega (arith, n)) h in
        map_append full es (xs ++ z ∷ [])
        ∙ ap (λ r. r ++ map full (xs ++ z ∷ [])) (full_escape last inside a ks e i)
        ∙ ap (λ r. whole.sites_escape last inside a (all_ways ks) e ++ r) (
        map_append full xs (z ∷ [])
        ∙ ap (λ r. r ++ full z ∷ []) (full_arm last' inside a ((last + 1) ∷ ks) s (here_left (last' + 1) xs (z ∷ []) r))
        ∙ ap (λ (ws : Ways). whole.sites_arm last' inside a (ws ++ all_ways ks) s ++ full z ∷ []) (escape_own last inside a ks e i)
        )

    full_arm : (last : ℕ) (inside : Bool) (a : Option ℕ) (ks : List ℕ) (s : Seq) → Here (last + 1) (sites_arm last inside a ks s) → map full (sites_arm last inside a ks s) ≡ whole.sites_arm last inside a (all_ways ks) s
    full_arm last inside a ks (Seq' m row) h =
        ap (λ r. full (bare a inside) ∷ r) (full_row (last + 1) inside a ks row (here_tail (last + 1) (bare a inside) (sites_row (last + 1) inside a ks row) h))

    full_escape : (last : ℕ) (inside : Bool) (a : Option ℕ) (ks : List ℕ) (s : Seq) → Here (last + 1) (sites_escape last inside a ks s) → map full (sites_escape last inside a ks s) ≡ whole.sites_escape last inside a (all_ways ks) s
    full_escape last inside a ks (Seq' m row) h =
        let s : Site = site a inside ((last + 1) ∷ []) (ways_row (last + 1) inside row) in
        ap (λ r. full s ∷ r) (full_row (last + 1) inside a ks row (here_tail (last + 1) s (sites_row (last + 1) inside a ks row) h))
        ∙ ap (λ (x : whole.Site). x ∷ whole.sites_row (last + 1) inside a (all_ways ks) row) (
        own_is (last + 1) a inside ((last + 1) ∷ []) [] (ways_row (last + 1) inside row) (here_head (last + 1) s (sites_row (last + 1) inside a ks row) h)
        ∙ ap (whole.site a inside) (append_nil (ways_row (last + 1) inside row))
        )

    full_row : {n : _} (last : ℕ) (inside : Bool) (a : Option ℕ) (ks : List ℕ) (row : Row_of-Stmt n) → Here (last + 1) (sites_row last inside a ks row) → map full (sites_row last inside a ks row) ≡ whole.sites_row last inside a (all_ways ks) row
    full_row last inside a ks end_of-Stmt h = refl
    full_row last inside a ks (more_of-Stmt ls s ts rest) h =
        let xs : List Site = sites_row last inside a ks rest in
        let ys : List Site = sites_in (last + count_row rest) inside a ks s in
        let n = count_sites_row last inside a ks rest in
        map_append full xs ys
        ∙ ap (λ r. r ++ map full ys) (full_row last inside a ks rest (here_left (last + 1) xs ys h))
        ∙ ap (λ r. whole.sites_row last inside a (all_ways ks) rest ++ r) (full_in (last + count_row rest) inside a ks s (here_right (last + 1) ((last + count_row rest) + 1) xs ys (omega (arith, n)) h))

    full_options : {n : _} (last : ℕ) (inside : Bool) (a : Option ℕ) (ks : List ℕ) (row : Row_of-Seq n) → Here (last + 1) (sites_options last inside a ks row) → map full (sites_options last inside a ks row) ≡ whole.sites_options last inside a (all_ways ks) row
    full_options last inside a ks end_of-Seq h = refl
    full_options last inside a ks (more_of-Seq s rest) h =
        let xs : List Site = sites_options last inside a ks rest in
        let ys : List Site = sites_arm (last + count_options rest) inside a ks s in
        let n = count_sites_options last inside a ks rest in
        map_append full xs ys
        ∙ ap (λ r. r ++ map full ys) (full_options last inside a ks rest (here_left (last + 1) xs ys h))
        ∙ ap (λ r. whole.sites_options last inside a (all_ways ks) rest ++ r) (full_arm (last + count_options rest) inside a ks s (here_right (last + 1) ((last + count_options rest) + 1) xs ys (omega (arith, n)) h))

  full_by : (b : Seq) → ss ≡ sites_of b → map full (sites_of b) ≡ sites_whole b
  full_by (Seq' m row) e =
      let rows = sites_row_list false None [] 0 row in
      let xs : List Site = sites_row 0 false None [] row in
      let all : ss ≡ bare None false ∷ xs = e ∙ ap (λ r. bare None false ∷ r) (sym rows) in
      let h : Here 1 xs = λ i x g. ap (λ ys. slice_get ys (1 + i)) all ∙ ap (slice_get (bare None false ∷ xs)) (let n : 1 + i ≡ suc i = omega arith in n) ∙ g in
      ap (λ r. full (bare None false) ∷ map full r) (sym rows)
      ∙ ap (λ r. full (bare None false) ∷ r) (full_row 0 false None [] row h)

-- all of a body
pub full_is : (b : Seq) → map (full (sites_of b)) (sites_of b) ≡ sites_whole b
full_is b = full_by (sites_of b) b refl

pub kept_map : {X Y : Type 0} (f : X → Y) (os : List (Option ℕ)) (xs : List X) → kept os (map f xs) ≡ map f (kept os xs)
kept_map f [] xs = refl
kept_map f (o ∷ os) [] = refl
kept_map f (None ∷ os) (x ∷ xs) = ap (λ r. f x ∷ r) (kept_map f os xs)
kept_map f (Some j ∷ os) (x ∷ xs) = kept_map f os xs

-- what a mapped one comes from
pub from_map : {X Y : Type 0} (f : X → Y) (xs : List X) (n : ℕ) (y : Y) → slice_get (map f xs) n ≡ Some y → (x : X) × (slice_get xs n ≡ Some x) × (f x ≡ y)
from_map f [] n y h = cc
from_map f (x ∷ xs) zero y h = (x, refl, (let e : f x ≡ y = cc in e))
from_map f (x ∷ xs) (suc n) y h = from_map f xs n y h
