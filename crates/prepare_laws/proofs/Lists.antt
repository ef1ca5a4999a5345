-- Tokens that are of no list of initialisers stay.
use Rattle.std.proofs.Common.{◌≡◌, ◌≤◌, ◌<◌, ◌⊎◌, inl, inr, ℕ, zero, suc, ◌+◌, ◌-◌, ◌*◌, Bool, true, false, cond, ◌&&◌, ◌==◌, nat_lt, List, [], ◌∷◌, length, drop, refl, sym, ap, ◌∙◌, arith}
use Rattle.std.proofs.lemmas.Bool.{false≢true}
use Rattle.std.proofs.lemmas.List.{length-drop}
use Rattle.prepare.specs.Written.{Written}
use Rattle.prepare.specs.Stretches.{stretches}
use Rattle.pml_token.specs.declared.token.Kind.{Kind}
use Rattle.listed_values.specs.declared.course.ListMode.{ListMode}
use Rattle.listed_values.specs.declared.course.Within.{Within}
use Rattle.listed_values.specs.declared.course.ListCourse.{ListCourse}
use Rattle.listed_values.specs.declared.changes.ValueChange.{ValueChange}
use Rattle.listed_values.specs.declared.changes.ValueChange.TheVariants as change
use Rattle.listed_values.specs.Lists.{count_at, are_same, behind_brace}
use Rattle.listed_values.specs.Courses.{start, behind, declares, listed, outside, is_front, mode_of, within_behind, is_first}
use Rattle.listed_values.specs.Changes.{changes_by, changes, change_within}
use Rattle.prepare_laws.specs.Lists.{tokens_of, ListsAlone, nothing, token, list}
use Rattle.prepare_laws.proofs.OpenSince.{true_lt}

-- ---- within a list

above : (l n : ℕ) → l ≡ suc n → nat_lt 0 l ≡ true
above l n e = true_lt 0 l (omega (arith, e))

less_by : (b : Bool) (l n : ℕ) (w u : Within) → b ≡ true → l ≡ suc n → w.left ≡ l - 1 → (cond b w u).left ≡ n
less_by true l n w u p e f = omega (arith, e, f)
less_by false l n w u p e f = absurd (false≢true p)

less : (c : ListCourse) (b : Bool) (k : Kind) (ts : List Written) (n : ℕ) → c.within.left ≡ suc n → (within_behind c b k ts).left ≡ n
less c b k ts n e =
    let m = listed c k ts in
    let w : Within = record { left = c.within.left - 1; count = c.within.count; mode = c.within.mode } in
    let u : Within = record { left = m * 2 + 5; count = m; mode = mode_of (is_front c.stage) (are_same (behind_brace ts)) b } in
    less_by (nat_lt 0 c.within.left) c.within.left n w (cond (m == 0) outside u) (above c.within.left n e) e refl

-- behind as many tokens as are left of it no list goes on
through : (n : ℕ) (c : ListCourse) (b : Bool) (ts : List Written) → c.within.left ≡ n
    → ((d : ListCourse) → d.within.left ≡ 0 → ListsAlone (drop n ts) (changes_by d b (drop n ts))) → ListsAlone (drop n ts) (drop n (changes_by c b ts))
through zero c b ts e go = go c e
through (suc n) c b [] e go = nothing
through (suc n) c b (t ∷ ts) e go = through n (behind c b t.kind t.token ts) b ts (less c b t.kind ts n e) go

-- ---- behind a token that is of no list, one begins or none does

abbrev BeginsOrNot : List Written → Within → Type 0
BeginsOrNot ts w = (w.left ≡ 0) ⊎ ((0 < count_at ts) × (w.left ≡ tokens_of (count_at ts)))

none_left : (l : ℕ) → l ≡ 0 → nat_lt 0 l ≡ false
none_left zero e = refl
none_left (suc l) e = cc

begun_by : (a b : Bool) (x : ℕ) (w : Within) (m : ListMode) → a ≡ false
    → let v : Within = cond a w (cond b outside (record { left = x * 2 + 5; count = x; mode = m })) in (v.left ≡ 0) ⊎ ((b ≡ false) × (v.left ≡ tokens_of x))
begun_by true b x w m e = absurd (false≢true (sym e))
begun_by false true x w m e = inl refl
begun_by false false x w m e = inr (refl, refl)

some : (n : ℕ) → (n == 0) ≡ false → 0 < n
some zero h = absurd (false≢true (sym h))
some (suc n) h = omega arith

by_listed : (d : Bool) (n : ℕ) → (cond d n 0 == 0) ≡ false → (0 < n) × (cond d n 0 ≡ n)
by_listed true n h = (some n h, refl)
by_listed false n h = absurd (false≢true (sym h))

either_way : (n : ℕ) (d : Bool) (left : ℕ) → (left ≡ 0) ⊎ (((cond d n 0 == 0) ≡ false) × (left ≡ tokens_of (cond d n 0))) → (left ≡ 0) ⊎ ((0 < n) × (left ≡ tokens_of n))
either_way n d left (inl e) = inl e
either_way n d left (inr p) = let l = by_listed d n p.0 in inr (l.0, p.1 ∙ ap tokens_of l.1)

begun : (c : ListCourse) (b : Bool) (k : Kind) (ts : List Written) → c.within.left ≡ 0 → BeginsOrNot ts (within_behind c b k ts)
begun c b k ts e =
    let n = listed c k ts in
    let w : Within = record { left = c.within.left - 1; count = c.within.count; mode = c.within.mode } in
    either_way (count_at ts) (declares c k) (within_behind c b k ts).left
    (begun_by (nat_lt 0 c.within.left) (n == 0) n w (mode_of (is_front c.stage) (are_same (behind_brace ts)) b) (none_left c.within.left e))

-- ---- each such token stays

kept_by : (l : ℕ) (x : ValueChange) (h : Bool) → l ≡ 0
    → let y = cond (nat_lt 0 l) x (cond h change.Headed change.Kept) in (y ≡ change.Kept) ⊎ (y ≡ change.Headed)
kept_by zero x true e = inr refl
kept_by zero x false e = inl refl
kept_by (suc l) x h e = cc

behind_is : (fuel : ℕ) (d : ListCourse) (b : Bool) (ts : List Written) → length ts ≤ fuel
    → ((c : ListCourse) (us : List Written) → length us ≤ fuel → c.within.left ≡ 0 → ListsAlone us (changes_by c b us))
    → BeginsOrNot ts d.within → ListsAlone ts (changes_by d b ts)
behind_is fuel d b ts h go (inl e) = go d ts h e
behind_is fuel d b ts h go (inr p) =
    let n = tokens_of (count_at ts) in
    let l = length-drop n ts in
    list p.0 (through n d b ts p.1 (λ c e. go c (drop n ts) (omega (arith, h, l)) e))

alone : (fuel : ℕ) (c : ListCourse) (b : Bool) (ts : List Written) → length ts ≤ fuel → c.within.left ≡ 0 → ListsAlone ts (changes_by c b ts)
alone fuel c b [] h e = nothing
alone zero c b (t ∷ ts) h e = absurd (omega (arith, h))
alone (suc fuel) c b (t ∷ ts) h e =
    token (record { gap = refl; token = refl; change = kept_by c.within.left (change_within c.within ts) (b && is_first c t.kind t.token ts) e })
    (behind_is fuel (behind c b t.kind t.token ts) b ts (omega (arith, h)) (λ d us l f. alone fuel d b us l f) (begun c b t.kind ts e))

pub lists_alone : (b : Bool) (text : List ℕ) → ListsAlone (stretches text) (changes b (stretches text))
lists_alone b text = alone (length (stretches text)) start b (stretches text) (omega arith) refl
