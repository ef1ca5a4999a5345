-- A text without a list stays as it is.
use Rattle.std.proofs.Common.{◌≡◌, ℕ, zero, suc, Bool, true, false, cond, not, ◌&&◌, ◌||◌, ◌==◌, ◌+◌, ◌-◌, ◌*◌, nat_lt, List, [], ◌∷◌, ◌++◌, length, refl, sym, ap, ◌∙◌, subst}
use Rattle.std.proofs.lemmas.Bool.{false≢true}
use Rattle.std.proofs.lemmas.List.{append-nil}
use Rattle.pml_token.specs.declared.token.Kind.{Kind}
use Rattle.pml_token.specs.declared.token.Kind.TheVariants as kind
use Rattle.pml_token.specs.Word.{same_kind}
use Rattle.prepare.specs.declared.TheConstants.{MOST_BYTES}
use Rattle.prepare.specs.Written.{Written}
use Rattle.prepare.specs.Stretches.{stretches}
use Rattle.listed_values.specs.declared.course.Within.{Within}
use Rattle.listed_values.specs.declared.course.ListCourse.{ListCourse}
use Rattle.listed_values.specs.declared.changes.ValueChange.{ValueChange}
use Rattle.listed_values.specs.declared.changes.ValueChange.TheVariants as change
use Rattle.listed_values.specs.Lists.{count_from, count_at, begins_list, are_same, size_at, behind_brace}
use Rattle.listed_values.specs.Courses.{start, behind, declares, listed, outside, is_front, mode_of, within_behind}
use Rattle.listed_values.specs.Settings.{setup_by, setup, as_setup, sets, is_mixed, settings, settings_at, starts_behind, is_odd}
use Rattle.listed_values.specs.Changes.{changes_by, changes, change_within, change_at}
use Rattle.listed_values.specs.Writing.{shown, written, valued, valued_of, unless_long}
use Rattle.prepare.specs.Changed.{owns, own}
use Rattle.listed_values.specs.Laws.{has_list_from, has_list}
use Rattle.listed_values.proofs.Valuing.{owns_text}

or_left : (a b : Bool) → (a || b) ≡ false → a ≡ false
or_left true b h = h
or_left false b h = refl

or_right : (a b : Bool) → (a || b) ≡ false → b ≡ false
or_right true b h = absurd (false≢true (sym h))
or_right false b h = h

and_second : (a b : Bool) → b ≡ false → (a && b) ≡ false
and_second true b h = h
and_second false b h = refl

-- where `{` stands behind no `=`, none stands behind the `=` of a list
not_list : (a b : Kind) → (same_kind a kind.Assign && same_kind b kind.OpenBrace) ≡ false → (x y z : Bool) → ((x && y) && (z && (same_kind a kind.Assign && same_kind b kind.OpenBrace))) ≡ false
not_list a b h x y z = and_second (x && y) (z && (same_kind a kind.Assign && same_kind b kind.OpenBrace)) (and_second z (same_kind a kind.Assign && same_kind b kind.OpenBrace) h)

none_begins : (i : Bool) (ts : List Written) → has_list_from i ts ≡ false → begins_list ts ≡ false
none_begins i [] h = refl
none_begins i (o ∷ []) h = refl
none_begins i (o ∷ n ∷ []) h = refl
none_begins i (o ∷ n ∷ c ∷ []) h = refl
none_begins i (o ∷ n ∷ c ∷ a ∷ []) h = refl
none_begins i (o ∷ n ∷ c ∷ a ∷ b ∷ ts) h =
    let h1 = or_right (i && same_kind o.kind kind.OpenBrace) (has_list_from (same_kind o.kind kind.Assign) (n ∷ c ∷ a ∷ b ∷ ts)) h in
    let h2 = or_right (same_kind o.kind kind.Assign && same_kind n.kind kind.OpenBrace) (has_list_from (same_kind n.kind kind.Assign) (c ∷ a ∷ b ∷ ts)) h1 in
    let h3 = or_right (same_kind n.kind kind.Assign && same_kind c.kind kind.OpenBrace) (has_list_from (same_kind c.kind kind.Assign) (a ∷ b ∷ ts)) h2 in
    let h4 = or_right (same_kind c.kind kind.Assign && same_kind a.kind kind.OpenBrace) (has_list_from (same_kind a.kind kind.Assign) (b ∷ ts)) h3 in
    let h5 = or_left (same_kind a.kind kind.Assign && same_kind b.kind kind.OpenBrace) (has_list_from (same_kind b.kind kind.Assign) ts) h4 in
    not_list a.kind b.kind h5 (same_kind o.kind kind.OpenBracket) (same_kind n.kind kind.Number) (same_kind c.kind kind.CloseBracket)

none_counted : (i : Bool) (ts : List Written) → has_list_from i ts ≡ false → count_at ts ≡ 0
none_counted i ts h = ap (λ (b : Bool). cond b (count_from true 0 (behind_brace ts)) 0) (none_begins i ts h)

either_none : (b : Bool) (n : ℕ) → n ≡ 0 → cond b n 0 ≡ 0
either_none true n h = h
either_none false n h = refl

none_listed : (c : ListCourse) (k : Kind) (i : Bool) (ts : List Written) → has_list_from i ts ≡ false → listed c k ts ≡ 0
none_listed c k i ts h = either_none (declares c k) (count_at ts) (none_counted i ts h)

-- ---- nothing is set

unset_by : (n : ℕ) (b : Bool) (more : List ℕ) → n ≡ 0 → cond (nat_lt 0 n && b) more [] ≡ []
unset_by zero b more e = refl
unset_by (suc n) b more e = cc

none_set_by : (all : List Written) (c : ListCourse) (set : List ℕ) (n : ℕ) (odd i : Bool) (ts : List Written) → has_list_from i ts ≡ false → (setup_by all c set n odd ts).set ≡ set
none_set_by all c set n odd i [] h = refl
none_set_by all c set n odd i (t ∷ ts) h =
    let back = or_right (i && same_kind t.kind kind.OpenBrace) (has_list_from (same_kind t.kind kind.Assign) ts) h in
    let mixed = is_mixed (listed c t.kind ts) ts in
    let none : settings_at mixed t.token ts ≡ [] =
    unset_by (listed c t.kind ts) (not (are_same (behind_brace ts))) (settings t.token (behind_brace ts) (size_at ts)) (none_listed c t.kind (same_kind t.kind kind.Assign) ts back) in
    none_set_by all (behind c false t.kind t.token ts) (set ++ settings_at mixed t.token ts) (starts_behind n t.kind ts) (odd || (mixed && is_odd c t.token all ts)) (same_kind t.kind kind.Assign) ts back
    ∙ (ap (λ (xs : List ℕ). set ++ xs) none ∙ append-nil set)

none_set : (ts : List Written) → has_list ts ≡ false → (setup ts).set ≡ []
none_set ts h = none_set_by ts start [] 0 false false ts h

unset : (set : List ℕ) (n : ℕ) (odd : Bool) → set ≡ [] → sets (as_setup set n odd) ≡ false
unset [] n odd e = refl
unset (b ∷ set) n odd e = cc

-- ---- each token stays

left_by : (l n : ℕ) (w u : Within) → l ≡ 0 → n ≡ 0 → (cond (nat_lt 0 l) w (cond (n == 0) outside u)).left ≡ 0
left_by zero zero w u e f = refl
left_by zero (suc n) w u e f = cc
left_by (suc l) n w u e f = cc

kept_by : (l : ℕ) (x : ValueChange) → l ≡ 0 → cond (nat_lt 0 l) x change.Kept ≡ change.Kept
kept_by zero x e = refl
kept_by (suc l) x e = cc

left_none : (c : ListCourse) (k : Kind) (ts : List Written) → c.within.left ≡ 0 → listed c k ts ≡ 0 → (within_behind c false k ts).left ≡ 0
left_none c k ts e f =
    let n = listed c k ts in
    let w : Within = record { left = c.within.left - 1; count = c.within.count; mode = c.within.mode } in
    let u : Within = record { left = n * 2 + 5; count = n; mode = mode_of (is_front c.stage) (are_same (behind_brace ts)) false } in
    left_by c.within.left n w u e f

written_is : (set : List ℕ) (c : ListCourse) (i : Bool) (ts : List Written) → has_list_from i ts ≡ false → c.within.left ≡ 0 → written set (changes_by c false ts) ≡ owns (changes_by c false ts)
written_is set c i [] h e = refl
written_is set c i (t ∷ ts) h e =
    let back = or_right (i && same_kind t.kind kind.OpenBrace) (has_list_from (same_kind t.kind kind.Assign) ts) h in
    let kept : change_at c false t.kind t.token ts ≡ change.Kept = kept_by c.within.left (change_within c.within ts) e in
    let left : (within_behind c false t.kind ts).left ≡ 0 = left_none c t.kind ts e (none_listed c t.kind (same_kind t.kind kind.Assign) ts back) in
    let rest = changes_by (behind c false t.kind t.token ts) false ts in
    ap (λ (x : ValueChange). (t.gap ++ shown set x t.token) ++ written set rest) kept
    ∙ ap (λ (xs : List ℕ). (t.gap ++ t.token) ++ xs) (written_is set (behind c false t.kind t.token ts) (same_kind t.kind kind.Assign) ts back left)

unless_same : (b : Bool) (made text : List ℕ) → made ≡ text → cond b text made ≡ text
unless_same true made text e = refl
unless_same false made text e = e

pub stays : (text : List ℕ) → has_list (stretches text) ≡ false → valued text ≡ text
stays text h =
    let ts = stretches text in
    let none : sets (setup ts) ≡ false = unset (setup ts).set (setup ts).starts (setup ts).is_odd (none_set ts h) in
    let made : valued_of ts ≡ text =
    ap (λ (b : Bool). written (setup ts).set (changes b ts)) none
    ∙ (written_is (setup ts).set start false ts h refl ∙ owns_text false text) in
    unless_same (nat_lt MOST_BYTES (length (valued_of ts))) (valued_of ts) text made
