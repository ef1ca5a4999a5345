-- A range is that of all declarations of the name that it stands for.
use Rattle.std.proofs.Common.{◌≡◌, ℕ, suc, ◌-◌, Bool, true, false, cond, ◌&&◌, ◌||◌, List, [], ◌∷◌, Option, Some, None, refl, sym, ap, ◌∙◌, All, arith}
use Rattle.std.specs.Prelude.{◌==◌, nat_lt, is_some, unwrap_or}
use Rattle.std.specs.Str.{bytes_eq}
use Rattle.std.proofs.lemmas.Bool.{false≢true}
use Rattle.std.proofs.lemmas.Bool.Decides.{nat_tests}
use Rattle.std.proofs.lemmas.List.Elements.{All-cons}
use Rattle.pml_token.specs.declared.token.Kind.TheVariants as kind
use Rattle.pml_token.specs.Word.{same_kind}
use Rattle.prepare.specs.declared.changes.PhraseHead.{PhraseHead}
use Rattle.prepare.specs.declared.changes.PhraseHead.TheVariants as head
use Rattle.prepare.specs.declared.changes.Respelling.{Respelling}
use Rattle.prepare.specs.declared.changes.Respelling.TheVariants as change
use Rattle.prepare.specs.Written.{Written}
use Rattle.prepare.specs.Sizes.{Declared, agreed_from, agreed, is_in}
use Rattle.prepare.specs.Changes.{begins_with, last_of, last_element, colon, range, change_of, head_behind, exchanges_by}
use Rattle.prepare.specs.Ranges.{is_declared, HasSize, IsOfSize}

-- a name has this size, where it is declared so
abbrev IsSized : List ℕ → ℕ → Declared → Type 0
IsSized name size d = bytes_eq d.name name ≡ true → d.size ≡ size

-- two sizes agree in one that is not 0
both_by : (t : Bool) (m n last : ℕ) → (m == n) ≡ t → cond t m 0 ≡ suc last → (m ≡ suc last) × (n ≡ suc last)
both_by true m n last e h = (h, grind (arith, nat_tests))
both_by false m n last e h = absurd (omega arith)

-- a size that stands agrees with all behind it
known_agrees : (name : List ℕ) (last m : ℕ) (ds : List Declared) → agreed_from name (Some m) ds ≡ Some (suc last) → (m ≡ suc last) × All (IsSized name (suc last)) ds
known_agrees name last m [] h = (ap (λ (o : Option ℕ). unwrap_or o 0) h, λ k d lt. absurd (omega arith))
known_agrees name last m (d ∷ ds) h = by_test (bytes_eq d.name name) refl h (λ k. known_agrees name last k ds)
  where
    by_test : (t : Bool) → bytes_eq d.name name ≡ t → agreed_from name (cond t (Some (cond (m == d.size) m 0)) (Some m)) ds ≡ Some (suc last)
        → ((k : ℕ) → agreed_from name (Some k) ds ≡ Some (suc last) → (k ≡ suc last) × All (IsSized name (suc last)) ds) → (m ≡ suc last) × All (IsSized name (suc last)) (d ∷ ds)
    by_test true e g go =
        let rest = go (cond (m == d.size) m 0) g in
        let both = both_by (m == d.size) m d.size last refl rest.0 in
        (both.0, All-cons (IsSized name (suc last)) d ds (λ same. both.1) rest.1)
    by_test false e g go =
        let rest = go m g in
        (rest.0, All-cons (IsSized name (suc last)) d ds (λ same. absurd (false≢true (sym e ∙ same))) rest.1)

agrees : (name : List ℕ) (last : ℕ) (ds : List Declared) → agreed name ds ≡ Some (suc last) → HasSize name (suc last) ds
agrees name last [] h = cc
agrees name last (d ∷ ds) h = by_test (bytes_eq d.name name) refl h (agrees name last ds)
  where
    by_test : (t : Bool) → bytes_eq d.name name ≡ t → agreed_from name (cond t (Some d.size) None) ds ≡ Some (suc last) → (agreed name ds ≡ Some (suc last) → HasSize name (suc last) ds) → HasSize name (suc last) (d ∷ ds)
    by_test true e g go =
        let rest = known_agrees name last d.size ds g in
        record {
          some = ap (λ (b : Bool). b || is_declared name ds) e;
          all = All-cons (IsSized name (suc last)) d ds (λ same. rest.0) rest.1;
        }
    by_test false e g go =
        let rest = go g in
        record {
          some = ap (λ (b : Bool). b || is_declared name ds) e ∙ rest.some;
          all = All-cons (IsSized name (suc last)) d ds (λ same. absurd (false≢true (sym e ∙ same))) rest.all;
        }

last_by : (t : Bool) (n last : ℕ) → nat_lt 0 n ≡ t → cond t (Some (n - 1)) None ≡ Some last → Some n ≡ Some (suc last)
last_by true n last e h =
    let less : n - 1 ≡ last = ap (λ (o : Option ℕ). unwrap_or o 0) h in
    let same : n ≡ suc last = grind (arith, nat_tests) in
    ap (λ (m : ℕ). let o : Option ℕ = Some m in o) same
last_by false n last e h = cc

last_is : (o : Option ℕ) (last : ℕ) → last_of o ≡ Some last → o ≡ Some (suc last)
last_is None last h = cc
last_is (Some n) last h = last_by (nat_lt 0 n) n last refl h

element_by : (t : Bool) (o : Option ℕ) (last : ℕ) → cond t (last_of o) None ≡ Some last → o ≡ Some (suc last)
element_by true o last h = last_is o last h
element_by false o last h = cc

is_range : Respelling → Bool
is_range (change.Range n) = true
is_range _ = false

no_range : (c : Respelling) (last : ℕ) → is_range c ≡ false → c ≡ change.Range last → ⊥
unfolding is_range
no_range c last e h = false≢true (sym e ∙ ap is_range h)

subtype_by : (t u : Bool) → is_range (cond t (cond u change.Blanked change.Left) change.Kept) ≡ false
unfolding is_range
subtype_by true true = refl
subtype_by true false = refl
subtype_by false u = refl

blank_by : (t : Bool) → is_range (cond t change.Blanked change.Kept) ≡ false
unfolding is_range
blank_by true = refl
blank_by false = refl

colon_by : (t : Bool) → is_range (colon t) ≡ false
unfolding is_range
colon_by true = refl
colon_by false = refl

range_is : (o : Option ℕ) (last : ℕ) → range o ≡ change.Range last → o ≡ Some last
unfolding is_range
range_is None last h = absurd (no_range change.Left last refl h)
range_is (Some n) last h = ap (λ (m : ℕ). let o : Option ℕ = Some m in o) (ap number_of h)
  where
    number_of : Respelling → ℕ
    number_of (change.Range n) = n
    number_of _ = 0

-- a range is written in place of a name in whose declarations a size agrees
change_is : (ds : List Declared) (h : PhraseHead) (t : Written) (ts : List Written) (last : ℕ) → change_of ds h t ts ≡ change.Range last → agreed t.token ds ≡ Some (suc last)
unfolding is_range
change_is ds head.Typed t ts last e = absurd (no_range _ last (subtype_by (same_kind t.kind kind.Colon) (begins_with kind.Name ts)) e)
change_is ds head.Subtyped t ts last e = absurd (no_range _ last (blank_by (same_kind t.kind kind.Name)) e)
change_is ds head.Counts t ts last e = absurd (no_range _ last (colon_by (is_in t.kind t.token && is_some (last_element ds ts))) e)
change_is ds head.In t ts last e =
    element_by (same_kind t.kind kind.Name && begins_with kind.CloseParen ts) (agreed t.token ds) last (range_is (last_element ds (t ∷ ts)) last e)
change_is ds head.Outside t ts last e = absurd (no_range _ last refl e)
change_is ds head.For t ts last e = absurd (no_range _ last refl e)
change_is ds head.Enters t ts last e = absurd (no_range _ last refl e)

pub ranges_by : (ds : List Declared) (h : PhraseHead) (ts : List Written) → All (IsOfSize ds) (exchanges_by ds h ts)
ranges_by ds h [] = λ k d lt. absurd (omega arith)
ranges_by ds h (t ∷ ts) = All-cons (IsOfSize ds) _ (exchanges_by ds (head_behind h t.kind t.token) ts) (λ last e. agrees t.token last ds (change_is ds h t ts last e)) (ranges_by ds (head_behind h t.kind t.token) ts)
