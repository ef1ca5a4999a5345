-- What is open since a beginning, token by token.
use Rattle.std.proofs.Common.{◌≡◌, ℕ, ◌<◌, Bool, true, false, ◌&&◌, ◌||◌, List, [], ◌∷◌, ◌++◌, sym, refl, ap, ◌∙◌, subst, arith, inl, inr, ⊎_elim}
use Rattle.std.specs.Prelude.{nat_lt, ◌⊎◌}
use Rattle.std.proofs.lemmas.Bool.{false≢true}
use Rattle.std.proofs.lemmas.Bool.Decides.{nat_tests}
use Rattle.pml_token.specs.declared.token.Kind.{Kind}
use Rattle.pml_token.specs.declared.token.Kind.TheVariants as kind
use Rattle.prepare_laws.specs.LineEnds.{opened, is_assigned, BeginsList, StaysOpen, OpenSince}

-- a test answers whether something holds
pub record Tells (b : Bool) (holds : Type 0) : Type 0 where
  pub so : b ≡ true → holds
  pub if_so : holds → b ≡ true

pub cons_head : (k x : Kind) (ks xs : List Kind) → k ∷ ks ≡ x ∷ xs → k ≡ x
cons_head k x ks xs e = cc

pub cons_tail : (k x : Kind) (ks xs : List Kind) → k ∷ ks ≡ x ∷ xs → ks ≡ xs
cons_tail k x ks xs e = cc

-- a token more is open as long as those before, unless it closes the last brace
pub stays_more : (k : Kind) (inside before : List Kind) → (k ≡ kind.CloseBrace → 1 < opened (inside ++ before)) → StaysOpen inside before → StaysOpen (k ∷ inside) before
stays_more k inside before closes stays [] earlier e =
    subst (λ (ks : List Kind). 1 < opened (ks ++ before)) (cons_tail k kind.CloseBrace inside earlier e) (closes (cons_head k kind.CloseBrace inside earlier e))
stays_more k inside before closes stays (x ∷ later) earlier e = stays later earlier (cons_tail k x inside (later ++ kind.CloseBrace ∷ earlier) e)

pub more : {begins : List Kind → Type 0} (k : Kind) (ks : List Kind) → (k ≡ kind.CloseBrace → 1 < opened ks) → OpenSince begins ks → OpenSince begins (k ∷ ks)
more {begins} k ks closes s =
    record {
      inside = k ∷ s.inside;
      before = s.before;
      splits = ap (λ (xs : List Kind). k ∷ xs) s.splits;
      begun = s.begun;
      stays = stays_more k s.inside s.before (λ e. subst (λ (xs : List Kind). 1 < opened xs) s.splits (closes e)) s.stays;
    }

pub none_stays : (ks : List Kind) → StaysOpen [] ks
none_stays ks [] earlier e = cc
none_stays ks (x ∷ later) earlier e = cc

pub here : {begins : List Kind → Type 0} (ks : List Kind) → begins ks → OpenSince begins ks
here {begins} ks b = record { inside = []; before = ks; splits = refl; begun = b; stays = none_stays ks }

-- behind a token: it begins there, or it began before
pub less_by : {begins : List Kind → Type 0} (k : Kind) (ks inside before : List Kind) → k ∷ ks ≡ inside ++ before → begins before → StaysOpen inside before
    → begins (k ∷ ks) ⊎ (OpenSince begins ks × (k ≡ kind.CloseBrace → 1 < opened ks))
less_by {begins} k ks [] before e b stays = inl (subst begins (sym e) b)
less_by {begins} k ks (x ∷ inside) before e b stays =
    let same : k ≡ x = cons_head k x ks (inside ++ before) e in
    let rest : ks ≡ inside ++ before = cons_tail k x ks (inside ++ before) e in
    inr (
      record {
        inside = inside;
        before = before;
        splits = rest;
        begun = b;
        stays = λ later earlier f. stays (x ∷ later) earlier (ap (λ (xs : List Kind). x ∷ xs) f);
      },
      λ c. subst (λ (xs : List Kind). 1 < opened xs) (sym rest) (stays [] inside (ap (λ (y : Kind). y ∷ inside) (sym same ∙ c))),
    )

pub less : {begins : List Kind → Type 0} (k : Kind) (ks : List Kind) → OpenSince begins (k ∷ ks) → begins (k ∷ ks) ⊎ (OpenSince begins ks × (k ≡ kind.CloseBrace → 1 < opened ks))
less {begins} k ks s = less_by k ks s.inside s.before s.splits s.begun s.stays

-- a token that neither begins it nor closes a brace changes nothing
pub keeps : {begins : List Kind → Type 0} (b : Bool) (k : Kind) (ks : List Kind) → (k ≡ kind.CloseBrace → ⊥) → (begins (k ∷ ks) → ⊥) → Tells b (OpenSince begins ks) → Tells b (OpenSince begins (k ∷ ks))
keeps {begins} b k ks no_close no_begin t =
    record {
      so = λ e. more k ks (λ c. absurd (no_close c)) (t.so e);
      if_so = λ s. ⊎_elim (λ (g : begins (k ∷ ks)). absurd (no_begin g)) (λ (g : OpenSince begins ks × (k ≡ kind.CloseBrace → 1 < opened ks)). t.if_so g.0) (less k ks s);
    }

pub lt_true : (m n : ℕ) → nat_lt m n ≡ true → m < n
lt_true m n h = grind (arith, nat_tests)

pub true_lt : (m n : ℕ) → m < n → nat_lt m n ≡ true
true_lt m n h = grind (arith, nat_tests)

pub and_left : (a b : Bool) → (a && b) ≡ true → a ≡ true
and_left true b h = refl
and_left false b h = h

pub and_right : (a b : Bool) → (a && b) ≡ true → b ≡ true
and_right true b h = h
and_right false b h = absurd (false≢true h)

pub both : (a b : Bool) → a ≡ true → b ≡ true → (a && b) ≡ true
both true b h g = g
both false b h g = h

-- a `}`
pub closes : {begins : List Kind → Type 0} (b : Bool) (n : ℕ) (ks : List Kind) → n ≡ opened ks → (begins (kind.CloseBrace ∷ ks) → ⊥) → Tells b (OpenSince begins ks) → Tells (b && nat_lt 1 n) (OpenSince begins (kind.CloseBrace ∷ ks))
closes {begins} b n ks same no_begin t =
    record {
      so = λ e. more kind.CloseBrace ks (λ c. subst (λ (x : ℕ). 1 < x) same (lt_true 1 n (and_right b (nat_lt 1 n) e))) (t.so (and_left b (nat_lt 1 n) e));
      if_so = λ s.
          ⊎_elim (λ (g : begins (kind.CloseBrace ∷ ks)). absurd (no_begin g))
          (λ (g : OpenSince begins ks × (kind.CloseBrace ≡ kind.CloseBrace → 1 < opened ks)). both b (nat_lt 1 n) (t.if_so g.0) (true_lt 1 n (subst (λ (x : ℕ). 1 < x) (sym same) (g.1 refl))))
          (less kind.CloseBrace ks s);
    }

pub or_right : (a b : Bool) → b ≡ true → (a || b) ≡ true
or_right true b h = refl
or_right false b h = h

pub or_left : (a b : Bool) → a ≡ true → (a || b) ≡ true
or_left true b h = refl
or_left false b h = absurd (false≢true h)

pub or_cases : (a b : Bool) → (a || b) ≡ true → (a ≡ true) ⊎ (b ≡ true)
or_cases true b h = inl refl
or_cases false b h = inr h

-- a `{`, which begins a list behind `=`
pub opens : (b a : Bool) (ks : List Kind) → a ≡ is_assigned ks → Tells b (OpenSince BeginsList ks) → Tells (b || a) (OpenSince BeginsList (kind.OpenBrace ∷ ks))
opens b a ks same t =
    record {
      so = λ e.
          ⊎_elim (λ (g : b ≡ true). more kind.OpenBrace ks (λ c. cc) (t.so g))
          (λ (g : a ≡ true). here {begins = BeginsList} (kind.OpenBrace ∷ ks) (sym same ∙ g))
          (or_cases b a e);
      if_so = λ s.
          ⊎_elim (λ (g : BeginsList (kind.OpenBrace ∷ ks)). or_right b a (same ∙ g))
          (λ (g : OpenSince BeginsList ks × (kind.OpenBrace ≡ kind.CloseBrace → 1 < opened ks)). or_left b a (t.if_so g.0))
          (less kind.OpenBrace ks s);
    }
