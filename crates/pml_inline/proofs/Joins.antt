-- What comes out, one after the other, and its count.
use Rattle.std.proofs.Common.{◌≡◌, ℕ, ◌+◌, ◌<◌, ◌≤◌, Bool, cond, List, [], ◌∷◌, ◌++◌, Option, Some, None, refl, ap, sym, subst, ◌∙◌, arith, append_assoc, append-nil}
use Rattle.std.proofs.lemmas.Bool.{lt-leb, le-leb}
use Rattle.pml_token.specs.Word.{Word}
use Rattle.profile.specs.declared.TheConstants.{MOST_REPLACED}
use Rattle.pml_inline.specs.Expansion.{Given, join_given, itself, limited}
use Rattle.pml_inline.proofs.Words.{nothing}
use Rattle.pml_inline.specs.Texts.{IsPast}

abbrev given : List Word → ℕ → Given
given ts n = record { tokens = ts; count = n }

abbrev count_of : Option Given → ℕ
count_of None = 0
count_of (Some g) = g.count

same : (ts us : List Word) (m n : ℕ) → ts ≡ us → m ≡ n → Some (given ts m) ≡ Some (given us n)
same ts us m n e f = ap (λ (x : List Word). Some (given x m)) e ∙ ap (λ (k : ℕ). Some (given us k)) f

pub join-assoc : (a b c : Option Given) → join_given (join_given a b) c ≡ join_given a (join_given b c)
join-assoc None b c = refl
join-assoc (Some a) None c = refl
join-assoc (Some a) (Some b) None = refl
join-assoc (Some a) (Some b) (Some c) = same (a.tokens ++ b.tokens ++ c.tokens) (a.tokens ++ (b.tokens ++ c.tokens)) (a.count + b.count + c.count) (a.count + (b.count + c.count)) (append_assoc a.tokens b.tokens c.tokens) (omega arith)

pub join-nothing : (a : Option Given) → join_given a nothing ≡ a
join-nothing None = refl
join-nothing (Some a) = same (a.tokens ++ []) a.tokens (a.count + 0) a.count (append-nil a.tokens) (omega arith)

pub nothing-join : (a : Option Given) → join_given nothing a ≡ a
nothing-join None = refl
nothing-join (Some a) = same a.tokens a.tokens (0 + a.count) a.count refl (omega arith)

pub join-none : (a : Option Given) → join_given a None ≡ None
join-none None = refl
join-none (Some a) = refl

-- a token more
pub join-itself : (ts us : List Word) (n : ℕ) (w : Word) (r : Option Given) → us ≡ ts ++ w ∷ [] → join_given (Some (record { tokens = us; count = n })) r ≡ join_given (Some (record { tokens = ts; count = n })) (join_given (itself w) r)
join-itself ts us n w r e =
    ap (λ (g : Option Given). join_given g r) (same us (ts ++ w ∷ []) n (n + 0) e (omega arith)) ∙ join-assoc (Some (given ts n)) (itself w) r

-- a replacement more
pub join-counted : (ts : List Word) (n k : ℕ) (r : Option Given) → join_given (Some (record { tokens = ts; count = n })) (join_given (Some (record { tokens = []; count = k })) r) ≡ join_given (Some (record { tokens = ts; count = n + k })) r
join-counted ts n k r = sym (join-assoc (Some (given ts n)) (Some (given [] k)) r) ∙ ap (λ (g : Option Given). join_given g r) (same (ts ++ []) ts (n + k) (n + k) (append-nil ts) refl)

-- what comes out first counts
pub past-more : (a b : Option Given) → IsPast a → IsPast (join_given a b)
past-more None b p g e = absurd cc
past-more (Some a) None p g e = absurd cc
past-more (Some a) (Some b) p g e =
    let lt = p a refl in
    let h : a.count + b.count ≡ g.count = ap count_of e in
    omega arith

pub past-of : (before : Given) (r s : Option Given) (most : ℕ) → before.count + most ≡ MOST_REPLACED → ((g : Given) → r ≡ Some g → most < g.count) → IsPast (join_given (Some before) (join_given r s))
past-of before r s most e p = subst (λ (x : Option Given). IsPast x) (join-assoc (Some before) r s) (past-more (join_given (Some before) r) s (by_option r refl))
  where
    by_option : (o : Option Given) → r ≡ o → IsPast (join_given (Some before) r)
    by_option None is g f = absurd (none g (ap (join_given (Some before)) (sym is) ∙ f))
      where
        none : (g : Given) → join_given (Some before) None ≡ Some g → ⊥
        none g h = cc
    by_option (Some x) is g f =
        let lt = p x is in
        let h : Some (record { tokens = before.tokens ++ x.tokens; count = before.count + x.count }) ≡ Some g = ap (join_given (Some before)) (sym is) ∙ f in
        let c : before.count + x.count ≡ g.count = ap count_of h in
        omega arith

pub past-none : (r : Option Given) → r ≡ None → IsPast r
past-none r e g f = absurd cc

pub limited-past : (r : Option Given) → IsPast r → limited r ≡ None
limited-past None p = refl
limited-past (Some g) p = let lt = p g refl in ap (λ (b : Bool). cond b (Some g.tokens) None) (lt-leb g.count MOST_REPLACED lt)

pub limited-within : (r : Option Given) (g : Given) → r ≡ Some g → g.count ≤ MOST_REPLACED → limited r ≡ Some g.tokens
limited-within r g e le = ap limited e ∙ ap (λ (b : Bool). cond b (Some g.tokens) None) (le-leb g.count MOST_REPLACED le)
