-- What is written of a divided name: the tokens stay, and the name is new.
use Rattle.std.proofs.Common.{◌≡◌, ℕ, zero, suc, ◌+◌, ◌%◌, ◌/◌, ◌^◌, ◌<◌, ◌≤◌, min, max, cond, ◌&&◌, nat_le, Bool, true, false, List, [], ◌∷◌, ◌++◌, refl, sym, ap, ◌∙◌, subst, arith}
use Rattle.std.specs.Fmt.{decimal}
use Rattle.std.proofs.lemmas.Bool.Decides.{nat_tests}
use Rattle.std.proofs.lemmas.List.{append_assoc}
use Rattle.std.proofs.lemmas.Fmt.{decimal_by_steps}
use Rattle.prepare.specs.Contexts.{start as begun}
use Rattle.prepare.specs.Written.{Written}
use Rattle.prepare.specs.Stretches.{stretches}
use Rattle.prepare.specs.Laws.{source, sources}
use Rattle.prepare.proofs.Plain.{sources_are}
use Rattle.names_apart.specs.declared.writing.TheConstants.{MOST_JOINT}
use Rattle.names_apart.specs.declared.scope.NameScope.{NameScope}
use Rattle.names_apart.specs.declared.labels.Labels.{Labels}
use Rattle.names_apart.specs.Labels as labels
use Rattle.names_apart.specs.InlineCount.{InlineCount}
use Rattle.names_apart.specs.Scopes.{behind, start}
use Rattle.names_apart.specs.Tallies.{count_at}
use Rattle.names_apart.specs.Changes.{changes_by, changes}
use Rattle.names_apart.specs.Writing.{underscore, is_digit, run_behind, most_behind, longest_by, longest, underscores, joint}
use Rattle.prepare.specs.Changed.{owns}
use Rattle.names_apart.specs.Laws.{NotIn}

owns_are : (name : List ℕ) (cs : List InlineCount) (s : NameScope) (ts : List Written) → owns (changes_by name cs s ts) ≡ sources ts
owns_are name cs s [] = refl
owns_are name cs s (t ∷ ts) = ap (λ (xs : List ℕ). source t ++ xs) (owns_are name cs (behind s name (count_at cs t.kind t.token) t.kind t.token) ts)

pub owns_text : (name : List ℕ) (cs : List InlineCount) (text : List ℕ) → owns (changes name cs (stretches text)) ≡ text
owns_text name cs text = owns_are name cs start (stretches text) ∙ sources_are _ true begun [] text

labels_own : (name : List ℕ) (cs : List InlineCount) (s : Labels) (ts : List Written) → owns (labels.changes_by name cs s ts) ≡ sources ts
labels_own name cs s [] = refl
labels_own name cs s (t ∷ ts) = ap (λ (xs : List ℕ). source t ++ xs) (labels_own name cs (labels.behind s name (count_at cs t.kind t.token) t.kind t.token ts) ts)

pub labels_own_text : (name : List ℕ) (cs : List InlineCount) (text : List ℕ) → owns (labels.changes name cs (stretches text)) ≡ text
labels_own_text name cs text = labels_own name cs labels.start (stretches text) ∙ sources_are _ true begun [] text

-- ---- runs of underscores

run_after : ℕ → List ℕ → ℕ
run_after r [] = r
run_after r (b ∷ q) = run_after (run_behind r b) q

most_after : ℕ → ℕ → List ℕ → ℕ
most_after m r [] = m
most_after m r (b ∷ q) = most_after (most_behind m r b) (run_behind r b) q

splits : (m r : ℕ) (a b : List ℕ) → longest_by m r (a ++ b) ≡ longest_by (most_after m r a) (run_after r a) b
unfolding most_after run_after
splits m r [] b = refl
splits m r (x ∷ a) b = splits (most_behind m r x) (run_behind r x) a b

run_splits : (r : ℕ) (a b : List ℕ) → run_after r (a ++ b) ≡ run_after (run_after r a) b
unfolding run_after
run_splits r [] b = refl
run_splits r (x ∷ a) b = run_splits (run_behind r x) a b

keeps : (m r : ℕ) (d : Bool) → m ≤ cond d (max m r) m
keeps m r true = omega arith
keeps m r false = omega arith

grows : (m r : ℕ) (q : List ℕ) → m ≤ longest_by m r q
grows m r [] = omega arith
grows m r (b ∷ q) =
    let a = grows (most_behind m r b) (run_behind r b) q in
    let c = keeps m r (is_digit b) in
    omega arith

underscored : (r n : ℕ) → n ≤ MOST_JOINT → n ≤ run_after r (underscores n)
unfolding run_after
underscored r zero h = omega arith
underscored r (suc n) h =
    let e : run_after r (underscores (suc n)) ≡ min (run_after r (underscores n) + 1) MOST_JOINT = run_splits r (underscores n) (underscore ∷ []) in
    let a = underscored r n (omega arith) in
    omega arith

taken : (m r d : ℕ) → is_digit d ≡ true → r ≤ most_behind m r d
taken m r d h = subst (λ (b : Bool). r ≤ cond b (max m r) m) (sym h) (omega arith)

-- ---- a number begins with a digit

record BeginsWithDigit (ds : List ℕ) : Type 0 where
  digit : ℕ
  rest : List ℕ
  is : ds ≡ digit ∷ rest
  holds : is_digit digit ≡ true

both : (a b : Bool) → a ≡ true → b ≡ true → (a && b) ≡ true
both true b h k = k
both false b h k = h

at_least : (n : ℕ) → nat_le 48 (48 + n) ≡ true
at_least n = grind (arith, nat_tests)

at_most : (n : ℕ) → n < 10 → nat_le (48 + n) 57 ≡ true
at_most n few = grind (arith, nat_tests, few)

one_digit : (n : ℕ) → n < 10 → BeginsWithDigit ((48 + n) ∷ [])
one_digit n h = record { digit = 48 + n; rest = []; is = refl; holds = both (nat_le 48 (48 + n)) (nat_le (48 + n) 57) (at_least n) (at_most n h) }

digit_more : (n : ℕ) (ds : List ℕ) → 10 ≤ n → BeginsWithDigit ds → BeginsWithDigit (ds ++ ((48 + n % 10) ∷ []))
digit_more n ds h d = record { digit = d.digit; rest = d.rest ++ ((48 + n % 10) ∷ []); is = ap (λ (xs : List ℕ). xs ++ ((48 + n % 10) ∷ [])) d.is; holds = d.holds }

begins : (n : ℕ) → n < 2 ^ 64 → BeginsWithDigit (decimal n)
begins n h = decimal_by_steps (λ (m : ℕ) (ds : List ℕ). BeginsWithDigit ds) one_digit digit_more n h

-- ---- new names

placed : (front name us ds back : List ℕ) → front ++ ((name ++ (us ++ ds)) ++ back) ≡ (front ++ (name ++ us)) ++ (ds ++ back)
placed front name us ds back =
    ap (λ (xs : List ℕ). front ++ xs) (ap (λ (xs : List ℕ). xs ++ back) (sym (append_assoc name us ds)) ∙ append_assoc (name ++ us) ds back)
    ∙ sym (append_assoc front (name ++ us) (ds ++ back))

-- so many underscores before a digit are as many as the longest row at most
long : (n d : ℕ) (a q : List ℕ) → n ≤ MOST_JOINT → is_digit d ≡ true → n ≤ longest ((a ++ underscores n) ++ (d ∷ q))
long n d a q h e =
    let r = run_after 0 (a ++ underscores n) in
    let m = most_after 0 0 (a ++ underscores n) in
    let s : longest ((a ++ underscores n) ++ (d ∷ q)) ≡ longest_by (most_behind m r d) (run_behind r d) q = splits 0 0 (a ++ underscores n) (d ∷ q) in
    let u : r ≡ run_after (run_after 0 a) (underscores n) = run_splits 0 a (underscores n) in
    let b = underscored (run_after 0 a) n h in
    let c = taken m r d e in
    let g = grows (most_behind m r d) (run_behind r d) q in
    omega arith

pub new_name : (text name : List ℕ) (n : ℕ) → longest text < MOST_JOINT → n < 2 ^ 64 → NotIn (name ++ (joint text ++ decimal n)) text
new_name text name n h k front back e =
    let d = begins n k in
    let us = underscores (suc (longest text)) in
    let shape : text ≡ ((front ++ name) ++ us) ++ (d.digit ∷ (d.rest ++ back)) =
    e ∙ placed front name us (decimal n) back
    ∙ ap (λ (xs : List ℕ). (front ++ (name ++ us)) ++ (xs ++ back)) d.is
    ∙ ap (λ (xs : List ℕ). xs ++ (d.digit ∷ (d.rest ++ back))) (sym (append_assoc front name us)) in
    let a = long (suc (longest text)) d.digit (front ++ name) (d.rest ++ back) (omega arith) d.holds in
    let b : longest text ≡ longest (((front ++ name) ++ us) ++ (d.digit ∷ (d.rest ++ back))) = ap longest shape in
    omega arith
