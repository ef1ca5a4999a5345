-- A string over lines is one string where it stands on one line.
use Rattle.std.proofs.Common.{◌≡◌, ℕ, suc, ◌+◌, ◌-◌, ◌<◌, ◌≤◌, Bool, true, false, cond, ◌&&◌, ◌||◌, List, [], ◌∷◌, ◌++◌, Some, None, length, take, sym, refl, ap, ◌∙◌, arith}
use Rattle.std.specs.Prelude.{◌==◌}
use Rattle.std.proofs.lemmas.Bool.Decides.{nat_tests}
use Rattle.pml_lex.specs.Scanning.{quote_end}
use Rattle.prepare.specs.Stretches.{string_end}
use Rattle.prepare.specs.Spelling.{begins_feed, is_break, unless_break, escapes, unbroken}

quote_is : (n : ℕ) (e : Bool) (b : ℕ) (q : List ℕ) → quote_end n e (b ∷ q) ≡ cond (b == 10) None (cond e (quote_end (n + 1) false q) (cond (b == 34) (Some (n + 1)) (quote_end (n + 1) (b == 92) q)))
unfolding quote_end
quote_is n e b q = refl

string_is : (n : ℕ) (e : Bool) (b : ℕ) (q : List ℕ) → string_end n e (b ∷ q) ≡ cond e (string_end (n + 1) false q) (cond (b == 34) (Some (n + 1)) (string_end (n + 1) (b == 92) q))
unfolding string_end
string_is n e b q = refl

unbroken_is : (e : Bool) (b : ℕ) (q : List ℕ) → unbroken e (b ∷ q) ≡ unless_break (is_break e b q) b (unbroken (escapes e b) q)
unfolding unbroken
unbroken_is e b q = refl

no_string : (n : ℕ) (e : Bool) → string_end n e [] ≡ None
unfolding string_end
no_string n e = refl

unbroken_none : (e : Bool) → unbroken e [] ≡ []
unfolding unbroken
unbroken_none e = refl

-- the string that ends a text is read to its end
abbrev Ends : List ℕ → Type 0
Ends q = (n m k : ℕ) (back : List ℕ) → string_end n false q ≡ Some m → m ≡ n + length q → quote_end k false (unbroken false q ++ back) ≡ Some (k + length (unbroken false q))

-- a byte that is no backslash
plain_by : (l s : Bool) (b : ℕ) (q : List ℕ) → (b == 10) ≡ l → (b == 34) ≡ s → (b == 92) ≡ false → Ends q → Ends (b ∷ q)
plain_by true true b q el es ek h n m k back e is = absurd (grind (arith, nat_tests))
plain_by true false b q el es ek h n m k back e is =
    let here : unbroken false (b ∷ q) ≡ unbroken false q =
    unbroken_is false b q ∙ ap (λ (t : Bool). unless_break (t || (true && ((b == 92) && begins_feed q))) b (unbroken (true && (b == 92)) q)) el ∙ ap (λ (t : Bool). unbroken (true && t) q) ek in
    let rest : string_end (n + 1) false q ≡ Some m =
    sym (string_is n false b q ∙ ap (λ (t : Bool). cond t (Some (n + 1)) (string_end (n + 1) (b == 92) q)) es ∙ ap (λ (t : Bool). string_end (n + 1) t q) ek) ∙ e in
    ap (λ (x : List ℕ). quote_end k false (x ++ back)) here ∙ h (n + 1) m k back rest (omega arith) ∙ ap (λ (x : List ℕ). Some (k + length x)) (sym here)
plain_by false true b q el es ek h n m k back e is =
    let found : Some (n + 1) ≡ Some m = sym (string_is n false b q ∙ ap (λ (t : Bool). cond t (Some (n + 1)) (string_end (n + 1) (b == 92) q)) es) ∙ e in
    let same : n + 1 ≡ m = cc in
    let none : q ≡ [] = empty q (omega arith) in
    let here : unbroken false (b ∷ q) ≡ b ∷ [] =
    unbroken_is false b q ∙ ap (λ (t : Bool). unless_break (t || (true && ((b == 92) && begins_feed q))) b (unbroken (true && (b == 92)) q)) el
    ∙ ap (λ (t : Bool). unless_break (true && (t && begins_feed q)) b (unbroken (true && t) q)) ek ∙ ap (λ (x : List ℕ). b ∷ unbroken false x) none ∙ ap (λ (x : List ℕ). b ∷ x) (unbroken_none false) in
    ap (λ (x : List ℕ). quote_end k false (x ++ back)) here ∙ quote_is k false b back ∙ ap (λ (t : Bool). cond t None (cond (b == 34) (Some (k + 1)) (quote_end (k + 1) (b == 92) back))) el
    ∙ ap (λ (t : Bool). cond t (Some (k + 1)) (quote_end (k + 1) (b == 92) back)) es ∙ ap (λ (x : List ℕ). Some (k + length x)) (sym here)
  where
    empty : (q : List ℕ) → length q ≤ 0 → q ≡ []
    empty [] x = refl
    empty (c ∷ r) x = absurd (omega arith)
plain_by false false b q el es ek h n m k back e is =
    let here : unbroken false (b ∷ q) ≡ b ∷ unbroken false q =
    unbroken_is false b q ∙ ap (λ (t : Bool). unless_break (t || (true && ((b == 92) && begins_feed q))) b (unbroken (true && (b == 92)) q)) el
    ∙ ap (λ (t : Bool). unless_break (true && (t && begins_feed q)) b (unbroken (true && t) q)) ek in
    let rest : string_end (n + 1) false q ≡ Some m =
    sym (string_is n false b q ∙ ap (λ (t : Bool). cond t (Some (n + 1)) (string_end (n + 1) (b == 92) q)) es ∙ ap (λ (t : Bool). string_end (n + 1) t q) ek) ∙ e in
    ap (λ (x : List ℕ). quote_end k false (x ++ back)) here ∙ quote_is k false b (unbroken false q ++ back)
    ∙ ap (λ (t : Bool). cond t None (cond (b == 34) (Some (k + 1)) (quote_end (k + 1) (b == 92) (unbroken false q ++ back)))) el
    ∙ ap (λ (t : Bool). cond t (Some (k + 1)) (quote_end (k + 1) (b == 92) (unbroken false q ++ back))) es
    ∙ ap (λ (t : Bool). quote_end (k + 1) t (unbroken false q ++ back)) ek
    ∙ h (n + 1) m (k + 1) back rest (omega arith)
    ∙ (let len : k + 1 + length (unbroken false q) ≡ k + length (b ∷ unbroken false q) = omega arith in ap Some len) ∙ ap (λ (x : List ℕ). Some (k + length x)) (sym here)

-- a backslash, and the byte that belongs to it
pair_by : (l : Bool) (b c : ℕ) (q : List ℕ) → (c == 10) ≡ l → b ≡ 92 → Ends q → Ends (b ∷ c ∷ q)
pair_by l b c q el eb h n m k back e is =
    let s92 : (b == 92) ≡ true = ap (λ (x : ℕ). x == 92) eb in
    let s34 : (b == 34) ≡ false = ap (λ (x : ℕ). x == 34) eb in
    let s10 : (b == 10) ≡ false = ap (λ (x : ℕ). x == 10) eb in
    let rest : string_end (n + 1 + 1) false q ≡ Some m =
    sym (string_is n false b (c ∷ q) ∙ ap (λ (t : Bool). cond t (Some (n + 1)) (string_end (n + 1) (b == 92) (c ∷ q))) s34 ∙ ap (λ (t : Bool). string_end (n + 1) t (c ∷ q)) s92 ∙ string_is (n + 1) true c q) ∙ e in
    let first : unbroken false (b ∷ c ∷ q) ≡ unless_break (c == 10) b (unbroken true (c ∷ q)) =
    unbroken_is false b (c ∷ q) ∙ ap (λ (t : Bool). unless_break (t || (true && ((b == 92) && (c == 10)))) b (unbroken (true && (b == 92)) (c ∷ q))) s10
    ∙ ap (λ (t : Bool). unless_break (t && (c == 10)) b (unbroken t (c ∷ q))) s92 in
    let second : unbroken true (c ∷ q) ≡ unless_break (c == 10) c (unbroken false q) = unbroken_is true c q ∙ ap (λ (t : Bool). unless_break t c (unbroken false q)) (or_false (c == 10)) in
    both l el (first ∙ ap (λ (x : List ℕ). unless_break (c == 10) b x) second) rest s92 s34 s10
  where
    or_false : (t : Bool) → (t || (false && ((c == 92) && begins_feed q))) ≡ t
    or_false true = refl
    or_false false = refl

    both : (l : Bool) → (c == 10) ≡ l → unbroken false (b ∷ c ∷ q) ≡ unless_break (c == 10) b (unless_break (c == 10) c (unbroken false q)) → string_end (n + 1 + 1) false q ≡ Some m → (b == 92) ≡ true → (b == 34) ≡ false → (b == 10) ≡ false
        → quote_end k false (unbroken false (b ∷ c ∷ q) ++ back) ≡ Some (k + length (unbroken false (b ∷ c ∷ q)))
    both true el f rest s92 s34 s10 =
        let here : unbroken false (b ∷ c ∷ q) ≡ unbroken false q = f ∙ ap (λ (t : Bool). unless_break t b (unless_break t c (unbroken false q))) el in
        ap (λ (x : List ℕ). quote_end k false (x ++ back)) here ∙ h (n + 1 + 1) m k back rest (omega arith) ∙ ap (λ (x : List ℕ). Some (k + length x)) (sym here)
    both false el f rest s92 s34 s10 =
        let here : unbroken false (b ∷ c ∷ q) ≡ b ∷ c ∷ unbroken false q = f ∙ ap (λ (t : Bool). unless_break t b (unless_break t c (unbroken false q))) el in
        let more = unbroken false q ++ back in
        ap (λ (x : List ℕ). quote_end k false (x ++ back)) here ∙ quote_is k false b (c ∷ more) ∙ ap (λ (t : Bool). cond t None (cond (b == 34) (Some (k + 1)) (quote_end (k + 1) (b == 92) (c ∷ more)))) s10
        ∙ ap (λ (t : Bool). cond t (Some (k + 1)) (quote_end (k + 1) (b == 92) (c ∷ more))) s34 ∙ ap (λ (t : Bool). quote_end (k + 1) t (c ∷ more)) s92
        ∙ quote_is (k + 1) true c more ∙ ap (λ (t : Bool). cond t None (quote_end (k + 1 + 1) false more)) el
        ∙ h (n + 1 + 1) m (k + 1 + 1) back rest (omega arith)
        ∙ (let len : k + 1 + 1 + length (unbroken false q) ≡ k + length (b ∷ c ∷ unbroken false q) = omega arith in ap Some len) ∙ ap (λ (x : List ℕ). Some (k + length x)) (sym here)

lone : (b : ℕ) → b ≡ 92 → Ends (b ∷ [])
lone b eb n m k back e is =
    let s92 : (b == 92) ≡ true = ap (λ (x : ℕ). x == 92) eb in
    let s34 : (b == 34) ≡ false = ap (λ (x : ℕ). x == 34) eb in
    let none : None ≡ Some m =
    sym (string_is n false b [] ∙ ap (λ (t : Bool). cond t (Some (n + 1)) (string_end (n + 1) (b == 92) [])) s34 ∙ ap (λ (t : Bool). string_end (n + 1) t []) s92 ∙ no_string (n + 1) true) ∙ e in
    cc

is_92 : (b : ℕ) → (b == 92) ≡ true → b ≡ 92
is_92 b h = grind (arith, nat_tests)

one_by : (s : Bool) (b : ℕ) → (b == 92) ≡ s → Ends [] → Ends (b ∷ [])
one_by true b e h = lone b (is_92 b e)
one_by false b e h = plain_by (b == 10) (b == 34) b [] refl refl e h

two_by : (s : Bool) (b c : ℕ) (q : List ℕ) → (b == 92) ≡ s → Ends q → Ends (c ∷ q) → Ends (b ∷ c ∷ q)
two_by true b c q e h g = pair_by (c == 10) b c q refl (is_92 b e) h
two_by false b c q e h g = plain_by (b == 10) (b == 34) b (c ∷ q) refl refl e g

no_end : Ends []
no_end n m k back e is = let none : None ≡ Some m = sym (no_string n false) ∙ e in cc

pub joined_end : (q : List ℕ) → Ends q
joined_end [] = no_end
joined_end (b ∷ []) = one_by (b == 92) b refl no_end
joined_end (b ∷ c ∷ q) = two_by (b == 92) b c q refl (joined_end q) (joined_end (c ∷ q))

-- where the end of a string is found
pub record EndsAt (n : ℕ) (e : Bool) (q : List ℕ) (m : ℕ) : Type 0 where
  pub behind : n < m
  pub within : m ≤ n + length q
  pub front : string_end n e (take (m - n) q) ≡ Some m

string_by : (s : Bool) (n : ℕ) (e : Bool) (b : ℕ) (q : List ℕ) (m : ℕ) → (b == 34) ≡ s → ((f : Bool) → string_end (n + 1) f q ≡ Some m → EndsAt (n + 1) f q m)
    → string_end n e (b ∷ q) ≡ Some m → EndsAt n e (b ∷ q) m
string_by s n true b q m es h e =
    let r = h false (sym (string_is n true b q) ∙ e) in
    record {
      behind = omega (arith, r.behind);
      within = omega (arith, r.within);
      front = ap (λ (x : List ℕ). string_end n true x) (more r.behind) ∙ string_is n true b (take (m - (n + 1)) q) ∙ r.front;
    }
  where
    more : n + 1 < m → take (m - n) (b ∷ q) ≡ b ∷ take (m - (n + 1)) q
    more lt = let e : m - n ≡ suc (m - (n + 1)) = omega arith in ap (λ (x : ℕ). take x (b ∷ q)) e
string_by true n false b q m es h e =
    let found : Some (n + 1) ≡ Some m = sym (string_is n false b q ∙ ap (λ (t : Bool). cond t (Some (n + 1)) (string_end (n + 1) (b == 92) q)) es) ∙ e in
    let same : n + 1 ≡ m = cc in
    record {
      behind = omega arith;
      within = omega arith;
      front = ap (λ (x : ℕ). string_end n false (take x (b ∷ q))) (one same) ∙ string_is n false b (take 0 q) ∙ ap (λ (t : Bool). cond t (Some (n + 1)) (string_end (n + 1) (b == 92) (take 0 q))) es ∙ found;
    }
  where
    one : n + 1 ≡ m → m - n ≡ suc 0
    one x = omega arith
string_by false n false b q m es h e =
    let r = h (b == 92) (sym (string_is n false b q ∙ ap (λ (t : Bool). cond t (Some (n + 1)) (string_end (n + 1) (b == 92) q)) es) ∙ e) in
    record {
      behind = omega (arith, r.behind);
      within = omega (arith, r.within);
      front = ap (λ (x : List ℕ). string_end n false x) (more r.behind) ∙ string_is n false b (take (m - (n + 1)) q)
          ∙ ap (λ (t : Bool). cond t (Some (n + 1)) (string_end (n + 1) (b == 92) (take (m - (n + 1)) q))) es ∙ r.front;
    }
  where
    more : n + 1 < m → take (m - n) (b ∷ q) ≡ b ∷ take (m - (n + 1)) q
    more lt = let e : m - n ≡ suc (m - (n + 1)) = omega arith in ap (λ (x : ℕ). take x (b ∷ q)) e

pub ends_at : (q : List ℕ) (n : ℕ) (e : Bool) (m : ℕ) → string_end n e q ≡ Some m → EndsAt n e q m
ends_at [] n e m h = let none : None ≡ Some m = sym (no_string n e) ∙ h in cc
ends_at (b ∷ q) n e m h = string_by (b == 34) n e b q m refl (λ f. ends_at q (n + 1) f m) h
