-- The loop that notes the sizes that stretches declare.
use Rattle.std.proofs.Common.{◌≡◌, ℕ, ◌<◌, ◌-◌, Bool, true, false, cond, List, [], ◌∷◌, ◌++◌, Option, Some, length, get_or, take, drop, take_all, refl, sym, ap, ◌∙◌, arith}
use Rattle.std.specs.Str.{bytes_eq}
use Rattle.std.proofs.lemmas.Slice.Eq.{bytes_eq-Decides}
use Rattle.prepare.specs.declared.sizes.DeclarationReading.{DeclarationReading}
use Rattle.prepare.specs.Written.{Written}
use Rattle.prepare.specs.Sizes.{Declared, declares, behind, size_behind, declared_at, declared_by, noted, joined, agreed_from}
use Rattle.prepare.specs.Found.{Numbers, size_in}

-- what is declared first, and then the rest
from_append : (name : List ℕ) (o : Option ℕ) (ds es : List Declared) → agreed_from name (agreed_from name o ds) es ≡ agreed_from name o (ds ++ es)
from_append name o [] es = refl
from_append name o (d ∷ ds) es = from_append name (noted name o d) ds es

-- one name more
pub noted_is : (m : Numbers) (name : List ℕ) (known : Option ℕ) (size new : ℕ) (n : List ℕ) → known ≡ size_in m name → Some new ≡ joined known size
    → cond (bytes_eq name n) (Some new) (size_in m n) ≡ noted n (size_in m n) (record { name = name; size = size })
noted_is m name known size new n k j = by_test (bytes_eq name n) refl
  where
    by_test : (b : Bool) → bytes_eq name n ≡ b → cond b (Some new) (size_in m n) ≡ cond b (joined (size_in m n) size) (size_in m n)
    by_test true e = j ∙ ap (λ (o : Option ℕ). joined o size) (k ∙ ap (size_in m) ((bytes_eq-Decides name n).0 e))
    by_test false e = refl

named : List ℕ → ℕ → Declared
named name size = record { name = name; size = size }

-- a stretch that declares a name
pub noted_one : (r : DeclarationReading) (t : Written) (back : List Written) (n : List ℕ) (o : Option ℕ) (name : List ℕ) (size : ℕ) → name ≡ t.token → size ≡ size_behind r back → declares r t.kind ≡ true
    → noted n o (record { name = name; size = size }) ≡ agreed_from n o (declared_at r t back)
unfolding named
noted_one r t back n o name size e f d =
    ap (λ (x : List ℕ). noted n o (named x size)) e ∙ ap (λ (x : ℕ). noted n o (named t.token x)) f ∙ ap (λ (b : Bool). agreed_from n o (cond b (named t.token (size_behind r back) ∷ []) [])) (sym d)

-- the first of some stretches, and those behind it
pub by_first : (xs : List Written) (t : Written) → 0 < length xs → t ≡ get_or xs 0 t → xs ≡ t ∷ take (length xs - 1) (drop 1 xs)
by_first [] t h e = absurd (omega arith)
by_first (x ∷ xs) t h e =
    let n = length (x ∷ xs) - 1 in
    ap (λ (ys : List Written). x ∷ ys) (sym (take_all n xs (omega arith))) ∙ ap (λ (y : Written). y ∷ take n xs) (sym e)

-- a stretch more
pub one_stretch : (n : List ℕ) (a o o' : Option ℕ) (r r' : DeclarationReading) (xs back : List Written) (t : Written) → xs ≡ t ∷ back → r' ≡ behind r t.kind t.token → o' ≡ agreed_from n o (declared_at r t back)
    → agreed_from n o (declared_by r xs) ≡ a → agreed_from n o' (declared_by r' back) ≡ a
one_stretch n a o o' r r' xs back t e f g h =
    ap (λ (x : DeclarationReading). agreed_from n o' (declared_by x back)) f ∙ ap (λ (x : Option ℕ). agreed_from n x (declared_by (behind r t.kind t.token) back)) g
    ∙ from_append n o (declared_at r t back) (declared_by (behind r t.kind t.token) back) ∙ ap (λ (ts : List Written). agreed_from n o (declared_by r ts)) (sym e) ∙ h
