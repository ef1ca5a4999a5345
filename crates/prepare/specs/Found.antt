-- Sizes as the code keeps them. No clause of a public function cites this.
use Rattle.std.specs.Prelude.{◌≡◌, ℕ, List, Option}
use Rattle.std.specs.Borrow.{Bor}
use Rattle.std.specs.Ordering.{nat_cmp}
use Rattle.std.specs.Cmp.Lexicographic.{slice_cmp}
use Rattle.std.specs.BTreeMap.{BTreeMap, get_by}
use Rattle.prepare.specs.Written.{Written}
use Rattle.prepare.specs.Sizes.{Declared, declared, agreed_from, agreed}

abbrev pub Numbers : Type 0
Numbers = BTreeMap (Bor (List ℕ)) ℕ

abbrev pub size_in : Numbers → List ℕ → Option ℕ
size_in ns n = get_by (λ k. slice_cmp nat_cmp n k.now) ns

-- each name has the size in which its declarations agree
abbrev pub AreSizes : Numbers → List Written → Type 0
AreSizes ns ts = (n : List ℕ) → size_in ns n ≡ agreed n (declared ts)

-- what these declare is noted in `new`, behind what `old` has
abbrev pub AreNoted : Numbers → Numbers → List Declared → Type 0
AreNoted old new ds = (n : List ℕ) → size_in new n ≡ agreed_from n (size_in old n) ds
