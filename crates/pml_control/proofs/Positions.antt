-- What is to do from a position on, by what stands there.
use Rattle.std.proofs.Common.{◌≡◌, ℕ, zero, suc, ◌+◌, List, [], ◌∷◌, Option, Some, None, drop, refl, sym, ap, ◌∙◌, arith}
use Rattle.std.proofs.Math.Seq.{drop-nil}
use Rattle.std.proofs.Common.{false, is_some}
use Rattle.std.specs.Prelude.{slice_get}
use Rattle.std.specs.Borrow.{Bor}
use Rattle.std.specs.Option.{option_copied}
use Rattle.pml_program.specs.declared.program.Stmt.{Stmt}
use Rattle.pml_program.specs.declared.program.Basic.{Basic}
use Rattle.promela_process.specs.Control.{Descent, Todo, basic_at, arm, behind, todos, into_arm, sequence_at, beyond, at}
use Rattle.pml_control.proofs.Words.{basic_of, arm_of, behind_of}

-- the statement that stands at a position, with its labels
pub record Found (ss : List Stmt) (i : ℕ) (x : Basic) : Type 0 where
  pub stmt : Stmt
  pub stands : slice_get ss i ≡ Some stmt
  pub basic : stmt.basic ≡ x

found_in : (ss : List Stmt) (i : ℕ) (o : Option Stmt) (x : Basic) → slice_get ss i ≡ o → basic_of o ≡ Some x → Found ss i x
found_in ss i None x e h = cc
found_in ss i (Some s) x e h = record { stmt = s; stands = e; basic = cc }

pub found : (ss : List Stmt) (i : ℕ) (x : Basic) → basic_at ss i ≡ Some x → Found ss i x
found ss i x h = found_in ss i (slice_get ss i) x refl h

none_in : (o : Option Stmt) → basic_of o ≡ None → o ≡ None
none_in None h = refl
none_in (Some s) h = cc

pub drop_at : (ss : List Stmt) (i : ℕ) (s : Stmt) → slice_get ss i ≡ Some s → drop i ss ≡ s ∷ drop (i + 1) ss
drop_at [] i s h = cc
drop_at (x ∷ ss) zero s h = cc
drop_at (x ∷ ss) (suc i) s h =
    let e : suc (i + 1) ≡ suc i + 1 = omega arith in drop_at ss i s h ∙ ap (λ n. s ∷ drop n (x ∷ ss)) e

pub drop_past : (ss : List Stmt) (i : ℕ) → slice_get ss i ≡ None → drop i ss ≡ []
drop_past [] i h = drop-nil i
drop_past (x ∷ ss) zero h = cc
drop_past (x ∷ ss) (suc i) h = drop_past ss i h

module _ (b : List Stmt) where
  -- a statement stands first at its position, and what is behind it follows
  pub stands : (q : List Descent) (i : ℕ) (x : Basic) → basic_at (sequence_at b q) i ≡ Some x → at b (q, i) ≡ Todo (q, i) x ∷ at b (q, i + 1)
  stands q i x h =
      let f = found (sequence_at b q) i x h in
      rw (drop_at (sequence_at b q) i f.stmt f.stands) (ap (λ y. Todo (q, i) y ∷ at b (q, i + 1)) f.basic)

  -- where no statement stands, the sequence is done
  pub past : (q : List Descent) (i : ℕ) → basic_at (sequence_at b q) i ≡ None → at b (q, i) ≡ beyond b q
  past q i h = ap (λ ss. todos q i ss (beyond b q)) (drop_past (sequence_at b q) i (none_in _ h))

  -- the arm of a statement, and what is behind it
  pub arm_there : (q : List Descent) (j k : ℕ) (x : Basic) → basic_at (sequence_at b q) j ≡ Some x → sequence_at b ((j, k) ∷ q) ≡ arm x k
  arm_there q j k x h =
      let f = found (sequence_at b q) j x h in ap (λ o. arm_of o k) f.stands ∙ ap (λ y. arm y k) f.basic

  pub beyond_there : (q : List Descent) (j k : ℕ) (x : Basic) → basic_at (sequence_at b q) j ≡ Some x → beyond b ((j, k) ∷ q) ≡ behind (q, j) x k (at b (q, j + 1))
  beyond_there q j k x h =
      let f = found (sequence_at b q) j x h in
      ap (λ o. behind_of (q, j) o k (at b (q, j + 1))) f.stands ∙ ap (λ y. behind (q, j) y k (at b (q, j + 1))) f.basic

  -- into an arm
  pub entered : (q : List Descent) (j k : ℕ) (x : Basic) → basic_at (sequence_at b q) j ≡ Some x → at b ((j, k) ∷ q, 0) ≡ into_arm (q, j) x k (at b (q, j + 1))
  entered q j k x h =
      ap (λ ss. todos ((j, k) ∷ q) 0 ss (beyond b ((j, k) ∷ q))) (arm_there q j k x h)
      ∙ ap (λ c. todos ((j, k) ∷ q) 0 (arm x k) c) (beyond_there q j k x h)

  -- descents into no statement
  pub lost_arm : (q : List Descent) (j k : ℕ) → basic_at (sequence_at b q) j ≡ None → sequence_at b ((j, k) ∷ q) ≡ []
  lost_arm q j k h = ap (λ o. arm_of o k) (none_in _ h)

  pub lost : (q : List Descent) (j k : ℕ) → basic_at (sequence_at b q) j ≡ None → beyond b ((j, k) ∷ q) ≡ []
  lost q j k h = ap (λ o. behind_of (q, j) o k (at b (q, j + 1))) (none_in _ h)

-- what a look at a position says where there is nothing
pub none_there : (o : Option (Bor Basic)) (r : Option Basic) → is_some o ≡ false → option_copied o ≡ r → r ≡ None
none_there None r h e = sym e
none_there (Some x) r h e = cc
