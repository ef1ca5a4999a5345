-- What one of two devices may give or has taken.
use Rattle.std.specs.Prelude.{ℕ, List, Option}
use Rattle.devices.specs.declared.either.Either.{Either}
use Rattle.devices.specs.declared.either.Either.TheVariants.{First, Second}

-- what one of two sources may give
abbrev pub may_give_either : {A B : Type 0} → (A → List ℕ → Type 0) → (B → List ℕ → Type 0) → Either A B → List ℕ → Type 0
may_give_either a b (First s) left = a s left
may_give_either a b (Second s) left = b s left

-- of either source something may be left
pub some_left_either : {A B : Type 0} {a : A → List ℕ → Type 0} {b : B → List ℕ → Type 0}
    → ((s : A) → (left : List ℕ) × a s left) → ((s : B) → (left : List ℕ) × b s left)
    → (s : Either A B) → (left : List ℕ) × may_give_either a b s left
some_left_either a b (First s) = a s
some_left_either a b (Second s) = b s

-- what one of two sinks has taken
abbrev pub taken_by_either : {A B : Type 0} → (A → Option (List ℕ)) → (B → Option (List ℕ)) → Either A B → Option (List ℕ)
taken_by_either a b (First s) = a s
taken_by_either a b (Second s) = b s

-- how often one of two devices has failed
abbrev pub count_either : {A B : Type 0} → (A → ℕ) → (B → ℕ) → Either A B → ℕ
count_either a b (First s) = a s
count_either a b (Second s) = b s
