-- A text keeps the bytes that it had where memory is refused behind two parts that were added.
use Rattle.std.proofs.Common.{◌≡◌, ℕ, List, ◌++◌, ap, ◌∙◌, Result, OnErr, append_assoc}
use Rattle.std.specs.Io.{StartsWith}
use Rattle.std.proofs.Transfers.{starts_with_of_append}
use Rattle.run_values.proofs.Keeping.{last}

pub kept_behind : {T E : Type 0} (r : Result T E) (new mid first old xs ys : List ℕ) → OnErr r (StartsWith new mid) → mid ≡ first ++ ys → first ≡ old ++ xs → OnErr r (StartsWith new old)
kept_behind r new mid first old xs ys h e f =
    last r new mid old h (starts_with_of_append mid old (xs ++ ys) (e ∙ ap (λ zs. zs ++ ys) f ∙ append_assoc old xs ys))
