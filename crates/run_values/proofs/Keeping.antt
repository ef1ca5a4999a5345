-- A text that is appended to keeps the bytes that it had, also where memory is refused.
use Rattle.std.proofs.Common.{◌≡◌, ℕ, List, ◌++◌, length, take, refl, Result, Ok, Err, OnErr}
use Rattle.std.specs.Io.{StartsWith}
use Rattle.std.proofs.Transfers.{starts_with_trans, starts_with_of_append}

pub front : (xs ys : List ℕ) → take (length xs) (xs ++ ys) ≡ xs
front xs ys = starts_with_of_append (xs ++ ys) xs ys refl

-- what is behind what is behind the old bytes
pub behind : (new mid old : List ℕ) → StartsWith new mid → StartsWith mid old → StartsWith new old
behind = starts_with_trans

-- at the exit of a call that was refused memory
pub refused : {T E : Type 0} (r : Result T E) (new old : List ℕ) → StartsWith new old → OnErr r (StartsWith new old)
refused (Ok x) new old h = tt
refused (Err e) new old h = h

-- at a last call, behind what was appended before it
pub last : {T E : Type 0} (r : Result T E) (new mid old : List ℕ) → OnErr r (StartsWith new mid) → StartsWith mid old → OnErr r (StartsWith new old)
last (Ok x) new mid old h k = tt
last (Err e) new mid old h k = starts_with_trans new mid old h k
