-- Numbers as digits name them, and what becomes of two of them.
use Rattle.std.specs.Prelude.{ℕ, ◌+◌, ◌*◌, ◌-◌, ◌/◌, ◌%◌, Bool, ◌||◌, ◌==◌, nat_lt, if◌then◌else◌, List, fold, Option, Some, None, option_map}
use Rattle.computed_sizes.specs.declared.TheConstants.{MOST_SIZE}
use Rattle.computed_sizes.specs.declared.count.ProductStep.{ProductStep}
use Rattle.computed_sizes.specs.declared.count.ProductStep.TheVariants as step
use Rattle.computed_sizes.specs.declared.count.Sum.{Sum}

-- behind one digit more; what is too large stays so
abbrev pub digit_behind : ℕ → ℕ → ℕ
digit_behind n b = if nat_lt MOST_SIZE n then n else n * 10 + (b - 48)

-- the number that digits name; more than the largest where it is too large
abbrev pub number : List ℕ → ℕ
number digits = fold digit_behind 0 digits

-- a number that is not too large
abbrev pub bounded : ℕ → Option ℕ
bounded n = if nat_lt MOST_SIZE n then None else Some n

abbrev pub number_of : List ℕ → Option ℕ
number_of digits = bounded (number digits)

abbrev pub times : ℕ → ℕ → Option ℕ
times m n = if nat_lt MOST_SIZE m || nat_lt MOST_SIZE n then None else bounded (m * n)

abbrev pub added : ℕ → ℕ → Option ℕ
added m n = if nat_lt MOST_SIZE m || nat_lt MOST_SIZE n then None else bounded (m + n)

-- a product with one number more
abbrev pub stepped : ProductStep → ℕ → ℕ → Option ℕ
stepped step.First m n = Some n
stepped step.Times m n = times m n
stepped step.Over m n = if n == 0 then None else Some (m / n)
stepped step.Rest m n = if n == 0 then None else Some (m % n)

-- a sum before a product that is added to a number, or taken from it
abbrev pub behind : ℕ → Bool → Sum
behind before is_minus = record { before = before; is_minus = is_minus; product = 0; step = step.First }

-- a sum with one number more
abbrev pub with : Sum → ℕ → Option Sum
with s n = option_map (λ m. record s { product = m }) (stepped s.step s.product n)

-- what a sum comes to
abbrev pub total : Sum → Option ℕ
total s = if s.is_minus then (if nat_lt s.before s.product then None else Some (s.before - s.product)) else added s.before s.product
