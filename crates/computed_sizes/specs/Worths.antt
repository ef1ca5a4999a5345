-- What an expression of numbers comes to.
use Rattle.std.specs.Prelude.{ℕ, ◌+◌, ◌-◌, Bool, true, false, ◌||◌, ◌==◌, nat_lt, if◌then◌else◌, List, [], ◌∷◌, Option, Some, None, option_map}
use Rattle.pml_token.specs.declared.token.Kind.{Kind}
use Rattle.pml_token.specs.declared.token.Kind.TheVariants as kind
use Rattle.pml_token.specs.Word.{same_kind}
use Rattle.prepare.specs.Written.{Written}
use Rattle.computed_sizes.specs.declared.count.ProductStep.{ProductStep}
use Rattle.computed_sizes.specs.declared.count.ProductStep.TheVariants as step
use Rattle.computed_sizes.specs.declared.count.Sum.{Sum}
use Rattle.computed_sizes.specs.declared.worth.NestedSums.{NestedSums}
use Rattle.computed_sizes.specs.Counts as counts

-- behind `*`, `/` or `%`
abbrev pub multiplied : NestedSums → ProductStep → NestedSums
multiplied c s = record c { inner = record (c.inner) { step = s }; is_open = true }

-- behind `+` or `-`
abbrev pub summed : NestedSums → Bool → Option NestedSums
summed c is_minus = option_map (λ n. record c { inner = counts.behind n is_minus; is_open = true }) (counts.total c.inner)

-- behind `(`
abbrev pub entered : NestedSums → Option NestedSums
entered c =
    if nat_lt 1 c.depth then None
    else Some (record { inner = counts.behind 0 false; outer = c.inner; outmost = c.outer; depth = c.depth + 1; is_open = true })

-- a sum with one number more
abbrev pub counted : NestedSums → Sum → Option ℕ → Option NestedSums
counted c s None = None
counted c s (Some n) = option_map (λ t. record c { inner = t; is_open = false }) (counts.with s n)

-- behind `)`
abbrev pub left : NestedSums → Option NestedSums
left c = if c.depth == 0 then None else counted (record c { outer = c.outmost; depth = c.depth - 1 }) c.outer (counts.total c.inner)

-- where a number is to come
abbrev pub behind_open : NestedSums → Kind → List ℕ → Option NestedSums
behind_open c kind.Number t = counted c c.inner (counts.number_of t)
behind_open c kind.OpenParen t = entered c
behind_open c _ t = None

-- where a sign is to come
abbrev pub behind_number : NestedSums → Kind → Option NestedSums
behind_number c kind.Plus = summed c false
behind_number c kind.Minus = summed c true
behind_number c kind.Star = Some (multiplied c step.Times)
behind_number c kind.Slash = Some (multiplied c step.Over)
behind_number c kind.Percent = Some (multiplied c step.Rest)
behind_number c kind.CloseParen = left c
behind_number c _ = None

abbrev pub behind : NestedSums → Kind → List ℕ → Option NestedSums
behind c k t = if c.is_open then behind_open c k t else behind_number c k

abbrev pub ended : NestedSums → Option ℕ
ended c = if c.is_open || nat_lt 0 c.depth then None else counts.total c.inner

abbrev pub start : NestedSums
start = record { inner = counts.behind 0 false; outer = counts.behind 0 false; outmost = counts.behind 0 false; depth = 0; is_open = true }

abbrev pub or_none : (NestedSums → Option ℕ) → Option NestedSums → Option ℕ
or_none go None = None
or_none go (Some c) = go c

-- what the rest of an expression comes to, up to its `]`
abbrev pub worth_by : NestedSums → List Written → Option ℕ
worth_by c [] = None
worth_by c (t ∷ ts) = if same_kind t.kind kind.CloseBracket then ended c else or_none (λ d. worth_by d ts) (behind c t.kind t.token)

-- what the expression comes to that stands before a `]`
abbrev pub worth : List Written → Option ℕ
worth ts = worth_by start ts
