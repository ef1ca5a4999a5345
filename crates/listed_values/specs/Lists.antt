-- The lists of initialisers of a text: an array, its size in digits, and constants in braces.
use Rattle.std.specs.Prelude.{ℕ, zero, suc, ◌+◌, Bool, true, false, not, ◌&&◌, nat_lt, min, if◌then◌else◌, List, [], ◌∷◌, Option}
use Rattle.std.specs.Option.{option_map_or}
use Rattle.std.specs.Str.{bytes_eq}
use Rattle.pml_token.specs.declared.token.Kind.{Kind}
use Rattle.pml_token.specs.declared.token.Kind.TheVariants as kind
use Rattle.pml_token.specs.Word.{same_kind}
use Rattle.prepare.specs.Written.{Written}
use Rattle.computed_sizes.specs.Counts.{number_of}
use Rattle.listed_values.specs.declared.lists.TheConstants.{MOST_VALUES}

-- a constant, as Spin has it in a list: a number, or a word or name for one
abbrev pub is_constant : Kind → Bool
is_constant kind.Number = true
is_constant kind.Name = true
is_constant kind.True = true
is_constant kind.False = true
is_constant kind.Skip = true
is_constant _ = false

-- behind a value, or a sign
abbrev pub counted : ℕ → Bool → ℕ
counted n is_value = if is_value then min (n + 1) MOST_VALUES else n

-- how many values stand here with a comma between each two of them, and `}` behind the last, and n before them, where a value is to come or a sign; 0
-- where it is otherwise
abbrev pub count_from : Bool → ℕ → List Written → ℕ
count_from is_value n [] = 0
count_from is_value n (t ∷ ts) =
    if is_value && not (is_constant t.kind && nat_lt n MOST_VALUES) then 0
    else (if not is_value && same_kind t.kind kind.CloseBrace then n
    else (if not is_value && not (same_kind t.kind kind.Comma) then 0
    else count_from (not is_value) (counted n is_value) ts))

-- whether `[5] = {` stands at the front of stretches
abbrev pub begins_list : List Written → Bool
begins_list (o ∷ n ∷ c ∷ a ∷ b ∷ ts) =
    (same_kind o.kind kind.OpenBracket && same_kind n.kind kind.Number)
    && (same_kind c.kind kind.CloseBracket && (same_kind a.kind kind.Assign && same_kind b.kind kind.OpenBrace))
begins_list _ = false

-- what stands behind that
abbrev pub behind_brace : List Written → List Written
behind_brace (o ∷ n ∷ c ∷ a ∷ b ∷ ts) = ts
behind_brace _ = []

-- how many values a list has that stands behind a name; 0 where none does
abbrev pub count_at : List Written → ℕ
count_at ts = if begins_list ts then count_from true 0 (behind_brace ts) else 0

abbrev pub digits_at : List Written → List ℕ
digits_at (o ∷ n ∷ ts) = n.token
digits_at _ = []

-- how many elements the array has; 0 where there are too many
abbrev pub size_at : List Written → ℕ
size_at ts = option_map_or (λ n. n) (number_of (digits_at ts)) 0

-- whether each value of a list is this one, where a value is to come or a sign
abbrev pub same_from : Bool → List ℕ → List Written → Bool
same_from is_value v [] = true
same_from is_value v (t ∷ ts) =
    if is_value && not (bytes_eq t.token v) then false
    else (if not is_value && not (same_kind t.kind kind.Comma) then true else same_from (not is_value) v ts)

abbrev pub are_same : List Written → Bool
are_same [] = false
are_same (v ∷ ts) = same_from false v.token ts

-- the values from the next one on; the last one stays
abbrev pub next : List Written → List Written
next (v ∷ s ∷ ts) = if same_kind s.kind kind.Comma then ts else v ∷ s ∷ ts
next ts = ts

-- the values from the n-th on
abbrev pub nexts : ℕ → List Written → List Written
nexts zero ts = ts
nexts (suc n) ts = next (nexts n ts)

abbrev pub front : List Written → List ℕ
front [] = []
front (v ∷ ts) = v.token
