-- What sets the elements of arrays whose lists have different values, and whether it may.
use Rattle.std.specs.Prelude.{ℕ, zero, suc, ◌+◌, Bool, true, false, not, ◌&&◌, ◌||◌, ◌==◌, nat_lt, min, if◌then◌else◌, List, [], ◌∷◌, ◌++◌, length}
use Rattle.std.specs.Str.{bytes_eq}
use Rattle.std.specs.Fmt.{decimal}
use lib.Chars.{codes}
use Rattle.pml_token.specs.declared.token.Kind.{Kind}
use Rattle.pml_token.specs.declared.token.Kind.TheVariants as kind
use Rattle.pml_token.specs.Word.{same_kind}
use Rattle.prepare.specs.Written.{Written}
use Rattle.prepare.specs.Sizes as sizes
use Rattle.declared_steps.specs.Stages.{begins_with}
use Rattle.listed_values.specs.declared.lists.TheConstants.{MOST_VALUES}
use Rattle.listed_values.specs.declared.course.ListCourse.{ListCourse}
use Rattle.listed_values.specs.Lists.{count_at, size_at, are_same, behind_brace, nexts, front}
use Rattle.listed_values.specs.Courses.{start, begins, listed, behind, is_early, is_placed}

-- an element gets its value
abbrev pub setting : List ℕ → List ℕ → ℕ → List ℕ
setting name v n = name ++ (codes "[" ++ (decimal n ++ (codes "] = " ++ (v ++ codes "; "))))

-- the first n elements get theirs: the last one has none behind it, so it is that of all further elements
abbrev pub settings : List ℕ → List Written → ℕ → List ℕ
settings name ts zero = []
settings name ts (suc n) = settings name ts n ++ setting name (front (nexts n ts)) n

-- whether a token is the name
abbrev pub is_name : List ℕ → Kind → List ℕ → Bool
is_name name k t = same_kind k kind.Name && bytes_eq t name

-- how often a name is declared, at most twice
abbrev pub declared : ℕ → Bool → ℕ
declared n declares = if declares then min (n + 1) 2 else n

-- whether a declaration that is made before the first step reads the name
abbrev pub is_read : ListCourse → Bool → Bool
is_read c declares = c.stage.reading.goes_on && (not declares && is_early c)

-- whether the name is declared once, and read in no such declaration
abbrev pub alone_from : List ℕ → ListCourse → ℕ → List Written → Bool
alone_from name c n [] = n == 1
alone_from name c n (t ∷ ts) =
    let is = is_name name t.kind t.token in
    let declares = sizes.declares c.stage.reading t.kind in
    if is && is_read c declares then false else alone_from name (behind c false t.kind t.token ts) (declared n (is && declares)) ts

abbrev pub is_alone : List ℕ → List Written → Bool
is_alone name ts = alone_from name start 0 ts

-- whether a list behind a name has values that are not all the same
abbrev pub is_mixed : ℕ → List Written → Bool
is_mixed n ts = nat_lt 0 n && not (are_same (behind_brace ts))

-- whether the elements cannot be set at the first step: of a list elsewhere, of a large array, or of one whose name is declared twice or read before
abbrev pub is_odd : ListCourse → List ℕ → List Written → List Written → Bool
is_odd c name all ts = not (is_placed c && (nat_lt 0 (size_at ts) && nat_lt (size_at ts) MOST_VALUES)) || not (is_alone name all)

-- how many processes live at the start, at most two
abbrev pub starts_behind : ℕ → Kind → List Written → ℕ
starts_behind n k ts = if begins k then (if begins_with kind.OpenBracket ts then 2 else min (n + 1) 2) else n

abbrev pub settings_at : Bool → List ℕ → List Written → List ℕ
settings_at is_mixed name ts = if is_mixed then settings name (behind_brace ts) (size_at ts) else []

-- what is to be set, in how many processes, and whether something cannot be
pub record Setup : Type 0 where
  pub set : List ℕ
  pub starts : ℕ
  pub is_odd : Bool

abbrev pub as_setup : List ℕ → ℕ → Bool → Setup
as_setup set starts odd = record { set = set; starts = starts; is_odd = odd }

abbrev pub setup_by : List Written → ListCourse → List ℕ → ℕ → Bool → List Written → Setup
setup_by all c set n odd [] = as_setup set n odd
setup_by all c set n odd (t ∷ ts) =
    let mixed = is_mixed (listed c t.kind ts) ts in
    setup_by all (behind c false t.kind t.token ts)
    (set ++ settings_at mixed t.token ts)
    (starts_behind n t.kind ts)
    (odd || (mixed && is_odd c t.token all ts))
    ts

abbrev pub setup : List Written → Setup
setup ts = setup_by ts start [] 0 false ts

-- whether the first step sets them: one process lives at the start, so nothing is done before its first step
abbrev pub sets : Setup → Bool
sets s = nat_lt 0 (length s.set) && (s.starts == 1 && not s.is_odd)
