-- Where a token stands: in which declaration, in which body, and in which list of initialisers.
use Rattle.std.specs.Prelude.{ℕ, ◌+◌, ◌-◌, ◌*◌, Bool, true, false, not, ◌&&◌, ◌||◌, ◌==◌, nat_lt, nat_le, min, if◌then◌else◌, List, [], ◌∷◌}
use lib.Chars.{codes}
use Rattle.pml_token.specs.declared.token.Kind.{Kind}
use Rattle.pml_token.specs.declared.token.Kind.TheVariants as kind
use Rattle.pml_token.specs.Word.{same_kind}
use Rattle.prepare.specs.Written.{Written}
use Rattle.prepare.specs.Sizes as sizes
use Rattle.declared_steps.specs.declared.stage.DeclarationStage.{DeclarationStage}
use Rattle.declared_steps.specs.Stages as stages
use Rattle.listed_values.specs.declared.course.Home.{Home}
use Rattle.listed_values.specs.declared.course.Home.TheVariants as home
use Rattle.listed_values.specs.declared.course.ListMode.{ListMode}
use Rattle.listed_values.specs.declared.course.ListMode.TheVariants as mode
use Rattle.listed_values.specs.declared.course.Within.{Within}
use Rattle.listed_values.specs.declared.course.ListCourse.{ListCourse}
use Rattle.listed_values.specs.Lists.{count_at, are_same, behind_brace}

abbrev pub outside : Within
outside = record { left = 0; count = 0; mode = mode.Left }

abbrev pub start : ListCourse
start = record { stage = stages.start; home = home.Outside; within = outside }

-- a word that begins what lives at the start of a run
abbrev pub begins : Kind → Bool
begins kind.Init = true
begins kind.Active = true
begins _ = false

abbrev pub is_within : Home → Bool
is_within home.Within = true
is_within _ = false

abbrev pub home_outside : Kind → Home
home_outside k = if begins k then home.Ahead else home.Outside

-- behind a token: the body of such a process begins with the next `{`
abbrev pub home_behind : Home → Bool → Kind → Home
home_behind home.Outside ends k = home_outside k
home_behind home.Ahead ends k = if same_kind k kind.OpenBrace then home.Within else home.Ahead
home_behind home.Within ends k = if ends then home.Outside else home.Within

abbrev pub ends_body : DeclarationStage → Kind → Bool
ends_body s k = same_kind k kind.CloseBrace && nat_lt s.braces 2

-- whether a token declares a name of a type of which a variable has one number, and stands in no list
abbrev pub declares : ListCourse → Kind → Bool
declares c k = c.within.left == 0 && (sizes.declares c.stage.reading k && stages.is_type (stages.type_behind c.stage k))

-- how many values the list has that stands behind a name that a token declares; 0 where there is none
abbrev pub listed : ListCourse → Kind → List Written → ℕ
listed c k ts = if declares c k then count_at ts else 0

-- whether a declaration is a global one, or stands at the beginning of a body: the elements have their values before the first step
abbrev pub is_front : DeclarationStage → Bool
is_front s = s.braces == 0 || (s.braces == 1 && not (s.is_inline || s.is_behind))

-- what becomes of a list: one of equal values is that value, and another is set by a step, or stays
abbrev pub mode_of : Bool → Bool → Bool → ListMode
mode_of front same is_set = if front then (if same then mode.Same else (if is_set then mode.Set else mode.Left)) else mode.Left

-- a list of n values: `[ N ] = {`, the values with their commas, and `}`
abbrev pub within_behind : ListCourse → Bool → Kind → List Written → Within
within_behind c is_set k ts =
    if nat_lt 0 c.within.left then record { left = c.within.left - 1; count = c.within.count; mode = c.within.mode }
    else (let n = listed c k ts in
    if n == 0 then outside else record { left = n * 2 + 5; count = n; mode = mode_of (is_front c.stage) (are_same (behind_brace ts)) is_set })

-- whether a token is of the braces of a list, or stands in them
abbrev pub is_braced : Within → Bool
is_braced w = nat_lt 0 w.left && nat_le w.left (w.count * 2 + 1)

-- the braces of a list are no block: behind them a declaration ends
abbrev pub stage_behind : ListCourse → Kind → List ℕ → List Written → DeclarationStage
stage_behind c k t ts =
    if is_braced c.within then (if c.within.left == 1 then stages.behind c.stage kind.Semicolon (codes ";") ts else c.stage)
    else stages.behind c.stage k t ts

-- whether a token ends a body
abbrev pub ends : ListCourse → Kind → Bool
ends c k = not (is_braced c.within) && ends_body c.stage k

-- behind a token, before these stretches
abbrev pub behind : ListCourse → Bool → Kind → List ℕ → List Written → ListCourse
behind c is_set k t ts =
    record {
      stage = stage_behind c k t ts;
      home = home_behind c.home (ends c k) k;
      within = within_behind c is_set k ts;
    }

-- whether a token is the first of such a body that belongs to no declaration
abbrev pub is_first : ListCourse → Kind → List ℕ → List Written → Bool
is_first c k t ts =
    is_within c.home && (not c.stage.is_behind && ((stage_behind c k t ts).is_behind || ends c k))

-- whether a token stands outside of bodies, or at the beginning of that of such a process
abbrev pub is_early : ListCourse → Bool
is_early c = c.stage.braces == 0 || (is_within c.home && not c.stage.is_behind)

-- whether a declaration is a global one, or stands at the beginning of such a body
abbrev pub is_placed : ListCourse → Bool
is_placed c = is_front c.stage && is_early c
