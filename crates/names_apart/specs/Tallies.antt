-- How often inlines declare one name, and whether some body does so several times.
use Rattle.std.specs.Prelude.{ℕ, Bool, false, not, ◌&&◌, ◌||◌, ◌==◌, nat_lt, max, if◌then◌else◌, List, [], ◌∷◌, ◌++◌}
use Rattle.std.specs.Str.{bytes_eq}
use Rattle.pml_token.specs.declared.token.Kind.{Kind}
use Rattle.pml_token.specs.declared.token.Kind.TheVariants as kind
use Rattle.pml_token.specs.Word.{same_kind}
use Rattle.prepare.specs.Written.{Written}
use Rattle.names_apart.specs.declared.scope.TheConstants.{MOST_NUMBER}
use Rattle.names_apart.specs.declared.scope.NameScope.{NameScope}
use Rattle.names_apart.specs.InlineCount.{InlineCount}
use Rattle.names_apart.specs.Scopes.{is_name, declares, is_header, force_behind, ends_body, behind, start}

-- how often the inline of this name declares the name that is looked at
abbrev pub count_of : List InlineCount → List ℕ → ℕ
count_of [] t = 0
count_of (c ∷ cs) t = if bytes_eq c.inline t then c.count else count_of cs t

abbrev pub count_at : List InlineCount → Kind → List ℕ → ℕ
count_at cs k t = if same_kind k kind.Name then count_of cs t else 0

-- whether a token is the name, in a body, where no declaration of it is in force
abbrev pub is_free : NameScope → List ℕ → Kind → List ℕ → Bool
is_free s name k t =
    let is_variable = is_name name k t && not s.is_field in
    let is_within = nat_lt 0 s.braces && not s.reading.is_fields in
    let is_unknown = not (declares s name k t) && not s.is_parameter in
    is_variable && (is_within && (is_unknown && s.force.level == 0))

-- whether a token declares the name outside of bodies and of heads
abbrev pub is_global : NameScope → List ℕ → Kind → List ℕ → Bool
is_global s name k t = (s.braces == 0 && (s.parens == 0 && not (is_header s))) && declares s name k t

-- how often a body that is no inline's declares the name at most
abbrev pub most_behind : ℕ → NameScope → List ℕ → Kind → List ℕ → ℕ
most_behind n s name k t = if s.is_inline then n else max n (force_behind s name k t).number

abbrev pub front : List Written → List ℕ
front [] = []
front (t ∷ ts) = t.token

-- the name of the inline that was begun last
abbrev pub home_behind : List ℕ → Kind → List Written → List ℕ
home_behind home k ts = if same_kind k kind.Inline then front ts else home

-- an inline is counted where its body ends, if it declares the name
abbrev pub table_behind : List InlineCount → NameScope → List ℕ → Kind → List InlineCount
table_behind cs s home k = if s.is_inline && (ends_body s k && nat_lt 0 s.force.number) then cs ++ record { inline = home; count = s.force.number } ∷ [] else cs

pub record Tallied : Type 0 where
  pub table : List InlineCount
  pub most : ℕ
  pub is_left : Bool

abbrev pub as_tallied : List InlineCount → ℕ → Bool → Tallied
as_tallied cs n b = record { table = cs; most = n; is_left = b }

abbrev pub tallied_by : List ℕ → NameScope → List InlineCount → List ℕ → ℕ → Bool → List Written → Tallied
tallied_by name s cs home n b [] = as_tallied cs n b
tallied_by name s cs home n b (t ∷ ts) =
    let table = table_behind cs s home t.kind in
    tallied_by name
    (behind s name (count_at table t.kind t.token) t.kind t.token)
    table
    (home_behind home t.kind ts)
    (most_behind n s name t.kind t.token)
    (b || (is_free s name t.kind t.token || is_global s name t.kind t.token))
    ts

-- what is known of a name in a text
abbrev pub tallied : List ℕ → List Written → Tallied
tallied name ts = tallied_by name start [] [] 0 false ts

-- whether the declarations of a name get names of their own
abbrev pub is_divided : ℕ → Bool → Bool
is_divided most is_left = nat_lt 1 most && (nat_lt most MOST_NUMBER && not is_left)
