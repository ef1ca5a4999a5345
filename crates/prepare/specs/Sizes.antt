-- The sizes of arrays, as a text with its separators declares them.
use Rattle.std.specs.Prelude.{ℕ, ◌-◌, Bool, true, false, not, ◌&&◌, ◌||◌, ◌==◌, nat_le, nat_lt, if◌then◌else◌, List, [], ◌∷◌, ◌++◌, Option, Some, None}
use Rattle.std.specs.Str.{bytes_eq}
use lib.Chars.{codes}
use Rattle.pml_token.specs.declared.token.Kind.{Kind}
use Rattle.pml_token.specs.declared.token.Kind.TheVariants as kind
use Rattle.pml_token.specs.Word.{same_kind}
use Rattle.prepare.specs.declared.markers.TheConstants.{MOST_LINE}
use Rattle.prepare.specs.declared.sizes.Lead.{Lead}
use Rattle.prepare.specs.declared.sizes.Lead.TheVariants as lead
use Rattle.prepare.specs.declared.sizes.DeclarationReading.{DeclarationReading}
use Rattle.prepare.specs.Markers.{number}
use Rattle.prepare.specs.Contexts.{deeper}
use Rattle.prepare.specs.Written.{Written}

-- a word that is a type
abbrev pub names_type : Kind → Bool
names_type kind.Bit = true
names_type kind.Bool = true
names_type kind.Byte = true
names_type kind.Chan = true
names_type kind.Int = true
names_type kind.Mtype = true
names_type kind.Pid = true
names_type kind.Short = true
names_type kind.Unsigned = true
names_type _ = false

-- the word `in` of a `for`
abbrev pub is_in : Kind → List ℕ → Bool
is_in k t = same_kind k kind.Name && bytes_eq t (codes "in")

-- a type, or a name that may be one
abbrev pub may_be_type : Kind → List ℕ → Bool
may_be_type k t = names_type k || (same_kind k kind.Name && not (bytes_eq t (codes "in")))

-- what a token says of a name behind it
abbrev pub lead_of : Kind → List ℕ → Lead
lead_of k t = if may_be_type k t then lead.Type else (if same_kind k kind.Comma then lead.Comma else lead.Other)

-- whether a name is declared, where `goes_on` says whether a comma leads to one more name of a declaration
abbrev pub is_led : Lead → Bool → Bool
is_led lead.Type goes_on = true
is_led lead.Comma goes_on = goes_on
is_led lead.Other goes_on = false

-- whether a token is a name that is declared: behind a type or in a row of names, and no field, or in the header of an inline
abbrev pub declares : DeclarationReading → Kind → Bool
declares r k = same_kind k kind.Name && (r.is_header || (not r.is_fields && is_led r.lead (r.goes_on && r.depth == 0)))

abbrev pub is_opening : Kind → Bool
is_opening kind.OpenBrace = true
is_opening kind.OpenParen = true
is_opening kind.OpenBracket = true
is_opening _ = false

abbrev pub is_closing : Kind → Bool
is_closing kind.CloseBrace = true
is_closing kind.CloseParen = true
is_closing kind.CloseBracket = true
is_closing _ = false

abbrev pub is_separator : Kind → Bool
is_separator kind.Semicolon = true
is_separator kind.Arrow = true
is_separator kind.DoubleColon = true
is_separator _ = false

-- whether a token ends a declaration: a separator, or a bracket that was open before it, and not one within its own brackets
abbrev pub ends : DeclarationReading → Kind → Bool
ends r k = r.depth == 0 && (is_separator k || is_closing k)

abbrev pub depth_behind : ℕ → Kind → ℕ
depth_behind n k = if is_opening k then deeper n else (if is_closing k then n - 1 else n)

-- whether a `}` ends a typedef
abbrev pub ends_fields : DeclarationReading → Kind → Bool
ends_fields r k = same_kind k kind.CloseBrace && nat_lt r.depth 2

-- behind a token
abbrev pub behind : DeclarationReading → Kind → List ℕ → DeclarationReading
behind r k t =
    let is_typedef = same_kind k kind.Typedef in
    record {
      lead = lead_of k t;
      goes_on = declares r k || (r.goes_on && not (is_typedef || ends r k));
      depth = if is_typedef || declares r k then 0 else depth_behind r.depth k;
      is_fields = is_typedef || (r.is_fields && not (ends_fields r k));
      is_header = same_kind k kind.Inline || (r.is_header && not (same_kind k kind.CloseParen));
    }

abbrev pub start : DeclarationReading
start = record { lead = lead.Other; goes_on = false; depth = 0; is_fields = false; is_header = false }

-- the number of elements that digits name; 0 where there are more than a text has bytes
abbrev pub elements : List ℕ → ℕ
elements digits = if nat_le (number digits) MOST_LINE then number digits else 0

-- `[5]` at the front of stretches is the size 5; 0 where no number stands so
abbrev pub size_at : List Written → ℕ
size_at (o ∷ n ∷ c ∷ ts) = if same_kind o.kind kind.OpenBracket && (same_kind n.kind kind.Number && same_kind c.kind kind.CloseBracket) then elements n.token else 0
size_at _ = 0

-- the size that is declared before these stretches: parameters of inlines have none
abbrev pub size_behind : DeclarationReading → List Written → ℕ
size_behind r ts = if r.is_header then 0 else size_at ts

-- a name that is declared, and its size, or 0 where it has none
pub record Declared : Type 0 where
  pub name : List ℕ
  pub size : ℕ

-- what one stretch declares, where `ts` are those behind it
abbrev pub declared_at : DeclarationReading → Written → List Written → List Declared
declared_at r t ts = if declares r t.kind then record { name = t.token; size = size_behind r ts } ∷ [] else []

-- all that stretches declare
abbrev pub declared_by : DeclarationReading → List Written → List Declared
declared_by r [] = []
declared_by r (t ∷ ts) = declared_at r t ts ++ declared_by (behind r t.kind t.token) ts

abbrev pub declared : List Written → List Declared
declared ts = declared_by start ts

-- sizes that agree, and else 0
abbrev pub joined : Option ℕ → ℕ → Option ℕ
joined None n = Some n
joined (Some m) n = Some (if m == n then m else 0)

-- the size of a name with one declaration more
abbrev pub noted : List ℕ → Option ℕ → Declared → Option ℕ
noted name o d = if bytes_eq d.name name then joined o d.size else o

abbrev pub agreed_from : List ℕ → Option ℕ → List Declared → Option ℕ
agreed_from name o [] = o
agreed_from name o (d ∷ ds) = agreed_from name (noted name o d) ds

-- the size in which all declarations of a name agree; 0 where they do not, and none where it is not declared
abbrev pub agreed : List ℕ → List Declared → Option ℕ
agreed name ds = agreed_from name None ds
