-- Which declaration of one name is in force, token by token.
use Rattle.std.specs.Prelude.{ℕ, ◌+◌, ◌-◌, Bool, true, false, not, ◌&&◌, ◌||◌, ◌==◌, nat_lt, nat_le, min, max, if◌then◌else◌, List}
use Rattle.std.specs.Str.{bytes_eq}
use Rattle.pml_token.specs.declared.token.Kind.{Kind}
use Rattle.pml_token.specs.declared.token.Kind.TheVariants as kind
use Rattle.pml_token.specs.Word.{same_kind}
use Rattle.prepare.specs.Contexts.{deeper}
use Rattle.prepare.specs.Sizes as sizes
use Rattle.names_apart.specs.declared.scope.TheConstants.{MOST_NUMBER}
use Rattle.names_apart.specs.declared.scope.Force.{Force}
use Rattle.names_apart.specs.declared.scope.InlineCall.{InlineCall}
use Rattle.names_apart.specs.declared.scope.NameScope.{NameScope}

-- so many declarations more
abbrev pub more : ℕ → ℕ → ℕ
more n m = min (n + m) MOST_NUMBER

-- whether a token is the name
abbrev pub is_name : List ℕ → Kind → List ℕ → Bool
is_name name k t = same_kind k kind.Name && bytes_eq t name

-- behind a declaration: within the block of another one it declares nothing new, which Spin refuses
abbrev pub declared : Force → ℕ → Force
declared f braces = if nat_lt 0 f.level then f else record { number = more f.number 1; level = max braces 1 }

-- behind a call of an inline that declares the name m times, each in a block that is closed
abbrev pub called : Force → ℕ → Force
called f m = if nat_lt 0 f.level then f else record { number = more f.number m; level = 0 }

-- behind a `}`: the last one ends the body, another the declarations of its block
abbrev pub closed : Force → ℕ → Force
closed f braces = if nat_lt braces 2 then record { number = 0; level = 0 } else (if nat_lt f.level braces then f else record { number = f.number; level = 0 })

abbrev pub braces_behind : ℕ → Kind → ℕ
braces_behind n kind.OpenBrace = deeper n
braces_behind n kind.CloseBrace = n - 1
braces_behind n _ = n

abbrev pub parens_behind : ℕ → Kind → ℕ
parens_behind n kind.OpenParen = deeper n
parens_behind n kind.CloseParen = n - 1
parens_behind n _ = n

-- behind `(`: a call begins behind the name of an inline
abbrev pub entered : InlineCall → ℕ → InlineCall
entered c parens =
    if nat_lt 0 c.within
    then record { ahead = 0; within = c.within; outer = c.outer; is_bare = true }
    else record { ahead = 0; within = c.ahead; outer = parens; is_bare = true }

-- whether a `)` ends the call
abbrev pub ends : InlineCall → ℕ → Bool
ends c parens = nat_lt 0 c.within && nat_le (parens - 1) c.outer

-- behind `)`
abbrev pub left : InlineCall → ℕ → InlineCall
left c parens = record { ahead = 0; within = if ends c parens then 0 else c.within; outer = c.outer; is_bare = false }

abbrev pub call_behind : InlineCall → ℕ → ℕ → Kind → InlineCall
call_behind c parens m kind.OpenParen = entered c parens
call_behind c parens m kind.CloseParen = left c parens
call_behind c parens m _ = record { ahead = m; within = c.within; outer = c.outer; is_bare = false }

abbrev pub start : NameScope
start =
    record {
      reading = sizes.start;
      is_field = false;
      braces = 0;
      parens = 0;
      is_inline = false;
      is_parameter = false;
      force = record { number = 0; level = 0 };
      call = record { ahead = 0; within = 0; outer = 0; is_bare = false };
    }

-- whether a token declares the name: a variable or a parameter, and no field
abbrev pub declares : NameScope → List ℕ → Kind → List ℕ → Bool
declares s name k t = is_name name k t && sizes.declares s.reading k

-- the header of an inline
abbrev pub is_header : NameScope → Bool
is_header s = s.is_inline && s.braces == 0

abbrev pub ends_call : NameScope → Kind → Bool
ends_call s k = same_kind k kind.CloseParen && ends s.call s.parens

-- which declaration is in force behind a token
abbrev pub force_behind : NameScope → List ℕ → Kind → List ℕ → Force
force_behind s name k t =
    if declares s name k t then (if is_header s then s.force else declared s.force s.braces)
    else (if same_kind k kind.CloseBrace then closed s.force s.braces
    else (if ends_call s k && nat_lt 0 s.braces then called s.force s.call.within
    else s.force))

-- whether a token ends a body
abbrev pub ends_body : NameScope → Kind → Bool
ends_body s k = same_kind k kind.CloseBrace && nat_lt s.braces 2

-- behind a token, which is the name of an inline that declares the name m times
abbrev pub behind : NameScope → List ℕ → ℕ → Kind → List ℕ → NameScope
behind s name m k t =
    record {
      reading = sizes.behind s.reading k t;
      is_field = same_kind k kind.Dot;
      braces = braces_behind s.braces k;
      parens = parens_behind s.parens k;
      is_inline = same_kind k kind.Inline || (s.is_inline && not (ends_body s k));
      is_parameter = (is_header s && declares s name k t) || (s.is_parameter && not (ends_body s k));
      force = force_behind s name k t;
      call = call_behind s.call s.parens m k;
    }
