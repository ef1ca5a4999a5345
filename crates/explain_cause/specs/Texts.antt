-- What stands within what in a text that has no tokens.
use Rattle.std.specs.Prelude.{ℕ, nat_eq, nat_lt, ◌-◌, Bool, true, false, ◌&&◌, ◌||◌, not, if◌then◌else◌, List, Option, Some, None}
use Rattle.pml_token.specs.declared.token.Kind.TheVariants as kind
use Rattle.pml_token.specs.Word.{same_kind, Word}
use Rattle.explain_cause.specs.declared.cause.Segment.{Segment}
use Rattle.explain_cause.specs.declared.cause.Reason.{Reason}
use Rattle.explain_cause.specs.declared.cause.Reason.TheVariants as cause
use Rattle.explain_cause.specs.declared.cause.Finding.{Finding}
use Rattle.explain_cause.specs.declared.lexical.Within.{Within}
use Rattle.explain_cause.specs.declared.lexical.Within.TheVariants as within
use Rattle.explain_cause.specs.Places.{kind_at}

-- it is told of a text that has no tokens, or has nothing more to tell
abbrev pub is_text : Reason → Bool
is_text (cause.Text c) = true
is_text cause.Untold = true
is_text r = false

abbrev pub place_of : Option Finding → Option Segment
place_of None = None
place_of (Some f) = f.place

-- what stands behind a byte of code: `"` opens a string, `'` a quote, `//` and `/*` a comment
abbrev pub behind_code : ℕ → ℕ → ℕ → Within
behind_code before byte at =
    if nat_eq byte 34 then within.Text
    else if nat_eq byte 39 then within.Quote at
    else if nat_eq byte 47 && nat_eq before 47 then within.Line
    else if nat_eq byte 42 && nat_eq before 47 then within.Opening
    else within.Code

-- the same within something, which a byte may end
abbrev pub or_end : Bool → Within → Within
or_end ends w = if ends then within.Code else w

abbrev pub behind : Within → ℕ → ℕ → ℕ → Within
behind within.Code before byte at = behind_code before byte at
behind within.Opening before byte at = within.Block
behind within.Text before byte at = or_end (nat_eq byte 10 || (nat_eq byte 34 && not (nat_eq before 92))) within.Text
behind within.Line before byte at = or_end (nat_eq byte 10) within.Line
behind within.Block before byte at = or_end (nat_eq before 42 && nat_eq byte 47) within.Block
behind (within.Quote q) before byte at = or_end (nat_eq byte 39 || nat_eq byte 10) (within.Quote q)

-- the name behind `at` others is that of a proctype or of an inline
abbrev pub is_defined : List Word → ℕ → Bool
is_defined ts at =
    nat_lt 0 at && (same_kind (kind_at ts (at - 1)) kind.Proctype || same_kind (kind_at ts (at - 1)) kind.Inline)
