-- Which declarations are steps, token by token.
use Rattle.std.specs.Prelude.{ℕ, ◌-◌, Bool, true, false, not, ◌&&◌, ◌||◌, ◌==◌, nat_lt, if◌then◌else◌, List, [], ◌∷◌}
use Rattle.pml_token.specs.declared.token.Kind.{Kind}
use Rattle.pml_token.specs.declared.token.Kind.TheVariants as kind
use Rattle.pml_token.specs.Word.{same_kind}
use Rattle.prepare.specs.declared.sizes.Lead.{Lead}
use Rattle.prepare.specs.declared.sizes.Lead.TheVariants as lead
use Rattle.prepare.specs.Contexts.{deeper}
use Rattle.prepare.specs.Sizes as sizes
use Rattle.prepare.specs.Written.{Written}
use Rattle.declared_steps.specs.declared.stage.PendingStep.{PendingStep}
use Rattle.declared_steps.specs.declared.stage.PendingStep.TheVariants as item
use Rattle.declared_steps.specs.declared.stage.DeclarationStage.{DeclarationStage}

-- a type of which a variable has one number
abbrev pub is_type : Kind → Bool
is_type kind.Bit = true
is_type kind.Bool = true
is_type kind.Byte = true
is_type kind.Int = true
is_type kind.Mtype = true
is_type kind.Pid = true
is_type kind.Short = true
is_type kind.Unsigned = true
is_type _ = false

-- another word that begins a declaration
abbrev pub is_modifier : Kind → Bool
is_modifier kind.Chan = true
is_modifier kind.Hidden = true
is_modifier kind.Local = true
is_modifier kind.Show = true
is_modifier kind.Xr = true
is_modifier kind.Xs = true
is_modifier _ = false

-- what ends a declaration
abbrev pub ends : Kind → Bool
ends kind.Semicolon = true
ends kind.Arrow = true
ends kind.DoubleColon = true
ends kind.CloseBrace = true
ends kind.Fi = true
ends kind.Od = true
ends kind.Unless = true
ends kind.End = true
ends _ = false

-- whether a token of this kind stands at the front of stretches
abbrev pub begins_with : Kind → List Written → Bool
begins_with k [] = false
begins_with k (t ∷ ts) = same_kind t.kind k

abbrev pub is_led_by_type : Lead → Bool
is_led_by_type lead.Type = true
is_led_by_type _ = false

abbrev pub braces_behind : ℕ → Kind → ℕ
braces_behind n kind.OpenBrace = deeper n
braces_behind n kind.CloseBrace = n - 1
braces_behind n _ = n

-- what is to be written of a name of this type
abbrev pub item_of : Kind → PendingStep
item_of k = if is_type k then item.Named false false else (if same_kind k kind.Chan then item.Named false true else item.Nothing)

-- behind `=`: a channel that is made there is no step
abbrev pub item_with_value : Bool → List Written → PendingStep
item_with_value is_channel ts = if is_channel && begins_with kind.OpenBracket ts then item.Nothing else item.Valued

abbrev pub item_within : PendingStep → Kind → List Written → PendingStep
item_within (item.Named is_array is_channel) k ts =
    if same_kind k kind.Assign then item_with_value is_channel ts else item.Named (is_array || same_kind k kind.OpenBracket) is_channel
item_within i k ts = i

-- behind a token that stands in no brackets of the declaration
abbrev pub item_behind : PendingStep → Kind → List Written → PendingStep
item_behind i k ts = if same_kind k kind.Comma || ends k then item.Nothing else item_within i k ts

abbrev pub start : DeclarationStage
start = record { reading = sizes.start; last = kind.End; type_word = kind.End; braces = 0; is_inline = false; is_behind = false; is_claim = false; item = item.Nothing }

-- whether a token is a name that is declared behind its type
abbrev pub is_first : DeclarationStage → Kind → Bool
is_first s k = sizes.declares s.reading k && is_led_by_type s.reading.lead

-- whether a declaration is a step here: in a block, in an inline, and behind a statement; not at the beginning of another body
abbrev pub is_step : DeclarationStage → Bool
is_step s = nat_lt 1 s.braces || (nat_lt 0 s.braces && (s.is_inline || s.is_behind))

abbrev pub is_claim_word : Kind → Bool
is_claim_word kind.Xr = true
is_claim_word kind.Xs = true
is_claim_word _ = false

-- whether a token stands in a claim on channels, from its word on
abbrev pub claims : DeclarationStage → Kind → Bool
claims s k = is_claim_word k || (s.is_claim && not (ends k))

-- whether a token stands in a declaration, or between declarations
abbrev pub is_quiet : DeclarationStage → Kind → List Written → Bool
is_quiet s k ts =
    let is_word = is_type k || is_modifier k in
    let is_user = same_kind k kind.Name && begins_with kind.Name ts in
    let is_between = same_kind k kind.Semicolon || same_kind k kind.Arrow in
    let is_declared = s.reading.goes_on || sizes.declares s.reading k in
    (is_word || is_user) || (is_between || (is_declared || claims s k))

abbrev pub ends_body : DeclarationStage → Kind → Bool
ends_body s k = same_kind k kind.CloseBrace && nat_lt s.braces 2

abbrev pub type_behind : DeclarationStage → Kind → Kind
type_behind s k = if is_first s k then s.last else s.type_word

abbrev pub next_item : DeclarationStage → Kind → List Written → PendingStep
next_item s k ts =
    if sizes.declares s.reading k then (if is_step s then item_of (type_behind s k) else item.Nothing)
    else (if s.reading.depth == 0 then item_behind s.item k ts else s.item)

-- behind a token, before these stretches
abbrev pub behind : DeclarationStage → Kind → List ℕ → List Written → DeclarationStage
behind s k t ts =
    record {
      reading = sizes.behind s.reading k t;
      last = k;
      type_word = type_behind s k;
      braces = braces_behind s.braces k;
      is_inline = same_kind k kind.Inline || (s.is_inline && not (ends_body s k));
      is_behind = not (ends_body s k) && (s.is_behind || (nat_lt 0 s.braces && not (is_quiet s k ts)));
      is_claim = claims s k;
      item = next_item s k ts;
    }
