-- Where it is told that a mark breaks a condition.
use Rattle.std.specs.Prelude.{◌≡◌, ℕ, nat_eq, Bool, true, false, ◌&&◌, ◌||◌, if◌then◌else◌, List, [], ◌∷◌, take, drop, slice_get, count_by, Option, Some, None}
use Rattle.std.specs.List.{list_any, flat_map}
use Rattle.diagnostics.specs.declared.refusal.Refusal.{Refusal}
use Rattle.diagnostics.specs.declared.refusal.Refusal.TheVariants as r
use Rattle.pml_token.specs.declared.token.Kind.TheVariants as kind
use Rattle.pml_token.specs.Word.{same_kind, Word}
use Rattle.pml_tree.specs.declared.tree.Tree.{Tree}
use Rattle.pml_program.specs.declared.program.Program.{Program}
use Rattle.promela_model.specs.declared.mark.What.{What}
use Rattle.promela_model.specs.declared.mark.What.TheVariants as what
use Rattle.promela_model.specs.declared.mark.Mark.{Mark}
use Rattle.promela_model.specs.declared.condition.Condition.{Condition}
use Rattle.promela_model.specs.declared.condition.Condition.TheVariants as condition
use Rattle.check_conditions.specs.First.{FindsFirst}
use Rattle.check_resolve.specs.Model.{numbered_model}
use Rattle.explain_control.specs.Sites.{sites_of}
use Rattle.explain_control.specs.Blamed.{breaks_in}
use Rattle.explain_cause.specs.declared.cause.Segment.{Segment}
use Rattle.explain_find.specs.Tokens.{begins, is_of, touches}

-- the condition on marks that a refusal is of
abbrev pub condition_of : Refusal → Option Condition
condition_of r.NameTwice = Some condition.Twice
condition_of r.UnknownName = Some condition.Unknown
condition_of r.WrongKind = Some condition.Wrong
condition_of r.ArgumentCount = Some condition.Arguments
condition_of r.Label = Some condition.Label
condition_of r.BreakOutsideDo = Some condition.Break
condition_of r.DStep = Some condition.Step
condition_of r.NumberOutOfRange = Some condition.Range
condition_of r.TooManyCells = Some condition.Cells
condition_of x = None

-- the place of the token that the first declaration among these marks names
abbrev pub or_declared : What → Option ℕ → Option ℕ
or_declared (what.Declares w d) o = Some w.line
or_declared x o = o

abbrev pub first_declared : List Mark → Option ℕ
first_declared [] = None
first_declared (m ∷ ms) = or_declared m.what (first_declared ms)

-- whether the place begins with one of the tokens from the one on that has another place
abbrev pub begins_from : List Word → ℕ → Segment → Bool
begins_from [] n p = false
begins_from (w ∷ ws) n p = if nat_eq w.line n then list_any (begins p) (w ∷ ws) else begins_from ws n p

abbrev pub begins_behind : List Word → Option ℕ → Segment → Bool
begins_behind ts None p = false
begins_behind ts (Some n) p = begins_from ts n p

abbrev pub is_unless : Segment → Word → Bool
is_unless p w = same_kind w.kind kind.Unless && is_of p w

-- Whether the place is that of a mark, among these tokens, where `ms` are the marks from it on: of its token, of one of the names of a reference, of a `%` in
-- what is printed, of an `unless`, or in the declaration that a size, a capacity or an initialiser belongs to.
abbrev pub is_told : List Word → List Mark → What → Segment → Bool
is_told ts ms (what.Declares w d) p = is_of p w
is_told ts ms (what.Uses u ss) p = list_any (λ s. is_of p s.name) ss
is_told ts ms (what.Typedef w) p = is_of p w
is_told ts ms (what.Runs w n) p = is_of p w
is_told ts ms (what.Prints w n) p = touches p w
is_told ts ms (what.Number w) p = is_of p w
is_told ts ms (what.Width w) p = is_of p w
is_told ts ms (what.Size c) p = begins_behind ts (first_declared ms) p
is_told ts ms (what.Starts c) p = list_any (begins p) ts
is_told ts ms (what.Preset c) p = begins_behind ts (first_declared ms) p
is_told ts ms (what.Channel h c n) p = begins_behind ts (first_declared ms) p
is_told ts ms (what.Label w) p = is_of p w
is_told ts ms (what.Goto w) p = is_of p w
is_told ts ms what.Break p = false
is_told ts ms what.Unless p = list_any (is_unless p) ts
is_told ts ms (what.Enter s) p = false
is_told ts ms what.Leave p = false

abbrev pub first_is_told : List Word → List Mark → Segment → Bool
first_is_told ts [] p = false
first_is_told ts (m ∷ ms) p = is_told ts (m ∷ ms) m.what p

-- the places of the breaks of a model, and of that of a tree, in the order of the text
abbrev pub breaks_of : Program → List (Option ℕ)
breaks_of m = flat_map (λ p. breaks_in (sites_of p.body)) m.proctypes

abbrev pub all_breaks : Tree → List (Option ℕ)
all_breaks t = breaks_of (numbered_model t)

abbrev pub is_break : Mark → Bool
is_break m = breaks m.what
  where
    breaks : What → Bool
    breaks what.Break = true
    breaks x = false

abbrev pub first_is_break : List Mark → Bool
first_is_break [] = false
first_is_break (m ∷ ms) = is_break m

abbrev pub has_offset : Option (Option ℕ) → Segment → Bool
has_offset (Some (Some n)) p = nat_eq n p.offset
has_offset o p = false

-- whether mark k is a break, and the place the one of as many breaks as stand before it
abbrev pub is_at_break : List (Option ℕ) → List Mark → ℕ → Segment → Bool
is_at_break bs ms k p = first_is_break (drop k ms) && has_offset (slice_get bs (count_by is_break (take k ms))) p

-- the place is that of mark k
abbrev pub IsOfMark : List Word → List (Option ℕ) → List Mark → ℕ → Segment → Type 0
IsOfMark ts bs ms k p = (first_is_told ts (drop k ms) p || is_at_break bs ms k p) ≡ true

-- no mark breaks the condition that a refusal is of
abbrev pub NoneBreaks : Refusal → List Mark → Type 0
NoneBreaks x ms = (c : Condition) → condition_of x ≡ Some c → FindsFirst c ms None
