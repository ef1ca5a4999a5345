-- Where a place lies among the tokens of a text.
use Rattle.std.specs.Prelude.{ℕ, ◌+◌, nat_eq, nat_le, nat_lt, Bool, false, ◌&&◌, ◌||◌, List, [], ◌∷◌, length, if◌then◌else◌}
use Rattle.std.specs.List.{list_any}
use Rattle.diagnostics.specs.declared.refusal.Refusal.{Refusal}
use Rattle.diagnostics.specs.declared.refusal.Refusal.TheVariants as r
use Rattle.pml_token.specs.declared.token.Kind.TheVariants.{LeftOut}
use Rattle.pml_token.specs.Word.{same_kind, Word}
use Rattle.explain_cause.specs.declared.cause.Segment.{Segment}

-- the place begins where the token does
abbrev pub begins : Segment → Word → Bool
begins p w = nat_eq w.line p.offset

-- the place is that of the token
abbrev pub is_of : Segment → Word → Bool
is_of p w = nat_eq w.line p.offset && nat_eq (length w.text) p.length

-- the place begins with the token or within it, as that of a `%` in a string
abbrev pub touches : Segment → Word → Bool
touches p w = nat_le w.line p.offset && nat_lt p.offset (w.line + length w.text)

-- the place is the end of the text, or begins with one of its tokens
abbrev pub at_token : List ℕ → List Word → Segment → Bool
at_token text ts p = nat_eq p.offset (length text) || list_any (begins p) ts

-- the same of a place that is told of a refusal; of a wrong number of arguments it may lie within a string
abbrev pub lies : Refusal → List ℕ → List Word → Segment → Bool
lies r.ArgumentCount text ts p = list_any (touches p) ts
lies x text ts p = at_token text ts p

-- whether the place is that of the first of these tokens that stands for something that is left out
abbrev pub at_first_left_out : List Word → Segment → Bool
at_first_left_out [] p = false
at_first_left_out (w ∷ ws) p = if same_kind w.kind LeftOut then is_of p w else at_first_left_out ws p
