-- Where it is told that a definition or a call of an inline is not right.
use Rattle.std.specs.Prelude.{◌≡◌, ℕ, ◌+◌, ◌-◌, nat_eq, nat_lt, Bool, true, false, ◌&&◌, ◌||◌, is_some, List, [], ◌∷◌, length, take, drop, slice_index_or, Option}
use Rattle.std.specs.List.{list_any}
use Rattle.std.specs.Str.{bytes_eq}
use Rattle.pml_token.specs.declared.token.Kind.TheVariants as kind
use Rattle.pml_token.specs.Word.{same_kind, Word}
use Rattle.promela_text.specs.declared.misuse.Rule.{Rule}
use Rattle.promela_text.specs.declared.misuse.Rule.TheVariants as rule
use Rattle.promela_text.specs.declared.misuse.Misuse.{Misuse}
use Rattle.explain_cause.specs.declared.cause.Segment.{Segment}
use Rattle.explain_find.specs.declared.heads.HeadPart.{HeadPart}
use Rattle.explain_find.specs.declared.heads.HeadPart.TheVariants as part
use Rattle.explain_find.specs.Tokens.{is_of}
use Rattle.explain_find.specs.Heads.{head, opens_body, is_unwanted}

-- the token behind k others
abbrev pub token_at : List Word → ℕ → Word
token_at ts k = slice_index_or ts k (record { kind = kind.End; text = []; line = 0 })

-- the word `inline`
abbrev pub is_inline : Word → Bool
is_inline w = same_kind w.kind kind.Inline

-- the token behind k others stands where a definition has its name: behind the word `inline`
abbrev pub is_defined : List Word → ℕ → Bool
is_defined ts k = nat_lt 0 k && is_inline (token_at ts (k - 1))

abbrev pub begins_with : List ℕ → List Word → Bool
begins_with n [] = false
begins_with n (w ∷ ws) = bytes_eq w.text n

-- some definition among the tokens has this name
abbrev pub has_definition : List ℕ → List Word → Bool
has_definition n [] = false
has_definition n (w ∷ ws) = (is_inline w && begins_with n ws) || has_definition n ws

-- the token behind k others is a name that some definition has
abbrev pub is_called : List Word → ℕ → Bool
is_called ts k = same_kind (token_at ts k).kind kind.Name && has_definition (token_at ts k).text ts

-- the same name stands twice: behind k others, and behind d others and one more
abbrev pub is_repeated : List Word → ℕ → ℕ → Bool
is_repeated ts k d = list_any (λ w. bytes_eq w.text (token_at ts k).text) (take (k - (d + 1)) (drop (d + 1) ts))

-- two definitions have one name
abbrev pub has_one_name : List Word → ℕ → ℕ → Bool
has_one_name ts k d = is_defined ts k && nat_lt d k && bytes_eq (token_at ts k).text (token_at ts d).text

-- what the head of a definition wants behind k others, where its name stands behind d others
abbrev pub wanted_at : List Word → ℕ → ℕ → Option HeadPart
wanted_at ts k d = head (take (k - d) (drop d ts)) part.Name

-- the token behind k others is none that the head wants, or the head goes on to the end of the text
abbrev pub breaks_form : List Word → ℕ → ℕ → Bool
breaks_form ts k d =
    is_unwanted (wanted_at ts k d) (token_at ts k).kind || (nat_eq (k + 1) (length ts) && is_some (head (drop d ts) part.Name))

-- Whether the token behind k others is one that can break the rule, where the definition's name stands behind d others: a word `inline`, a token that the head
-- of a definition does not want, the `{` of its body, a parameter or a definition that has the name of another one, or a name that is called.
abbrev pub can_break : Rule → List Word → ℕ → ℕ → Bool
can_break rule.Outside ts k d = is_inline (token_at ts k)
can_break rule.Form ts k d = is_defined ts d && breaks_form ts k d
can_break rule.Body ts k d = is_defined ts d && opens_body (wanted_at ts k d) (token_at ts k).kind
can_break rule.Parameters ts k d = is_defined ts d && is_repeated ts k d
can_break rule.Names ts k d = is_defined ts d && has_one_name ts k d
can_break rule.Call ts k d = is_called ts k
can_break (rule.Arguments given wanted) ts k d = is_called ts k
can_break rule.Empty ts k d = is_called ts k
can_break rule.Recursion ts k d = is_called ts k
can_break rule.Depth ts k d = is_called ts k
can_break rule.Length ts k d = is_called ts k

-- the place is that of the token which the misuse names, and this is one that can break its rule
abbrev pub IsOfMisuse : List Word → Misuse → Segment → Type 0
IsOfMisuse ts m p = (is_of p (token_at ts m.at) && can_break m.rule ts m.at m.definition) ≡ true
