-- How far the tokens behind a word `inline` are the head of a definition, `NAME ( NAME , NAME ) {`.
use Rattle.std.specs.Prelude.{Bool, false, ◌&&◌, not, is_some, if◌then◌else◌, List, [], ◌∷◌, Option, Some, None}
use Rattle.pml_token.specs.declared.token.Kind.{Kind}
use Rattle.pml_token.specs.declared.token.Kind.TheVariants as kind
use Rattle.pml_token.specs.Word.{same_kind, Word}
use Rattle.explain_find.specs.declared.heads.HeadPart.{HeadPart}
use Rattle.explain_find.specs.declared.heads.HeadPart.TheVariants as part

-- a token of one kind is wanted; or a `)`, behind which the body is
abbrev pub only : Kind → Kind → HeadPart → Option HeadPart
only k wanted s = if same_kind k wanted then Some s else None

abbrev pub or_close : Kind → Kind → HeadPart → Option HeadPart
or_close k wanted s = if same_kind k kind.CloseParen then Some part.Body else only k wanted s

-- what is wanted behind a token of this kind, if it is one that is wanted
abbrev pub behind : HeadPart → Kind → Option HeadPart
behind part.Name k = only k kind.Name part.Open
behind part.Open k = only k kind.OpenParen part.First
behind part.First k = or_close k kind.Name part.Behind
behind part.Behind k = or_close k kind.Comma part.Parameter
behind part.Parameter k = only k kind.Name part.Behind
behind part.Body k = None

abbrev pub and_then : Option HeadPart → (HeadPart → Option HeadPart) → Option HeadPart
and_then None rest = None
and_then (Some s) rest = rest s

-- what is wanted behind these tokens, if each is one that is wanted at its place
abbrev pub head : List Word → HeadPart → Option HeadPart
head [] s = Some s
head (w ∷ ws) s = and_then (behind s w.kind) (head ws)

-- the token of this kind is the `{` of the body
abbrev pub opens_body : Option HeadPart → Kind → Bool
opens_body (Some part.Body) k = same_kind k kind.OpenBrace
opens_body o k = false

-- it is none that is wanted
abbrev pub is_unwanted : Option HeadPart → Kind → Bool
is_unwanted None k = false
is_unwanted (Some s) k = not (is_some (behind s k)) && not (opens_body (Some s) k)
