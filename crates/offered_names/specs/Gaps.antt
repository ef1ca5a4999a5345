-- The statement that is being typed.
use Rattle.std.specs.Prelude.{ℕ, ◌+◌, Bool, ◌||◌, if◌then◌else◌, List, [], ◌∷◌, ◌++◌, length, take, drop, codes}
use Rattle.pml_token.specs.declared.token.Kind.{Kind}
use Rattle.pml_token.specs.declared.token.Kind.TheVariants as kind
use Rattle.pml_token.specs.Word.{same_kind, Word}

-- a statement may begin behind this token, or ends before it
abbrev pub parts : Kind → Bool
parts k =
    (((((same_kind k kind.Semicolon || same_kind k kind.Arrow) || same_kind k kind.OpenBrace) || same_kind k kind.CloseBrace)
    || same_kind k kind.DoubleColon) || same_kind k kind.Od) || same_kind k kind.Fi

-- where the last of these tokens ends, behind a place
abbrev pub gap_start : ℕ → List Word → ℕ
gap_start start [] = start
gap_start start (w ∷ ws) = gap_start (if parts w.kind then w.line + length w.text else start) ws

-- where the first of them stands, or how long the text is
abbrev pub gap_end : ℕ → List Word → ℕ
gap_end n [] = n
gap_end n (w ∷ ws) = if parts w.kind then w.line else gap_end n ws

-- `skip` in place of what lies between
abbrev pub mended : List ℕ → ℕ → ℕ → List ℕ
mended text from to = take from text ++ (codes " skip " ++ drop to text)
