-- The call in which a place stands, by the tokens before it, which are read from the place back.
use Rattle.std.specs.Prelude.{ℕ, ◌+◌, ◌-◌, nat_eq, Bool, true, false, ◌||◌, if◌then◌else◌, List, [], ◌∷◌, length, Option, Some, None}
use Rattle.pml_token.specs.declared.token.Kind.{Kind}
use Rattle.pml_token.specs.declared.token.Kind.TheVariants as kind
use Rattle.pml_token.specs.Word.{same_kind, Word}
use Rattle.text_parts.specs.declared.calls.PartialCall.{PartialCall}
use Rattle.text_parts.specs.declared.calls.Back.{Back}
use Rattle.text_parts.specs.declared.calls.Back.TheVariants.{Within, Opened, Named, Called, Outside}

-- `( [ {`
abbrev pub opens : Kind → Bool
opens k = (same_kind k kind.OpenParen || same_kind k kind.OpenBracket) || same_kind k kind.OpenBrace

-- `) ] }`
abbrev pub closes : Kind → Bool
closes k = (same_kind k kind.CloseParen || same_kind k kind.CloseBracket) || same_kind k kind.CloseBrace

-- a statement begins behind it
abbrev pub ends : Kind → Bool
ends k =
    (((same_kind k kind.Semicolon || same_kind k kind.OpenBrace) || same_kind k kind.DoubleColon) || same_kind k kind.Od) || same_kind k kind.Fi

-- how many brackets and commas are counted
abbrev pub counted : Back → ℕ
counted (Within c n) = c + n
counted (Opened n) = n
counted (Named c) = 0
counted (Called c) = 0
counted Outside = 0

-- before one more token outside of brackets: a bracket that is opened there has the place in it, and what lies before that one is counted anew
abbrev pub outside : ℕ → Kind → Back
outside n k =
    if same_kind k kind.OpenParen then Opened n
    else if same_kind k kind.OpenBracket then Within 0 0
    else if same_kind k kind.Comma then Within 0 (n + 1)
    else if ends k then Outside
    else Within 0 n

-- before one more token of arguments, where `c` brackets are closed behind it
abbrev pub within : ℕ → ℕ → Kind → Back
within c n k =
    if closes k then Within (c + 1) n
    else if nat_eq c 0 then outside n k
    else if opens k then Within (c - 1) n
    else Within c n

-- before the token in front of a `(`: a name is called; else the parentheses are those of an expression
abbrev pub named : ℕ → Word → Back
named n w =
    if same_kind w.kind kind.Name then Named (record { at = w.line; length = length w.text; is_run = false; commas = n })
    else within 0 0 w.kind

abbrev pub run_of : PartialCall → PartialCall
run_of c = record { at = c.at; length = c.length; is_run = true; commas = c.commas }

-- before the token in front of a name with a `(`: the heading of a definition is no call
abbrev pub headed : PartialCall → Kind → Back
headed c k =
    if same_kind k kind.Run then Called (run_of c)
    else if same_kind k kind.Proctype || same_kind k kind.Inline then Outside
    else Called c

-- before one more token
abbrev pub next : Back → Word → Back
next (Within c n) w = within c n w.kind
next (Opened n) w = named n w
next (Named c) w = headed c w.kind
next (Called c) w = Called c
next Outside w = Outside

-- before all tokens
abbrev pub read : List Word → Back
read [] = Within 0 0
read (w ∷ ws) = next (read ws) w

abbrev pub called : Back → Option PartialCall
called (Called c) = Some c
called b = None

-- The innermost call whose `(` stands among these tokens and is not closed there.
abbrev pub call_around : List Word → Option PartialCall
call_around ws = called (read ws)
