-- The page of a run, and the steps as items of a list.
use Rattle.std.specs.Prelude.{ℕ, ◌≡◌, false, ltb, if◌then◌else◌, nat_eq, List, [], ◌∷◌, ◌++◌, codes}
use Rattle.std.specs.List.{flat_map, list_any}
use Rattle.std.specs.Fmt.{decimal}
use Rattle.diagnostics.specs.declared.fault.Fault.{Fault}
use Rattle.diagnostics.specs.Numbers.{fault_number}
use Rattle.diagnostic_words.specs.Words.{fault_words}
use Rattle.view_text.specs.Written.{quoted}
use Rattle.view_foreign.specs.Shown.{shown_bytes}
use Rattle.view_page.specs.declared.parts.TheConstants.{TO_TITLE, TO_HEADING, TO_SOURCE, TO_STEPS, TO_LINES}
use Rattle.view_page.specs.declared.script.TheConstants.{TO_END}
use Rattle.view_page.specs.declared.page.Contents.{Contents}

-- a byte so that HTML shows it as it is
abbrev pub shown_byte : ℕ → List ℕ
shown_byte b =
    if nat_eq b 13 then codes "&#13;" else if nat_eq b 38 then codes "&amp;" else if nat_eq b 60 then codes "&lt;"
    else if nat_eq b 62 then codes "&gt;" else if nat_eq b 34 then codes "&quot;" else b ∷ []

abbrev pub shown : List ℕ → List ℕ
shown = flat_map shown_byte

-- bytes that others wrote, so that HTML shows them as a terminal does
abbrev pub foreign : List ℕ → List ℕ
foreign bs = shown (shown_bytes bs)

-- a byte of JSON within an element: `<` by its number
abbrev pub held_byte : ℕ → List ℕ
held_byte b = if nat_eq b 60 then codes "\\u003c" else b ∷ []

abbrev pub held : List ℕ → List ℕ
held = flat_map held_byte

-- what stands before the steps
abbrev pub source : Contents → List ℕ
source c = TO_TITLE.now ++ (foreign c.name.now ++ (TO_HEADING.now ++ (foreign c.name.now ++ (TO_SOURCE.now ++ foreign c.model.now))))

-- A page: its parts, and between them the name of the model, its text, the items of its steps, and the lines of JSON.
abbrev pub page : Contents → List ℕ
page c = source c ++ (TO_STEPS.now ++ (c.steps.now ++ (TO_LINES.now ++ (held c.lines.now ++ TO_END.now))))

-- ---- items

-- which choice a step was, where it was one of several
abbrev pub choice_text : ℕ → ℕ → List ℕ
choice_text choice of = if ltb 1 of then codes ", choice " ++ (decimal choice ++ (codes " of " ++ decimal of)) else []

-- what it printed, if anything
abbrev pub printed_text : List ℕ → List ℕ
printed_text [] = []
printed_text (b ∷ bs) = codes ", prints " ++ foreign (quoted (b ∷ bs))

abbrev pub item : List ℕ → List ℕ
item inside = codes "<li>" ++ (inside ++ codes "</li>\n")

abbrev pub step_item : List ℕ → List ℕ → ℕ → ℕ → List ℕ
step_item text printed choice of = item (foreign text ++ (choice_text choice of ++ printed_text printed))

abbrev pub fault_item : List ℕ → Fault → List ℕ
fault_item text f = item (foreign text ++ (codes ": fault F" ++ (decimal (fault_number f) ++ (codes " (" ++ (shown (fault_words f) ++ codes ")")))))

abbrev pub end_item : List ℕ → List ℕ
end_item end = item (codes "end: " ++ shown end)

-- ---- laws

-- no byte of these is this one
abbrev pub HasNo : ℕ → List ℕ → Type 0
HasNo b bs = list_any (λ x. nat_eq x b) bs ≡ false

-- what is held in an element has no `<`, so nothing in it ends the element
abbrev pub NothingHeldEnds : Type 0
NothingHeldEnds = (bs : List ℕ) → HasNo 60 (held bs)

-- what is shown has no `<`, no `>` and no quotation mark, so nothing in it is an element
abbrev pub NothingShownIsAnElement : Type 0
NothingShownIsAnElement = (bs : List ℕ) → HasNo 60 (shown bs) × HasNo 62 (shown bs) × HasNo 34 (shown bs)
