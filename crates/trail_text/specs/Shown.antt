-- What Spin shows of statements, and what it does not show.
use Rattle.std.specs.Prelude.{◌||◌, ◌&&◌, not, ℕ, nat_eq, List, [], ◌∷◌, length, drop, codes, Bool, false}
use Rattle.std.specs.List.{starts_with, ends_with, list_any}
use Rattle.std.specs.Str.{bytes_eq}
use Rattle.trail_text.specs.Parts.{has, leads, behind_blanks}
use Rattle.trail_text.specs.declared.entry.Event.{Event}
use Rattle.trail_text.specs.declared.entry.Event.TheVariants.{Statement, Death}

-- an `else`
abbrev pub is_else : Event → Bool
is_else (Statement line text) = bytes_eq text.now (codes "else")
is_else Death = false

-- a text begins so
abbrev pub begins : List ℕ → List ℕ → Bool
begins text word = starts_with nat_eq text word

-- a step that the machine may take and Spin does not show
abbrev pub is_of_machine : List ℕ → Bool
is_of_machine text =
    bytes_eq text (codes "else") || (bytes_eq text (codes "break") || (bytes_eq text (codes "skip") || begins text (codes "goto ")))

-- a statement that gives a variable another number than 0
abbrev pub gives_value : Event → Bool
gives_value (Statement line text) = has text.now (codes " = ") && not (ends_with nat_eq text.now (codes " = 0"))
gives_value Death = false

-- what Spin shows of jumps, of the ends of selections and of sequences
abbrev pub jumps : List (List ℕ)
jumps =
    codes ".(goto)" ∷ codes "break" ∷ codes "IF" ∷ codes "DO" ∷ codes "ATOMIC" ∷ codes "UNLESS" ∷ codes "sub-sequence" ∷ codes "(1)" ∷ codes "else"
    ∷ codes "-end-" ∷ []

abbrev pub is_jump : List ℕ → Bool
is_jump text = list_any (bytes_eq text) jumps

-- Spin may show this of a statement that is no step of the machine
abbrev pub is_of_spin : List ℕ → Bool
is_of_spin text = is_jump text || (nat_eq (length text) 0 || (begins text (codes "goto ") || begins text (codes "D_STEP")))

-- a line says where a cycle begins
abbrev pub tells_cycle : List ℕ → Bool
tells_cycle line = begins (behind_blanks line) (codes "<<<<<START OF CYCLE")

-- a line says that an assertion failed, and where
abbrev pub tells_failure : List ℕ → Bool
tells_failure line = leads line (codes "spin: ") && has (drop 6 line) (codes ", Error: assertion violated")

-- a line has the text of an assertion that failed
abbrev pub tells_text : List ℕ → Bool
tells_text line = leads line (codes "spin: text of failed assertion: ")

-- a line says that a claim moves to an assertion
abbrev pub is_of_claim : List ℕ → Bool
is_of_claim line = begins line (codes "Never claim moves to line ") && has line (codes "[assert")
