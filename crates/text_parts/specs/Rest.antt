-- A text without the body of a process: all else stands where it stood.
use Rattle.std.specs.Prelude.{◌≡◌, ℕ, ◌+◌, ◌-◌, nat_lt, if◌then◌else◌, List, ◌++◌, length, take, drop, codes, Option, Some, None}
use Rattle.pml_lex.specs.declared.fault.LexError.{LexError}
use Rattle.pml_token.specs.Word.{Word}
use Rattle.explain_tokens.specs.Placed.{ArePlaced, IsUnplaced}
use Rattle.text_parts.specs.declared.bodies.ProcessBody.{ProcessBody}
use Rattle.text_parts.specs.declared.bodies.Stand.TheVariants.{Outside}
use Rattle.text_parts.specs.Bodies.{body_at}
use Rattle.text_parts.specs.Written.{shown_in, written}

-- the bytes between the brace that opens a body and what stands behind it
abbrev pub inner : List ℕ → ProcessBody → List ℕ
inner text b = take (b.end - (b.brace + 1)) (drop (b.brace + 1) text)

-- one statement that can always be taken, and the brace that closes the body, in place of these
abbrev pub blanked : List ℕ → ProcessBody → List ℕ
blanked text b = take (b.brace + 1) text ++ (written (codes "1}") (inner text b) ++ drop b.end text)

-- if more is written there now
abbrev pub rest_by : List ℕ → Option ProcessBody → Option (List ℕ)
rest_by text None = None
rest_by text (Some b) = if nat_lt 2 (shown_in (inner text b)) then Some (blanked text b) else None

-- The text without the body in which a place lies, if it lies in one, and the text can be cut into tokens.
pub data IsRest (text : List ℕ) (at : ℕ) (rest : Option (List ℕ)) : Type 0 where
  uncut : (why : LexError) → IsUnplaced text why → rest ≡ None → IsRest text at rest
  without : (tokens : List Word) → ArePlaced text tokens → rest ≡ rest_by text (body_at at (length text) Outside tokens) → IsRest text at rest
