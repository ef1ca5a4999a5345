-- The lines of nodes, and which nodes are marked as ends.
use Rattle.std.specs.Prelude.{◌≡◌, ℕ, ◌+◌, Bool, true, false, if◌then◌else◌, nat_lt, List, [], ◌∷◌, length, Option, Some, None, slice_set, slice_index_or, unwrap_or, option_map}
use Rattle.pml_program.specs.declared.program.Stmt.{Stmt}
use Rattle.pml_program.specs.declared.program.Seq.{Seq}
use Rattle.promela_process.specs.Control.{Position, Control, at, settle, steps}
use Rattle.promela_process.specs.Offers.{statement_at, first_line, any_end}

-- the line of a statement, or of the closing brace where there is none
abbrev pub line_of : Option Stmt → ℕ → ℕ
line_of o brace = unwrap_or (option_map (λ (s : Stmt). first_line s.tokens brace) o) brace

-- a statement has a label that begins with `end`
abbrev pub has_end : Option Stmt → Bool
has_end None = false
has_end (Some s) = any_end s.labels

-- A valid end point: nothing is left, or a label that begins with `end` leads there without a step.
pub data IsValidEnd (b : Seq) (c : Control) : Type 0 where
  at_end : c ≡ [] → IsValidEnd b c
  by_label : (p : Position) → has_end (statement_at b p) ≡ true → settle b (at (steps b) p) ≡ c → IsValidEnd b c

-- ---- what the code makes of statements

-- the lines where settling ends, from number k on
abbrev pub lines_from : ℕ → List (Option Stmt) → ℕ → List (Option ℕ) → List ℕ
lines_from brace ds k [] = []
lines_from brace ds k (None ∷ os) = line_of (slice_index_or ds k None) brace ∷ lines_from brace ds (k + 1) os
lines_from brace ds k (Some j ∷ os) = lines_from brace ds (k + 1) os

-- node n is marked
abbrev pub flag : List Bool → ℕ → List Bool
flag bs n = if nat_lt n (length bs) then slice_set bs n true else bs

abbrev pub flag_if : Bool → List Bool → ℕ → List Bool
flag_if true bs n = flag bs n
flag_if false bs n = bs

-- the nodes of the numbers, from number k on, whose statement has a label that begins with `end`
abbrev pub marked : List (Option Stmt) → ℕ → List Bool → List ℕ → List Bool
marked ds k bs [] = bs
marked ds k bs (t ∷ ts) = marked ds (k + 1) (flag_if (has_end (slice_index_or ds k None)) bs t) ts
