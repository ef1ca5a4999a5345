-- The texts of a graph's offers, one behind another.
use Rattle.std.specs.Prelude.{ℕ, ◌+◌, List, [], ◌∷◌, Bool, true, false, Option, None, slice_index_or, unwrap_or, option_map}
use Rattle.pml_program.specs.declared.program.Stmt.{Stmt}
use Rattle.pml_flow.specs.Arms.{all_of, bounds_from, arm}
use Rattle.promela_process.specs.Offers.{offer_text, offer_line}

-- the text of an offer; empty, where there is no statement
abbrev pub text_by : Option Stmt → List ℕ
text_by o = unwrap_or (option_map offer_text o) []

-- the line of an offer; 0, where there is no statement
abbrev pub line_by : Option Stmt → ℕ
line_by o = unwrap_or (option_map offer_line o) 0

-- ---- those of a graph

-- Texts one behind another, where each ends, and the line of each
pub record Texts : Type 0 where
  pub bytes : List ℕ
  pub bounds : List ℕ
  pub lines : List ℕ

-- the text of a statement's number
abbrev pub text_at : Texts → ℕ → List ℕ
text_at t n = arm t.bytes t.bounds n

-- its line
abbrev pub offer_line_at : Texts → ℕ → ℕ
offer_line_at t n = slice_index_or t.lines n 0

abbrev pub text_if : Bool → Option Stmt → List ℕ
text_if true o = text_by o
text_if false o = []

-- those of the numbers from k on that are offered
abbrev pub texts_from : List (Option Stmt) → ℕ → List Bool → List (List ℕ)
texts_from ds k [] = []
texts_from ds k (f ∷ fs) = text_if f (slice_index_or ds k None) ∷ texts_from ds (k + 1) fs

-- the lines of as many numbers from k on
abbrev pub offer_lines_from : List (Option Stmt) → ℕ → List Bool → List ℕ
offer_lines_from ds k [] = []
offer_lines_from ds k (f ∷ fs) = line_by (slice_index_or ds k None) ∷ offer_lines_from ds (k + 1) fs

abbrev pub texts_of : List (Option Stmt) → List Bool → Texts
texts_of ds fs = record { bytes = all_of (texts_from ds 0 fs); bounds = bounds_from 0 (texts_from ds 0 fs); lines = offer_lines_from ds 0 fs }
