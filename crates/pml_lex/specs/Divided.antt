-- What dividing a text answers.
use Rattle.std.specs.Prelude.{◌≡◌, ◌<◌, ◌≤◌, ℕ, true, List, length}
use Rattle.profile.specs.declared.TheConstants.{MOST_TEXT_BYTES}
use Rattle.pml_lex.specs.declared.fault.LexError.{LexError}
use Rattle.pml_lex.specs.declared.fault.LexError.TheVariants.{Memory, TooLong, Lexical, LeftOut}
use Rattle.pml_token.specs.Word.{Word}
use Rattle.promela_text.specs.Tokens.{line_behind, IsCut, IsLine, has_left_out}
use Rattle.pml_lex.specs.Rows.{AreOnLines}

-- the text is short enough, and no list of tokens is what it cuts into
pub record CannotBeCut (text : List ℕ) (line : ℕ) : Type 0 where
  pub short : length text ≤ MOST_TEXT_BYTES
  pub never : (ts : List Word) → IsCut text ts → ⊥
  pub on_line : IsLine text line

-- the text cuts into tokens, one of which is left out of the language
pub record HoldsLeftOut (text : List ℕ) (line : ℕ) : Type 0 where
  pub short : length text ≤ MOST_TEXT_BYTES
  pub tokens : List Word
  pub are_cut : IsCut text tokens
  pub left_out : has_left_out tokens ≡ true
  pub on_line : IsLine text line

-- the fault is the least that applies
abbrev pub IsLeast : List ℕ → LexError → Type 0
IsLeast text Memory = Unit {0}
IsLeast text TooLong = MOST_TEXT_BYTES < length text
IsLeast text (Lexical line) = CannotBeCut text line
IsLeast text (LeftOut line) = HoldsLeftOut text line

-- What the first half of `cut` answers. No clause of a public function cites it.
pub record IsDivided (text : List ℕ) (ts : List Word) : Type 0 where
  pub are_cut : IsCut text ts
  pub on_lines : AreOnLines (line_behind text) ts

abbrev pub IsUncut : List ℕ → LexError → Type 0
IsUncut text Memory = Unit {0}
IsUncut text TooLong = ⊥
IsUncut text (Lexical line) = CannotBeCut text line
IsUncut text (LeftOut line) = ⊥
