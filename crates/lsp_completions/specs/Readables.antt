-- Texts whose names are known.
use Rattle.std.specs.Prelude.{◌≡◌, ℕ, List, length}
use Rattle.pml_token.specs.Word.{Word}
use Rattle.pml_lex.specs.declared.fault.LexError.{LexError}
use Rattle.explain_tokens.specs.Placed.{ArePlaced, IsUnplaced}
use Rattle.model_names.specs.Told.{AreMeant}
use Rattle.offered_names.specs.Gaps.{gap_start, gap_end, mended}
use Rattle.lsp_completions.specs.declared.readable.Readable.{Readable}

-- how much of a statement stands at the front of the rest of a text: all of it, where it cannot be cut into tokens
pub data IsLengthBehind (rest : List ℕ) (n : ℕ) : Type 0 where
  uncut : (why : LexError) → IsUnplaced rest why → n ≡ length rest → IsLengthBehind rest n
  cut : (ts : List Word) → ArePlaced rest ts → n ≡ gap_end (length rest) ts → IsLengthBehind rest n

-- a text and a place in it
pub record IsOf (text : List ℕ) (at : ℕ) (r : Readable) : Type 0 where
  pub text_is : r.text.items ≡ text
  pub offset_is : r.offset ≡ at
  pub meant : AreMeant r.text.items r.names.meant.items

-- The text itself, or the text with `skip` in place of a part that begins where the statement does that is typed behind these tokens.
pub data IsReadable (text : List ℕ) (ws : List Word) (at : ℕ) (r : Readable) : Type 0 where
  whole : IsOf text at r → IsReadable text ws at r
  without : (to : ℕ) → IsOf (mended text (gap_start 0 ws) to) (gap_start 0 ws) r → IsReadable text ws at r
