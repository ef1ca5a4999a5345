-- What is written of a refused text: the file, the place, the refusal, words, and the line of the place with carets below it.
-- Hold it against docs/FORMATS.md, 'Standard error'.
use Rattle.std.specs.Prelude.{◌≡◌, ◌<◌, ℕ, ◌-◌, List, [], ◌++◌, length, chars, codes, Option, Some, None}
use Rattle.std.specs.List.{flat_map}
use Rattle.std.specs.Fmt.{decimal}
use Rattle.diagnostics.specs.declared.refusal.Refusal.{Refusal}
use Rattle.diagnostics.specs.Numbers.{refusal_number}
use Rattle.diagnostic_words.specs.Words.{refusal_words}
use Rattle.explain_cause.specs.declared.cause.Segment.{Segment}
use Rattle.explain_find.specs.Told.{IsTold}
use Rattle.source_lines.specs.Signs.{shown_character}
use Rattle.source_lines.specs.Places.{shown_offset, number_at, start_at, line_at, column_of}
use Rattle.source_lines.specs.Shown.{line_with_carets, line_alone}
use Rattle.source_lines.specs.Beside.{Sight, itself, seen_in}

-- the name of a file as it is shown
abbrev pub shown_name : List ℕ → List ℕ
shown_name name = flat_map shown_character (chars name)

-- the refusal's number and words, and the words behind them, to the end of the line
abbrev pub said : Refusal → List ℕ → List ℕ
said x words = codes ": M" ++ decimal (refusal_number x) ++ codes " " ++ refusal_words x ++ words ++ codes "\n"

-- the column of what is marked of a line, where it is found there
abbrev pub column_by : List ℕ → Option ℕ → List ℕ
column_by line None = []
column_by line (Some onset) = codes ":" ++ decimal (column_of line onset)

abbrev pub column_said : Sight → List ℕ
column_said s = column_by s.bytes s.onset

-- the line, with carets below what is marked where it is found
abbrev pub lines_by : ℕ → List ℕ → ℕ → Option ℕ → List ℕ
lines_by n line marked None = line_alone n line
lines_by n line marked (Some onset) = line_with_carets n line onset marked

abbrev pub lines_shown : ℕ → Sight → List ℕ
lines_shown n s = lines_by n s.bytes s.bytes_marked s.onset

-- all that is told of a line of a file
abbrev pub told_of : List ℕ → ℕ → Sight → Refusal → List ℕ → List ℕ
told_of file n s x words = shown_name file ++ codes ":" ++ decimal n ++ column_said s ++ said x words ++ lines_shown n s

-- ---- of a text

-- the line of a place of the text, with the place marked
abbrev pub sight_at : List ℕ → ℕ → ℕ → Sight
sight_at text at n = itself (line_at text at) (at - start_at text at) n

-- what is told of a place of the text: its line, its column, and its line with carets below the bytes of the place
abbrev pub told_at : List ℕ → List ℕ → Segment → Refusal → List ℕ → List ℕ
told_at name text p x words =
    told_of name (number_at text (shown_offset text p.offset)) (sight_at text (shown_offset text p.offset) p.length) x words

-- What is written of a refused text: no place, or a place that is told of the refusal, and words.
pub data Explains (name text : List ℕ) (x : Refusal) (out : List ℕ) : Type 0 where
  placeless : (words : List ℕ) → out ≡ shown_name name ++ said x words → Explains name text x out
  placed : (p : Segment) (words : List ℕ) → IsTold text x p → out ≡ told_at name text p x words → Explains name text x out

-- ---- of a text that was prepared

-- what is asked: the name of the file, the text that was refused, the author's text, the table of lines of included files, and the file in which the
-- place lies
pub record Request : Type 0 where
  pub name : List ℕ
  pub text : List ℕ
  pub own : List ℕ
  pub lines : List ℕ
  pub included : List ℕ

-- what is shown of the line of a place, beside the author's text
abbrev pub sight_beside : List ℕ → List ℕ → ℕ → ℕ → Sight
sight_beside text own at n = seen_in own (number_at text at) (line_at text at) (at - start_at text at) n

-- what is told of a place beside the author's text
abbrev pub told_beside : Request → Segment → Refusal → List ℕ → List ℕ
told_beside q p x words =
    told_of q.name (number_at q.text (shown_offset q.text p.offset)) (sight_beside q.text q.own (shown_offset q.text p.offset) p.length) x words

-- The place is told on the author's line, or, where there is a table of lines, on a line of an included file.
pub data TellsPlace (q : Request) (p : Segment) (x : Refusal) (words out : List ℕ) : Type 0 where
  of_own : out ≡ told_beside q p x words → TellsPlace q p x words out
  of_included : (file line : List ℕ) (n start : ℕ) → 0 < length q.lines
      → out ≡ told_of file n (seen_in q.included n line (shown_offset q.text p.offset - start) p.length) x words → TellsPlace q p x words out

-- What is written of a text that was prepared of another one.
pub data ExplainsBeside (q : Request) (x : Refusal) (out : List ℕ) : Type 0 where
  placeless_beside : (words : List ℕ) → out ≡ shown_name q.name ++ said x words → ExplainsBeside q x out
  placed_beside : (p : Segment) (words : List ℕ) → IsTold q.text x p → TellsPlace q p x words out → ExplainsBeside q x out
