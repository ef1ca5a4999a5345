-- Worked rows: each word and sign that may begin a statement, and what else divides one, by computing.
use Rattle.std.proofs.Common.{◌≡◌, ℕ, List, [], ◌∷◌, ◌++◌, refl}
use Rattle.std.specs.Fmt.{digits}
use Rattle.std.specs.List.{flat_map}
use lib.Chars.{codes}
use Rattle.promela_text.specs.Tables.{reserved, word_kind}
use Rattle.pml_lex.specs.Scanning.{next, comment_end, quote_end}
use Rattle.prepare.specs.Stretches.{lexeme_at, string_end, stretch, stretches_by}
use Rattle.prepare.specs.Spelling.{unbroken}
use Rattle.prepare.specs.Numbering.{numbered_by}
use Rattle.prepare.specs.Coding.{coded_by}
use Rattle.prepare.specs.Laws.{prepared}

-- lines, each with its line feed
abbrev lines : List (List ℕ) → List ℕ
lines ls = flat_map (λ l. l ++ 10 ∷ []) ls

-- words that begin a statement
row_1 : prepared (lines (codes "init { x" ∷ codes "assert x" ∷ codes "atomic x" ∷ codes "d_step x" ∷ codes "do x" ∷ codes "goto x" ∷ codes "if x" ∷ codes "printf x" ∷ codes "printm x" ∷ codes "select x" ∷ codes "for x" ∷ []))
    ≡ lines (codes "init { x;" ∷ codes "assert x;" ∷ codes "atomic x;" ∷ codes "d_step x;" ∷ codes "do x;" ∷ codes "goto x;" ∷ codes "if x;" ∷ codes "printf x;" ∷ codes "printm x;" ∷ codes "select x;" ∷ codes "for x" ∷ [])
unfolding reserved word_kind next comment_end quote_end lexeme_at string_end stretch stretches_by unbroken numbered_by coded_by
row_1 = refl

-- words and signs that begin an expression
row_2 : prepared (lines (codes "init { x" ∷ codes "empty x" ∷ codes "full x" ∷ codes "len x" ∷ codes "nempty x" ∷ codes "nfull x" ∷ codes "run x" ∷ codes "- x" ∷ codes "~ x" ∷ codes "! x" ∷ codes "(x)" ∷ codes "{ x" ∷ []))
    ≡ lines (codes "init { x;" ∷ codes "empty x;" ∷ codes "full x;" ∷ codes "len x;" ∷ codes "nempty x;" ∷ codes "nfull x;" ∷ codes "run x;" ∷ codes "- x;" ∷ codes "~ x;" ∷ codes "! x;" ∷ codes "(x);" ∷ codes "{ x" ∷ [])
unfolding reserved word_kind next comment_end quote_end lexeme_at string_end stretch stretches_by unbroken numbered_by coded_by
row_2 = refl

-- words of declarations
row_3 : prepared (lines (codes "init { x" ∷ codes "bit x" ∷ codes "bool x" ∷ codes "byte x" ∷ codes "chan x" ∷ codes "hidden x" ∷ codes "int x" ∷ codes "local x" ∷ codes "mtype x" ∷ codes "pid x" ∷ codes "short x" ∷ codes "show x" ∷ codes "unsigned x" ∷ codes "xr x" ∷ codes "xs x" ∷ []))
    ≡ lines (codes "init { x;" ∷ codes "bit x;" ∷ codes "bool x;" ∷ codes "byte x;" ∷ codes "chan x;" ∷ codes "hidden x;" ∷ codes "int x;" ∷ codes "local x;" ∷ codes "mtype x;" ∷ codes "pid x;" ∷ codes "short x;" ∷ codes "show x;" ∷ codes "unsigned x;" ∷ codes "xr x;" ∷ codes "xs x" ∷ [])
unfolding reserved word_kind next comment_end quote_end lexeme_at string_end stretch stretches_by unbroken numbered_by coded_by
row_3 = refl

-- words that are a statement or a value, and other tokens that end a statement
row_4 : prepared (lines (codes "init { skip" ∷ codes "break" ∷ codes "true" ∷ codes "false" ∷ codes "timeout" ∷ codes "7" ∷ codes "x++" ∷ codes "x--" ∷ codes "x[1]" ∷ codes "(x)" ∷ codes "x }" ∷ []))
    ≡ lines (codes "init { skip;" ∷ codes "break;" ∷ codes "true;" ∷ codes "false;" ∷ codes "timeout;" ∷ codes "7;" ∷ codes "x++;" ∷ codes "x--;" ∷ codes "x[1];" ∷ codes "(x);" ∷ codes "x }" ∷ [])
unfolding reserved word_kind next comment_end quote_end lexeme_at string_end stretch stretches_by unbroken numbered_by coded_by
row_4 = refl

-- what goes on with a statement, and what divides it already
row_5 : prepared (lines (codes "init { x" ∷ codes "= x" ∷ codes "+ x" ∷ codes "? x" ∷ codes "-> x" ∷ codes ":: x" ∷ codes "else" ∷ codes "x" ∷ codes "fi" ∷ codes "x" ∷ codes "od" ∷ codes "unless" ∷ codes "x" ∷ codes "}" ∷ codes "x }" ∷ []))
    ≡ lines (codes "init { x" ∷ codes "= x" ∷ codes "+ x" ∷ codes "? x" ∷ codes "-> x" ∷ codes ":: x" ∷ codes "else" ∷ codes "x" ∷ codes "fi" ∷ codes "x" ∷ codes "od" ∷ codes "unless" ∷ codes "x" ∷ codes "}" ∷ codes "x }" ∷ [])
unfolding reserved word_kind next comment_end quote_end lexeme_at string_end stretch stretches_by unbroken numbered_by coded_by
row_5 = refl

-- no list, no head of a loop, no bracket, no subtype, and nothing outside braces
row_6 : prepared (lines (codes "byte x" ∷ codes "init { mtype:s" ∷ codes "x; for (i" ∷ codes "in" ∷ codes "x)" ∷ codes "{ x } } byte a = { x" ∷ codes "x }" ∷ codes "init { x" ∷ codes "x }" ∷ []))
    ≡ lines (codes "byte x" ∷ codes "init { mtype  " ∷ codes "x; for (i" ∷ codes "in" ∷ codes "x)" ∷ codes "{ x } } byte a = { x" ∷ codes "x }" ∷ codes "init { x;" ∷ codes "x }" ∷ [])
unfolding reserved word_kind next comment_end quote_end lexeme_at string_end stretch stretches_by unbroken numbered_by coded_by
row_6 = refl

-- characters behind a backslash
row_7 : prepared (codes "x = '\\f' + '\\n' + '\\r' + '\\t' + '\\\\' + '\\'' + '\\a'") ≡ codes "x =  12  +  10  +  13  +  9  +  92  +  39  +  97 "
unfolding reserved word_kind next comment_end quote_end lexeme_at string_end stretch stretches_by unbroken numbered_by coded_by
row_7 = refl

-- a declaration ends at `;`, at `->` and at `::`, so what stands behind a comma there is not declared
row_8 : prepared (codes "int a[5]; init { int b; c!x, a; int d -> c!x, a; if :: int e :: c!x, a fi; for (i in a) { skip } }") ≡ codes "int a[5]; init { int b; c!x, a; int d -> c!x, a; if :: int e :: c!x, a fi; for (i : 0 .. 4) { skip } }"
unfolding digits reserved word_kind next comment_end quote_end lexeme_at string_end stretch stretches_by unbroken numbered_by coded_by
row_8 = refl
