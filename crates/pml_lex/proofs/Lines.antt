-- Each token of a text is on one of its lines.
use Rattle.std.proofs.Common.{◌≡◌, ℕ, ◌+◌, cond, List, [], ◌∷◌, ◌++◌, Option, Some, None, sym, ap, ◌∙◌, subst, append_assoc, arith}
use Rattle.std.specs.Prelude.{count_by}
use Rattle.std.specs.List.{concat}
use Rattle.std.proofs.lemmas.List.Sums.{sum_by-append}
use Rattle.std.proofs.lemmas.List.Elements.{All-append, All-nil, All-cons}
use Rattle.promela_text.specs.declared.lexeme.Lexeme.{Lexeme}
use Rattle.promela_text.specs.declared.lexeme.Lexeme.TheVariants.{Skipped, Token}
use Rattle.pml_token.specs.Word.{Word}
use Rattle.promela_text.specs.Tokens.{lexeme, IsCut, is_line_feed, line_behind, is_fresh, word, words, IsOnLine}
use Rattle.pml_lex.specs.Rows.{AreOnLines}

pub line_on : (before rest text : List ℕ) → before ++ rest ≡ text → IsOnLine (line_behind text) (line_behind before)
line_on before rest text joins =
    let counts : count_by is_line_feed text ≡ count_by is_line_feed before + count_by is_line_feed rest = ap (count_by is_line_feed) (sym joins) ∙ sum_by-append (λ b. cond (is_line_feed b) 1 0) before rest in
    (omega arith, omega arith)

pub word_on : (most : ℕ) (o : Option Lexeme) (text : List ℕ) (line : ℕ) → IsOnLine most line → AreOnLines most (word o text line)
word_on most None text line h = All-nil (λ w. IsOnLine most w.line)
word_on most (Some Skipped) text line h = All-nil (λ w. IsOnLine most w.line)
word_on most (Some (Token k)) text line h = All-cons (λ w. IsOnLine most w.line) (record { kind = k; text = text; line = line }) [] h (All-nil (λ w. IsOnLine most w.line))

words_on : (before : List ℕ) (ps : List (List ℕ)) (text : List ℕ) → before ++ concat ps ≡ text → AreOnLines (line_behind text) (words before ps)
words_on before [] text joins = All-nil (λ w. IsOnLine (line_behind text) w.line)
words_on before (p ∷ ps) text joins =
    All-append (λ w. IsOnLine (line_behind text) w.line) (word (lexeme (is_fresh before) p) p (line_behind before)) (words (before ++ p) ps)
    (word_on (line_behind text) (lexeme (is_fresh before) p) p (line_behind before) (line_on before (p ++ concat ps) text joins))
    (words_on (before ++ p) ps text (append_assoc before p (concat ps) ∙ joins))

pub token_lines : (text : List ℕ) (ts : List Word) → IsCut text ts → AreOnLines (line_behind text) ts
token_lines text ts h = subst (λ (us : List Word). AreOnLines (line_behind text) us) (sym h.are_words) (words_on [] h.lexemes text h.divides.joins)
