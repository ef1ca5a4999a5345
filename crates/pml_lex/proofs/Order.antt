-- The tokens of a division stand in its text, in order.
use Rattle.std.proofs.Common.{ℕ, List, [], ◌∷◌, ◌++◌, Option, Some, None, sym, refl, ap, ◌∙◌, subst, append_assoc, append-nil}
use Rattle.std.specs.List.{concat}
use Rattle.promela_text.specs.declared.lexeme.Lexeme.{Lexeme}
use Rattle.promela_text.specs.declared.lexeme.Lexeme.TheVariants.{Skipped, Token}
use Rattle.pml_token.specs.Word.{Word}
use Rattle.promela_text.specs.Tokens.{lexeme, IsCut, word, words, line_behind, is_fresh}
use Rattle.pml_lex.specs.Laws.{StandsNext, StandInOrder}

-- what is skipped belongs to the gap before the next token
behind_skipped : (before p rest : List ℕ) (ts : List Word) → StandInOrder (before ++ p) rest ts → StandInOrder before (p ++ rest) ts
behind_skipped before p rest [] h = h
behind_skipped before p rest (w ∷ ws) h =
    let next : StandsNext before (p ++ rest) w = record {
      gap = p ++ h.0.gap;
      behind = h.0.behind;
      joins = ap (λ r. p ++ r) h.0.joins ∙ sym (append_assoc p (h.0.gap ++ w.text) h.0.behind) ∙ ap (λ r. r ++ h.0.behind) (sym (append_assoc p h.0.gap w.text));
      on_line = h.0.on_line ∙ ap line_behind (append_assoc before p h.0.gap);
    } in
    (next, subst (λ (b : List ℕ). StandInOrder b h.0.behind ws) (ap (λ r. r ++ w.text) (append_assoc before p h.0.gap)) h.1)

-- a lexeme and what comes after it
with_lexeme : (o : Option Lexeme) (before p rest : List ℕ) (ts : List Word) → StandInOrder (before ++ p) rest ts → StandInOrder before (p ++ rest) (word o p (line_behind before) ++ ts)
with_lexeme None before p rest ts h = behind_skipped before p rest ts h
with_lexeme (Some Skipped) before p rest ts h = behind_skipped before p rest ts h
with_lexeme (Some (Token k)) before p rest ts h = (
  record { gap = []; behind = rest; joins = refl; on_line = ap line_behind (sym (append-nil before)) },
  subst (λ (b : List ℕ). StandInOrder (b ++ p) rest ts) (sym (append-nil before)) h,
)

from_place : (before : List ℕ) (ps : List (List ℕ)) → StandInOrder before (concat ps) (words before ps)
from_place before [] = tt
from_place before (p ∷ ps) = with_lexeme (lexeme (is_fresh before) p) before p (concat ps) (words (before ++ p) ps) (from_place (before ++ p) ps)

pub in_order : (text : List ℕ) (ts : List Word) → IsCut text ts → StandInOrder [] text ts
in_order text ts h =
    let placed : StandInOrder [] text (words [] h.lexemes) = subst (λ (t : List ℕ). StandInOrder [] t (words [] h.lexemes)) h.divides.joins (from_place [] h.lexemes) in
    subst (StandInOrder [] text) (sym h.are_words) placed
