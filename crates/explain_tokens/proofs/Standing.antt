-- What holds of tokens with their places.
use Rattle.std.proofs.Common.{◌≡◌, ℕ, List, [], ◌∷◌, ◌++◌, length, take, Option, Some, None, sym, refl, ap, ◌∙◌, subst, append_assoc, All}
use Rattle.std.specs.List.{concat}
use Rattle.std.proofs.Math.Seq.{drop-append_seam, take-append_seam}
use Rattle.std.proofs.lemmas.List.Elements.{All-append, All-nil, All-cons}
use Rattle.promela_text.specs.declared.lexeme.Lexeme.{Lexeme}
use Rattle.promela_text.specs.declared.lexeme.Lexeme.TheVariants.{Skipped, Token}
use Rattle.pml_token.specs.Word.{Word}
use Rattle.promela_text.specs.Tokens.{lexeme, IsCut, word, words, is_fresh, line_behind}
use Rattle.pml_lex.proofs.Steps.{one_whole}
use Rattle.explain_tokens.specs.Placed.{placed_words, ArePlaced, AreSame, StandsThere}

-- ---- the same tokens

same_more : (o : Option Lexeme) (p : List ℕ) (m n : ℕ) (vs ws : List Word) → AreSame vs ws → AreSame (word o p m ++ vs) (word o p n ++ ws)
same_more None p m n vs ws h = h
same_more (Some Skipped) p m n vs ws h = h
same_more (Some (Token k)) p m n vs ws h = (record { kind = refl; text = refl }, h)

same_words : (before : List ℕ) (ps : List (List ℕ)) → AreSame (placed_words before ps) (words before ps)
same_words before [] = tt
same_words before (p ∷ ps) = same_more (lexeme (is_fresh before) p) p (length before) (line_behind before) (placed_words (before ++ p) ps) (words (before ++ p) ps) (same_words (before ++ p) ps)

pub same_tokens : (text : List ℕ) (ts us : List Word) → ArePlaced text ts → IsCut text us → AreSame ts us
same_tokens text ts us a b =
    let lexemes : a.lexemes ≡ b.lexemes = one_whole text a.lexemes b.lexemes a.divides b.divides in
    let same : AreSame (placed_words [] a.lexemes) (words [] b.lexemes) = subst (λ (ps : List (List ℕ)). AreSame (placed_words [] a.lexemes) (words [] ps)) lexemes (same_words [] a.lexemes) in
    subst (λ (xs : List Word). AreSame xs us) (sym a.are_words) (subst (λ (xs : List Word). AreSame (placed_words [] a.lexemes) xs) (sym b.are_words) same)

-- ---- their bytes

there_by : (o : Option Lexeme) (before p rest : List ℕ) → All (StandsThere (before ++ (p ++ rest))) (word o p (length before))
there_by None before p rest = All-nil (StandsThere (before ++ (p ++ rest)))
there_by (Some Skipped) before p rest = All-nil (StandsThere (before ++ (p ++ rest)))
there_by (Some (Token k)) before p rest =
    All-cons (StandsThere (before ++ (p ++ rest))) (record { kind = k; text = p; line = length before }) []
    (ap (take (length p)) (drop-append_seam before (p ++ rest)) ∙ take-append_seam p rest) (All-nil (StandsThere (before ++ (p ++ rest))))

all_there : (before : List ℕ) (ps : List (List ℕ)) → All (StandsThere (before ++ concat ps)) (placed_words before ps)
all_there before [] = All-nil (StandsThere (before ++ []))
all_there before (p ∷ ps) =
    All-append (StandsThere (before ++ (p ++ concat ps))) (word (lexeme (is_fresh before) p) p (length before)) (placed_words (before ++ p) ps)
    (there_by (lexeme (is_fresh before) p) before p (concat ps))
    (subst (λ (t : List ℕ). All (StandsThere t) (placed_words (before ++ p) ps)) (append_assoc before p (concat ps)) (all_there (before ++ p) ps))

pub stand_there : (text : List ℕ) (ts : List Word) → ArePlaced text ts → All (StandsThere text) ts
stand_there text ts h =
    let whole : All (StandsThere text) (placed_words [] h.lexemes) = subst (λ (t : List ℕ). All (StandsThere t) (placed_words [] h.lexemes)) h.divides.joins (all_there [] h.lexemes) in
    subst (All (StandsThere text)) (sym h.are_words) whole
