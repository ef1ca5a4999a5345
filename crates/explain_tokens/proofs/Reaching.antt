-- The invariant of the loop that finds the tokens of a text with their places, and what one lexeme does to it.
use Rattle.std.proofs.Common.{◌≡◌, ℕ, ◌+◌, ◌<◌, Bool, true, false, List, [], ◌∷◌, ◌++◌, length, take, drop, Some, sym, refl, ap, ◌∙◌, subst, append_assoc, append-nil, take-append-drop, length-take-le, arith}
use Rattle.std.specs.Prelude.{is_some}
use Rattle.std.proofs.lemmas.Bool.{false≢true}
use Rattle.std.proofs.Math.Seq.{take-nil, drop-append_seam, take-append_seam}
use Rattle.std.proofs.lemmas.List.{length-append}
use Rattle.std.proofs.lemmas.List.Folds.{concat-append}
use Rattle.std.specs.List.{concat}
use Rattle.promela_text.specs.declared.lexeme.Lexeme.{Lexeme}
use Rattle.promela_text.specs.declared.lexeme.Lexeme.TheVariants.{Skipped, Token}
use Rattle.pml_token.specs.declared.token.Kind.{Kind}
use Rattle.pml_token.specs.Word.{Word}
use Rattle.promela_text.specs.Tokens.{lexeme, CanStand, IsLongest, IsDivision, word, fresh_from, is_fresh}
use Rattle.pml_lex.proofs.Wholes.{Divides, to_whole, from_whole}
use Rattle.pml_lex.proofs.Places.{token_place}
use Rattle.pml_lex.proofs.Longest.{IsNextAt}
use Rattle.pml_lex.proofs.Steps.{fresh_from-append, same_lexeme}
use Rattle.explain_tokens.specs.Placed.{placed_words, ArePlaced, Begins, StopsAt}

nothing_by : (fresh : Bool) (p : List ℕ) → p ≡ [] → is_some (lexeme fresh p) ≡ true → ⊥
unfolding lexeme
nothing_by fresh p e h = false≢true (ap (λ q. is_some (lexeme fresh q)) (sym e) ∙ h)

-- no lexeme stands at the end
nothing_stands : (fresh : Bool) (rest p : List ℕ) → rest ≡ [] → CanStand fresh rest p → ⊥
nothing_stands fresh rest p e h =
    let none : take (length p) rest ≡ [] = rw e (take-nil (length p)) in
    nothing_by fresh p (sym h.front ∙ none) h.is_lexeme

-- a division of what is left begins with the lexeme
step_back : (before rest p : List ℕ) → IsLongest (is_fresh before) rest p → (qs : List (List ℕ)) → Divides before qs rest → (rs : List (List ℕ)) × Divides (before ++ p) rs (drop (length p) rest)
step_back before rest p is_longest [] divides = absurd (nothing_stands (is_fresh before) rest p divides is_longest.stands)
step_back before rest p is_longest (q ∷ qs) divides =
    (qs, subst (λ (x : List ℕ). Divides (before ++ x) qs (drop (length x) rest)) (same_lexeme (is_fresh before) rest q p divides.0 is_longest) divides.1)

-- one more lexeme behind those of a front
begins_more : (before : List ℕ) (ps : List (List ℕ)) (rest left p : List ℕ) → Begins before ps rest left → IsLongest (is_fresh (before ++ concat ps)) left p
    → Begins before (ps ++ p ∷ []) rest (drop (length p) left)
begins_more before [] rest left p begins is_longest =
    let here : IsLongest (is_fresh before) left p = subst (λ (b : List ℕ). IsLongest (is_fresh b) left p) (append-nil before) is_longest in
    (subst (λ (r : List ℕ). IsLongest (is_fresh before) r p) (sym begins) here, ap (drop (length p)) begins)
begins_more before (q ∷ qs) rest left p begins is_longest =
    let behind : IsLongest (is_fresh ((before ++ q) ++ concat qs)) left p = subst (λ (b : List ℕ). IsLongest (is_fresh b) left p) (sym (append_assoc before q (concat qs))) is_longest in
    (begins.0, begins_more (before ++ q) qs (drop (length q) rest) left p begins.1 behind)

-- found: the tokens of what is before `rest`
pub record Reached (text : List ℕ) (found : List Word) (rest : List ℕ) (place : ℕ) (fresh : Bool) : Type 0 where
  pub before : List ℕ
  pub joins : before ++ rest ≡ text
  pub place_is : place ≡ length before
  pub lexemes : List (List ℕ)
  pub lexemes_are : concat lexemes ≡ before
  pub begins : Begins [] lexemes text rest
  pub fresh_is : fresh ≡ is_fresh before
  -- a division of the rest completes one of the text
  pub forth : (ps : List (List ℕ)) → Divides before ps rest → ArePlaced text (found ++ placed_words before ps)
  -- each division of the text comes by here
  pub back : (ps : List (List ℕ)) → IsDivision text ps → (qs : List (List ℕ)) × Divides before qs rest

pub reached_start : (text : List ℕ) → Reached text [] text 0 true
reached_start text = record {
  before = [];
  joins = refl;
  place_is = refl;
  lexemes = [];
  lexemes_are = refl;
  begins = refl;
  fresh_is = refl;
  forth = λ ps divides. record { lexemes = ps; divides = to_whole ps text divides; are_words = refl };
  back = λ ps divides. (ps, from_whole ps text divides);
}

-- one more lexeme
reached_more : {text rest : List ℕ} {found : List Word} {place : ℕ} {fresh : Bool} (n : ℕ) (s : Lexeme) → Reached text found rest place fresh → IsNextAt fresh rest n s
    → Reached text (found ++ word (Some s) (take n rest) place) (drop n rest) (place + n) (fresh_from fresh (take n rest))
reached_more {text} {rest} {found} {place} {fresh} n s at here =
    let p = take n rest in
    let len : length p ≡ n = length-take-le n rest here.within in
    let next_is : IsLongest (is_fresh at.before) rest p = subst (λ (f : Bool). IsLongest f rest p) at.fresh_is here.longest in
    let spells : lexeme (is_fresh at.before) p ≡ Some s = subst (λ (f : Bool). lexeme f p ≡ Some s) at.fresh_is here.spells in
    let here_word : word (lexeme (is_fresh at.before) p) p (length at.before) ≡ word (Some s) p place = rw (spells, at.place_is) refl in
    record {
      before = at.before ++ p;
      joins = append_assoc at.before p (drop n rest) ∙ ap (λ t. at.before ++ t) (take-append-drop n rest) ∙ at.joins;
      place_is = let both : length (at.before ++ p) ≡ length at.before + length p = length-append at.before p in omega (arith, at.place_is);
      lexemes = at.lexemes ++ p ∷ [];
      lexemes_are = concat-append at.lexemes (p ∷ []) ∙ ap (λ b. b ++ (p ++ [])) at.lexemes_are ∙ ap (λ q. at.before ++ q) (append-nil p);
      begins =
          let is_longest : IsLongest (is_fresh (concat at.lexemes)) rest p = subst (λ (b : List ℕ). IsLongest (is_fresh b) rest p) (sym at.lexemes_are) next_is in
          subst (λ (m : ℕ). Begins [] (at.lexemes ++ p ∷ []) text (drop m rest)) len (begins_more [] at.lexemes text rest p at.begins is_longest);
      fresh_is = rw at.fresh_is (sym (fresh_from-append true at.before p));
      forth = λ ps divides.
          let whole : ArePlaced text (found ++ placed_words at.before (p ∷ ps)) = at.forth (p ∷ ps) (next_is, subst (λ (m : ℕ). Divides (at.before ++ p) ps (drop m rest)) (sym len) divides) in
          let same : found ++ placed_words at.before (p ∷ ps) ≡ found ++ word (Some s) p place ++ placed_words (at.before ++ p) ps = rw here_word (sym (append_assoc found (word (Some s) p place) (placed_words (at.before ++ p) ps))) in
          subst (λ (ts : List Word). ArePlaced text ts) same whole;
      back = λ ps divides.
          let qs : (xs : List (List ℕ)) × Divides at.before xs rest = at.back ps divides in
          let rs : (xs : List (List ℕ)) × Divides (at.before ++ p) xs (drop (length p) rest) = step_back at.before rest p next_is qs.0 qs.1 in
          (rs.0, subst (λ (m : ℕ). Divides (at.before ++ p) rs.0 (drop m rest)) len rs.1);
    }

empty_is : (xs : List ℕ) → length xs ≡ 0 → xs ≡ []
empty_is [] h = refl
empty_is (x ∷ xs) h = absurd (omega arith)

pub reached_end : {text rest : List ℕ} {found : List Word} {place : ℕ} {fresh : Bool} → Reached text found rest place fresh → length rest ≡ 0 → ArePlaced text found
reached_end {text} {rest} {found} at end = subst (λ (ts : List Word). ArePlaced text ts) (append-nil found) (at.forth [] (empty_is rest end))

-- what stands before the rest is shorter than the text
pub reached_within : {text rest : List ℕ} {found : List Word} {place : ℕ} {fresh : Bool} → Reached text found rest place fresh → place + length rest ≡ length text
reached_within {text} {rest} at = let both : length (at.before ++ rest) ≡ length at.before + length rest = length-append at.before rest in omega (arith, at.place_is, ap length at.joins)

pub reached_none : {text rest : List ℕ} {found : List Word} {place : ℕ} {fresh : Bool} → Reached text found rest place fresh → 0 < length rest → ((p : List ℕ) → CanStand fresh rest p → ⊥) → StopsAt text place
reached_none {text} {rest} {found} {place} {fresh} at some none =
    let front : take place text ≡ at.before = ap (λ n. take n text) at.place_is ∙ ap (take (length at.before)) (sym at.joins) ∙ take-append_seam at.before rest in
    let behind : drop place text ≡ rest = ap (λ n. drop n text) at.place_is ∙ ap (drop (length at.before)) (sym at.joins) ∙ drop-append_seam at.before rest in
    let nothing : (p : List ℕ) → CanStand (is_fresh at.before) rest p → ⊥ = λ p h. none p (subst (λ (f : Bool). CanStand f rest p) (sym at.fresh_is) h) in
    record {
      within = omega (arith, reached_within at);
      lexemes = at.lexemes;
      begins = subst (λ (r : List ℕ). Begins [] at.lexemes text r) (sym behind) at.begins;
      nothing = λ p h. nothing p (subst (λ (f : List ℕ). CanStand (is_fresh f) rest p) front (subst (λ (r : List ℕ). CanStand (is_fresh (take place text)) r p) behind h));
      never = λ ts is_cut.
          let qs : (xs : List (List ℕ)) × Divides at.before xs rest = at.back is_cut.lexemes is_cut.divides in
          none_left at.before rest qs.0 some nothing qs.1;
    }
  where
    none_left : (before rest : List ℕ) (qs : List (List ℕ)) → 0 < length rest → ((p : List ℕ) → CanStand (is_fresh before) rest p → ⊥) → Divides before qs rest → ⊥
    none_left before rest [] some none divides = let e = ap length divides in omega arith
    none_left before rest (q ∷ qs) some none divides = none q divides.0.stands

-- one more token
pub reached_token : {text rest : List ℕ} {found : List Word} {place : ℕ} {fresh : Bool} (n : ℕ) (k : Kind) → Reached text found rest place fresh → IsNextAt fresh rest n (Token k)
    → Reached text (found ++ record { kind = k; text = take n rest; line = place } ∷ []) (drop n rest) (place + n) false
reached_token {text} {rest} {found} {place} {fresh} n k at here =
    subst (λ (f : Bool). Reached text (found ++ word (Some (Token k)) (take n rest) place) (drop n rest) (place + n) f) (token_place fresh (take n rest) k here.spells).1 (reached_more n (Token k) at here)

-- one more lexeme that is skipped
pub reached_skipped : {text rest : List ℕ} {found : List Word} {place : ℕ} {fresh : Bool} (n : ℕ) → Reached text found rest place fresh → IsNextAt fresh rest n Skipped
    → Reached text found (drop n rest) (place + n) (fresh_from fresh (take n rest))
reached_skipped {text} {rest} {found} {place} {fresh} n at here =
    subst (λ (ts : List Word). Reached text ts (drop n rest) (place + n) (fresh_from fresh (take n rest))) (append-nil found) (reached_more n Skipped at here)
