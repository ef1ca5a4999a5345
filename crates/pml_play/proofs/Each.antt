-- Each text is refused, or stands for a model.
use Rattle.std.proofs.Common.{◌≡◌, ◌⊎◌, inl, inr, ℕ, zero, suc, ◌<◌, ◌≤◌, Bool, true, false, List, [], length, take, drop, Option, Some, None, Result, Ok, Err, refl, sym, ◌∙◌, subst, arith, length-drop}
use Rattle.std.proofs.lemmas.Bool.{cases_eq, cases_lt}
use Rattle.profile.specs.declared.TheConstants.{MOST_IN_A_ROW, MOST_OPEN, MOST_TEXT_BYTES}
use Rattle.diagnostics.specs.declared.refusal.Refusal.{Refusal}
use Rattle.diagnostics.specs.declared.refusal.Refusal.TheVariants as r
use Rattle.promela_session.specs.declared.ends.Options.{Options}
use Rattle.promela_session.specs.declared.ends.End.{End}
use Rattle.promela_session.specs.Events.{Part}
use Rattle.promela_session.specs.Session.{refused, transcript}
use Rattle.pml_token.specs.Word.{Word}
use Rattle.pml_lex.specs.Scanning.{Found, next}
use Rattle.promela_text.specs.Tokens.{IsCut, has_left_out, depth_behind, IsTooDeep, IsLine, AreTokens}
use Rattle.pml_lex.specs.Rows.{row_behind, IsPast}
use Rattle.promela_text.specs.Inlines.{Expands}
use Rattle.pml_inline.specs.Expansion.{expansion}
use Rattle.pml_inline.proofs.Expanding.{are_expansions, are_left}
use Rattle.pml_lex.proofs.Longest.{IsNext}
use Rattle.pml_lex.proofs.Scan.{next_is}
use Rattle.pml_lex.proofs.Steps.{Reached, reached_start, reached_more, reached_end, reached_none}
use Rattle.pml_lex.proofs.Rows.{too_deep_from, too_deep_is, none_at_all}
use Rattle.pml_tree.specs.declared.tree.Tree.{Tree}
use Rattle.promela_grammar.specs.Models.{Spells}
use Rattle.pml_syntax.specs.ReadingUnits as reading
use Rattle.pml_syntax.proofs.Whole.{is_found, is_none}
use Rattle.check_resolve.specs.Model.{numbered_model}
use Rattle.meaning_laws.proofs.Model.{model-stands}
use Rattle.promela_refusals.specs.Judged.{IsFit, IsLeast}
use Rattle.pml_check.specs.Fitted.{FitsTo, HasGoodStart}
use Rattle.pml_check.proofs.Standing.{fitted}
use Rattle.pml_check.proofs.Deciding.{fits_of, judge}
use Rattle.promela_run.specs.World.{first, rules}
use Rattle.pml_play.specs.Transcript.{AreExpanded, IsSpelled, IsRefused, too_long, lexical, left_out, inline, too_deep, unspelled, unfit, IsTranscript, of_refusal, of_model}
use Rattle.promela_session.specs.declared.form.Stream.TheVariants.{Unread}

-- ---- the tokens

abbrev IsUncut : List ℕ → Type 0
IsUncut text = (ts : List Word) → IsCut text ts → ⊥

-- the rest of a text is cut, or cannot be
cut_rest : (fuel : ℕ) (text rest : List ℕ) (found : List Word) (line : ℕ) (fresh : Bool) → length rest ≤ fuel → Reached text found rest line fresh → ((ts : List Word) × IsCut text ts) ⊎ IsUncut text
cut_rest zero text rest found line fresh l at = inl (found, reached_end at (omega arith))
cut_rest (suc fuel) text rest found line fresh l at = by_length (λ r f n b short on. cut_rest fuel text r f n b short on) (cases_eq (length rest) 0)
  where
    Again : Type 0
    Again = (r : List ℕ) (f : List Word) (n : ℕ) (b : Bool) → length r ≤ fuel → Reached text f r n b → ((ts : List Word) × IsCut text ts) ⊎ IsUncut text

    by_next : Again → 0 < length rest → (o : Found) → IsNext fresh rest o → ((ts : List Word) × IsCut text ts) ⊎ IsUncut text
    by_next again some None none = inr (reached_none at some none)
    by_next again some (Some x) here =
        let least = here.some in
        again (drop x.0 rest) _ _ _ (omega (arith, l, least, length-drop x.0 rest)) (reached_more x.0 x.1 at here)

    by_length : Again → (length rest ≡ 0) ⊎ ((length rest ≡ 0) → ⊥) → ((ts : List Word) × IsCut text ts) ⊎ IsUncut text
    by_length again (inl none) = inl (found, reached_end at none)
    by_length again (inr some) = let more : 0 < length rest = omega arith in by_next again more (next fresh rest) (next_is fresh rest more)

-- some token is past a limit, or none is
past_at : (ts : List Word) (k : ℕ) → IsPast ts k ⊎ (IsPast ts k → ⊥)
past_at ts k = by_both (cases_lt MOST_OPEN (depth_behind (take k ts))) (cases_lt MOST_IN_A_ROW (row_behind (take k ts)))
  where
    by_both : (MOST_OPEN < depth_behind (take k ts)) ⊎ (depth_behind (take k ts) ≤ MOST_OPEN) → (MOST_IN_A_ROW < row_behind (take k ts)) ⊎ (row_behind (take k ts) ≤ MOST_IN_A_ROW) → IsPast ts k ⊎ (IsPast ts k → ⊥)
    by_both (inl l) other = inl (inl l)
    by_both (inr g) (inl l) = inl (inr l)
    by_both (inr g) (inr h) = inr (λ past. elim past [
      | inl a ↦ omega arith
      | inr b ↦ omega arith
    ])

abbrev NonePast : List Word → ℕ → Type 0
NonePast ts n = (k : ℕ) → k ≤ n → IsPast ts k → ⊥

past_to : (ts : List Word) (n : ℕ) → ((k : ℕ) × IsPast ts k) ⊎ NonePast ts n
past_to ts zero = by_first (past_at ts zero)
  where
    by_first : IsPast ts zero ⊎ (IsPast ts zero → ⊥) → ((k : ℕ) × IsPast ts k) ⊎ NonePast ts zero
    by_first (inl past) = inl (zero, past)
    by_first (inr none) = inr (λ k l past. none (subst (λ (i : ℕ). IsPast ts i) (let z : k ≡ zero = omega arith in z) past))
past_to ts (suc n) = by_both (past_to ts n) (past_at ts (suc n))
  where
    by_place : (k : ℕ) → k ≤ suc n → NonePast ts n → (IsPast ts (suc n) → ⊥) → (k ≡ suc n) ⊎ ((k ≡ suc n) → ⊥) → IsPast ts k → ⊥
    by_place k l none last (inl same) past = last (subst (λ (i : ℕ). IsPast ts i) same past)
    by_place k l none last (inr other) past = none k (omega arith) past

    by_both : ((k : ℕ) × IsPast ts k) ⊎ NonePast ts n → IsPast ts (suc n) ⊎ (IsPast ts (suc n) → ⊥) → ((k : ℕ) × IsPast ts k) ⊎ NonePast ts (suc n)
    by_both (inl h) other = inl h
    by_both (inr none) (inl past) = inl (suc n, past)
    by_both (inr none) (inr last) = inr (λ k l. by_place k l none last (cases_eq k (suc n)))

deep_or_not : (ts : List Word) → IsTooDeep ts ⊎ (IsTooDeep ts → ⊥)
deep_or_not ts = by_search (past_to ts (length ts))
  where
    by_search : ((k : ℕ) × IsPast ts k) ⊎ NonePast ts (length ts) → IsTooDeep ts ⊎ (IsTooDeep ts → ⊥)
    by_search (inl h) = inl (too_deep_from ts h)
    by_search (inr none) = inr (λ deep. let p = too_deep_is ts deep in none_at_all ts (length ts) (omega arith) none p.0 p.1)

-- each text has a first line
first_line : (text : List ℕ) → IsLine text 1
first_line text = (omega arith, omega arith)

abbrev Refusals : List ℕ → Type 0
Refusals text = (x : Refusal) × (line : ℕ) × IsRefused text x line

tokens_or : (text : List ℕ) → ((ts : List Word) × AreTokens text ts) ⊎ Refusals text
tokens_or text = by_length (cases_lt MOST_TEXT_BYTES (length text))
  where
    by_words : length text ≤ MOST_TEXT_BYTES → (ts : List Word) → IsCut text ts → (b : Bool) → has_left_out ts ≡ b → ((us : List Word) × AreTokens text us) ⊎ Refusals text
    by_words short ts cut true e = inr (r.LeftOut, 1, left_out short cut e (first_line text))
    by_words short ts cut false e = inl (ts, record { short = short; are_cut = cut; all_served = e })

    by_cut : length text ≤ MOST_TEXT_BYTES → ((ts : List Word) × IsCut text ts) ⊎ IsUncut text → ((us : List Word) × AreTokens text us) ⊎ Refusals text
    by_cut short (inl h) = by_words short h.0 h.1 (has_left_out h.0) refl
    by_cut short (inr never) = inr (r.Lexical, 1, lexical short never (first_line text))

    by_length : (MOST_TEXT_BYTES < length text) ⊎ (length text ≤ MOST_TEXT_BYTES) → ((us : List Word) × AreTokens text us) ⊎ Refusals text
    by_length (inl long) = inr (r.TextTooLong, 0, too_long long)
    by_length (inr short) = by_cut short (cut_rest (length text) text text [] 1 true (omega arith) (reached_start text))

-- ---- what comes of the tokens

no_result : {us : List Word} → None ≡ Some us → ⊥
no_result e = cc

expanded_or : (text : List ℕ) → ((us : List Word) × AreExpanded text us) ⊎ Refusals text
expanded_or text = by_tokens (tokens_or text)
  where
    by_depth : (ts : List Word) → AreTokens text ts → (us : List Word) → Expands ts us → IsTooDeep us ⊎ (IsTooDeep us → ⊥) → ((vs : List Word) × AreExpanded text vs) ⊎ Refusals text
    by_depth ts are us e (inl deep) = inr (r.TooDeep, 1, too_deep are (record { given = us; expands = e; deep = deep }) (first_line text))
    by_depth ts are us e (inr shallow) = inl (us, record { tokens = ts; are_tokens = are; is_expanded = record { expands = e; shallow = shallow } })

    by_result : (ts : List Word) → AreTokens text ts → (o : Option (List Word)) → expansion ts ≡ o → ((vs : List Word) × AreExpanded text vs) ⊎ Refusals text
    by_result ts are None e = inr (r.Inline, 0, inline are (λ us f. no_result (sym e ∙ are_expansions ts us f)))
    by_result ts are (Some us) e = by_depth ts are us (are_left ts us e) (deep_or_not us)

    by_tokens : ((ts : List Word) × AreTokens text ts) ⊎ Refusals text → ((vs : List Word) × AreExpanded text vs) ⊎ Refusals text
    by_tokens (inl h) = by_result h.0 h.1 (expansion h.0) refl
    by_tokens (inr refusal) = inr refusal

-- ---- the tree

tree_or : (ts : List Word) → ((t : Tree) × Spells t ts) ⊎ ((t : Tree) → Spells t ts → ⊥)
tree_or ts = by_result (reading.model (length ts) ts) refl
  where
    by_result : (d : Result (Tree × List Word) ℕ) → reading.model (length ts) ts ≡ d → ((t : Tree) × Spells t ts) ⊎ ((t : Tree) → Spells t ts → ⊥)
    by_result (Ok p) e = inl (p.0, is_found (length ts) ts ts p.0 p.1 refl e)
    by_result (Err left) e = inr (is_none (length ts) ts ts left refl e (omega arith))

spelled_or : (text : List ℕ) → ((t : Tree) × IsSpelled text t) ⊎ Refusals text
spelled_or text = by_expanded (expanded_or text)
  where
    by_tree : (us : List Word) → AreExpanded text us → ((t : Tree) × Spells t us) ⊎ ((t : Tree) → Spells t us → ⊥) → ((t : Tree) × IsSpelled text t) ⊎ Refusals text
    by_tree us are (inl h) = inl (h.0, record { expanded = us; are_expanded = are; spells = h.1 })
    by_tree us are (inr none) = inr (r.Syntax, 1, unspelled are none (first_line text))

    by_expanded : ((us : List Word) × AreExpanded text us) ⊎ Refusals text → ((t : Tree) × IsSpelled text t) ⊎ Refusals text
    by_expanded (inl h) = by_tree h.0 h.1 (tree_or h.0)
    by_expanded (inr refusal) = inr refusal

-- ---- the session

-- in a tree that fits, no initialiser of the first state has a fault
pub good_start : (t : Tree) → IsFit t → HasGoodStart (numbered_model t)
unfolding FitsTo
good_start t f = (fitted t r.Initialiser (fits_of t r.Initialiser f)).1

module _ (text : List ℕ) (options : Options) where
  abbrev pub Has : Type 0
  Has = (part : List ℕ → Part End) × IsTranscript text options part

  of_state : (t : Tree) → IsSpelled text t → IsFit t → Has
  of_state t is fits =
      let start = good_start t fits in (
        transcript rules options (first start.0 options.lossy),
        of_model (record { tree = t; is_spelled = is; fits = fits; program = numbered_model t; stands = model-stands t; begun = start.0; starts = start.1; is = refl }),
      )

  of_judged : (t : Tree) → IsSpelled text t → IsFit t ⊎ ((x : Refusal) × IsLeast t x) → Has
  of_judged t is (inl fits) = of_state t is fits
  of_judged t is (inr h) = (refused h.0 0 Unread, of_refusal (unfit is h.1))

  of_spelled : ((t : Tree) × IsSpelled text t) ⊎ Refusals text → Has
  of_spelled (inl h) = of_judged h.0 h.1 (judge h.0)
  of_spelled (inr h) = (refused h.0 h.1 Unread, of_refusal h.2)

  -- each text has a transcript
  pub has_transcript : Has
  has_transcript = of_spelled (spelled_or text)
