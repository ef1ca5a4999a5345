-- One turn of each loop that reads tokens for calls.
use Rattle.std.proofs.Common.{◌≡◌, ℕ, zero, suc, ◌+◌, ◌<◌, ◌≤◌, Bool, true, false, ◌&&◌, cond, List, [], ◌∷◌, ◌++◌, length, get_or, take, drop, Option, Some, None, refl, ap, ◌∙◌, arith}
use Rattle.std.specs.Prelude.{find}
use Rattle.std.specs.Str.{bytes_eq}
use Rattle.std.proofs.lemmas.List.{drop_more, drop_all, drop-map, take-map, drop-drop, take-take, length-take}
use Rattle.pml_token.specs.declared.token.Kind.TheVariants.{OpenParen, CloseParen}
use Rattle.pml_token.specs.Word.{Word}
use Rattle.profile.specs.declared.TheConstants.{MOST_CALLS}
use Rattle.promela_text.specs.Inlines.{is_inline, has_inline, is_name, closing, Inline, callee, braces_behind}
use Rattle.pml_inline.specs.Expansion.{Given, join_given, itself, turn, reading, calling, outermost_call, defined, text_turn, texts}
use Rattle.pml_inline.proofs.Words.{enclosed, nothing}
use Rattle.pml_inline.specs.Places.{word_at, words_of}
use Rattle.pml_inline.proofs.Lists.{closing_front, word_rest}
use Rattle.pml_inline.proofs.Joins.{join-nothing}

reading_passing : (known : List Inline) (call : Inline → List Word → Option Given) (ws : List Word) (n : ℕ) → reading known call ws n ≡ reading known call (drop n ws) 0
reading_passing known call ws zero = refl
reading_passing known call [] (suc n) = refl
reading_passing known call (w ∷ ws) (suc n) = reading_passing known call ws n

module _ (known : List Inline) (call : Inline → List Word → Option Given) (ts : List Word) (ps : List ℕ) (at : ℕ) (h : at < length ps) where
  abbrev here : Word
  here = word_at ts (get_or ps at 0)

  abbrev behind : List Word
  behind = words_of ts (drop (at + 1) ps)

  abbrev inside : List Word
  inside = words_of ts (drop (at + 2) ps)

  inside-is : drop 1 behind ≡ inside
  inside-is =
      let n : at + 1 + 1 ≡ at + 2 = omega arith in
      drop-map (word_at ts) 1 (drop (at + 1) ps) ∙ ap (words_of ts) (drop-drop 1 (at + 1) ps ∙ ap (λ (m : ℕ). drop m ps) n)

  reading_at : reading known call (words_of ts (drop at ps)) 0 ≡ turn call 0 (callee known here behind) here behind (reading known call behind)
  reading_at = ap (λ (qs : List ℕ). reading known call (words_of ts qs) 0) (drop_more ps at 0 h)

  pub read_token : callee known here behind ≡ None → reading known call (words_of ts (drop at ps)) 0 ≡ join_given (itself here) (reading known call behind 0)
  read_token e = reading_at ∙ ap (λ (o : Option Inline). turn call 0 o here behind (reading known call behind)) e

  enclosed_at : (d : Inline) → callee known here behind ≡ Some d → reading known call (words_of ts (drop at ps)) 0 ≡ enclosed (call d) behind (reading known call behind) (closing OpenParen CloseParen inside 0)
  enclosed_at d e = reading_at ∙ ap (λ (o : Option Inline). turn call 0 o here behind (reading known call behind)) e
      ∙ ap (λ (ws : List Word). enclosed (call d) behind (reading known call behind) (closing OpenParen CloseParen ws 0)) inside-is

  pub read_open : (d : Inline) → callee known here behind ≡ Some d → closing OpenParen CloseParen inside 0 ≡ None → reading known call (words_of ts (drop at ps)) 0 ≡ None
  read_open d e f = enclosed_at d e ∙ ap (enclosed (call d) behind (reading known call behind)) f

  pub read_call : (d : Inline) (n : ℕ) → callee known here behind ≡ Some d → closing OpenParen CloseParen inside 0 ≡ Some n
      → reading known call (words_of ts (drop at ps)) 0 ≡ join_given (call d (words_of ts (take n (drop (at + 2) ps)))) (reading known call (words_of ts (drop (at + (n + 3)) ps)) 0)
  read_call d n e f =
      let k : at + 1 + (n + 2) ≡ at + (n + 3) = omega arith in
      enclosed_at d e ∙ ap (enclosed (call d) behind (reading known call behind)) f
      ∙ ap (λ (ws : List Word). join_given (call d ws) (reading known call behind (n + 2))) (ap (take n) inside-is ∙ take-map (word_at ts) n (drop (at + 2) ps))
      ∙ ap (join_given (call d (words_of ts (take n (drop (at + 2) ps)))))
      (reading_passing known call behind (n + 2) ∙ ap (λ (ws : List Word). reading known call ws 0) (drop-map (word_at ts) (n + 2) (drop (at + 1) ps) ∙ ap (words_of ts) (drop-drop (n + 2) (at + 1) ps ∙ ap (λ (m : ℕ). drop m ps) k)))

pub read_end : (known : List Inline) (call : Inline → List Word → Option Given) (ts : List Word) (ps : List ℕ) (at : ℕ) → length ps ≤ at → reading known call (words_of ts (drop at ps)) 0 ≡ nothing
read_end known call ts ps at h = ap (λ (qs : List ℕ). reading known call (words_of ts qs) 0) (drop_all at ps h)

-- ---- one call alone

callee_front : (known : List Inline) (w x : Word) (xs ys : List Word) → callee known w (x ∷ xs) ≡ callee known w (x ∷ ys)
unfolding callee
callee_front known w x xs ys = refl

no_callee : (known : List Inline) (w : Word) (d : Inline) → callee known w [] ≡ Some d → ⊥
unfolding callee
no_callee known w d e = by_test (is_name w) e
  where
    by_test : (b : Bool) → cond (b && false) (find (λ (c : Inline). bytes_eq w.text c.name) known) None ≡ Some d → ⊥
    by_test true f = cc
    by_test false f = cc

pub one_call : (known : List Inline) (call : Inline → List Word → Option Given) (w : Word) (ws : List Word) (d : Inline) (n : ℕ) → callee known w ws ≡ Some d → closing OpenParen CloseParen (drop 1 ws) 0 ≡ Some n
    → reading known call (take (n + 3) (w ∷ ws)) 0 ≡ call d (take n (drop 1 ws))
one_call known call w [] d n e f = absurd (no_callee known w d e)
one_call known call w (x ∷ xs) d n e f =
    let k : n + 3 ≡ suc (suc (n + 1)) = omega arith in
    let short : length (take (n + 1) xs) ≤ n + 1 = simp length-take (omega arith) in
    let all : length (x ∷ take (n + 1) xs) ≤ n + 2 = omega arith in
    ap (λ (m : ℕ). reading known call (take m (w ∷ x ∷ xs)) 0) k
    ∙ ap (λ (o : Option Inline). turn call 0 o w (x ∷ take (n + 1) xs) (reading known call (x ∷ take (n + 1) xs))) (callee_front known w x (take (n + 1) xs) xs ∙ e)
    ∙ ap (enclosed (call d) (x ∷ take (n + 1) xs) (reading known call (x ∷ take (n + 1) xs))) (closing_front OpenParen CloseParen xs 0 n f)
    ∙ ap (λ (zs : List Word). join_given (call d zs) (reading known call (x ∷ take (n + 1) xs) (n + 2))) (take-take n (n + 1) xs (omega arith))
    ∙ ap (join_given (call d (take n xs))) (reading_passing known call (x ∷ take (n + 1) xs) (n + 2) ∙ ap (λ (zs : List Word). reading known call zs 0) (drop_all (n + 2) (x ∷ take (n + 1) xs) all))
    ∙ join-nothing (call d (take n xs))

-- ---- a text

texts_passing : (ws : List Word) (known ds : List Inline) (b n : ℕ) → texts ws known ds b n ≡ texts (drop n ws) known ds b 0
texts_passing ws known ds b zero = refl
texts_passing [] known ds b (suc n) = refl
texts_passing (w ∷ ws) known ds b (suc n) = texts_passing ws known ds b n

module _ (ts : List Word) (known ds : List Inline) (b at : ℕ) (h : at < length ts) where
  abbrev word : Word
  word = word_at ts at

  abbrev rest : List Word
  rest = drop (at + 1) ts

  texts_at : texts (drop at ts) known ds b 0 ≡ text_turn 0 (is_inline word) (callee known word rest) word rest (texts rest) known ds b 0
  texts_at = ap (λ (ws : List Word). texts ws known ds b 0) (word_rest ts at h)

  two : drop 1 rest ≡ drop (at + 2) ts
  two = let n : at + 1 + 1 ≡ at + 2 = omega arith in drop-drop 1 (at + 1) ts ∙ ap (λ (m : ℕ). drop m ts) n

  inline_at : is_inline word ≡ true → texts (drop at ts) known ds b 0 ≡ defined (texts rest) known ds b
  inline_at i = texts_at ∙ ap (λ (c : Bool). text_turn 0 c (callee known word rest) word rest (texts rest) known ds b 0) i

  pub text_defined : (d : Inline) (es : List Inline) → is_inline word ≡ true → b ≡ 0 → ds ≡ d ∷ es → texts (drop at ts) known ds b 0 ≡ texts (drop (at + (1 + d.size)) ts) (known ++ d ∷ []) es 0 0
  text_defined d es i z e =
      let n : at + 1 + d.size ≡ at + (1 + d.size) = omega arith in
      inline_at i ∙ ap (defined (texts rest) known ds) z ∙ ap (λ (xs : List Inline). defined (texts rest) known xs 0) e
      ∙ texts_passing rest (known ++ d ∷ []) es 0 d.size ∙ ap (λ (ws : List Word). texts ws (known ++ d ∷ []) es 0 0) (drop-drop d.size (at + 1) ts ∙ ap (λ (m : ℕ). drop m ts) n)

  pub text_in_braces : is_inline word ≡ true → 0 < b → texts (drop at ts) known ds b 0 ≡ None
  text_in_braces i some = inline_at i ∙ by_both ds b some
    where
      by_both : (ds : List Inline) (b : ℕ) → 0 < b → defined (texts rest) known ds b ≡ None
      by_both ds zero lt = absurd (omega arith)
      by_both [] (suc b) lt = refl
      by_both (d ∷ ds) (suc b) lt = refl

  pub text_undefined : is_inline word ≡ true → ds ≡ [] → texts (drop at ts) known ds b 0 ≡ None
  text_undefined i e = inline_at i ∙ ap (λ (xs : List Inline). defined (texts rest) known xs b) e

  plain_at : is_inline word ≡ false → texts (drop at ts) known ds b 0 ≡ text_turn 0 false (callee known word rest) word rest (texts rest) known ds b 0
  plain_at i = texts_at ∙ ap (λ (c : Bool). text_turn 0 c (callee known word rest) word rest (texts rest) known ds b 0) i

  pub text_token : is_inline word ≡ false → callee known word rest ≡ None → texts (drop at ts) known ds b 0 ≡ join_given (itself word) (texts rest known ds (braces_behind b word) 0)
  text_token i e = plain_at i ∙ ap (λ (o : Option Inline). text_turn 0 false o word rest (texts rest) known ds b 0) e

  outermost_at : (d : Inline) → is_inline word ≡ false → callee known word rest ≡ Some d
      → texts (drop at ts) known ds b 0 ≡ outermost_call (calling known MOST_CALLS [] d) rest (texts rest known ds b) (closing OpenParen CloseParen (drop (at + 2) ts) 0)
  outermost_at d i e = plain_at i ∙ ap (λ (o : Option Inline). text_turn 0 false o word rest (texts rest) known ds b 0) e
      ∙ ap (λ (ws : List Word). outermost_call (calling known MOST_CALLS [] d) rest (texts rest known ds b) (closing OpenParen CloseParen ws 0)) two

  pub text_open : (d : Inline) → is_inline word ≡ false → callee known word rest ≡ Some d → closing OpenParen CloseParen (drop (at + 2) ts) 0 ≡ None → texts (drop at ts) known ds b 0 ≡ None
  text_open d i e f = outermost_at d i e ∙ ap (outermost_call (calling known MOST_CALLS [] d) rest (texts rest known ds b)) f

  pub text_inline_inside : (d : Inline) (n : ℕ) → is_inline word ≡ false → callee known word rest ≡ Some d → closing OpenParen CloseParen (drop (at + 2) ts) 0 ≡ Some n → has_inline (take n (drop (at + 2) ts)) ≡ true → texts (drop at ts) known ds b 0 ≡ None
  text_inline_inside d n i e f g =
      outermost_at d i e ∙ ap (outermost_call (calling known MOST_CALLS [] d) rest (texts rest known ds b)) f
      ∙ ap (λ (c : Bool). cond c None (join_given (calling known MOST_CALLS [] d (take n (drop 1 rest))) (texts rest known ds b (n + 2)))) (ap (λ (ws : List Word). has_inline (take n ws)) two ∙ g)

  pub text_call : (d : Inline) (n : ℕ) → is_inline word ≡ false → callee known word rest ≡ Some d → closing OpenParen CloseParen (drop (at + 2) ts) 0 ≡ Some n → has_inline (take n (drop (at + 2) ts)) ≡ false
      → texts (drop at ts) known ds b 0 ≡ join_given (calling known MOST_CALLS [] d (take n (drop (at + 2) ts))) (texts (drop (at + 3 + n) ts) known ds b 0)
  text_call d n i e f g =
      let k : at + 1 + (n + 2) ≡ at + 3 + n = omega arith in
      outermost_at d i e ∙ ap (outermost_call (calling known MOST_CALLS [] d) rest (texts rest known ds b)) f
      ∙ ap (λ (c : Bool). cond c None (join_given (calling known MOST_CALLS [] d (take n (drop 1 rest))) (texts rest known ds b (n + 2)))) (ap (λ (ws : List Word). has_inline (take n ws)) two ∙ g)
      ∙ ap (λ (ws : List Word). join_given (calling known MOST_CALLS [] d (take n ws)) (texts rest known ds b (n + 2))) two
      ∙ ap (join_given (calling known MOST_CALLS [] d (take n (drop (at + 2) ts)))) (texts_passing rest known ds b (n + 2) ∙ ap (λ (ws : List Word). texts ws known ds b 0) (drop-drop (n + 2) (at + 1) ts ∙ ap (λ (m : ℕ). drop m ts) k))

pub text_end : (ts : List Word) (known ds : List Inline) (b at : ℕ) → length ts ≤ at → texts (drop at ts) known ds b 0 ≡ nothing
text_end ts known ds b at h = ap (λ (ws : List Word). texts ws known ds b 0) (drop_all at ts h)
