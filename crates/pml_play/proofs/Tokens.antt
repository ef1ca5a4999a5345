-- The tokens of a text, and what comes of them, are few and on few lines.
use Rattle.std.proofs.Common.{◌≡◌, ℕ, zero, suc, ◌+◌, ◌≤◌, Bool, true, false, not, ◌&&◌, nat_le, cond, List, [], ◌∷◌, ◌++◌, length, take, drop, map, All, Option, Some, None, refl, ap, subst, arith, length-append}
use Rattle.std.specs.List.{concat, AllByRecursion}
use Rattle.std.proofs.lemmas.Bool.{leb-true}
use Rattle.std.proofs.lemmas.List.Elements.{All-head, All-tail}
use Rattle.std.proofs.lemmas.List.Sums.{count_by-le-length}
use Rattle.profile.specs.declared.TheConstants.{MOST_CALLS, MOST_REPLACED}
use Rattle.pml_token.specs.declared.token.Kind.TheVariants.{OpenParen, CloseParen}
use Rattle.promela_text.specs.declared.lexeme.Lexeme.{Lexeme}
use Rattle.promela_text.specs.declared.lexeme.Lexeme.TheVariants.{Skipped, Token}
use Rattle.pml_token.specs.Word.{Word}
use Rattle.promela_text.specs.Tokens.{lexeme, IsCut, is_line_feed, line_behind, is_fresh, word, words, IsOnLine, AreTokens}
use Rattle.pml_lex.proofs.Lines.{token_lines}
use Rattle.promela_text.specs.Inlines.{is_inline, has_inline, closing, Inline, is_among, all_differ, arguments, replaced, fits, callee, braces_behind, Expands}
use Rattle.pml_inline.specs.Expansion.{definitions, Given, join_given, itself, turn, reading, where_right, calling, outermost_call, defined, text_turn, texts, limited, expansion}
use Rattle.pml_inline.proofs.Words.{by_definitions, enclosed, counted}
use Rattle.pml_inline.proofs.Keeping.{kept}
use Rattle.pml_inline.proofs.Expanding.{are_expansions}

-- ---- the tokens of a text

word_short : (fresh : Bool) (p : List ℕ) (line : ℕ) → length (word (lexeme fresh p) p line) ≤ length p
unfolding lexeme
word_short fresh [] line = omega arith
word_short fresh (b ∷ q) line = by (lexeme fresh (b ∷ q))
  where
    by : (o : Option Lexeme) → length (word o (b ∷ q) line) ≤ length (b ∷ q)
    by None = omega arith
    by (Some Skipped) = omega arith
    by (Some (Token k)) = omega arith

words_short : (before : List ℕ) (ps : List (List ℕ)) → length (words before ps) ≤ length (concat ps)
words_short before [] = omega arith
words_short before (p ∷ ps) =
    let a = word_short (is_fresh before) p (line_behind before) in
    let b = words_short (before ++ p) ps in
    let c = length-append (word (lexeme (is_fresh before) p) p (line_behind before)) (words (before ++ p) ps) in
    let d = length-append p (concat ps) in
    omega (arith, a, b, c, d)

tokens_short : (text : List ℕ) (ts : List Word) → IsCut text ts → length ts ≤ length text
tokens_short text ts h = let a = words_short [] h.lexemes in let b = ap length h.are_words in let c = ap length h.divides.joins in omega (arith, a, b, c)

lines_few : (text : List ℕ) → line_behind text ≤ length text + 1
lines_few text = let h = count_by-le-length is_line_feed text in omega (arith, h)

-- ---- what comes of them

-- no longer than so many tokens and all the replacements
abbrev IsShort : ℕ → Option Given → Type 0
IsShort n None = Unit {0}
IsShort n (Some g) = length g.tokens ≤ n + g.count

joined_short : (n m : ℕ) (a b : Option Given) → IsShort n a → IsShort m b → IsShort (n + m) (join_given a b)
joined_short n m None b h k = tt
joined_short n m (Some a) None h k = tt
joined_short n m (Some a) (Some b) h k = let e = length-append a.tokens b.tokens in omega (arith, e, h, k)

weaker : (n m : ℕ) (o : Option Given) → n ≤ m → IsShort n o → IsShort m o
weaker n m None le h = tt
weaker n m (Some g) le h = omega (arith, le, h)

read_short : (known : List Inline) (call : Inline → List Word → Option Given) → ((d : Inline) (inside : List Word) → IsShort 0 (call d inside)) → (ws : List Word) (n : ℕ) → IsShort (length ws) (reading known call ws n)
read_short known call f [] n = omega arith
read_short known call f (w ∷ ws) n = by_leg n (callee known w ws) (λ m. read_short known call f ws m)
  where
    by_closing : (d : Inline) (o : Option ℕ) → ((m : ℕ) → IsShort (length ws) (reading known call ws m)) → IsShort (length ws) (enclosed (call d) ws (reading known call ws) o)
    by_closing d None g = tt
    by_closing d (Some m) g = weaker (0 + length ws) (length ws) (join_given (call d (take m (drop 1 ws))) (reading known call ws (m + 2))) (omega arith)
        (joined_short 0 (length ws) (call d (take m (drop 1 ws))) (reading known call ws (m + 2)) (f d (take m (drop 1 ws))) (g (m + 2)))

    by_leg : (n : ℕ) (o : Option Inline) → ((m : ℕ) → IsShort (length ws) (reading known call ws m)) → IsShort (length (w ∷ ws)) (turn call n o w ws (reading known call ws))
    by_leg (suc n) o g = weaker (length ws) (length (w ∷ ws)) (reading known call ws n) (omega arith) (g n)
    by_leg zero None g = weaker (1 + length ws) (length (w ∷ ws)) (join_given (itself w) (reading known call ws 0)) (omega arith) (joined_short 1 (length ws) (itself w) (reading known call ws 0) (omega arith) (g 0))
    by_leg zero (Some d) g = weaker (length ws) (length (w ∷ ws)) (enclosed (call d) ws (reading known call ws) (closing OpenParen CloseParen (drop 1 ws) 0)) (omega arith) (by_closing d (closing OpenParen CloseParen (drop 1 ws) 0) g)

counted_join : (ts : List Word) (o : Option Given) → IsShort (length ts) o → IsShort 0 (join_given (counted ts) o)
counted_join ts None h = tt
counted_join ts (Some g) h = let e = length-append [] g.tokens in omega (arith, e, h)

called_short : (known : List Inline) (room : ℕ) (active : List (List ℕ)) (d : Inline) (inside : List Word) → IsShort 0 (calling known room active d inside)
unfolding calling
called_short known zero active d inside = tt
called_short known (suc room) active d inside =
    by (not (is_among d.name active) && fits d (arguments inside))
    (read_short known (calling known room (active ++ d.name ∷ [])) (λ c i. called_short known room (active ++ d.name ∷ []) c i) (replaced d (arguments inside)) 0)
  where
    by : (r : Bool) → IsShort (length (replaced d (arguments inside))) (reading known (calling known room (active ++ d.name ∷ [])) (replaced d (arguments inside)) 0)
        → IsShort 0 (where_right r (λ ts. reading known (calling known room (active ++ d.name ∷ [])) ts 0) (replaced d (arguments inside)))
    by true h = counted_join (replaced d (arguments inside)) (reading known (calling known room (active ++ d.name ∷ [])) (replaced d (arguments inside)) 0) h
    by false h = tt

text_short : (ws : List Word) (known ds : List Inline) (b n : ℕ) → IsShort (length ws) (texts ws known ds b n)
text_short [] known ds b n = omega arith
text_short (w ∷ ws) known ds b n = by_leg n (is_inline w) (callee known w ws) (λ ks es c m. text_short ws ks es c m)
  where
    Rests : Type 0
    Rests = (ks es : List Inline) (c m : ℕ) → IsShort (length ws) (texts ws ks es c m)

    by_closing : (c : Inline) (o : Option ℕ) → Rests → IsShort (length ws) (outermost_call (calling known MOST_CALLS [] c) ws (texts ws known ds b) o)
    by_closing c None g = tt
    by_closing c (Some m) g = by_test (has_inline (take m (drop 1 ws)))
      where
        by_test : (t : Bool) → IsShort (length ws) (cond t None (join_given (calling known MOST_CALLS [] c (take m (drop 1 ws))) (texts ws known ds b (m + 2))))
        by_test true = tt
        by_test false = weaker (0 + length ws) (length ws) (join_given (calling known MOST_CALLS [] c (take m (drop 1 ws))) (texts ws known ds b (m + 2))) (omega arith)
            (joined_short 0 (length ws) (calling known MOST_CALLS [] c (take m (drop 1 ws))) (texts ws known ds b (m + 2)) (called_short known MOST_CALLS [] c (take m (drop 1 ws))) (g known ds b (m + 2)))

    by_ds : (es : List Inline) (b : ℕ) → Rests → IsShort (length ws) (defined (texts ws) known es b)
    by_ds [] b g = tt
    by_ds (e ∷ es) zero g = g (known ++ e ∷ []) es 0 e.size
    by_ds (e ∷ es) (suc b) g = tt

    by_leg : (n : ℕ) (i : Bool) (o : Option Inline) → Rests → IsShort (length (w ∷ ws)) (text_turn n i o w ws (texts ws) known ds b n)
    by_leg (suc n) i o g = weaker (length ws) (length (w ∷ ws)) (texts ws known ds b n) (omega arith) (g known ds b n)
    by_leg zero true o g = weaker (length ws) (length (w ∷ ws)) (defined (texts ws) known ds b) (omega arith) (by_ds ds b g)
    by_leg zero false None g = weaker (1 + length ws) (length (w ∷ ws)) (join_given (itself w) (texts ws known ds (braces_behind b w) 0)) (omega arith)
        (joined_short 1 (length ws) (itself w) (texts ws known ds (braces_behind b w) 0) (omega arith) (g known ds (braces_behind b w) 0))
    by_leg zero false (Some c) g = weaker (length ws) (length (w ∷ ws)) (outermost_call (calling known MOST_CALLS [] c) ws (texts ws known ds b) (closing OpenParen CloseParen (drop 1 ws) 0)) (omega arith)
        (by_closing c (closing OpenParen CloseParen (drop 1 ws) 0) g)

-- ---- the whole

abbrev WithinOption : ℕ → Option (List Word) → Type 0
WithinOption n None = Unit {0}
WithinOption n (Some us) = length us ≤ n + MOST_REPLACED

limits : (n : ℕ) (o : Option Given) → IsShort n o → WithinOption n (limited o)
limits n None h = tt
limits n (Some g) h = by (nat_le g.count MOST_REPLACED) refl
  where
    by : (t : Bool) → nat_le g.count MOST_REPLACED ≡ t → WithinOption n (cond t (Some g.tokens) None)
    by true e = let le = leb-true g.count MOST_REPLACED e in omega (arith, h, le)
    by false e = tt

whole : (ts : List Word) → WithinOption (length ts) (expansion ts)
unfolding expansion
whole ts = by_list (definitions ts 0)
  where
    by_list : (o : Option (List Inline)) → WithinOption (length ts) (by_definitions ts o)
    by_list None = tt
    by_list (Some ds) = by_test (all_differ (map (λ d. d.name) ds))
      where
        by_test : (b : Bool) → WithinOption (length ts) (cond b (limited (texts ts [] ds 0 0)) None)
        by_test true = limits (length ts) (texts ts [] ds 0 0) (text_short ts [] ds 0 0)
        by_test false = tt

expanded_short : (ts us : List Word) → Expands ts us → length us ≤ length ts + MOST_REPLACED
expanded_short ts us e = subst (WithinOption (length ts)) (are_expansions ts us e) (whole ts)

-- what comes of a text's tokens: how many there are at most, and the last line that one of them is on
pub few_tokens : (text : List ℕ) (ts us : List Word) → AreTokens text ts → Expands ts us → length us ≤ 1300000
few_tokens text ts us h e =
    let a = tokens_short text ts h.are_cut in
    let b = expanded_short ts us e in
    let c = h.short in
    omega (arith, a, b, c)

all_recursive : (P : Word → Type 0) (ws : List Word) → All P ws → AllByRecursion P ws
all_recursive P [] h = tt
all_recursive P (w ∷ ws) h = (All-head P w ws h, all_recursive P ws (All-tail P w ws h))

pub few_lines : (text : List ℕ) (ts us : List Word) → AreTokens text ts → Expands ts us → AllByRecursion (λ w. w.line ≤ 2000000) us
few_lines text ts us h e =
    let a = lines_few text in
    let b = h.short in
    let on : All (λ w. IsOnLine (line_behind text) w.line) us = kept (λ w. IsOnLine (line_behind text) w.line) ts us (token_lines text ts h.are_cut) e in
    all_recursive (λ w. w.line ≤ 2000000) us (λ i d below. let l = on i d below in omega (arith, a, b, l.1))
