-- What is written of a place.
use Rattle.std.proofs.Common.{◌≡◌, ◌∙◌, ap, sym, refl, ℕ, zero, suc, ◌<◌, ◌-◌, true, List, ◌++◌, length, Ok, Err, Result, Option, Some, None, string_bytes, IfOk, arith}
use Rattle.std.specs.Prelude.{String}
use Rattle.std.specs.Str.{IsUtf8, chars, is_utf8}
use Rattle.std.specs.Char.{encode_utf8}
use Rattle.std.proofs.lemmas.Str.{IsUtf8-from_is_utf8}
use Rattle.diagnostics.specs.declared.refusal.Refusal.{Refusal}
use Rattle.diagnostics.specs.declared.refusal.Refusal.TheVariants as r
use Rattle.diagnostic_words.specs.Words.{refusal_words}
use Rattle.explain_cause.specs.declared.cause.Segment.{Segment}
use Rattle.explain_find.specs.Told.{IsTold}
use Rattle.source_lines.specs.Places.{shown_offset, number_at, start_at, line_at}
use Rattle.source_lines.specs.Beside.{Sight, seen_in}
use Rattle.source_lines.proofs.Own.{own_sight}
use Rattle.explain.specs.Explained.{shown_name, said, told_of, told_at, told_beside, Request, TellsPlace, of_own, of_included, Explains, placeless, placed, ExplainsBeside, placeless_beside, placed_beside}

-- the words of each refusal are a text
words_compute : (x : Refusal) → is_utf8 (refusal_words x) ≡ true
unfolding is_utf8 chars encode_utf8
words_compute r.TextTooLong = refl
words_compute r.Lexical = refl
words_compute r.LeftOut = refl
words_compute r.TooDeep = refl
words_compute r.Syntax = refl
words_compute r.NameTwice = refl
words_compute r.UnknownName = refl
words_compute r.WrongKind = refl
words_compute r.ArgumentCount = refl
words_compute r.Label = refl
words_compute r.BreakOutsideDo = refl
words_compute r.DStep = refl
words_compute r.CircleOfGotos = refl
words_compute r.NumberOutOfRange = refl
words_compute r.TooManyCells = refl
words_compute r.NoProcess = refl
words_compute r.TooManyAtStart = refl
words_compute r.Initialiser = refl
words_compute r.Inline = refl

pub words_are_text : (x : Refusal) → IsUtf8 (refusal_words x)
words_are_text x = IsUtf8-from_is_utf8 (refusal_words x) (words_compute x)

-- the table of lines is not empty where it has a line of an included file
pub some_lines : {A : Type 0} (n : ℕ) (o : Option A) (a : A) → (n ≡ 0 → o ≡ None) → o ≡ Some a → 0 < n
some_lines {A} n o a none is = by n refl
  where
    not_both : None ≡ Some a → ⊥
    not_both h = cc

    by : (k : ℕ) → n ≡ k → 0 < n
    by zero e = absurd (not_both (sym (none e) ∙ is))
    by (suc k) e = omega (arith, e)

pub in_included : {Z E : Type 0} (q : Request) (p : Segment) (x : Refusal) (words file line : List ℕ) (n start : ℕ) (s : Sight) (o : Result (String Z) E) → 0 < length q.lines
    → s ≡ seen_in q.included n line (shown_offset q.text p.offset - start) p.length
    → IfOk o (λ out. string_bytes out ≡ told_of file n s x words) → IfOk o (λ out. TellsPlace q p x words (string_bytes out))
in_included q p x words file line n start s (Ok out) some sees is = of_included file line n start some (is ∙ ap (λ (t : Sight). told_of file n t x words) sees)
in_included q p x words file line n start s (Err e) some sees is = tt

pub alone : {Z E : Type 0} (q : Request) (x : Refusal) (words : List ℕ) (o : Result (String Z) E)
    → IfOk o (λ out. string_bytes out ≡ shown_name q.name ++ said x words) → IfOk o (λ out. ExplainsBeside q x (string_bytes out))
alone q x words (Ok out) is = placeless_beside words is
alone q x words (Err e) is = tt

pub at_told : {Z E : Type 0} (q : Request) (x : Refusal) (p : Segment) (words : List ℕ) (o : Result (String Z) E) → IsTold q.text x p
    → IfOk o (λ out. TellsPlace q p x words (string_bytes out)) → IfOk o (λ out. ExplainsBeside q x (string_bytes out))
at_told q x p words (Ok out) told tells = placed_beside p words told tells
at_told q x p words (Err e) told tells = tt

-- beside the text itself, without included files
same_told : (q : Request) (p : Segment) (x : Refusal) (words : List ℕ) → q.own ≡ q.text → told_beside q p x words ≡ told_at q.name q.text p x words
same_told q p x words own =
    let at = shown_offset q.text p.offset in
    ap (λ (s : Sight). told_of q.name (number_at q.text at) s x words)
    (ap (λ (t : List ℕ). seen_in t (number_at q.text at) (line_at q.text at) (at - start_at q.text at) p.length) own ∙ own_sight q.text at (at - start_at q.text at) p.length)

no_table : (n : ℕ) → n ≡ 0 → 0 < n → ⊥
no_table n none some = omega (arith, none, some)

plain_place : (q : Request) (x : Refusal) (out : List ℕ) (p : Segment) (words : List ℕ) → q.own ≡ q.text → length q.lines ≡ 0 → IsTold q.text x p → TellsPlace q p x words out
    → Explains q.name q.text x out
plain_place q x out p words own none told (of_own is) = placed p words told (is ∙ same_told q p x words own)
plain_place q x out p words own none told (of_included file line n start some is) = absurd (no_table (length q.lines) none some)

pub plain : (q : Request) (x : Refusal) (out : List ℕ) → q.own ≡ q.text → length q.lines ≡ 0 → ExplainsBeside q x out → Explains q.name q.text x out
plain q x out own none (placeless_beside words is) = placeless words is
plain q x out own none (placed_beside p words told tells) = plain_place q x out p words own none told tells

pub plain_ok : {Z E : Type 0} (q : Request) (x : Refusal) (o : Result (String Z) E) → q.own ≡ q.text → length q.lines ≡ 0
    → IfOk o (λ out. ExplainsBeside q x (string_bytes out)) → IfOk o (λ out. Explains q.name q.text x (string_bytes out))
plain_ok q x (Ok out) own none is = plain q x (string_bytes out) own none is
plain_ok q x (Err e) own none is = tt
