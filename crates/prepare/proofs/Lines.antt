-- How many line feeds what is written has.
use Rattle.std.proofs.Common.{ap, take, take-append-drop, ◌≡◌, ℕ, zero, suc, ◌+◌, ◌-◌, ◌/◌, ◌%◌, max, Bool, true, false, cond, ◌||◌, List, [], ◌∷◌, ◌++◌, Option, Some, None, map, replicate, drop, sym, refl, ◌∙◌, arith}
use Rattle.std.specs.Prelude.{count_by, nat_lt, ◌==◌}
use Rattle.std.specs.List.{filter}
use Rattle.std.proofs.lemmas.Bool.Decides.{nat_tests}
use Rattle.std.proofs.lemmas.List.Sums.{sum_by-append}
use Rattle.std.proofs.lemmas.List.Folds.{sum_by-replicate}
use lib.Chars.{codes}
use Rattle.profile.specs.Characters.{line_feed, zero_digit}
use Rattle.promela_text.specs.Tokens.{is_line_feed, fresh_from}
use Rattle.prepare.specs.declared.TheConstants.{FORM_FEED}
use Rattle.prepare.specs.declared.context.Supply.{Supply}
use Rattle.prepare.specs.declared.context.Supply.TheVariants as supply
use Rattle.prepare.specs.declared.stretch.StretchForm.{StretchForm}
use Rattle.prepare.specs.declared.stretch.StretchForm.TheVariants as form
use Rattle.prepare.specs.Standing.{Standing}
use Rattle.prepare.specs.Marker.{Marker}
use Rattle.prepare.specs.Markers.{marker}
use Rattle.prepare.specs.Contexts.{written}
use Rattle.prepare.specs.Character.{value, digits, number}
use Rattle.prepare.specs.Coding.{is_coded, front_length, coded_by}
use Rattle.prepare.specs.Coding as coding
use Rattle.prepare.specs.Written.{Written}
use Rattle.prepare.specs.Spelling.{blank, unless_break, escapes, unbroken, shown, divider, supplied, spelled_stretch, spelled}
use Rattle.prepare.specs.Numbering.{is_own_file, included, placed, line_after, stand_after, standing_behind, first_line, line_length, numbered_by, asked_by}
use Rattle.prepare.specs.Laws.{source, sources}

-- how many line feeds a text has
abbrev pub feeds : List ℕ → ℕ
feeds xs = count_by is_line_feed xs

pub feeds-append : (xs ys : List ℕ) → feeds (xs ++ ys) ≡ feeds xs + feeds ys
feeds-append xs ys = sum_by-append (λ b. cond (is_line_feed b) 1 0) xs ys

feeds-cons : (b : ℕ) (q : List ℕ) → feeds (b ∷ q) ≡ cond (is_line_feed b) 1 0 + feeds q
feeds-cons b q = feeds-append (b ∷ []) q ∙ omega arith

-- a byte of an included line is no line feed
included_by : (t : Bool) (b n : ℕ) → is_line_feed b ≡ t → n ≡ 0 → cond (is_line_feed (cond t 12 b)) 1 0 + n ≡ 0
included_by true b n e h = omega arith
included_by false b n e h = rw e (omega arith)

none_included : (xs : List ℕ) → feeds (map included xs) ≡ 0
none_included [] = refl
none_included (b ∷ q) = feeds-cons (included b) (map included q) ∙ included_by (is_line_feed b) b (feeds (map included q)) refl (none_included q)

pub feeds-replicate : (n : ℕ) → feeds (replicate n line_feed) ≡ n
feeds-replicate n = sum_by-replicate (λ b. cond (is_line_feed b) 1 0) n line_feed ∙ omega arith

own_line : (t : Bool) (n : ℕ) (line : List ℕ) → n + feeds (cond t line (map included line)) ≡ cond t (n + feeds line) n
own_line true n line = refl
own_line false n line = let e = none_included line in omega arith

own_marker : (t : Bool) (n m : ℕ) → n + feeds (cond t (replicate (m - n) line_feed) []) ≡ cond t (max n m) n
own_marker true n m = let e = feeds-replicate (m - n) in omega arith
own_marker false n m = omega arith

placed_feeds : (s : Standing) (m : Option Marker) (line : List ℕ) → s.line + feeds (placed s m line) ≡ line_after s m line
placed_feeds s None line = own_line s.is_own s.line line
placed_feeds s (Some m) line = own_marker (is_own_file s m.file) s.line m.line

stands_on : (s : Standing) (m : Option Marker) (n : ℕ) → (stand_after s m n).line ≡ n
stands_on s None n = refl
stands_on s (Some m) n = refl

-- the line that is written to is the one that the markers ask for
pub asked_is : (fuel : ℕ) (s : Standing) (text : List ℕ) → s.line + feeds (numbered_by fuel s text) ≡ asked_by fuel s text
unfolding numbered_by asked_by
asked_is zero s text = omega arith
asked_is (suc fuel) s [] = omega arith
asked_is (suc fuel) s (b ∷ q) =
    let text = b ∷ q in
    let line = first_line text in
    let next = standing_behind s (marker line) line in
    let front = placed s (marker line) line in
    let back = numbered_by fuel next (drop (line_length text) text) in
    let both : feeds (front ++ back) ≡ feeds front + feeds back = feeds-append front back in
    let here : s.line + feeds front ≡ line_after s (marker line) line = placed_feeds s (marker line) line in
    let there : next.line ≡ line_after s (marker line) line = stands_on s (marker line) (line_after s (marker line) line) in
    let rest : next.line + feeds back ≡ asked_by fuel next (drop (line_length text) text) = asked_is fuel next (drop (line_length text) text) in
    omega arith ∙ rest

-- what is written between stretches has no line feed
pub nothing_fed : (s : Supply) (gap : List ℕ) → feeds (written s ++ divider s gap) ≡ 0
nothing_fed supply.Nothing gap = refl
nothing_fed supply.Separator gap = refl
nothing_fed supply.Skip [] = refl
nothing_fed supply.Skip (b ∷ q) = refl

blank_by : (t u : Bool) (b n m : ℕ) → is_line_feed b ≡ t → n ≡ m → cond (is_line_feed (cond (t || u) b 32)) 1 0 + n ≡ cond t 1 0 + m
blank_by true u b n m e h = rw e (omega arith)
blank_by false true b n m e h = rw e (omega arith)
blank_by false false b n m e h = omega arith

pub blanks_feeds : (xs : List ℕ) → feeds (map blank xs) ≡ feeds xs
blanks_feeds [] = refl
blanks_feeds (b ∷ q) = feeds-cons (blank b) (map blank q) ∙ blank_by (is_line_feed b) (b == FORM_FEED) b (feeds (map blank q)) (feeds q) refl (blanks_feeds q) ∙ sym (feeds-cons b q)

filter_by : (t : Bool) (b : ℕ) (xs : List ℕ) (m : ℕ) → is_line_feed b ≡ t → feeds xs ≡ m → feeds (cond t (b ∷ xs) xs) ≡ cond t 1 0 + m
filter_by true b xs m e h = feeds-cons b xs ∙ rw e (omega arith)
filter_by false b xs m e h = omega arith

pub filter_feeds : (xs : List ℕ) → feeds (filter is_line_feed xs) ≡ feeds xs
filter_feeds [] = refl
filter_feeds (b ∷ q) = filter_by (is_line_feed b) b (filter is_line_feed q) (feeds q) refl (filter_feeds q) ∙ sym (feeds-cons b q)

unbroken_by : (t : Bool) (b : ℕ) (other : Bool) (rest : List ℕ) → is_line_feed b ≡ t → feeds rest ≡ 0 → feeds (unless_break (t || other) b rest) ≡ 0
unbroken_by true b other rest e h = h
unbroken_by false b true rest e h = h
unbroken_by false b false rest e h = feeds-cons b rest ∙ rw e (omega arith)

pub unbroken_feeds : (e : Bool) (xs : List ℕ) → feeds (unbroken e xs) ≡ 0
unfolding unbroken
unbroken_feeds e [] = refl
unbroken_feeds e (b ∷ q) = unbroken_by (is_line_feed b) b _ (unbroken (escapes e b) q) refl (unbroken_feeds (escapes e b) q)

no_feed_by : (t : Bool) (x : ℕ) → is_line_feed (zero_digit + x) ≡ t → x + cond t 1 0 ≡ x
no_feed_by true x e = absurd (grind (arith, nat_tests))
no_feed_by false x e = omega arith

pub digit_feeds : (x : ℕ) → feeds ((zero_digit + x) ∷ []) ≡ 0
digit_feeds x = feeds-cons (zero_digit + x) [] ∙ (let e = no_feed_by (is_line_feed (zero_digit + x)) x refl in omega arith)

digit_or_none : (t : Bool) (x : ℕ) → feeds (cond t [] ((zero_digit + x) ∷ [])) ≡ 0
digit_or_none true x = refl
digit_or_none false x = digit_feeds x

digits_feeds : (n : ℕ) → feeds (digits n) ≡ 0
digits_feeds n =
    let first : List ℕ = cond (nat_lt n 100) [] ((zero_digit + n / 100) ∷ []) in
    let second : List ℕ = cond (nat_lt n 10) [] ((zero_digit + (n / 10) % 10) ∷ []) in
    let a = feeds-append first (second ++ (zero_digit + n % 10) ∷ []) in
    let b = feeds-append second ((zero_digit + n % 10) ∷ []) in
    let c = digit_or_none (nat_lt n 100) (n / 100) in
    let d = digit_or_none (nat_lt n 10) ((n / 10) % 10) in
    let e = digit_feeds (n % 10) in
    omega arith

-- the number of a character has no line feed
number_feeds : (t : List ℕ) → feeds (number t) ≡ 0
number_feeds t =
    let a = feeds-append (codes " ") (digits (value t) ++ codes " ") in
    let b = feeds-append (digits (value t)) (codes " ") in
    let c = digits_feeds (value t) in
    omega arith

pub character_feeds : (t : Bool) (front : List ℕ) → feeds (coding.written t front) ≡ feeds front
character_feeds true front =
    let a = feeds-append (number front) (filter is_line_feed front) in
    let b = number_feeds front in
    let c = filter_feeds front in
    omega arith
character_feeds false front = refl

-- a text with numbers in place of characters has as many lines
pub coded_feeds : (fuel : ℕ) (fresh : Bool) (text : List ℕ) → feeds (coded_by fuel fresh text) ≡ feeds text
unfolding coded_by
coded_feeds zero fresh text = refl
coded_feeds (suc fuel) fresh [] = refl
coded_feeds (suc fuel) fresh (b ∷ q) =
    let text = b ∷ q in
    let n = front_length fresh text in
    let front = take n text in
    let back = coded_by fuel (fresh_from fresh front) (drop n text) in
    feeds-append (coding.written (is_coded text) front) back
    ∙ ap (λ (m : ℕ). m + feeds back) (character_feeds (is_coded text) front)
    ∙ ap (λ (m : ℕ). feeds front + m) (coded_feeds fuel (fresh_from fresh front) (drop n text))
    ∙ sym (feeds-append front (drop n text)) ∙ ap feeds (take-append-drop n text)

shown_feeds : (f : StretchForm) (t : List ℕ) → feeds (shown f t) ≡ feeds t
shown_feeds form.Kept t = refl
shown_feeds form.Joined t =
    let a = feeds-append (unbroken false t) (filter is_line_feed t) in
    let b = unbroken_feeds false t in
    let c = filter_feeds t in
    omega arith
shown_feeds form.Blanked t = blanks_feeds t

stretch_feeds : (t : Written) → feeds (spelled_stretch t) ≡ feeds (source t)
stretch_feeds t =
    let a = feeds-append (supplied t) (t.gap ++ shown t.form t.token) in
    let b = feeds-append t.gap (shown t.form t.token) in
    let c = feeds-append t.gap t.token in
    let d = nothing_fed t.supply t.gap in
    let e = shown_feeds t.form t.token in
    omega arith

-- stretches are written on as many lines as they have
pub spelled_feeds : (ts : List Written) → feeds (spelled ts) ≡ feeds (sources ts)
spelled_feeds [] = refl
spelled_feeds (t ∷ ts) =
    let a = feeds-append (spelled_stretch t) (spelled ts) in
    let b = feeds-append (source t) (sources ts) in
    let c = stretch_feeds t in
    let d = spelled_feeds ts in
    omega arith
