-- What becomes of the tokens of a text: its line feeds stay, and so does a text of which no token is changed.
use Rattle.std.proofs.Common.{◌≡◌, ℕ, ◌+◌, ◌%◌, ◌^◌, ◌<◌, ◌≤◌, min, Bool, true, false, not, length, List, [], ◌∷◌, ◌++◌, refl, sym, ap, ◌∙◌, arith}
use Rattle.std.specs.List.{filter, list_all}
use Rattle.std.specs.Fmt.{decimal}
use Rattle.std.proofs.lemmas.Bool.{false≢true}
use Rattle.std.proofs.lemmas.Fmt.{decimal_by_steps}
use lib.Chars.{codes}
use Rattle.promela_text.specs.Tokens.{is_line_feed}
use Rattle.prepare.specs.declared.markers.TheConstants.{MOST_LINE}
use Rattle.prepare.specs.declared.changes.PhraseHead.{PhraseHead}
use Rattle.prepare.specs.declared.changes.PhraseHead.TheVariants as head
use Rattle.prepare.specs.declared.changes.Respelling.{Respelling}
use Rattle.prepare.specs.declared.changes.Respelling.TheVariants as change
use Rattle.prepare.specs.Contexts.{start}
use Rattle.prepare.specs.Written.{Written}
use Rattle.prepare.specs.Stretches.{stretches}
use Rattle.prepare.specs.Sizes.{Declared, declared}
use Rattle.prepare.specs.Changes.{change_of, head_behind, exchanges_by, exchanges, numbers, shown, respelled, is_kept, is_same}
use Rattle.prepare.specs.Spelling.{spelled}
use Rattle.prepare.specs.Numbering.{bare, numbered, has_marker, first_standing}
use Rattle.prepare.specs.Coding.{coded, has_character}
use Rattle.prepare.specs.Changed.{owns}
use Rattle.prepare.specs.Laws.{source, sources, separated, exchanged, prepared, is_mended, has_change}
use Rattle.prepare.proofs.Fronts.{uncoded}
use Rattle.prepare.proofs.Lines.{feeds, feeds-append, digit_feeds, blanks_feeds, filter_feeds}
use Rattle.prepare.proofs.Plain.{and_left, and_right, sources_are, all_stay, unmarked}

one_digit : (n : ℕ) → n < 10 → feeds ((48 + n) ∷ []) ≡ 0
one_digit n h = digit_feeds n

digit_more : (n : ℕ) (ds : List ℕ) → 10 ≤ n → feeds ds ≡ 0 → feeds (ds ++ ((48 + n % 10) ∷ [])) ≡ 0
digit_more n ds h e =
    let a = feeds-append ds ((48 + n % 10) ∷ []) in
    let b = digit_feeds (n % 10) in
    omega arith

-- a number has no line feed
decimal_feeds : (n : ℕ) → n < 2 ^ 64 → feeds (decimal n) ≡ 0
decimal_feeds n h = decimal_by_steps (λ (m : ℕ) (ds : List ℕ). feeds ds ≡ 0) one_digit digit_more n h

numbers_feeds : (n : ℕ) → feeds (numbers n) ≡ 0
numbers_feeds n =
    let a = feeds-append (codes "0 .. ") (decimal (min n MOST_LINE)) in
    let b = decimal_feeds (min n MOST_LINE) (omega arith) in
    omega arith

pub shown_feeds : (c : Respelling) (t : List ℕ) → feeds (shown c t) ≡ feeds t
shown_feeds change.Kept t = refl
shown_feeds change.Left t = refl
shown_feeds change.Blanked t = blanks_feeds t
shown_feeds change.Colon t =
    let a = feeds-append (codes ":") (filter is_line_feed t) in
    let b = filter_feeds t in
    omega arith
shown_feeds (change.Range n) t =
    let a = feeds-append (numbers n) (filter is_line_feed t) in
    let b = numbers_feeds n in
    let c = filter_feeds t in
    omega arith

one_more : (ds : List Declared) (h : PhraseHead) (t : Written) (ts : List Written)
    → feeds (respelled (exchanges_by ds (head_behind h t.kind t.token) ts)) ≡ feeds (sources ts) → feeds (respelled (exchanges_by ds h (t ∷ ts))) ≡ feeds (sources (t ∷ ts))
one_more ds h t ts e =
    let c = change_of ds h t ts in
    let rest = respelled (exchanges_by ds (head_behind h t.kind t.token) ts) in
    let a = feeds-append (t.gap ++ shown c t.token) rest in
    let b = feeds-append t.gap (shown c t.token) in
    let d = feeds-append (source t) (sources ts) in
    let f = feeds-append t.gap t.token in
    let g = shown_feeds c t.token in
    omega arith

-- what becomes of stretches has as many lines as they have
respelled_feeds : (ds : List Declared) (h : PhraseHead) (ts : List Written) → feeds (respelled (exchanges_by ds h ts)) ≡ feeds (sources ts)
respelled_feeds ds h [] = refl
respelled_feeds ds h (t ∷ ts) = one_more ds h t ts (respelled_feeds ds (head_behind h t.kind t.token) ts)

pub exchanged_feeds : (text : List ℕ) → feeds (exchanged text) ≡ feeds text
exchanged_feeds text = respelled_feeds (declared (stretches text)) head.Outside (stretches text) ∙ ap feeds (sources_are _ true start [] text)

kept_stays : (c : Respelling) (t : List ℕ) → is_kept c ≡ true → shown c t ≡ t
kept_stays change.Kept t h = refl
kept_stays change.Left t h = refl
kept_stays change.Blanked t h = absurd (false≢true h)
kept_stays change.Colon t h = absurd (false≢true h)
kept_stays (change.Range n) t h = absurd (false≢true h)

all_same : (ds : List Declared) (h : PhraseHead) (ts : List Written) → list_all is_same (exchanges_by ds h ts) ≡ true → respelled (exchanges_by ds h ts) ≡ sources ts
all_same ds h [] e = refl
all_same ds h (t ∷ ts) e =
    let c = change_of ds h t ts in
    let rest = exchanges_by ds (head_behind h t.kind t.token) ts in
    ap (λ (xs : List ℕ). (t.gap ++ xs) ++ respelled rest) (kept_stays c t.token (and_left (is_kept c) (list_all is_same rest) e))
    ∙ ap (λ (xs : List ℕ). source t ++ xs) (all_same ds (head_behind h t.kind t.token) ts (and_right (is_kept c) (list_all is_same rest) e))

-- a text of which no token is changed
none_changed : (text : List ℕ) → list_all is_same (exchanges (stretches text)) ≡ true → exchanged text ≡ text
none_changed text h = all_same (declared (stretches text)) head.Outside (stretches text) h ∙ sources_are _ true start [] text

owns_are : (ds : List Declared) (h : PhraseHead) (ts : List Written) → owns (exchanges_by ds h ts) ≡ sources ts
owns_are ds h [] = refl
owns_are ds h (t ∷ ts) = ap (λ (xs : List ℕ). source t ++ xs) (owns_are ds (head_behind h t.kind t.token) ts)

pub owns_text : (text : List ℕ) → owns (exchanges (stretches text)) ≡ text
owns_text text = owns_are (declared (stretches text)) head.Outside (stretches text) ∙ sources_are _ true start [] text

not_true : (a : Bool) → not a ≡ false → a ≡ true
not_true true h = refl
not_true false h = sym h

pub unexchanged : (text : List ℕ) → has_change text ≡ false → exchanged text ≡ text
unexchanged text h = none_changed text (not_true (list_all is_same (exchanges (stretches text))) h)

-- a text in which nothing is to be mended comes out as it is
pub unchanged : (text : List ℕ) → bare text ≡ text → has_marker text ≡ false → has_character text ≡ false → is_mended text ≡ true → has_change text ≡ false → prepared text ≡ text
unchanged text e none uncharacter plain same =
    let lines : coded (numbered (bare text)) ≡ text = ap (λ (xs : List ℕ). coded (numbered xs)) e ∙ ap coded (unmarked (length text) first_standing text (omega arith) refl none) ∙ uncoded (length text) true text uncharacter in
    let separate : separated text ≡ text = ap (λ (xs : List ℕ). spelled (stretches xs)) lines ∙ all_stay (stretches text) plain ∙ sources_are (length text) true start [] text in
    ap exchanged separate ∙ unexchanged text same
