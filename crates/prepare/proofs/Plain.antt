-- The stretches of a text are the text, and where nothing is mended they are written as it is.
use Rattle.std.proofs.Common.{◌≡◌, ℕ, zero, suc, ◌-◌, ◌≤◌, Bool, true, false, not, cond, ◌&&◌, ◌||◌, List, [], ◌∷◌, ◌++◌, Option, Some, None, length, take, drop, sym, refl, ap, ◌∙◌, append_assoc, append-nil, take-append-drop, length-drop, map, arith}
use Rattle.std.specs.Prelude.{is_some, ◌==◌}
use Rattle.std.specs.List.{filter, list_all, list_any}
use Rattle.std.proofs.lemmas.Bool.{false≢true}
use Rattle.profile.specs.Characters.{backslash}
use Rattle.promela_text.specs.declared.lexeme.Lexeme.{Lexeme}
use Rattle.promela_text.specs.declared.lexeme.Lexeme.TheVariants.{Skipped, Token}
use Rattle.promela_text.specs.Tokens.{is_line_feed}
use Rattle.prepare.specs.declared.context.Context.{Context}
use Rattle.prepare.specs.declared.context.Supply.{Supply}
use Rattle.prepare.specs.declared.context.Supply.TheVariants as supply
use Rattle.prepare.specs.declared.stretch.StretchForm.{StretchForm}
use Rattle.prepare.specs.declared.stretch.StretchForm.TheVariants as form
use Rattle.prepare.specs.Standing.{Standing}
use Rattle.prepare.specs.Marker.{Marker}
use Rattle.prepare.specs.Markers.{marker}
use Rattle.prepare.specs.Roles.{role}
use Rattle.prepare.specs.Contexts.{written, behind}
use Rattle.prepare.specs.Written.{Written}
use Rattle.prepare.specs.Stretches.{Rest, lexeme_at, stretch, on_lexeme, stretches_by}
use Rattle.prepare.specs.Spelling.{begins_feed, is_break, unless_break, escapes, unbroken, shown, divider, spelled_stretch, spelled}
use Rattle.prepare.specs.Numbering.{included, placed, stand_after, standing_behind, first_line, line_length, numbered_by, has_marker_by}
use Rattle.prepare.specs.Laws.{source, sources, is_nothing, stays, is_plain}

on_sources : (n : ℕ) (x : Lexeme) (fresh : Bool) (p : Context) (gap text : List ℕ) (go : Rest) → ((f : Bool) (q : Context) (g t : List ℕ) → sources (go f q g t) ≡ g ++ t) → sources (on_lexeme n x fresh p gap text go) ≡ gap ++ text
unfolding stretch
on_sources n Skipped fresh p gap text go h = h _ _ (gap ++ take n text) (drop n text) ∙ append_assoc gap (take n text) (drop n text) ∙ ap (λ (xs : List ℕ). gap ++ xs) (take-append-drop n text)
on_sources n (Token k) fresh p gap text go h =
    ap (λ (xs : List ℕ). (gap ++ take n text) ++ xs) (h false (behind p (role k (take n text))) [] (drop n text)) ∙ append_assoc gap (take n text) (drop n text) ∙ ap (λ (xs : List ℕ). gap ++ xs) (take-append-drop n text)

-- the stretches of a text are the text
pub sources_are : (fuel : ℕ) (fresh : Bool) (p : Context) (gap text : List ℕ) → sources (stretches_by fuel fresh p gap text) ≡ gap ++ text
unfolding stretches_by
sources_are zero fresh p gap text = append-nil ((gap ++ text) ++ []) ∙ append-nil (gap ++ text)
sources_are (suc fuel) fresh p gap [] = append-nil (gap ++ [])
sources_are (suc fuel) fresh p gap (b ∷ q) = on_sources (lexeme_at fresh (b ∷ q)).0 (lexeme_at fresh (b ∷ q)).1 fresh p gap (b ∷ q) (stretches_by fuel) (sources_are fuel)

pub and_left : (a b : Bool) → (a && b) ≡ true → a ≡ true
and_left true b h = refl
and_left false b h = h

pub and_right : (a b : Bool) → (a && b) ≡ true → b ≡ true
and_right true b h = h
and_right false b h = absurd (false≢true h)

or_left : (a b : Bool) → (a || b) ≡ false → a ≡ false
or_left true b h = h
or_left false b h = refl

or_right : (a b : Bool) → (a || b) ≡ false → b ≡ false
or_right true b h = absurd (false≢true (sym h))
or_right false b h = h

pub not_true : (a : Bool) → not a ≡ true → a ≡ false
not_true true h = sym h
not_true false h = refl

no_feed_next : (q : List ℕ) → list_any is_line_feed q ≡ false → begins_feed q ≡ false
no_feed_next [] h = refl
no_feed_next (b ∷ q) h = or_left (is_line_feed b) (list_any is_line_feed q) h

break_by : (x n y z : Bool) → x ≡ false → z ≡ false → (x || (n && (y && z))) ≡ false
break_by true n y z h g = h
break_by false true true z h g = g
break_by false true false z h g = refl
break_by false false y z h g = refl

-- a string on one line stays
pub unbroken_stays : (e : Bool) (t : List ℕ) → list_any is_line_feed t ≡ false → unbroken e t ≡ t
unfolding unbroken
unbroken_stays e [] h = refl
unbroken_stays e (b ∷ q) h =
    let here : is_line_feed b ≡ false = or_left (is_line_feed b) (list_any is_line_feed q) h in
    let rest : list_any is_line_feed q ≡ false = or_right (is_line_feed b) (list_any is_line_feed q) h in
    let break : is_break e b q ≡ false = break_by (is_line_feed b) (not e) (b == backslash) (begins_feed q) here (no_feed_next q rest) in
    ap (λ (x : Bool). unless_break x b (unbroken (escapes e b) q)) break ∙ ap (λ (xs : List ℕ). b ∷ xs) (unbroken_stays (escapes e b) q rest)

no_feeds : (t : List ℕ) → list_any is_line_feed t ≡ false → filter is_line_feed t ≡ []
no_feeds [] h = refl
no_feeds (b ∷ q) h = ap (λ (x : Bool). cond x (b ∷ filter is_line_feed q) (filter is_line_feed q)) (or_left (is_line_feed b) (list_any is_line_feed q) h) ∙ no_feeds q (or_right (is_line_feed b) (list_any is_line_feed q) h)

pub shown_stays : (f : StretchForm) (t : List ℕ) → stays f t ≡ true → shown f t ≡ t
shown_stays form.Kept t h = refl
shown_stays form.Joined t h =
    let none : list_any is_line_feed t ≡ false = not_true (list_any is_line_feed t) h in
    ap (λ (xs : List ℕ). xs ++ filter is_line_feed t) (unbroken_stays false t none) ∙ ap (λ (xs : List ℕ). t ++ xs) (no_feeds t none) ∙ append-nil t
shown_stays form.Blanked t h = absurd (false≢true h)

nothing_written : (s : Supply) (gap : List ℕ) → is_nothing s ≡ true → written s ++ divider s gap ≡ []
nothing_written supply.Nothing gap h = refl
nothing_written supply.Separator gap h = absurd (false≢true h)
nothing_written supply.Skip gap h = absurd (false≢true h)

stretch_stays : (t : Written) → is_plain t ≡ true → spelled_stretch t ≡ source t
stretch_stays t h =
    ap (λ (xs : List ℕ). xs ++ (t.gap ++ shown t.form t.token)) (nothing_written t.supply t.gap (and_left (is_nothing t.supply) (stays t.form t.token) h))
    ∙ ap (λ (xs : List ℕ). t.gap ++ xs) (shown_stays t.form t.token (and_right (is_nothing t.supply) (stays t.form t.token) h))

pub all_stay : (ts : List Written) → list_all is_plain ts ≡ true → spelled ts ≡ sources ts
all_stay [] h = refl
all_stay (t ∷ ts) h =
    ap (λ (xs : List ℕ). xs ++ spelled ts) (stretch_stays t (and_left (is_plain t) (list_all is_plain ts) h))
    ∙ ap (λ (xs : List ℕ). source t ++ xs) (all_stay ts (and_right (is_plain t) (list_all is_plain ts) h))

no_marker : (o : Option Marker) → is_some o ≡ false → o ≡ None
no_marker None h = refl
no_marker (Some m) h = absurd (false≢true (sym h))

placed_by : (s : Standing) (m : Option Marker) (line : List ℕ) → m ≡ None → s.is_own ≡ true → placed s m line ≡ line
placed_by s None line e own = ap (λ (t : Bool). cond t line (map included line)) own
placed_by s (Some m) line e own = cc

owned_by : (s : Standing) (m : Option Marker) (n : ℕ) → m ≡ None → s.is_own ≡ true → (stand_after s m n).is_own ≡ true
owned_by s None n e own = own
owned_by s (Some m) n e own = cc

-- lines without markers stay
pub unmarked : (fuel : ℕ) (s : Standing) (text : List ℕ) → length text ≤ fuel → s.is_own ≡ true → has_marker_by fuel text ≡ false → numbered_by fuel s text ≡ text
unfolding numbered_by has_marker_by
unmarked zero s [] short own none = refl
unmarked zero s (b ∷ q) short own none = absurd (omega arith)
unmarked (suc fuel) s [] short own none = refl
unmarked (suc fuel) s (b ∷ q) short own none =
    let text = b ∷ q in
    let line = first_line text in
    let n = line_length text in
    let plain : marker line ≡ None = no_marker (marker line) (or_left (is_some (marker line)) (has_marker_by fuel (drop n text)) none) in
    let len : length (drop n text) ≡ length text - n = length-drop n text in
    let rest : numbered_by fuel (standing_behind s (marker line) line) (drop n text) ≡ drop n text =
    unmarked fuel (standing_behind s (marker line) line) (drop n text) (omega arith) (owned_by s (marker line) _ plain own) (or_right (is_some (marker line)) (has_marker_by fuel (drop n text)) none) in
    ap (λ (xs : List ℕ). xs ++ numbered_by fuel (standing_behind s (marker line) line) (drop n text)) (placed_by s (marker line) line plain own)
    ∙ ap (λ (xs : List ℕ). line ++ xs) rest ∙ take-append-drop n text
