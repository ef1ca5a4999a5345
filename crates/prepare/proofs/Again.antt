-- What is written of a text is cut again: into its tokens but for those of blocks, and what is supplied.
use Rattle.std.proofs.Common.{◌≡◌, ℕ, zero, suc, ◌+◌, ◌-◌, ◌<◌, ◌≤◌, Bool, true, false, not, cond, ◌&&◌, ◌||◌, List, [], ◌∷◌, ◌++◌, Option, Some, None, length, take, drop, map, sym, refl, ap, ◌∙◌, subst, inl, inr, ⊎_elim, append_assoc, append-nil, length-drop, take-append-drop, length-take-le, arith}
use Rattle.std.specs.Prelude.{◌⊎◌, ◌==◌}
use Rattle.std.specs.List.{concat, filter, list_all, list_any, prefix_len}
use Rattle.std.specs.Str.{bytes_eq}
use Rattle.std.specs.Option.{option_map}
use lib.Chars.{codes}
use Rattle.std.proofs.lemmas.Bool.{false≢true}
use Rattle.std.proofs.lemmas.Bool.Decides.{nat_tests}
use Rattle.std.proofs.lemmas.Slice.Eq.{bytes_eq-Decides}
use Rattle.std.proofs.Math.Seq.{take-append_seam, drop-append_seam}
use Rattle.promela_text.specs.declared.lexeme.Lexeme.{Lexeme}
use Rattle.promela_text.specs.declared.lexeme.Lexeme.TheVariants.{Skipped, Token}
use Rattle.pml_token.specs.declared.token.Kind.{Kind}
use Rattle.pml_token.specs.declared.token.Kind.TheVariants as kind
use Rattle.pml_token.specs.Word.{same_kind, Word}
use Rattle.promela_text.specs.Tables.{word_kind}
use Rattle.promela_text.specs.Tokens.{lexeme, is_blank, is_name_byte, IsLongest, IsCut, fresh_from, is_fresh, is_line_feed, line_behind, word, words}
use Rattle.pml_lex.specs.Scanning.{Found, next}
use Rattle.pml_lex.proofs.Longest.{IsNext, IsNextAt}
use Rattle.pml_lex.proofs.Scan.{next_is}
use Rattle.pml_lex.proofs.Places.{token_place}
use Rattle.pml_lex.proofs.Steps.{fresh_from-append}
use Rattle.pml_lex.proofs.Wholes.{Divides, to_whole}
use Rattle.prepare.specs.declared.roles.TokenRole.{TokenRole}
use Rattle.prepare.specs.declared.roles.TokenRole.TheVariants as as_role
use Rattle.prepare.specs.declared.context.Supply.{Supply}
use Rattle.prepare.specs.declared.context.Supply.TheVariants as supply
use Rattle.prepare.specs.declared.context.BlankedBlock.TheVariants.{Outside}
use Rattle.prepare.specs.declared.context.Context.{Context}
use Rattle.prepare.specs.declared.stretch.StretchForm.{StretchForm}
use Rattle.prepare.specs.declared.stretch.StretchForm.TheVariants as form
use Rattle.prepare.specs.Roles.{is_block_word, role}
use Rattle.prepare.specs.Contexts.{written, is_blanked, behind, start}
use Rattle.prepare.specs.Written.{Written}
use Rattle.prepare.specs.Stretches.{string_end, string_or_rest, broken, found_or, lexeme_at, form_outside, stretch, last_stretch, on_lexeme, stretches_by, stretches}
use Rattle.prepare.specs.Spelling.{blank, unbroken, divider, shown, spelled}
use Rattle.prepare.specs.Blocks.{is_blank_form}
use Rattle.prepare.specs.Laws.{source, sources, is_token, has_tokens_alone, supplied, kept, Standing, all_on, line_from, written_from, standing}
use Rattle.prepare.proofs.Turning.{at_lexeme}
use Rattle.prepare.proofs.Blocks.{outside_kept}
use Rattle.prepare.proofs.Lines.{feeds, feeds-append, blanks_feeds, filter_feeds, unbroken_feeds}
use Rattle.prepare.proofs.Plain.{sources_are, shown_stays, unbroken_stays, not_true}
use Rattle.prepare.proofs.Needs.{no_feed, form_stays}
use Rattle.prepare.proofs.Stays.{Fits, head, is_soft, stop_now, next_stays}
use Rattle.prepare.proofs.Softly.{Follows, skip_stays, Least, next_fresher, least_from, skip_head, token_head, none_head, blank_skipped}
use Rattle.prepare.proofs.Joining.{joined_end, EndsAt, ends_at}

-- a scan finds just this lexeme
record IsScanned (f : Bool) (q back : List ℕ) (k : Lexeme) : Type 0 where
  some : 0 < length q
  found : next f (q ++ back) ≡ Some (length q, k)

some_longer : (q back : List ℕ) → 0 < length q → 0 < length (q ++ back)
some_longer [] back h = absurd (omega arith)
some_longer (b ∷ q) back h = omega arith

longest_at : (f : Bool) (q back : List ℕ) (k : Lexeme) → IsNextAt f (q ++ back) (length q) k → IsLongest f (q ++ back) q × (lexeme f q ≡ Some k)
longest_at f q back k n = (
  subst (IsLongest f (q ++ back)) (take-append_seam q back) n.longest,
  ap (lexeme f) (sym (take-append_seam q back)) ∙ n.spells,
)

longest : (f : Bool) (q back : List ℕ) (k : Lexeme) → IsScanned f q back k → IsLongest f (q ++ back) q × (lexeme f q ≡ Some k)
longest f q back k h = longest_at f q back k (subst (IsNext f (q ++ back)) h.found (next_is f (q ++ back) (some_longer q back h.some)))

scanned_again : (f : Bool) (q back back' : List ℕ) (k : Lexeme) → Fits k back back' → IsScanned f q back k → IsScanned f q back' k
scanned_again f q back back' k fits h = record { some = h.some; found = next_stays f q back back' k h.some fits h.found }

skipped_again : (f : Bool) (q back back' : List ℕ) → Follows back back' → IsScanned f q back Skipped → IsScanned f q back' Skipped
skipped_again f q back back' follows h = record { some = h.some; found = skip_stays f q back back' h.some follows h.found }

fresher : (f f' : Bool) (q back : List ℕ) (k : Lexeme) → Least f f' → IsScanned f q back k → IsScanned f' q back k
fresher f f' q back k l h = record { some = h.some; found = next_fresher f f' (q ++ back) (length q, k) l h.found }

-- lexemes of a gap, which are skipped
Skips : Bool → List (List ℕ) → List ℕ → Type 0
Skips f [] rest = Unit {0}
Skips f (g ∷ gs) rest = IsScanned f g (concat gs ++ rest) Skipped × Skips (fresh_from f g) gs rest

ends_same : (gs : List (List ℕ)) (f : Bool) (rest rest' : List ℕ) → Follows rest rest' → Skips f gs rest → Follows (concat gs ++ rest) (concat gs ++ rest')
unfolding Skips
ends_same [] f rest rest' e h = e
ends_same ([] ∷ gs) f rest rest' e h = let none : 0 < 0 = h.0.some in absurd (omega arith)
ends_same ((b ∷ g) ∷ gs) f rest rest' e h = inl refl

skips_again : (gs : List (List ℕ)) (f : Bool) (rest rest' : List ℕ) → Follows rest rest' → Skips f gs rest → Skips f gs rest'
unfolding Skips
skips_again [] f rest rest' e h = tt
skips_again (g ∷ gs) f rest rest' e h =
    (skipped_again f g (concat gs ++ rest) (concat gs ++ rest') (ends_same gs (fresh_from f g) rest rest' e h.1) h.0, skips_again gs (fresh_from f g) rest rest' e h.1)

-- lexemes of a text behind `before`, and the tokens among them, each on its line
record Cut (before text : List ℕ) (ts : List Standing) : Type 0 where
  lexemes : List (List ℕ)
  divides : Divides before lexemes text
  are : standing (words before lexemes) ≡ ts

one_more : (before q back : List ℕ) (k : Lexeme) (ts : List Standing) → IsScanned (is_fresh before) q back k → Cut (before ++ q) back ts → Cut before (q ++ back) (standing (word (Some k) q (line_behind before)) ++ ts)
one_more before q back k ts h c =
    let l = longest (is_fresh before) q back k h in
    record {
      lexemes = q ∷ c.lexemes;
      divides = (l.0, subst (Divides (before ++ q) c.lexemes) (sym (drop-append_seam q back)) c.divides);
      are = ap (λ (o : Option Lexeme). standing (word o q (line_behind before) ++ words (before ++ q) c.lexemes)) l.1 ∙ joined k q c;
    }
  where
    joined : (k : Lexeme) (q : List ℕ) (c : Cut (before ++ q) back ts) → standing (word (Some k) q (line_behind before) ++ words (before ++ q) c.lexemes) ≡ standing (word (Some k) q (line_behind before)) ++ ts
    joined Skipped q c = c.are
    joined (Token x) q c = ap (λ (us : List Standing). record { text = q; line = line_behind before } ∷ us) c.are

one_skipped : (before q back : List ℕ) (ts : List Standing) → IsScanned (is_fresh before) q back Skipped → Cut (before ++ q) back ts → Cut before (q ++ back) ts
one_skipped before q back ts h c = one_more before q back Skipped ts h c

abbrev at : List ℕ → ℕ → Standing
at q n = record { text = q; line = n }

one_token : (before q back : List ℕ) (x : Kind) (n : ℕ) (ts : List Standing) → IsScanned (is_fresh before) q back (Token x) → line_behind before ≡ n → Cut (before ++ q) back ts → Cut before (q ++ back) (at q n ∷ ts)
one_token before q back x n ts h line c = subst (λ (m : ℕ). Cut before (q ++ back) (at q m ∷ ts)) line (one_more before q back (Token x) ts h c)

over_gap : (gs : List (List ℕ)) (f : Bool) (before rest : List ℕ) (ts : List Standing) → Least f (is_fresh before) → Skips f gs rest → Cut (before ++ concat gs) rest ts → Cut before (concat gs ++ rest) ts
unfolding Skips
over_gap [] f before rest ts l h c = subst (λ (b : List ℕ). Cut b rest ts) (append-nil before) c
over_gap (g ∷ gs) f before rest ts l h c =
    let more : Least (fresh_from f g) (is_fresh (before ++ g)) = subst (Least (fresh_from f g)) (sym (fresh_from-append true before g)) (least_from g f (is_fresh before) l) in
    subst (λ (t : List ℕ). Cut before t ts) (sym (append_assoc g (concat gs) rest))
    (one_skipped before g (concat gs ++ rest) ts (fresher f (is_fresh before) g (concat gs ++ rest) Skipped l h.0)
    (over_gap gs (fresh_from f g) (before ++ g) rest ts more h.1 (subst (λ (b : List ℕ). Cut b rest ts) (sym (append_assoc before g (concat gs))) c)))

-- bytes that are blanks are skipped
over_blanks : (q before rest : List ℕ) (ts : List Standing) → list_all is_blank q ≡ true → Cut (before ++ q) rest ts → Cut before (q ++ rest) ts
over_blanks [] before rest ts h c = subst (λ (b : List ℕ). Cut b rest ts) (append-nil before) c
over_blanks (b ∷ q) before rest ts h c =
    one_skipped before (b ∷ []) (q ++ rest) ts (record { some = omega arith; found = blank_skipped (is_fresh before) b (q ++ rest) (and_left (is_blank b) (list_all is_blank q) h) })
    (over_blanks q (before ++ b ∷ []) rest ts (and_right (is_blank b) (list_all is_blank q) h) (subst (λ (x : List ℕ). Cut x rest ts) (sym (append_assoc before (b ∷ []) q)) c))
  where
    and_left : (a b : Bool) → (a && b) ≡ true → a ≡ true
    and_left true b h = refl
    and_left false b h = h

    and_right : (a b : Bool) → (a && b) ≡ true → b ≡ true
    and_right true b h = h
    and_right false b h = absurd (false≢true h)

blank_by : (t u : Bool) (b : ℕ) → (b == 10) ≡ t → (b == 12) ≡ u → is_blank (cond (t || u) b 32) ≡ true
blank_by true u b e h = let same : b ≡ 10 = grind (arith, nat_tests) in ap is_blank same
blank_by false true b e h = let same : b ≡ 12 = grind (arith, nat_tests) in ap is_blank same
blank_by false false b e h = refl

are_blanks : (q : List ℕ) → list_all is_blank (map blank q) ≡ true
are_blanks [] = refl
are_blanks (b ∷ q) = ap (λ (t : Bool). t && list_all is_blank (map blank q)) (blank_by (b == 10) (b == 12) b refl refl) ∙ are_blanks q

feeds_are_blanks : (q : List ℕ) → list_all is_blank (filter is_line_feed q) ≡ true
feeds_are_blanks [] = refl
feeds_are_blanks (b ∷ q) = feed_by (is_line_feed b) b (filter is_line_feed q) refl (feeds_are_blanks q)
  where
    feed_by : (t : Bool) (b : ℕ) (r : List ℕ) → is_line_feed b ≡ t → list_all is_blank r ≡ true → list_all is_blank (cond t (b ∷ r) r) ≡ true
    feed_by true b r e h = let same : b ≡ 10 = grind (arith, nat_tests) in ap (λ (x : ℕ). is_blank x && list_all is_blank r) same ∙ h
    feed_by false b r e h = h

-- a token that is written as it is
record Stays (f : Bool) (t : Written) (back : List ℕ) : Type 0 where
  sort : Kind
  scanned : IsScanned f t.token back (Token sort)
  keeps : same_kind sort kind.LeftOut ≡ false
  same : shown t.form t.token ≡ t.token
  single : kept t.form t.token ≡ t.token ∷ []

-- one of a block
record Blanks (t : Written) : Type 0 where
  is : t.form ≡ form.Blanked
  first : ℕ
  others : List ℕ
  bytes : t.token ≡ first ∷ others
  black : is_blank first ≡ false

-- a string that is read to its end
record Joins (t : Written) : Type 0 where
  is : t.form ≡ form.Joined
  others : List ℕ
  bytes : t.token ≡ 34 ∷ others
  ends : string_end 1 false others ≡ Some (1 + length others)

abbrev Shows : Bool → Written → List ℕ → Type 0
Shows f t back = (Stays f t back ⊎ Blanks t) ⊎ Joins t

-- a stretch of a text, without the lexeme-wise reading of what is behind it
record ParsedStretch (f : Bool) (t : Written) (us : List Written) : Type 0 where
  gaps : List (List ℕ)
  joins : concat gaps ≡ t.gap
  skips : Skips f gaps (t.token ++ sources us)
  shows : Shows (fresh_from f t.gap) t (sources us)
  behind_token : (t.supply ≡ supply.Nothing) ⊎ (f ≡ false)

record ParsedEnd (f : Bool) (t : Written) : Type 0 where
  gaps : List (List ℕ)
  joins : concat gaps ≡ t.gap
  skips : Skips f gaps []
  nothing : t.supply ≡ supply.Nothing
  none : t.token ≡ []
  same : shown t.form t.token ≡ []

Parsed : Bool → List Written → Type 0
Parsed f [] = ⊥
Parsed f (t ∷ []) = ParsedEnd f t
Parsed f (t ∷ u ∷ us) = ParsedStretch f t (u ∷ us) × Parsed false (u ∷ us)

black_blanked : (b : ℕ) → is_blank b ≡ false → blank b ≡ 32
black_blanked b h = blanked (b == 10) (b == 12) b refl refl h
  where
    blanked : (t u : Bool) (b : ℕ) → (b == 10) ≡ t → (b == 12) ≡ u → is_blank b ≡ false → cond (t || u) b 32 ≡ 32
    blanked true u b e g h = let same : b ≡ 10 = grind (arith, nat_tests) in absurd (false≢true (sym h ∙ ap is_blank same))
    blanked false true b e g h = let same : b ≡ 12 = grind (arith, nat_tests) in absurd (false≢true (sym h ∙ ap is_blank same))
    blanked false false b e g h = refl

black_feeds : (b : ℕ) → is_blank b ≡ false → is_line_feed b ≡ false
black_feeds b h = no_feed_by (is_line_feed b) b refl h
  where
    no_feed_by : (t : Bool) (b : ℕ) → is_line_feed b ≡ t → is_blank b ≡ false → t ≡ false
    no_feed_by true b e h = let same : b ≡ 10 = grind (arith, nat_tests) in absurd (false≢true (sym h ∙ ap is_blank same))
    no_feed_by false b e h = refl

first_quote : (q : List ℕ) → unbroken false (34 ∷ q) ≡ 34 ∷ unbroken false q
unfolding unbroken
first_quote q = refl

token_heads : (t x y : List ℕ) → 0 < length t → head (t ++ x) ≡ head (t ++ y)
token_heads [] x y h = absurd (omega arith)
token_heads (b ∷ t) x y h = refl

-- what is written of a token begins as it does, or with a blank where it begins with none
stays_head : (f : Bool) (t : Written) (back x y : List ℕ) → Stays f t back → head (t.token ++ x) ≡ head (shown t.form t.token ++ y)
stays_head f t back x y h = token_heads t.token x y h.scanned.some ∙ ap (λ (q : List ℕ). head (q ++ y)) (sym h.same)

joins_head : (t : Written) (x y : List ℕ) → Joins t → head (t.token ++ x) ≡ head (shown t.form t.token ++ y)
joins_head t x y h =
    ap (λ (q : List ℕ). head (q ++ x)) h.bytes
    ∙ sym (ap (λ (g : StretchForm). head (shown g t.token ++ y)) h.is ∙ ap (λ (q : List ℕ). head (shown form.Joined q ++ y)) h.bytes ∙ ap (λ (q : List ℕ). head ((q ++ filter is_line_feed (34 ∷ h.others)) ++ y)) (first_quote h.others))

blanks_head : (t : Written) (y : List ℕ) → Blanks t → head (shown t.form t.token ++ y) ≡ Some 32
blanks_head t y h = ap (λ (g : StretchForm). head (shown g t.token ++ y)) h.is ∙ ap (λ (q : List ℕ). head (map blank q ++ y)) h.bytes ∙ ap Some (black_blanked h.first h.black)

token_follows : (f : Bool) (t : Written) (back x y : List ℕ) → Shows f t back → Follows (t.token ++ x) (shown t.form t.token ++ y)
token_follows f t back x y shows =
    ⊎_elim (λ (s : Stays f t back ⊎ Blanks t).
    ⊎_elim (λ (h : Stays f t back). let r : Follows (t.token ++ x) (shown t.form t.token ++ y) = inl (stays_head f t back x y h) in r)
    (λ (h : Blanks t). let r : Follows (t.token ++ x) (shown t.form t.token ++ y) = inr (h.first, ap (λ (q : List ℕ). head (q ++ x)) h.bytes, black_feeds h.first h.black) in r) s)
    (λ (h : Joins t). let r : Follows (t.token ++ x) (shown t.form t.token ++ y) = inl (joins_head t x y h) in r) shows

token_fits : (k : Kind) (f : Bool) (t : Written) (back x y : List ℕ) → same_kind k kind.LeftOut ≡ false → Shows f t back → Fits (Token k) (t.token ++ x) (shown t.form t.token ++ y)
token_fits k f t back x y keeps shows =
    ⊎_elim (λ (s : Stays f t back ⊎ Blanks t).
    ⊎_elim (λ (h : Stays f t back). let r : Fits (Token k) (t.token ++ x) (shown t.form t.token ++ y) = inl (stays_head f t back x y h) in r)
    (λ (h : Blanks t). let r : Fits (Token k) (t.token ++ x) (shown t.form t.token ++ y) = inr (k, refl, keeps, ap is_soft (blanks_head t y h)) in r) s)
    (λ (h : Joins t). let r : Fits (Token k) (t.token ++ x) (shown t.form t.token ++ y) = inl (joins_head t x y h) in r) shows

front_fits : (k : Kind) (s : Supply) (gap x y : List ℕ) → same_kind k kind.LeftOut ≡ false → Fits (Token k) x y → Fits (Token k) (gap ++ x) ((written s ++ divider s gap) ++ (gap ++ y))
front_fits k supply.Nothing [] x y keeps h = h
front_fits k supply.Nothing (b ∷ g) x y keeps h = inl refl
front_fits k supply.Separator gap x y keeps h = inr (k, refl, keeps, refl)
front_fits k supply.Skip [] x y keeps h = inr (k, refl, keeps, refl)
front_fits k supply.Skip (b ∷ g) x y keeps h = inr (k, refl, keeps, refl)

spelled_is : (t : Written) (us : List Written) → spelled (t ∷ us) ≡ (written t.supply ++ divider t.supply t.gap) ++ (t.gap ++ (shown t.form t.token ++ spelled us))
spelled_is t us =
    append_assoc (written t.supply ++ divider t.supply t.gap) (t.gap ++ shown t.form t.token) (spelled us) ∙ ap (λ (x : List ℕ). (written t.supply ++ divider t.supply t.gap) ++ x) (append_assoc t.gap (shown t.form t.token) (spelled us))

-- what is written of the stretches behind a token begins as they do, or softly
fits_next : (k : Kind) (us : List Written) → same_kind k kind.LeftOut ≡ false → Parsed false us → Fits (Token k) (sources us) (spelled us)
unfolding Parsed
fits_next k [] keeps h = absurd h
fits_next k (u ∷ []) keeps h =
    let one : sources (u ∷ []) ≡ u.gap ++ [] = append-nil (u.gap ++ u.token) ∙ ap (λ (x : List ℕ). u.gap ++ x) h.none in
    let two : spelled (u ∷ []) ≡ (written u.supply ++ divider u.supply u.gap) ++ (u.gap ++ []) = append-nil _ ∙ ap (λ (x : List ℕ). (written u.supply ++ divider u.supply u.gap) ++ (u.gap ++ x)) h.same in
    subst (λ (x : List ℕ). Fits (Token k) x (spelled (u ∷ []))) (sym one) (subst (Fits (Token k) (u.gap ++ [])) (sym two) (front_fits k u.supply u.gap [] [] keeps (inl refl)))
fits_next k (u ∷ v ∷ us) keeps h =
    let one : sources (u ∷ v ∷ us) ≡ u.gap ++ (u.token ++ sources (v ∷ us)) = append_assoc u.gap u.token (sources (v ∷ us)) in
    subst (λ (x : List ℕ). Fits (Token k) x (spelled (u ∷ v ∷ us))) (sym one)
    (subst (Fits (Token k) (u.gap ++ (u.token ++ sources (v ∷ us)))) (sym (spelled_is u (v ∷ us)))
    (front_fits k u.supply u.gap (u.token ++ sources (v ∷ us)) (shown u.form u.token ++ spelled (v ∷ us)) keeps
    (token_fits k (fresh_from false u.gap) u (sources (v ∷ us)) (sources (v ∷ us)) (spelled (v ∷ us)) keeps h.0.shows)))

semicolon : (f : Bool) (back : List ℕ) → IsScanned f (codes ";") back (Token kind.Semicolon)
unfolding next
semicolon f [] = record { some = omega arith; found = refl }
semicolon f (h ∷ r) = record { some = omega arith; found = refl }

skip_kind : Kind
skip_kind = word_kind (codes "skip")

skip_size : (f : Bool) (back : List ℕ) → prefix_len is_name_byte back ≡ 0 → next f (codes "skip" ++ back) ≡ Some (4, Token skip_kind)
unfolding next skip_kind
skip_size f back h =
    ap (λ (n : ℕ). let r : Found = Some (1 + (1 + (1 + (1 + n))), Token (word_kind (115 ∷ take (1 + (1 + (1 + n))) (codes "kip" ++ back)))) in r) h

skip_word : (f : Bool) (back : List ℕ) → prefix_len is_name_byte back ≡ 0 → IsScanned f (codes "skip") back (Token skip_kind)
skip_word f back h = record { some = omega arith; found = skip_size f back h }

nothing_left : (before : List ℕ) → Cut before [] []
nothing_left before = record { lexemes = []; divides = refl; are = refl }

line_on : (before q : List ℕ) (n : ℕ) → line_behind before ≡ n → line_behind (before ++ q) ≡ line_from n q
line_on before q n e = let a = feeds-append before q in omega arith

same_line : (before q : List ℕ) (n : ℕ) → feeds q ≡ 0 → line_behind before ≡ n → line_behind (before ++ q) ≡ n
same_line before q n none e = let a = feeds-append before q in omega arith

-- what every text behind a token gives, where its lines are known
abbrev Gives : List Written → Type 0
Gives us = (b : List ℕ) (m : ℕ) → line_behind b ≡ m → Cut b (spelled us) (written_from m us)

-- the token of a stretch
over_stays : (f : Bool) (t : Written) (us : List Written) (before : List ℕ) (n : ℕ) → Stays f t (sources us) → Parsed false us → Least f (is_fresh before) → line_behind before ≡ n
    → Gives us → Cut before (shown t.form t.token ++ spelled us) (all_on n (kept t.form t.token) ++ written_from (line_from n t.token) us)
over_stays f t us before n h more l line go =
    let scan : IsScanned f t.token (spelled us) (Token h.sort) = scanned_again f t.token (sources us) (spelled us) (Token h.sort) (fits_next h.sort us h.keeps more) h.scanned in
    let token : Cut before (t.token ++ spelled us) (at t.token n ∷ written_from (line_from n t.token) us) =
    one_token before t.token (spelled us) h.sort n (written_from (line_from n t.token) us) (fresher f (is_fresh before) t.token (spelled us) (Token h.sort) l scan) line (go (before ++ t.token) (line_from n t.token) (line_on before t.token n line)) in
    subst (λ (x : List ℕ). Cut before (x ++ spelled us) (all_on n (kept t.form t.token) ++ written_from (line_from n t.token) us)) (sym h.same)
    (subst (λ (x : List (List ℕ)). Cut before (t.token ++ spelled us) (all_on n x ++ written_from (line_from n t.token) us)) (sym h.single) token)

over_blanked : (t : Written) (us : List Written) (before : List ℕ) (n : ℕ) → Blanks t → line_behind before ≡ n
    → Gives us → Cut before (shown t.form t.token ++ spelled us) (all_on n (kept t.form t.token) ++ written_from (line_from n t.token) us)
over_blanked t us before n h line go =
    let behind_blanks : line_behind (before ++ map blank t.token) ≡ line_from n t.token = line_on before (map blank t.token) n line ∙ ap (λ (m : ℕ). n + m) (blanks_feeds t.token) in
    subst (λ (g : StretchForm). Cut before (shown g t.token ++ spelled us) (all_on n (kept g t.token) ++ written_from (line_from n t.token) us)) (sym h.is)
    (over_blanks (map blank t.token) before (spelled us) (written_from (line_from n t.token) us) (are_blanks t.token) (go (before ++ map blank t.token) (line_from n t.token) behind_blanks))

quoted_size : (q back : List ℕ) → string_end 1 false q ≡ Some (1 + length q) → (f : Bool) → next f ((34 ∷ unbroken false q) ++ back) ≡ Some (length (34 ∷ unbroken false q), Token kind.Quoted)
unfolding next
quoted_size q back h f =
    ap (λ (o : Option ℕ). option_map (λ (n : ℕ). let r : ℕ × Lexeme = (n, Token kind.Quoted) in r) o) (joined_end q 1 (1 + length q) 1 back h refl)
    ∙ (let len : 1 + length (unbroken false q) ≡ length (34 ∷ unbroken false q) = omega arith in ap (λ (n : ℕ). let r : Found = Some (n, Token kind.Quoted) in r) len)

over_joined : (t : Written) (us : List Written) (before : List ℕ) (n : ℕ) → Joins t → line_behind before ≡ n
    → Gives us → Cut before (shown t.form t.token ++ spelled us) (all_on n (kept t.form t.token) ++ written_from (line_from n t.token) us)
over_joined t us before n h line go =
    subst (λ (g : StretchForm). Cut before (shown g t.token ++ spelled us) (all_on n (kept g t.token) ++ written_from (line_from n t.token) us)) (sym h.is)
    (subst (λ (q : List ℕ). Cut before (shown form.Joined q ++ spelled us) (all_on n (kept form.Joined q) ++ written_from (line_from n q) us)) (sym h.bytes)
    (string (34 ∷ h.others) (34 ∷ unbroken false h.others) (filter is_line_feed (34 ∷ h.others)) (first_quote h.others) (λ back f. quoted_size h.others back h.ends f) (omega arith) (feeds_are_blanks (34 ∷ h.others)) (no_feeds (34 ∷ h.others)) (filter_feeds (34 ∷ h.others))))
  where
    no_feeds : (q : List ℕ) → feeds (unbroken false q) ≡ 0
    no_feeds q = unbroken_feeds false q

    string : (q u ends : List ℕ) → unbroken false q ≡ u → ((back : List ℕ) (f : Bool) → next f (u ++ back) ≡ Some (length u, Token kind.Quoted)) → 0 < length u → list_all is_blank ends ≡ true → feeds (unbroken false q) ≡ 0 → feeds ends ≡ feeds q
        → Cut before ((unbroken false q ++ ends) ++ spelled us) (at (unbroken false q) n ∷ written_from (line_from n q) us)
    string q u ends e scan some blanks none same =
        let middle : line_behind (before ++ u) ≡ n = line_on before u n line ∙ (let x : feeds u ≡ 0 = ap feeds (sym e) ∙ none in omega arith) in
        let last : line_behind ((before ++ u) ++ ends) ≡ line_from n q = line_on (before ++ u) ends n middle ∙ ap (λ (m : ℕ). n + m) same in
        let token : Cut before (u ++ (ends ++ spelled us)) (at u n ∷ written_from (line_from n q) us) =
        one_token before u (ends ++ spelled us) kind.Quoted n (written_from (line_from n q) us) (record { some = some; found = scan (ends ++ spelled us) (is_fresh before) }) line
        (over_blanks ends (before ++ u) (spelled us) (written_from (line_from n q) us) blanks (go ((before ++ u) ++ ends) (line_from n q) last)) in
        subst (λ (x : List ℕ). Cut before ((x ++ ends) ++ spelled us) (at x n ∷ written_from (line_from n q) us)) (sym e)
        (subst (λ (x : List ℕ). Cut before x (at u n ∷ written_from (line_from n q) us)) (sym (append_assoc u ends (spelled us))) token)

over_token : (f : Bool) (t : Written) (us : List Written) (before : List ℕ) (n : ℕ) → Shows f t (sources us) → Parsed false us → Least f (is_fresh before) → line_behind before ≡ n
    → Gives us → Cut before (shown t.form t.token ++ spelled us) (all_on n (kept t.form t.token) ++ written_from (line_from n t.token) us)
over_token f t us before n shows more l line go =
    ⊎_elim (λ (s : Stays f t (sources us) ⊎ Blanks t).
    ⊎_elim (λ (h : Stays f t (sources us)). over_stays f t us before n h more l line go) (λ (h : Blanks t). over_blanked t us before n h line go) s)
    (λ (h : Joins t). over_joined t us before n h line go) shows

source_line : (t : Written) (n : ℕ) → line_from (line_from n t.gap) t.token ≡ line_from n (source t)
source_line t n = let a = feeds-append t.gap t.token in omega arith

-- a gap and its token
over_stretch : (f : Bool) (t : Written) (us : List Written) (before : List ℕ) (n : ℕ) → ParsedStretch f t us → Parsed false us → Least f (is_fresh before) → line_behind before ≡ n
    → Gives us → Cut before (t.gap ++ (shown t.form t.token ++ spelled us)) (all_on (line_from n t.gap) (kept t.form t.token) ++ written_from (line_from n (source t)) us)
over_stretch f t us before n h more l line go =
    let rest = shown t.form t.token ++ spelled us in
    let ts = all_on (line_from n t.gap) (kept t.form t.token) ++ written_from (line_from (line_from n t.gap) t.token) us in
    let gap_line : line_behind (before ++ concat h.gaps) ≡ line_from n t.gap = line_on before (concat h.gaps) n line ∙ ap (line_from n) h.joins in
    let less : Least (fresh_from f t.gap) (is_fresh (before ++ concat h.gaps)) =
    subst (Least (fresh_from f t.gap)) (sym (fresh_from-append true before (concat h.gaps) ∙ ap (fresh_from (is_fresh before)) h.joins)) (least_from t.gap f (is_fresh before) l) in
    let token : Cut (before ++ concat h.gaps) rest ts = over_token (fresh_from f t.gap) t us (before ++ concat h.gaps) (line_from n t.gap) h.shows more less gap_line go in
    let skips : Skips f h.gaps rest = skips_again h.gaps f (t.token ++ sources us) rest (token_follows (fresh_from f t.gap) t (sources us) (sources us) (spelled us) h.shows) h.skips in
    subst (λ (m : ℕ). Cut before (t.gap ++ rest) (all_on (line_from n t.gap) (kept t.form t.token) ++ written_from m us)) (source_line t n)
    (subst (λ (g : List ℕ). Cut before (g ++ rest) ts) h.joins (over_gap h.gaps f before rest ts l skips token))

-- a gap that begins a skipped lexeme begins with no byte of a name
gap_head : (f : Bool) (gs : List (List ℕ)) (rest : List ℕ) → Skips f gs rest → (b : ℕ) (g : List ℕ) → concat gs ≡ b ∷ g → is_name_byte b ≡ false
unfolding Skips
gap_head f [] rest h b g e = cc
gap_head f ([] ∷ gs) rest h b g e = let none : 0 < 0 = h.0.some in absurd (omega arith)
gap_head f ((a ∷ q) ∷ gs) rest h b g e =
    let same : a ≡ b = cc in
    ap is_name_byte (sym same) ∙ skip_head f a (q ++ (concat gs ++ rest)) (length (a ∷ q)) h.0.found

-- what is supplied before it
with_skip : (gap : List ℕ) (before rest : List ℕ) (n : ℕ) (ts : List Standing) → ((b : ℕ) (g : List ℕ) → gap ≡ b ∷ g → is_name_byte b ≡ false) → line_behind before ≡ n
    → ((b : List ℕ) → line_behind b ≡ n → Cut b (gap ++ rest) ts) → Cut before ((codes " skip" ++ divider supply.Skip gap) ++ (gap ++ rest)) (at (codes "skip") n ∷ ts)
with_skip [] before rest n ts h line go =
    let one : line_behind (before ++ codes " ") ≡ n = same_line before (codes " ") n refl line in
    let two : line_behind ((before ++ codes " ") ++ codes "skip") ≡ n = same_line (before ++ codes " ") (codes "skip") n refl one in
    let three : line_behind (((before ++ codes " ") ++ codes "skip") ++ codes " ") ≡ n = same_line ((before ++ codes " ") ++ codes "skip") (codes " ") n refl two in
    over_blanks (codes " ") before (codes "skip" ++ (codes " " ++ rest)) (at (codes "skip") n ∷ ts) refl
    (one_token (before ++ codes " ") (codes "skip") (codes " " ++ rest) skip_kind n ts (skip_word (is_fresh (before ++ codes " ")) (codes " " ++ rest) refl) one
    (over_blanks (codes " ") ((before ++ codes " ") ++ codes "skip") rest ts refl (go (((before ++ codes " ") ++ codes "skip") ++ codes " ") three)))
with_skip (b ∷ g) before rest n ts h line go =
    let one : line_behind (before ++ codes " ") ≡ n = same_line before (codes " ") n refl line in
    let two : line_behind ((before ++ codes " ") ++ codes "skip") ≡ n = same_line (before ++ codes " ") (codes "skip") n refl one in
    over_blanks (codes " ") before (codes "skip" ++ ((b ∷ g) ++ rest)) (at (codes "skip") n ∷ ts) refl
    (one_token (before ++ codes " ") (codes "skip") ((b ∷ g) ++ rest) skip_kind n ts (skip_word (is_fresh (before ++ codes " ")) ((b ∷ g) ++ rest) (stop_now is_name_byte ((b ∷ g) ++ rest) (h b g refl))) one
    (go ((before ++ codes " ") ++ codes "skip") two))

with_supply : (s : Supply) (gap before rest : List ℕ) (f : Bool) (n : ℕ) (ts : List Standing) → ((b : ℕ) (g : List ℕ) → gap ≡ b ∷ g → is_name_byte b ≡ false) → Least f (is_fresh before) → ((s ≡ supply.Nothing) ⊎ (f ≡ false)) → line_behind before ≡ n
    → ((b : List ℕ) → Least f (is_fresh b) → line_behind b ≡ n → Cut b (gap ++ rest) ts) → Cut before ((written s ++ divider s gap) ++ (gap ++ rest)) (all_on n (supplied s) ++ ts)
with_supply supply.Nothing gap before rest f n ts h l stale line go = go before l line
with_supply supply.Separator gap before rest f n ts h l stale line go =
    ⊎_elim (λ (e : supply.Separator ≡ supply.Nothing). cc)
    (λ (e : f ≡ false).
    one_token before (codes ";") (gap ++ rest) kind.Semicolon n ts (semicolon (is_fresh before) (gap ++ rest)) line
    (go (before ++ codes ";") (λ x. absurd (false≢true (sym e ∙ x))) (same_line before (codes ";") n refl line))) stale
with_supply supply.Skip gap before rest f n ts h l stale line go =
    ⊎_elim (λ (e : supply.Skip ≡ supply.Nothing). cc) (λ (e : f ≡ false). with_skip gap before rest n ts h line (λ b x. go b (λ y. absurd (false≢true (sym e ∙ y))) x)) stale

over_stretches : (us : List Written) (f : Bool) → Parsed f us → (before : List ℕ) (n : ℕ) → Least f (is_fresh before) → line_behind before ≡ n → Cut before (spelled us) (written_from n us)
unfolding Parsed
over_stretches [] f h before n l line = absurd h
over_stretches (t ∷ []) f h before n l line =
    let gap : Cut before (concat h.gaps ++ []) [] = over_gap h.gaps f before [] [] l h.skips (nothing_left (before ++ concat h.gaps)) in
    let text : spelled (t ∷ []) ≡ concat h.gaps ++ [] =
    append-nil _ ∙ ap (λ (s : Supply). (written s ++ divider s t.gap) ++ (t.gap ++ shown t.form t.token)) h.nothing ∙ ap (λ (x : List ℕ). t.gap ++ x) h.same ∙ ap (λ (g : List ℕ). g ++ []) (sym h.joins) in
    subst (λ (x : List ℕ). Cut before x (all_on n (supplied t.supply))) (sym text) (subst (λ (s : Supply). Cut before (concat h.gaps ++ []) (all_on n (supplied s))) (sym h.nothing) gap)
over_stretches (t ∷ u ∷ us) f h before n l line =
    let rest = shown t.form t.token ++ spelled (u ∷ us) in
    let ts = all_on (line_from n t.gap) (kept t.form t.token) ++ written_from (line_from n (source t)) (u ∷ us) in
    subst (λ (x : List ℕ). Cut before x (all_on n (supplied t.supply) ++ ts)) (sym (spelled_is t (u ∷ us)))
    (with_supply t.supply t.gap before rest f n ts (λ b g e. gap_head f h.0.gaps (t.token ++ sources (u ∷ us)) h.0.skips b g (h.0.joins ∙ e)) l h.0.behind_token line
    (λ b less x. over_stretch f t (u ∷ us) b n h.0 h.1 less x (λ c m y. over_stretches (u ∷ us) false h.1 c m (λ z. absurd (false≢true z)) y)))

snoc : (gs : List (List ℕ)) (f : Bool) (q rest : List ℕ) → Skips f gs (q ++ rest) → IsScanned (fresh_from f (concat gs)) q rest Skipped → Skips f (gs ++ q ∷ []) rest
unfolding Skips
snoc [] f q rest h s = (s, tt)
snoc (g ∷ gs) f q rest h s =
    (subst (λ (x : List ℕ). IsScanned f g x Skipped) (sym (joined gs)) h.0, snoc gs (fresh_from f g) q rest h.1 (subst (λ (x : Bool). IsScanned x q rest Skipped) (fresh_from-append f g (concat gs)) s))
  where
    joined : (xs : List (List ℕ)) → concat (xs ++ q ∷ []) ++ rest ≡ concat xs ++ (q ++ rest)
    joined [] = ap (λ (x : List ℕ). x ++ rest) (append-nil q)
    joined (x ∷ xs) = append_assoc x (concat (xs ++ q ∷ [])) rest ∙ ap (λ (y : List ℕ). x ++ y) (joined xs) ∙ sym (append_assoc x (concat xs) (q ++ rest))

concat_snoc : (gs : List (List ℕ)) (q : List ℕ) → concat (gs ++ q ∷ []) ≡ concat gs ++ q
concat_snoc [] q = append-nil q
concat_snoc (g ∷ gs) q = ap (λ (x : List ℕ). g ++ x) (concat_snoc gs q) ∙ sym (append_assoc g (concat gs) q)

cons : (f : Bool) (t : Written) (us : List Written) → ParsedStretch f t us → Parsed false us → Parsed f (t ∷ us)
unfolding Parsed
cons f t [] h more = absurd more
cons f t (u ∷ us) h more = (h, more)

ended : (f : Bool) (gs : List (List ℕ)) (gap : List ℕ) → concat gs ≡ gap → Skips f gs [] → Parsed f (last_stretch gap ∷ [])
unfolding Parsed
ended f gs gap e s = record { gaps = gs; joins = e; skips = s; nothing = refl; none = refl; same = refl }

at_end : (fuel : ℕ) (fresh f : Bool) (p : Context) (gs : List (List ℕ)) → Skips f gs [] → Parsed f (stretches_by fuel fresh p (concat gs) [])
unfolding stretches_by
at_end zero fresh f p gs s = ended f gs (concat gs ++ []) (sym (append-nil (concat gs))) s
at_end (suc fuel) fresh f p gs s = ended f gs (concat gs) refl s

nothing_by : (t : Bool) (s : Supply) → s ≡ supply.Nothing → cond t supply.Nothing s ≡ supply.Nothing
nothing_by true s e = refl
nothing_by false s e = e

first_nothing : (p : Context) (k : Kind) (gap t : List ℕ) → p ≡ start → (stretch p k gap t).supply ≡ supply.Nothing
unfolding stretch
first_nothing p k gap t e = ap (λ (x : Context). (stretch x k gap t).supply) e ∙ nothing_by (is_blanked Outside (role k t)) _ refl

kept_outside : (r : TokenRole) (t : List ℕ) → list_any is_line_feed t ≡ false → kept (form_outside r) t ≡ t ∷ []
kept_outside as_role.Quotes t h = ap (λ (x : List ℕ). x ∷ []) (unbroken_stays false t h)
kept_outside _ t h = refl

no_feed_gap : (f : Bool) (text : List ℕ) → Skips f [] text
unfolding Skips
no_feed_gap f text = tt

form_at : (p : Context) (k : Kind) (gap t : List ℕ) (b : Bool) → is_blanked p.block (role k t) ≡ b → (stretch p k gap t).form ≡ cond b form.Blanked (form_outside (role k t))
unfolding stretch
form_at p k gap t b e = ap (λ (x : Bool). cond x form.Blanked (form_outside (role k t))) e

token_at : (p : Context) (k : Kind) (gap t : List ℕ) → (stretch p k gap t).token ≡ t
unfolding stretch
token_at p k gap t = refl

gap_at : (p : Context) (k : Kind) (gap t : List ℕ) → (stretch p k gap t).gap ≡ gap
unfolding stretch
gap_at p k gap t = refl

kind_at : (p : Context) (k : Kind) (gap t : List ℕ) → (stretch p k gap t).kind ≡ k
unfolding stretch
kind_at p k gap t = refl

-- what a token that is not blanked may be
keeps_by : (p : Context) (k : Kind) (gap t : List ℕ) → is_blanked p.block (role k t) ≡ false → is_token (stretch p k gap t) ≡ true → same_kind k kind.LeftOut ≡ false
unfolding stretch
keeps_by p k gap t e h =
    not_true (same_kind k kind.LeftOut) (sym (ap (λ (x : Bool). is_blank_form (cond x form.Blanked (form_outside (role k t))) || not (same_kind k kind.LeftOut)) e ∙ ap (λ (x : Bool). x || not (same_kind k kind.LeftOut)) (outside_kept (role k t))) ∙ h)

-- a token that a scan finds
stays_stretch : (f : Bool) (p : Context) (k : Kind) (gap q back : List ℕ) → is_blanked p.block (role k q) ≡ false → IsScanned f q back (Token k) → is_token (stretch p k gap q) ≡ true → Stays f (stretch p k gap q) back
unfolding stretch
stays_stretch f p k gap q back out scanned h =
    let is : lexeme f q ≡ Some (Token k) = (longest f q back (Token k) scanned).1 in
    let none : list_any is_line_feed q ≡ false = no_feed q (token_place f q k is).0 in
    let formed = form_at p k gap q false out in
    record {
      sort = k;
      scanned = scanned;
      keeps = keeps_by p k gap q out h;
      same = ap (λ (x : StretchForm). shown x q) formed ∙ shown_stays (form_outside (role k q)) q (form_stays (role k q) q none);
      single = ap (λ (x : StretchForm). kept x q) formed ∙ kept_outside (role k q) q none;
    }

blanks_stretch : (p : Context) (k : Kind) (gap : List ℕ) (b : ℕ) (q : List ℕ) → is_blanked p.block (role k (b ∷ q)) ≡ true → is_blank b ≡ false → Blanks (stretch p k gap (b ∷ q))
unfolding stretch
blanks_stretch p k gap b q out black = record { is = form_at p k gap (b ∷ q) true out; first = b; others = q; bytes = refl; black = black }

no_word : (w q : List ℕ) → (34 ∷ q ≡ w → ⊥) → bytes_eq (34 ∷ q) w ≡ false
no_word w q none = by (bytes_eq (34 ∷ q) w) refl
  where
    by : (t : Bool) → bytes_eq (34 ∷ q) w ≡ t → bytes_eq (34 ∷ q) w ≡ false
    by true e = absurd (none ((bytes_eq-Decides (34 ∷ q) w).0 e))
    by false e = e

pub quote_no_word : (q : List ℕ) → is_block_word (34 ∷ q) ≡ false
quote_no_word q =
    let a : bytes_eq (34 ∷ q) (codes "never") ≡ false = no_word (codes "never") q (λ e. cc) in
    let b : bytes_eq (34 ∷ q) (codes "ltl") ≡ false = no_word (codes "ltl") q (λ e. cc) in
    let c : bytes_eq (34 ∷ q) (codes "trace") ≡ false = no_word (codes "trace") q (λ e. cc) in
    let d : bytes_eq (34 ∷ q) (codes "notrace") ≡ false = no_word (codes "notrace") q (λ e. cc) in
    ap (λ (x : Bool). x || (bytes_eq (34 ∷ q) (codes "ltl") || (bytes_eq (34 ∷ q) (codes "trace") || bytes_eq (34 ∷ q) (codes "notrace")))) a
    ∙ ap (λ (x : Bool). x || (bytes_eq (34 ∷ q) (codes "trace") || bytes_eq (34 ∷ q) (codes "notrace"))) b ∙ ap (λ (x : Bool). x || bytes_eq (34 ∷ q) (codes "notrace")) c ∙ d

quoted_role : (q : List ℕ) → role kind.Quoted (34 ∷ q) ≡ as_role.Quotes
quoted_role q = ap (λ (x : Bool). cond x as_role.Heads as_role.Quotes) (quote_no_word q)

joins_stretch : (p : Context) (gap q : List ℕ) → is_blanked p.block (role kind.Quoted (34 ∷ q)) ≡ false → string_end 1 false q ≡ Some (1 + length q) → Joins (stretch p kind.Quoted gap (34 ∷ q))
unfolding stretch
joins_stretch p gap q out ends = record { is = form_at p kind.Quoted gap (34 ∷ q) false out ∙ ap form_outside (quoted_role q); others = q; bytes = refl; ends = ends }

-- what stands at the front of a text: a lexeme, a string over lines, or what begins no token
pub record Begins (fresh : Bool) (b : ℕ) (r : List ℕ) (n : ℕ) (x : Lexeme) : Type 0 where
  pub found : lexeme_at fresh (b ∷ r) ≡ (n, x)
  pub some : 0 < n
  pub within : n ≤ length (b ∷ r)

abbrev pub IsString : ℕ → List ℕ → ℕ → Lexeme → Type 0
IsString b r n x = (x ≡ Token kind.Quoted) × (b ≡ 34) × EndsAt 1 false r n

abbrev pub IsOdd : ℕ → Lexeme → Type 0
IsOdd b x = (x ≡ Token kind.LeftOut) × (is_blank b ≡ false)

pub record AtFront (fresh : Bool) (b : ℕ) (r : List ℕ) : Type 0 where
  pub size : ℕ
  pub sort : Lexeme
  pub begins : Begins fresh b r size sort
  pub is : ((next fresh (b ∷ r) ≡ Some (size, sort)) ⊎ IsString b r size sort) ⊎ IsOdd b sort

odd : (fresh : Bool) (b : ℕ) (r : List ℕ) (n : ℕ) → lexeme_at fresh (b ∷ r) ≡ (n, Token kind.LeftOut) → 0 < n → n ≤ length (b ∷ r) → is_blank b ≡ false → AtFront fresh b r
odd fresh b r n e some within black = record { size = n; sort = Token kind.LeftOut; begins = record { found = e; some = some; within = within }; is = inr (refl, black) }

string_front : (fresh : Bool) (b : ℕ) (r : List ℕ) (o : Option ℕ) → string_end 1 false r ≡ o → b ≡ 34 → is_blank b ≡ false → lexeme_at fresh (b ∷ r) ≡ string_or_rest (length (b ∷ r)) o → AtFront fresh b r
string_front fresh b r None e q black h = odd fresh b r (length (b ∷ r)) h (omega arith) (omega arith) black
string_front fresh b r (Some m) e q black h =
    let ends : EndsAt 1 false r m = ends_at r 1 false m e in
    record { size = m; sort = Token kind.Quoted; begins = record { found = h; some = omega (arith, ends.behind); within = omega (arith, ends.within) }; is = inl (inr (refl, q, ends)) }

is_34 : (b : ℕ) → (b == 34) ≡ true → b ≡ 34
is_34 b h = grind (arith, nat_tests)

broken_front : (fresh : Bool) (b : ℕ) (r : List ℕ) (t1 t2 : Bool) → (b == 34) ≡ t1 → is_blank b ≡ false
    → lexeme_at fresh (b ∷ r) ≡ cond t1 (string_or_rest (length (b ∷ r)) (string_end 1 false r)) (cond t2 (length (b ∷ r), Token kind.LeftOut) (1, Token kind.LeftOut)) → AtFront fresh b r
broken_front fresh b r true t2 e black h = string_front fresh b r (string_end 1 false r) refl (is_34 b e) black h
broken_front fresh b r false true e black h = odd fresh b r (length (b ∷ r)) h (omega arith) (omega arith) black
broken_front fresh b r false false e black h = odd fresh b r 1 h (omega arith) (omega arith) black

front_by : (fresh : Bool) (b : ℕ) (r : List ℕ) (o : Found) → next fresh (b ∷ r) ≡ o → IsNext fresh (b ∷ r) o → AtFront fresh b r
unfolding lexeme_at
front_by fresh b r None e h = broken_front fresh b r (b == 34) (b == 47) refl (none_head fresh b r e) (ap (found_or (broken (b ∷ r))) e)
front_by fresh b r (Some x) e h = record { size = x.0; sort = x.1; begins = record { found = ap (found_or (broken (b ∷ r))) e; some = h.some; within = h.within }; is = inl (inl e) }

pub front : (fresh : Bool) (b : ℕ) (r : List ℕ) → AtFront fresh b r
front fresh b r = front_by fresh b r (next fresh (b ∷ r)) refl (next_is fresh (b ∷ r) (omega arith))

list_all_left : (t : Written) (ts : List Written) → list_all is_token (t ∷ ts) ≡ true → is_token t ≡ true
list_all_left t ts h = by (is_token t) h
  where
    by : (a : Bool) → (a && list_all is_token ts) ≡ true → a ≡ true
    by true h = refl
    by false h = h

list_all_right : (t : Written) (ts : List Written) → list_all is_token (t ∷ ts) ≡ true → list_all is_token ts ≡ true
list_all_right t ts h = by (is_token t) h
  where
    by : (a : Bool) → (a && list_all is_token ts) ≡ true → list_all is_token ts ≡ true
    by true h = h
    by false h = absurd (false≢true h)

abbrev pub lexeme_stretches : ℕ → Lexeme → Bool → Context → List ℕ → List ℕ → List ℕ → List Written
lexeme_stretches fuel Skipped fresh p gap t rest = stretches_by fuel (fresh_from fresh t) p (gap ++ t) rest
lexeme_stretches fuel (Token k) fresh p gap t rest = stretch p k gap t ∷ stretches_by fuel false (behind p (role k t)) [] rest

pub lexeme_is : (fuel n : ℕ) (k : Lexeme) (fresh : Bool) (p : Context) (gap text : List ℕ) → on_lexeme n k fresh p gap text (stretches_by fuel) ≡ lexeme_stretches fuel k fresh p gap (take n text) (drop n text)
lexeme_is fuel n Skipped fresh p gap text = refl
lexeme_is fuel n (Token k) fresh p gap text = refl

-- the rest of a text, from a context on, where its stretches are tokens
abbrev Reads : ℕ → Type 0
Reads fuel = (fresh f : Bool) (p : Context) (gs : List (List ℕ)) (rest : List ℕ) → length rest ≤ fuel → fresh ≡ fresh_from f (concat gs) → Skips f gs rest → ((f ≡ false) ⊎ (p ≡ start)) → list_all is_token (stretches_by fuel fresh p (concat gs) rest) ≡ true
    → Parsed f (stretches_by fuel fresh p (concat gs) rest)

-- a token of the text, which shows so
on_token : (fuel : ℕ) (f : Bool) (p : Context) (gs : List (List ℕ)) (k : Kind) (q back : List ℕ) → Reads fuel → length back ≤ fuel → Skips f gs (q ++ back) → ((f ≡ false) ⊎ (p ≡ start))
    → Shows (fresh_from f (concat gs)) (stretch p k (concat gs) q) back → list_all is_token (stretch p k (concat gs) q ∷ stretches_by fuel false (behind p (role k q)) [] back) ≡ true
    → Parsed f (stretch p k (concat gs) q ∷ stretches_by fuel false (behind p (role k q)) [] back)
unfolding stretch
on_token fuel f p gs k q back reads short skips first shows tokens =
    let us = stretches_by fuel false (behind p (role k q)) [] back in
    let are : sources us ≡ back = sources_are fuel false (behind p (role k q)) [] back in
    let first_stretch : (stretch p k (concat gs) q).supply ≡ supply.Nothing ⊎ (f ≡ false) =
    ⊎_elim (λ (x : f ≡ false). let l : ((stretch p k (concat gs) q).supply ≡ supply.Nothing) ⊎ (f ≡ false) = inr x in l)
    (λ (x : p ≡ start). let r : ((stretch p k (concat gs) q).supply ≡ supply.Nothing) ⊎ (f ≡ false) = inl (first_nothing p k (concat gs) q x) in r) first in
    cons f (stretch p k (concat gs) q) us
    (record {
      gaps = gs;
      joins = refl;
      skips = subst (λ (x : List ℕ). Skips f gs (q ++ x)) (sym are) skips;
      shows = subst (Shows (fresh_from f (concat gs)) (stretch p k (concat gs) q)) (sym are) shows;
      behind_token = first_stretch;
    })
    (reads false false (behind p (role k q)) [] back short refl (no_feed_gap false back) (inl refl) (list_all_right (stretch p k (concat gs) q) us tokens))

scanned_shows : (f : Bool) (p : Context) (k : Kind) (gap q back : List ℕ) → IsScanned f q back (Token k) → is_token (stretch p k gap q) ≡ true → Shows f (stretch p k gap q) back
scanned_shows f p k gap [] back scanned h = let none : 0 < 0 = scanned.some in absurd (omega arith)
scanned_shows f p k gap (b ∷ q) back scanned h = by (is_blanked p.block (role k (b ∷ q))) refl
  where
    by : (t : Bool) → is_blanked p.block (role k (b ∷ q)) ≡ t → Shows f (stretch p k gap (b ∷ q)) back
    by true e = inl (inr (blanks_stretch p k gap b q e (token_head f b (q ++ back) k (length (b ∷ q)) scanned.found)))
    by false e = inl (inl (stays_stretch f p k gap (b ∷ q) back e scanned h))

string_shows : (f : Bool) (p : Context) (gap q back : List ℕ) → string_end 1 false q ≡ Some (1 + length q) → is_token (stretch p kind.Quoted gap (34 ∷ q)) ≡ true → Shows f (stretch p kind.Quoted gap (34 ∷ q)) back
string_shows f p gap q back ends h = by (is_blanked p.block (role kind.Quoted (34 ∷ q))) refl
  where
    by : (t : Bool) → is_blanked p.block (role kind.Quoted (34 ∷ q)) ≡ t → Shows f (stretch p kind.Quoted gap (34 ∷ q)) back
    by true e = inl (inr (blanks_stretch p kind.Quoted gap 34 q e refl))
    by false e = inr (joins_stretch p gap q e ends)

odd_shows : (f : Bool) (p : Context) (gap : List ℕ) (b : ℕ) (q back : List ℕ) → is_blank b ≡ false → is_token (stretch p kind.LeftOut gap (b ∷ q)) ≡ true → Shows f (stretch p kind.LeftOut gap (b ∷ q)) back
odd_shows f p gap b q back black h = by (is_blanked p.block (role kind.LeftOut (b ∷ q))) refl
  where
    by : (t : Bool) → is_blanked p.block (role kind.LeftOut (b ∷ q)) ≡ t → Shows f (stretch p kind.LeftOut gap (b ∷ q)) back
    by true e = inl (inr (blanks_stretch p kind.LeftOut gap b q e black))
    by false e = absurd (false≢true (sym (keeps_by p kind.LeftOut gap (b ∷ q) e h)))

-- a lexeme at the front of the rest
on_scanned : (fuel : ℕ) (f : Bool) (p : Context) (gs : List (List ℕ)) (x : Lexeme) (q back : List ℕ) → Reads fuel → length back ≤ fuel → Skips f gs (q ++ back) → ((f ≡ false) ⊎ (p ≡ start)) → IsScanned (fresh_from f (concat gs)) q back x
    → list_all is_token (lexeme_stretches fuel x (fresh_from f (concat gs)) p (concat gs) q back) ≡ true → Parsed f (lexeme_stretches fuel x (fresh_from f (concat gs)) p (concat gs) q back)
on_scanned fuel f p gs Skipped q back reads short skips first scanned tokens =
    let more : Skips f (gs ++ q ∷ []) back = snoc gs f q back skips scanned in
    let fresh : fresh_from (fresh_from f (concat gs)) q ≡ fresh_from f (concat (gs ++ q ∷ [])) = sym (fresh_from-append f (concat gs) q) ∙ ap (fresh_from f) (sym (concat_snoc gs q)) in
    let same : stretches_by fuel (fresh_from (fresh_from f (concat gs)) q) p (concat (gs ++ q ∷ [])) back ≡ stretches_by fuel (fresh_from (fresh_from f (concat gs)) q) p (concat gs ++ q) back =
    ap (λ (g : List ℕ). stretches_by fuel (fresh_from (fresh_from f (concat gs)) q) p g back) (concat_snoc gs q) in
    subst (Parsed f) same (reads (fresh_from (fresh_from f (concat gs)) q) f p (gs ++ q ∷ []) back short fresh more first (ap (list_all is_token) same ∙ tokens))
on_scanned fuel f p gs (Token k) q back reads short skips first scanned tokens =
    on_token fuel f p gs k q back reads short skips first (scanned_shows (fresh_from f (concat gs)) p k (concat gs) q back scanned (list_all_left (stretch p k (concat gs) q) (stretches_by fuel false (behind p (role k q)) [] back) tokens)) tokens

-- the lexemes of a text, from its front on
on_front : (fuel : ℕ) (f : Bool) (p : Context) (gs : List (List ℕ)) (b : ℕ) (r : List ℕ) → Reads fuel → length (b ∷ r) ≤ suc fuel → Skips f gs (b ∷ r) → ((f ≡ false) ⊎ (p ≡ start)) → (a : AtFront (fresh_from f (concat gs)) b r)
    → list_all is_token (lexeme_stretches fuel a.sort (fresh_from f (concat gs)) p (concat gs) (take a.size (b ∷ r)) (drop a.size (b ∷ r))) ≡ true
    → Parsed f (lexeme_stretches fuel a.sort (fresh_from f (concat gs)) p (concat gs) (take a.size (b ∷ r)) (drop a.size (b ∷ r)))
on_front fuel f p gs b r reads short skips first a tokens =
    let fr = fresh_from f (concat gs) in
    let q = take a.size (b ∷ r) in
    let back = drop a.size (b ∷ r) in
    let some : 0 < a.size = a.begins.some in
    let within : a.size ≤ length (b ∷ r) = a.begins.within in
    let whole : b ∷ r ≡ q ++ back = sym (take-append-drop a.size (b ∷ r)) in
    let len : length q ≡ a.size = length-take-le a.size (b ∷ r) within in
    let gone : length back ≡ length (b ∷ r) - a.size = length-drop a.size (b ∷ r) in
    let less : length back ≤ fuel = omega arith in
    let skipped : Skips f gs (q ++ back) = subst (Skips f gs) whole skips in
    ⊎_elim (λ (s : (next fr (b ∷ r) ≡ Some (a.size, a.sort)) ⊎ IsString b r a.size a.sort).
    ⊎_elim (λ (e : next fr (b ∷ r) ≡ Some (a.size, a.sort)).
    on_scanned fuel f p gs a.sort q back reads less skipped first (record { some = omega arith; found = ap (next fr) (sym whole) ∙ e ∙ ap (λ (n : ℕ). let o : Found = Some (n, a.sort) in o) (sym len) }) tokens)
    (λ (e : IsString b r a.size a.sort).
    string fuel f p gs b r reads a.size a.sort e.0 e.1 e.2 less skipped first tokens) s)
    (λ (e : IsOdd b a.sort). left fuel f p gs b r reads a.size a.sort e.0 e.1 some less skipped first tokens) a.is
  where
    string : (fuel : ℕ) (f : Bool) (p : Context) (gs : List (List ℕ)) (b : ℕ) (r : List ℕ) → Reads fuel → (n : ℕ) (x : Lexeme) → x ≡ Token kind.Quoted → b ≡ 34 → EndsAt 1 false r n → length (drop n (b ∷ r)) ≤ fuel → Skips f gs (take n (b ∷ r) ++ drop n (b ∷ r)) → ((f ≡ false) ⊎ (p ≡ start))
        → list_all is_token (lexeme_stretches fuel x (fresh_from f (concat gs)) p (concat gs) (take n (b ∷ r)) (drop n (b ∷ r))) ≡ true → Parsed f (lexeme_stretches fuel x (fresh_from f (concat gs)) p (concat gs) (take n (b ∷ r)) (drop n (b ∷ r)))
    string fuel f p gs b r reads n x ex eb ends less skipped first tokens =
        let front : take n (b ∷ r) ≡ 34 ∷ take (n - 1) r = (let e : n ≡ suc (n - 1) = omega (arith, ends.behind) in ap (λ (m : ℕ). take m (b ∷ r)) e) ∙ ap (λ (c : ℕ). c ∷ take (n - 1) r) eb in
        let len : length (take (n - 1) r) ≡ n - 1 = length-take-le (n - 1) r (omega (arith, ends.within)) in
        let found : string_end 1 false (take (n - 1) r) ≡ Some (1 + length (take (n - 1) r)) = ends.front ∙ (let e : n ≡ 1 + length (take (n - 1) r) = omega (arith, ends.behind) in ap Some e) in
        let back = drop n (b ∷ r) in
        let all : Lexeme → List ℕ → List Written = λ y t. lexeme_stretches fuel y (fresh_from f (concat gs)) p (concat gs) t back in
        let same : all x (take n (b ∷ r)) ≡ all (Token kind.Quoted) (34 ∷ take (n - 1) r) = ap (λ (y : Lexeme). all y (take n (b ∷ r))) ex ∙ ap (all (Token kind.Quoted)) front in
        let now = ap (list_all is_token) (sym same) ∙ tokens in
        subst (Parsed f) (sym same)
        (on_token fuel f p gs kind.Quoted (34 ∷ take (n - 1) r) back reads less (subst (λ (t : List ℕ). Skips f gs (t ++ back)) front skipped) first
        (string_shows (fresh_from f (concat gs)) p (concat gs) (take (n - 1) r) back found (list_all_left (stretch p kind.Quoted (concat gs) (34 ∷ take (n - 1) r)) (stretches_by fuel false (behind p (role kind.Quoted (34 ∷ take (n - 1) r))) [] back) now)) now)

    left : (fuel : ℕ) (f : Bool) (p : Context) (gs : List (List ℕ)) (b : ℕ) (r : List ℕ) → Reads fuel → (n : ℕ) (x : Lexeme) → x ≡ Token kind.LeftOut → is_blank b ≡ false → 0 < n → length (drop n (b ∷ r)) ≤ fuel → Skips f gs (take n (b ∷ r) ++ drop n (b ∷ r)) → ((f ≡ false) ⊎ (p ≡ start))
        → list_all is_token (lexeme_stretches fuel x (fresh_from f (concat gs)) p (concat gs) (take n (b ∷ r)) (drop n (b ∷ r))) ≡ true → Parsed f (lexeme_stretches fuel x (fresh_from f (concat gs)) p (concat gs) (take n (b ∷ r)) (drop n (b ∷ r)))
    left fuel f p gs b r reads n x ex black some less skipped first tokens =
        let front : take n (b ∷ r) ≡ b ∷ take (n - 1) r = (let e : n ≡ suc (n - 1) = omega arith in ap (λ (m : ℕ). take m (b ∷ r)) e) in
        let back = drop n (b ∷ r) in
        let all : Lexeme → List ℕ → List Written = λ y t. lexeme_stretches fuel y (fresh_from f (concat gs)) p (concat gs) t back in
        let same : all x (take n (b ∷ r)) ≡ all (Token kind.LeftOut) (b ∷ take (n - 1) r) = ap (λ (y : Lexeme). all y (take n (b ∷ r))) ex ∙ ap (all (Token kind.LeftOut)) front in
        let now = ap (list_all is_token) (sym same) ∙ tokens in
        subst (Parsed f) (sym same)
        (on_token fuel f p gs kind.LeftOut (b ∷ take (n - 1) r) back reads less (subst (λ (t : List ℕ). Skips f gs (t ++ back)) front skipped) first
        (odd_shows (fresh_from f (concat gs)) p (concat gs) b (take (n - 1) r) back black (list_all_left (stretch p kind.LeftOut (concat gs) (b ∷ take (n - 1) r)) (stretches_by fuel false (behind p (role kind.LeftOut (b ∷ take (n - 1) r))) [] back) now)) now)

read : (fuel : ℕ) → Reads fuel
read fuel fresh f p gs [] short fresh_is skips first tokens = at_end fuel fresh f p gs skips
read zero fresh f p gs (b ∷ r) short fresh_is skips first tokens = absurd (omega arith)
read (suc fuel) fresh f p gs (b ∷ r) short fresh_is skips first tokens =
    let a = front (fresh_from f (concat gs)) b r in
    let same : stretches_by (suc fuel) fresh p (concat gs) (b ∷ r) ≡ lexeme_stretches fuel a.sort (fresh_from f (concat gs)) p (concat gs) (take a.size (b ∷ r)) (drop a.size (b ∷ r)) =
    ap (λ (x : Bool). stretches_by (suc fuel) x p (concat gs) (b ∷ r)) fresh_is ∙ at_lexeme fuel (fresh_from f (concat gs)) p (concat gs) (b ∷ r) a.size a.sort a.begins.some a.begins.within a.begins.found ∙ lexeme_is fuel a.size a.sort (fresh_from f (concat gs)) p (concat gs) (b ∷ r) in
    subst (Parsed f) (sym same) (on_front fuel f p gs b r (read fuel) short skips first a (ap (list_all is_token) (sym same) ∙ tokens))

pub cut_again : (text : List ℕ) → has_tokens_alone text ≡ true → (us : List Word) × (IsCut (spelled (stretches text)) us × (standing us ≡ written_from 1 (stretches text)))
cut_again text h =
    let parsed : Parsed true (stretches text) = read (length text) true true start [] text (omega arith) refl (no_feed_gap true text) (inr refl) h in
    let cut : Cut [] (spelled (stretches text)) (written_from 1 (stretches text)) = over_stretches (stretches text) true parsed [] 1 (λ e. refl) refl in
    (words [] cut.lexemes, (record { lexemes = cut.lexemes; divides = to_whole cut.lexemes (spelled (stretches text)) cut.divides; are_words = refl }, cut.are))
