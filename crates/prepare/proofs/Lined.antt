-- A string over lines keeps its bytes but for the ends of its lines.
use Rattle.std.proofs.Common.{◌≡◌, ℕ, Bool, true, false, ◌&&◌, ◌||◌, List, [], ◌∷◌, ◌++◌, sym, refl, ap, ◌∙◌, subst, inl, inr, append_assoc, arith}
use Rattle.std.specs.Prelude.{◌==◌}
use Rattle.std.specs.List.{filter, list_any, flat_map}
use lib.Chars.{codes}
use Rattle.std.proofs.lemmas.Bool.Decides.{nat_tests}
use Rattle.promela_text.specs.Tokens.{is_line_feed}
use Rattle.prepare.specs.Spelling.{begins_feed, is_break, unless_break, escapes, unbroken, joined}
use Rattle.prepare.specs.Strings.{Line, IsLineEnd, AreStringLines, IsJoined}

-- a string, and what is left of it without the ends of its lines
record Lines (t u : List ℕ) : Type 0 where
  lines : List Line
  last : List ℕ
  divides : t ≡ flat_map (λ l. l.text ++ l.end) lines ++ last
  each : AreStringLines lines
  last_line : list_any is_line_feed last ≡ false
  joins : u ≡ flat_map (λ l. l.text) lines ++ last

no_feed : (b : ℕ) (q : List ℕ) → is_line_feed b ≡ false → list_any is_line_feed q ≡ false → list_any is_line_feed (b ∷ q) ≡ false
no_feed b q e h = ap (λ (t : Bool). t || list_any is_line_feed q) e ∙ h

-- one byte more
kept_by : (b : ℕ) (t u : List ℕ) → is_line_feed b ≡ false → (ls : List Line) (last : List ℕ) → t ≡ flat_map (λ l. l.text ++ l.end) ls ++ last → AreStringLines ls → list_any is_line_feed last ≡ false → u ≡ flat_map (λ l. l.text) ls ++ last → Lines (b ∷ t) (b ∷ u)
kept_by b t u e [] last divides each none joins =
    record { lines = []; last = b ∷ last; divides = ap (λ (x : List ℕ). b ∷ x) divides; each = each; last_line = no_feed b last e none; joins = ap (λ (x : List ℕ). b ∷ x) joins }
kept_by b t u e (l ∷ ls) last divides each none joins = record {
  lines = record { text = b ∷ l.text; end = l.end } ∷ ls;
  last = last;
  divides = ap (λ (x : List ℕ). b ∷ x) divides;
  each = ((no_feed b l.text e each.0.0, each.0.1), each.1);
  last_line = none;
  joins = ap (λ (x : List ℕ). b ∷ x) joins;
}

kept : (b : ℕ) (t u : List ℕ) → is_line_feed b ≡ false → Lines t u → Lines (b ∷ t) (b ∷ u)
kept b t u e h = kept_by b t u e h.lines h.last h.divides h.each h.last_line h.joins

-- one end of a line more
ended : (e t u : List ℕ) → IsLineEnd e → Lines t u → Lines (e ++ t) u
ended e t u is h = record {
  lines = record { text = []; end = e } ∷ h.lines;
  last = h.last;
  divides = ap (λ (x : List ℕ). e ++ x) h.divides ∙ sym (append_assoc e (flat_map (λ l. l.text ++ l.end) h.lines) h.last);
  each = ((refl, is), h.each);
  last_line = h.last_line;
  joins = h.joins;
}

unbroken_is : (e : Bool) (b : ℕ) (q : List ℕ) → unbroken e (b ∷ q) ≡ unless_break (is_break e b q) b (unbroken (escapes e b) q)
unfolding unbroken
unbroken_is e b q = refl

unbroken_none : (e : Bool) → unbroken e [] ≡ []
unfolding unbroken
unbroken_none e = refl

abbrev Divides : List ℕ → Type 0
Divides t = Lines t (unbroken false t)

nothing : Divides []
nothing = record { lines = []; last = []; divides = refl; each = tt; last_line = refl; joins = unbroken_none false }

is_10 : (b : ℕ) → (b == 10) ≡ true → b ≡ 10
is_10 b h = grind (arith, nat_tests)

is_92 : (b : ℕ) → (b == 92) ≡ true → b ≡ 92
is_92 b h = grind (arith, nat_tests)

feed_only : (b : ℕ) (q : List ℕ) → b ≡ 10 → Lines q (unbroken false q) → Lines (b ∷ q) (unbroken false q)
feed_only b q e h = subst (λ (c : ℕ). Lines (c ∷ q) (unbroken false q)) (sym e) (ended (codes "\n") q (unbroken false q) (inl refl) h)

pair_ended : (b c : ℕ) (q : List ℕ) → b ≡ 92 → c ≡ 10 → Lines q (unbroken false q) → Lines (b ∷ c ∷ q) (unbroken false q)
pair_ended b c q e f h = subst (λ (x : ℕ). Lines (x ∷ c ∷ q) (unbroken false q)) (sym e) (subst (λ (y : ℕ). Lines (92 ∷ y ∷ q) (unbroken false q)) (sym f) (ended (codes "\\\n") q (unbroken false q) (inr refl) h))

plain_by : (l : Bool) (b : ℕ) (q : List ℕ) → (b == 10) ≡ l → (b == 92) ≡ false → Divides q → Divides (b ∷ q)
plain_by true b q el ek h =
    let here : unbroken false (b ∷ q) ≡ unbroken false q =
    unbroken_is false b q ∙ ap (λ (t : Bool). unless_break (t || (true && ((b == 92) && begins_feed q))) b (unbroken (true && (b == 92)) q)) el ∙ ap (λ (t : Bool). unbroken (true && t) q) ek in
    subst (Lines (b ∷ q)) (sym here) (feed_only b q (is_10 b el) h)
plain_by false b q el ek h =
    let here : unbroken false (b ∷ q) ≡ b ∷ unbroken false q =
    unbroken_is false b q ∙ ap (λ (t : Bool). unless_break (t || (true && ((b == 92) && begins_feed q))) b (unbroken (true && (b == 92)) q)) el
    ∙ ap (λ (t : Bool). unless_break (true && (t && begins_feed q)) b (unbroken (true && t) q)) ek in
    subst (Lines (b ∷ q)) (sym here) (kept b q (unbroken false q) el h)

or_false : (c : ℕ) (q : List ℕ) (t : Bool) → (t || (false && ((c == 92) && begins_feed q))) ≡ t
or_false c q true = refl
or_false c q false = refl

pair_by : (l : Bool) (b c : ℕ) (q : List ℕ) → (c == 10) ≡ l → b ≡ 92 → Divides q → Divides (b ∷ c ∷ q)
pair_by l b c q el eb h =
    let s92 : (b == 92) ≡ true = ap (λ (x : ℕ). x == 92) eb in
    let s10 : (b == 10) ≡ false = ap (λ (x : ℕ). x == 10) eb in
    let first : unbroken false (b ∷ c ∷ q) ≡ unless_break (c == 10) b (unbroken true (c ∷ q)) =
    unbroken_is false b (c ∷ q) ∙ ap (λ (t : Bool). unless_break (t || (true && ((b == 92) && (c == 10)))) b (unbroken (true && (b == 92)) (c ∷ q))) s10
    ∙ ap (λ (t : Bool). unless_break (t && (c == 10)) b (unbroken t (c ∷ q))) s92 in
    let second : unbroken true (c ∷ q) ≡ unless_break (c == 10) c (unbroken false q) = unbroken_is true c q ∙ ap (λ (t : Bool). unless_break t c (unbroken false q)) (or_false c q (c == 10)) in
    both l el (first ∙ ap (λ (x : List ℕ). unless_break (c == 10) b x) second) s10
  where
    both : (l : Bool) → (c == 10) ≡ l → unbroken false (b ∷ c ∷ q) ≡ unless_break (c == 10) b (unless_break (c == 10) c (unbroken false q)) → (b == 10) ≡ false → Divides (b ∷ c ∷ q)
    both true el f s10 =
        let here : unbroken false (b ∷ c ∷ q) ≡ unbroken false q = f ∙ ap (λ (t : Bool). unless_break t b (unless_break t c (unbroken false q))) el in
        subst (Lines (b ∷ c ∷ q)) (sym here) (pair_ended b c q eb (is_10 c el) h)
    both false el f s10 =
        let here : unbroken false (b ∷ c ∷ q) ≡ b ∷ c ∷ unbroken false q = f ∙ ap (λ (t : Bool). unless_break t b (unless_break t c (unbroken false q))) el in
        subst (Lines (b ∷ c ∷ q)) (sym here) (kept b (c ∷ q) (c ∷ unbroken false q) s10 (kept c q (unbroken false q) el h))

lone : (b : ℕ) → b ≡ 92 → Divides (b ∷ [])
lone b eb =
    let s92 : (b == 92) ≡ true = ap (λ (x : ℕ). x == 92) eb in
    let s10 : (b == 10) ≡ false = ap (λ (x : ℕ). x == 10) eb in
    let here : unbroken false (b ∷ []) ≡ b ∷ [] =
    unbroken_is false b [] ∙ ap (λ (t : Bool). unless_break (t || (true && ((b == 92) && false))) b (unbroken (true && (b == 92)) [])) s10
    ∙ ap (λ (t : Bool). unless_break (t && false) b (unbroken t [])) s92 ∙ ap (λ (x : List ℕ). b ∷ x) (unbroken_none true) in
    subst (Lines (b ∷ [])) (sym here) (kept b [] [] s10 (record { lines = []; last = []; divides = refl; each = tt; last_line = refl; joins = refl }))

one_by : (s : Bool) (b : ℕ) → (b == 92) ≡ s → Divides (b ∷ [])
one_by true b e = lone b (is_92 b e)
one_by false b e = plain_by (b == 10) b [] refl e nothing

two_by : (s : Bool) (b c : ℕ) (q : List ℕ) → (b == 92) ≡ s → Divides q → Divides (c ∷ q) → Divides (b ∷ c ∷ q)
two_by true b c q e h g = pair_by (c == 10) b c q refl (is_92 b e) h
two_by false b c q e h g = plain_by (b == 10) b (c ∷ q) refl e g

divided : (q : List ℕ) → Divides q
divided [] = nothing
divided (b ∷ []) = one_by (b == 92) b refl
divided (b ∷ c ∷ q) = two_by (b == 92) b c q refl (divided q) (divided (c ∷ q))

pub is_joined : (t : List ℕ) → IsJoined t (joined t)
is_joined t =
    let h = divided t in
    record { lines = h.lines; last = h.last; divides = h.divides; each = h.each; last_line = h.last_line; joins = ap (λ (x : List ℕ). x ++ filter is_line_feed t) h.joins }
