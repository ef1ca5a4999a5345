-- A lexeme stays one where what stands behind it becomes another text that cannot make it longer.
use Rattle.std.proofs.Common.{◌≡◌, ℕ, suc, ◌+◌, ◌<◌, Bool, true, false, cond, eqb, ◌&&◌, ◌||◌, List, [], ◌∷◌, ◌++◌, Option, Some, None, length, take, sym, refl, ap, ◌∙◌, subst, ⊎_elim, arith}
use Rattle.std.specs.Prelude.{◌⊎◌, ◌==◌, if◌then◌else◌}
use Rattle.std.specs.List.{prefix_len}
use Rattle.std.specs.Option.{option_map}
use Rattle.std.specs.Str.{bytes_eq}
use Rattle.std.proofs.lemmas.Slice.Eq.{bytes_eq-Decides}
use Rattle.std.proofs.lemmas.Bool.{false≢true}
use Rattle.std.proofs.Math.Seq.{take-append_seam}
use Rattle.promela_text.specs.declared.lexeme.Class.{Class}
use Rattle.promela_text.specs.declared.lexeme.Class.TheVariants as class
use Rattle.promela_text.specs.declared.lexeme.Lexeme.{Lexeme}
use Rattle.promela_text.specs.declared.lexeme.Lexeme.TheVariants.{Skipped, Token}
use Rattle.pml_token.specs.declared.token.Kind.{Kind}
use Rattle.pml_token.specs.declared.token.Kind.TheVariants as kind
use Rattle.pml_token.specs.Word.{same_kind}
use Rattle.promela_text.specs.Tables.{word_kind}
use Rattle.profile.specs.Characters.{is_digit}
use Rattle.promela_text.specs.Tokens.{is_name_byte, is_in_line, is_line_mark, class_of}
use Rattle.pml_lex.specs.Scanning.{Found, comment_end, quote_end, slash, sign, hash, long_or_short, next_by, next, sign_of_one, sign_of_two}
use Rattle.pml_lex.proofs.Ends.{IsWithin, comment_within, quote_within}

abbrev pub head : List ℕ → Option ℕ
head [] = None
head (b ∷ q) = Some b

-- `;` or a blank
abbrev pub is_soft : Option ℕ → Bool
is_soft None = false
is_soft (Some b) = eqb b 59 || eqb b 32

-- what stands behind a lexeme begins as before, or softly behind a token that is not left out
abbrev pub Fits : Lexeme → List ℕ → List ℕ → Type 0
Fits k back back' = (head back ≡ head back') ⊎ ((x : Kind) × (k ≡ Token x) × (same_kind x kind.LeftOut ≡ false) × (is_soft (head back') ≡ true))

abbrev pub Stops : (ℕ → Bool) → Option ℕ → Type 0
Stops p None = Unit {0}
Stops p (Some b) = p b ≡ false

soft_cases : (b : ℕ) → is_soft (Some b) ≡ true → (b ≡ 59) ⊎ (b ≡ 32)
soft_cases b h = grind arith

stop_by : (t : Bool) (n : ℕ) → cond t (1 + n) 0 ≡ 0 → t ≡ false
stop_by true n h = absurd (omega arith)
stop_by false n h = refl

pass_by : (t : Bool) (n m : ℕ) → cond t (1 + n) 0 ≡ suc m → (t ≡ true) × (n ≡ m)
pass_by true n m h = (refl, omega arith)
pass_by false n m h = absurd (omega arith)

pub stops : (p : ℕ → Bool) (q back : List ℕ) → prefix_len p (q ++ back) ≡ length q → Stops p (head back)
stops p [] [] h = tt
stops p [] (b ∷ r) h = stop_by (p b) (prefix_len p r) h
stops p (b ∷ q) back h = stops p q back (pass_by (p b) (prefix_len p (q ++ back)) (length q) h).1

pub stop_now : (p : ℕ → Bool) (back : List ℕ) → Stops p (head back) → prefix_len p back ≡ 0
stop_now p [] h = refl
stop_now p (b ∷ r) h = ap (λ t. cond t (1 + prefix_len p r) 0) h

runs : (p : ℕ → Bool) (q back back' : List ℕ) → prefix_len p (q ++ back) ≡ length q → Stops p (head back') → prefix_len p (q ++ back') ≡ length q
runs p [] back back' h s = stop_now p back' s
runs p (b ∷ q) back back' h s =
    let parts = pass_by (p b) (prefix_len p (q ++ back)) (length q) h in
    ap (λ t. cond t (1 + prefix_len p (q ++ back')) 0) parts.0 ∙ ap (λ n. 1 + n) (runs p q back back' parts.1 s) ∙ omega arith

soft_stops_by : (p : ℕ → Bool) (o : Option ℕ) → p 59 ≡ false → p 32 ≡ false → is_soft o ≡ true → Stops p o
soft_stops_by p None semi space h = tt
soft_stops_by p (Some b) semi space h = ⊎_elim (λ (e : b ≡ 59). ap p e ∙ semi) (λ (e : b ≡ 32). ap p e ∙ space) (soft_cases b h)

-- a run of bytes that neither `;` nor a blank goes on
soft_runs : (p : ℕ → Bool) (k : Lexeme) (q back back' : List ℕ) → p 59 ≡ false → p 32 ≡ false → Fits k back back' → prefix_len p (q ++ back) ≡ length q → prefix_len p (q ++ back') ≡ length q
soft_runs p k q back back' semi space fits h =
    ⊎_elim (λ (e : head back ≡ head back'). runs p q back back' h (subst (Stops p) e (stops p q back h)))
    (λ (s : (x : Kind) × (k ≡ Token x) × (same_kind x kind.LeftOut ≡ false) × (is_soft (head back') ≡ true)). runs p q back back' h (soft_stops_by p (head back') semi space s.3)) fits

abbrev pub size : Found → ℕ
size None = 0
size (Some x) = x.0

abbrev pub what : Found → Lexeme
what None = Skipped
what (Some x) = x.1

abbrev with_lexeme : Lexeme → ℕ → ℕ × Lexeme
with_lexeme s n = (n, s)

pub end_of : (o : Option ℕ) (s k : Lexeme) (m : ℕ) → option_map (with_lexeme s) o ≡ Some (m, k) → o ≡ Some m
end_of None s k m h = cc
end_of (Some n) s k m h = ap Some (ap size h)

pub kind_of : (o : Option ℕ) (s k : Lexeme) (m : ℕ) → option_map (with_lexeme s) o ≡ Some (m, k) → s ≡ k
kind_of None s k m h = cc
kind_of (Some n) s k m h = ap what h

too_short : (least most m : ℕ) (o : Option ℕ) → IsWithin least most o → o ≡ Some m → m < least → ⊥
too_short least most m None w e lt = cc
too_short least most m (Some n) w e lt = let same : n ≡ m = cc in omega arith

quote_by : (t1 t2 t3 : Bool) (x y x' y' : Option ℕ) (c m : ℕ) → (x ≡ Some m → x' ≡ Some m) → (y ≡ Some m → y' ≡ Some m)
    → cond t1 None (cond t2 x (cond t3 (Some c) y)) ≡ Some m → cond t1 None (cond t2 x' (cond t3 (Some c) y')) ≡ Some m
quote_by true t2 t3 x y x' y' c m f g h = h
quote_by false true t3 x y x' y' c m f g h = f h
quote_by false false true x y x' y' c m f g h = h
quote_by false false false x y x' y' c m f g h = g h

quote_stays : (n : ℕ) (e : Bool) (q back back' : List ℕ) (m : ℕ) → m ≡ n + length q → quote_end n e (q ++ back) ≡ Some m → quote_end n e (q ++ back') ≡ Some m
unfolding quote_end
quote_stays n e [] back back' m is h = absurd (too_short (n + 1) (n + length back) m (quote_end n e back) (quote_within n e back) h (omega arith))
quote_stays n e (b ∷ q) back back' m is h =
    quote_by (b == 10) e (b == 34) (quote_end (n + 1) false (q ++ back)) (quote_end (n + 1) (b == 92) (q ++ back)) (quote_end (n + 1) false (q ++ back')) (quote_end (n + 1) (b == 92) (q ++ back')) (n + 1) m
    (quote_stays (n + 1) false q back back' m (omega arith)) (quote_stays (n + 1) (b == 92) q back back' m (omega arith)) h

comment_by : (t : Bool) (x x' : Option ℕ) (c m : ℕ) → (x ≡ Some m → x' ≡ Some m) → cond t (Some c) x ≡ Some m → cond t (Some c) x' ≡ Some m
comment_by true x x' c m f h = h
comment_by false x x' c m f h = f h

pub comment_stays : (n : ℕ) (q back back' : List ℕ) (m : ℕ) → m ≡ n + length q → comment_end n (q ++ back) ≡ Some m → comment_end n (q ++ back') ≡ Some m
unfolding comment_end
comment_stays n [] back back' m is h = absurd (too_short (n + 2) (n + length back) m (comment_end n back) (comment_within n back) h (omega arith))
comment_stays n (a ∷ []) back back' m is h = absurd (too_short (n + 2) (n + length (a ∷ back)) m (comment_end n (a ∷ back)) (comment_within n (a ∷ back)) h (omega arith))
comment_stays n (a ∷ b ∷ q) back back' m is h =
    comment_by (a == 42 && b == 47) (comment_end (n + 1) (b ∷ (q ++ back))) (comment_end (n + 1) (b ∷ (q ++ back'))) (n + 2) m (comment_stays (n + 1) (b ∷ q) back back' m (omega arith)) h

-- a line's rest ends where the line does, which a soft beginning behind a token does not
line_runs : (k : Lexeme) (q back back' : List ℕ) → ((x : Kind) → k ≡ Token x → same_kind x kind.LeftOut ≡ false → ⊥) → Fits k back back' → prefix_len is_in_line (q ++ back) ≡ length q → prefix_len is_in_line (q ++ back') ≡ length q
line_runs k q back back' none fits h =
    ⊎_elim (λ (e : head back ≡ head back'). runs is_in_line q back back' h (subst (Stops is_in_line) e (stops is_in_line q back h)))
    (λ (s : (x : Kind) × (k ≡ Token x) × (same_kind x kind.LeftOut ≡ false) × (is_soft (head back') ≡ true)). absurd (none s.0 s.1 s.2)) fits

letter_stays : (b : ℕ) (q back back' : List ℕ) (k : Lexeme) → Fits k back back' → next_by true class.Letter b (q ++ back) ≡ Some (suc (length q), k) → next_by true class.Letter b (q ++ back') ≡ Some (suc (length q), k)
letter_stays b q back back' k fits e =
    let val : List ℕ → ℕ → Found = λ r n. Some (1 + n, Token (word_kind (b ∷ take n r))) in
    let size_is : 1 + prefix_len is_name_byte (q ++ back) ≡ suc (length q) = ap size e in
    let pl : prefix_len is_name_byte (q ++ back) ≡ length q = omega arith in
    let pl' : prefix_len is_name_byte (q ++ back') ≡ length q = soft_runs is_name_byte k q back back' refl refl fits pl in
    ap (val (q ++ back')) pl' ∙ ap (λ (t : List ℕ). let r : Found = Some (1 + length q, Token (word_kind (b ∷ t))) in r) (take-append_seam q back' ∙ sym (take-append_seam q back)) ∙ ap (val (q ++ back)) (sym pl) ∙ e

digit_stays : (b : ℕ) (q back back' : List ℕ) (k : Lexeme) → Fits k back back' → next_by true class.Digit b (q ++ back) ≡ Some (suc (length q), k) → next_by true class.Digit b (q ++ back') ≡ Some (suc (length q), k)
digit_stays b q back back' k fits e =
    let val : ℕ → Found = λ n. Some (1 + n, Token kind.Number) in
    let size_is : 1 + prefix_len is_digit (q ++ back) ≡ suc (length q) = ap size e in
    let pl : prefix_len is_digit (q ++ back) ≡ length q = omega arith in
    let pl' : prefix_len is_digit (q ++ back') ≡ length q = soft_runs is_digit k q back back' refl refl fits pl in
    ap val (pl' ∙ sym pl) ∙ e

quoted_stays : (b : ℕ) (q back back' : List ℕ) (k : Lexeme) → next_by true class.Quote b (q ++ back) ≡ Some (suc (length q), k) → next_by true class.Quote b (q ++ back') ≡ Some (suc (length q), k)
quoted_stays b q back back' k e =
    let end = end_of (quote_end 1 false (q ++ back)) (Token kind.Quoted) k (suc (length q)) e in
    let is = kind_of (quote_end 1 false (q ++ back)) (Token kind.Quoted) k (suc (length q)) e in
    ap (option_map (with_lexeme (Token kind.Quoted))) (quote_stays 1 false q back back' (suc (length q)) (omega arith) end) ∙ ap (λ (x : Lexeme). let r : Found = Some (suc (length q), x) in r) is

hash_stays : (f : Bool) (b : ℕ) (q back back' : List ℕ) (k : Lexeme) → Fits k back back' → hash f (q ++ back) ≡ Some (suc (length q), k) → hash f (q ++ back') ≡ Some (suc (length q), k)
hash_stays false b q back back' k fits e = cc
hash_stays true b q back back' k fits e =
    let marker : List ℕ → Lexeme = λ t. if is_line_mark t then Skipped else Token kind.LeftOut in
    let val : List ℕ → ℕ → Found = λ r n. Some (1 + n, marker (take n r)) in
    let size_is : 1 + prefix_len is_in_line (q ++ back) ≡ suc (length q) = ap size e in
    let pl : prefix_len is_in_line (q ++ back) ≡ length q = omega arith in
    let k_is : marker (take (prefix_len is_in_line (q ++ back)) (q ++ back)) ≡ k = ap what e in
    let pl' : prefix_len is_in_line (q ++ back') ≡ length q = line_runs k q back back' (λ x is kept. no_token (is_line_mark (take (prefix_len is_in_line (q ++ back)) (q ++ back))) k k_is x is kept) fits pl in
    ap (val (q ++ back')) pl' ∙ ap (λ (t : List ℕ). let r : Found = Some (1 + length q, marker t) in r) (take-append_seam q back' ∙ sym (take-append_seam q back)) ∙ ap (val (q ++ back)) (sym pl) ∙ e
  where
    no_token : (t : Bool) (k : Lexeme) → (if t then Skipped else Token kind.LeftOut) ≡ k → (x : Kind) → k ≡ Token x → same_kind x kind.LeftOut ≡ false → ⊥
    no_token true k e x is kept = cc
    no_token false k e x is kept = let same : x ≡ kind.LeftOut = cc in false≢true (sym kept ∙ ap (λ (y : Kind). same_kind y kind.LeftOut) same)

-- a `/` alone has neither `*` nor `/` behind it
abbrev goes_on : ℕ → Bool
goes_on b = b == 42 || b == 47

alone_by : (t1 t2 : Bool) (o : Option ℕ) (n most : ℕ) (k : Lexeme) → IsWithin 4 most o → cond t1 (option_map (with_lexeme Skipped) o) (cond t2 (Some (2 + n, Skipped)) (Some (1, Token kind.Slash))) ≡ Some (1, k) → ((t1 || t2) ≡ false) × (Token kind.Slash ≡ k)
alone_by true t2 o n most k w e = absurd (too_short 4 most 1 o w (end_of o Skipped k 1 e) (omega arith))
alone_by false true o n most k w e = let size_is : 2 + n ≡ 1 = ap size e in absurd (omega arith)
alone_by false false o n most k w e = (refl, ap what e)

alone : (back : List ℕ) (k : Lexeme) → slash back ≡ Some (1, k) → Stops goes_on (head back) × (Token kind.Slash ≡ k)
alone [] k e = (tt, ap what e)
alone (h ∷ r) k e = alone_by (h == 42) (h == 47) (comment_end 2 r) (prefix_len is_in_line r) (2 + length r) k (comment_within 2 r) e

plain_by : (t1 t2 : Bool) (x y : Found) → (t1 || t2) ≡ false → cond t1 x (cond t2 y (Some (1, Token kind.Slash))) ≡ Some (1, Token kind.Slash)
plain_by true t2 x y h = absurd (false≢true (sym h))
plain_by false true x y h = absurd (false≢true (sym h))
plain_by false false x y h = refl

plain : (back : List ℕ) → Stops goes_on (head back) → slash back ≡ Some (1, Token kind.Slash)
plain [] s = refl
plain (h ∷ r) s = plain_by (h == 42) (h == 47) _ _ s

long_by : (t1 t2 : Bool) (o o' : Option ℕ) (n n' m : ℕ) (k : Lexeme) → (o ≡ Some (suc (suc m)) → o' ≡ Some (suc (suc m))) → (2 + n ≡ suc (suc m) → Skipped ≡ k → n' ≡ n)
    → cond t1 (option_map (with_lexeme Skipped) o) (cond t2 (Some (2 + n, Skipped)) (Some (1, Token kind.Slash))) ≡ Some (suc (suc m), k)
    → cond t1 (option_map (with_lexeme Skipped) o') (cond t2 (Some (2 + n', Skipped)) (Some (1, Token kind.Slash))) ≡ Some (suc (suc m), k)
long_by true t2 o o' n n' m k f g e = ap (option_map (with_lexeme Skipped)) (f (end_of o Skipped k (suc (suc m)) e)) ∙ ap (λ (x : Lexeme). let r : Found = Some (suc (suc m), x) in r) (kind_of o Skipped k (suc (suc m)) e)
long_by false true o o' n n' m k f g e = ap (λ (x : ℕ). let r : Found = Some (2 + x, Skipped) in r) (g (ap size e) (ap what e)) ∙ e
long_by false false o o' n n' m k f g e = let size_is : 1 ≡ suc (suc m) = ap size e in absurd (omega arith)

slash_stays : (q back back' : List ℕ) (k : Lexeme) → Fits k back back' → slash (q ++ back) ≡ Some (suc (length q), k) → slash (q ++ back') ≡ Some (suc (length q), k)
slash_stays [] back back' k fits e =
    let a = alone back k e in
    let s : Stops goes_on (head back') =
    ⊎_elim (λ (h : head back ≡ head back'). subst (Stops goes_on) h a.0)
    (λ (s : (x : Kind) × (k ≡ Token x) × (same_kind x kind.LeftOut ≡ false) × (is_soft (head back') ≡ true)). soft_stops_by goes_on (head back') refl refl s.3) fits in
    plain back' s ∙ ap (λ (x : Lexeme). let r : Found = Some (1, x) in r) a.1
slash_stays (a ∷ q) back back' k fits e =
    long_by (a == 42) (a == 47) (comment_end 2 (q ++ back)) (comment_end 2 (q ++ back')) (prefix_len is_in_line (q ++ back)) (prefix_len is_in_line (q ++ back')) (length q) k
    (comment_stays 2 q back back' (suc (suc (length q))) (omega arith))
    (λ sz is.
    let pl : prefix_len is_in_line (q ++ back) ≡ length q = omega arith in
    line_runs k q back back' (λ x kx kept. cc) fits pl ∙ sym pl) e

no_true : (b : Bool) → (b ≡ true → ⊥) → b ≡ false
no_true true h = absurd (h refl)
no_true false h = refl

other_row : (r1 r2 b h : ℕ) → (r2 ≡ h → ⊥) → bytes_eq (r1 ∷ r2 ∷ []) (b ∷ h ∷ []) ≡ false
other_row r1 r2 b h ne = no_true _ (λ e. ne (let same : r1 ∷ r2 ∷ [] ≡ b ∷ h ∷ [] = (bytes_eq-Decides (r1 ∷ r2 ∷ []) (b ∷ h ∷ [])).0 e in cc))

pass_row : (t : Bool) (x y : Option Kind) → t ≡ false → y ≡ None → cond t x y ≡ None
pass_row true x y h g = absurd (false≢true (sym h))
pass_row false x y h g = g

-- no sign of two bytes has `;` or a blank at its end
soft_two : (b h : ℕ) → (h ≡ 59) ⊎ (h ≡ 32) → sign_of_two b h ≡ None
soft_two b h soft =
    let other : (r1 r2 : ℕ) → (r2 ≡ 59 → ⊥) → (r2 ≡ 32 → ⊥) → bytes_eq (r1 ∷ r2 ∷ []) (b ∷ h ∷ []) ≡ false = λ r1 r2 n m. other_row r1 r2 b h (λ e. ⊎_elim (λ (s : h ≡ 59). n (e ∙ s)) (λ (s : h ≡ 32). m (e ∙ s)) soft) in
    pass_row _ _ _ (other 45 62 (λ e. omega arith) (λ e. omega arith)) (pass_row _ _ _ (other 58 58 (λ e. omega arith) (λ e. omega arith)) (pass_row _ _ _ (other 46 46 (λ e. omega arith) (λ e. omega arith))
    (pass_row _ _ _ (other 43 43 (λ e. omega arith) (λ e. omega arith)) (pass_row _ _ _ (other 45 45 (λ e. omega arith) (λ e. omega arith)) (pass_row _ _ _ (other 60 60 (λ e. omega arith) (λ e. omega arith))
    (pass_row _ _ _ (other 62 62 (λ e. omega arith) (λ e. omega arith)) (pass_row _ _ _ (other 60 61 (λ e. omega arith) (λ e. omega arith)) (pass_row _ _ _ (other 62 61 (λ e. omega arith) (λ e. omega arith))
    (pass_row _ _ _ (other 61 61 (λ e. omega arith) (λ e. omega arith)) (pass_row _ _ _ (other 33 61 (λ e. omega arith) (λ e. omega arith)) (pass_row _ _ _ (other 38 38 (λ e. omega arith) (λ e. omega arith))
    (pass_row _ _ _ (other 124 124 (λ e. omega arith) (λ e. omega arith)) (pass_row _ _ _ (other 33 33 (λ e. omega arith) (λ e. omega arith)) (pass_row _ _ _ (other 63 63 (λ e. omega arith) (λ e. omega arith)) refl))))))))))))))

abbrev two : ℕ → Option ℕ → Option Kind
two b None = None
two b (Some h) = sign_of_two b h

sign_is : (b : ℕ) (back : List ℕ) → sign b back ≡ long_or_short (two b (head back)) (sign_of_one b)
sign_is b [] = refl
sign_is b (h ∷ r) = refl

none_two : (o p : Option Kind) (k : Lexeme) → long_or_short o p ≡ Some (1, k) → o ≡ None
none_two None p k e = refl
none_two (Some x) p k e = absurd (false≢true (sym (ap (λ (o : Found). eqb (size o) 2) e)))

soft_none : (b : ℕ) (o : Option ℕ) → is_soft o ≡ true → two b o ≡ None
soft_none b None h = refl
soft_none b (Some x) h = soft_two b x (soft_cases x h)

sign_stays : (b : ℕ) (q back back' : List ℕ) (k : Lexeme) → Fits k back back' → sign b (q ++ back) ≡ Some (suc (length q), k) → sign b (q ++ back') ≡ Some (suc (length q), k)
sign_stays b [] back back' k fits e =
    let here : long_or_short (two b (head back)) (sign_of_one b) ≡ Some (1, k) = sym (sign_is b back) ∙ e in
    let same : two b (head back') ≡ two b (head back) =
    ⊎_elim (λ (h : head back ≡ head back'). ap (two b) (sym h))
    (λ (s : (x : Kind) × (k ≡ Token x) × (same_kind x kind.LeftOut ≡ false) × (is_soft (head back') ≡ true)). soft_none b (head back') s.3 ∙ sym (none_two (two b (head back)) (sign_of_one b) k here)) fits in
    sign_is b back' ∙ ap (λ (o : Option Kind). long_or_short o (sign_of_one b)) same ∙ here
sign_stays b (a ∷ q) back back' k fits e = e

class_stays : (c : Class) (f : Bool) (b : ℕ) (q back back' : List ℕ) (k : Lexeme) → Fits k back back' → next_by f c b (q ++ back) ≡ Some (suc (length q), k) → next_by f c b (q ++ back') ≡ Some (suc (length q), k)
class_stays class.Blank f b q back back' k fits e = e
class_stays class.Letter f b q back back' k fits e = letter_stays b q back back' k fits e
class_stays class.Digit f b q back back' k fits e = digit_stays b q back back' k fits e
class_stays class.Quote f b q back back' k fits e = quoted_stays b q back back' k e
class_stays class.Slash f b q back back' k fits e = slash_stays q back back' k fits e
class_stays class.Hash f b q back back' k fits e = hash_stays f b q back back' k fits e
class_stays class.Other f b q back back' k fits e = sign_stays b q back back' k fits e

pub next_stays : (f : Bool) (q back back' : List ℕ) (k : Lexeme) → 0 < length q → Fits k back back' → next f (q ++ back) ≡ Some (length q, k) → next f (q ++ back') ≡ Some (length q, k)
unfolding next
next_stays f [] back back' k some fits e = absurd (omega arith)
next_stays f (b ∷ q) back back' k some fits e = class_stays (class_of b) f b q back back' k fits e
