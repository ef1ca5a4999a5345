-- What is skipped stays so where another text stands behind it, and every lexeme stays one on a fresh line.
use Rattle.std.proofs.Common.{◌≡◌, ℕ, suc, ◌+◌, ◌<◌, Bool, true, false, not, cond, ◌&&◌, ◌||◌, List, [], ◌∷◌, ◌++◌, Option, Some, None, length, take, sym, refl, ap, ◌∙◌, subst, inl, ⊎_elim, arith}
use Rattle.std.specs.Prelude.{◌⊎◌, ◌==◌}
use Rattle.std.specs.List.{prefix_len}
use Rattle.std.specs.Option.{option_map}
use Rattle.std.proofs.lemmas.Bool.{false≢true}
use Rattle.std.proofs.lemmas.Bool.Decides.{nat_tests}
use Rattle.promela_text.specs.declared.lexeme.Class.{Class}
use Rattle.promela_text.specs.declared.lexeme.Class.TheVariants as class
use Rattle.promela_text.specs.declared.lexeme.Lexeme.{Lexeme}
use Rattle.promela_text.specs.declared.lexeme.Lexeme.TheVariants.{Skipped, Token}
use Rattle.pml_token.specs.declared.token.Kind.{Kind}
use Rattle.pml_token.specs.declared.token.Kind.TheVariants as kind
use Rattle.promela_text.specs.Tables.{word_kind}
use Rattle.profile.specs.Characters.{is_digit}
use Rattle.promela_text.specs.Tokens.{is_blank, is_letter, is_name_byte, is_in_line, class_of, fresh_from, is_line_feed}
use Rattle.pml_lex.specs.Scanning.{comment_end, quote_end, slash, sign, hash, long_or_short, next_by, next, sign_of_one, sign_of_two}
use Rattle.pml_lex.proofs.Ends.{IsWithin, comment_within}
use Rattle.prepare.proofs.Stays.{head, Stops, size, what, stops, comment_stays, end_of, next_stays}

-- what stands behind begins as before, or began with a byte that ends no line
abbrev pub Follows : List ℕ → List ℕ → Type 0
Follows back back' = (head back ≡ head back') ⊎ ((b : ℕ) × (head back ≡ Some b) × (is_line_feed b ≡ false))

in_line : (q back : List ℕ) (b : ℕ) → head back ≡ Some b → is_line_feed b ≡ false → prefix_len is_in_line (q ++ back) ≡ length q → ⊥
in_line q back b e here h = false≢true (sym (subst (Stops is_in_line) e (stops is_in_line q back h)) ∙ at here)
  where
    at : is_line_feed b ≡ false → is_in_line b ≡ true
    at x = ap not x

no_token : (n : Option ℕ) (x : Kind) (m : ℕ) → option_map (λ (i : ℕ). let r : ℕ × Lexeme = (i, Token x) in r) n ≡ Some (m, Skipped) → ⊥
no_token None x m e = cc
no_token (Some n) x m e = let same : Token x ≡ Skipped = ap what e in cc

slash_by : (t1 t2 : Bool) (o o' : Option ℕ) (n n' m : ℕ) → (o ≡ Some m → o' ≡ Some m) → (2 + n ≡ m → ⊥)
    → cond t1 (option_map (λ (i : ℕ). let r : ℕ × Lexeme = (i, Skipped) in r) o) (cond t2 (Some (2 + n, Skipped)) (Some (1, Token kind.Slash))) ≡ Some (m, Skipped)
    → cond t1 (option_map (λ (i : ℕ). let r : ℕ × Lexeme = (i, Skipped) in r) o') (cond t2 (Some (2 + n', Skipped)) (Some (1, Token kind.Slash))) ≡ Some (m, Skipped)
slash_by true t2 o o' n n' m f g e = ap (option_map (λ (i : ℕ). let r : ℕ × Lexeme = (i, Skipped) in r)) (f (end_of o Skipped Skipped m e))
slash_by false true o o' n n' m f g e = absurd (g (ap size e))
slash_by false false o o' n n' m f g e = let same : Token kind.Slash ≡ Skipped = ap what e in cc

slash_skips : (q back back' : List ℕ) (b : ℕ) → head back ≡ Some b → is_line_feed b ≡ false → slash (q ++ back) ≡ Some (suc (length q), Skipped) → slash (q ++ back') ≡ Some (suc (length q), Skipped)
slash_skips [] [] back' b h here e = cc
slash_skips [] (a ∷ r) back' b h here e = absurd (alone (a == 42) (a == 47) (comment_end 2 r) (prefix_len is_in_line r) (2 + length r) (comment_within 2 r) e)
  where
    alone : (t1 t2 : Bool) (o : Option ℕ) (n most : ℕ) → IsWithin 4 most o → cond t1 (option_map (λ (i : ℕ). let r : ℕ × Lexeme = (i, Skipped) in r) o) (cond t2 (Some (2 + n, Skipped)) (Some (1, Token kind.Slash))) ≡ Some (1, Skipped) → ⊥
    alone true t2 None n most w e = cc
    alone true t2 (Some i) n most w e = let same : i ≡ 1 = ap size e in absurd (omega arith)
    alone false true o n most w e = let same : 2 + n ≡ 1 = ap size e in absurd (omega arith)
    alone false false o n most w e = let same : Token kind.Slash ≡ Skipped = ap what e in cc
slash_skips (a ∷ q) back back' b h here e =
    slash_by (a == 42) (a == 47) (comment_end 2 (q ++ back)) (comment_end 2 (q ++ back')) (prefix_len is_in_line (q ++ back)) (prefix_len is_in_line (q ++ back')) (suc (suc (length q)))
    (comment_stays 2 q back back' (suc (suc (length q))) (omega arith)) (λ sz. in_line q back b h here (omega arith)) e

hash_skips : (f : Bool) (q back back' : List ℕ) (b : ℕ) → head back ≡ Some b → is_line_feed b ≡ false → hash f (q ++ back) ≡ Some (suc (length q), Skipped) → hash f (q ++ back') ≡ Some (suc (length q), Skipped)
hash_skips false q back back' b h here e = cc
hash_skips true q back back' b h here e =
    let size_is : 1 + prefix_len is_in_line (q ++ back) ≡ suc (length q) = ap size e in
    absurd (in_line q back b h here (omega arith))

sign_no_skip : (o p : Option Kind) (m : ℕ) → long_or_short o p ≡ Some (m, Skipped) → ⊥
sign_no_skip None None m e = cc
sign_no_skip None (Some k) m e = let same : Token k ≡ Skipped = ap what e in cc
sign_no_skip (Some x) p m e = let same : Token x ≡ Skipped = ap what e in cc

sign_skips : (b : ℕ) (q : List ℕ) (m : ℕ) → sign b q ≡ Some (m, Skipped) → ⊥
sign_skips b [] m e = sign_no_skip None (sign_of_one b) m e
sign_skips b (c ∷ q) m e = sign_no_skip (sign_of_two b c) (sign_of_one b) m e

class_skips : (c : Class) (f : Bool) (a : ℕ) (q back back' : List ℕ) (b : ℕ) → head back ≡ Some b → is_line_feed b ≡ false → next_by f c a (q ++ back) ≡ Some (suc (length q), Skipped) → next_by f c a (q ++ back') ≡ Some (suc (length q), Skipped)
class_skips class.Blank f a q back back' b h here e = e
class_skips class.Letter f a q back back' b h here e = let same : Token (word_kind (a ∷ take (prefix_len is_name_byte (q ++ back)) (q ++ back))) ≡ Skipped = ap what e in cc
class_skips class.Digit f a q back back' b h here e = let same : Token kind.Number ≡ Skipped = ap what e in cc
class_skips class.Quote f a q back back' b h here e = absurd (no_token (quote_end 1 false (q ++ back)) kind.Quoted (suc (length q)) e)
class_skips class.Slash f a q back back' b h here e = slash_skips q back back' b h here e
class_skips class.Hash f a q back back' b h here e = hash_skips f q back back' b h here e
class_skips class.Other f a q back back' b h here e = absurd (sign_skips a (q ++ back) (suc (length q)) e)

skips_by : (f : Bool) (q back back' : List ℕ) (b : ℕ) → 0 < length q → head back ≡ Some b → is_line_feed b ≡ false → next f (q ++ back) ≡ Some (length q, Skipped) → next f (q ++ back') ≡ Some (length q, Skipped)
unfolding next
skips_by f [] back back' b some h here e = absurd (omega arith)
skips_by f (a ∷ q) back back' b some h here e = class_skips (class_of a) f a q back back' b h here e

pub skip_stays : (f : Bool) (q back back' : List ℕ) → 0 < length q → Follows back back' → next f (q ++ back) ≡ Some (length q, Skipped) → next f (q ++ back') ≡ Some (length q, Skipped)
skip_stays f q back back' some follows e =
    ⊎_elim (λ (h : head back ≡ head back'). next_stays f q back back' Skipped some (inl h) e)
    (λ (h : (b : ℕ) × (head back ≡ Some b) × (is_line_feed b ≡ false)). skips_by f q back back' h.0 some h.1 h.2 e) follows

-- one is fresh where the other is
abbrev pub Least : Bool → Bool → Type 0
Least f f' = f ≡ true → f' ≡ true

class_fresher : (c : Class) (f f' : Bool) (b : ℕ) (q : List ℕ) (x : ℕ × Lexeme) → Least f f' → next_by f c b q ≡ Some x → next_by f' c b q ≡ Some x
class_fresher class.Hash true f' b q x l e = ap (λ (t : Bool). hash t q) (l refl) ∙ e
class_fresher class.Hash false f' b q x l e = cc
class_fresher class.Blank f f' b q x l e = e
class_fresher class.Letter f f' b q x l e = e
class_fresher class.Digit f f' b q x l e = e
class_fresher class.Quote f f' b q x l e = e
class_fresher class.Slash f f' b q x l e = e
class_fresher class.Other f f' b q x l e = e

-- what a scan finds it finds too where the line has only blanks
pub next_fresher : (f f' : Bool) (q : List ℕ) (x : ℕ × Lexeme) → Least f f' → next f q ≡ Some x → next f' q ≡ Some x
unfolding next
next_fresher f f' [] x l e = e
next_fresher f f' (b ∷ q) x l e = class_fresher (class_of b) f f' b q x l e

least_by : (a f f' b : Bool) → Least f f' → Least (a || (f && b)) (a || (f' && b))
least_by true f f' b l e = refl
least_by false true f' b l e = ap (λ (t : Bool). t && b) (l refl) ∙ e
least_by false false f' b l e = absurd (false≢true e)

pub least_from : (q : List ℕ) (f f' : Bool) → Least f f' → Least (fresh_from f q) (fresh_from f' q)
least_from [] f f' l = l
least_from (b ∷ q) f f' l = least_from q (is_line_feed b || (f && is_blank b)) (is_line_feed b || (f' && is_blank b)) (least_by (is_line_feed b) f f' (is_blank b) l)

blank_no_name : (b : ℕ) → is_blank b ≡ true → is_name_byte b ≡ false
blank_no_name b h = grind (arith, nat_tests)

skip_head_by : (t1 t2 t3 : Bool) (rest : Class) (f : Bool) (b : ℕ) (q : List ℕ) (n : ℕ) → (t1 ≡ true → (t2 || t3) ≡ false)
    → next_by f (cond t1 class.Blank (cond t2 class.Letter (cond t3 class.Digit rest))) b q ≡ Some (n, Skipped) → (t2 || t3) ≡ false
skip_head_by true t2 t3 rest f b q n h e = h refl
skip_head_by false true t3 rest f b q n h e = let same : Token (word_kind (b ∷ take (prefix_len is_name_byte q) q)) ≡ Skipped = ap what e in cc
skip_head_by false false true rest f b q n h e = let same : Token kind.Number ≡ Skipped = ap what e in cc
skip_head_by false false false rest f b q n h e = refl

-- what is skipped begins with no byte of a name
pub skip_head : (f : Bool) (b : ℕ) (q : List ℕ) (n : ℕ) → next f (b ∷ q) ≡ Some (n, Skipped) → is_name_byte b ≡ false
unfolding next
skip_head f b q n e = skip_head_by (is_blank b) (is_letter b) (is_digit b) _ f b q n (blank_no_name b) e

not_blank_by : (t : Bool) (rest : Class) (f : Bool) (b : ℕ) (q : List ℕ) (k : Kind) (n : ℕ) → next_by f (cond t class.Blank rest) b q ≡ Some (n, Token k) → t ≡ false
not_blank_by true rest f b q k n e = let same : Skipped ≡ Token k = ap what e in cc
not_blank_by false rest f b q k n e = refl

-- a token begins with no blank
pub token_head : (f : Bool) (b : ℕ) (q : List ℕ) (k : Kind) (n : ℕ) → next f (b ∷ q) ≡ Some (n, Token k) → is_blank b ≡ false
unfolding next
token_head f b q k n e = not_blank_by (is_blank b) _ f b q k n e

none_blank_by : (t : Bool) (rest : Class) (f : Bool) (b : ℕ) (q : List ℕ) → next_by f (cond t class.Blank rest) b q ≡ None → t ≡ false
none_blank_by true rest f b q e = cc
none_blank_by false rest f b q e = refl

-- where nothing is found, no blank stands
pub none_head : (f : Bool) (b : ℕ) (q : List ℕ) → next f (b ∷ q) ≡ None → is_blank b ≡ false
unfolding next
none_head f b q e = none_blank_by (is_blank b) _ f b q e

skipped_by : (t : Bool) (rest : Class) (f : Bool) (b : ℕ) (q : List ℕ) → t ≡ true → next_by f (cond t class.Blank rest) b q ≡ Some (1, Skipped)
skipped_by true rest f b q e = refl
skipped_by false rest f b q e = absurd (false≢true e)

-- a blank is skipped, whatever stands behind it
pub blank_skipped : (f : Bool) (b : ℕ) (q : List ℕ) → is_blank b ≡ true → next f (b ∷ q) ≡ Some (1, Skipped)
unfolding next
blank_skipped f b q h = skipped_by (is_blank b) _ f b q h
