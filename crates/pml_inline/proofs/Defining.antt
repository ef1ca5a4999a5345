-- The definition at a place of a text, test by test.
use Rattle.std.proofs.Common.{◌≡◌, ℕ, ◌+◌, ◌-◌, ◌*◌, ◌≤◌, Bool, true, false, not, ◌&&◌, cond, nat_eq, List, length, take, drop, Option, Some, None, refl, ap, sym, ◌∙◌, arith}
use Rattle.std.specs.Prelude.{option_and_then}
use Rattle.std.proofs.lemmas.List.{drop-drop, drop_all, get_or_past, drop-map, take-map, take_rest}
use Rattle.pml_token.specs.declared.token.Kind.TheVariants.{Name, OpenParen, OpenBrace, CloseBrace}
use Rattle.pml_token.specs.Word.{same_kind, Word}
use Rattle.promela_text.specs.Inlines.{has_inline, closing, Inline, parameter_names, listed, with_end, with_body, definition, all_differ}
use Rattle.pml_inline.proofs.Words.{with_parameters}
use Rattle.pml_inline.specs.Places.{no_word, word_at, words_of}
use Rattle.pml_inline.proofs.Lists.{begins_at, definition_is}

and_no : (b : Bool) → (b && false) ≡ false
and_no true = refl
and_no false = refl

module _ (ts : List Word) (from : ℕ) where
  abbrev named : Bool
  named = same_kind (word_at ts from).kind Name

  abbrev opened : Bool
  opened = same_kind (word_at ts (from + 1)).kind OpenParen

  abbrev with_all : Option Inline
  with_all = with_parameters (word_at ts from).text (drop (from + 2) ts) (parameter_names (drop (from + 2) ts))

  pub no_name : named ≡ false → definition (drop from ts) ≡ None
  no_name e = definition_is ts from ∙ ap (λ (b : Bool). cond (b && opened) with_all None) e

  pub no_paren : opened ≡ false → definition (drop from ts) ≡ None
  no_paren e = definition_is ts from ∙ ap (λ (b : Bool). cond (named && b) with_all None) e ∙ ap (λ (b : Bool). cond b with_all None) (and_no named)

  pub too_short : length ts ≤ from + 1 → definition (drop from ts) ≡ None
  too_short h = no_paren (ap (λ (w : Word). same_kind w.kind OpenParen) (get_or_past ts (from + 1) no_word h))

  both : named ≡ true → opened ≡ true → definition (drop from ts) ≡ with_all
  both e f = definition_is ts from ∙ ap (λ (b : Bool). cond (b && opened) with_all None) e ∙ ap (λ (b : Bool). cond b with_all None) f

  pub no_list : named ≡ true → opened ≡ true → parameter_names (drop (from + 2) ts) ≡ None → definition (drop from ts) ≡ None
  no_list e f g = both e f ∙ ap (with_parameters (word_at ts from).text (drop (from + 2) ts)) g

module _ (ts : List Word) (from start : ℕ) (ps : List (List ℕ)) (e : same_kind (word_at ts from).kind Name ≡ true) (f : same_kind (word_at ts (from + 1)).kind OpenParen ≡ true) (g : parameter_names (drop (from + 2) ts) ≡ Some ps) (is : start ≡ from + 2 + listed ps) where
  abbrev name : List ℕ
  name = (word_at ts from).text

  to_body : definition (drop from ts) ≡ with_body name ps (drop start ts)
  to_body = both ts from e f ∙ ap (with_parameters name (drop (from + 2) ts)) g
      ∙ ap (with_body name ps) (drop-drop (listed ps) (from + 2) ts ∙ ap (λ (k : ℕ). drop k ts) (sym is))

  pub no_start : length ts ≤ start → definition (drop from ts) ≡ None
  no_start h = to_body ∙ ap (with_body name ps) (drop_all start ts h)

  pub no_brace : same_kind (word_at ts start).kind OpenBrace ≡ false → definition (drop from ts) ≡ None
  no_brace h = to_body ∙ ap (λ (b : Bool). cond b (option_and_then (with_end name ps (drop start ts)) (closing OpenBrace CloseBrace (drop 1 (drop start ts)) 0)) None) (begins_at OpenBrace ts start refl ∙ h)

  to_end : (r : Option ℕ) → same_kind (word_at ts start).kind OpenBrace ≡ true → closing OpenBrace CloseBrace (drop (start + 1) ts) 0 ≡ r → definition (drop from ts) ≡ option_and_then (with_end name ps (drop start ts)) r
  to_end r h k = to_body ∙ ap (λ (b : Bool). cond b (option_and_then (with_end name ps (drop start ts)) (closing OpenBrace CloseBrace (drop 1 (drop start ts)) 0)) None) (begins_at OpenBrace ts start refl ∙ h)
      ∙ ap (option_and_then (with_end name ps (drop start ts))) (ap (λ (ws : List Word). closing OpenBrace CloseBrace ws 0) (drop-drop 1 start ts) ∙ k)

  pub no_end : same_kind (word_at ts start).kind OpenBrace ≡ true → closing OpenBrace CloseBrace (drop (start + 1) ts) 0 ≡ None → definition (drop from ts) ≡ None
  no_end h k = to_end None h k

  abbrev made : ℕ → Inline
  made n = record { name = name; parameters = ps; body = take (n + 2) (drop start ts); size = 2 + listed ps + (n + 2) }

  pub inline_inside : (n : ℕ) → same_kind (word_at ts start).kind OpenBrace ≡ true → closing OpenBrace CloseBrace (drop (start + 1) ts) 0 ≡ Some n → has_inline (take (n + 2) (drop start ts)) ≡ true → definition (drop from ts) ≡ None
  inline_inside n h k i = to_end (Some n) h k ∙ ap (λ (b : Bool). cond (all_differ ps && not b) (Some (made n)) None) i ∙ ap (λ (b : Bool). cond b (Some (made n)) None) (and_no (all_differ ps))

  pub twice_named : (n : ℕ) → same_kind (word_at ts start).kind OpenBrace ≡ true → closing OpenBrace CloseBrace (drop (start + 1) ts) 0 ≡ Some n → all_differ ps ≡ false → definition (drop from ts) ≡ None
  twice_named n h k i = to_end (Some n) h k ∙ ap (λ (b : Bool). cond (b && not (has_inline (take (n + 2) (drop start ts)))) (Some (made n)) None) i

  pub right : (n : ℕ) (name' : List ℕ) (body' : List Word) (size' : ℕ) → same_kind (word_at ts start).kind OpenBrace ≡ true → closing OpenBrace CloseBrace (drop (start + 1) ts) 0 ≡ Some n → has_inline (take (n + 2) (drop start ts)) ≡ false → all_differ ps ≡ true
      → name' ≡ name → body' ≡ take (n + 2) (drop start ts) → size' ≡ 2 + listed ps + (n + 2) → definition (drop from ts) ≡ Some (record { name = name'; parameters = ps; body = body'; size = size' })
  right n name' body' size' h k i d a b c =
      to_end (Some n) h k ∙ ap (λ (x : Bool). cond (all_differ ps && not x) (Some (made n)) None) i ∙ ap (λ (x : Bool). cond (x && true) (Some (made n)) None) d
      ∙ ap (λ (s : ℕ). Some (record { name = name; parameters = ps; body = take (n + 2) (drop start ts); size = s })) (sym c)
      ∙ ap (λ (x : List Word). Some (record { name = name; parameters = ps; body = x; size = size' })) (sym b)
      ∙ ap (λ (x : List ℕ). Some (record { name = x; parameters = ps; body = body'; size = size' })) (sym a)

-- ---- by places

rest_of : (ts : List Word) (ps : List ℕ) (k : ℕ) → words_of ts ps ≡ ts → words_of ts (drop k ps) ≡ drop k ts
rest_of ts ps k e = sym (drop-map (word_at ts) k ps) ∙ ap (drop k) e

pub brace_closing : (ts : List Word) (ps : List ℕ) (k : ℕ) (r : Option ℕ) → words_of ts ps ≡ ts → r ≡ closing OpenBrace CloseBrace (words_of ts (take (length ps - k) (drop k ps))) 0 → closing OpenBrace CloseBrace (drop k ts) 0 ≡ r
brace_closing ts ps k r e f =
    ap (λ (ws : List Word). closing OpenBrace CloseBrace ws 0) (sym (rest_of ts ps k e)) ∙ ap (λ (qs : List ℕ). closing OpenBrace CloseBrace (words_of ts qs) 0) (sym (take_rest ps k)) ∙ sym f

pub body_words : (ts : List Word) (ps : List ℕ) (start n : ℕ) → words_of ts ps ≡ ts → words_of ts (take (start + n + 2 - start) (drop start ps)) ≡ take (n + 2) (drop start ts)
body_words ts ps start n e =
    let k : start + n + 2 - start ≡ n + 2 = omega arith in
    ap (λ (j : ℕ). words_of ts (take j (drop start ps))) k ∙ sym (take-map (word_at ts) (n + 2) (drop start ps)) ∙ ap (take (n + 2)) (rest_of ts ps start e)

pub body_range : (ts : List Word) (start n : ℕ) → take (start + n + 2 - start) (drop start ts) ≡ take (n + 2) (drop start ts)
body_range ts start n = let k : start + n + 2 - start ≡ n + 2 = omega arith in ap (λ (j : ℕ). take j (drop start ts)) k

pub listed-code : (n m : ℕ) (names : List (List ℕ)) → m ≡ length names → n ≡ cond (nat_eq m 0) 1 (2 * m) → n ≡ listed names
listed-code n m names e f = f ∙ ap (λ (k : ℕ). cond (nat_eq k 0) 1 (2 * k)) e
