-- A text of tokens that grows.
use Rattle.std.proofs.Common.{◌≡◌, ◌∙◌, ap, sym, refl, subst, ℕ, ◌<◌, Bool, true, false, cond, ◌&&◌, not, List, [], ◌∷◌, ◌++◌, fold, length, IsUtf8, append_assoc, append-nil, arith, Option, Some, None}
use Rattle.std.proofs.lemmas.Bool.{true≢false, and_parts, not-true, eqb-true, eqb-false, leb-true, lt-ltb}
use Rattle.std.proofs.lemmas.Str.{IsUtf8-append, IsUtf8-nil}
use Rattle.std.specs.Prelude.{leb, nat_eq, slice_get}
use Rattle.std.specs.List.{list_all}
use Rattle.json.specs.Token.{Token, begin_object, end_object, begin_array, end_array, key, string, number, boolean, null, bad}
use Rattle.json.specs.Lex.{tokens, lex, punctuate}
use Rattle.json.specs.Word.{after_number}
use Rattle.json.specs.Print.{escape, escape_byte, quoted, token_text, begins, ends, ends_value, print, print_from, IsNumber, IsPrintable, ArePrintable}
use Rattle.json.proofs.Printed.Strings.{escape_byte_plain}
use Rattle.json.proofs.Printed.Tokens.{tokens-print, print_from_push, print_from-append, ends_push, ArePrintable-push}
use Rattle.json.proofs.Printed.Utf8.{are_ascii, IsUtf8-are_ascii, IsUtf8-quoted, IsUtf8-key}
use Rattle.view_tokens.specs.Printed.{Printed, string_of}
use Rattle.view_tokens.specs.Printing.{IsPrint, IsToken, is_bare, begins_first, may_begin}
use Rattle.view_tokens.proofs.Strings.{is_string}

-- what is seen of it
pub shows : (text : List ℕ) (b : Bool) (h : IsPrint text b) → tokens text ≡ h.printed
shows text b h = ap tokens h.is ∙ tokens-print h.printed h.printable

comma_utf8 : (b : Bool) → IsUtf8 (cond b (44 ∷ []) [])
comma_utf8 true = IsUtf8-are_ascii (44 ∷ []) refl
comma_utf8 false = IsUtf8-nil

pub nothing : IsPrint [] false
unfolding print_from ArePrintable
nothing = record { printed = []; printable = tt; is = refl; place = refl; utf8 = IsUtf8-nil }

abbrev pub shown : List Token → Bool → Printed
shown ts refused = record { tokens = ts; refused = refused }

pub nothing_shown : tokens [] ≡ []
unfolding lex punctuate
nothing_shown = refl

and_true : (b : Bool) → b ≡ b && true
and_true true = refl
and_true false = refl

-- a comma stands before what begins with a quotation mark
pub quoted_is : (text new bytes : List ℕ) (b : Bool) → new ≡ text ++ (cond b (44 ∷ []) [] ++ bytes) → new ≡ text ++ (cond (b && true) (44 ∷ []) [] ++ bytes)
quoted_is text new bytes b is = is ∙ ap (λ (c : Bool). text ++ (cond c (44 ∷ []) [] ++ bytes)) (and_true b)

pub one_text : (t : Token) → print (t ∷ []) ≡ token_text t
unfolding print_from
one_text t = append-nil (token_text t)

-- ---- one token more

module _ (text new bytes : List ℕ) (b first last : Bool) (t : Token) (h : IsPrint text b) (one : IsToken t bytes first last)
    (is : new ≡ text ++ (cond (b && first) (44 ∷ []) [] ++ bytes)) where
  pub grown : IsPrint new last
  grown = record {
    printed = h.printed ++ t ∷ [];
    printable = ArePrintable-push h.printed t h.printable one.printable;
    is = is ∙ (λ i. h.is i ++ (cond (h.place i && one.begins i) (44 ∷ []) [] ++ one.is i)) ∙ sym (print_from_push false h.printed t);
    place = one.ends ∙ sym (ends_push false h.printed t);
    utf8 = subst IsUtf8 (sym is) (IsUtf8-append text _ h.utf8 (IsUtf8-append (cond (b && first) (44 ∷ []) []) bytes (comma_utf8 (b && first)) one.utf8));
  }

  pub grown_tokens : tokens new ≡ tokens text ++ t ∷ []
  unfolding grown
  grown_tokens = shows new last grown ∙ ap (λ (l : List Token). l ++ t ∷ []) (sym (shows text b h))

-- ---- more tokens behind

separated : (b : Bool) (us : List Token) → print_from b us ≡ cond (b && begins_first us) (44 ∷ []) [] ++ print us
unfolding print_from
separated true [] = refl
separated false [] = refl
separated true (t ∷ us) = refl
separated false (t ∷ us) = refl

ends_append : (c : Bool) (ts us : List Token) → fold (λ _ u. ends u) c (ts ++ us) ≡ fold (λ _ u. ends u) (fold (λ _ u. ends u) c ts) us
ends_append c [] us = refl
ends_append c (t ∷ ts) us = ends_append (ends t) ts us

both_printable : (xs ys : List Token) → ArePrintable xs → ArePrintable ys → ArePrintable (xs ++ ys)
unfolding ArePrintable
both_printable [] ys none all = all
both_printable (x ∷ xs) ys all more = (all.0, both_printable xs ys all.1 more)

longer : (x : ℕ) (xs : List ℕ) → x ∷ xs ≡ [] → ⊥
longer x xs e = omega (arith, ap length e)

abbrev is_some : Option (List ℕ) → Bool
is_some None = false
is_some (Some x) = true

no_number : IsNumber [] → ⊥
unfolding after_number
no_number e = true≢false (sym (ap is_some e))

some_printed : (t : Token) (us : List Token) → IsPrintable t → print (t ∷ us) ≡ [] → ⊥
unfolding print_from
some_printed begin_object us h e = longer _ _ e
some_printed end_object us h e = longer _ _ e
some_printed begin_array us h e = longer _ _ e
some_printed end_array us h e = longer _ _ e
some_printed (key s) us h e = longer _ _ e
some_printed (string s) us h e = longer _ _ e
some_printed (number []) us h e = no_number h
some_printed (number (x ∷ s)) us h e = longer _ _ e
some_printed (boolean true) us h e = longer _ _ e
some_printed (boolean false) us h e = longer _ _ e
some_printed null us h e = longer _ _ e
some_printed bad us h e = h

none_printed : (us : List Token) → ArePrintable us → print us ≡ [] → us ≡ []
unfolding ArePrintable
none_printed [] h e = refl
none_printed (t ∷ us) h e = absurd (some_printed t us h.0 e)

-- where a value ends behind them: they are some, or none
ends_some : (b : Bool) (us : List Token) → ArePrintable us → (print us ≡ [] → ⊥) → fold (λ _ u. ends u) b us ≡ ends_value us
unfolding print_from
ends_some b [] h some = absurd (some refl)
ends_some b (t ∷ us) h some = refl

ends_none : (b : Bool) (us : List Token) → ArePrintable us → print us ≡ [] → fold (λ _ u. ends u) b us ≡ b
ends_none b us h none = ap (λ (l : List Token). fold (λ _ u. ends u) b l) (none_printed us h none)

module _ (text other new : List ℕ) (b c first last : Bool) (h : IsPrint text b) (k : IsPrint other c) (begin : first ≡ may_begin (slice_get other 0))
    (begins_is : may_begin (slice_get other 0) ≡ begins_first k.printed) (place : last ≡ fold (λ _ u. ends u) b k.printed)
    (is : new ≡ text ++ (cond (b && first) (44 ∷ []) [] ++ other)) where
  pub joined : IsPrint new last
  joined = record {
    printed = h.printed ++ k.printed;
    printable = both_printable h.printed k.printed h.printable k.printable;
    is = is ∙ (λ i. h.is i ++ (cond (h.place i && (begin ∙ begins_is) i) (44 ∷ []) [] ++ k.is i))
        ∙ ap (λ (l : List ℕ). print h.printed ++ l) (sym (separated (ends_value h.printed) k.printed)) ∙ sym (print_from-append false h.printed k.printed);
    place = place ∙ ap (λ (d : Bool). fold (λ _ u. ends u) d k.printed) h.place ∙ sym (ends_append false h.printed k.printed);
    utf8 = subst IsUtf8 (sym is) (IsUtf8-append text _ h.utf8 (IsUtf8-append (cond (b && first) (44 ∷ []) []) other (comma_utf8 (b && first)) k.utf8));
  }

  pub joined_tokens : tokens new ≡ tokens text ++ tokens other
  unfolding joined
  joined_tokens = shows new last joined ∙ (λ i. sym (shows text b h) i ++ sym (shows other c k) i)

pub place_some : (other : List ℕ) (b c : Bool) (k : IsPrint other c) → (other ≡ [] → ⊥) → c ≡ fold (λ _ u. ends u) b k.printed
place_some other b c k some = k.place ∙ sym (ends_some b k.printed k.printable (λ e. some (k.is ∙ e)))

pub place_none : (other : List ℕ) (b c : Bool) (k : IsPrint other c) → other ≡ [] → b ≡ fold (λ _ u. ends u) b k.printed
place_none other b c k none = sym (ends_none b k.printed k.printable (sym k.is ∙ none))

pub no_length : (l : List ℕ) → length l ≡ 0 → l ≡ []
no_length [] e = refl
no_length (x ∷ xs) e = absurd (omega (arith, e))

-- ---- how they begin

no_brace : (s : List ℕ) → IsNumber (125 ∷ s) → ⊥
unfolding after_number
no_brace s e = true≢false (sym (ap is_some e))

no_bracket : (s : List ℕ) → IsNumber (93 ∷ s) → ⊥
unfolding after_number
no_bracket s e = true≢false (sym (ap is_some e))

no_end : (x : ℕ) (s : List ℕ) → IsNumber (x ∷ s) → not (nat_eq x 125) && not (nat_eq x 93) ≡ true
no_end x s h = by (nat_eq x 125) (nat_eq x 93) refl refl
  where
    by : (p q : Bool) → nat_eq x 125 ≡ p → nat_eq x 93 ≡ q → not (nat_eq x 125) && not (nat_eq x 93) ≡ true
    by true q is other = absurd (no_brace s (subst (λ (y : ℕ). IsNumber (y ∷ s)) (eqb-true x 125 is) h))
    by false true is other = absurd (no_bracket s (subst (λ (y : ℕ). IsNumber (y ∷ s)) (eqb-true x 93 other) h))
    by false false is other = (λ i. not (is i) && not (other i))

first_begins : (t : Token) (us : List Token) → IsPrintable t → may_begin (slice_get (print (t ∷ us)) 0) ≡ begins t
unfolding print_from
first_begins begin_object us h = refl
first_begins end_object us h = refl
first_begins begin_array us h = refl
first_begins end_array us h = refl
first_begins (key s) us h = refl
first_begins (string s) us h = refl
first_begins (number []) us h = absurd (no_number h)
first_begins (number (x ∷ s)) us h = no_end x s h
first_begins (boolean true) us h = refl
first_begins (boolean false) us h = refl
first_begins null us h = refl
first_begins bad us h = absurd h

all_begin : (us : List Token) → ArePrintable us → may_begin (slice_get (print us) 0) ≡ begins_first us
unfolding print_from ArePrintable
all_begin [] h = refl
all_begin (t ∷ us) h = first_begins t us h.0

pub begins_so : (other : List ℕ) (c : Bool) (k : IsPrint other c) → may_begin (slice_get other 0) ≡ begins_first k.printed
begins_so other c k = ap (λ (l : List ℕ). may_begin (slice_get l 0)) k.is ∙ all_begin k.printed k.printable

-- ---- bytes that stand as they are

bare_byte : (x : ℕ) → is_bare x ≡ true → (escape_byte x ≡ x ∷ []) × (x < 128)
bare_byte x bare =
    let one = and_parts (leb 32 x) _ bare in
    let two = and_parts (leb x 126) _ one.1 in
    let three = and_parts (not (nat_eq x 34)) _ two.1 in
    let low = leb-true 32 x one.0 in
    let high = leb-true x 126 two.0 in (
      escape_byte_plain x (eqb-false x 34 (not-true (nat_eq x 34) three.0)) (eqb-false x 92 (not-true (nat_eq x 92) three.1)) low,
      omega (arith, high),
    )

bare_escape : (bs : List ℕ) → list_all is_bare bs ≡ true → escape bs ≡ bs
bare_escape [] all = refl
bare_escape (x ∷ xs) all =
    let parts = and_parts (is_bare x) _ all in
    (λ i. (bare_byte x parts.0).0 i ++ bare_escape xs parts.1 i)

bare_ascii : (bs : List ℕ) → list_all is_bare bs ≡ true → are_ascii bs ≡ true
bare_ascii [] all = refl
bare_ascii (x ∷ xs) all =
    let parts = and_parts (is_bare x) _ all in
    (λ i. lt-ltb x 128 (bare_byte x parts.0).1 i && bare_ascii xs parts.1 i)

bare_utf8 : (bs : List ℕ) → list_all is_bare bs ≡ true → IsUtf8 bs
bare_utf8 bs all = IsUtf8-are_ascii bs (bare_ascii bs all)

-- ---- tokens

pub is_begin_object : IsToken begin_object (123 ∷ []) true false
is_begin_object = record { is = refl; begins = refl; ends = refl; printable = tt; utf8 = IsUtf8-are_ascii (123 ∷ []) refl }

pub is_end_object : IsToken end_object (125 ∷ []) false true
is_end_object = record { is = refl; begins = refl; ends = refl; printable = tt; utf8 = IsUtf8-are_ascii (125 ∷ []) refl }

pub is_begin_array : IsToken begin_array (91 ∷ []) true false
is_begin_array = record { is = refl; begins = refl; ends = refl; printable = tt; utf8 = IsUtf8-are_ascii (91 ∷ []) refl }

pub is_end_array : IsToken end_array (93 ∷ []) false true
is_end_array = record { is = refl; begins = refl; ends = refl; printable = tt; utf8 = IsUtf8-are_ascii (93 ∷ []) refl }

pub is_null : IsToken null (110 ∷ 117 ∷ 108 ∷ 108 ∷ []) true true
is_null = record { is = refl; begins = refl; ends = refl; printable = tt; utf8 = IsUtf8-are_ascii (110 ∷ 117 ∷ 108 ∷ 108 ∷ []) refl }

pub is_true : IsToken (boolean true) (116 ∷ 114 ∷ 117 ∷ 101 ∷ []) true true
is_true = record { is = refl; begins = refl; ends = refl; printable = tt; utf8 = IsUtf8-are_ascii (116 ∷ 114 ∷ 117 ∷ 101 ∷ []) refl }

pub is_false : IsToken (boolean false) (102 ∷ 97 ∷ 108 ∷ 115 ∷ 101 ∷ []) true true
is_false = record { is = refl; begins = refl; ends = refl; printable = tt; utf8 = IsUtf8-are_ascii (102 ∷ 97 ∷ 108 ∷ 115 ∷ 101 ∷ []) refl }

pub is_number : (n bytes : List ℕ) → bytes ≡ n → IsNumber n → IsUtf8 bytes → IsToken (number n) bytes true true
is_number n bytes is so utf8 = record { is = is; begins = refl; ends = refl; printable = so; utf8 = utf8 }

-- a string with its escapes
pub is_escaped : (s bytes : List ℕ) → bytes ≡ token_text (string s) → IsUtf8 bytes → IsToken (string s) bytes true true
is_escaped s bytes is utf8 = record { is = is; begins = refl; ends = refl; printable = tt; utf8 = utf8 }

pub is_escaped_key : (s bytes : List ℕ) → bytes ≡ token_text (key s) → IsUtf8 bytes → IsToken (key s) bytes true false
is_escaped_key s bytes is utf8 = record { is = is; begins = refl; ends = refl; printable = tt; utf8 = utf8 }

-- one that needs none
pub is_bare_string : (s : List ℕ) → list_all is_bare s ≡ true → IsToken (string s) (34 ∷ (s ++ 34 ∷ [])) true true
is_bare_string s all =
    let is : 34 ∷ (s ++ 34 ∷ []) ≡ quoted s = ap (λ (l : List ℕ). 34 ∷ (l ++ 34 ∷ [])) (sym (bare_escape s all)) in
    is_escaped s (34 ∷ (s ++ 34 ∷ [])) is (subst IsUtf8 (sym is) (IsUtf8-quoted s (bare_utf8 s all)))

pub is_bare_key : (s : List ℕ) → list_all is_bare s ≡ true → IsToken (key s) (34 ∷ (s ++ 34 ∷ 58 ∷ [])) true false
is_bare_key s all =
    let is : 34 ∷ (s ++ 34 ∷ 58 ∷ []) ≡ quoted s ++ 58 ∷ [] =
    ap (λ (l : List ℕ). 34 ∷ l) (ap (λ (l : List ℕ). l ++ 34 ∷ 58 ∷ []) (sym (bare_escape s all)) ∙ sym (append_assoc (escape s) (34 ∷ []) (58 ∷ []))) in
    is_escaped_key s (34 ∷ (s ++ 34 ∷ 58 ∷ [])) is (subst IsUtf8 (sym is) (IsUtf8-key s (bare_utf8 s all)))

-- bytes that need none
pub is_bare_text : (s : List ℕ) → list_all is_bare s ≡ true → IsToken (string (string_of s)) (34 ∷ (s ++ 34 ∷ [])) true true
is_bare_text s all = subst (λ (l : List ℕ). IsToken (string l) (34 ∷ (s ++ 34 ∷ [])) true true) (sym (is_string s (bare_utf8 s all))) (is_bare_string s all)

pub is_bare_text_key : (s : List ℕ) → list_all is_bare s ≡ true → IsToken (key (string_of s)) (34 ∷ (s ++ 34 ∷ 58 ∷ [])) true false
is_bare_text_key s all = subst (λ (l : List ℕ). IsToken (key l) (34 ∷ (s ++ 34 ∷ 58 ∷ [])) true false) (sym (is_string s (bare_utf8 s all))) (is_bare_key s all)
