-- What comes of a text's tokens is what the rules derive, and nothing else.
use Rattle.std.proofs.Common.{◌≡◌, ℕ, zero, suc, ◌+◌, ◌-◌, ◌<◌, ◌≤◌, Bool, true, false, List, [], ◌∷◌, ◌++◌, length, map, drop, Option, Some, None, refl, sym, ap, ◌∙◌, subst, arith, if◌then◌else◌, nat_le}
use Rattle.std.specs.Prelude.{◌&&◌, option_map}
use Rattle.std.proofs.lemmas.Bool.Decides.{nat_tests}
use Rattle.profile.specs.declared.TheConstants.{MOST_CALLS, MOST_REPLACED}
use Rattle.pml_token.specs.declared.token.Kind.TheVariants.{OpenParen, CloseParen}
use Rattle.pml_token.specs.Word.{Word}
use Rattle.promela_text.specs.Inlines.{is_inline, has_inline, is_name, begins_as, closing, Inline, all_differ, definition, callee, braces_behind}
use Rattle.pml_inline.specs.Expansion.{definition_turn, definitions, Given, join_given, itself, calling, defined, expansion, limited, outermost_call, text_turn, texts}
use Rattle.pml_inline.proofs.Words.{by_definitions, define, nothing, counted}
use Rattle.pml_inline.proofs.Lists.{definitions_passing, over_call}
use Rattle.promela_text.specs.Inlines.{inside_call, body_with, Leave, none_left, is_left, calls, defines, Expands}
use Rattle.pml_inline.specs.Expansion.{Gives}
use Rattle.pml_inline.proofs.Deriving.{call_right, are_answered, are_derived, some_is, not_some, join_parts, Replaced, call_is_right}

-- ---- lists

-- so much is given
abbrev given : List Word → ℕ → Option Given
given us c = Some (record { tokens = us; count = c })

given_is : (us : List Word) (c b : ℕ) → c ≡ b → given us c ≡ given us b
given_is us c b same = ap (given us) same

passing : (ws : List Word) (known ds : List Inline) (n k : ℕ) → texts ws known ds n k ≡ texts (drop k ws) known ds n 0
passing ws known ds n zero = refl
passing [] known ds n (suc k) = refl
passing (w ∷ ws) known ds n (suc k) = passing ws known ds n k

-- a call begins with a parenthesis behind its name
call_begins : (known : List Inline) (w : Word) (ws : List Word) (d : Inline) → callee known w ws ≡ Some d → begins_as OpenParen ws ≡ true
unfolding callee
call_begins known w ws d h = by (is_name w) (begins_as OpenParen ws) _ h
  where
    by : (a b : Bool) (o : Option Inline) → (if a && b then o else None) ≡ Some d → b ≡ true
    by true true o e = refl
    by true false o e = cc
    by false true o e = cc
    by false false o e = cc

-- the definitions behind a call are those of the text from it on
over : (known : List Inline) (w : Word) (ws : List Word) (d : Inline) (m : ℕ) → is_inline w ≡ false → callee known w ws ≡ Some d → closing OpenParen CloseParen (drop 1 ws) 0 ≡ Some m
    → has_inline (inside_call m ws) ≡ false → definitions (w ∷ ws) 0 ≡ definitions (drop (m + 2) ws) 0
over known w ws d m plain called closed none =
    let some : 0 < length (w ∷ ws) = omega arith in
    let behind : 0 + 3 + m ≡ suc (m + 2) = omega arith in
    over_call (w ∷ ws) 0 m some plain (call_begins known w ws d called) closed none ∙ ap (λ (k : ℕ). definitions (drop k (w ∷ ws)) 0) behind

-- ---- what is derived is answered

-- the definitions are those that are taken out
own_are : {known own : List Inline} {n c : ℕ} {ts us : List Word} → Leave known n ts own us c → definitions ts 0 ≡ Some own
own_are none_left = refl
own_are (is_left {w = w} {ws = ws} plain none rest) = ap (λ (b : Bool). definition_turn 0 b (definition ws) (definitions ws)) plain ∙ own_are rest
own_are (calls {known = known} {m = m} {w = w} {ws = ws} {d = d} plain called closed none right body rest) = over known w ws d m plain called closed none ∙ own_are rest
own_are (defines {w = w} {ws = ws} {d = d} here is rest) =
    ap (λ (b : Bool). definition_turn 0 b (definition ws) (definitions ws)) here ∙ ap (λ (o : Option Inline). define o (definitions ws)) is
    ∙ ap (option_map (λ ds. d ∷ ds)) (definitions_passing ws d.size ∙ own_are rest)

left_is : {known own : List Inline} {n c : ℕ} {ts us : List Word} → Leave known n ts own us c → texts ts known own n 0 ≡ Some (record { tokens = us; count = c })
left_is none_left = refl
left_is (is_left {known = known} {own = own} {n = n} {c = c} {w = w} {ws = ws} {us = us} plain none rest) =
    let same : 0 + c ≡ c = omega arith in
    ap (λ (b : Bool). text_turn 0 b (callee known w ws) w ws (texts ws) known own n 0) plain
    ∙ ap (λ (o : Option Inline). text_turn 0 false o w ws (texts ws) known own n 0) none
    ∙ ap (join_given (itself w)) (left_is rest) ∙ given_is (w ∷ us) (0 + c) c same
left_is (calls {known = known} {own = own} {n = n} {m = m} {a = a} {b = b} {w = w} {ws = ws} {us = us} {vs = vs} {d = d} plain called closed none right body rest) =
    let rest_is : Option Given = texts ws known own n (m + 2) in
    ap (λ (x : Bool). text_turn 0 x (callee known w ws) w ws (texts ws) known own n 0) plain
    ∙ ap (λ (o : Option Inline). text_turn 0 false o w ws (texts ws) known own n 0) called
    ∙ ap (outermost_call (calling known MOST_CALLS [] d) ws (texts ws known own n)) closed
    ∙ ap (λ (x : Bool). if x then None else join_given (calling known MOST_CALLS [] d (inside_call m ws)) rest_is) none
    ∙ ap (λ (o : Option Given). join_given o rest_is)
    (call_right known (MOST_CALLS - 1) [] d m ws right ∙ ap (join_given (counted (body_with d m ws))) (are_answered known (MOST_CALLS - 1) (d.name ∷ []) (body_with d m ws) us a body))
    ∙ ap (join_given (Some (record { tokens = us; count = length (body_with d m ws) + a }))) (passing ws known own n (m + 2) ∙ left_is rest)
left_is (defines {known = known} {own = own} {w = w} {ws = ws} {d = d} here is rest) =
    ap (λ (x : Bool). text_turn 0 x (callee known w ws) w ws (texts ws) known (d ∷ own) 0 0) here ∙ passing ws (known ++ d ∷ []) own 0 d.size ∙ left_is rest

within : (count : ℕ) → count ≤ MOST_REPLACED → nat_le count MOST_REPLACED ≡ true
within count few = grind (arith, nat_tests, few)

pub are_expansions : (ts us : List Word) → Expands ts us → Gives ts us
unfolding expansion
are_expansions ts us h =
    ap (by_definitions ts) (own_are h.leave)
    ∙ ap (λ (b : Bool). if b then limited (texts ts [] h.own 0 0) else None) h.apart
    ∙ ap limited (left_is h.leave)
    ∙ ap (λ (b : Bool). if b then Some us else None) (within h.count h.few)

-- ---- what is answered is derived

some_list : (xs ys : List Inline) → Some xs ≡ Some ys → xs ≡ ys
some_list xs ys e = cc

none_list : (xs : List Inline) → None ≡ Some xs → ⊥
none_list xs e = cc

-- the definitions from the word `inline` on
front_parts : (o : Option Inline) (ws : List Word) (ds : List Inline) → define o (definitions ws) ≡ Some ds
    → (d : Inline) × (own : List Inline) × (o ≡ Some d) × (definitions (drop d.size ws) 0 ≡ Some own) × (ds ≡ d ∷ own)
front_parts None ws ds e = absurd (none_list ds e)
front_parts (Some d) ws ds e = by (definitions ws d.size) refl e
  where
    by : (o : Option (List Inline)) → definitions ws d.size ≡ o → option_map (λ ds. d ∷ ds) o ≡ Some ds
        → (c : Inline) × (own : List Inline) × (Some d ≡ Some c) × (definitions (drop c.size ws) 0 ≡ Some own) × (ds ≡ c ∷ own)
    by None is h = absurd (none_list ds h)
    by (Some own) is h = (d, own, refl, sym (definitions_passing ws d.size) ∙ is, sym (some_list (d ∷ own) ds h))

-- a call outside all others is right, and what is answered comes of its body
call_is : (known : List Inline) (d : Inline) (m : ℕ) (ws : List Word) (g : Given) → calling known MOST_CALLS [] d (inside_call m ws) ≡ Some g → Replaced known MOST_CALLS [] d m ws g
call_is known d m ws g h = call_is_right known (MOST_CALLS - 1) [] d m ws g (λ x k. are_derived known (MOST_CALLS - 1) (d.name ∷ []) (body_with d m ws) x k) h

-- what is answered from a place on is derived
abbrev IsRead : List Word → Type 0
IsRead ws = (k : ℕ) (known ds : List Inline) (n : ℕ) (g : Given) → definitions (drop k ws) 0 ≡ Some ds → texts ws known ds n k ≡ Some g → Leave known n (drop k ws) ds g.tokens g.count

module _ (w : Word) (ws : List Word) (rest : IsRead ws) (known ds : List Inline) (n : ℕ) (g : Given) where
  at_definition : is_inline w ≡ true → definitions (w ∷ ws) 0 ≡ Some ds → texts (w ∷ ws) known ds n 0 ≡ Some g → Leave known n (w ∷ ws) ds g.tokens g.count
  at_definition here own h =
      let parts = front_parts (definition ws) ws ds (sym (ap (λ (b : Bool). definition_turn 0 b (definition ws) (definitions ws)) here) ∙ own) in
      let said : defined (texts ws) known ds n ≡ Some g = sym (ap (λ (x : Bool). text_turn 0 x (callee known w ws) w ws (texts ws) known ds n 0) here) ∙ h in
      subst (λ (l : List Inline). Leave known n (w ∷ ws) l g.tokens g.count) (sym parts.4)
      (outside n parts.0 parts.1 parts.2 parts.3 (subst (λ (l : List Inline). defined (texts ws) known l n ≡ Some g) parts.4 said))
    where
      outside : (braces : ℕ) (d : Inline) (own' : List Inline) → definition ws ≡ Some d → definitions (drop d.size ws) 0 ≡ Some own' → defined (texts ws) known (d ∷ own') braces ≡ Some g
          → Leave known braces (w ∷ ws) (d ∷ own') g.tokens g.count
      outside zero d own' is behind e = defines here is (rest d.size (known ++ d ∷ []) own' 0 g behind e)
      outside (suc m) d own' is behind e = absurd (not_some g e)

  at_token : is_inline w ≡ false → callee known w ws ≡ None → definitions (w ∷ ws) 0 ≡ Some ds → join_given (itself w) (texts ws known ds (braces_behind n w) 0) ≡ Some g
      → Leave known n (w ∷ ws) ds g.tokens g.count
  at_token plain none own h =
      let parts = join_parts (itself w) (texts ws known ds (braces_behind n w) 0) g h in
      let first : record { tokens = w ∷ []; count = 0 } ≡ parts.0 = some_is _ parts.0 parts.2 in
      let same : 0 + parts.1.count ≡ parts.1.count = omega arith in
      let is : record { tokens = w ∷ parts.1.tokens; count = 0 + parts.1.count } ≡ g =
      ap (λ (x : Given). record { tokens = x.tokens ++ parts.1.tokens; count = x.count + parts.1.count }) first ∙ sym parts.4 in
      let behind : definitions ws 0 ≡ Some ds = sym (ap (λ (b : Bool). definition_turn 0 b (definition ws) (definitions ws)) plain) ∙ own in
      subst (λ (y : Given). Leave known n (w ∷ ws) ds y.tokens y.count) is
      (subst (λ (c : ℕ). Leave known n (w ∷ ws) ds (w ∷ parts.1.tokens) c) (sym same) (is_left plain none (rest 0 known ds (braces_behind n w) parts.1 behind parts.3)))

  at_call : (d : Inline) → is_inline w ≡ false → callee known w ws ≡ Some d → definitions (w ∷ ws) 0 ≡ Some ds → (o : Option ℕ) → closing OpenParen CloseParen (drop 1 ws) 0 ≡ o
      → outermost_call (calling known MOST_CALLS [] d) ws (texts ws known ds n) o ≡ Some g → Leave known n (w ∷ ws) ds g.tokens g.count
  at_call d plain called own None closed h = absurd (not_some g h)
  at_call d plain called own (Some m) closed h = by (has_inline (inside_call m ws)) refl h
    where
      by : (b : Bool) → has_inline (inside_call m ws) ≡ b → (if b then None else join_given (calling known MOST_CALLS [] d (inside_call m ws)) (texts ws known ds n (m + 2))) ≡ Some g
          → Leave known n (w ∷ ws) ds g.tokens g.count
      by true inner e = absurd (not_some g e)
      by false inner e =
          let parts = join_parts (calling known MOST_CALLS [] d (inside_call m ws)) (texts ws known ds n (m + 2)) g e in
          let right = call_is known d m ws parts.0 parts.2 in
          let behind : definitions (drop (m + 2) ws) 0 ≡ Some ds = sym (over known w ws d m plain called closed inner) ∙ own in
          let whole = calls plain called closed inner right.0 right.1.1 (rest (m + 2) known ds n parts.1 behind parts.3) in
          subst (λ (y : Given). Leave known n (w ∷ ws) ds y.tokens y.count) (sym parts.4)
          (subst (λ (c : ℕ). Leave known n (w ∷ ws) ds (parts.0.tokens ++ parts.1.tokens) (c + parts.1.count)) (sym right.1.2) whole)

  at_first : definitions (w ∷ ws) 0 ≡ Some ds → texts (w ∷ ws) known ds n 0 ≡ Some g → Leave known n (w ∷ ws) ds g.tokens g.count
  at_first own h = by (is_inline w) refl
    where
      by_callee : is_inline w ≡ false → (o : Option Inline) → callee known w ws ≡ o → text_turn 0 false o w ws (texts ws) known ds n 0 ≡ Some g → Leave known n (w ∷ ws) ds g.tokens g.count
      by_callee plain None called e = at_token plain called own e
      by_callee plain (Some d) called e = at_call d plain called own (closing OpenParen CloseParen (drop 1 ws) 0) refl e

      by : (b : Bool) → is_inline w ≡ b → Leave known n (w ∷ ws) ds g.tokens g.count
      by true here = at_definition here own h
      by false here = by_callee here (callee known w ws) refl (sym (ap (λ (x : Bool). text_turn 0 x (callee known w ws) w ws (texts ws) known ds n 0) here) ∙ h)

at_end : (known ds : List Inline) (n : ℕ) (g : Given) → Some [] ≡ Some ds → nothing ≡ Some g → Leave known n [] ds g.tokens g.count
at_end known ds n g own h =
    let is : record { tokens = []; count = 0 } ≡ g = some_is _ g h in
    subst (λ (l : List Inline). Leave known n [] l g.tokens g.count) (some_list [] ds own) (subst (λ (y : Given). Leave known n [] [] y.tokens y.count) is none_left)

read : (ts : List Word) → IsRead ts
read [] zero known ds n g own h = at_end known ds n g own h
read [] (suc k) known ds n g own h = at_end known ds n g own h
read (w ∷ ws) (suc k) known ds n g own h = read ws k known ds n g own h
read (w ∷ ws) zero known ds n g own h = at_first w ws (read ws) known ds n g own h

few_are : (count : ℕ) → nat_le count MOST_REPLACED ≡ true → count ≤ MOST_REPLACED
few_are count few = grind (arith, nat_tests, few)

-- what is within the limit
limit_parts : (r : Option Given) (us : List Word) → limited r ≡ Some us → (g : Given) × (r ≡ Some g) × (g.tokens ≡ us) × (g.count ≤ MOST_REPLACED)
limit_parts None us h = cc
limit_parts (Some g) us h = by (nat_le g.count MOST_REPLACED) refl h
  where
    by : (b : Bool) → nat_le g.count MOST_REPLACED ≡ b → (if b then Some g.tokens else None) ≡ Some us → (x : Given) × (Some g ≡ Some x) × (x.tokens ≡ us) × (x.count ≤ MOST_REPLACED)
    by true few e = (g, refl, (let same : g.tokens ≡ us = cc in same), few_are g.count few)
    by false few e = cc

pub are_left : (ts us : List Word) → Gives ts us → Expands ts us
unfolding expansion
are_left ts us h = by (definitions ts 0) refl h
  where
    by_names : (ds : List Inline) → definitions ts 0 ≡ Some ds → (b : Bool) → all_differ (map (λ (d : Inline). d.name) ds) ≡ b → (if b then limited (texts ts [] ds 0 0) else None) ≡ Some us → Expands ts us
    by_names ds own true apart e =
        let parts = limit_parts (texts ts [] ds 0 0) us e in
        record {
          own = ds;
          count = parts.0.count;
          leave = subst (λ (l : List Word). Leave [] 0 ts ds l parts.0.count) parts.2 (read ts 0 [] ds 0 parts.0 own parts.1);
          apart = apart;
          few = parts.3;
        }
    by_names ds own false apart e = cc

    by : (o : Option (List Inline)) → definitions ts 0 ≡ o → by_definitions ts o ≡ Some us → Expands ts us
    by None own e = cc
    by (Some ds) own e = by_names ds own (all_differ (map (λ (d : Inline). d.name) ds)) refl e
