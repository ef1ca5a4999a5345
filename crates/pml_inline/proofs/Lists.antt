-- Laws of brackets, names and definitions, for the loops.
use Rattle.std.proofs.Common.{◌≡◌, ℕ, zero, suc, ◌+◌, ◌-◌, ◌<◌, ◌≤◌, Bool, true, false, ◌&&◌, ◌||◌, cond, nat_eq, List, [], ◌∷◌, ◌++◌, length, get_or, take, drop, map, Option, Some, None, refl, ap, sym, subst, ◌∙◌, ⊎_elim, rules, arith, add-one, append_assoc, append-nil}
use Rattle.std.specs.List.{onto_first}
use Rattle.std.specs.Prelude.{option_map}
use Rattle.std.proofs.lemmas.Bool.{cases_lt, false≢true}
use Rattle.std.proofs.lemmas.List.{drop_more, drop_all, get_or_past, get_or-drop, length-drop, drop-drop, take_more, take_rest, take-append-drop, length-append}
use Rattle.pml_token.specs.declared.token.Kind.{Kind}
use denote.Enum.Bare.{same_true}
use Rattle.pml_token.specs.contracts.token.Kind.{the_type}
use Rattle.pml_token.specs.declared.token.Kind.TheVariants.{Name, Inline as InlineWord, OpenParen, CloseParen, Comma, End}
use Rattle.pml_token.specs.Word.{same_kind, Word}
use Rattle.promela_text.specs.Inlines.{is_inline, has_inline, is_name, begins_as, to_closing, closing, level_behind, part_turn, parts, Inline, names, parameter_names, definition}
use Rattle.pml_inline.specs.Expansion.{definition_turn, definitions}
use Rattle.pml_inline.proofs.Words.{define, with_parameters}
use Rattle.pml_inline.specs.Places.{no_word, word_at, words_of, places_from}
use Rattle.std.specs.Borrow.{Bor}
use Rattle.pml_inline.specs.declared.definitions.Part.{Part}
use Rattle.pml_inline.specs.Parts.{lists_of, places_instead, places_replaced}

-- ---- places

places-more : (k n : ℕ) → places_from k (n + 1) ≡ places_from k n ++ (k + n) ∷ []
places-more k n = rw add-one (by_count k n)
  where
    by_count : (k n : ℕ) → places_from k (suc n) ≡ places_from k n ++ (k + n) ∷ []
    by_count k zero = let e : k ≡ k + 0 = omega arith in ap (λ (j : ℕ). j ∷ []) e
    by_count k (suc n) =
        let e : suc k + n ≡ k + suc n = omega arith in
        ap (λ (js : List ℕ). k ∷ js) (by_count (suc k) n ∙ ap (λ (j : ℕ). places_from (suc k) n ++ j ∷ []) e)

pub length-places : (k n : ℕ) → length (places_from k n) ≡ n
length-places k zero = refl
length-places k (suc n) = ap suc (length-places (suc k) n)

words-from : (before ts : List Word) (k : ℕ) → length before ≡ k → words_of (before ++ ts) (places_from k (length ts)) ≡ ts
words-from before [] k h = refl
words-from before (t ∷ ts) k h =
    let here : word_at (before ++ t ∷ ts) k ≡ t = at_end before t ts k h in
    let longer : length (before ++ t ∷ []) ≡ suc k = len before t k h in
    let same : (before ++ t ∷ []) ++ ts ≡ before ++ t ∷ ts = append_assoc before (t ∷ []) ts in
    let rest : words_of (before ++ t ∷ ts) (places_from (suc k) (length ts)) ≡ ts = subst (λ (xs : List Word). words_of xs (places_from (suc k) (length ts)) ≡ ts) same (words-from (before ++ t ∷ []) ts (suc k) longer) in
    ap (λ (w : Word). w ∷ words_of (before ++ t ∷ ts) (places_from (suc k) (length ts))) here ∙ ap (λ (ws : List Word). t ∷ ws) rest
  where
    at_end : (xs : List Word) (y : Word) (ys : List Word) (n : ℕ) → length xs ≡ n → get_or (xs ++ y ∷ ys) n no_word ≡ y
    at_end [] y ys zero e = refl
    at_end [] y ys (suc n) e = absurd (omega arith)
    at_end (x ∷ xs) y ys zero e = absurd (omega arith)
    at_end (x ∷ xs) y ys (suc n) e = at_end xs y ys n (omega arith)

    len : (xs : List Word) (y : Word) (n : ℕ) → length xs ≡ n → length (xs ++ y ∷ []) ≡ suc n
    len [] y n e = let f : 0 ≡ n = e in ap suc f
    len (x ∷ xs) y n e = ap suc (len xs y (length xs) refl) ∙ ap suc e

pub places-next : (n : ℕ) → places_from 0 (n + 1) ≡ places_from 0 n ++ n ∷ []
places-next n = let e : 0 + n ≡ n = omega arith in places-more 0 n ∙ ap (λ (j : ℕ). places_from 0 n ++ j ∷ []) e

-- all places are the whole text
pub words-whole : (ts : List Word) → words_of ts (places_from 0 (length ts)) ≡ ts
words-whole ts = words-from [] ts 0 refl

-- ---- brackets

abbrev pub plus : ℕ → Option ℕ → Option ℕ
plus n None = None
plus n (Some k) = Some (n + k)

-- the closing bracket is among the tokens
pub closing_within : (o c : Kind) (ws : List Word) (n k : ℕ) → closing o c ws n ≡ Some k → k < length ws
closing_within o c [] n k h = absurd cc
closing_within o c (w ∷ ws) n k h = by_turn (same_kind w.kind c) (same_kind w.kind o) n k h (λ m j e. closing_within o c ws m j e)
  where
    more : (o' : Option ℕ) (m : ℕ) → option_map suc o' ≡ Some m → ((j : ℕ) → o' ≡ Some j → j < length ws) → m < suc (length ws)
    more None m e f = absurd cc
    more (Some j) m e f = let g : suc j ≡ m = cc in let lt = f j refl in omega arith

    by_turn : (b d : Bool) (n k : ℕ) → to_closing b d (closing o c ws) n ≡ Some k → ((m j : ℕ) → closing o c ws m ≡ Some j → j < length ws) → k < suc (length ws)
    by_turn true d zero k e f = let g : 0 ≡ k = cc in omega arith
    by_turn true d (suc n) k e f = more (closing o c ws n) k e (f n)
    by_turn false true n k e f = more (closing o c ws (suc n)) k e (f (suc n))
    by_turn false false n k e f = more (closing o c ws n) k e (f n)

-- nor does it matter what stands behind it
pub closing_front : (o c : Kind) (ws : List Word) (n k : ℕ) → closing o c ws n ≡ Some k → closing o c (take (k + 1) ws) n ≡ Some k
closing_front o c ws n k h = rw add-one (by_list ws n k h)
  where
    more : (ws : List Word) (n m : ℕ) → option_map suc (closing o c ws n) ≡ Some m → ((k : ℕ) → closing o c ws n ≡ Some k → closing o c (take (suc k) ws) n ≡ Some k) → option_map suc (closing o c (take m ws) n) ≡ Some m
    more ws n m e f = by_option (closing o c ws n) refl e
      where
        by_option : (o' : Option ℕ) → closing o c ws n ≡ o' → option_map suc o' ≡ Some m → option_map suc (closing o c (take m ws) n) ≡ Some m
        by_option None is e = absurd cc
        by_option (Some j) is e =
            let g : suc j ≡ m = cc in
            ap (λ (x : ℕ). option_map suc (closing o c (take x ws) n)) (sym g) ∙ ap (option_map suc) (f j is) ∙ ap Some g

    by_turn : (b d : Bool) (ws : List Word) (n k : ℕ) → to_closing b d (closing o c ws) n ≡ Some k → ((n k : ℕ) → closing o c ws n ≡ Some k → closing o c (take (suc k) ws) n ≡ Some k) → to_closing b d (closing o c (take k ws)) n ≡ Some k
    by_turn true d ws zero k e f = e
    by_turn true d ws (suc n) k e f = more ws n k e (f n)
    by_turn false true ws n k e f = more ws (suc n) k e (f (suc n))
    by_turn false false ws n k e f = more ws n k e (f n)

    by_list : (ws : List Word) (n k : ℕ) → closing o c ws n ≡ Some k → closing o c (take (suc k) ws) n ≡ Some k
    by_list [] n k h = absurd cc
    by_list (w ∷ ws) n k h = by_turn (same_kind w.kind c) (same_kind w.kind o) ws n k h (λ m j e. by_list ws m j e)

-- ---- parts

-- tokens in front of the first part
abbrev pub in_front : List Word → List (List Word) → List (List Word)
in_front ws [] = ws ∷ []
in_front ws (p ∷ ps) = (ws ++ p) ∷ ps

pub front-put : (ws : List Word) (w : Word) (ps : List (List Word)) → in_front ws (onto_first w ps) ≡ in_front (ws ++ w ∷ []) ps
front-put ws w [] = refl
front-put ws w (p ∷ ps) = ap (λ (x : List Word). x ∷ ps) (sym (append_assoc ws (w ∷ []) p))

pub front-nil : (ws : List Word) (n : ℕ) → in_front [] (parts ws n) ≡ parts ws n
front-nil [] n = refl
front-nil (w ∷ ws) n = by_turn (same_kind w.kind Comma && nat_eq n 0)
  where
    of_put : (ps : List (List Word)) → in_front [] (onto_first w ps) ≡ onto_first w ps
    of_put [] = refl
    of_put (p ∷ ps) = refl

    by_turn : (b : Bool) → in_front [] (part_turn b w (parts ws) n) ≡ part_turn b w (parts ws) n
    by_turn true = refl
    by_turn false = of_put (parts ws (level_behind n w.kind))

pub range-more : (xs : List ℕ) (start at : ℕ) → start ≤ at → at < length xs → take (at + 1 - start) (drop start xs) ≡ take (at - start) (drop start xs) ++ get_or xs at 0 ∷ []
range-more xs start at h lt =
    let n : at + 1 - start ≡ at - start + 1 = omega arith in
    let k : start + (at - start) ≡ at = omega arith in
    let len : at - start < length (drop start xs) = simp length-drop (omega arith) in
    ap (λ (m : ℕ). take m (drop start xs)) n ∙ take_more (drop start xs) (at - start) 0 len
    ∙ ap (λ (p : ℕ). take (at - start) (drop start xs) ++ p ∷ []) (get_or-drop start xs (at - start) 0 ∙ ap (λ (m : ℕ). get_or xs m 0) k)

module _ (ts : List Word) (ps : List ℕ) where
  abbrev range : ℕ → ℕ → List Word
  range start at = words_of ts (take (at - start) (drop start ps))

  abbrev rest : ℕ → List Word
  rest at = words_of ts (drop at ps)

  abbrev here : ℕ → Word
  here at = word_at ts (get_or ps at 0)

  parts_at : (at n : ℕ) → at < length ps → parts (rest at) n ≡ part_turn (same_kind (here at).kind Comma && nat_eq n 0) (here at) (parts (rest (at + 1))) n
  parts_at at n h = ap (λ (qs : List ℕ). parts (words_of ts qs) n) (drop_more ps at 0 h)

  words-more : (start at : ℕ) → start ≤ at → at < length ps → range start (at + 1) ≡ range start at ++ here at ∷ []
  words-more start at h lt = ap (words_of ts) (range-more ps start at h lt) ∙ append_map (take (at - start) (drop start ps)) (get_or ps at 0)
    where
      append_map : (xs : List ℕ) (x : ℕ) → words_of ts (xs ++ x ∷ []) ≡ words_of ts xs ++ word_at ts x ∷ []
      append_map [] x = refl
      append_map (y ∷ ys) x = ap (λ (ws : List Word). word_at ts y ∷ ws) (append_map ys x)

  -- a comma that ends a part
  pub part_ends : (args : List (List Word)) (start at n : ℕ) → at < length ps → same_kind (here at).kind Comma ≡ true → n ≡ 0
      → args ++ in_front (range start at) (parts (rest at) n) ≡ (args ++ range start at ∷ []) ++ in_front (range (at + 1) (at + 1)) (parts (rest (at + 1)) n)
  part_ends args start at n h e z =
      let one : parts (rest at) n ≡ [] ∷ parts (rest (at + 1)) 0 =
      parts_at at n h ∙ ap (λ (b : Bool). part_turn (b && nat_eq n 0) (here at) (parts (rest (at + 1))) n) e
      ∙ ap (λ (m : ℕ). part_turn (true && nat_eq m 0) (here at) (parts (rest (at + 1))) m) z in
      let none : at + 1 - (at + 1) ≡ 0 = omega arith in
      let two : in_front (range (at + 1) (at + 1)) (parts (rest (at + 1)) n) ≡ parts (rest (at + 1)) 0 =
      ap (λ (m : ℕ). in_front (words_of ts (take m (drop (at + 1) ps))) (parts (rest (at + 1)) n)) none ∙ front-nil (rest (at + 1)) n ∙ ap (parts (rest (at + 1))) z in
      ap (λ (xs : List (List Word)). args ++ in_front (range start at) xs) one
      ∙ ap (λ (x : List Word). args ++ x ∷ parts (rest (at + 1)) 0) (append-nil (range start at))
      ∙ sym (append_assoc args (range start at ∷ []) (parts (rest (at + 1)) 0))
      ∙ ap (λ (xs : List (List Word)). (args ++ range start at ∷ []) ++ xs) (sym two)

  -- a token of a part
  pub part_goes_on : (args : List (List Word)) (start at n : ℕ) → start ≤ at → at < length ps → (same_kind (here at).kind Comma && nat_eq n 0) ≡ false
      → args ++ in_front (range start at) (parts (rest at) n) ≡ args ++ in_front (range start (at + 1)) (parts (rest (at + 1)) (level_behind n (here at).kind))
  part_goes_on args start at n le h e =
      ap (λ (xs : List (List Word)). args ++ in_front (range start at) xs) (parts_at at n h ∙ ap (λ (b : Bool). part_turn b (here at) (parts (rest (at + 1))) n) e)
      ∙ ap (λ (xs : List (List Word)). args ++ xs) (front-put (range start at) (here at) (parts (rest (at + 1)) (level_behind n (here at).kind)))
      ∙ ap (λ (ws : List Word). args ++ in_front ws (parts (rest (at + 1)) (level_behind n (here at).kind))) (sym (words-more start at le h))

  -- the last part
  pub part_last : (args : List (List Word)) (start at n : ℕ) → start ≤ at → at ≡ length ps → args ++ in_front (range start at) (parts (rest at) n) ≡ args ++ words_of ts (drop start ps) ∷ []
  part_last args start at n le e =
      let all : length ps ≤ at = omega arith in
      ap (λ (qs : List ℕ). args ++ in_front (range start at) (parts (words_of ts qs) n)) (drop_all at ps all)
      ∙ ap (λ (x : List Word). args ++ x ∷ []) (append-nil (range start at))
      ∙ ap (λ (m : ℕ). args ++ words_of ts (take (m - start) (drop start ps)) ∷ []) e
      ∙ ap (λ (qs : List ℕ). args ++ words_of ts qs ∷ []) (take_rest ps start)

pub lists-more : (ts : List Word) (vs : List (Bor (List ℕ))) (v : Bor (List ℕ)) → map (words_of ts) (lists_of (vs ++ v ∷ [])) ≡ map (words_of ts) (lists_of vs) ++ words_of ts v.now ∷ []
lists-more ts [] v = refl
lists-more ts (u ∷ vs) v = ap (λ (xs : List (List Word)). words_of ts u.now ∷ xs) (lists-more ts vs v)

replaced-append : (parts more : List Part) (args : List (List ℕ)) → places_replaced (parts ++ more) args ≡ places_replaced parts args ++ places_replaced more args
replaced-append [] more args = refl
replaced-append (p ∷ parts) more args =
    ap (λ (ps : List ℕ). places_instead args p.place p.parameter ++ ps) (replaced-append parts more args) ∙ sym (append_assoc (places_instead args p.place p.parameter) (places_replaced parts args) (places_replaced more args))

-- one token of a body more
pub replaced-more : (body : List Part) (args : List (List ℕ)) (i : ℕ) (d : Part) → i < length body
    → places_replaced (take (i + 1) body) args ≡ places_replaced (take i body) args ++ places_instead args (get_or body i d).place (get_or body i d).parameter
replaced-more body args i d h =
    ap (λ (ps : List Part). places_replaced ps args) (take_more body i d h) ∙ replaced-append (take i body) (get_or body i d ∷ []) args
    ∙ ap (λ (ps : List ℕ). places_replaced (take i body) args ++ ps) (append-nil (places_instead args (get_or body i d).place (get_or body i d).parameter))

-- what is replaced so far is no longer than all
pub replaced-part : (body : List Part) (args : List (List ℕ)) (i most : ℕ) → most < length (places_replaced (take i body) args) → most < length (places_replaced body args)
replaced-part body args i most h =
    let whole : places_replaced body args ≡ places_replaced (take i body) args ++ places_replaced (drop i body) args = ap (λ (ps : List Part). places_replaced ps args) (sym (take-append-drop i body)) ∙ replaced-append (take i body) (drop i body) args in
    let len : length (places_replaced body args) ≡ length (places_replaced (take i body) args) + length (places_replaced (drop i body) args) = ap length whole ∙ length-append (places_replaced (take i body) args) (places_replaced (drop i body) args) in
    omega arith

pub replaced-long : (body : List Part) (args : List (List ℕ)) (i most : ℕ) (d : Part) (old new : List ℕ) → i < length body → new ≡ old ++ places_instead args (get_or body i d).place (get_or body i d).parameter → old ≡ places_replaced (take i body) args → most < length new
    → most < length (places_replaced body args)
replaced-long body args i most d old new h e f long =
    let is : new ≡ places_replaced (take (i + 1) body) args = e ∙ ap (λ (ps : List ℕ). ps ++ places_instead args (get_or body i d).place (get_or body i d).parameter) f ∙ sym (replaced-more body args i d h) in
    replaced-part body args (i + 1) most (subst (λ (ps : List ℕ). most < length ps) is long)

-- ---- names and definitions

abbrev pub after_names : List (List ℕ) → Option (List (List ℕ)) → Option (List (List ℕ))
after_names ms None = None
after_names ms (Some ns) = Some (ms ++ ns)

pub after-and_name : (ms : List (List ℕ)) (n : List ℕ) (o : Option (List (List ℕ))) → after_names ms (option_map (λ ns. n ∷ ns) o) ≡ after_names (ms ++ n ∷ []) o
after-and_name ms n None = refl
after-and_name ms n (Some ns) = ap Some (sym (append_assoc ms (n ∷ []) ns))

pub after-none : (o : Option (List (List ℕ))) → after_names [] o ≡ o
after-none None = refl
after-none (Some ns) = refl

abbrev pub after_inlines : List Inline → Option (List Inline) → Option (List Inline)
after_inlines cs None = None
after_inlines cs (Some ds) = Some (cs ++ ds)

pub after-and_inline : (cs : List Inline) (d : Inline) (o : Option (List Inline)) → after_inlines cs (option_map (λ ds. d ∷ ds) o) ≡ after_inlines (cs ++ d ∷ []) o
after-and_inline cs d None = refl
after-and_inline cs d (Some ds) = ap Some (sym (append_assoc cs (d ∷ []) ds))

pub after-no_inlines : (o : Option (List Inline)) → after_inlines [] o ≡ o
after-no_inlines None = refl
after-no_inlines (Some ds) = refl

pub word_rest : (ts : List Word) (at : ℕ) → at < length ts → drop at ts ≡ word_at ts at ∷ drop (at + 1) ts
word_rest ts at h = drop_more ts at no_word h

pub begins_at : (k : Kind) (ts : List Word) (at : ℕ) → same_kind End k ≡ false → begins_as k (drop at ts) ≡ same_kind (word_at ts at).kind k
begins_at k ts at e = ⊎_elim
    (λ (lt : at < length ts). ap (begins_as k) (word_rest ts at lt))
    (λ (le : length ts ≤ at). ap (begins_as k) (drop_all at ts le) ∙ sym e ∙ ap (λ (w : Word). same_kind w.kind k) (sym (get_or_past ts at no_word le)))
    (cases_lt at (length ts))

abbrev pub names_by : Word → Word → Option (List (List ℕ)) → Option (List (List ℕ))
names_by w v o = cond (is_name w) (cond (same_kind v.kind CloseParen) (Some (w.text ∷ [])) (cond (same_kind v.kind Comma) (option_map (λ ns. w.text ∷ ns) o) None)) None

pub names_at : (ts : List Word) (at : ℕ) → at + 1 < length ts → names (drop at ts) ≡ names_by (word_at ts at) (word_at ts (at + 1)) (names (drop (at + 2) ts))
names_at ts at h =
    let n : at + 1 + 1 ≡ at + 2 = omega arith in
    let two : drop at ts ≡ word_at ts at ∷ word_at ts (at + 1) ∷ drop (at + 2) ts =
    word_rest ts at (omega arith) ∙ ap (λ (ws : List Word). word_at ts at ∷ ws) (word_rest ts (at + 1) h ∙ ap (λ (m : ℕ). word_at ts (at + 1) ∷ drop m ts) n) in
    ap names two

names_short : (ws : List Word) → length ws ≤ 1 → names ws ≡ None
names_short [] h = refl
names_short (w ∷ []) h = refl
names_short (w ∷ v ∷ ws) h = absurd (omega arith)

pub names_end : (ts : List Word) (at : ℕ) → length ts ≤ at + 1 → names (drop at ts) ≡ None
names_end ts at h = names_short (drop at ts) (simp length-drop (omega arith))

-- tokens that are passed over
pub definitions_passing : (ws : List Word) (n : ℕ) → definitions ws n ≡ definitions (drop n ws) 0
definitions_passing ws zero = refl
definitions_passing [] (suc n) = refl
definitions_passing (w ∷ ws) (suc n) = definitions_passing ws n

pub definitions_at : (ts : List Word) (at : ℕ) → at < length ts → definitions (drop at ts) 0 ≡ definition_turn 0 (is_inline (word_at ts at)) (definition (drop (at + 1) ts)) (definitions (drop (at + 1) ts))
definitions_at ts at h = ap (λ (ws : List Word). definitions ws 0) (word_rest ts at h)

pub undefined_at : (ts : List Word) (at : ℕ) (cs : List Inline) → at < length ts → is_inline (word_at ts at) ≡ true → definition (drop (at + 1) ts) ≡ None → after_inlines cs (definitions (drop at ts) 0) ≡ None
undefined_at ts at cs h i e =
    ap (after_inlines cs) (definitions_at ts at h ∙ ap (λ (b : Bool). definition_turn 0 b (definition (drop (at + 1) ts)) (definitions (drop (at + 1) ts))) i
    ∙ ap (λ (o : Option Inline). define o (definitions (drop (at + 1) ts))) e)

defined_rest : (ts : List Word) (at : ℕ) (d : Inline) → at < length ts → is_inline (word_at ts at) ≡ true → definition (drop (at + 1) ts) ≡ Some d → definitions (drop at ts) 0 ≡ option_map (λ ds. d ∷ ds) (definitions (drop (at + d.size + 1) ts) 0)
defined_rest ts at d h i e =
    let n : at + 1 + d.size ≡ at + d.size + 1 = omega arith in
    definitions_at ts at h ∙ ap (λ (b : Bool). definition_turn 0 b (definition (drop (at + 1) ts)) (definitions (drop (at + 1) ts))) i
    ∙ ap (λ (o : Option Inline). define o (definitions (drop (at + 1) ts))) e
    ∙ ap (option_map (λ ds. d ∷ ds)) (definitions_passing (drop (at + 1) ts) d.size ∙ ap (λ (ws : List Word). definitions ws 0) (drop-drop d.size (at + 1) ts ∙ ap (λ (m : ℕ). drop m ts) n))

pub defined_at : (ts : List Word) (at : ℕ) (cs : List Inline) (d : Inline) → at < length ts → is_inline (word_at ts at) ≡ true → definition (drop (at + 1) ts) ≡ Some d
    → after_inlines cs (definitions (drop at ts) 0) ≡ after_inlines (cs ++ d ∷ []) (definitions (drop (at + d.size + 1) ts) 0)
defined_at ts at cs d h i e = ap (after_inlines cs) (defined_rest ts at d h i e) ∙ after-and_inline cs d (definitions (drop (at + d.size + 1) ts) 0)

pub not_defined_at : (ts : List Word) (at : ℕ) → at < length ts → is_inline (word_at ts at) ≡ false → definitions (drop at ts) 0 ≡ definitions (drop (at + 1) ts) 0
not_defined_at ts at h i = definitions_at ts at h ∙ ap (λ (b : Bool). definition_turn 0 b (definition (drop (at + 1) ts)) (definitions (drop (at + 1) ts))) i

pub definitions_end : (ts : List Word) (at : ℕ) (cs : List Inline) → length ts ≤ at → after_inlines cs (definitions (drop at ts) 0) ≡ Some cs
definitions_end ts at cs h = ap (λ (ws : List Word). after_inlines cs (definitions ws 0)) (drop_all at ts h) ∙ ap Some (append-nil cs)

-- the definition at a place, part by part
pub definition_is : (ts : List Word) (from : ℕ)
    → definition (drop from ts) ≡ cond (same_kind (word_at ts from).kind Name && same_kind (word_at ts (from + 1)).kind OpenParen) (with_parameters (word_at ts from).text (drop (from + 2) ts) (parameter_names (drop (from + 2) ts))) None
unfolding definition
definition_is ts from = ⊎_elim
    (λ (lt : from < length ts).
    let n : from + 1 + 1 ≡ from + 2 = omega arith in
    let two : drop 1 (drop (from + 1) ts) ≡ drop (from + 2) ts = drop-drop 1 (from + 1) ts ∙ ap (λ (m : ℕ). drop m ts) n in
    ap definition (word_rest ts from lt)
    ∙ ap (λ (b : Bool). cond (same_kind (word_at ts from).kind Name && b) (with_parameters (word_at ts from).text (drop 1 (drop (from + 1) ts)) (parameter_names (drop 1 (drop (from + 1) ts)))) None) (begins_at OpenParen ts (from + 1) refl)
    ∙ ap (λ (ws : List Word). cond (same_kind (word_at ts from).kind Name && same_kind (word_at ts (from + 1)).kind OpenParen) (with_parameters (word_at ts from).text ws (parameter_names ws)) None) two)
    (λ (le : length ts ≤ from).
    let none : word_at ts from ≡ no_word = get_or_past ts from no_word le in
    ap definition (drop_all from ts le)
    ∙ ap (λ (w : Word). cond (same_kind w.kind Name && same_kind (word_at ts (from + 1)).kind OpenParen) (with_parameters (word_at ts from).text (drop (from + 2) ts) (parameter_names (drop (from + 2) ts))) None) (sym none))
    (cases_lt from (length ts))

-- ---- a call is passed over

closer_is : (w : Word) → same_kind w.kind CloseParen ≡ true → is_inline w ≡ false
unfolding is_inline
closer_is w e = ap (λ (j : Kind). same_kind j InlineWord) (same_true the_type (search rules) w.kind CloseParen e)

opener_is : (w : Word) → same_kind w.kind OpenParen ≡ true → is_inline w ≡ false
unfolding is_inline
opener_is w e = ap (λ (j : Kind). same_kind j InlineWord) (same_true the_type (search rules) w.kind OpenParen e)

over_token : (w : Word) (ws : List Word) → is_inline w ≡ false → definitions (w ∷ ws) 0 ≡ definitions ws 0
over_token w ws e = ap (λ (b : Bool). definition_turn 0 b (definition ws) (definitions ws)) e

over_closing : (ws : List Word) (n k : ℕ) → closing OpenParen CloseParen ws n ≡ Some k → has_inline (take k ws) ≡ false → definitions ws 0 ≡ definitions (drop (suc k) ws) 0
over_closing [] n k e h = absurd cc
over_closing (w ∷ ws) n k e h = by_turn (same_kind w.kind CloseParen) (same_kind w.kind OpenParen) n k refl e h (λ m j f g. over_closing ws m j f g)
  where
    neither : (b c : Bool) → (b || c) ≡ false → (b ≡ false) × (c ≡ false)
    neither true c e = absurd (false≢true (sym e))
    neither false c e = (refl, e)

    more : (o : Option ℕ) (k : ℕ) → option_map suc o ≡ Some k → has_inline (take k (w ∷ ws)) ≡ false → ((j : ℕ) → o ≡ Some j → has_inline (take j ws) ≡ false → definitions ws 0 ≡ definitions (drop (suc j) ws) 0)
        → definitions (w ∷ ws) 0 ≡ definitions (drop (suc k) (w ∷ ws)) 0
    more None k e h f = absurd cc
    more (Some j) k e h f =
        let is : suc j ≡ k = cc in
        let both : (is_inline w ≡ false) × (has_inline (take j ws) ≡ false) = neither (is_inline w) (has_inline (take j ws)) (ap (λ (m : ℕ). has_inline (take m (w ∷ ws))) is ∙ h) in
        over_token w ws both.0 ∙ f j refl both.1 ∙ ap (λ (m : ℕ). definitions (drop m ws) 0) is

    by_turn : (b c : Bool) (n k : ℕ) → b ≡ same_kind w.kind CloseParen → to_closing b c (closing OpenParen CloseParen ws) n ≡ Some k → has_inline (take k (w ∷ ws)) ≡ false
        → ((m j : ℕ) → closing OpenParen CloseParen ws m ≡ Some j → has_inline (take j ws) ≡ false → definitions ws 0 ≡ definitions (drop (suc j) ws) 0) → definitions (w ∷ ws) 0 ≡ definitions (drop (suc k) (w ∷ ws)) 0
    by_turn true c zero k is e h f = let z : 0 ≡ k = cc in over_token w ws (closer_is w (sym is)) ∙ ap (λ (m : ℕ). definitions (drop m ws) 0) z
    by_turn true c (suc n) k is e h f = more (closing OpenParen CloseParen ws n) k e h (f n)
    by_turn false true n k is e h f = more (closing OpenParen CloseParen ws (suc n)) k e h (f (suc n))
    by_turn false false n k is e h f = more (closing OpenParen CloseParen ws n) k e h (f n)

-- the definitions behind a call are those behind its name
pub over_call : (ts : List Word) (at n : ℕ) → at < length ts → is_inline (word_at ts at) ≡ false → begins_as OpenParen (drop (at + 1) ts) ≡ true → closing OpenParen CloseParen (drop (at + 2) ts) 0 ≡ Some n
    → has_inline (take n (drop (at + 2) ts)) ≡ false → definitions (drop at ts) 0 ≡ definitions (drop (at + 3 + n) ts) 0
over_call ts at n h i open' e f =
    let k : at + 2 + suc n ≡ at + 3 + n = omega arith in
    let two : at + 1 + 1 ≡ at + 2 = omega arith in
    ap (λ (ws : List Word). definitions ws 0) (word_rest ts at h) ∙ over_token (word_at ts at) (drop (at + 1) ts) i
    ∙ by_list (drop (at + 1) ts) open' ∙ ap (λ (ws : List Word). definitions ws 0) (drop-drop 1 (at + 1) ts ∙ ap (λ (m : ℕ). drop m ts) two)
    ∙ over_closing (drop (at + 2) ts) 0 n e f ∙ ap (λ (ws : List Word). definitions ws 0) (drop-drop (suc n) (at + 2) ts ∙ ap (λ (m : ℕ). drop m ts) k)
  where
    by_list : (ws : List Word) → begins_as OpenParen ws ≡ true → definitions ws 0 ≡ definitions (drop 1 ws) 0
    by_list [] e = absurd (false≢true e)
    by_list (w ∷ ws) e = over_token w ws (opener_is w e)

-- a definition is no longer than what is behind it
pub front_of : (ts : List Word) (at : ℕ) (d : Inline) (ds : List Inline) → at < length ts → is_inline (word_at ts at) ≡ true → definitions (drop at ts) 0 ≡ Some (d ∷ ds) → definitions (drop (at + (1 + d.size)) ts) 0 ≡ Some ds
front_of ts at d ds h i e =
    by_definition (definition (drop (at + 1) ts)) refl
    (sym (definitions_at ts at h ∙ ap (λ (b : Bool). definition_turn 0 b (definition (drop (at + 1) ts)) (definitions (drop (at + 1) ts))) i) ∙ e)
  where
    parts : (c : Inline) (o : Option (List Inline)) → option_map (λ ds. c ∷ ds) o ≡ Some (d ∷ ds) → (c ≡ d) × (o ≡ Some ds)
    parts c None e = absurd cc
    parts c (Some cs) e = let list : c ∷ cs ≡ d ∷ ds = cc in let a : c ≡ d = cc in let b : cs ≡ ds = cc in (a, ap Some b)

    by_definition : (o : Option Inline) → definition (drop (at + 1) ts) ≡ o → define (definition (drop (at + 1) ts)) (definitions (drop (at + 1) ts)) ≡ Some (d ∷ ds) → definitions (drop (at + (1 + d.size)) ts) 0 ≡ Some ds
    by_definition None is f = absurd (no (ap (λ (o : Option Inline). define o (definitions (drop (at + 1) ts))) (sym is) ∙ f))
      where
        no : None ≡ Some (d ∷ ds) → ⊥
        no g = cc
    by_definition (Some c) is f =
        let both = parts c (definitions (drop (at + 1) ts) c.size) (ap (λ (o : Option Inline). define o (definitions (drop (at + 1) ts))) (sym is) ∙ f) in
        let n : at + 1 + d.size ≡ at + (1 + d.size) = omega arith in
        ap (λ (m : ℕ). definitions (drop m ts) 0) (sym n) ∙ ap (λ (ws : List Word). definitions ws 0) (sym (drop-drop d.size (at + 1) ts)) ∙ sym (definitions_passing (drop (at + 1) ts) d.size)
        ∙ ap (λ (x : Inline). definitions (drop (at + 1) ts) x.size) (sym both.0) ∙ both.1

pub none_left : (ts : List Word) (at : ℕ) → at < length ts → is_inline (word_at ts at) ≡ true → definitions (drop at ts) 0 ≡ Some [] → ⊥
none_left ts at h i e =
    by_definition (definition (drop (at + 1) ts)) (sym (definitions_at ts at h ∙ ap (λ (b : Bool). definition_turn 0 b (definition (drop (at + 1) ts)) (definitions (drop (at + 1) ts))) i) ∙ e)
  where
    some : (c : Inline) (o : Option (List Inline)) → option_map (λ ds. c ∷ ds) o ≡ Some [] → ⊥
    some c None f = cc
    some c (Some cs) f = no cc
      where
        no : c ∷ cs ≡ [] → ⊥
        no g = cc

    by_definition : (o : Option Inline) → define o (definitions (drop (at + 1) ts)) ≡ Some [] → ⊥
    by_definition None f = cc
    by_definition (Some c) f = some c (definitions (drop (at + 1) ts) c.size) f

-- ---- names

pub names_step : (ts : List Word) (at : ℕ) (ms : List (List ℕ)) → at + 1 < length ts → same_kind (word_at ts at).kind Name ≡ true → same_kind (word_at ts (at + 1)).kind CloseParen ≡ false → same_kind (word_at ts (at + 1)).kind Comma ≡ true
    → after_names (ms ++ (word_at ts at).text ∷ []) (names (drop (at + 2) ts)) ≡ after_names ms (names (drop at ts))
names_step ts at ms h a b c =
    sym (ap (after_names ms) (names_at ts at h ∙ ap (λ (x : Bool). cond x (cond (same_kind (word_at ts (at + 1)).kind CloseParen) (Some ((word_at ts at).text ∷ [])) (cond (same_kind (word_at ts (at + 1)).kind Comma) (option_map (λ ns. (word_at ts at).text ∷ ns) (names (drop (at + 2) ts))) None)) None) a
    ∙ ap (λ (x : Bool). cond x (Some ((word_at ts at).text ∷ [])) (cond (same_kind (word_at ts (at + 1)).kind Comma) (option_map (λ ns. (word_at ts at).text ∷ ns) (names (drop (at + 2) ts))) None)) b
    ∙ ap (λ (x : Bool). cond x (option_map (λ ns. (word_at ts at).text ∷ ns) (names (drop (at + 2) ts))) None) c)
    ∙ after-and_name ms (word_at ts at).text (names (drop (at + 2) ts)))

pub no_parameters : (ts : List Word) (from at : ℕ) (ms : List (List ℕ)) → same_kind (word_at ts from).kind CloseParen ≡ false → length ts ≤ at + 1 → after_names ms (names (drop at ts)) ≡ names (drop from ts) → parameter_names (drop from ts) ≡ None
no_parameters ts from at ms e h f =
    ap (λ (b : Bool). cond b (Some []) (names (drop from ts))) (begins_at CloseParen ts from refl ∙ e) ∙ sym f ∙ ap (after_names ms) (names_end ts at h)
