-- Names, their places, and the calls around a call.
use Rattle.std.proofs.Common.{◌≡◌, ℕ, zero, suc, ◌+◌, ◌<◌, ◌≤◌, Bool, true, false, not, ◌&&◌, ◌||◌, cond, nat_eq, nat_lt, List, [], ◌∷◌, ◌++◌, length, get_or, take, drop, map, All, Option, Some, None, refl, ap, sym, subst, ◌∙◌, inl, inr, ⊎_elim, arith}
use Rattle.std.specs.Prelude.{find, is_some, IfSome, option_map}
use Rattle.std.specs.List.{list_any, slice_get}
use Rattle.std.specs.Str.{bytes_eq}
use Rattle.std.proofs.lemmas.Bool.{cases_lt, cases_order, eq-eqb, ne_eqb, lt-ltb, le-ltb, false≢true, and_parts, not-true}
use Rattle.std.proofs.lemmas.Slice.Eq.{bytes_eq-Decides}
use Rattle.std.proofs.lemmas.List.{map-append, take_more, take-append-drop, length-take-le, drop_more, drop_all, length-map}
use Rattle.std.proofs.lemmas.List.Elements.{All-head, All-tail}
use Rattle.pml_token.specs.Word.{Word, same_kind}
use Rattle.pml_token.specs.declared.token.Kind.TheVariants.{OpenParen}
use Rattle.promela_text.specs.Inlines.{is_name, begins_as, Inline, is_among, all_differ, place_of, callee}
use Rattle.pml_inline.specs.Places.{word_at, words_of}
use Rattle.std.specs.Borrow.{Bor}
use Rattle.pml_inline.specs.declared.definitions.Definition.{Definition}
use Rattle.pml_inline.specs.Parts.{inlines_of, number_of, texts_of, Numbers, number_in, AreNumbered}
use Rattle.pml_inline.specs.Texts.{option_inline, below, name_of, around}

-- ---- a name more

abbrev or_place : Option ℕ → Option ℕ → Option ℕ
or_place None r = r
or_place (Some k) r = Some k

or-more : (k r : Option ℕ) → option_map suc (or_place k r) ≡ or_place (option_map suc k) (option_map suc r)
or-more None r = refl
or-more (Some k) r = refl

last-more : (b : Bool) (n : ℕ) → option_map suc (cond b (Some n) None) ≡ cond b (Some (suc n)) None
last-more true n = refl
last-more false n = refl

place-more : (n : List ℕ) (ns : List (List ℕ)) (m : List ℕ) → place_of n (ns ++ m ∷ []) ≡ or_place (place_of n ns) (cond (bytes_eq n m) (Some (length ns)) None)
place-more n [] m = refl
place-more n (k ∷ ns) m = by_test (bytes_eq n k) (place-more n ns m)
  where
    by_test : (b : Bool) → place_of n (ns ++ m ∷ []) ≡ or_place (place_of n ns) (cond (bytes_eq n m) (Some (length ns)) None) → cond b (Some 0) (option_map suc (place_of n (ns ++ m ∷ []))) ≡ or_place (cond b (Some 0) (option_map suc (place_of n ns))) (cond (bytes_eq n m) (Some (suc (length ns))) None)
    by_test true f = refl
    by_test false f = ap (option_map suc) f ∙ or-more (place_of n ns) (cond (bytes_eq n m) (Some (length ns)) None) ∙ ap (or_place (option_map suc (place_of n ns))) (last-more (bytes_eq n m) (length ns))

same_texts : (n m : List ℕ) → bytes_eq n m ≡ bytes_eq m n
same_texts n m = by_test (bytes_eq n m) refl (bytes_eq m n) refl
  where
    by_test : (b : Bool) → b ≡ bytes_eq n m → (c : Bool) → c ≡ bytes_eq m n → bytes_eq n m ≡ bytes_eq m n
    by_test true e c f = sym e ∙ sym ((bytes_eq-Decides m n).1 (sym ((bytes_eq-Decides n m).0 (sym e))))
    by_test false e true f = (bytes_eq-Decides n m).1 (sym ((bytes_eq-Decides m n).0 (sym f))) ∙ f
    by_test false e false f = sym e ∙ f

among-is : (n : List ℕ) (ns : List (List ℕ)) → is_among n ns ≡ is_some (place_of n ns)
among-is n [] = refl
among-is n (m ∷ ns) = by_test (bytes_eq n m) (among-is n ns)
  where
    some-more : (o : Option ℕ) → is_some o ≡ is_some (option_map suc o)
    some-more None = refl
    some-more (Some k) = refl

    by_test : (b : Bool) → is_among n ns ≡ is_some (place_of n ns) → (b || is_among n ns) ≡ is_some (cond b (Some 0) (option_map suc (place_of n ns)))
    by_test true f = refl
    by_test false f = f ∙ some-more (place_of n ns)

among-more : (n : List ℕ) (ns : List (List ℕ)) (m : List ℕ) → is_among n (ns ++ m ∷ []) ≡ (is_among n ns || bytes_eq n m)
among-more n [] m = by_test (bytes_eq n m)
  where
    by_test : (b : Bool) → (b || false) ≡ b
    by_test true = refl
    by_test false = refl
among-more n (k ∷ ns) m = by_test (bytes_eq n k) (among-more n ns m)
  where
    by_test : (b : Bool) → is_among n (ns ++ m ∷ []) ≡ (is_among n ns || bytes_eq n m) → (b || is_among n (ns ++ m ∷ [])) ≡ ((b || is_among n ns) || bytes_eq n m)
    by_test true f = refl
    by_test false f = f

differ-more : (ns : List (List ℕ)) (m : List ℕ) → all_differ (ns ++ m ∷ []) ≡ (all_differ ns && not (is_among m ns))
differ-more [] m = refl
differ-more (n ∷ ns) m =
    ap (λ (b : Bool). not b && all_differ (ns ++ m ∷ [])) (among-more n ns m) ∙ ap (λ (b : Bool). not (is_among n ns || bytes_eq n m) && b) (differ-more ns m)
    ∙ ap (λ (b : Bool). not (is_among n ns || b) && (all_differ ns && not (is_among m ns))) (same_texts n m)
    ∙ by_tests (is_among n ns) (bytes_eq m n) (all_differ ns) (is_among m ns)
  where
    by_tests : (a b c d : Bool) → (not (a || b) && (c && not d)) ≡ ((not a && c) && not (b || d))
    by_tests true b c d = refl
    by_tests false true true d = refl
    by_tests false true false d = refl
    by_tests false false c d = refl

-- a new name
pub differ-new : (ns : List (List ℕ)) (m : List ℕ) → all_differ ns ≡ true → place_of m ns ≡ None → all_differ (ns ++ m ∷ []) ≡ true
differ-new ns m e f = differ-more ns m ∙ ap (λ (b : Bool). b && not (is_among m ns)) e ∙ ap not (among-is m ns ∙ ap is_some f)

pub place-new : (ns : List (List ℕ)) (m n : List ℕ) → place_of m ns ≡ None → cond (bytes_eq m n) (Some (length ns)) (place_of n ns) ≡ place_of n (ns ++ m ∷ [])
place-new ns m n e = by_test (bytes_eq n m) refl ∙ sym (place-more n ns m)
  where
    or_none : (k : Option ℕ) → k ≡ or_place k None
    or_none None = refl
    or_none (Some k) = refl

    by_test : (b : Bool) → b ≡ bytes_eq n m → cond (bytes_eq m n) (Some (length ns)) (place_of n ns) ≡ or_place (place_of n ns) (cond (bytes_eq n m) (Some (length ns)) None)
    by_test true f =
        let s : n ≡ m = (bytes_eq-Decides n m).0 (sym f) in
        let none : place_of n ns ≡ None = ap (λ (x : List ℕ). place_of x ns) s ∙ e in
        ap (λ (b : Bool). cond b (Some (length ns)) (place_of n ns)) (same_texts m n ∙ sym f)
        ∙ sym (ap (λ (b : Bool). or_place (place_of n ns) (cond b (Some (length ns)) None)) (sym f) ∙ ap (λ (o : Option ℕ). or_place o (Some (length ns))) none)
    by_test false f =
        ap (λ (b : Bool). cond b (Some (length ns)) (place_of n ns)) (same_texts m n ∙ sym f)
        ∙ or_none (place_of n ns) ∙ ap (λ (b : Bool). or_place (place_of n ns) (cond b (Some (length ns)) None)) f

-- a name that was there
pub differ-old : (ns rest : List (List ℕ)) (m : List ℕ) (k : ℕ) → place_of m ns ≡ Some k → all_differ (ns ++ m ∷ rest) ≡ false
differ-old [] rest m k e = absurd cc
differ-old (n ∷ ns) rest m k e = by_test (bytes_eq m n) refl e (λ j f. differ-old ns rest m j f)
  where
    among-in : (xs ys : List (List ℕ)) (x y : List ℕ) → bytes_eq x y ≡ true → is_among x (xs ++ y ∷ ys) ≡ true
    among-in [] ys x y f = ap (λ (b : Bool). b || is_among x ys) f
    among-in (z ∷ xs) ys x y f = by_both (bytes_eq x z) (among-in xs ys x y f)
      where
        by_both : (b : Bool) → is_among x (xs ++ y ∷ ys) ≡ true → (b || is_among x (xs ++ y ∷ ys)) ≡ true
        by_both true g = refl
        by_both false g = g

    and_no : (b : Bool) → (b && false) ≡ false
    and_no true = refl
    and_no false = refl

    less : (o : Option ℕ) → place_of m ns ≡ o → option_map suc o ≡ Some k → ((j : ℕ) → place_of m ns ≡ Some j → all_differ (ns ++ m ∷ rest) ≡ false) → all_differ (ns ++ m ∷ rest) ≡ false
    less None is f g = absurd cc
    less (Some j) is f g = g j is

    by_test : (b : Bool) → b ≡ bytes_eq m n → cond b (Some 0) (option_map suc (place_of m ns)) ≡ Some k → ((j : ℕ) → place_of m ns ≡ Some j → all_differ (ns ++ m ∷ rest) ≡ false) → (not (is_among n (ns ++ m ∷ rest)) && all_differ (ns ++ m ∷ rest)) ≡ false
    by_test true f g i = ap (λ (b : Bool). not b && all_differ (ns ++ m ∷ rest)) (among-in ns rest n m (same_texts n m ∙ sym f))
    by_test false f g i = ap (λ (b : Bool). not (is_among n (ns ++ m ∷ rest)) && b) (less (place_of m ns) refl g i) ∙ and_no (not (is_among n (ns ++ m ∷ rest)))

-- ---- calls within one another

name-at : (ds : List Inline) (k : ℕ) → name_of (slice_get ds k) ≡ get_or (map (λ d. d.name) ds) k []
name-at [] k = refl
name-at (d ∷ ds) zero = refl
name-at (d ∷ ds) (suc k) = name-at ds k

not_among : (n : List ℕ) (ns : List (List ℕ)) (i : ℕ) → i < length ns → is_among n ns ≡ false → bytes_eq n (get_or ns i []) ≡ false
not_among n [] i lt h = absurd (omega arith)
not_among n (m ∷ ns) zero lt h = first (bytes_eq n m) h
  where
    first : (b : Bool) → (b || is_among n ns) ≡ false → b ≡ false
    first true e = e
    first false e = refl
not_among n (m ∷ ns) (suc i) lt h = not_among n ns i (omega arith) (second (bytes_eq n m) h)
  where
    second : (b : Bool) → (b || is_among n ns) ≡ false → is_among n ns ≡ false
    second true e = absurd (false≢true (sym e))
    second false e = e

apart : (ns : List (List ℕ)) → all_differ ns ≡ true → (i j : ℕ) → i < j → j < length ns → bytes_eq (get_or ns i []) (get_or ns j []) ≡ false
apart [] e i j lt within = absurd (omega arith)
apart (n ∷ ns) e i zero lt within = absurd (omega arith)
apart (n ∷ ns) e zero (suc j) lt within = not_among n ns j (omega arith) (not-true (is_among n ns) (and_parts (not (is_among n ns)) (all_differ ns) e).0)
apart (n ∷ ns) e (suc i) (suc j) lt within = apart ns (and_parts (not (is_among n ns)) (all_differ ns) e).1 i j (omega arith) (omega arith)

one_name : (ns : List (List ℕ)) → all_differ ns ≡ true → (a b : ℕ) → a < length ns → b < length ns → bytes_eq (get_or ns a []) (get_or ns b []) ≡ nat_eq b a
one_name ns e a b la lb = elim (cases_order a b) [
  | inl s ↦ (bytes_eq-Decides (get_or ns a []) (get_or ns b [])).1 (ap (λ (k : ℕ). get_or ns k []) s) ∙ sym (eq-eqb b a (sym s))
  | inr r ↦ elim r [
    | inl lt ↦ apart ns e a b lt lb ∙ sym (ne_eqb b a (λ f. omega arith))
    | inr lt ↦ same_texts (get_or ns a []) (get_or ns b []) ∙ apart ns e b a lt la ∙ sym (ne_eqb b a (λ f. omega arith))
  ]
]

-- a definition is among the calls around exactly where its number is
pub around-is : (ds : List Inline) → all_differ (map (λ d. d.name) ds) ≡ true → (number : ℕ) → number < length (map (λ (d : Inline). d.name) ds) → (active : List ℕ) → All (λ k. k < length (map (λ (d : Inline). d.name) ds)) active
    → is_among (name_of (slice_get ds number)) (around ds active) ≡ list_any (λ k. nat_eq k number) active
around-is ds e number lt [] h = refl
around-is ds e number lt (k ∷ active) h =
    let ns : List (List ℕ) = map (λ d. d.name) ds in
    let here : bytes_eq (name_of (slice_get ds number)) (name_of (slice_get ds k)) ≡ nat_eq k number =
    ap (λ (x : List ℕ). bytes_eq x (name_of (slice_get ds k))) (name-at ds number) ∙ ap (bytes_eq (get_or ns number [])) (name-at ds k) ∙ one_name ns e number k lt (All-head (λ i. i < length ns) k active h) in
    let rest : is_among (name_of (slice_get ds number)) (around ds active) ≡ list_any (λ i. nat_eq i number) active = around-is ds e number lt active (All-tail (λ i. i < length ns) k active h) in
    ap (λ (b : Bool). b || is_among (name_of (slice_get ds number)) (around ds active)) here ∙ ap (λ (b : Bool). nat_eq k number || b) rest

pub around-more : (ds : List Inline) (active : List ℕ) (number : ℕ) (d : Inline) → slice_get ds number ≡ Some d → around ds (active ++ number ∷ []) ≡ around ds active ++ d.name ∷ []
around-more ds active number d e = map-append (λ n. name_of (slice_get ds n)) active (number ∷ []) ∙ ap (λ (o : Option Inline). around ds active ++ name_of o ∷ []) e

-- ---- what a name calls

lt-suc : (n k : ℕ) → nat_lt (suc n) (suc k) ≡ nat_lt n k
lt-suc n k = ⊎_elim
    (λ (lt : n < k). lt-ltb (suc n) (suc k) (omega arith) ∙ sym (lt-ltb n k lt))
    (λ (le : k ≤ n). le-ltb (suc n) (suc k) (omega arith) ∙ sym (le-ltb n k le))
    (cases_lt n k)

below-zero : (o : Option ℕ) → below 0 o ≡ None
below-zero None = refl
below-zero (Some n) = ap (λ (b : Bool). cond b (Some n) None) (le-ltb n 0 (omega arith))

below-more : (d : Inline) (ds : List Inline) (k : ℕ) (o : Option ℕ) → option_inline ds (below k o) ≡ option_inline (d ∷ ds) (below (suc k) (option_map suc o))
below-more d ds k None = refl
below-more d ds k (Some n) = by_test (nat_lt n k) ∙ ap (λ (b : Bool). option_inline (d ∷ ds) (cond b (Some (suc n)) None)) (sym (lt-suc n k))
  where
    by_test : (b : Bool) → option_inline ds (cond b (Some n) None) ≡ option_inline (d ∷ ds) (cond b (Some (suc n)) None)
    by_test true = refl
    by_test false = refl

find-known : (t : List ℕ) (ds : List Inline) (known : ℕ) → find (λ d. bytes_eq t d.name) (take known ds) ≡ option_inline ds (below known (place_of t (map (λ d. d.name) ds)))
find-known t [] zero = refl
find-known t [] (suc known) = refl
find-known t (d ∷ ds) zero = sym (ap (option_inline (d ∷ ds)) (below-zero (place_of t (map (λ d. d.name) (d ∷ ds)))))
find-known t (d ∷ ds) (suc known) = by_test (bytes_eq t d.name) (find-known t ds known)
  where
    by_test : (b : Bool) → find (λ d. bytes_eq t d.name) (take known ds) ≡ option_inline ds (below known (place_of t (map (λ d. d.name) ds))) → cond b (Some d) (find (λ d. bytes_eq t d.name) (take known ds)) ≡ option_inline (d ∷ ds) (below (suc known) (cond b (Some 0) (option_map suc (place_of t (map (λ d. d.name) ds)))))
    by_test true f = sym (ap (λ (b : Bool). option_inline (d ∷ ds) (cond b (Some 0) None)) (lt-ltb 0 (suc known) (omega arith)))
    by_test false f = f ∙ below-more d ds known (place_of t (map (λ d. d.name) ds))

pub callee-is : (ds : List Inline) (known : ℕ) (w : Word) (ws : List Word) → callee (take known ds) w ws ≡ cond (begins_as OpenParen ws) (option_inline ds (below known (number_of ds w))) None
unfolding callee
callee-is ds known w ws = by_tests (is_name w) (begins_as OpenParen ws)
  where
    by_tests : (a b : Bool) → cond (a && b) (find (λ d. bytes_eq w.text d.name) (take known ds)) None ≡ cond b (option_inline ds (below known (cond a (place_of w.text (map (λ d. d.name) ds)) None))) None
    by_tests true true = find-known w.text ds known
    by_tests true false = refl
    by_tests false true = refl
    by_tests false false = refl

-- a definition by its number is one
place-within : (n : List ℕ) (ns : List (List ℕ)) (k : ℕ) → place_of n ns ≡ Some k → k < length ns
place-within n [] k e = absurd cc
place-within n (m ∷ ns) k e = by_test (bytes_eq n m) e (λ j f. place-within n ns j f)
  where
    more : (o : Option ℕ) → place_of n ns ≡ o → option_map suc o ≡ Some k → ((j : ℕ) → place_of n ns ≡ Some j → j < length ns) → k < suc (length ns)
    more None is f i = absurd cc
    more (Some j) is f i = let g : suc j ≡ k = cc in let lt = i j is in omega arith

    by_test : (b : Bool) → cond b (Some 0) (option_map suc (place_of n ns)) ≡ Some k → ((j : ℕ) → place_of n ns ≡ Some j → j < length ns) → k < suc (length ns)
    by_test true f i = let g : 0 ≡ k = cc in omega arith
    by_test false f i = more (place_of n ns) refl f i

pub number-within : (ds : List Inline) (w : Word) (k : ℕ) → number_of ds w ≡ Some k → k < length ds
number-within ds w k e = by_test (is_name w) e
  where
    by_test : (b : Bool) → cond b (place_of w.text (map (λ (d : Inline). d.name) ds)) None ≡ Some k → k < length ds
    by_test true f = let lt = place-within w.text (map (λ (d : Inline). d.name) ds) k f in omega (arith, length-map ds (λ (d : Inline). d.name))
    by_test false f = absurd cc

pub below-within : (known : ℕ) (o : Option ℕ) (k : ℕ) → below known o ≡ Some k → o ≡ Some k
below-within known None k e = absurd cc
below-within known (Some n) k e = by_test (nat_lt n known) e
  where
    by_test : (b : Bool) → cond b (Some n) None ≡ Some k → Some n ≡ Some k
    by_test true f = f
    by_test false f = absurd cc

-- the number that is kept for a token
pub number-at : (ds : List Inline) (ts : List Word) (p : ℕ) → get_or (map (number_of ds) ts) p None ≡ number_of ds (word_at ts p)
number-at ds [] p = refl
number-at ds (t ∷ ts) zero = refl
number-at ds (t ∷ ts) (suc p) = number-at ds ts p

pub begins-behind : (ts : List Word) (ps : List ℕ) (at : ℕ) → at < length ps → begins_as OpenParen (words_of ts (drop at ps)) ≡ same_kind (word_at ts (get_or ps at 0)).kind OpenParen
begins-behind ts ps at h = ap (λ (qs : List ℕ). begins_as OpenParen (words_of ts qs)) (drop_more ps at 0 h)

pub begins-nothing : (ts : List Word) (ps : List ℕ) (at : ℕ) → length ps ≤ at → begins_as OpenParen (words_of ts (drop at ps)) ≡ false
begins-nothing ts ps at h = ap (λ (qs : List ℕ). begins_as OpenParen (words_of ts qs)) (drop_all at ps h)

pub within-number : (ds : List Inline) (known length' : ℕ) (w : Word) (o : Option ℕ) → length ds ≡ length' → o ≡ below known (number_of ds w) → IfSome o (λ n. n < length')
within-number ds known length' w None e f = tt
within-number ds known length' w (Some n) e f = let lt = number-within ds w n (below-within known (number_of ds w) n (sym f)) in omega arith

pub callee-begins : (known : List Inline) (w : Word) (ws : List Word) (d : Inline) → callee known w ws ≡ Some d → begins_as OpenParen ws ≡ true
unfolding callee
callee-begins known w ws d e = by_tests (is_name w) (begins_as OpenParen ws) refl e
  where
    by_tests : (a b : Bool) → b ≡ begins_as OpenParen ws → cond (a && b) (find (λ d. bytes_eq w.text d.name) known) None ≡ Some d → begins_as OpenParen ws ≡ true
    by_tests a true is f = sym is
    by_tests true false is f = absurd cc
    by_tests false false is f = absurd cc

-- ---- the numbers of names

names-more : (names : List (Bor (List ℕ))) (i : ℕ) (d : Bor (List ℕ)) → i < length names → texts_of (take (i + 1) names) ≡ texts_of (take i names) ++ (get_or names i d).now ∷ []
names-more names i d h = ap texts_of (take_more names i d h) ∙ map-append (λ (n : Bor (List ℕ)). n.now) (take i names) (get_or names i d ∷ [])

names-split : (names : List (Bor (List ℕ))) (i : ℕ) (d : Bor (List ℕ)) → i < length names → texts_of names ≡ texts_of (take i names) ++ (get_or names i d).now ∷ texts_of (drop (i + 1) names)
names-split names i d h =
    ap texts_of (sym (take-append-drop i names) ∙ ap (λ (ns : List (Bor (List ℕ))). take i names ++ ns) (drop_more names i d h)) ∙ map-append (λ (n : Bor (List ℕ)). n.now) (take i names) (get_or names i d ∷ drop (i + 1) names)

-- a name that was there
pub repeated-old : (names : List (Bor (List ℕ))) (i : ℕ) (d : Bor (List ℕ)) (numbers : Numbers) (o : Option ℕ) → i < length names → AreNumbered numbers (texts_of (take i names)) → o ≡ number_in numbers (get_or names i d).now → is_some o ≡ true → all_differ (texts_of names) ≡ false
repeated-old names i d numbers o h a e f = by_option o refl f
  where
    by_option : (p : Option ℕ) → o ≡ p → is_some p ≡ true → all_differ (texts_of names) ≡ false
    by_option None is g = absurd (false≢true g)
    by_option (Some k) is g = ap all_differ (names-split names i d h) ∙ differ-old (texts_of (take i names)) (texts_of (drop (i + 1) names)) (get_or names i d).now k (sym (a.placed (get_or names i d).now) ∙ sym e ∙ is)

-- a new one
pub numbered-new : (names : List (Bor (List ℕ))) (i : ℕ) (d : Bor (List ℕ)) (numbers more : Numbers) (o : Option ℕ) (k : ℕ) → i < length names → AreNumbered numbers (texts_of (take i names)) → o ≡ number_in numbers (get_or names i d).now → is_some o ≡ false → k ≡ i
    → ((n : List ℕ) → number_in more n ≡ cond (bytes_eq (get_or names i d).now n) (Some k) (number_in numbers n)) → AreNumbered more (texts_of (take (i + 1) names))
numbered-new names i d numbers more o k h a e f is updates =
    let name : List ℕ = (get_or names i d).now in
    let before : List (List ℕ) = texts_of (take i names) in
    let fresh : place_of name before ≡ None = sym (a.placed name) ∙ sym e ∙ none o f in
    let len : length before ≡ i = length-map (take i names) (λ (n : Bor (List ℕ)). n.now) ∙ length-take-le i names (omega arith) in
    let count : k ≡ length before = is ∙ sym len in
    subst (λ (ns : List (List ℕ)). AreNumbered more ns) (sym (names-more names i d h)) (record {
      apart = differ-new before name a.apart fresh;
      placed = λ n. updates n ∙ ap (λ (j : ℕ). cond (bytes_eq name n) (Some j) (number_in numbers n)) count ∙ ap (λ (p : Option ℕ). cond (bytes_eq name n) (Some (length before)) p) (a.placed n) ∙ place-new before name n fresh;
    })
  where
    none : (p : Option ℕ) → is_some p ≡ false → p ≡ None
    none None g = refl
    none (Some j) g = absurd (false≢true (sym g))

pub names-of : (ts : List Word) (ds : List Definition) → map (λ d. d.name) (inlines_of ts ds) ≡ map (λ (d : Definition). d.name.now) ds
names-of ts [] = refl
names-of ts (d ∷ ds) = ap (λ (ns : List (List ℕ)). d.name.now ∷ ns) (names-of ts ds)
