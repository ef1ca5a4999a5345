-- When a call of a text has a replacement, and which.
use Rattle.std.proofs.Common.{◌≡◌, ℕ, zero, suc, ◌-◌, ◌<◌, ◌≤◌, Bool, true, false, not, ◌&&◌, nat_eq, List, [], ◌∷◌, ◌++◌, length, get_or, take, map, All, Option, Some, None, refl, ap, sym, ◌∙◌, arith}
use Rattle.promela_text.specs.Tokens.{is_empty}
use Rattle.std.specs.Prelude.{Result, Ok, Err, IfOk, MatchOption}
use Rattle.std.specs.Borrow.{Bor}
use Rattle.std.specs.List.{list_any, slice_get}
use Rattle.std.proofs.lemmas.List.{length-map, length_push}
use Rattle.std.proofs.lemmas.List.Elements.{All-weaker}
use Rattle.pml_token.specs.Word.{Word}
use Rattle.profile.specs.declared.TheConstants.{MOST_CALLS}
use Rattle.pml_inline.specs.declared.calls.Text.{Text}
use Rattle.pml_inline.specs.declared.definitions.Definition.{Definition}
use Rattle.promela_text.specs.Inlines.{arguments, Inline, is_among, fits, replaced}
use Rattle.pml_inline.specs.Expansion.{Given, join_given, reading, calling}
use Rattle.pml_inline.specs.Places.{word_at, words_of}
use Rattle.pml_inline.specs.Parts.{inline_of, inlines_of, is_bare, lists_of, places_replaced, IsMarked}
use Rattle.pml_inline.specs.Texts.{inlines, IsText, name_of, around, AreNumbers, call_within, read_within, IsReplaced, IsNotReplaced}
use Rattle.pml_inline.proofs.Naming.{around-is, around-more}
use Rattle.pml_inline.proofs.Replacing.{replaced-is, bare-is, calling_right, calling_wrong, calling_none, count_first}

pub get-within : {X : Type 0} (xs : List X) (k : ℕ) (x : X) → slice_get xs k ≡ Some x → k < length xs
get-within [] k x e = absurd cc
get-within (y ∷ ys) zero x e = omega arith
get-within (y ∷ ys) (suc k) x e = let lt = get-within ys k x e in omega arith

-- the inline of a number is that of its definition
pub inline-at : (ts : List Word) (ds : List Definition) (k : ℕ) (c : Definition) (d : Inline) → k < length ds → slice_get (inlines_of ts ds) k ≡ Some d → inline_of ts (get_or ds k c) ≡ d
inline-at ts [] k c d lt e = absurd (omega arith)
inline-at ts (b ∷ ds) zero c d lt e = some e
  where
    some : {x y : Inline} → Some x ≡ Some y → x ≡ y
    some e = cc
inline-at ts (b ∷ ds) (suc k) c d lt e = inline-at ts ds k c d (omega arith) e

pub fits-is : (ts : List Word) (d : Inline) (vs : List (List ℕ)) (args : List (List Word)) → map (words_of ts) vs ≡ args → fits d args ≡ (nat_eq (length vs) (length d.parameters) && not (list_any is_bare vs))
fits-is ts d vs args e =
    ap (fits d) (sym e) ∙ ap (λ (n : ℕ). nat_eq n (length d.parameters) && not (list_any is_empty (map (words_of ts) vs))) (length-map vs (words_of ts))
    ∙ ap (λ (b : Bool). nat_eq (length vs) (length d.parameters) && not b) (bare-is ts vs)

-- what the code tests
pub fits-code : (ts : List Word) (c : Definition) (d : Inline) (vs us : List (Bor (List ℕ))) (args : List (List Word)) (r : Bool) → inline_of ts c ≡ d → map (words_of ts) (lists_of vs) ≡ args → us ≡ vs
    → r ≡ (nat_eq (length us) (length c.parameters.items) && not (list_any is_bare (lists_of us))) → fits d args ≡ r
fits-code ts c d vs us args r is e same h =
    fits-is ts d (lists_of vs) args e
    ∙ ap (λ (x : Inline). nat_eq (length (lists_of vs)) (length x.parameters) && not (list_any is_bare (lists_of vs))) (sym is)
    ∙ ap (λ (n : ℕ). nat_eq (length (lists_of vs)) n && not (list_any is_bare (lists_of vs))) (length-map c.parameters.items (λ (n : Bor (List ℕ)). n.now))
    ∙ ap (λ (n : ℕ). nat_eq n (length c.parameters.items) && not (list_any is_bare (lists_of vs))) (length-map vs (λ (n : Bor (List ℕ)). n.now))
    ∙ ap (λ (xs : List (Bor (List ℕ))). nat_eq (length xs) (length c.parameters.items) && not (list_any is_bare (lists_of xs))) (sym same)
    ∙ sym h

-- the body of a definition, with these arguments
pub body-is : (ts : List Word) (c : Definition) (d : Inline) (vs : List (List ℕ)) (args : List (List Word)) → inline_of ts c ≡ d → IsMarked ts c → map (words_of ts) vs ≡ args → words_of ts (places_replaced c.body.items vs) ≡ replaced d args
body-is ts c d vs args is marked e =
    replaced-is ts (inline_of ts c).parameters c.body.items vs marked ∙ ap (λ (x : List (List Word)). replaced (inline_of ts c) x) e ∙ ap (λ (x : Inline). replaced x args) is

module _ (t : Text) (x : IsText t) (active : List ℕ) (numbers : AreNumbers t active) (number : ℕ) (d : Inline) (is : slice_get (inlines t) number ≡ Some d) (known : ℕ) (inside : List Word) (most : ℕ) where
  abbrev call : Option Given
  call = call_within t known active d inside

  among : is_among d.name (around (inlines t) active) ≡ list_any (λ k. nat_eq k number) active
  among =
      let len : length (map (λ (e : Inline). e.name) (inlines t)) ≡ length t.definitions.now = length-map (inlines t) (λ (e : Inline). e.name) ∙ length-map t.definitions.now (inline_of t.tokens.now) in
      let within : number < length (inlines t) = get-within (inlines t) number d is in
      let lt : number < length (map (λ (e : Inline). e.name) (inlines t)) = omega (arith, length-map (inlines t) (λ (e : Inline). e.name)) in
      let all : All (λ k. k < length (map (λ (e : Inline). e.name) (inlines t))) active = All-weaker (λ k. k < length t.definitions.now) (λ k. k < length (map (λ (e : Inline). e.name) (inlines t))) (λ k h. omega arith) active numbers in
      ap (λ (n : List ℕ). is_among n (around (inlines t) active)) (ap name_of (sym is)) ∙ around-is (inlines t) x.apart number lt active all

  never : call ≡ None → IsNotReplaced t known active inside most d
  never e g f = absurd (no (sym e ∙ f))
    where
      no : {g : Given} → None ≡ Some g → ⊥
      no h = cc

  pub no_room : MOST_CALLS ≤ length active → IsNotReplaced t known active inside most d
  no_room h = never (calling_none (take known (inlines t)) (around (inlines t) active) d inside (MOST_CALLS - length active) (omega arith))

  pub is_around : list_any (λ k. nat_eq k number) active ≡ true → IsNotReplaced t known active inside most d
  is_around e = never (calling_wrong (take known (inlines t)) (around (inlines t) active) d inside (MOST_CALLS - length active) (ap (λ (b : Bool). not b && fits d (arguments inside)) (among ∙ e)))

  pub not_fit : fits d (arguments inside) ≡ false → IsNotReplaced t known active inside most d
  not_fit e = never (calling_wrong (take known (inlines t)) (around (inlines t) active) d inside (MOST_CALLS - length active) (ap (λ (b : Bool). not (is_among d.name (around (inlines t) active)) && b) e ∙ and_no (not (is_among d.name (around (inlines t) active)))))
    where
      and_no : (b : Bool) → (b && false) ≡ false
      and_no true = refl
      and_no false = refl

  pub right : (places : List ℕ) → length active < MOST_CALLS → list_any (λ k. nat_eq k number) active ≡ false → fits d (arguments inside) ≡ true → words_of t.tokens.now places ≡ replaced d (arguments inside)
      → call ≡ join_given (Some (record { tokens = []; count = length places })) (read_within t known (active ++ number ∷ []) places)
  right places room e f same =
      let ds : List Inline = take known (inlines t) in
      let less : MOST_CALLS - length (active ++ number ∷ []) ≡ MOST_CALLS - length active - 1 = omega (arith, length_push active number) in
      let one : MOST_CALLS - length active ≡ suc (MOST_CALLS - length active - 1) = omega arith in
      let guard : (not (is_among d.name (around (inlines t) active)) && fits d (arguments inside)) ≡ true = ap (λ (b : Bool). not b && fits d (arguments inside)) (among ∙ e) ∙ f in
      let len : length (replaced d (arguments inside)) ≡ length places = ap length (sym same) ∙ length-map places (word_at t.tokens.now) in
      ap (λ (n : ℕ). calling ds n (around (inlines t) active) d inside) one
      ∙ calling_right ds (around (inlines t) active) d inside (MOST_CALLS - length active - 1) guard
      ∙ ap (λ (n : ℕ). join_given (Some (record { tokens = []; count = n })) (reading ds (calling ds (MOST_CALLS - length active - 1) (around (inlines t) active ++ d.name ∷ [])) (replaced d (arguments inside)) 0)) len
      ∙ ap (λ (ws : List Word). join_given (Some (record { tokens = []; count = length places })) (reading ds (calling ds (MOST_CALLS - length active - 1) (around (inlines t) active ++ d.name ∷ [])) ws 0)) (sym same)
      ∙ ap (λ (n : ℕ). join_given (Some (record { tokens = []; count = length places })) (reading ds (calling ds n (around (inlines t) active ++ d.name ∷ [])) (words_of t.tokens.now places) 0)) (sym less)
      ∙ ap (λ (ns : List (List ℕ)). join_given (Some (record { tokens = []; count = length places })) (reading ds (calling ds (MOST_CALLS - length (active ++ number ∷ [])) ns) (words_of t.tokens.now places) 0)) (sym (around-more (inlines t) active number d is))

  pub is_replaced : (places : List ℕ) → length active < MOST_CALLS → list_any (λ k. nat_eq k number) active ≡ false → fits d (arguments inside) ≡ true → words_of t.tokens.now places ≡ replaced d (arguments inside) → length places ≤ most
      → IsReplaced t known active number inside most places d
  is_replaced places room e f same few = record { room = room; few = few; is = right places room e f same }

  pub too_long : (places : List ℕ) → length active < MOST_CALLS → list_any (λ k. nat_eq k number) active ≡ false → fits d (arguments inside) ≡ true → words_of t.tokens.now places ≡ replaced d (arguments inside) → most < length places
      → IsNotReplaced t known active inside most d
  too_long places room e f same long g h =
      let le = count_first (length places) (read_within t known (active ++ number ∷ []) places) g (sym (right places room e f same) ∙ h) in
      omega arith

  pub by_result : {V E : Type 0} (items : V → List ℕ) (r : Result (Option V) E) (places : List ℕ) → length active < MOST_CALLS → list_any (λ k. nat_eq k number) active ≡ false → fits d (arguments inside) ≡ true
      → words_of t.tokens.now places ≡ replaced d (arguments inside) → IfOk r (λ o. MatchOption o (most < length places) (λ v. (items v ≡ places) × (length (items v) ≤ most)))
      → IfOk r (λ o. MatchOption o (IsNotReplaced t known active inside most d) (λ v. IsReplaced t known active number inside most (items v) d))
  by_result items (Err e) places room a f same h = tt
  by_result items (Ok None) places room a f same h = too_long places room a f same h
  by_result items (Ok (Some v)) places room a f same h = is_replaced (items v) room a f (ap (words_of t.tokens.now) h.0 ∙ same) h.1
