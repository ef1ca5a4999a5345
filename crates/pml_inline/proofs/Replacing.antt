-- A call and its replacement.
use Rattle.std.proofs.Common.{◌≡◌, ℕ, zero, suc, ◌+◌, ◌≤◌, Bool, true, false, not, ◌&&◌, List, [], ◌∷◌, ◌++◌, map, Option, Some, None, refl, ap, ◌∙◌, arith}
use Rattle.std.specs.Prelude.{unwrap_or}
use Rattle.promela_text.specs.Tokens.{is_empty}
use Rattle.std.specs.List.{list_any, flat_map, slice_get}
use Rattle.std.proofs.lemmas.List.{map-append}
use Rattle.std.proofs.lemmas.List.Elements.{All-head, All-tail}
use Rattle.pml_token.specs.Word.{Word}
use Rattle.pml_inline.specs.declared.definitions.Part.{Part}
use Rattle.promela_text.specs.Inlines.{arguments, Inline, is_among, parameter, instead, replaced, fits}
use Rattle.pml_inline.specs.Expansion.{Given, join_given, where_right, reading, calling}
use Rattle.pml_inline.proofs.Words.{counted}
use Rattle.pml_inline.specs.Places.{word_at, words_of}
use Rattle.pml_inline.specs.Parts.{places_of, AreMarked, unwrap_places, places_instead, places_replaced, is_bare}

-- ---- the tokens of a replacement

instead-is : (ts : List Word) (args : List (List ℕ)) (p : ℕ) (k : Option ℕ) → words_of ts (places_instead args p k) ≡ instead (map (words_of ts) args) (word_at ts p) k
instead-is ts args p None = refl
instead-is ts args p (Some k) = by_place args k
  where
    by_place : (args : List (List ℕ)) (k : ℕ) → words_of ts (unwrap_places (slice_get args k)) ≡ unwrap_or (slice_get (map (words_of ts) args) k) []
    by_place [] k = refl
    by_place (a ∷ args) zero = refl
    by_place (a ∷ args) (suc k) = by_place args k

pub replaced-is : (ts : List Word) (ps : List (List ℕ)) (parts : List Part) (args : List (List ℕ)) → AreMarked ts ps parts
    → words_of ts (places_replaced parts args) ≡ flat_map (λ w. instead (map (words_of ts) args) w (parameter ps w)) (words_of ts (places_of parts))
replaced-is ts ps [] args h = refl
replaced-is ts ps (p ∷ parts) args h =
    let mark : p.parameter ≡ parameter ps (word_at ts p.place) = All-head (λ q. q.parameter ≡ parameter ps (word_at ts q.place)) p parts h in
    let rest = replaced-is ts ps parts args (All-tail (λ q. q.parameter ≡ parameter ps (word_at ts q.place)) p parts h) in
    map-append (word_at ts) (places_instead args p.place p.parameter) (places_replaced parts args)
    ∙ ap (λ (ws : List Word). ws ++ words_of ts (places_replaced parts args)) (instead-is ts args p.place p.parameter ∙ ap (instead (map (words_of ts) args) (word_at ts p.place)) mark)
    ∙ ap (λ (ws : List Word). instead (map (words_of ts) args) (word_at ts p.place) (parameter ps (word_at ts p.place)) ++ ws) rest

pub bare-is : (ts : List Word) (args : List (List ℕ)) → list_any is_empty (map (words_of ts) args) ≡ list_any is_bare args
bare-is ts [] = refl
bare-is ts ([] ∷ args) = refl
bare-is ts ((p ∷ ps) ∷ args) = bare-is ts args

-- ---- a call

module _ (known : List Inline) (active : List (List ℕ)) (d : Inline) (inside : List Word) where
  pub calling_right : (room : ℕ) → (not (is_among d.name active) && fits d (arguments inside)) ≡ true
      → calling known (suc room) active d inside ≡ join_given (counted (replaced d (arguments inside))) (reading known (calling known room (active ++ d.name ∷ [])) (replaced d (arguments inside)) 0)
  unfolding calling
  calling_right room e = ap (λ (b : Bool). where_right b (λ ts. reading known (calling known room (active ++ d.name ∷ [])) ts 0) (replaced d (arguments inside))) e

  pub calling_wrong : (room : ℕ) → (not (is_among d.name active) && fits d (arguments inside)) ≡ false → calling known room active d inside ≡ None
  unfolding calling
  calling_wrong zero e = refl
  calling_wrong (suc room) e = ap (λ (b : Bool). where_right b (λ ts. reading known (calling known room (active ++ d.name ∷ [])) ts 0) (replaced d (arguments inside))) e

  pub calling_none : (room : ℕ) → room ≡ 0 → calling known room active d inside ≡ None
  unfolding calling
  calling_none room e = ap (λ (n : ℕ). calling known n active d inside) e

abbrev count_of : Option Given → ℕ
count_of None = 0
count_of (Some g) = g.count

-- the replacement itself counts
pub count_first : (n : ℕ) (r : Option Given) (g : Given) → join_given (Some (record { tokens = []; count = n })) r ≡ Some g → n ≤ g.count
count_first n None g e = absurd cc
count_first n (Some x) g e = let c : n + x.count ≡ g.count = ap count_of e in omega arith
