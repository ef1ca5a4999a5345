-- Definitions as the code keeps them. No clause of a public function cites this.
use Rattle.std.specs.Prelude.{◌≡◌, ◌≤◌, ◌+◌, ℕ, Bool, true, false, List, [], ◌∷◌, length, drop, map, All, Option, Some, None}
use Rattle.std.specs.List.{flat_map, slice_get}
use Rattle.std.specs.Borrow.{Bor}
use Rattle.std.specs.Ordering.{nat_cmp}
use Rattle.std.specs.Cmp.Lexicographic.{slice_cmp}
use Rattle.std.specs.BTreeMap.{BTreeMap, get_by}
use Rattle.pml_token.specs.Word.{Word}
use Rattle.pml_inline.specs.declared.definitions.Part.{Part}
use Rattle.pml_inline.specs.declared.definitions.Definition.{Definition}
use Rattle.pml_inline.specs.Places.{word_at, words_of}
use Rattle.promela_text.specs.declared.inline_fault.InlineError.{InlineError}
use Rattle.promela_text.specs.declared.inline_fault.InlineError.TheVariants.{Memory, Inline as Misused, TooDeep}
use Rattle.promela_text.specs.Inlines.{Inline, all_differ, definition, parameter, place_of}
use Rattle.pml_inline.specs.Expansion.{definitions}

abbrev pub texts_of : List (Bor (List ℕ)) → List (List ℕ)
texts_of ns = map (λ n. n.now) ns

abbrev pub Numbers : Type 0
Numbers = BTreeMap (Bor (List ℕ)) ℕ

abbrev pub number_in : Numbers → List ℕ → Option ℕ
number_in ns n = get_by (λ k. slice_cmp nat_cmp n k.now) ns

-- no name stands twice, and each has its place
pub record AreNumbered (numbers : Numbers) (names : List (List ℕ)) : Type 0 where
  pub apart : all_differ names ≡ true
  pub placed : (n : List ℕ) → number_in numbers n ≡ place_of n names

abbrev pub places_of : List Part → List ℕ
places_of parts = map (λ p. p.place) parts

-- the inline that a definition stands for
abbrev pub inline_of : List Word → Definition → Inline
inline_of ts d = record { name = d.name.now; parameters = texts_of d.parameters.items; body = words_of ts (places_of d.body.items); size = d.size }

abbrev pub inlines_of : List Word → List Definition → List Inline
inlines_of ts ds = map (inline_of ts) ds

-- each token of a body has the parameter that it names
abbrev pub AreMarked : List Word → List (List ℕ) → List Part → Type 0
AreMarked ts ps parts = All (λ p. p.parameter ≡ parameter ps (word_at ts p.place)) parts

abbrev pub IsMarked : List Word → Definition → Type 0
IsMarked ts d = AreMarked ts (texts_of d.parameters.items) d.body.items

abbrev pub AreAllMarked : List Word → List Definition → Type 0
AreAllMarked ts ds = All (IsMarked ts) ds

-- no definition is longer than the text
abbrev pub AreShort : List Word → List Definition → Type 0
AreShort ts ds = All (λ d. d.size ≤ length ts) ds

abbrev pub unwrap_places : Option (List ℕ) → List ℕ
unwrap_places None = []
unwrap_places (Some ps) = ps

abbrev pub places_instead : List (List ℕ) → ℕ → Option ℕ → List ℕ
places_instead args p None = p ∷ []
places_instead args p (Some k) = unwrap_places (slice_get args k)

-- the places of a body, with the arguments in place of the parameters
abbrev pub places_replaced : List Part → List (List ℕ) → List ℕ
places_replaced parts args = flat_map (λ p. places_instead args p.place p.parameter) parts

-- these are all of them, no more than `most`
abbrev pub IsWithin : (all : List ℕ) (most : ℕ) → List ℕ → Type 0
IsWithin all most found = (found ≡ all) × (length found ≤ most)

-- the definition of this name among all, by its number
abbrev pub number_of : List Inline → Word → Option ℕ
number_of ds w = parameter (map (λ d. d.name) ds) w

abbrev pub lists_of : List (Bor (List ℕ)) → List (List ℕ)
lists_of ps = map (λ p. p.now) ps

abbrev pub is_bare : List ℕ → Bool
is_bare [] = true
is_bare (p ∷ ps) = false

-- what the tokens from a place on define
pub record IsDefinition (ts : List Word) (d : Definition) (from : ℕ) : Type 0 where
  pub is : definition (drop from ts) ≡ Some (inline_of ts d)
  pub marked : IsMarked ts d
  pub fits : from + d.size ≤ length ts

-- the definitions are not right
abbrev pub IsUndefined : List Word → InlineError → Type 0
IsUndefined ts Memory = Unit {0}
IsUndefined ts (Misused misuse) = definitions ts 0 ≡ None
IsUndefined ts (TooDeep line limit) = ⊥

abbrev pub IsRepeated : List Inline → InlineError → Type 0
IsRepeated ds Memory = Unit {0}
IsRepeated ds (Misused misuse) = all_differ (map (λ d. d.name) ds) ≡ false
IsRepeated ds (TooDeep line limit) = ⊥
