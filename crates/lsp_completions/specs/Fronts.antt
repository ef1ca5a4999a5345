-- The word that is being typed, and the tokens before it.
use Rattle.std.specs.Prelude.{ℕ, ◌+◌, ◌-◌, nat_eq, nat_le, Bool, false, ◌&&◌, ◌||◌, if◌then◌else◌, List, [], ◌∷◌, length, take, slice_get}
use Rattle.std.specs.Option.{option_map_or}
use Rattle.pml_token.specs.Word.{Word}

abbrev pub begins_word : List ℕ → Bool
begins_word [] = false
begins_word (b ∷ bs) = ((nat_le 97 b && nat_le b 122) || (nat_le 65 b && nat_le b 90)) || nat_eq b 95

-- a word that ends at a place
abbrev pub is_typed : ℕ → Word → Bool
is_typed at w = begins_word w.text && nat_eq (w.line + length w.text) at

abbrev pub typed_of : ℕ → Word → List ℕ
typed_of at w = if is_typed at w then w.text else []

-- the last of the tokens, if it is one
abbrev pub typed_in : ℕ → List Word → List ℕ
typed_in at ws = option_map_or (typed_of at) (slice_get ws (length ws - 1)) []

-- the tokens before it
abbrev pub before_typed : ℕ → List Word → List Word
before_typed at ws = if option_map_or (is_typed at) (slice_get ws (length ws - 1)) false then take (length ws - 1) ws else ws
