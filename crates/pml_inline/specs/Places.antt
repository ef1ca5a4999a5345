-- Tokens by their places in a text. No clause of a public function cites this.
use Rattle.std.specs.Prelude.{ℕ, zero, suc, List, [], ◌∷◌, map, slice_index_or}
use Rattle.pml_token.specs.declared.token.Kind.TheVariants.{End}
use Rattle.pml_token.specs.Word.{Word}

abbrev pub no_word : Word
no_word = record { kind = End; text = []; line = 0 }

abbrev pub word_at : List Word → ℕ → Word
word_at ts i = slice_index_or ts i no_word

abbrev pub words_of : List Word → List ℕ → List Word
words_of ts ps = map (word_at ts) ps

-- k, k + 1, .., n of them
abbrev pub places_from : ℕ → ℕ → List ℕ
places_from k zero = []
places_from k (suc n) = k ∷ places_from (suc k) n
