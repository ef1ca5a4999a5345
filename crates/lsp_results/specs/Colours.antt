-- The tokens of a text that are coloured, in their order.
use Rattle.std.specs.Prelude.{ℕ, ◌-◌, nat_le, nat_lt, Bool, false, ◌&&◌, if◌then◌else◌, List, [], ◌∷◌, length, slice_index_or}
use Rattle.pml_token.specs.declared.token.Kind.{Kind}
use Rattle.pml_token.specs.declared.token.Kind.TheVariants as kind
use Rattle.pml_token.specs.Word.{Word}
use Rattle.text_parts.specs.declared.parts.Coloured.{Coloured}
use Rattle.lsp_results.specs.declared.colours.AskedPart.{AskedPart}

-- it begins as a word does
abbrev pub is_word : List ℕ → Bool
is_word [] = false
is_word (b ∷ bs) = nat_le 97 b && nat_le b 122

abbrev pub word_or_sign : List ℕ → ℕ
word_or_sign text = if is_word text then 9 else 0

-- what a token is, from 1: a name as it is declared, a number, a string or a word; 0 for a sign, and for a name that is declared nowhere
abbrev pub sort_by : List ℕ → Word → Kind → ℕ
sort_by cells w kind.Name = slice_index_or cells w.line 0
sort_by cells w kind.Number = 10
sort_by cells w kind.Quoted = 11
sort_by cells w k = word_or_sign w.text

abbrev pub sort_of : List ℕ → Word → ℕ
sort_of cells w = sort_by cells w w.kind

-- it begins in a part of the text
abbrev pub is_within : AskedPart → Word → Bool
is_within p w = nat_le p.from w.line && nat_lt w.line p.to

abbrev pub coloured_token : List ℕ → Word → Coloured
coloured_token cells w = record { at = w.line; length = length w.text; sort = sort_of cells w - 1 }

-- one entry for each token that has a colour, in the order of the text
abbrev pub coloured_in : List ℕ → AskedPart → List Word → List Coloured
coloured_in cells p [] = []
coloured_in cells p (w ∷ ws) =
    if is_within p w && nat_lt 0 (sort_of cells w) then coloured_token cells w ∷ coloured_in cells p ws else coloured_in cells p ws
