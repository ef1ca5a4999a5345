-- Words for laws over the definitions.
use Rattle.std.specs.Prelude.{◌≡◌, ℕ, ◌+◌, Bool, true, false, not, ◌&&◌, ◌||◌, List, [], ◌∷◌, ◌++◌, map, count_by}
use Rattle.std.specs.List.{list_all, list_any, flat_map}
use lib.Chars.{codes}
use Rattle.pml_token.specs.declared.token.Kind.TheVariants.{LeftOut}
use Rattle.pml_token.specs.Word.{same_kind, Word}
use Rattle.promela_text.specs.Tokens.{is_line_feed, IsCut, has_left_out}
use Rattle.prepare.specs.declared.context.Supply.{Supply}
use Rattle.prepare.specs.declared.context.Supply.TheVariants as as_supply
use Rattle.prepare.specs.declared.stretch.StretchForm.{StretchForm}
use Rattle.prepare.specs.declared.stretch.StretchForm.TheVariants as form
use Rattle.prepare.specs.Written.{Written}
use Rattle.prepare.specs.Stretches.{stretches}
use Rattle.prepare.specs.Spelling.{unbroken, spelled}
use Rattle.prepare.specs.Blocks.{is_blanked}
use Rattle.prepare.specs.Numbering.{bare, numbered, has_marker}
use Rattle.prepare.specs.Coding.{coded, has_character}
use Rattle.prepare.specs.declared.changes.Respelling.{Respelling}
use Rattle.prepare.specs.Changed.{Changed}
use Rattle.prepare.specs.Changes.{exchanges, respelled_one, respelled, is_same}

-- a text with its lines where its markers say, and with numbers in place of its character constants
abbrev pub lined : List ℕ → List ℕ
lined text = coded (numbered (bare text))

-- this with its separators, and without blocks
abbrev pub separated : List ℕ → List ℕ
separated text = spelled (stretches (lined text))

-- what becomes of the tokens of a text
abbrev pub exchanged : List ℕ → List ℕ
exchanged text = respelled (exchanges (stretches text))

-- what is made of a text
abbrev pub prepared : List ℕ → List ℕ
prepared text = exchanged (separated text)

-- whether another token, or none, is written in place of one of a text: of a subtype of `mtype`, or of a `for` over an array
abbrev pub has_change : List ℕ → Bool
has_change text = not (list_all is_same (exchanges (stretches text)))

-- what a stretch has of the text: all but what is written
abbrev pub source : Written → List ℕ
source t = t.gap ++ t.token

abbrev pub sources : List Written → List ℕ
sources ts = flat_map source ts

abbrev pub is_nothing : Supply → Bool
is_nothing as_supply.Nothing = true
is_nothing _ = false

-- whether nothing is written between stretches
abbrev pub is_unsupplied : List Written → Bool
is_unsupplied ts = list_all (λ t. is_nothing t.supply) ts

-- whether a token comes out as it is: no block, and no string over several lines
abbrev pub stays : StretchForm → List ℕ → Bool
stays form.Kept t = true
stays form.Joined t = not (list_any is_line_feed t)
stays form.Blanked t = false

-- whether nothing is mended at a stretch
abbrev pub is_plain : Written → Bool
is_plain t = is_nothing t.supply && stays t.form t.token

-- whether a text has no block, no line end that stands for a separator, no label without a statement and no string over several lines
abbrev pub is_mended : List ℕ → Bool
is_mended text = list_all is_plain (stretches text)

-- nothing in the text is to be mended: no marker of a line, no byte order mark, no character constant, no block, no line end that
-- stands for a separator, no label without a statement, no string over several lines, and no token that is another here
pub record HasNothingToMend (text : List ℕ) : Type 0 where
  pub bare : bare text ≡ text
  pub markers : has_marker text ≡ false
  pub characters : has_character text ≡ false
  pub stretches : is_mended text ≡ true
  pub changes : has_change text ≡ false

-- the tokens of stretches, as bytes
abbrev pub tokens : List Written → List (List ℕ)
tokens ts = map (λ t. t.token) ts

-- whether a token is that of a block, or one that the text may have: no word, sign or line that is left out, and no byte that begins none
abbrev pub is_token : Written → Bool
is_token t = is_blanked t || not (same_kind t.kind LeftOut)

-- whether a text has such tokens alone
abbrev pub has_tokens_alone : List ℕ → Bool
has_tokens_alone text = list_all is_token (stretches text)

-- the tokens that are written: what is supplied, and what is not blanked, a string on one line
abbrev pub supplied : Supply → List (List ℕ)
supplied as_supply.Nothing = []
supplied as_supply.Separator = codes ";" ∷ []
supplied as_supply.Skip = codes "skip" ∷ []

abbrev pub kept : StretchForm → List ℕ → List (List ℕ)
kept form.Kept t = t ∷ []
kept form.Joined t = unbroken false t ∷ []
kept form.Blanked t = []

-- a token on its line
pub record Standing : Type 0 where
  pub text : List ℕ
  pub line : ℕ

abbrev pub all_on : ℕ → List (List ℕ) → List Standing
all_on line ts = map (λ t. record { text = t; line = line }) ts

-- the line behind a text, where it begins on line n
abbrev pub line_from : ℕ → List ℕ → ℕ
line_from n t = n + count_by is_line_feed t

-- the tokens that are written of stretches whose text begins on line n, each on the line that it has there; the last stretch has none
abbrev pub written_from : ℕ → List Written → List Standing
written_from n [] = []
written_from n (t ∷ []) = all_on n (supplied t.supply)
written_from n (t ∷ u ∷ us) = all_on n (supplied t.supply) ++ (all_on (line_from n t.gap) (kept t.form t.token) ++ written_from (line_from n (source t)) (u ∷ us))

-- the tokens of what becomes of a text, as they were before, each on the line where what becomes of it is written; the last has none
abbrev pub shown_from : ℕ → List (Changed Respelling) → List Standing
shown_from n [] = []
shown_from n (c ∷ []) = []
shown_from n (c ∷ d ∷ ds) = record { text = c.token; line = line_from n c.gap } ∷ shown_from (line_from n (respelled_one c)) (d ∷ ds)

abbrev pub standing : List Word → List Standing
standing ts = map (λ w. record { text = w.text; line = w.line }) ts

abbrev pub texts : List Word → List (List ℕ)
texts ts = map (λ w. w.text) ts

-- a text's tokens, of which none is left out
pub record AreKept (text : List ℕ) (ts : List Word) : Type 0 where
  pub are_cut : IsCut text ts
  pub all_kept : has_left_out ts ≡ false

-- what is written of a text is cut into the tokens that are written, each on the line that it has in the text
pub record IsCutAgain (text : List ℕ) : Type 0 where
  pub cut : List Word
  pub are_cut : IsCut (spelled (stretches text)) cut
  pub as_written : standing cut ≡ written_from 1 (stretches text)

-- the tokens of what is prepared, as they were before some become others, are those that are written of a text with its lines where its markers
-- say, each on the line that it has there
abbrev pub TokensStay : List ℕ → Type 0
TokensStay text = has_tokens_alone (lined text) ≡ true → shown_from 1 (exchanges (stretches (separated text))) ≡ written_from 1 (stretches (lined text))
