-- What is blanked of a text, by its tokens.
use Rattle.std.specs.Prelude.{◌≡◌, ◌<◌, ℕ, ◌-◌, Bool, true, false, ◌||◌, if◌then◌else◌, List, [], ◌∷◌, ◌++◌, fold, ◌⊎◌}
use Rattle.std.specs.List.{list_all}
use Rattle.pml_token.specs.declared.token.Kind.TheVariants.{OpenBrace, CloseBrace, Name}
use Rattle.pml_token.specs.Word.{same_kind}
use Rattle.prepare.specs.declared.stretch.StretchForm.{StretchForm}
use Rattle.prepare.specs.declared.stretch.StretchForm.TheVariants as form
use Rattle.prepare.specs.Roles.{is_block_word}
use Rattle.prepare.specs.Contexts.{deeper}
use Rattle.prepare.specs.Written.{Written}

abbrev pub is_blank_form : StretchForm → Bool
is_blank_form form.Blanked = true
is_blank_form _ = false

-- whether blanks are written in place of a token
abbrev pub is_blanked : Written → Bool
is_blanked t = is_blank_form t.form

-- whether a token is the word of a block: `never`, `ltl`, `trace` or `notrace`
abbrev pub heads : Written → Bool
heads t = is_block_word t.token

abbrev pub opens : Written → Bool
opens t = same_kind t.kind OpenBrace

abbrev pub closes : Written → Bool
closes t = same_kind t.kind CloseBrace

-- how many braces are open behind a token, where n are before it
abbrev pub open_behind : ℕ → Written → ℕ
open_behind n t = if opens t then deeper n else (if closes t then n - 1 else n)

abbrev pub open_after : ℕ → List Written → ℕ
open_after n ts = fold open_behind n ts

-- behind the last of these tokens all of n open braces are closed, and before it some are open
pub record Closes (n : ℕ) (ts : List Written) : Type 0 where
  pub all : open_after n ts ≡ 0
  pub last : (front back : List Written) → ts ≡ front ++ back → (back ≡ [] → ⊥) → 0 < open_after n front

-- behind each of these tokens some of n open braces are open
abbrev pub NeverCloses : ℕ → List Written → Type 0
NeverCloses n ts = (front back : List Written) → ts ≡ front ++ back → 0 < open_after n front

-- nothing is left but the end of the text, which has no token
abbrev pub IsEnd : List Written → Type 0
IsEnd ts = (t : Written) × (ts ≡ t ∷ []) × (t.token ≡ [])

-- whether a token may stand between the word of a block and its `{`: a name, or another such word
abbrev pub leads : Written → Bool
leads t = heads t || same_kind t.kind Name

abbrev pub goes_on : List Written → Bool
goes_on [] = false
goes_on (t ∷ ts) = leads t || opens t

-- what follows the word and the names of a block: a `{` with all up to the `}` that closes it, or up to the end of the text where none
-- does; or nothing, where no `{` stands there
abbrev pub IsBody : List Written → List Written → Type 0
IsBody [] rest = goes_on rest ≡ false
IsBody (t ∷ ts) rest = (opens t ≡ true) × (Closes 1 ts ⊎ (NeverCloses 1 ts × IsEnd rest))

-- these tokens are a block, before others: it begins with its word, and all of it is blanked
pub record IsBlock (block rest : List Written) : Type 0 where
  pub word : Written
  pub names : List Written
  pub body : List Written
  pub joins : block ≡ word ∷ (names ++ body)
  pub begins : heads word ≡ true
  pub named : list_all leads names ≡ true
  pub ends : IsBody body rest
  pub blanked : list_all is_blanked block ≡ true

-- Just the blocks are blanked: a text is blocks, and between them tokens that are no word of one, and are not blanked.
pub data BlanksAreBlocks : List Written → Type 0 where
  last : {t : Written} → is_blanked t ≡ false → BlanksAreBlocks (t ∷ [])
  kept : {t : Written} {ts : List Written} → is_blanked t ≡ false → heads t ≡ false → BlanksAreBlocks ts → BlanksAreBlocks (t ∷ ts)
  block : {block ts : List Written} → IsBlock block ts → BlanksAreBlocks ts → BlanksAreBlocks (block ++ ts)
