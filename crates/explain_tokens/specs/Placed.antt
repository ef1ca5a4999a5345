-- The tokens of a text, each with its place.
use Rattle.std.specs.Prelude.{◌≡◌, ◌<◌, ℕ, List, [], ◌++◌, ◌∷◌, length, take, drop}
use Rattle.profile.specs.declared.TheConstants.{MOST_TEXT_BYTES}
use Rattle.pml_lex.specs.declared.fault.LexError.{LexError}
use Rattle.pml_lex.specs.declared.fault.LexError.TheVariants.{Memory, TooLong, Lexical, LeftOut}
use Rattle.pml_token.specs.Word.{Word}
use Rattle.promela_text.specs.Tokens.{lexeme, CanStand, IsLongest, IsDivision, IsCut, is_fresh, word}

-- the tokens among lexemes, each with how many bytes stand before it in place of its line
abbrev pub placed_words : List ℕ → List (List ℕ) → List Word
placed_words before [] = []
placed_words before (p ∷ ps) = word (lexeme (is_fresh before) p) p (length before) ++ placed_words (before ++ p) ps

-- the tokens of a text, each with its place in place of its line
pub record ArePlaced (text : List ℕ) (ts : List Word) : Type 0 where
  pub lexemes : List (List ℕ)
  pub divides : IsDivision text lexemes
  pub are_words : ts ≡ placed_words [] lexemes

-- these lexemes are the front of `rest`, behind `before`, each the longest that can stand at its place, and `left` is behind them
abbrev pub Begins : List ℕ → List (List ℕ) → List ℕ → List ℕ → Type 0
Begins before [] rest left = rest ≡ left
Begins before (p ∷ ps) rest left = IsLongest (is_fresh before) rest p × Begins (before ++ p) ps (drop (length p) rest) left

-- the text has no tokens: so many of its bytes are lexemes, and nothing can stand behind them
pub record StopsAt (text : List ℕ) (place : ℕ) : Type 0 where
  pub within : place < length text
  pub lexemes : List (List ℕ)
  pub begins : Begins [] lexemes text (drop place text)
  pub nothing : (p : List ℕ) → CanStand (is_fresh (take place text)) (drop place text) p → ⊥
  pub never : (ts : List Word) → IsCut text ts → ⊥

abbrev pub IsUnplaced : List ℕ → LexError → Type 0
IsUnplaced text Memory = Unit {0}
IsUnplaced text TooLong = MOST_TEXT_BYTES < length text
IsUnplaced text (Lexical place) = StopsAt text place
IsUnplaced text (LeftOut place) = ⊥

-- of two lists each token has the same kind and bytes
pub record IsSame (v w : Word) : Type 0 where
  pub kind : v.kind ≡ w.kind
  pub text : v.text ≡ w.text

abbrev pub AreSame : List Word → List Word → Type 0
AreSame [] [] = Unit {0}
AreSame (v ∷ vs) (w ∷ ws) = IsSame v w × AreSame vs ws
AreSame _ _ = ⊥

-- the token's bytes stand in the text at its place
abbrev pub StandsThere : List ℕ → Word → Type 0
StandsThere text w = take (length w.text) (drop w.line text) ≡ w.text
