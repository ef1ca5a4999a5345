-- What is said of a text by its own tokens, where none of them is the word `inline`.
use Rattle.std.specs.Prelude.{◌≡◌, ℕ, false, List}
use Rattle.pml_token.specs.Word.{Word}
use Rattle.diagnostics.specs.declared.refusal.Refusal.{Refusal}
use Rattle.promela_text.specs.Tokens.{AreTokens, IsLine, IsTooDeep}
use Rattle.promela_text.specs.Inlines.{has_inline}
use Rattle.pml_tree.specs.declared.tree.Tree.{Tree}
use Rattle.promela_grammar.specs.Models.{Spells}
use Rattle.pml_play.specs.Transcript.{IsRefused, IsSpelled}

-- the text's tokens, and no word `inline` is among them
pub record ArePlain (text : List ℕ) (tokens : List Word) : Type 0 where
  pub are_tokens : AreTokens text tokens
  pub no_inline : has_inline tokens ≡ false

-- they are not too deep, and spell this tree
pub record SpellItself (tokens : List Word) (tree : Tree) : Type 0 where
  pub shallow : IsTooDeep tokens → ⊥
  pub spells : Spells tree tokens

-- they are not too deep, and spell no tree
pub record SpellNothing (tokens : List Word) : Type 0 where
  pub shallow : IsTooDeep tokens → ⊥
  pub none : (tree : Tree) → Spells tree tokens → ⊥

-- each says what the other does
abbrev pub SayTheSame : Type 0 → Type 0 → Type 0
SayTheSame A B = (A → B) × (B → A)

-- the text is refused so, at a line of its own, exactly where this holds
abbrev pub IsRefusedWhere : List ℕ → Refusal → Type 0 → Type 0
IsRefusedWhere text refusal holds = (line : ℕ) → SayTheSame (IsRefused text refusal line) (holds × IsLine text line)

-- it is refused so at no line
abbrev pub IsNeverRefused : List ℕ → Refusal → Type 0
IsNeverRefused text refusal = (line : ℕ) → IsRefused text refusal line → ⊥

-- the text spells a tree exactly where its own tokens do
abbrev pub SpellTheSame : List ℕ → List Word → Type 0
SpellTheSame text tokens = (tree : Tree) → SayTheSame (IsSpelled text tree) (SpellItself tokens tree)

-- this holds of each text without the word `inline` and its tokens
abbrev pub OfEachPlain : (List ℕ → List Word → Type 0) → Type 0
OfEachPlain says = (text : List ℕ) (tokens : List Word) → ArePlain text tokens → says text tokens
