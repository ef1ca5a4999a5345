-- Words for laws over the definitions.
use Rattle.std.specs.Prelude.{◌≡◌, ℕ, true, false, List, [], ◌∷◌, ◌++◌, ◌⊎◌}
use Rattle.std.specs.List.{list_all, list_any}
use Rattle.profile.specs.Characters.{line_feed}
use Rattle.pml_token.specs.Word.{Word}
use Rattle.promela_text.specs.Tokens.{is_blank, is_line_feed, line_behind}

-- the text is its lines above, which are none or end with a line feed, and blanks
pub record LastLineIsBlank (text : List ℕ) : Type 0 where
  pub above : List ℕ
  pub last : List ℕ
  pub joins : text ≡ above ++ last
  pub ends : (above ≡ []) ⊎ ((front : List ℕ) × (above ≡ front ++ line_feed ∷ []))
  pub no_feed : list_any is_line_feed last ≡ false
  pub blank : list_all is_blank last ≡ true

-- A token stands in the rest of a text, which goes on behind `before`: a gap, the token's text, and what is behind it.
pub record StandsNext (before rest : List ℕ) (w : Word) : Type 0 where
  pub gap : List ℕ
  pub behind : List ℕ
  pub joins : rest ≡ gap ++ w.text ++ behind
  pub on_line : w.line ≡ line_behind (before ++ gap)

-- The tokens' texts stand in the rest one behind the other, in the order of the tokens, each on its line.
abbrev pub StandInOrder : List ℕ → List ℕ → List Word → Type 0
StandInOrder before rest [] = Unit {0}
StandInOrder before rest (w ∷ ws) = (next : StandsNext before rest w) × StandInOrder (before ++ next.gap ++ w.text) next.behind ws
