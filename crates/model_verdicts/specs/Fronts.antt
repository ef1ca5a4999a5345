-- What a name may be, and how a label begins.
use Rattle.std.specs.Prelude.{◌≡◌, ℕ, nat_eq, Bool, true, false, ◌&&◌, if◌then◌else◌, List, [], ◌∷◌, codes}
use Rattle.std.specs.Str.{bytes_eq}
use Rattle.std.specs.List.{starts_with}
use Rattle.pml_token.specs.declared.token.Kind.TheVariants as kind
use Rattle.pml_token.specs.Word.{same_kind, Word}
use Rattle.explain_tokens.specs.Placed.{ArePlaced}
use Rattle.model_verdicts.specs.declared.parts.LabelPrefix.{LabelPrefix}
use Rattle.model_verdicts.specs.declared.parts.LabelPrefix.TheVariants.{End, Progress, Accept, Plain}

-- one token is all of a text, and a name
abbrev pub is_one_name : List ℕ → List Word → Bool
is_one_name text (w ∷ []) = same_kind w.kind kind.Name && bytes_eq w.text text
is_one_name text ws = false

-- the text is cut into one name
pub record IsName (text : List ℕ) : Type 0 where
  pub tokens : List Word
  pub placed : ArePlaced text tokens
  pub one : is_one_name text tokens ≡ true

abbrev pub begins : List ℕ → List ℕ → Bool
begins name front = starts_with nat_eq name front

-- how a label begins
abbrev pub front_of : List ℕ → LabelPrefix
front_of name =
    if begins name (codes "end") then End
    else (if begins name (codes "progress") then Progress else (if begins name (codes "accept") then Accept else Plain))
