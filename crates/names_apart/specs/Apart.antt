-- A text in which names are divided.
use Rattle.std.specs.Prelude.{◌≡◌, ℕ, true, List, ◌⊎◌}
use Rattle.prepare.specs.Written.{Written}
use Rattle.prepare.specs.Stretches.{stretches}
use Rattle.names_apart.specs.Tallies.{tallied, is_divided}
use Rattle.names_apart.specs.Changes.{changes}
use Rattle.names_apart.specs.Labels as labels
use Rattle.names_apart.specs.Writing.{written}

-- what is made of stretches by dividing a name which some body declares several times
pub record IsDivision (joint : List ℕ) (ts : List Written) (made : List ℕ) : Type 0 where
  pub name : List ℕ
  pub wanted : is_divided (tallied name ts).most (tallied name ts).is_left ≡ true
  pub written : made ≡ written name joint (changes name (tallied name ts).table ts)

-- what is made of stretches by dividing a label which some body has several times by the calls of inlines
pub record IsLabelDivision (joint : List ℕ) (ts : List Written) (made : List ℕ) : Type 0 where
  pub name : List ℕ
  pub wanted : is_divided (labels.labelled name ts).most (labels.labelled name ts).is_left ≡ true
  pub written : made ≡ written name joint (labels.changes name (labels.labelled name ts).table ts)

abbrev pub IsStep : List ℕ → List Written → List ℕ → Type 0
IsStep joint ts made = IsDivision joint ts made ⊎ IsLabelDivision joint ts made

-- what is made of a text by dividing names, one behind another
pub data IsApart (joint : List ℕ) : List ℕ → List ℕ → Type 0 where
  same : {text : List ℕ} → IsApart joint text text
  next : {text before after : List ℕ} → IsApart joint text before → IsStep joint (stretches before) after → IsApart joint text after
