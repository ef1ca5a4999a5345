-- Names of an mtype that stand for one another.
use Rattle.std.specs.Prelude.{◌&&◌, ◌||◌, ℕ, List, Bool}
use Rattle.std.specs.List.{list_any}
use Rattle.std.specs.Str.{bytes_eq}
use Rattle.pml_token.specs.Word.{Word}
use Rattle.trail_text.specs.Parts.{is_number}

-- a word is one of these names
abbrev pub is_mtype : List Word → List ℕ → Bool
is_mtype names word = list_any (λ name. bytes_eq name.text word) names

-- one may stand for the other: a name for a name, or for a number
abbrev pub stands_for : List Word → List ℕ → List ℕ → Bool
stands_for names one other =
    (is_mtype names one && (is_mtype names other || is_number other)) || (is_mtype names other && is_number one)
