-- Places that stand in values of JSON.
use Rattle.std.specs.Prelude.{ℕ, List, [], Option, Some, None, codes, option_and_then, option_map}
use Rattle.std.specs.Option.{option_map_or}
use Rattle.serde_json.specs.Data.{Data}
use Rattle.serde_json.specs.Find.{get, as_number, as_str, as_u64}
use Rattle.text_parts.specs.declared.places.EditorPlace.{EditorPlace}

-- the number of this name, if it is none below 0 and no fraction
abbrev pub number_in : List ℕ → Data → Option ℕ
number_in k d = option_and_then as_u64 (option_and_then as_number (get k d))

abbrev pub place_with : Option ℕ → Option ℕ → Option EditorPlace
place_with (Some l) (Some c) = Some (record { line = l; column = c })
place_with l c = None

-- the place that a line and a character name
abbrev pub place_in : Data → Option EditorPlace
place_in d = place_with (number_in (codes "line") d) (number_in (codes "character") d)

-- the text of this name, or an empty one
abbrev pub text_in : List ℕ → Data → List ℕ
text_in k d = option_map_or (λ t. t) (option_and_then as_str (get k d)) []
