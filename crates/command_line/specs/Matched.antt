-- What `arguments` hands out, by the matches of `clap`.
use Rattle.std.specs.Prelude.{◌≡◌, ◌<◌, ◌^◌, ◌↔◌, ◌⊎◌, ℕ, List, [], Option, Some, IsTrue, codes, map, option_map, unwrap_or}
use Rattle.std.specs.String.{string_bytes}
use Rattle.std.specs.Str.Parse.{IsNumeral, digits_value, without_leading_plus}
use Rattle.clap.specs.Words.{Row, Text, all_of, count_of, first_of, one_of}
use Rattle.command_line.specs.declared.options.Arguments.{Arguments}

-- n is the number that the text spells in decimal digits, perhaps after a plus
abbrev pub Spells : Text → ℕ → Type 0
Spells t n = IsNumeral 10 (without_leading_plus t) × (n ≡ digits_value 10 (without_leading_plus t))

-- n is the number that the text of `-u` spells, or 1,000,000 where there is no text, or none that spells a number of 32 bits
abbrev pub IsLimit : Option Text → ℕ → Type 0
IsLimit text n = ((t : Text) × (text ≡ Some t) × Spells t n) ⊎ (((t : Text) (m : ℕ) → text ≡ Some t → m < 2 ^ 32 → Spells t m → ⊥) × (n ≡ 1000000))

-- all texts of an option, in turn
abbrev pub texts_of : Text → List Row → List Text
texts_of id rows = unwrap_or (all_of id rows) []

-- These arguments are what the matches of the words hold.
pub record IsReadFrom (rows : List Row) (a : Arguments) : Type 0 where
  pub steps : IsTrue a.options.steps ↔ (0 < count_of (codes "p") rows)
  pub globals : IsTrue a.options.globals ↔ (0 < count_of (codes "g") rows)
  pub locals : IsTrue a.options.locals ↔ (0 < count_of (codes "l") rows)
  pub lossy : IsTrue a.options.lossy ↔ (0 < count_of (codes "m") rows)
  pub limit : IsLimit (one_of (codes "u") rows) a.options.limit
  pub model : first_of (codes "MODEL") rows ≡ Some (string_bytes a.model)
  pub choices : first_of (codes "choices") rows ≡ option_map string_bytes a.choices
  pub rec : first_of (codes "record") rows ≡ option_map string_bytes a.rec
  pub convert : IsTrue a.convert ↔ (0 < count_of (codes "convert") rows)
  pub check : IsTrue a.check ↔ (0 < count_of (codes "check") rows)
  pub explain : IsTrue a.explain ↔ (0 < count_of (codes "explain") rows)
  pub name : first_of (codes "name") rows ≡ option_map string_bytes a.name
  pub source : first_of (codes "source") rows ≡ option_map string_bytes a.source
  pub lines : first_of (codes "lines") rows ≡ option_map string_bytes a.lines
  pub prepare : IsTrue a.prepare ↔ (0 < count_of (codes "prepare") rows)
  pub no_cpp : IsTrue a.no_cpp ↔ (0 < count_of (codes "no-cpp") rows)
  pub defines : map string_bytes a.defines.items ≡ texts_of (codes "D") rows
  pub folders : map string_bytes a.folders.items ≡ texts_of (codes "I") rows
