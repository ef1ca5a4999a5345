-- Words that other programs have for what a session does.
use Rattle.std.specs.Prelude.{ℕ, List, map, Option}
use Rattle.std.specs.List.{find}
use Rattle.std.specs.Option.{option_map}
use Rattle.std.specs.Str.{bytes_eq}
use Rattle.view_commands.specs.declared.others.TheConstants.{OTHERS}

-- what a table has for a word: behind the first that is that word
abbrev pub told_in : List (List ℕ × List ℕ) → List ℕ → Option (List ℕ)
told_in others word = option_map (λ other. other.1) (find (λ other. bytes_eq word other.0) others)

-- what there is in place of a word that another program has
unfoldable pub told : List ℕ → Option (List ℕ)
told word = told_in (map (λ other. (other.0.now, other.1.now)) OTHERS) word
