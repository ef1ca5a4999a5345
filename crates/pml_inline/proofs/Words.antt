-- Words by which what is asked behind an option is said.
use Rattle.std.specs.Prelude.{ℕ, ◌+◌, if◌then◌else◌, List, ◌∷◌, [], length, map, take, drop, Option, Some, None, option_map, option_and_then}
use Rattle.pml_token.specs.Word.{Word}
use Rattle.promela_text.specs.Inlines.{Inline, listed, with_body, all_differ}
use Rattle.pml_inline.specs.Expansion.{Given, join_given, limited, texts}

-- a definition, and those behind it
abbrev pub define : Option Inline → (ℕ → Option (List Inline)) → Option (List Inline)
define o rest = option_and_then (λ d. option_map (λ ds. d ∷ ds) (rest d.size)) o

-- the definition with these parameters, whose body stands behind them
abbrev pub with_parameters : List ℕ → List Word → Option (List (List ℕ)) → Option Inline
with_parameters name ts o = option_and_then (λ ps. with_body name ps (drop (listed ps) ts)) o

-- a call, whose `)` stands behind so many tokens between its parentheses, and the rest
abbrev pub enclosed : (List Word → Option Given) → List Word → (ℕ → Option Given) → Option ℕ → Option Given
enclosed call ws rest o = option_and_then (λ n. join_given (call (take n (drop 1 ws))) (rest (n + 2))) o

-- what comes of a text with these definitions, no two of which have one name
abbrev pub by_definitions : List Word → Option (List Inline) → Option (List Word)
by_definitions ts o = option_and_then (λ ds. if all_differ (map (λ d. d.name) ds) then limited (texts ts [] ds 0 0) else None) o

-- no token comes out
abbrev pub nothing : Option Given
nothing = Some (record { tokens = []; count = 0 })

-- a replacement counts by its tokens
abbrev pub counted : List Word → Option Given
counted ts = Some (record { tokens = []; count = length ts })
