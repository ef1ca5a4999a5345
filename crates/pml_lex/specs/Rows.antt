-- Lines of tokens, and rows of tokens that nothing breaks, counted from the front.
use Rattle.std.specs.Prelude.{◌<◌, ℕ, ◌+◌, ◌-◌, List, take, fold, All, if◌then◌else◌, ◌⊎◌}
use Rattle.profile.specs.declared.TheConstants.{MOST_IN_A_ROW, MOST_OPEN}
use Rattle.pml_token.specs.declared.token.Kind.{Kind}
use Rattle.pml_token.specs.Word.{Word}
use Rattle.promela_text.specs.Tokens.{IsOnLine, opens, closes, breaks, depth_behind}

-- each token is on one of the lines from 1 to `most`
abbrev pub AreOnLines : ℕ → List Word → Type 0
AreOnLines most ts = All (λ w. IsOnLine most w.line) ts

-- how deep it is behind a token; `-` stops at 0
abbrev pub deepen : ℕ → Kind → ℕ
deepen n k = if opens k then n + 1 else (if closes k then n - 1 else n)

-- How many tokens stand behind the last that breaks a row. No clause of a public function cites it.
abbrev pub lengthen : ℕ → Kind → ℕ
lengthen n k = if breaks k then 0 else n + 1

abbrev pub row_behind : List Word → ℕ
row_behind ts = fold (λ n w. lengthen n w.kind) 0 ts

abbrev pub IsPast : List Word → ℕ → Type 0
IsPast ts k = (MOST_OPEN < depth_behind (take k ts)) ⊎ (MOST_IN_A_ROW < row_behind (take k ts))
