-- How the text of a move begins.
use Rattle.std.specs.Prelude.{ℕ, List, ◌++◌, codes}
use Rattle.std.specs.Fmt.{decimal}

-- the words before the name of a process: `proc P (`
abbrev pub opening : ℕ → List ℕ
opening process = codes "proc " ++ (decimal process ++ codes " (")

-- the words before the text of an offer of `init`: `proc P (:init:) `
abbrev pub init_heading : ℕ → List ℕ
init_heading process = opening process ++ codes ":init:) "
