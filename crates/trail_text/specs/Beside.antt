-- Lines of a trail that tell of no process.
use Rattle.std.specs.Prelude.{ℕ, List, codes, drop, Option, None, if◌then◌else◌}
use Rattle.std.specs.Option.{option_map}
use Rattle.trail_text.specs.declared.beside.Beside.{Beside}
use Rattle.trail_text.specs.declared.beside.Beside.TheVariants as beside
use Rattle.trail_text.specs.Parts.{leads}
use Rattle.trail_text.specs.Numbers.{first_number}

-- the line to which a claim moves, if a line of a trail says so
abbrev pub claim_line : List ℕ → Option Beside
claim_line line =
    if leads line (codes "Never claim moves to line ") then option_map (λ n. beside.Claim n) (first_number (drop 26 line)) else None
