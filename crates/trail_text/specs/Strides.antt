-- The steps of a `select`.
use Rattle.std.specs.Prelude.{◌≡◌, ℕ, List, length, drop, codes, Bool, true}
use Rattle.trail_text.specs.Parts.{IsParted, leads}
use Rattle.trail_text.specs.Shown.{begins}
use Rattle.trail_text.specs.declared.select.Stride.{Stride}
use Rattle.trail_text.specs.declared.select.Stride.TheVariants as stride

-- behind the name of a variable stands `<`, or `=`
abbrev pub strides : List ℕ → List ℕ → Stride → Bool
strides name behind stride.Asks = begins behind (codes "<")
strides name behind stride.Counts = leads behind (codes "=")

-- a spelled statement does so in a `select` that is to give a variable a number
abbrev pub IsStride : List ℕ → List ℕ → Stride → Type 0
IsStride spelled wanted s =
    (name digits : List ℕ) × IsParted wanted (codes "=") name digits × (leads spelled name ≡ true)
    × (strides name (drop (length name) spelled) s ≡ true)
