-- The claim that ends a trail.
use Rattle.std.specs.Prelude.{◌≡◌, ◌&&◌, ◌||◌, ℕ, List, codes, Bool, false, Option, Some, None, is_none}
use Rattle.trail_text.specs.Parts.{IsParted, has}
use Rattle.trail_text.specs.declared.said.Said.{Said}
use Rattle.trail_text.specs.declared.said.FailedAssertion.{FailedAssertion}

-- a line tells of the claim of this name, and whether it stands where it may end
abbrev pub IsClaim : List ℕ → List ℕ → Bool → Type 0
IsClaim line name ends =
    (before behind rest : List ℕ) × IsParted line (codes "proc  - (") before behind × IsParted behind (codes ":") name rest
    × (ends ≡ has rest (codes "<valid end state>"))

-- an assertion of a claim failed
abbrev pub fails : Option FailedAssertion → Bool
fails None = false
fails (Some f) = f.is_of_claim

-- a claim ends the trail: no cycle does, and it stands where it may end, or an assertion of it failed
abbrev pub is_ended_by : Said → Bool → Bool
is_ended_by said ends = is_none said.cycle && (ends || fails said.failed)
