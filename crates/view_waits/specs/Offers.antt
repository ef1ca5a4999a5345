-- The line and the text of an offer.
use Rattle.std.specs.Prelude.{ℕ, ◌-◌, if◌then◌else◌, nat_eq, List, [], ◌∷◌, length, take, Option, Some, None}
use Rattle.promela_process.specs.Offers.{Offer}
use Rattle.promela_run.specs.declared.moves.Pick.{Pick}
use Rattle.promela_run.specs.State.{picked, State}
use Rattle.promela_run.specs.World.{line_of}

-- what stands behind the first `[`
abbrev pub behind : List ℕ → List ℕ
behind [] = []
behind (c ∷ cs) = if nat_eq c 91 then cs else behind cs

-- what stands between the brackets of `line L [TEXT]`
abbrev pub bare : List ℕ → List ℕ
bare text = take (length (behind text) - 1) (behind text)

abbrev pub text_in : Option Offer → List ℕ
text_in None = []
text_in (Some o) = bare o.text

-- the line of the offer that a pick names
abbrev pub offered_line : State → Pick → ℕ
offered_line s k = line_of s k

-- its text
abbrev pub offered_text : State → Pick → List ℕ
offered_text s k = text_in (picked s k)
