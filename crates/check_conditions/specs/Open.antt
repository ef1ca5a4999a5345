-- What the code keeps of what is open: no public contract speaks of it, and Structure.antt says it by the marks alone.
use Rattle.std.specs.Prelude.{◌≡◌, ℕ, true, false, List, [], ◌∷◌, length, drop, slice_index_or, Option, Some, None}
use Rattle.promela_model.specs.declared.mark.Structure.TheVariants.{Do, DStep}
use Rattle.promela_model.specs.declared.mark.What.{What}
use Rattle.promela_model.specs.declared.mark.What.TheVariants as what
use Rattle.promela_model.specs.declared.mark.Mark.{Mark}
use Rattle.check_names.specs.declared.places.Places.{Places}
use Rattle.check_names.specs.Places.{IsKept, stands}
use Rattle.promela_model.specs.declared.round.Round.{Round}
use Rattle.promela_model.specs.Decided.{Open, has_do, is_cut, innermost_step, labelled}

-- what a place stands in, by what is open there
abbrev pub round_of : List Open → Round
round_of xs = record { looped = has_do xs; cut = is_cut xs; step = innermost_step xs }

-- nothing, a do, the d_step whose mark has k marks before it
abbrev pub outside : Round
outside = record { looped = false; cut = false; step = None }

abbrev pub in_loop : Round → Round
in_loop r = record { looped = true; cut = false; step = r.step }

abbrev pub in_step : ℕ → Round → Round
in_step k r = record { looped = r.looped; cut = true; step = Some k }

abbrev pub top : List Round → Round
top rs = slice_index_or rs 0 outside

-- what is open behind one mark more, the innermost first
unfoldable pub passed : List Round → ℕ → What → List Round
passed rs k (what.Enter Do) = in_loop (top rs) ∷ rs
passed rs k (what.Enter DStep) = in_step k (top rs) ∷ rs
passed rs k what.Leave = drop 1 rs
passed rs k _ = rs

-- what is open behind marks that are given from the last to the first
abbrev pub rounds : List Mark → List Round
rounds [] = []
rounds (m ∷ ms) = passed (rounds ms) (length ms) m.what

-- the table has the labels of these marks, from the last to the first, each with the innermost d_step round the first
pub record AreSteps (ms : List Mark) (steps : Places (Option ℕ)) : Type 0 where
  pub kept : IsKept steps.numbers steps.places
  pub same : (o : ℕ) (n : List ℕ) → stands steps.numbers steps.places o n ≡ labelled ms o n
