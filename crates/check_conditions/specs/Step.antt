-- How the table of labels and the count of channels grow by one mark.
use Rattle.std.specs.Prelude.{◌≡◌, ℕ, ◌+◌, ◌*◌, ◌-◌, length, take, drop, nat_eq, nat_lt, ◌||◌, Bool, true, false, not, reverse, if◌then◌else◌, List, [], ◌∷◌, Option, Some, None, min}
use Rattle.std.specs.Option.{option_or, option_eq, option_map_or}
use Rattle.promela_model.specs.declared.mark.What.{What}
use Rattle.promela_model.specs.declared.mark.Mark.{Mark}
use Rattle.promela_model.specs.declared.round.Round.{Round}
use Rattle.promela_model.specs.declared.mark.Use.{Use}
use Rattle.promela_model.specs.declared.mark.Use.TheVariants as use_of
use Rattle.promela_model.specs.Conditions.{same_use}
use Rattle.promela_model.specs.Decided.{is_label, labelled, round, loose, starts_processes, started}

-- the innermost d_step round the label n of o, where this mark is it
abbrev pub step_there : ℕ → List ℕ → ℕ → What → Option ℕ → Option (Option ℕ)
step_there o n k w step = if is_label o n k w then Some step else None

-- two places stand in the same d_step, or in none
abbrev pub same_step : Option ℕ → Option ℕ → Bool
same_step a b = option_eq nat_eq a b

-- whether a label stands in another d_step than r is in
abbrev pub elsewhere : Option (Option ℕ) → Round → Bool
elsewhere label r = option_map_or (λ s. not (option_eq nat_eq s r.step)) label false

-- the innermost d_step round the first label of each name of a text
abbrev pub labels_in : List Mark → ℕ → List ℕ → Option (Option ℕ)
labels_in ms = labelled (reverse ms)

-- a count is not within these bounds, or not known
abbrev pub out_of : ℕ → ℕ → Option ℕ → Bool
out_of least most n = option_map_or (λ b. nat_lt b least || nat_lt most b) n true

-- without the quotes round it
abbrev pub inside : List ℕ → List ℕ
inside t = take (length t - 2) (drop 1 t)

-- a break that no do is round
abbrev pub breaks_loose : List Mark → Mark → Bool
breaks_loose before m = loose (round before) m.what

-- a process begins with this mark
abbrev pub begins_there : List Mark → Mark → Bool
begins_there before m = starts_processes m.what

-- how many processes begin, mark by mark
abbrev pub begun : List Mark → ℕ
begun [] = 0
begun (m ∷ ms) = started m.what + begun ms

-- the channels that they make, where f are those of each owner
abbrev pub by_processes : (ℕ → ℕ) → List Mark → ℕ
by_processes f [] = 0
by_processes f (m ∷ ms) = started m.what * f m.owner + by_processes f ms

-- behind a mark, what is kept for each name is what was, and else the d_step round the label of this name that the mark is
abbrev pub AddsStep : (old new : ℕ → List ℕ → Option (Option ℕ)) → ℕ → What → Option ℕ → Type 0
AddsStep old new owner w step = (o : ℕ) (n : List ℕ) → new o n ≡ option_or (old o n) (step_there o n owner w step)

-- a count n of the owner k, where those of the owner o are so many more, up to 256
abbrev pub raised : ℕ → ℕ → ℕ → ℕ → ℕ
raised o more k n = if nat_eq o k then min (n + more) 256 else n

-- it is given a value, by an assignment or by a receive
abbrev pub is_stored : Use → Bool
is_stored u = same_use u use_of.Store || same_use u use_of.Receive

-- an mtype name is read, compared with a field, or an initialiser of a typedef's field
abbrev pub is_compared : Use → Bool
is_compared u = same_use u use_of.Read || (same_use u use_of.Receive || same_use u use_of.Preset)

-- it stands in the initialiser of a field
abbrev pub is_preset : Use → Bool
is_preset u = same_use u use_of.Preset
