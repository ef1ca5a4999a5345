-- The conditions on breaks, d_steps and the first state, and which of all conditions refuse a model.
-- Hold it against docs/REFUSALS.md, M6 to M17.
use Rattle.std.specs.Prelude.{ℕ, zero, suc, ◌+◌, nat_eq, Bool, true, false, not, ◌&&◌, if◌then◌else◌, is_some, List, [], ◌∷◌, length, reverse, Option, Some, None, ◌*◌, ◌≡◌, ◌⊎◌, ◌<◌, take, slice_get, sum_by}
use Rattle.std.specs.Option.{option_or, option_eq, option_map_or}
use Rattle.std.specs.List.{list_any}
use Rattle.std.specs.Str.{bytes_eq}
use Rattle.promela_model.specs.declared.mark.Structure.{Structure}
use Rattle.promela_model.specs.declared.mark.Structure.TheVariants.{Do, DStep}
use Rattle.promela_model.specs.declared.mark.What.{What}
use Rattle.promela_model.specs.declared.mark.What.TheVariants as what
use Rattle.promela_model.specs.declared.mark.Mark.{Mark}
use Rattle.promela_model.specs.declared.round.Round.{Round}
use Rattle.pml_program.specs.declared.form.Form.{Form}
use Rattle.pml_program.specs.declared.form.Form.TheVariants as kind
use Rattle.promela_model.specs.declared.mark.Makes.TheVariants.{Numbers, Channels}
use Rattle.promela_model.specs.declared.mark.Declared.TheVariants as declared_as
use Rattle.promela_model.specs.Names.{Naming, form, before, count_of, length_of}
use Rattle.profile.specs.declared.TheConstants.{MOST_CHANNELS, MOST_PROCESSES}
use Rattle.promela_model.specs.declared.condition.Condition.{Condition}
use Rattle.promela_model.specs.declared.condition.Condition.TheVariants as condition
use Rattle.promela_model.specs.Conditions.{judged}

-- a do or a d_step, with how many marks stand before its own
abbrev pub Open : Type 0
Open = Structure × ℕ

-- what a mark adds to those that are open before it, where so many are left behind it
abbrev pub entered : What → ℕ → (ℕ → List Open) → ℕ → List Open
entered (what.Enter s) k outer zero = (s, k) ∷ outer 0
entered (what.Enter s) k outer (suc left) = outer left
entered what.Leave k outer left = outer (left + 1)
entered _ k outer left = outer left

-- what is entered and not left, the innermost first, going back over marks
abbrev pub opened : List Mark → ℕ → List Open
opened [] left = []
opened (m ∷ ms) left = entered m.what (length ms) (opened ms) left

-- a `do` is open, in the innermost d_step or out of it
abbrev pub has_do : List Open → Bool
has_do [] = false
has_do ((Do, k) ∷ outer) = true
has_do ((DStep, k) ∷ outer) = has_do outer

-- whether a break would leave a d_step
abbrev pub is_cut : List Open → Bool
is_cut ((DStep, k) ∷ outer) = true
is_cut _ = false

-- the innermost d_step that is open, by its number
abbrev pub innermost_step : List Open → Option ℕ
innermost_step [] = None
innermost_step ((Do, k) ∷ outer) = innermost_step outer
innermost_step ((DStep, k) ∷ outer) = Some k

-- what stands round the place behind these marks: whether a `do` is open, whether a break would leave a d_step, and the innermost d_step
abbrev pub round : List Mark → Round
round ms = let xs = opened (reverse ms) 0 in record { looped = has_do xs; cut = is_cut xs; step = innermost_step xs }

-- ---- labels

-- whether this is the label n of o
abbrev pub is_label : ℕ → List ℕ → ℕ → What → Bool
is_label o n k (what.Label l) = nat_eq k o && bytes_eq l.text n
is_label o n k _ = false

-- the innermost d_step round the first label n of o, if there is one, going back over marks
abbrev pub labelled : List Mark → ℕ → List ℕ → Option (Option ℕ)
labelled [] o n = None
labelled (m ∷ ms) o n =
    option_or (labelled ms o n) (if is_label o n m.owner m.what then Some (innermost_step (opened ms 0)) else None)

-- ---- a break that no do is round
abbrev pub loose : Round → What → Bool
loose r what.Break = not r.looped
loose r _ = false

-- ---- what enters or leaves a d_step, and an unless in one

-- a break would leave a d_step, an unless is in one, or a goto leads into one or out of one; the labels are those of
-- the text, and one that is missing is refused by itself
abbrev pub crosses : (ℕ → List ℕ → Option (Option ℕ)) → Round → ℕ → What → Bool
crosses labels r o what.Break = r.cut
crosses labels r o what.Unless = is_some r.step
crosses labels r o (what.Goto l) = option_map_or (λ s. not (option_eq nat_eq s r.step)) (labels o l.text) false
crosses labels r o _ = false

-- ---- how many processes begin, and how many channels they and the globals make

-- whether processes begin here
abbrev pub starts_processes : What → Bool
starts_processes (what.Starts c) = true
starts_processes _ = false

-- how many processes begin here: a count that is out of range is refused by itself
abbrev pub started : What → ℕ
started (what.Starts c) = count_of c
started _ = 0

-- how many processes begin at first
abbrev pub processes : List Mark → ℕ
processes ms = sum_by (λ m. started m.what) ms

-- the channels of one element of this type, where f are those of each owner
abbrev pub channels_of : Form → (ℕ → ℕ) → ℕ
channels_of (kind.Struct t) f = f t
channels_of _ f = 0

-- the channels that a variable makes: one for each element, or those of its typedef's fields for each element
abbrev pub made : Naming → (ℕ → ℕ) → What → ℕ
made all f (what.Declares n (declared_as.Variable x s size Channels)) = length_of size
made all f (what.Declares n (declared_as.Variable x s size Numbers)) = length_of size * channels_of (form all 0 s) f
made all f _ = 0

-- the channels that the variables of o, or the fields of the typedef o, make; the marks are given from the last to the first
abbrev pub channels : Naming → List Mark → ℕ → ℕ
channels all [] o = 0
channels all (m ∷ ms) o = (if nat_eq m.owner o then made all (channels all ms) m.what else 0) + channels all ms o

-- the channels of each owner in this text
abbrev pub channels_in : List Mark → ℕ → ℕ
channels_in ms o = channels (before ms).names (reverse ms) o

-- the channels in the first state: those of the globals, and those of the processes that begin
abbrev pub first_channels : List Mark → ℕ
first_channels ms = channels_in ms 0 + sum_by (λ m. started m.what * channels_in ms m.owner) ms

-- ---- which conditions refuse a model

-- at some number of the list, p holds of what stands before it and of what stands there
abbrev pub Somewhere : (List Mark → Mark → Bool) → List Mark → Type 0
Somewhere p ms = (k : ℕ) × (m : Mark) × (slice_get ms k ≡ Some m) × (p (take k ms) m ≡ true)

-- whether one of these marks is
abbrev pub has_label : List Mark → ℕ → List ℕ → Bool
has_label ms o n = list_any (λ m. is_label o n m.owner m.what) ms

-- whether a mark breaks a condition on names, kinds, counts or ranges, among these marks and behind those that stand first
abbrev pub broken : Condition → List Mark → List Mark → Mark → Bool
broken r ms first m =
    judged r (record { all = (before ms).names; every_label = has_label ms; before = before first; labels = has_label first }) m.owner m.what

-- what enters or leaves a d_step, and an unless in one
abbrev pub crosses_step : List Mark → List Mark → Mark → Bool
crosses_step ms before m = crosses (labelled (reverse ms)) (round before) m.owner m.what

-- a condition refuses the model with these marks
abbrev pub AppliesToMarks : Condition → List Mark → Type 0
AppliesToMarks condition.Break ms = Somewhere (λ before m. loose (round before) m.what) ms
AppliesToMarks condition.Step ms = Somewhere (crosses_step ms) ms
AppliesToMarks condition.NoProcess ms = (k : ℕ) (m : Mark) → slice_get ms k ≡ Some m → starts_processes m.what ≡ false
AppliesToMarks condition.Start ms = (MOST_PROCESSES < processes ms) ⊎ (MOST_CHANNELS < first_channels ms)
AppliesToMarks r ms = Somewhere (broken r ms) ms
