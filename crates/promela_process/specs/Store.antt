-- What each frame's variables hold, and a channel as a list of messages.
-- Hold it against chapter 7 of the book: what a state holds; the pages `chan` and `send`.
use Rattle.std.specs.Prelude.{ℕ, List, [], length, ℤ, pos, slice_set, slice_index_or, map, replicate, Bool, true, false, if◌then◌else◌, ◌∷◌, int_lt}
use Rattle.promela_process.specs.declared.place.Place.{Place}
use Rattle.std.specs.Ordering.{int_eq}
use Rattle.pml_program.specs.declared.form.Form.{Form}
use Rattle.promela_process.specs.Numbers.{clipped}

-- the cells of a variable; the variables of a frame; the frames
abbrev pub Cells : Type 0
Cells = List ℤ

-- the variables of one owner, each with its cells
abbrev pub Frame : Type 0
Frame = List Cells

-- a frame by its number; empty, where there is none
abbrev pub frame_at : List Frame → ℕ → Frame
frame_at frames frame = slice_index_or frames frame []

-- the cells of the variable that a place lies in; none, where there is no such variable
abbrev pub cells_at : List Frame → Place → Cells
cells_at frames p = slice_index_or (frame_at frames p.frame) p.variable []

-- how many cells a variable has
abbrev pub size_at : List Frame → ℕ → ℕ → ℕ
size_at frames frame variable = length (slice_index_or (frame_at frames frame) variable [])

-- the number at a place; 0, where there is none
abbrev pub number_at : List Frame → Place → ℤ
number_at frames p = slice_index_or (cells_at frames p) p.cell (pos 0)

-- the same but at one place
abbrev pub with_number : List Frame → Place → ℤ → List Frame
with_number frames p v =
    slice_set frames p.frame (slice_set (frame_at frames p.frame) p.variable (slice_set (cells_at frames p) p.cell v))

-- variables of these sizes, each cell 0
abbrev pub zeros : List ℕ → Frame
zeros sizes = map (λ n. replicate n (pos 0)) sizes

-- ---- a channel

-- a channel: how many messages it keeps, the types of their fields, and its messages, the oldest first
pub record ChannelState : Type 0 where
  pub capacity : ℕ
  pub types : List Form
  pub messages : List (List ℤ)

-- each field cut to its type
abbrev pub cut : List Form → List ℤ → List ℤ
cut [] xs = []
cut (f ∷ fs) [] = []
cut (f ∷ fs) (x ∷ xs) = clipped f x ∷ cut fs xs

-- the first field in which two messages differ decides
abbrev pub is_greater : List ℤ → List ℤ → Bool
is_greater [] ys = false
is_greater (x ∷ xs) [] = true
is_greater (x ∷ xs) (y ∷ ys) = if int_eq x y then is_greater xs ys else int_lt y x

-- right before the first message that is greater, or last
abbrev pub sorted_in : List ℤ → List (List ℤ) → List (List ℤ)
sorted_in new [] = new ∷ []
sorted_in new (m ∷ ms) = if is_greater m new then new ∷ m ∷ ms else m ∷ sorted_in new ms
