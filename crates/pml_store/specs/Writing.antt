-- What a write changes in a store, and how a log leads back.
use Rattle.std.specs.Prelude.{◌≡◌, ℕ, ◌+◌, ◌-◌, ◌<◌, Bool, ◌&&◌, nat_eq, ltb, if◌then◌else◌, List, [], ◌∷◌, ◌++◌, length, take, ℤ, slice_set}
use Rattle.promela_process.specs.declared.place.Place.{Place}
use Rattle.promela_process.specs.Store.{Frame, frame_at, cells_at, number_at, with_number}

-- the cells that were stored are known by their index, with the number before; and how many cells there may be at most
pub record Contents : Type 0 where
  pub frames : List Frame
  pub written : List (ℕ × ℤ)
  pub most : ℕ

-- the place is there
pub record HasPlace (frames : List Frame) (p : Place) : Type 0 where
  pub frame : p.frame < length frames
  pub variable : p.variable < length (frame_at frames p.frame)
  pub cell : p.cell < length (cells_at frames p)

-- all numbers, frame by frame
abbrev pub flat : Frame → List ℤ
flat [] = []
flat (v ∷ vs) = v ++ flat vs

abbrev pub joined : List Frame → List ℤ
joined [] = []
joined (f ∷ fs) = flat f ++ joined fs

-- where a place stands among them
abbrev pub index_of : List Frame → Place → ℕ
index_of frames p = length (joined (take p.frame frames)) + (length (flat (take p.variable (frame_at frames p.frame))) + p.cell)

-- one place has another number, and the log what it had before
abbrev pub stored : Contents → Place → ℤ → Contents
stored s p v = record s { frames = with_number s.frames p v; written = s.written ++ (index_of s.frames p, number_at s.frames p) ∷ [] }

-- an index at which a place stands
pub record HasIndex (frames : List Frame) (at : ℕ) : Type 0 where
  pub place : Place
  pub there : HasPlace frames place
  pub stands : index_of frames place ≡ at

-- the place at an index has another number
abbrev pub StoredAt : Contents → ℕ → ℤ → Contents → Type 0
StoredAt old at v new = (p : Place) → HasPlace old.frames p → index_of old.frames p ≡ at → new ≡ stored old p v

-- without the youngest frame
abbrev pub but_last : List Frame → List Frame
but_last frames = take (length frames - 1) frames

abbrev pub is_same : Place → Place → Bool
is_same p q = nat_eq p.frame q.frame && (nat_eq p.variable q.variable && nat_eq p.cell q.cell)

-- ---- a log of writes

-- a frame's variables with another number in the cell of an index among theirs, if they have as many
abbrev pub frame_with : Frame → ℕ → ℤ → Frame
frame_with [] i v = []
frame_with (c ∷ cs) i v = if ltb i (length c) then slice_set c i v ∷ cs else c ∷ frame_with cs (i - length c) v

-- the same among all
abbrev pub index_with : List Frame → ℕ → ℤ → List Frame
index_with [] i v = []
index_with (f ∷ fs) i v = if ltb i (length (flat f)) then frame_with f i v ∷ fs else f ∷ index_with fs (i - length (flat f)) v

-- the frames before writes, by the indices and the numbers before them: the last write is undone first
abbrev pub undone : List Frame → List (ℕ × ℤ) → List Frame
undone frames [] = frames
undone frames (w ∷ ws) = index_with (undone frames ws) w.0 w.1

-- the frames before the writes of the log
abbrev pub before : Contents → List Frame
before now = undone now.frames now.written

-- ---- laws

-- to store a number changes what one place holds, and no other
abbrev pub OnePlaceChanges : Type 0
OnePlaceChanges = (frames : List Frame) (p q : Place) (v : ℤ) → HasPlace frames p →
    number_at (with_number frames p v) q ≡ (if is_same p q then v else number_at frames q)

-- the frames before a write are those before the writes of the log
abbrev pub LeadsBack : Type 0
LeadsBack = (now : Contents) (p : Place) (v : ℤ) → HasPlace now.frames p → before (stored now p v) ≡ before now
