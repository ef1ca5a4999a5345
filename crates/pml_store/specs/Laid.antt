-- How the numbers lie in one vector.
use Rattle.std.specs.Prelude.{◌≡◌, ℕ, ◌+◌, ◌≤◌, List, [], ◌∷◌, length, take, drop, ℤ, map, slice_index_or}
use Rattle.pml_store.specs.declared.store.Extent.{Extent}
use Rattle.pml_store.specs.declared.store.FrameExtents.{FrameExtents}
use Rattle.promela_process.specs.Store.{Cells, Frame}

abbrev pub cells_of : List ℤ → Extent → Cells
cells_of cells s = take s.size (drop s.start cells)

abbrev pub frame_of : List ℤ → FrameExtents → Frame
frame_of cells o = map (cells_of cells) o.extents

abbrev pub frames_of : List FrameExtents → List ℤ → List Frame
frames_of frames cells = map (frame_of cells) frames

abbrev pub nowhere : Extent
nowhere = record { start = 0; size = 0 }

abbrev pub no_frame : FrameExtents
no_frame = record { base = 0; extents = [] }

abbrev pub frame_extents_at : List FrameExtents → ℕ → FrameExtents
frame_extents_at frames n = slice_index_or frames n no_frame

abbrev pub extent_of : List FrameExtents → ℕ → ℕ → Extent
extent_of frames frame variable = slice_index_or (frame_extents_at frames frame).extents variable nowhere

-- the extents lie one after another, from here on
abbrev pub ExtentsLie : List Extent → ℕ → Type 0
ExtentsLie [] at = Unit {0}
ExtentsLie (s ∷ ss) at = (s.start ≡ at) × ExtentsLie ss (at + s.size)

abbrev pub extents_end : List Extent → ℕ → ℕ
extents_end [] at = at
extents_end (s ∷ ss) at = extents_end ss (at + s.size)

abbrev pub FramesLie : List FrameExtents → ℕ → Type 0
FramesLie [] at = Unit {0}
FramesLie (o ∷ os) at = (o.base ≡ at) × ExtentsLie o.extents at × FramesLie os (extents_end o.extents at)

abbrev pub frames_end : List FrameExtents → ℕ → ℕ
frames_end [] at = at
frames_end (o ∷ os) at = frames_end os (extents_end o.extents at)

-- extents of these sizes, one after another
abbrev pub extents_of : ℕ → List ℕ → List Extent
extents_of at [] = []
extents_of at (n ∷ ns) = record { start = at; size = n } ∷ extents_of (at + n) ns

-- the extents cover the vector
pub record IsLaid (frames : List FrameExtents) (cells : List ℤ) : Type 0 where
  pub lie : FramesLie frames 0
  pub cover : frames_end frames 0 ≡ length cells

-- and they are no more than there may be
pub record IsKept (frames : List FrameExtents) (cells : List ℤ) (most : ℕ) : Type 0 where
  pub laid : IsLaid frames cells
  pub few : length cells ≤ most
