-- The number at a place, where there is one.
use Rattle.std.proofs.Common.{◌≡◌, sym, ◌<◌, ◌≤◌, List, pos}
use Rattle.std.proofs.lemmas.List.{get_or_past}
use Rattle.promela_process.specs.declared.place.Place.{Place}
use Rattle.promela_process.specs.Store.{Frame, cells_at, size_at, number_at}
use Rattle.pml_store.specs.Writing.{HasPlace}
use Rattle.pml_store.proofs.Back as back

pub has_cell : (frames : List Frame) (p : Place) → p.cell < size_at frames p.frame p.variable → HasPlace frames p
has_cell = back.has_cell

pub no_cell : (frames : List Frame) (p : Place) → size_at frames p.frame p.variable ≤ p.cell → pos 0 ≡ number_at frames p
no_cell frames p past = sym (get_or_past (cells_at frames p) p.cell (pos 0) past)
