-- That texts stay where they are told, and who is stuck, by parts.
use Rattle.std.specs.Prelude.{◌≡◌, ℕ, ◌<◌, List, length, ◌++◌, Option, Some, None, if◌then◌else◌, slice_get}
use Rattle.pml_program.specs.declared.program.Proctype.{Proctype}
use Rattle.pml_program.specs.declared.program.Program.{Program}
use Rattle.promela_process.specs.Control.{Control}
use Rattle.promela_process.specs.Offers.{line_at}
use Rattle.promela_run.specs.Lines.{proctype_name}
use Rattle.promela_run.specs.declared.moves.Move.{Move}
use Rattle.promela_run.specs.declared.moves.Move.TheVariants.{Death, Alone, Pair}
use Rattle.promela_run.specs.State.{Stand, State}
use Rattle.promela_run.specs.World.{may_end, stuck_at, move_text}

-- the line of a process that is stuck where it stands
abbrev pub stuck_by : Program → ℕ → Stand → List ℕ
stuck_by pr p y = stuck_at p (slice_get pr.proctypes y.sort) y.control

-- where a process may not end: the name of its proctype, and the line of what stands first
abbrev pub stuck_in : Option Proctype → Control → Option (List ℕ × ℕ)
stuck_in None c = None
stuck_in (Some q) c = if may_end q.body c then None else Some (proctype_name q.name, line_at q.body q.end.line c)

abbrev pub stuck_place : Program → Option Stand → Option (List ℕ × ℕ)
stuck_place pr None = None
stuck_place pr (Some y) = stuck_in (slice_get pr.proctypes y.sort) y.control

-- process p, where it lives and may not end where it stands
abbrev pub stuck_of : State → ℕ → Option (List ℕ × ℕ)
stuck_of s p = stuck_place s.program (slice_get s.stands p)

-- ---- which processes a move names

-- only some of the first n
abbrev pub IsWithin : ℕ → Move → Type 0
IsWithin n (Death p) = p < n
IsWithin n (Alone k t) = k.process < n
IsWithin n (Pair k j t) = (k.process < n) × (j.process < n)

-- ---- a law

-- The text of a move stays while no process but younger ones come.
abbrev pub TextsStay : Type 0
TextsStay = (s t : State) (more : List Stand) (m : Move) → t.program ≡ s.program → t.stands ≡ s.stands ++ more →
    IsWithin (length s.stands) m → move_text t m ≡ move_text s m
