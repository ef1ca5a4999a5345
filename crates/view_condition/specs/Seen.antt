-- All of a state, as the variables of a condition show it.
use Rattle.std.specs.Prelude.{ℕ, zero, suc, ◌+◌, ◌==◌, ◌&&◌, ◌||◌, Bool, false, if◌then◌else◌, List, length, Option, Some, None, slice_get, ℤ, pos, option_map}
use Rattle.promela_process.specs.Expressions.{Reading}
use Rattle.promela_process.specs.Numbers.{truth_number}
use Rattle.promela_process.specs.Store.{size_at, number_at}
use Rattle.promela_process.specs.declared.place.Place.{Place}
use Rattle.promela_run.specs.State.{State, channel_at, filling}
use Rattle.promela_run.specs.Steps.{sorts}
use Rattle.pml_value.specs.Seen as view
use Rattle.view_cells.specs.Processes.{line_of}
use Rattle.view_condition.specs.declared.subject.TypedProcess.{TypedProcess}
use Rattle.view_condition.specs.declared.subject.Spot.{Spot}
use Rattle.view_condition.specs.declared.subject.Spot.TheVariants as spot
use Rattle.view_condition.specs.declared.subject.StateSubject.{StateSubject}
use Rattle.view_condition.specs.declared.subject.StateSubject.TheVariants.{Global, Local, At, Any, Line}
use Rattle.view_condition.specs.Standing.{is_on}
use Rattle.view_condition.specs.declared.overview.Overview.{Overview}

abbrev pub is_sort : ℕ → Option ℕ → Bool
is_sort k None = false
is_sort k (Some j) = j == k

-- whether the process with this number is of a proctype
abbrev pub is_of : State → ℕ → ℕ → Bool
is_of s k p = is_sort k (slice_get (sorts s) p)

-- whether a process lives, and is of this proctype
abbrev pub is_there : State → TypedProcess → Bool
is_there s w = is_of s w.sort w.process

-- whether a process stands there
abbrev pub at_spot : State → ℕ → Spot → Bool
at_spot s p (spot.Line line) = line_of s p == line
at_spot s p (spot.Node node) = is_on s p node

-- whether it is there, and stands at this spot
abbrev pub stands_at : State → TypedProcess → Spot → Bool
stands_at s w x = is_there s w && at_spot s w.process x

-- whether one of so many processes is of a proctype, and stands at this spot
abbrev pub any_of : State → ℕ → Spot → ℕ → Bool
any_of s k x zero = false
any_of s k x (suc n) = any_of s k x n || (is_of s k n && at_spot s n x)

-- whether one of so many processes stands at this line
abbrev pub any_at : State → ℕ → ℕ → Bool
any_at s line zero = false
any_at s line (suc n) = any_at s line n || (line_of s n == line)

-- how many cells a variable has: those of a process that is not there has none
abbrev pub size_by : State → Option StateSubject → ℕ
size_by s None = 0
size_by s (Some (Global v)) = size_at s.frames 0 v
size_by s (Some (Local w v)) = if is_there s w then size_at s.frames (w.process + 1) v else 0
size_by s (Some (At w x)) = 1
size_by s (Some (Any k x)) = 1
size_by s (Some (Line line)) = 1

-- the number of a cell of a frame
abbrev pub number_by_frame : State → ℕ → ℕ → ℕ → ℤ
number_by_frame s frame variable cell = number_at s.frames (record { frame = frame; variable = variable; cell = cell })

-- the number of a cell of a variable
abbrev pub number_by : State → Option StateSubject → ℕ → ℤ
number_by s None cell = pos 0
number_by s (Some (Global v)) cell = number_by_frame s 0 v cell
number_by s (Some (Local w v)) cell = number_by_frame s (w.process + 1) v cell
number_by s (Some (At w x)) cell = truth_number (stands_at s w x)
number_by s (Some (Any k x)) cell = truth_number (any_of s k x (length s.stands))
number_by s (Some (Line line)) cell = truth_number (any_at s line (length s.stands))

-- what a condition reads of a state, where its variables are these
abbrev pub all_of : State → List StateSubject → Reading
all_of s subjects = record {
  frame = λ local. 0;
  cells = λ frame variable. size_by s (slice_get subjects variable);
  holds = λ p. number_by s (slice_get subjects p.variable) p.cell;
  pid = pos 0;
  process_count = pos (length s.stands);
  timeout = false;
  channel = λ n. option_map filling (channel_at s.channels n);
}

-- the same of what is lent
abbrev pub seen : Overview → Reading
seen w = record {
  frame = λ local. 0;
  cells = λ frame variable. size_by w.live.now.state (slice_get w.subjects.now variable);
  holds = λ p. number_by w.live.now.state (slice_get w.subjects.now p.variable) p.cell;
  pid = pos 0;
  process_count = (view.seen w.view).process_count;
  timeout = false;
  channel = (view.seen w.view).channel;
}
