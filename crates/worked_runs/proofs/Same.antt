-- The copies are the definitions, so what is seen of a session is what is seen by means that compute.
use Rattle.std.proofs.Common.{◌≡◌, ℕ, List, Option, Some, None, Result, Ok, Err, false, refl, ap, ◌∙◌}
use Rattle.std.specs.Prelude.{option_map}
use Rattle.std.specs.Int.{int_wrap}
use Rattle.std.specs.Fmt.{digits}
use denote.Hole.Carrier.{roll, out, hidden}
use Rattle.diagnostics.specs.declared.fault.Fault.{Fault}
use Rattle.promela_session.specs.declared.ends.Options.{Options}
use Rattle.promela_session.specs.declared.ends.End.{End}
use Rattle.promela_session.specs.Lines.{line_within, number_up_to, reply_of, placed_answer, placed_reply, is_header}
use Rattle.promela_session.specs.Events.{Part, digits_of, all_digits}
use Rattle.promela_session.specs.Session.{transcript, story, select_move, answered, stepped, ask_for_move, one_line, next_line, one_reply}
use Rattle.pml_program.specs.declared.expr.Expr.{roll-Expr}
use Rattle.pml_program.specs.declared.expr.Want.{roll-Want}
use Rattle.pml_program.specs.declared.expr.Target.{roll-Target, out-Target}
use Rattle.pml_program.specs.declared.expr.Expr.TheBlock.{shape-the_row-Target-0, hidden-the_row-Target-0, shape-the_row-Want-1, hidden-the_row-Want-1, shape-the_row-Expr-2, hidden-the_row-Expr-2, shape-the_row-Turn-3, hidden-the_row-Turn-3}
use Rattle.pml_program.specs.declared.program.Program.{Program}
use Rattle.pml_program.specs.declared.program.Seq.{roll-Seq}
use Rattle.pml_program.specs.declared.program.Basic.TheBlock.{shape-the_row-Stmt-1, hidden-the_row-Stmt-1, shape-the_row-Seq-0, hidden-the_row-Seq-0}
use Rattle.promela_process.specs.Control.{settle}
use Rattle.promela_process.specs.Numbers.{bits_of, is_signed}
use Rattle.promela_run.specs.State.{State, first_state}
use Rattle.promela_run.specs.World.{first, rules}
use Rattle.worked_runs.specs.Seen.{Seen, seen_of, played, seen}
use Rattle.worked_runs.specs.Printed.{Printed, printed_from, printed}
use Rattle.worked_runs.specs.Ends.{paths_from, paths}
use Rattle.worked_runs.proofs.Means.{Means, stated, computing, means-are}
use Rattle.worked_runs.proofs.Copies.{state-first_state, world-rules}

-- ---- over any means

abbrev pub played_from_by : Means → Options → List ℕ → Result State Fault → Option (Part End)
played_from_by m o choices (Ok s) = Some (transcript (world-rules m) o (first s o.lossy) choices)
played_from_by m o choices (Err f) = None

abbrev pub played_by : Means → Options → Program → List ℕ → Option (Part End)
played_by m o p choices = played_from_by m o choices (state-first_state m p)

abbrev pub seen_by : Means → Options → Program → List ℕ → Option Seen
seen_by m o p choices = option_map seen_of (played_by m o p choices)

-- ---- over those of the definitions they are the definitions

first-same : first_state ≡ state-first_state stated
first-same = refl

rules-same : rules ≡ world-rules stated
rules-same = refl

played-same : (o : Options) (p : Program) (choices : List ℕ) → played o p choices ≡ played_by stated o p choices
played-same o p choices = refl

played-is : (o : Options) (p : Program) (choices : List ℕ) → played o p choices ≡ played_by computing o p choices
played-is o p choices = played-same o p choices ∙ ap (λ m. played_by m o p choices) means-are

-- what computes to be seen is seen
pub sees :
    (o : Options) (p : Program) (choices : List ℕ) (x : Seen) → seen_by computing o p choices ≡ Some x → seen o p choices ≡ Some x
sees o p choices x is = ap (option_map seen_of) (played-is o p choices) ∙ is

-- ---- the same of what is printed along a path

abbrev pub printed_behind_by : Means → ℕ → List ℕ → Result State Fault → Option Printed
printed_behind_by m steps numbers (Ok s) = Some (printed_from (world-rules m) steps numbers (first s false))
printed_behind_by m steps numbers (Err f) = None

abbrev pub printed_by : Means → Program → ℕ → List ℕ → Option Printed
printed_by m p steps numbers = printed_behind_by m steps numbers (state-first_state m p)

printed-is : (p : Program) (steps : ℕ) (numbers : List ℕ) → printed p steps numbers ≡ printed_by computing p steps numbers
printed-is p steps numbers = ap (λ m. printed_by m p steps numbers) means-are

-- what computes to be printed is printed
pub prints :
    (p : Program) (steps : ℕ) (numbers : List ℕ) (x : Printed) → printed_by computing p steps numbers ≡ Some x → printed p steps numbers ≡ Some x
prints p steps numbers x is = printed-is p steps numbers ∙ is

-- ---- the same of what each path prints

abbrev pub paths_behind_by : Means → ℕ → Result State Fault → Option (List Printed)
paths_behind_by m steps (Ok s) = Some (paths_from (world-rules m) steps (first s false))
paths_behind_by m steps (Err f) = None

abbrev pub paths_by : Means → Program → ℕ → Option (List Printed)
paths_by m p steps = paths_behind_by m steps (state-first_state m p)

paths-are : (p : Program) (steps : ℕ) → paths p steps ≡ paths_by computing p steps
paths-are p steps = ap (λ m. paths_by m p steps) means-are

-- what computes to be the paths are the paths
pub has_paths :
    (p : Program) (steps : ℕ) (xs : List Printed) → paths_by computing p steps ≡ Some xs → paths p steps ≡ Some xs
has_paths p steps xs are = paths-are p steps ∙ are

-- ---- what a run computes with

unfoldable pub session_computes : Unit {0}
unfolding story select_move answered stepped ask_for_move one_line next_line one_reply line_within number_up_to reply_of placed_answer placed_reply is_header digits_of all_digits digits
session_computes = tt

unfoldable pub expression_computes : Unit {0}
unfolding bits_of is_signed int_wrap roll-Expr roll-Want roll-Target out-Target
expression_computes = tt

unfoldable pub row_computes : Unit {0}
unfolding shape-the_row-Target-0 hidden-the_row-Target-0 shape-the_row-Want-1 hidden-the_row-Want-1 shape-the_row-Expr-2 hidden-the_row-Expr-2 shape-the_row-Turn-3 hidden-the_row-Turn-3
row_computes = tt

unfoldable pub path_computes : Unit {0}
unfolding printed_from paths_from
path_computes = tt

unfoldable pub body_computes : Unit {0}
unfolding settle roll out hidden roll-Seq shape-the_row-Stmt-1 hidden-the_row-Stmt-1 shape-the_row-Seq-0 hidden-the_row-Seq-0
body_computes = tt

unfoldable pub computes : Unit {0}
unfolding session_computes path_computes expression_computes row_computes body_computes
computes = tt
