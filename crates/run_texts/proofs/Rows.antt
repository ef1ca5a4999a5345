-- Worked examples, computed.
use Rattle.std.proofs.Common.{◌≡◌, ℕ, List, [], ◌∷◌, refl, true, false, Some, None, pos, codes}
use denote.Hole.Carrier.{roll, hidden}
use Rattle.std.specs.Fmt.{digits}
use Rattle.pml_tree.specs.declared.tree.Search.TheVariants.{First}
use Rattle.pml_program.specs.declared.program.Seq.{Seq, roll-Seq}
use Rattle.pml_program.specs.declared.program.Basic.{Goto, If, Do, Block, Atomic, DStep}
use Rattle.pml_program.specs.declared.program.Basic.TheBlock.{shape-the_row-Stmt-1, hidden-the_row-Stmt-1, shape-the_row-Seq-0, hidden-the_row-Seq-0}
use Rattle.promela_process.specs.Control.{settle}
use Rattle.promela_run.specs.declared.moves.Move.TheVariants.{Death, Alone, Pair}
use Rattle.promela_run.specs.State.{Stand, State}
use Rattle.promela_run.specs.Moves.{pick}
use Rattle.run_search.proofs.Samples.{yes, timeout, otherwise, sends, receives}
use Rattle.promela_run.specs.World.{is_valid, move_text, origin_of, stuck}
use Rattle.run_texts.specs.Staying.{stuck_of}
use Rattle.run_texts.proofs.Samples.{word, labelled, said, body, proctype, init, before, closed, state}

-- ---- moves

-- x = 1 on line 2, with the closing brace on line 3
abbrev assigns : Seq
assigns = body (said 2 (codes "x" ∷ codes "=" ∷ codes "1" ∷ []) yes ∷ [])

-- processes of it
abbrev some : List Stand → State
some ys = state (proctype (codes "A") 3 assigns ∷ []) ys

abbrev ready : Stand
ready = before 0 assigns 0

abbrev done : Stand
done = closed 0

alone : move_text (some (ready ∷ [])) (Alone (pick 0 0 0) false) ≡ codes "proc 0 (A) line 2 [x = 1]"
unfolding settle roll-Seq roll hidden shape-the_row-Stmt-1 hidden-the_row-Stmt-1 shape-the_row-Seq-0 hidden-the_row-Seq-0 digits
alone = refl

-- a process dies at its closing brace
dies : move_text (some (ready ∷ done ∷ [])) (Death 1) ≡ codes "proc 1 (A) line 3 [-end-]"
unfolding settle roll-Seq roll hidden shape-the_row-Stmt-1 hidden-the_row-Stmt-1 shape-the_row-Seq-0 hidden-the_row-Seq-0 digits
dies = refl

init_dies : move_text (state (init 1 assigns ∷ []) (done ∷ [])) (Death 0) ≡ codes "proc 0 (:init:) line 1 [-end-]"
unfolding settle roll-Seq roll hidden shape-the_row-Stmt-1 hidden-the_row-Stmt-1 shape-the_row-Seq-0 hidden-the_row-Seq-0 digits
init_dies = refl

-- the eleventh
many : move_text (some (done ∷ done ∷ done ∷ done ∷ done ∷ done ∷ done ∷ done ∷ done ∷ done ∷ ready ∷ [])) (Alone (pick 10 0 0) true) ≡ codes "proc 10 (A) line 2 [x = 1]"
unfolding settle roll-Seq roll hidden shape-the_row-Stmt-1 hidden-the_row-Stmt-1 shape-the_row-Seq-0 hidden-the_row-Seq-0 digits
many = refl

-- no such offer, and no such process
nothing : move_text (some (ready ∷ [])) (Alone (pick 0 0 1) false) ≡ []
unfolding settle roll-Seq roll hidden shape-the_row-Stmt-1 hidden-the_row-Stmt-1 shape-the_row-Seq-0 hidden-the_row-Seq-0 digits
nothing = refl

nobody : move_text (some (ready ∷ [])) (Death 1) ≡ []
unfolding settle roll-Seq roll hidden shape-the_row-Stmt-1 hidden-the_row-Stmt-1 shape-the_row-Seq-0 hidden-the_row-Seq-0 digits
nobody = refl

-- a rendezvous: the sender stands first, also where it is the younger
abbrev gives : Seq
gives = body (said 2 (codes "q" ∷ codes "!" ∷ codes "1" ∷ []) (sends 0 (pos 1)) ∷ [])

abbrev takes : Seq
takes = body (said 3 (codes "q" ∷ codes "?" ∷ codes "x" ∷ []) (receives 0 First (pos 1)) ∷ [])

abbrev meeting : State
meeting = state (proctype (codes "S") 2 gives ∷ proctype (codes "R") 3 takes ∷ []) (before 0 gives 0 ∷ before 1 takes 0 ∷ before 0 gives 0 ∷ [])

meets : move_text meeting (Pair (pick 0 0 0) (pick 1 0 0) false) ≡ codes "proc 0 (S) line 2 [q ! 1] -> proc 1 (R) line 3 [q ? x]"
unfolding settle roll-Seq roll hidden shape-the_row-Stmt-1 hidden-the_row-Stmt-1 shape-the_row-Seq-0 hidden-the_row-Seq-0 digits
meets = refl

meets_older : move_text meeting (Pair (pick 2 0 0) (pick 1 0 0) false) ≡ codes "proc 2 (S) line 2 [q ! 1] -> proc 1 (R) line 3 [q ? x]"
unfolding settle roll-Seq roll hidden shape-the_row-Stmt-1 hidden-the_row-Stmt-1 shape-the_row-Seq-0 hidden-the_row-Seq-0 digits
meets_older = refl

-- if :: 1 :: d_step { x = 1 } fi, on line 4 with the options on lines 5 and 6
abbrev chooses : Seq
chooses = body (said 4 (codes "if" ∷ []) (If (body (said 5 (codes "1" ∷ []) yes ∷ []) ∷ body (said 6 (codes "d_step" ∷ []) (DStep assigns) ∷ []) ∷ [])) ∷ [])

abbrev choosing : State
choosing = state (proctype (codes "A") 7 chooses ∷ []) (before 0 chooses 0 ∷ [])

first_option : move_text choosing (Alone (pick 0 0 0) false) ≡ codes "proc 0 (A) line 5 [1]"
unfolding settle roll-Seq roll hidden shape-the_row-Stmt-1 hidden-the_row-Stmt-1 shape-the_row-Seq-0 hidden-the_row-Seq-0 digits
first_option = refl

second_option : move_text choosing (Alone (pick 0 0 1) false) ≡ codes "proc 0 (A) line 6 [d_step]"
unfolding settle roll-Seq roll hidden shape-the_row-Stmt-1 hidden-the_row-Stmt-1 shape-the_row-Seq-0 hidden-the_row-Seq-0 digits
second_option = refl

-- ---- where moves come from

from_statement : origin_of (some (ready ∷ [])) (Alone (pick 0 0 0) false) ≡ (0, 2)
unfolding settle roll-Seq roll hidden shape-the_row-Stmt-1 hidden-the_row-Stmt-1 shape-the_row-Seq-0 hidden-the_row-Seq-0
from_statement = refl

-- a death, of the closing brace
from_brace : origin_of (some (ready ∷ done ∷ [])) (Death 1) ≡ (1, 3)
unfolding settle roll-Seq roll hidden shape-the_row-Stmt-1 hidden-the_row-Stmt-1 shape-the_row-Seq-0 hidden-the_row-Seq-0
from_brace = refl

from_brace_of_init : origin_of (state (init 1 assigns ∷ []) (done ∷ [])) (Death 0) ≡ (0, 1)
unfolding settle roll-Seq roll hidden shape-the_row-Stmt-1 hidden-the_row-Stmt-1 shape-the_row-Seq-0 hidden-the_row-Seq-0
from_brace_of_init = refl

from_the_eleventh : origin_of (some (done ∷ done ∷ done ∷ done ∷ done ∷ done ∷ done ∷ done ∷ done ∷ done ∷ ready ∷ [])) (Alone (pick 10 0 0) true) ≡ (10, 2)
unfolding settle roll-Seq roll hidden shape-the_row-Stmt-1 hidden-the_row-Stmt-1 shape-the_row-Seq-0 hidden-the_row-Seq-0
from_the_eleventh = refl

-- a rendezvous, of the sender, also where it is the younger
from_sender : origin_of meeting (Pair (pick 0 0 0) (pick 1 0 0) false) ≡ (0, 2)
unfolding settle roll-Seq roll hidden shape-the_row-Stmt-1 hidden-the_row-Stmt-1 shape-the_row-Seq-0 hidden-the_row-Seq-0
from_sender = refl

from_younger_sender : origin_of meeting (Pair (pick 2 0 0) (pick 1 0 0) false) ≡ (2, 2)
unfolding settle roll-Seq roll hidden shape-the_row-Stmt-1 hidden-the_row-Stmt-1 shape-the_row-Seq-0 hidden-the_row-Seq-0
from_younger_sender = refl

-- of the option, and not of the if
from_first_option : origin_of choosing (Alone (pick 0 0 0) false) ≡ (0, 5)
unfolding settle roll-Seq roll hidden shape-the_row-Stmt-1 hidden-the_row-Stmt-1 shape-the_row-Seq-0 hidden-the_row-Seq-0
from_first_option = refl

from_d_step : origin_of choosing (Alone (pick 0 0 1) false) ≡ (0, 6)
unfolding settle roll-Seq roll hidden shape-the_row-Stmt-1 hidden-the_row-Stmt-1 shape-the_row-Seq-0 hidden-the_row-Seq-0
from_d_step = refl

-- atomic { x = 1 }, with the statement on the next line but one; and do :: timeout :: else od, over three lines
abbrev together : Seq
together = body (said 4 (codes "atomic" ∷ []) (Atomic (body (said 6 (codes "x" ∷ codes "=" ∷ codes "1" ∷ []) yes ∷ []))) ∷ [])

abbrev last_ways : Seq
last_ways = body (said 4 (codes "do" ∷ []) (Do (body (said 5 (codes "timeout" ∷ []) timeout ∷ []) ∷ body (said 6 (codes "else" ∷ []) otherwise ∷ []) ∷ [])) ∷ [])

from_atomic : origin_of (state (proctype (codes "A") 7 together ∷ []) (before 0 together 0 ∷ [])) (Alone (pick 0 0 0) false) ≡ (0, 6)
unfolding settle roll-Seq roll hidden shape-the_row-Stmt-1 hidden-the_row-Stmt-1 shape-the_row-Seq-0 hidden-the_row-Seq-0
from_atomic = refl

from_timeout : origin_of (state (proctype (codes "A") 7 last_ways ∷ []) (before 0 last_ways 0 ∷ [])) (Alone (pick 0 0 0) true) ≡ (0, 5)
unfolding settle roll-Seq roll hidden shape-the_row-Stmt-1 hidden-the_row-Stmt-1 shape-the_row-Seq-0 hidden-the_row-Seq-0
from_timeout = refl

from_else : origin_of (state (proctype (codes "A") 7 last_ways ∷ []) (before 0 last_ways 0 ∷ [])) (Alone (pick 0 0 1) false) ≡ (0, 6)
unfolding settle roll-Seq roll hidden shape-the_row-Stmt-1 hidden-the_row-Stmt-1 shape-the_row-Seq-0 hidden-the_row-Seq-0
from_else = refl

-- ---- ends

-- the line of the if
stuck_if : stuck choosing ≡ codes "at: proc 0 (A) line 4\n"
unfolding settle roll-Seq roll hidden shape-the_row-Stmt-1 hidden-the_row-Stmt-1 shape-the_row-Seq-0 hidden-the_row-Seq-0 digits
stuck_if = refl

-- who is at a closing brace is not listed
one_stuck : stuck (some (ready ∷ done ∷ ready ∷ [])) ≡ codes "at: proc 0 (A) line 2\nat: proc 2 (A) line 2\n"
unfolding settle roll-Seq roll hidden shape-the_row-Stmt-1 hidden-the_row-Stmt-1 shape-the_row-Seq-0 hidden-the_row-Seq-0 digits
one_stuck = refl

not_valid : is_valid (some (done ∷ ready ∷ [])) ≡ false
unfolding settle roll-Seq roll hidden shape-the_row-Stmt-1 hidden-the_row-Stmt-1 shape-the_row-Seq-0 hidden-the_row-Seq-0 digits
not_valid = refl

all_done : is_valid (some (done ∷ done ∷ [])) ≡ true
unfolding settle roll-Seq roll hidden shape-the_row-Stmt-1 hidden-the_row-Stmt-1 shape-the_row-Seq-0 hidden-the_row-Seq-0 digits
all_done = refl

none_stuck : stuck (some (done ∷ done ∷ [])) ≡ []
unfolding settle roll-Seq roll hidden shape-the_row-Stmt-1 hidden-the_row-Stmt-1 shape-the_row-Seq-0 hidden-the_row-Seq-0 digits
none_stuck = refl

-- the same by a process's number: the name and the line, of one that is there
stuck_one : stuck_of (some (done ∷ ready ∷ [])) 1 ≡ Some (codes "A", 2)
unfolding settle roll-Seq roll hidden shape-the_row-Stmt-1 hidden-the_row-Stmt-1 shape-the_row-Seq-0 hidden-the_row-Seq-0 digits
stuck_one = refl

stuck_init : stuck_of (state (init 1 assigns ∷ []) (ready ∷ [])) 0 ≡ Some (codes ":init:", 2)
unfolding settle roll-Seq roll hidden shape-the_row-Stmt-1 hidden-the_row-Stmt-1 shape-the_row-Seq-0 hidden-the_row-Seq-0 digits
stuck_init = refl

stuck_done : stuck_of (some (done ∷ ready ∷ [])) 0 ≡ None
unfolding settle roll-Seq roll hidden shape-the_row-Stmt-1 hidden-the_row-Stmt-1 shape-the_row-Seq-0 hidden-the_row-Seq-0 digits
stuck_done = refl

stuck_nobody : stuck_of (some (done ∷ ready ∷ [])) 2 ≡ None
unfolding settle roll-Seq roll hidden shape-the_row-Stmt-1 hidden-the_row-Stmt-1 shape-the_row-Seq-0 hidden-the_row-Seq-0 digits
stuck_nobody = refl

-- a label, and do :: q?x od
abbrev waits : List ℕ → Seq
waits l = body (labelled (l ∷ []) 1 (codes "do" ∷ []) (Do (takes ∷ [])) ∷ [])

abbrev waiting : List ℕ → State
waiting l = state (init 1 (waits l) ∷ []) (before 0 (waits l) 0 ∷ [])

end_label : is_valid (waiting (codes "end")) ≡ true
unfolding settle roll-Seq roll hidden shape-the_row-Stmt-1 hidden-the_row-Stmt-1 shape-the_row-Seq-0 hidden-the_row-Seq-0 digits
end_label = refl

longer_label : is_valid (waiting (codes "endless")) ≡ true
unfolding settle roll-Seq roll hidden shape-the_row-Stmt-1 hidden-the_row-Stmt-1 shape-the_row-Seq-0 hidden-the_row-Seq-0 digits
longer_label = refl

end_label_not_stuck : stuck (waiting (codes "end")) ≡ []
unfolding settle roll-Seq roll hidden shape-the_row-Stmt-1 hidden-the_row-Stmt-1 shape-the_row-Seq-0 hidden-the_row-Seq-0 digits
end_label_not_stuck = refl

end_label_not_stuck_by_number : stuck_of (waiting (codes "end")) 0 ≡ None
unfolding settle roll-Seq roll hidden shape-the_row-Stmt-1 hidden-the_row-Stmt-1 shape-the_row-Seq-0 hidden-the_row-Seq-0 digits
end_label_not_stuck_by_number = refl

later_in_its_name : is_valid (waiting (codes "the_end")) ≡ false
unfolding settle roll-Seq roll hidden shape-the_row-Stmt-1 hidden-the_row-Stmt-1 shape-the_row-Seq-0 hidden-the_row-Seq-0 digits
later_in_its_name = refl

shorter_label : is_valid (waiting (codes "en")) ≡ false
unfolding settle roll-Seq roll hidden shape-the_row-Stmt-1 hidden-the_row-Stmt-1 shape-the_row-Seq-0 hidden-the_row-Seq-0 digits
shorter_label = refl

other_label : stuck (waiting (codes "accept")) ≡ codes "at: proc 0 (:init:) line 1\n"
unfolding settle roll-Seq roll hidden shape-the_row-Stmt-1 hidden-the_row-Stmt-1 shape-the_row-Seq-0 hidden-the_row-Seq-0 digits
other_label = refl

-- 1; end: goto L; 1; L: 1
abbrev jumps : Seq
jumps = body (said 1 [] yes ∷ labelled (codes "end" ∷ []) 2 [] (Goto (word 2 (codes "L"))) ∷ said 3 (codes "1" ∷ []) yes ∷ labelled (codes "L" ∷ []) 4 [] yes ∷ [])

-- the label leads to where the goto leads
goto_target : is_valid (state (proctype [] 5 jumps ∷ []) (before 0 jumps 1 ∷ before 0 jumps 3 ∷ [])) ≡ true
unfolding settle roll-Seq roll hidden shape-the_row-Stmt-1 hidden-the_row-Stmt-1 shape-the_row-Seq-0 hidden-the_row-Seq-0 digits
goto_target = refl

behind_goto : stuck (state (proctype [] 5 jumps ∷ []) (before 0 jumps 2 ∷ [])) ≡ codes "at: proc 0 () line 3\n"
unfolding settle roll-Seq roll hidden shape-the_row-Stmt-1 hidden-the_row-Stmt-1 shape-the_row-Seq-0 hidden-the_row-Seq-0 digits
behind_goto = refl

-- 1; { end: 1 }
abbrev braces : Seq
braces = body (said 1 (codes "1" ∷ []) yes ∷ said 2 [] (Block (body (labelled (codes "end" ∷ []) 2 [] yes ∷ []))) ∷ [])

in_braces : is_valid (state (proctype [] 3 braces ∷ []) (before 0 braces 1 ∷ [])) ≡ true
unfolding settle roll-Seq roll hidden shape-the_row-Stmt-1 hidden-the_row-Stmt-1 shape-the_row-Seq-0 hidden-the_row-Seq-0 digits
in_braces = refl

before_braces : is_valid (state (proctype [] 3 braces ∷ []) (before 0 braces 0 ∷ [])) ≡ false
unfolding settle roll-Seq roll hidden shape-the_row-Stmt-1 hidden-the_row-Stmt-1 shape-the_row-Seq-0 hidden-the_row-Seq-0 digits
before_braces = refl
