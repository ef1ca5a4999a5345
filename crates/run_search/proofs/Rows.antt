-- Worked examples, computed.
use Rattle.std.proofs.Common.{◌≡◌, [], ◌∷◌, refl, true, false, pos}
use denote.Hole.Carrier.{roll, hidden}
use Rattle.pml_tree.specs.declared.tree.Search.TheVariants.{First, Matching}
use Rattle.pml_program.specs.declared.program.Seq.{roll-Seq}
use Rattle.pml_program.specs.declared.program.Basic.{If, Unless, DStep}
use Rattle.pml_program.specs.declared.program.Basic.TheBlock.{shape-the_row-Stmt-1, hidden-the_row-Stmt-1, shape-the_row-Seq-0, hidden-the_row-Seq-0}
use Rattle.promela_process.specs.Control.{settle}
use Rattle.promela_process.specs.Numbers.{bits_of, is_signed}
use Rattle.promela_run.specs.declared.moves.Move.TheVariants.{Death, Alone, Pair}
use Rattle.promela_run.specs.Moves.{pick, moves}
use Rattle.run_search.proofs.Samples.{body, only, yes, no, timeout, otherwise, sends, receives, polls, channel, state, held_by, at_braces, number_is, timeout_is, exactly_is, global_is, poll_is}

-- a condition that does not hold
blocked : moves (state (only no ∷ []) []) ≡ []
unfolding settle roll-Seq roll hidden shape-the_row-Stmt-1 hidden-the_row-Stmt-1 shape-the_row-Seq-0 hidden-the_row-Seq-0
blocked = rw (number_is, number_is) refl

-- two processes, in their order
two : moves (state (only yes ∷ only yes ∷ []) []) ≡ Alone (pick 0 0 0) false ∷ Alone (pick 1 0 0) false ∷ []
unfolding settle roll-Seq roll hidden shape-the_row-Stmt-1 hidden-the_row-Stmt-1 shape-the_row-Seq-0 hidden-the_row-Seq-0
two = rw (number_is, number_is) refl

-- if :: 1 :: else fi, and if :: 0 :: else fi
no_else : moves (state (only (If (only yes ∷ only otherwise ∷ [])) ∷ []) []) ≡ Alone (pick 0 0 0) false ∷ []
unfolding settle roll-Seq roll hidden shape-the_row-Stmt-1 hidden-the_row-Stmt-1 shape-the_row-Seq-0 hidden-the_row-Seq-0
no_else = rw number_is refl

an_else : moves (state (only (If (only no ∷ only otherwise ∷ [])) ∷ []) []) ≡ Alone (pick 0 0 1) false ∷ []
unfolding settle roll-Seq roll hidden shape-the_row-Stmt-1 hidden-the_row-Stmt-1 shape-the_row-Seq-0 hidden-the_row-Seq-0
an_else = rw number_is refl

-- `timeout` where nobody can do anything else
last_of_all : moves (state (only timeout ∷ only no ∷ []) []) ≡ Alone (pick 0 0 0) true ∷ []
unfolding settle roll-Seq roll hidden shape-the_row-Stmt-1 hidden-the_row-Stmt-1 shape-the_row-Seq-0 hidden-the_row-Seq-0
last_of_all = rw (timeout_is, timeout_is, number_is, number_is) refl

another_can : moves (state (only timeout ∷ only yes ∷ []) []) ≡ Alone (pick 1 0 0) false ∷ []
unfolding settle roll-Seq roll hidden shape-the_row-Stmt-1 hidden-the_row-Stmt-1 shape-the_row-Seq-0 hidden-the_row-Seq-0
another_can = rw (timeout_is, number_is) refl

-- of two processes at their closing braces the younger dies
dies : moves (at_braces (state (only yes ∷ only yes ∷ []) [])) ≡ Death 1 ∷ []
unfolding settle roll-Seq roll hidden shape-the_row-Stmt-1 hidden-the_row-Stmt-1 shape-the_row-Seq-0 hidden-the_row-Seq-0
dies = refl

-- exclusive control, and what is lent while its holder is blocked
held : moves (held_by 1 (state (only yes ∷ only yes ∷ []) [])) ≡ Alone (pick 1 0 0) false ∷ []
unfolding settle roll-Seq roll hidden shape-the_row-Stmt-1 hidden-the_row-Stmt-1 shape-the_row-Seq-0 hidden-the_row-Seq-0
held = rw number_is refl

lent : moves (held_by 1 (state (only yes ∷ only no ∷ []) [])) ≡ Alone (pick 0 0 0) false ∷ []
unfolding settle roll-Seq roll hidden shape-the_row-Stmt-1 hidden-the_row-Stmt-1 shape-the_row-Seq-0 hidden-the_row-Seq-0
lent = rw (number_is, number_is) refl

-- a rendezvous: q!7 and q?7, on one channel and on two, and where another number is asked
pair : moves (state (only (sends 0 (pos 7)) ∷ only (receives 0 First (pos 7)) ∷ []) (channel 0 [] ∷ [])) ≡ Pair (pick 0 0 0) (pick 1 0 0) false ∷ []
unfolding settle roll-Seq roll hidden shape-the_row-Stmt-1 hidden-the_row-Stmt-1 shape-the_row-Seq-0 hidden-the_row-Seq-0 bits_of is_signed
pair = simp (global_is, number_is, exactly_is) refl

other_channel : moves (state (only (sends 0 (pos 7)) ∷ only (receives 1 First (pos 7)) ∷ []) (channel 0 [] ∷ channel 0 [] ∷ [])) ≡ []
unfolding settle roll-Seq roll hidden shape-the_row-Stmt-1 hidden-the_row-Stmt-1 shape-the_row-Seq-0 hidden-the_row-Seq-0 bits_of is_signed
other_channel = simp (global_is, number_is, exactly_is) refl

other_field : moves (state (only (sends 0 (pos 7)) ∷ only (receives 0 First (pos 8)) ∷ []) (channel 0 [] ∷ [])) ≡ []
unfolding settle roll-Seq roll hidden shape-the_row-Stmt-1 hidden-the_row-Stmt-1 shape-the_row-Seq-0 hidden-the_row-Seq-0 bits_of is_signed
other_field = simp (global_is, number_is, exactly_is) refl

-- no process meets itself: if :: q!7 :: q?7 fi
itself : moves (state (only (If (only (sends 0 (pos 7)) ∷ only (receives 0 First (pos 7)) ∷ [])) ∷ []) (channel 0 [] ∷ [])) ≡ []
unfolding settle roll-Seq roll hidden shape-the_row-Stmt-1 hidden-the_row-Stmt-1 shape-the_row-Seq-0 hidden-the_row-Seq-0 bits_of is_signed
itself = rw (global_is, global_is, number_is, number_is) refl

-- { 1 } unless { 1 }, and { 1 } unless { 0 }
escapes : moves (state (only (Unless (only yes) (only yes)) ∷ []) []) ≡ Alone (pick 0 1 0) false ∷ []
unfolding settle roll-Seq roll hidden shape-the_row-Stmt-1 hidden-the_row-Stmt-1 shape-the_row-Seq-0 hidden-the_row-Seq-0
escapes = rw number_is refl

stays : moves (state (only (Unless (only yes) (only no)) ∷ []) []) ≡ Alone (pick 0 0 0) false ∷ []
unfolding settle roll-Seq roll hidden shape-the_row-Stmt-1 hidden-the_row-Stmt-1 shape-the_row-Seq-0 hidden-the_row-Seq-0
stays = rw (number_is, number_is) refl

-- the first point of a d_step decides
d_step : moves (state (only (DStep (body (yes ∷ no ∷ []))) ∷ []) []) ≡ Alone (pick 0 0 0) false ∷ []
unfolding settle roll-Seq roll hidden shape-the_row-Stmt-1 hidden-the_row-Stmt-1 shape-the_row-Seq-0 hidden-the_row-Seq-0
d_step = rw number_is refl

blocked_d_step : moves (state (only (DStep (body (no ∷ yes ∷ []))) ∷ []) []) ≡ []
unfolding settle roll-Seq roll hidden shape-the_row-Stmt-1 hidden-the_row-Stmt-1 shape-the_row-Seq-0 hidden-the_row-Seq-0
blocked_d_step = rw (number_is, number_is) refl

-- of messages 1 and 2, q?2 waits for the oldest and q??2 for any
oldest : moves (state (only (receives 0 First (pos 2)) ∷ []) (channel 2 ((pos 1 ∷ []) ∷ (pos 2 ∷ []) ∷ []) ∷ [])) ≡ []
unfolding settle roll-Seq roll hidden shape-the_row-Stmt-1 hidden-the_row-Stmt-1 shape-the_row-Seq-0 hidden-the_row-Seq-0
oldest = rw (global_is, global_is, exactly_is, exactly_is) refl

any : moves (state (only (receives 0 Matching (pos 2)) ∷ []) (channel 2 ((pos 1 ∷ []) ∷ (pos 2 ∷ []) ∷ []) ∷ [])) ≡ Alone (pick 0 0 0) false ∷ []
unfolding settle roll-Seq roll hidden shape-the_row-Stmt-1 hidden-the_row-Stmt-1 shape-the_row-Seq-0 hidden-the_row-Seq-0
any = rw (global_is, exactly_is) refl

-- the same asked by conditions
oldest_polled : moves (state (only (polls 0 First (pos 2)) ∷ []) (channel 2 ((pos 1 ∷ []) ∷ (pos 2 ∷ []) ∷ []) ∷ [])) ≡ []
unfolding settle roll-Seq roll hidden shape-the_row-Stmt-1 hidden-the_row-Stmt-1 shape-the_row-Seq-0 hidden-the_row-Seq-0
oldest_polled = simp (poll_is, global_is, exactly_is) refl

any_polled : moves (state (only (polls 0 Matching (pos 2)) ∷ []) (channel 2 ((pos 1 ∷ []) ∷ (pos 2 ∷ []) ∷ []) ∷ [])) ≡ Alone (pick 0 0 0) false ∷ []
unfolding settle roll-Seq roll hidden shape-the_row-Stmt-1 hidden-the_row-Stmt-1 shape-the_row-Seq-0 hidden-the_row-Seq-0
any_polled = simp (poll_is, global_is, exactly_is) refl

-- a full channel takes no message, and an empty one gives none
full : moves (state (only (sends 0 (pos 7)) ∷ []) (channel 1 ((pos 1 ∷ []) ∷ []) ∷ [])) ≡ []
unfolding settle roll-Seq roll hidden shape-the_row-Stmt-1 hidden-the_row-Stmt-1 shape-the_row-Seq-0 hidden-the_row-Seq-0
full = rw (global_is, global_is, number_is, number_is) refl

-- where it is lossy, the message to a full channel is lost, and to send it is a move
lossy_full : moves (record (state (only (sends 0 (pos 7)) ∷ []) (channel 1 ((pos 1 ∷ []) ∷ []) ∷ [])) { lossy = true }) ≡ Alone (pick 0 0 0) false ∷ []
unfolding settle roll-Seq roll hidden shape-the_row-Stmt-1 hidden-the_row-Stmt-1 shape-the_row-Seq-0 hidden-the_row-Seq-0
lossy_full = rw global_is refl

empty : moves (state (only (receives 0 First (pos 7)) ∷ []) (channel 1 [] ∷ [])) ≡ []
unfolding settle roll-Seq roll hidden shape-the_row-Stmt-1 hidden-the_row-Stmt-1 shape-the_row-Seq-0 hidden-the_row-Seq-0
empty = rw (global_is, global_is) refl

-- no channel has the number 1: to send is the fault
no_channel : moves (state (only (sends 0 (pos 7)) ∷ []) []) ≡ Alone (pick 0 0 0) false ∷ []
unfolding settle roll-Seq roll hidden shape-the_row-Stmt-1 hidden-the_row-Stmt-1 shape-the_row-Seq-0 hidden-the_row-Seq-0
no_channel = rw global_is refl
