-- The definitions of a run that rest on the value of an expression, over any means of evaluating.
-- Made by `tools/copy-definitions`; `Same.antt` proves that these are the definitions.
use Rattle.diagnostics.specs.declared.fault.Fault.{Fault}
use Rattle.diagnostics.specs.declared.fault.Fault.TheVariants.{AssertionViolated, DStepTooLong, TooManyChannels}
use Rattle.pml_program.specs.declared.expr.Expr.{Expr}
use Rattle.pml_program.specs.declared.expr.Target.{Target, out-Target}
use Rattle.pml_program.specs.declared.expr.Want.{Want}
use Rattle.pml_program.specs.declared.form.Form.{Form}
use Rattle.pml_program.specs.declared.program.Action.{Action}
use Rattle.pml_program.specs.declared.program.Basic.{Basic, DStep, Plain}
use Rattle.pml_program.specs.declared.program.Fields.{Fields}
use Rattle.pml_program.specs.declared.program.Initial.{Initial}
use Rattle.pml_program.specs.declared.program.Proctype.{Proctype}
use Rattle.pml_program.specs.declared.program.Program.{Program}
use Rattle.pml_program.specs.declared.program.Run.{Run}
use Rattle.pml_program.specs.declared.program.Seq.{Seq}
use Rattle.pml_program.specs.declared.program.Slot.{Slot}
use Rattle.pml_tree.specs.declared.tree.Removal.{Removal}
use Rattle.pml_tree.specs.declared.tree.Search.{Search}
use Rattle.pml_tree.specs.declared.tree.SendOrder.{SendOrder}
use Rattle.profile.specs.declared.TheConstants.{MOST_CHANNELS, MOST_DSTEP_STATEMENTS, MOST_PROCESSES}
use Rattle.promela_process.specs.Control.{Control}
use Rattle.promela_process.specs.Expressions.{Reading, wants_of, ◌>>=◌}
use Rattle.promela_process.specs.Numbers.{clipped, is_zero, wrapped}
use Rattle.promela_process.specs.Offers.{Offer}
use Rattle.promela_process.specs.declared.sought.Sought.{Sought}
use Rattle.promela_run.specs.Lines.{name_of_number, printed}
use Rattle.promela_run.specs.Moves.{Message, Named, accepts_on, can_receive, can_send, each, else_moves, is_else, is_some, last, message_on, only_if, or_else, or_fault, pick, with_fields}
use Rattle.promela_run.specs.State.{Stand, State, begins_at, body_of, channel_at, empty_channel, first_control, leaf, levels, levels_in, nothing, picked, read_in, reads, size, unread, variables_at, with_channel, with_frame, with_value, with_values, youngest_joined}
use Rattle.promela_run.specs.Statements.{Received, changed, channels_made, place_with_fields, stores, taken_at, with_arguments, with_message}
use Rattle.promela_run.specs.Steps.{Done, behind_printed, body_by, both_on, first_of, onward, prints, put_by, quiet, run_number, went, with_received, with_sent, without_youngest}
use Rattle.promela_run.specs.World.{Running, changed_lines, is_valid, led_to, move_text, origin_of, stuck}
use Rattle.promela_run.specs.declared.goes.Goes.{Goes}
use Rattle.promela_run.specs.declared.live_channel.LiveChannel.{LiveChannel}
use Rattle.promela_run.specs.declared.moves.Move.{Move}
use Rattle.promela_run.specs.declared.moves.Move.TheVariants.{Alone, Death, Pair}
use Rattle.promela_run.specs.declared.moves.Pick.{Pick}
use Rattle.promela_machine.specs.Machine.{Outcome, Rules}
use Rattle.std.specs.List.{filter}
use Rattle.std.specs.Option.{option_map_or}
use Rattle.std.specs.Prelude.{Bool, Err, List, None, Ok, Option, Result, Some, [], false, if◌then◌else◌, int_lt, length, map, nat_eq, nat_lt, negsuc, not, option_map, pos, slice_get, suc, true, zero, ℕ, ℤ, ◌%◌, ◌&&◌, ◌*◌, ◌++◌, ◌+ℤ◌, ◌+◌, ◌-◌, ◌==◌, ◌||◌, ◌∷◌}
use Rattle.pml_program.specs.declared.program.Action.TheVariants as actions
use Rattle.pml_program.specs.declared.program.Initial.TheVariants as initials
use Rattle.worked_runs.proofs.Means.{Means}

module _ (means : Means) where
  abbrev pub value-asked_by : List Want → Reading → Result (List Sought) Fault
  value-asked_by ws = wants_of (map means.want ws)

  abbrev pub state-initial_value : Expr → Form → Reading → Result ℤ Fault
  state-initial_value v form r = means.val v r >>= λ n. Ok (clipped form n)

  abbrev pub state-cell_begun : Initial → Form → ℕ → ℕ → State → Result State Fault
  state-cell_begun initials.Zero form variable cell now = Ok now
  state-cell_begun (initials.Value v) form variable cell now = state-initial_value v form unread >>= λ n. Ok (with_value variable cell n now)
  state-cell_begun (initials.Channel capacity types) form variable cell now = with_channel variable cell (empty_channel capacity types) now

  abbrev pub state-fields_begun : List Fields → Slot → ℕ → ℕ → ℕ → State → Result State Fault
  state-fields_begun ts s variable cell zero now = Ok now
  state-fields_begun ts s variable cell (suc n) now =
      state-cell_begun (leaf ts s cell).initial (leaf ts s cell).form variable cell now
      >>= state-fields_begun ts s variable (cell + 1) n

  abbrev pub state-variable_begun : List Fields → Initial → Slot → ℕ → State → Result State Fault
  state-variable_begun ts (initials.Value v) s variable now = state-initial_value v s.form (read_in now) >>= λ n. Ok (with_values variable n 0
      (size s) now)
  state-variable_begun ts _ s variable now = state-fields_begun ts s variable 0 (size s) now

  abbrev pub state-variables_begun : List Fields → List Slot → ℕ → State → Result State Fault
  state-variables_begun ts [] variable now = Ok now
  state-variables_begun ts (s ∷ ss) variable now = state-variable_begun ts s.initial s variable now >>= state-variables_begun ts ss (variable + 1)

  abbrev pub state-frame_begun : List Fields → List Slot → State → Result State Fault
  state-frame_begun ts ss now = state-variables_begun ts ss 0 (with_frame ss now)

  abbrev pub state-process_begun : Program → ℕ → State → Result State Fault
  state-process_begun p k now =
      if nat_lt (length now.stands) MOST_PROCESSES then state-frame_begun p.typedefs (variables_at p k) (youngest_joined (begins_at p k) now) else
      Ok now

  abbrev pub state-sort_begun : Program → ℕ → ℕ → State → Result State Fault
  state-sort_begun p k zero now = Ok now
  state-sort_begun p k (suc n) now = state-process_begun p k now >>= state-sort_begun p k n

  abbrev pub state-sorts_begun : Program → ℕ → List Proctype → State → Result State Fault
  state-sorts_begun p k [] now = Ok now
  state-sorts_begun p k (q ∷ qs) now = state-sort_begun p k q.starts now >>= state-sorts_begun p (k + 1) qs

  abbrev pub state-first_state : Program → Result State Fault
  state-first_state p = state-frame_begun p.typedefs p.globals (nothing p) >>= state-sorts_begun p 0 p.proctypes

  abbrev pub statement-place_named : List LiveChannel → Reading → Target → ℕ → Result ℕ Fault
  statement-place_named cs r t count = means.place t r >>= λ at. place_with_fields count (r.holds at) (channel_at cs (r.holds at))

  abbrev pub statement-values : List Expr → Reading → Result (List ℤ) Fault
  statement-values [] r = Ok []
  statement-values (e ∷ es) r = means.val e r >>= λ v. statement-values es r >>= λ vs. Ok (v ∷ vs)

  abbrev pub statement-addressed : List LiveChannel → Reading → Target → List Expr → Result (ℕ × List ℤ) Fault
  statement-addressed cs r t es = statement-place_named cs r t (length es) >>= λ n. statement-values es r >>= λ vs. Ok (n, vs)

  abbrev pub statement-sent : List LiveChannel → Reading → Target → SendOrder → List Expr → Result (List LiveChannel) Fault
  statement-sent cs r t order es = statement-addressed cs r t es >>= λ m. Ok (changed m.0 (with_message order m.1) cs)

  abbrev pub statement-asked_at : List LiveChannel → Reading → Target → List Want → Result (ℕ × List Sought) Fault
  statement-asked_at cs r t ws = statement-place_named cs r t (length ws) >>= λ n. value-asked_by ws r >>= λ ss. Ok (n, ss)

  abbrev pub statement-received : List LiveChannel → Reading → Target → Search → Removal → List Want → Result Received Fault
  statement-received cs r t search how ws = statement-asked_at cs r t ws >>= λ x. Ok (taken_at cs x.0 search how x.1)

  abbrev pub statement-asserted : Expr → Reading → Result (Unit {0}) Fault
  statement-asserted e r = means.val e r >>= λ v. if is_zero v then Err AssertionViolated else Ok tt

  abbrev pub statement-goes : Target → ℤ → Reading → Result Goes Fault
  statement-goes t v r = means.place t r >>= λ p. Ok (record { place = p; number = clipped (out-Target t).form v })

  abbrev pub statement-goes_to : Option Target → ℤ → Reading → Result (Option Goes) Fault
  statement-goes_to None v r = Ok None
  statement-goes_to (Some t) v r = statement-goes t v r >>= λ g. Ok (Some g)

  abbrev pub statement-increased : Target → ℤ → Reading → Result (Option Goes) Fault
  statement-increased t by r = means.place t r >>= λ p. statement-goes_to (Some t) (wrapped (r.holds p +ℤ by)) r

  abbrev pub statement-outcome : Action → Reading → Result (Option Goes) Fault
  statement-outcome (actions.Assign t v) r = means.val v r >>= λ n. statement-goes_to t n r
  statement-outcome (actions.Increment t) r = statement-increased t (pos 1) r
  statement-outcome (actions.Decrement t) r = statement-increased t (negsuc 0) r
  statement-outcome (actions.Holds v) r = means.val v r >>= λ n. Ok None
  statement-outcome s r = Ok None

  abbrev pub statement-created : List Fields → Stand → List Slot → List ℤ → State → Result State Fault
  statement-created ts y ss vs now =
      if nat_lt MOST_CHANNELS (length now.channels + channels_made ts ss) then Err TooManyChannels
      else state-variables_begun ts ss 0 (with_arguments 0 ss vs (with_frame ss (youngest_joined y now)))

  abbrev pub moves-named : List LiveChannel → Reading → Target → ℕ → Result Named Fault
  moves-named cs r t count = means.place t r >>= λ at. with_fields count (r.holds at) (channel_at cs (r.holds at))

  abbrev pub moves-ready : Bool → List LiveChannel → Reading → Bool → Action → Result Bool Fault
  moves-ready lossy cs r in_d_step (actions.Holds e) = means.val e r >>= λ n. Ok (not (is_zero n))
  moves-ready lossy cs r in_d_step (actions.Run q) = Ok (int_lt r.process_count (pos MOST_PROCESSES))
  moves-ready lossy cs r in_d_step (actions.Send t order es) = moves-named cs r t (length es) >>= λ c. can_send lossy in_d_step c.contents
      (statement-values es r)
  moves-ready lossy cs r in_d_step (actions.Receive t search _ ws) =
      moves-named cs r t (length ws) >>= λ c. can_receive search c.contents (value-asked_by ws r)
  moves-ready lossy cs r in_d_step _ = Ok true

  abbrev pub moves-can : Bool → List LiveChannel → Reading → Bool → Action → Bool
  moves-can lossy cs r in_d_step x = or_fault (moves-ready lossy cs r in_d_step x)

  abbrev pub moves-can_inside : Bool → List LiveChannel → Reading → Option Basic → Bool
  moves-can_inside lossy cs r (Some (Plain x)) = moves-can lossy cs r true x
  moves-can_inside lossy cs r _ = true

  abbrev pub moves-is_choice : Bool → List LiveChannel → Reading → Offer → Bool
  moves-is_choice lossy cs r o = not (is_else o.basic) && moves-can_inside lossy cs r o.basic

  abbrev pub moves-choices : Bool → List LiveChannel → Reading → List (List Offer) → List Offer
  moves-choices lossy cs r [] = []
  moves-choices lossy cs r (os ∷ ls) = or_else (filter (moves-is_choice lossy cs r) os) (filter (λ o. is_else o.basic) os)

  abbrev pub moves-can_alone : Bool → List LiveChannel → Reading → Seq → Offer → Option Basic → Bool
  moves-can_alone lossy cs r b o (Some (Plain x)) = moves-can lossy cs r false x
  moves-can_alone lossy cs r b o (Some (DStep d)) = is_some (moves-choices lossy cs r (option_map_or (levels b) o.entry []))
  moves-can_alone lossy cs r b o _ = true

  abbrev pub moves-message : List LiveChannel → Reading → Option Basic → Option Message
  moves-message cs r (Some (Plain (actions.Send t order es))) = message_on (moves-named cs r t (length es)) (statement-values es r)
  moves-message cs r _ = None

  abbrev pub moves-accepts : List LiveChannel → Reading → Message → Option Basic → Bool
  moves-accepts cs r m (Some (Plain (actions.Receive t search how ws))) = accepts_on (moves-named cs r t (length ws)) (value-asked_by ws r) m
  moves-accepts cs r m _ = false

  module _ (s : State) (t : Bool) where
    abbrev pub moves-pairs_on : Pick → Message → ℕ → ℕ → List Offer → List Move
    moves-pairs_on k m j l os = each (λ i o. only_if (moves-accepts s.channels (reads s j t) m o.basic) (Pair k (pick j l i) t)) 0 os

    abbrev pub moves-pairs_with : Pick → Message → ℕ → Stand → List Move
    moves-pairs_with k m j y =
        if nat_eq j k.process then [] else last (moves-pairs_on k m j) 0 (levels_in (body_of s.program y.sort) y.control)

    abbrev pub moves-pairs : Pick → Option Message → List Move
    moves-pairs k None = []
    moves-pairs k (Some m) = each (moves-pairs_with k m) 0 s.stands

  module _ (s : State) (p : ℕ) (t : Bool) where
    abbrev pub moves-moves_by : Seq → ℕ → ℕ → Offer → List Move
    moves-moves_by b l i o =
        if moves-can_alone s.lossy s.channels (reads s p t) b o o.basic then Alone (pick p l i) t ∷ []
        else moves-pairs s t (pick p l i) (moves-message s.channels (reads s p t) o.basic)

    abbrev pub moves-plain_moves : Seq → ℕ → List Offer → List Move
    moves-plain_moves b l os = each (λ i o. if is_else o.basic then [] else moves-moves_by b l i o) 0 os

    abbrev pub moves-moves_on : Seq → ℕ → List Offer → List Move
    moves-moves_on b l os = or_else (moves-plain_moves b l os) (else_moves p t l os)

    abbrev pub moves-moves_of : Option Seq → Control → List Move
    moves-moves_of b [] = only_if (nat_eq (p + 1) (length s.stands)) (Death p)
    moves-moves_of None (f ∷ c) = []
    moves-moves_of (Some b) (f ∷ c) = last (moves-moves_on b) 0 (levels b (f ∷ c))

    abbrev pub moves-moves_at : Stand → List Move
    moves-moves_at y = moves-moves_of (body_of s.program y.sort) y.control

  abbrev pub moves-moves_under : State → Bool → List Move
  moves-moves_under s t = each (λ p y. moves-moves_at s p t y) 0 s.stands

  abbrev pub moves-moves_held : State → Option ℕ → List Move
  moves-moves_held s None = []
  moves-moves_held s (Some p) = option_map_or (moves-moves_at s p false) (slice_get s.stands p) []

  abbrev pub moves-moves : State → List Move
  moves-moves s = or_else (moves-moves_held s s.holder) (or_else (moves-moves_under s false) (moves-moves_under s true))

  abbrev pub steps-with_new : State → ℕ → Option Proctype → List ℤ → Result State Fault
  steps-with_new s sort None vs = Ok s
  steps-with_new s sort (Some q) vs = statement-created s.program.typedefs (record { sort = sort; control = first_control q.body }) q.variables vs s

  abbrev pub steps-ran : State → Reading → Run → Result State Fault
  steps-ran s r q =
      if nat_lt (length s.stands) MOST_PROCESSES then (statement-values q.arguments r >>= steps-with_new s q.proctype (slice_get
      s.program.proctypes q.proctype))
      else Ok s

  abbrev pub steps-run_into : State → ℕ → Bool → Option Target → Run → Result State Fault
  steps-run_into s p t x q = steps-ran s (reads s p t) q >>= λ now. put_by now (statement-goes_to x (run_number s) (reads now p t))

  abbrev pub steps-does : State → ℕ → Bool → Action → Result Done Fault
  steps-does s p t (actions.Run q) = steps-ran s (reads s p t) q >>= quiet
  steps-does s p t (actions.AssignRun x q) = steps-run_into s p t x q >>= quiet
  steps-does s p t (actions.Send q order es) = with_sent s (statement-sent s.channels (reads s p t) q order es) >>= quiet
  steps-does s p t (actions.Receive q search how ws) = with_received s (statement-received s.channels (reads s p t) q search how ws) >>= quiet
  steps-does s p t (actions.Printf text es) = statement-values es (reads s p t) >>= λ vs. prints s (printed s.program.constants text.text vs)
  steps-does s p t (actions.Printm e) = means.val e (reads s p t) >>= λ v. prints s (name_of_number s.program.constants v)
  steps-does s p t (actions.Assert e) = statement-asserted e (reads s p t) >>= λ u. quiet s
  steps-does s p t actions.Else = quiet s
  steps-does s p t x = put_by s (statement-outcome x (reads s p t)) >>= quiet

  abbrev pub steps-effect : State → ℕ → Bool → Option Basic → Result Done Fault
  steps-effect s p t (Some (Plain x)) = steps-does s p t x
  steps-effect s p t _ = quiet s

  abbrev pub steps-within : ℕ → State → ℕ → Bool → Seq → Control → Result Done Fault
  steps-within zero s p t b c = Err DStepTooLong
  steps-within (suc n) s p t b c =
      first_of (moves-choices s.lossy s.channels (reads s p t) (levels b c)) (λ o.
      steps-effect s p t o.basic >>= λ d.
      onward o.stays d (λ e. steps-within n e.state p false b o.next >>= behind_printed e.printed))

  abbrev pub steps-within_from : ℕ → State → ℕ → Bool → Option Seq → Option Control → Result Done Fault
  steps-within_from most s p t (Some b) (Some c) = steps-within most s p t b c
  steps-within_from most s p t b c = quiet s

  abbrev pub steps-taken : ℕ → State → Pick → Bool → Offer → Option Basic → Result Done Fault
  steps-taken most s k t o (Some (DStep d)) = steps-within_from most s k.process t (body_by s (slice_get s.stands k.process)) o.entry
  steps-taken most s k t o x = steps-effect s k.process t x

  abbrev pub steps-alone : ℕ → State → Pick → Bool → Option Offer → Result Done Fault
  steps-alone most s k t None = quiet s
  steps-alone most s k t (Some o) = steps-taken most s k t o o.basic >>= λ d. Ok (record d { state = went d.state k.process o })

  abbrev pub steps-passed : Reading → Option Message → Option Basic → Result (List Goes) Fault
  steps-passed r (Some m) (Some (Plain (actions.Receive q search how ws))) = value-asked_by ws r >>= λ ss. Ok (stores ss m.fields)
  steps-passed r m x = Ok []

  abbrev pub steps-paired : State → Pick → Pick → Bool → Option Offer → Option Offer → Result Done Fault
  steps-paired s k j t (Some o) (Some w) =
      steps-passed (reads s j.process t) (moves-message s.channels (reads s k.process t) o.basic) w.basic >>= both_on s k.process j.process o w
  steps-paired s k j t o w = quiet s

  abbrev pub steps-after_move : ℕ → State → Move → Result Done Fault
  steps-after_move most s (Death p) = quiet (without_youngest s)
  steps-after_move most s (Alone k t) = steps-alone most s k t (picked s k)
  steps-after_move most s (Pair k j t) = steps-paired s k j t (picked s k) (picked s j)

  abbrev pub world-world_moves : Running → List Move
  world-world_moves w = option_map_or (λ h. []) w.halt (moves-moves w.state)

  abbrev pub world-world_step : Running → Move → Outcome Running
  world-world_step w m = led_to w.state.frames (steps-after_move MOST_DSTEP_STATEMENTS w.state m)

  abbrev pub world-rules : Rules Running Move
  world-rules = record {
    moves = world-world_moves;
    step = world-world_step;
    stopped = λ w. option_map (λ h. record { move = h.at; why = h.why }) w.halt;
    text = λ w m. move_text w.state m;
    origin = λ w m. origin_of w.state m;
    values = changed_lines;
    is_valid = λ w. is_valid w.state;
    stuck = λ w. stuck w.state;
  }
