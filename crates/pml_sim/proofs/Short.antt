-- The lines of a model's choices with their places are short.
use Rattle.std.proofs.Common.{◌≡◌, ℕ, ◌+◌, ◌-◌, ◌*◌, ◌<◌, ◌≤◌, Bool, List, [], ◌∷◌, ◌++◌, length, map, take, Option, Some, None, Result, Ok, Err, IfOk, sym, ap, arith, length-append, subst, ◌∙◌, codes}
use Rattle.std.specs.Prelude.{slice_get, slice_index_or, IfSome}
use Rattle.std.specs.List.{AllByRecursion, Contains}
use Rattle.std.proofs.lemmas.List.{length-take, length-map}
use Rattle.std.proofs.lemmas.Option.{slice_get-get_or}
use Rattle.diagnostics.specs.declared.fault.Fault.{Fault}
use Rattle.promela_session.specs.declared.ends.Options.{Options}
use Rattle.promela_session.specs.Devices.{StandsForRecord}
use Rattle.promela_machine.specs.Machine.{Goes}
use Rattle.promela_session.specs.Session.{place_of_move, transcript}
use Rattle.promela_session.specs.Events.{all_digits, placed_line}
use Rattle.session.proofs.Placing.{can_be_converted}
use Rattle.session.proofs.Replay.{picked_is_there}
use Rattle.session.proofs.Written.{few_digits}
use Rattle.pml_program.specs.declared.program.Seq.{Seq}
use Rattle.pml_program.specs.declared.program.Proctype.{Proctype}
use Rattle.pml_program.specs.declared.program.Program.{Program}
use Rattle.promela_process.specs.Offers.{Offer}
use Rattle.promela_process.specs.Store.{Frame}
use Rattle.promela_run.specs.State.{first_state, Stand, State, body_of, begins_at, picked}
use Rattle.run_start.specs.Laws.{IsFirst}
use Rattle.run_start.specs.Starting.{starting}
use Rattle.run_start.proofs.Living.{living_are}
use Rattle.promela_run.specs.declared.moves.Move.{Move}
use Rattle.promela_run.specs.declared.moves.Move.TheVariants.{Death, Alone, Pair}
use Rattle.promela_run.specs.Moves as search
use Rattle.profile.specs.declared.TheConstants.{MOST_DSTEP_STATEMENTS, LINE_BYTES}
use Rattle.promela_run.specs.Steps.{Done}
use Rattle.promela_run.specs.Steps as outcome
use Rattle.promela_run.specs.World.{origin_of, Running, first, world_moves, led_to, world_step, rules}
use Rattle.run_texts.specs.Staying.{IsWithin}
use Rattle.promela_run.specs.declared.halt.Halt.{Halt}
use Rattle.run_state.specs.Standing.{begins_by}
use Rattle.run_search.specs.Lifted.{sort_of, line_in, brace_of, unless_stopped}
use Rattle.pml_sim.proofs.Weight.{weight_part}
use Rattle.pml_sim.proofs.Crowding.{IsLightProctype, IsLightStand, IsLightState, moves_few}
use Rattle.pml_sim.proofs.Lasting.{IsLightOffer, first_light, get_light, picked_light, step_light, body_weighs}
use Rattle.pml_sim.proofs.Stepping.{listed_within}
use Rattle.pml_sim.proofs.Fitting.{session_fits}

-- the most that a body weighs, with the line of its closing brace
abbrev pub most : ℕ
most = 1000000000000000000

abbrev pub IsLightHere : Running → Type 0
IsLightHere w = IsLightState most w.state

-- ---- the first state and those behind it

led_light : (frames : List Frame) (r : Result Done Fault) (t : Running) (printed : List ℕ) → IfOk r (λ d. IsLightState most d.state) → led_to frames r ≡ Goes t printed → IsLightHere t
led_light frames (Ok d) t printed h e =
    let same : record { state = d.state; past = take (length d.state.frames) frames; halt = None } ≡ t = goes_is _ t d.printed printed e in
    subst IsLightHere same h
  where
    goes_is : (x y : Running) (p q : List ℕ) → Goes x p ≡ Goes y q → x ≡ y
    goes_is x y p q f = cc
led_light frames (Err f) t printed h e = cc

pub goes_light : (s t : Running) (m : Move) (printed : List ℕ) → IsLightHere s → world_step s m ≡ Goes t printed → IsLightHere t
goes_light s t m printed h e = led_light s.state.frames (outcome.after_move MOST_DSTEP_STATEMENTS s.state m) t printed (step_light most MOST_DSTEP_STATEMENTS s.state m h) e

begins_light : (k : ℕ) (o : Option Seq) → IfSome o (λ b. weight_part b ≤ most) → IsLightStand most (begins_by k o)
begins_light k None h = tt
begins_light k (Some b) h = first_light most b h

-- ---- places

stood_line : (pr : Program) (o : Option Stand) → AllByRecursion (IsLightProctype most) pr.proctypes → brace_of (sort_of pr o) ≤ most
stood_line pr None h = omega arith
stood_line pr (Some y) h = by (slice_get pr.proctypes y.sort) (get_light most (IsLightProctype most) pr.proctypes y.sort h)
  where
    by : (q : Option Proctype) → IfSome q (IsLightProctype most) → brace_of q ≤ most
    by None w = omega arith
    by (Some q) w = omega (arith, w)

offered_line : (o : Option Offer) → IfSome o (IsLightOffer most) → line_in o ≤ most
offered_line None h = omega arith
offered_line (Some o) h = h.line

line_light : (s : State) (m : Move) → IsLightState most s → (origin_of s m).1 ≤ most
line_light s (Death p) h = stood_line s.program (slice_get s.stands p) h.bodies
line_light s (Alone k t) h = offered_line (picked s k) (picked_light most s k h)
line_light s (Pair k j t) h = offered_line (picked s k) (picked_light most s k h)

process_lives : (s : State) (m : Move) → IsWithin (length s.stands) m → (origin_of s m).0 < length s.stands
process_lives s (Death p) h = h
process_lives s (Alone k t) h = h
process_lives s (Pair k j t) h = h.0

-- ---- lines

short_line : (n p l : ℕ) → n ≤ 255 * (most * (255 * most + 1) + most + 1) → p < 255 → l ≤ most → length (placed_line n (p, l)) ≤ LINE_BYTES + 1
short_line n p l few_n few_p few_l =
    let a = few_digits 42 n (omega (arith, few_n)) in
    let b = few_digits 2 p (omega (arith, few_p)) in
    let c = few_digits 18 l (omega (arith, few_l)) in
    let x = length-append (all_digits n) (codes " " ++ (all_digits p ++ (codes " " ++ (all_digits l ++ codes "\n")))) in
    let y = length-append (all_digits p) (codes " " ++ (all_digits l ++ codes "\n")) in
    let z = length-append (all_digits l) (codes "\n") in
    omega (arith, a, b, c, x, y, z)

listed_few : (s : State) (h : Option Halt) → IsLightState most s → length (unless_stopped h (search.moves s)) ≤ 255 * (most * (255 * most + 1) + most + 1)
listed_few s None l = moves_few most s l
listed_few s (Some h) l = omega arith

-- the number of a move fits a line of the choices
pub number_fits : (w : Running) → IsLightHere w → (n : ℕ) → n ≤ length (world_moves w) → length (all_digits n) ≤ LINE_BYTES
number_fits w h n within =
    let few = listed_few w.state w.halt h in
    let digits = few_digits 42 n (omega (arith, few, within)) in
    omega (arith, digits)

short_from : (w : Running) (m : Move) (ms : List Move) → IsLightHere w → world_moves w ≡ ms → (n : ℕ) → 0 < n → n ≤ length ms → length (placed_line n (place_of_move rules w ms n)) ≤ LINE_BYTES + 1
short_from w m ms h e n some within =
    let k = slice_index_or ms (n - 1) m in
    let is : slice_get ms (n - 1) ≡ Some k = slice_get-get_or ms (n - 1) m (omega (arith, some, within)) in
    let there : Contains (world_moves w) k = subst (λ (l : List Move). Contains l k) (sym e) (picked_is_there ms n m some within) in
    let few : length ms ≤ 255 * (most * (255 * most + 1) + most + 1) = subst (λ (l : List Move). length l ≤ 255 * (most * (255 * most + 1) + most + 1)) e (listed_few w.state w.halt h) in
    let lives = process_lives w.state k (listed_within w k there) in
    let all = h.few in
    rw is (short_line n (origin_of w.state k).0 (origin_of w.state k).1 (omega (arith, few, within)) (omega (arith, lives, all)) (line_light w.state k h))

short : (w : Running) (ms : List Move) → IsLightHere w → world_moves w ≡ ms → (n : ℕ) → 0 < n → n ≤ length ms → length (placed_line n (place_of_move rules w ms n)) ≤ LINE_BYTES + 1
short w [] h e n some within = absurd (omega (arith, some, within))
short w (m ∷ ms) h e n some within = short_from w m (m ∷ ms) h e n some within

-- a session of a model whose bodies weigh no more leads, on its converted choices, where its record leads
pub light_stands : (w : Running) (options : Options) → IsLightState most w.state → (choices : List ℕ) → StandsForRecord (transcript rules options w) choices
light_stands w options h choices = can_be_converted rules options w choices (session_fits rules options IsLightHere goes_light short w h choices)

-- ---- the first state

begun_few : (p : Program) (s : State) → IsFirst p s → length s.stands ≤ 255
begun_few p s f =
    let ks = take 255 (starting 0 p.proctypes) in
    let l = ap length f.stands ∙ length-map ks (begins_at p) ∙ length-take 255 (starting 0 p.proctypes) in
    omega (arith, l)

begun_stands : (p : Program) → AllByRecursion (IsLightProctype most) p.proctypes → (ks : List ℕ) → AllByRecursion (IsLightStand most) (map (begins_at p) ks)
begun_stands p h [] = tt
begun_stands p h (k ∷ ks) = (begins_light k (body_of p k) (body_weighs most p k h), begun_stands p h ks)

first_light_by : (p : Program) (s : State) (lossy : Bool) → AllByRecursion (IsLightProctype most) p.proctypes → IsFirst p s → IsLightState most (first s lossy).state
first_light_by p s lossy h f = record {
  few = begun_few p s f;
  bodies = subst (λ (q : Program). AllByRecursion (IsLightProctype most) q.proctypes) (sym f.program) h;
  stands = subst (AllByRecursion (IsLightStand most)) (sym f.stands) (begun_stands p h (take 255 (starting 0 p.proctypes)));
}

pub first_is_light : (p : Program) (s : State) (lossy : Bool) → AllByRecursion (IsLightProctype most) p.proctypes → first_state p ≡ Ok s → IsLightState most (first s lossy).state
first_is_light p s lossy h e = first_light_by p s lossy h (subst (λ (r : Result State Fault). IfOk r (IsFirst p)) e (living_are p))
