-- What a process waits for.
use Rattle.std.specs.Prelude.{ℕ, ◌-◌, Bool, false, not, ◌||◌, if◌then◌else◌, nat_eq, length, List, [], ◌∷◌, Option, Some, None, slice_get}
use Rattle.std.specs.List.{list_any}
use Rattle.pml_program.specs.declared.program.Seq.{Seq}
use Rattle.promela_process.specs.Control.{Control}
use Rattle.promela_process.specs.Offers.{Offer}
use Rattle.promela_process.specs.Expressions.{Reading}
use Rattle.promela_run.specs.declared.live_channel.LiveChannel.{LiveChannel}
use Rattle.promela_run.specs.declared.moves.Pick.{Pick}
use Rattle.promela_run.specs.declared.moves.Move.{Move}
use Rattle.promela_run.specs.declared.moves.Move.TheVariants.{Death, Alone, Pair}
use Rattle.promela_run.specs.State.{Stand, State, reads, body_of, levels_in}
use Rattle.promela_run.specs.Moves.{or_else, each, is_some, pick, moves_held, moves_under, moves}
use Rattle.view_waits.specs.declared.because.Because.{Because}
use Rattle.view_waits.specs.declared.because.Because.TheVariants as why
use Rattle.view_waits.specs.declared.waits.Wait.{Wait}
use Rattle.view_waits.specs.Because.{because}

-- whether a process takes part in a move
abbrev pub takes_part : ℕ → Move → Bool
takes_part p (Death q) = nat_eq q p
takes_part p (Alone k t) = nat_eq k.process p
takes_part p (Pair k j t) = nat_eq k.process p || nat_eq j.process p

-- whether it takes part in one of these
abbrev pub is_in : ℕ → List Move → Bool
is_in p ms = list_any (takes_part p) ms

-- the process that has exclusive control, where it has a move
abbrev pub in_control : State → Option ℕ
in_control s = if is_some (moves_held s s.holder) then s.holder else None

-- the `timeout` under which moves are searched for last: 1 where there are none without it
abbrev pub last_timeout : State → Bool
last_timeout s = not (is_some (or_else (moves_held s s.holder) (moves_under s false)))

-- an offer with the reason that is given for it, under the `timeout` of what it reads
abbrev pub wait_of : List LiveChannel → Reading → Pick → Offer → Wait
wait_of cs r k o = record { pick = Some k; because = because cs r o.basic; timeout = r.timeout }

-- those of a level of process p
abbrev pub waits_on : List LiveChannel → Reading → ℕ → ℕ → List Offer → List Wait
waits_on cs r p l os = each (λ i o. wait_of cs r (pick p l i) o ∷ []) 0 os

-- those of all levels
abbrev pub waits_down : List LiveChannel → Reading → ℕ → List (List Offer) → List Wait
waits_down cs r p ls = each (waits_on cs r p) 0 ls

-- what has no offer: its death, or its turn
abbrev pub alone : Because → Wait
alone b = record { pick = None; because = b; timeout = false }

-- At the closing brace a process waits for the death of the youngest, elsewhere for each of its offers.
abbrev pub waits_left : State → Bool → ℕ → Option Seq → Control → List Wait
waits_left s t p b [] = alone (why.Younger (length s.stands - 1)) ∷ []
waits_left s t p b (f ∷ c) = waits_down s.channels (reads s p t) p (levels_in b (f ∷ c))

abbrev pub waits_at : State → Bool → ℕ → Option Stand → List Wait
waits_at s t p None = []
waits_at s t p (Some y) = waits_left s t p (body_of s.program y.sort) y.control

-- where it stands
abbrev pub waits_here : State → Bool → ℕ → List Wait
waits_here s t p = waits_at s t p (slice_get s.stands p)

-- its turn comes behind the process that has exclusive control
abbrev pub waits_behind : State → ℕ → Option ℕ → List Wait
waits_behind s p (Some h) = alone (why.Held h) ∷ []
waits_behind s p None = waits_here s (last_timeout s) p

-- What a process waits for: nothing, where it takes part in a move.
abbrev pub waits : State → ℕ → List Wait
waits s p = if is_in p (moves s) then [] else waits_behind s p (in_control s)
