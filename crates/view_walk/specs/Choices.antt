-- Choices of moves by their numbers, and the states that they lead to.
use Rattle.std.specs.Prelude.{ℕ, zero, suc, Bool, ◌==◌, ◌&&◌, if◌then◌else◌, false, List, ◌∷◌, [], ◌++◌, length, take, slice_get, Option, Some, None}
use Rattle.promela_machine.specs.Machine.{Rules, Outcome, Goes, Faults}
use Rattle.view_walk.specs.declared.leg.Leg.{Leg}

-- the move with this number, counted from 1
abbrev pub numbered : {M : Type 0} → List M → ℕ → Option M
numbered ms zero = None
numbered ms (suc k) = slice_get ms k

-- the state that a step leads to, where it is no fault
abbrev pub after : {S : Type 0} → Outcome S → Option S
after (Goes t printed) = Some t
after (Faults f) = None

-- the state behind a move that is there
abbrev pub behind : {S M : Type 0} → Rules S M → S → Option M → Option S
behind rules s None = None
behind rules s (Some m) = after (rules.step s m)

-- the state behind a choice that is one of as many moves as the state has
abbrev pub chosen : {S M : Type 0} → Rules S M → S → Leg → Option S
chosen rules s t = if length (rules.moves s) == t.of then behind rules s (numbered (rules.moves s) t.choice) else None

-- what follows from a state that is there
abbrev pub on : {S : Type 0} → Option S → (S → Option S) → Option S
on None go = None
on (Some s) go = go s

-- the state behind choices, one behind another
abbrev pub led : {S : Type 0} → (S → Leg → Option S) → S → List Leg → Option S
led go s [] = Some s
led go s (t ∷ ts) = on (go s t) (λ u. led go u ts)

-- the state behind choices, from a state that is there
abbrev pub led_from : {S M : Type 0} → Rules S M → Option S → List Leg → Option S
led_from rules s ts = on s (λ u. led (chosen rules) u ts)

-- whether this choice is the next of those that are still to come
abbrev pub is_leg : Leg → Option Leg → Bool
is_leg t None = false
is_leg t (Some u) = (u.choice == t.choice) && (u.of == t.of)

-- The choices of a walk, of which so many stand, behind this one: those to come stay where it is the next of them.
abbrev pub with_leg : List Leg → ℕ → Leg → List Leg
with_leg ts at t = if is_leg t (slice_get ts at) then ts else take at ts ++ t ∷ []
