-- Three small machines: a process that sets a variable for some rounds, two processes, and a countdown.
use Rattle.std.specs.Prelude.{ℕ, ◌+◌, ◌-◌, ◌==◌, ◌&&◌, ◌||◌, not, List, [], ◌∷◌, ◌++◌, Bool, true, false, Option, Some, None, nat_lt, min, if◌then◌else◌, codes}
use Rattle.diagnostics.specs.declared.fault.Fault.TheVariants as fault
use Rattle.promela_machine.specs.Machine.{Rules, Outcome, Stopped, Goes, Faults}
use Rattle.test_code.specs.declared.sample.SettingRounds.{SettingRounds}
use Rattle.test_code.specs.declared.sample.ProcessPair.{ProcessPair}
use Rattle.test_code.specs.declared.sample.Sample.{Sample}
use Rattle.test_code.specs.declared.sample.Sample.TheVariants as sample

-- what can be done
abbrev pub moves_of : Sample → List ℕ
moves_of (sample.Rounds r) = if r.endless || nat_lt 0 r.left then 1 ∷ 2 ∷ [] else (if r.dead then [] else 3 ∷ [])
moves_of (sample.Pair p) = (if (p.a == 0) || ((p.a == 1) && (p.b == 2)) then 1 ∷ [] else []) ++ (if nat_lt p.b 2 then 2 ∷ [] else [])
moves_of (sample.Stopped m why) = []
moves_of (sample.Countdown n) = (if nat_lt 0 n then 1 ∷ [] else []) ++ (if nat_lt 1 n then 2 ∷ [] else [])

-- what a move of a process in rounds leads to
abbrev pub rounds_next : SettingRounds → ℕ → SettingRounds
rounds_next r m = if m == 3 then record { endless = r.endless; left = r.left; x = r.x; changed = false; dead = true }
    else record { endless = r.endless; left = r.left - 1; x = m; changed = not (r.x == m); dead = r.dead }

-- what a move of one of two processes leads to
abbrev pub pair_next : ProcessPair → ℕ → ProcessPair
pair_next p m = if m == 1 then record { a = min (p.a + 1) 255; b = p.b } else record { a = p.a; b = min (p.b + 1) 255 }

-- what a move leads to
abbrev pub step_of : Sample → ℕ → Outcome Sample
step_of (sample.Rounds r) m = Goes (sample.Rounds (rounds_next r m)) []
step_of (sample.Pair p) m = Goes (sample.Pair (pair_next p m)) []
step_of (sample.Countdown n) m = if (n == 2) && (m == 2) then Faults fault.ZeroDivisor else Goes (sample.Countdown (n - m)) (codes "*")
step_of (sample.Stopped m why) n = Goes (sample.Stopped m why) []

-- the move that a countdown has stopped at, and why
abbrev pub stopped_of : Sample → Option (Stopped ℕ)
stopped_of (sample.Stopped m why) = Some (record { move = m; why = why })
stopped_of (sample.Rounds r) = None
stopped_of (sample.Pair p) = None
stopped_of (sample.Countdown n) = None

-- the text of a move
abbrev pub text_of : Sample → ℕ → List ℕ
text_of (sample.Rounds r) m =
    if m == 1 then codes "proc 0 (:init:) line 1 [x = 1]"
    else (if m == 2 then codes "proc 0 (:init:) line 1 [x = 2]" else codes "proc 0 (:init:) line 1 [-end-]")
text_of (sample.Pair p) m = if m == 1 then (if p.a == 0 then codes "proc 0 (A) line 2 [x = 1]" else codes "proc 0 (A) line 2 [-end-]")
    else (if p.b == 0 then codes "proc 1 (B) line 3 [y = 2]" else codes "proc 1 (B) line 3 [-end-]")
text_of (sample.Countdown n) m = if m == 1 then codes "1" else codes "2"
text_of (sample.Stopped n why) m = if m == 1 then codes "1" else codes "2"

-- the process and the line of a move
abbrev pub origin_of : Sample → ℕ → ℕ × ℕ
origin_of (sample.Rounds r) m = (0, 1)
origin_of (sample.Pair p) m = if m == 1 then (0, 2) else (1, 3)
origin_of (sample.Countdown n) m = (0, m)
origin_of (sample.Stopped n why) m = (0, m)

-- the value lines of the last step
abbrev pub values_of : Sample → Bool → Bool → List ℕ
values_of (sample.Rounds r) globals locals = if globals && r.changed then (if r.x == 1 then codes "global x = 1\n" else codes "global x = 2\n") else []
values_of (sample.Pair p) globals locals = []
values_of (sample.Countdown n) globals locals = []
values_of (sample.Stopped n why) globals locals = []

-- the samples as machines
abbrev pub sample_rules : Rules Sample ℕ
sample_rules = record { moves = moves_of; step = step_of; stopped = stopped_of; text = text_of; origin = origin_of; values = values_of; is_valid = λ s. true; stuck = λ s. [] }
