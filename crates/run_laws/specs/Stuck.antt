-- Who is stuck where a run does not end well, and what is told of them.
use Rattle.std.specs.Prelude.{◌≡◌, ℕ, true, List, [], ◌∷◌, ◌++◌, ◌+◌, Option, Some, None, codes}
use Rattle.std.specs.Fmt.{decimal}
use Rattle.profile.specs.Characters.{line_feed}
use Rattle.promela_run.specs.State.{State, Stand}
use Rattle.promela_run.specs.World.{is_valid, line, stuck}
use Rattle.run_texts.specs.Staying.{stuck_of, stuck_place}

-- `at: proc P (NAME) line L`, of a process that may not end where it stands
abbrev pub told_of : ℕ → Option (List ℕ × ℕ) → List ℕ
told_of p None = []
told_of p (Some x) = codes "at: " ++ ((codes "proc " ++ (decimal p ++ (codes " (" ++ (x.0 ++ codes ") ")))) ++ (line x.1 ++ line_feed ∷ []))

-- the lines of the processes from number p on, by who is stuck
abbrev pub told_from : State → ℕ → List Stand → List ℕ
told_from s p [] = []
told_from s p (y ∷ ys) = told_of p (stuck_place s.program (Some y)) ++ told_from s (p + 1) ys

-- the lines are those of the processes, in their order
abbrev pub LinesTellWhoIsStuck : Type 0
LinesTellWhoIsStuck = (s : State) → stuck s ≡ told_from s 0 s.stands

-- nobody is one that may not end where it stands
abbrev pub NobodyIsStuck : State → Type 0
NobodyIsStuck s = (p : ℕ) → stuck_of s p ≡ None

-- a run ends well exactly where nobody is stuck
pub record EndsWellWhere (s : State) : Type 0 where
  pub forth : is_valid s ≡ true → NobodyIsStuck s
  pub back : NobodyIsStuck s → is_valid s ≡ true

abbrev pub EndsWellWhereNobodyIsStuck : Type 0
EndsWellWhereNobodyIsStuck = (s : State) → EndsWellWhere s
