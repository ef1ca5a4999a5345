-- Who is stuck: by lines, and by numbers of processes.
use Rattle.std.proofs.Common.{◌≡◌, ℕ, zero, suc, ◌+◌, Bool, true, false, List, [], ◌∷◌, ◌++◌, Option, Some, None, refl, ap, ◌∙◌}
use Rattle.std.specs.Prelude.{◌&&◌, if◌then◌else◌, option_map, slice_get}
use Rattle.std.specs.List.{list_all}
use Rattle.std.specs.Option.{option_map_or}
use Rattle.std.proofs.lemmas.Bool.{false≢true}
use Rattle.pml_program.specs.declared.program.Program.{Program}
use Rattle.pml_program.specs.declared.program.Proctype.{Proctype}
use Rattle.promela_process.specs.Control.{Control}
use Rattle.promela_process.specs.Offers.{line_at}
use Rattle.promela_run.specs.Lines.{proctype_name}
use Rattle.promela_run.specs.State.{State, Stand}
use Rattle.promela_run.specs.Moves.{each}
use Rattle.promela_run.specs.World.{may_end, is_done, stuck_at}
use Rattle.run_texts.specs.Staying.{stuck_by, stuck_in, stuck_place}
use Rattle.run_laws.specs.Stuck.{told_of, told_from}

told_if : (p : ℕ) (b : Bool) (x : List ℕ × ℕ) → (if b then [] else told_of p (Some x)) ≡ told_of p (if b then None else Some x)
told_if p true x = refl
told_if p false x = refl

-- the line of a process is told of who is stuck
line_is : (p : ℕ) (q : Option Proctype) (c : Control) → stuck_at p q c ≡ told_of p (stuck_in q c)
line_is p None c = refl
line_is p (Some q) c = told_if p (may_end q.body c) (proctype_name q.name, line_at q.body q.end.line c)

pub lines_are : (s : State) (p : ℕ) (ys : List Stand) → each (stuck_by s.program) p ys ≡ told_from s p ys
lines_are s p [] = refl
lines_are s p (y ∷ ys) =
    ap (λ (l : List ℕ). l ++ each (stuck_by s.program) (p + 1) ys) (line_is p (slice_get s.program.proctypes y.sort) y.control)
    ∙ ap (λ (l : List ℕ). told_of p (stuck_place s.program (Some y)) ++ l) (lines_are s (p + 1) ys)

first_of : (a b : Bool) → (a && b) ≡ true → a ≡ true
first_of true b h = refl
first_of false b h = h

second_of : (a b : Bool) → (a && b) ≡ true → b ≡ true
second_of true b h = h
second_of false b h = absurd (false≢true h)

both_of : (a b : Bool) → a ≡ true → b ≡ true → (a && b) ≡ true
both_of a b h k = rw (h, k) refl

none_if : {X : Type 0} (b : Bool) (x : X) → (if b then None else Some x) ≡ None → b ≡ true
none_if true x h = refl
none_if false x h = search

-- who may end is not stuck
not_stuck : (q : Option Proctype) (c : Control) → option_map_or (λ b. may_end b c) (option_map (λ r. r.body) q) true ≡ true → stuck_in q c ≡ None
not_stuck None c h = refl
not_stuck (Some q) c h = rw h refl

-- and who is not stuck may end
may_end_there : (q : Option Proctype) (c : Control) → stuck_in q c ≡ None → option_map_or (λ b. may_end b c) (option_map (λ r. r.body) q) true ≡ true
may_end_there None c h = refl
may_end_there (Some q) c h = none_if (may_end q.body c) (proctype_name q.name, line_at q.body q.end.line c) h

pub nobody : (pr : Program) (ys : List Stand) (p : ℕ) → list_all (is_done pr) ys ≡ true → stuck_place pr (slice_get ys p) ≡ None
nobody pr [] p h = refl
nobody pr (y ∷ ys) zero h = not_stuck (slice_get pr.proctypes y.sort) y.control (first_of (is_done pr y) (list_all (is_done pr) ys) h)
nobody pr (y ∷ ys) (suc p) h = nobody pr ys p (second_of (is_done pr y) (list_all (is_done pr) ys) h)

pub all_done : (pr : Program) (ys : List Stand) → ((p : ℕ) → stuck_place pr (slice_get ys p) ≡ None) → list_all (is_done pr) ys ≡ true
all_done pr [] h = refl
all_done pr (y ∷ ys) h = both_of (is_done pr y) (list_all (is_done pr) ys) (may_end_there (slice_get pr.proctypes y.sort) y.control (h 0)) (all_done pr ys (λ p. h (suc p)))
