-- What is found of bodies is found of their model.
use Rattle.std.proofs.Common.{ℕ, ◌≤◌, Bool, true, false, List, length}
use Rattle.pml_program.specs.declared.program.Proctype.{Proctype}
use Rattle.promela_process.specs.Control.{Circle, SettlesEverywhere, BadFirstPoint, FirstPointsFit}
use Rattle.pml_control.specs.Decides.{DecidesCircle, DecidesFirstPoint}
use Rattle.pml_check.specs.Decided.{DecidesCircles, DecidesSteps}
use Rattle.pml_check.proofs.Looking.{SoFar, Here, all_of}

-- of one body
pub circle_here : (p : Proctype) (b : Bool) → DecidesCircle p.body b → Here (λ (q : Proctype). Circle q.body) (λ (q : Proctype). SettlesEverywhere q.body) p b
circle_here p true h = h
circle_here p false h = h

pub point_here : (p : Proctype) (b : Bool) → DecidesFirstPoint p.body b → Here (λ (q : Proctype). BadFirstPoint q.body) (λ (q : Proctype). FirstPointsFit q.body) p b
point_here p true h = h
point_here p false h = h

-- of all bodies
pub circles_of : (b : Bool) (ps : List Proctype) (i : ℕ) → length ps ≤ i → SoFar (λ (q : Proctype). Circle q.body) (λ (q : Proctype). SettlesEverywhere q.body) ps i b → DecidesCircles b ps
circles_of true ps i l h = h
circles_of false ps i l h = all_of (λ (q : Proctype). SettlesEverywhere q.body) ps i l h

pub steps_of : (b : Bool) (ps : List Proctype) (i : ℕ) → length ps ≤ i → SoFar (λ (q : Proctype). BadFirstPoint q.body) (λ (q : Proctype). FirstPointsFit q.body) ps i b → DecidesSteps b ps
steps_of true ps i l h = h
steps_of false ps i l h = all_of (λ (q : Proctype). FirstPointsFit q.body) ps i l h
