use Rattle.std.proofs.Common.{◌≡◌, ℕ, Some, length}
use Rattle.std.specs.Prelude.{slice_get}
use Rattle.pml_check.proofs.Looking.{SoFar}
use Rattle.pml_program.specs.declared.program.Proctype.{Proctype}
use Rattle.promela_process.specs.Control.{Circle, SettlesEverywhere, BadFirstPoint, FirstPointsFit}
use Rattle.pml_control.specs.Plan.{Plan, IsPlan}
use Rattle.pml_check.proofs.control.examine_all.Given as goal

-- what is found in those before, and their plans
abbrev pub invariant-loop-proctype : goal.invariant-loop-proctype
invariant-loop-proctype l = record {
  circle : SoFar (λ (p : Proctype). Circle p.body) (λ (p : Proctype). SettlesEverywhere p.body) l.proctypes l.proctype-index l.found.circle;
  first_point : SoFar (λ (p : Proctype). BadFirstPoint p.body) (λ (p : Proctype). FirstPointsFit p.body) l.proctypes l.proctype-index l.found.bad_first_point;
  many : length l.plans.items ≡ l.proctype-index;
  each : (k : ℕ) (p : Proctype) (x : Plan) → slice_get l.proctypes k ≡ Some p → slice_get l.plans.items k ≡ Some x → IsPlan p.body x;
}
