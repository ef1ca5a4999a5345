-- The plan of a body: its positions by numbers, and what is found of its control.
use Rattle.std.specs.Prelude.{◌≡◌, ℕ, List, Option, length, slice_get, Some}
use Rattle.pml_program.specs.declared.program.Seq.{Seq}
use Rattle.pml_program.specs.declared.program.Proctype.{Proctype}
use Rattle.pml_control.specs.declared.ends.Ending.{Ending}
use Rattle.pml_control.specs.declared.findings.Findings.{Findings}
use Rattle.pml_control.specs.Ends.{AreEnds}
use Rattle.pml_control.specs.Graph.{posts_of, nexts}

-- Of each numbered position the one that settling goes on to, if any, and where settling ends.
pub record Plan : Type 0 where
  pub next : List (Option ℕ)
  pub ends : List Ending
  pub findings : Findings

pub record IsPlan (b : Seq) (p : Plan) : Type 0 where
  pub next : p.next ≡ nexts (posts_of b)
  pub ends : AreEnds (nexts (posts_of b)) p.ends

-- those of the bodies of proctypes, in their order
pub record ArePlans (ps : List Proctype) (xs : List Plan) : Type 0 where
  pub many : length xs ≡ length ps
  pub each : (k : ℕ) (p : Proctype) (x : Plan) → slice_get ps k ≡ Some p → slice_get xs k ≡ Some x → IsPlan p.body x
