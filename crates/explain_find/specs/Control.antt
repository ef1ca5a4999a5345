-- Where a condition on control is told.
use Rattle.std.specs.Prelude.{◌≡◌, Some}
use Rattle.pml_tree.specs.declared.tree.Tree.{Tree}
use Rattle.check_resolve.specs.Model.{numbered_model}
use Rattle.explain_control.specs.declared.body.BadFirstPoint.{BadFirstPoint}
use Rattle.explain_control.specs.declared.body.Circle.{Circle}
use Rattle.explain_control.specs.Blamed.{IsBlamedStepIn, IsBlamedCircleIn}
use Rattle.explain_cause.specs.declared.cause.Segment.{Segment}

-- the first d_step of the tree's model with a bad first point begins with the statement that stands there
pub record IsOfStep (t : Tree) (p : Segment) : Type 0 where
  pub bad : BadFirstPoint
  pub blamed : IsBlamedStepIn (numbered_model t).proctypes bad
  pub there : bad.point ≡ Some p.offset

-- the goto of a circle in the tree's model stands there
pub record IsOfCircle (t : Tree) (p : Segment) : Type 0 where
  pub circle : Circle
  pub blamed : IsBlamedCircleIn (numbered_model t).proctypes circle
  pub there : circle.goto ≡ Some p.offset
