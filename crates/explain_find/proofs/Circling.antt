-- What follows of a circle that is told.
use Rattle.std.proofs.Common.{◌≡◌, ◌∙◌, ℕ, Option, Some, None, IfSome, ap, sym, subst}
use Rattle.pml_tree.specs.declared.tree.Tree.{Tree}
use Rattle.check_resolve.specs.Model.{numbered_model}
use Rattle.explain_control.specs.declared.body.Circle.{Circle}
use Rattle.explain_control.specs.Blamed.{IsBlamedCircleIn}
use Rattle.explain_cause.specs.declared.cause.Segment.{Segment}
use Rattle.explain_find.specs.Control.{IsOfCircle}

pub told_circle : (t : Tree) (o : Option Circle) (circle : Circle) (goto : ℕ) (q : Option Segment) → IfSome o (IsBlamedCircleIn (numbered_model t).proctypes)
    → o ≡ Some circle → circle.goto ≡ Some goto → IfSome q (λ p. p.offset ≡ goto) → IfSome q (IsOfCircle t)
told_circle t o circle goto None blamed is at here = tt
told_circle t o circle goto (Some p) blamed is at here = record {
  circle = circle;
  blamed = subst (λ (x : Option Circle). IfSome x (IsBlamedCircleIn (numbered_model t).proctypes)) is blamed;
  there = at ∙ ap Some (sym here);
}
