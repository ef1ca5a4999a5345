-- What is asked of a tree.
use Rattle.std.specs.Prelude.{◌≡◌}
use Rattle.pml_tree.specs.declared.tree.Tree.{Tree}
use Rattle.promela_model.specs.Marks.{of_tree}
use Rattle.check_resolve.specs.Model.{numbered_model}
use Rattle.pml_control.specs.Plan.{ArePlans}
use Rattle.pml_check.specs.Broken.{AreBroken}
use Rattle.pml_check.specs.Decided.{DecidesCircles, DecidesSteps}
use Rattle.pml_check.specs.declared.subject.Subject.{Subject}

-- which conditions are broken on the marks of a tree, its numbered model, the plans of its bodies, and what is found of their control
pub record IsSubject (t : Tree) (s : Subject) : Type 0 where
  pub broken : AreBroken (of_tree t) s.broken
  pub program : s.program ≡ numbered_model t
  pub circles : DecidesCircles s.control.circle (numbered_model t).proctypes
  pub steps : DecidesSteps s.control.bad_first_point (numbered_model t).proctypes
  pub plans : ArePlans (numbered_model t).proctypes s.plans.items
