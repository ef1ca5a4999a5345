-- What a check answers, and what a checked model is.
use Rattle.std.specs.Prelude.{List}
use Rattle.pml_tree.specs.declared.tree.Tree.{Tree}
use Rattle.pml_program.specs.declared.program.Program.{Program}
use Rattle.promela_model.specs.StandsModel.{StandsModel}
use Rattle.run_start.specs.Bound.{IsWithin}
use Rattle.pml_flow.specs.Graph.{Graph, AreGraphs}
use Rattle.pml_check.specs.declared.checked.CheckFault.{CheckFault}
use Rattle.pml_check.specs.declared.checked.CheckFault.TheVariants as fault
use Rattle.promela_refusals.specs.Judged.{IsFit, IsLeast}
use Rattle.pml_check.specs.Fitted.{HasGoodStart}

-- memory ran out, or this is the least refusal that applies
abbrev pub IsRefused : Tree → CheckFault → Type 0
IsRefused t fault.Memory = Unit {0}
IsRefused t (fault.Refused x) = IsLeast t x

-- the model that a tree which fits all conditions stands for, within its limits, with a first state and the graphs of its proctypes
pub record IsChecked (p : Program) (gs : List Graph) : Type 0 where
  pub tree : Tree
  pub fits : IsFit tree
  pub stands : StandsModel tree p
  pub within : IsWithin p
  pub start : HasGoodStart p
  pub graphs : AreGraphs p.proctypes gs
