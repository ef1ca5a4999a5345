-- Where numbers go that are stored.
use Rattle.std.specs.Prelude.{List}
use Rattle.std.specs.List.{AllByRecursion}
use Rattle.promela_process.specs.Store.{Frame}
use Rattle.promela_run.specs.declared.goes.Goes.{Goes}
use Rattle.pml_value.specs.Takes.{IsIn}

-- each goes to a cell that is there
abbrev pub AreIn : List Frame → List Goes → Type 0
AreIn frames = AllByRecursion (IsIn frames)
