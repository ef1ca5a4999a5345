-- Where a number goes.
use Rattle.std.specs.Prelude.{◌<◌, List}
use Rattle.promela_process.specs.Store.{Frame, size_at}
use Rattle.promela_run.specs.declared.goes.Goes.{Goes}

-- a number goes to a cell of its variable, which has so many
abbrev pub IsIn : List Frame → Goes → Type 0
IsIn frames g = g.place.cell < size_at frames g.place.frame g.place.variable
