-- An answer to what is asked of control.
use Rattle.std.specs.Prelude.{Bool, true, false}
use Rattle.pml_program.specs.declared.program.Seq.{Seq}
use Rattle.promela_process.specs.Control.{SettlesEverywhere, Circle, BadFirstPoint, FirstPointsFit}

-- a circle is there, or settling ends everywhere
abbrev pub DecidesCircle : Seq → Bool → Type 0
DecidesCircle b true = Circle b
DecidesCircle b false = SettlesEverywhere b

-- some first point is bad, or each fits
abbrev pub DecidesFirstPoint : Seq → Bool → Type 0
DecidesFirstPoint b true = BadFirstPoint b
DecidesFirstPoint b false = FirstPointsFit b
