-- The numbers of faults and refusals.
-- Hold it against docs/REFUSALS.md.
use Rattle.std.specs.Prelude.{ℕ}
use Rattle.diagnostics.specs.declared.fault.Fault.{Fault}
use Rattle.diagnostics.specs.declared.fault.Fault.TheVariants as fault
use Rattle.diagnostics.specs.declared.refusal.Refusal.{Refusal}
use Rattle.diagnostics.specs.declared.refusal.Refusal.TheVariants as refusal

-- the number of a fault
abbrev pub fault_number : Fault → ℕ
fault_number fault.AssertionViolated = 1
fault_number fault.ZeroDivisor = 2
fault_number fault.IndexOutOfRange = 3
fault_number fault.NoSuchChannel = 4
fault_number fault.WrongNumberOfFields = 5
fault_number fault.TooManyChannels = 6
fault_number fault.DStepBlocks = 7
fault_number fault.DStepTooLong = 8

-- the number of a refusal
abbrev pub refusal_number : Refusal → ℕ
refusal_number refusal.TextTooLong = 1
refusal_number refusal.Lexical = 2
refusal_number refusal.LeftOut = 3
refusal_number refusal.TooDeep = 4
refusal_number refusal.Syntax = 5
refusal_number refusal.NameTwice = 6
refusal_number refusal.UnknownName = 7
refusal_number refusal.WrongKind = 8
refusal_number refusal.ArgumentCount = 9
refusal_number refusal.Label = 10
refusal_number refusal.BreakOutsideDo = 11
refusal_number refusal.DStep = 12
refusal_number refusal.CircleOfGotos = 13
refusal_number refusal.NumberOutOfRange = 14
refusal_number refusal.TooManyCells = 15
refusal_number refusal.NoProcess = 16
refusal_number refusal.TooManyAtStart = 17
refusal_number refusal.Initialiser = 18
refusal_number refusal.Inline = 19
