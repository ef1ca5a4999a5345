-- The words of faults and refusals.
-- Hold it against docs/REFUSALS.md.
use Rattle.std.specs.Prelude.{ℕ, List, codes}
use Rattle.diagnostics.specs.declared.fault.Fault.{Fault}
use Rattle.diagnostics.specs.declared.fault.Fault.TheVariants as fault
use Rattle.diagnostics.specs.declared.refusal.Refusal.{Refusal}
use Rattle.diagnostics.specs.declared.refusal.Refusal.TheVariants as refusal

-- what a fault's line says of it
abbrev pub fault_words : Fault → List ℕ
fault_words fault.AssertionViolated = codes "assertion violated"
fault_words fault.ZeroDivisor = codes "zero divisor"
fault_words fault.IndexOutOfRange = codes "index out of range"
fault_words fault.NoSuchChannel = codes "no such channel"
fault_words fault.WrongNumberOfFields = codes "wrong number of fields"
fault_words fault.TooManyChannels = codes "too many channels"
fault_words fault.DStepBlocks = codes "d_step blocks"
fault_words fault.DStepTooLong = codes "d_step too long"

-- what a refusal's line says of it
abbrev pub refusal_words : Refusal → List ℕ
refusal_words refusal.TextTooLong = codes "text too long"
refusal_words refusal.Lexical = codes "lexical"
refusal_words refusal.LeftOut = codes "left out"
refusal_words refusal.TooDeep = codes "too deep"
refusal_words refusal.Syntax = codes "syntax"
refusal_words refusal.NameTwice = codes "name twice"
refusal_words refusal.UnknownName = codes "unknown name"
refusal_words refusal.WrongKind = codes "wrong kind"
refusal_words refusal.ArgumentCount = codes "wrong number of arguments"
refusal_words refusal.Label = codes "label"
refusal_words refusal.BreakOutsideDo = codes "break outside do"
refusal_words refusal.DStep = codes "d_step"
refusal_words refusal.CircleOfGotos = codes "circle of gotos"
refusal_words refusal.NumberOutOfRange = codes "number out of range"
refusal_words refusal.TooManyCells = codes "too many cells"
refusal_words refusal.NoProcess = codes "no process"
refusal_words refusal.TooManyAtStart = codes "too many at the start"
refusal_words refusal.Initialiser = codes "initialiser"
refusal_words refusal.Inline = codes "inline"
