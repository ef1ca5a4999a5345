-- The least fault of tokens, and the lines that faults name.
use Rattle.std.specs.Prelude.{ℕ, List}
use Rattle.pml_token.specs.Word.{Word}
use Rattle.promela_text.specs.Tokens.{IsOnLine}
use Rattle.promela_text.specs.declared.inline_fault.InlineError.{InlineError}
use Rattle.promela_text.specs.declared.inline_fault.InlineError.TheVariants.{Memory, Inline as Misused, TooDeep}
use Rattle.promela_text.specs.Inlines.{Expands, GoesTooDeep}

-- the fault is the least that applies
abbrev pub IsLeast : List Word → InlineError → Type 0
IsLeast ts Memory = Unit {0}
IsLeast ts (Misused misuse) = (us : List Word) → Expands ts us → ⊥
IsLeast ts (TooDeep line limit) = GoesTooDeep ts

-- the line of what goes too deep is from 1 to `most`
abbrev pub IsFaultOnLine : ℕ → InlineError → Type 0
IsFaultOnLine most Memory = Unit {0}
IsFaultOnLine most (Misused misuse) = Unit {0}
IsFaultOnLine most (TooDeep line limit) = IsOnLine most line
