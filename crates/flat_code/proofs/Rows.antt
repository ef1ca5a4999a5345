-- Rows: what wide code is worth over six cells, where those of the process with the number 1 begin at the fourth.
use Rattle.std.proofs.Common.{◌≡◌, ℕ, List, [], ◌∷◌, ℤ, pos, negsuc, true, Some, None, Ok, Err, refl}
use Rattle.diagnostics.specs.declared.fault.Fault.TheVariants.{IndexOutOfRange, ZeroDivisor}
use Rattle.pml_tree.specs.declared.tree.Infix.TheVariants as op
use Rattle.pml_tree.specs.declared.tree.Scalar.TheVariants.{Byte}
use Rattle.promela_process.specs.Numbers.{bits_of, is_signed}
use Rattle.flat_code.specs.declared.code.FlatCell.TheVariants.{Global, Local}
use Rattle.flat_code.specs.declared.code.FlatCode.TheVariants.{No, Ask}
use Rattle.flat_code.specs.declared.code.FlatWorth.TheVariants as flat
use Rattle.flat_code.specs.declared.code.Operand.TheVariants as operand
use Rattle.flat_code.specs.declared.wide.WideIndex.{WideIndex}
use Rattle.flat_code.specs.declared.wide.WideIndex.TheVariants as index
use Rattle.flat_code.specs.declared.wide.FlatElement.{FlatElement}
use Rattle.flat_code.specs.declared.wide.WideCell.TheVariants.{Cell, Element}
use Rattle.flat_code.specs.declared.wide.WideOperand.TheVariants.{Number, Pid, Held}
use Rattle.flat_code.specs.declared.wide.WideWorth.TheVariants.{Plain, Pair}
use Rattle.flat_code.specs.declared.wide.WideCode.{WideCode}
use Rattle.flat_code.specs.declared.wide.WideCode.TheVariants as wide
use Rattle.flat_code.specs.Flat.{number}
use Rattle.flat_code.specs.Wide.{element_at, wide_number, wide_store, wide_ready, wide_of, with_wide}

-- a global array of three, and three local variables: 2, 3 and 0
abbrev cells : List ℤ
cells = pos 7 ∷ pos 8 ∷ pos 300 ∷ pos 2 ∷ pos 3 ∷ pos 0 ∷ []

abbrev element : WideIndex → FlatElement
element x = record { first = Global 0; length = 3; index = x }

abbrev by : ℕ → WideIndex
by i = index.Worth (flat.Plain (operand.Local i))

-- a local variable is counted from the first of the process
a_local : number cells 3 (operand.Local 1) ≡ pos 3
a_local = refl

-- the last element, and the one behind it
the_last : element_at cells 3 (pos 1) (element (by 0)) ≡ Ok 2
the_last = refl

behind_the_last : element_at cells 3 (pos 1) (element (by 1)) ≡ Err IndexOutOfRange
behind_the_last = refl

-- an index below 0, and one without a value
below_the_first : element_at cells 3 (pos 1) (element (index.Worth (flat.Plain (operand.Number (negsuc 0))))) ≡ Err IndexOutOfRange
below_the_first = refl

no_index : element_at cells 3 (pos 1) (element (index.Worth (flat.Pair op.Divide (operand.Local 0) (operand.Local 2)))) ≡ Err ZeroDivisor
no_index = refl

-- the element of the process
own_element : wide_number cells 3 (pos 1) (Held (Element (element index.Pid))) ≡ Ok (pos 8)
own_element = refl

-- what an element holds is stored in one, as the type keeps it
stored : wide_store cells 3 (pos 1) (wide.Set Byte (Element (element index.Pid)) (Plain (Held (Element (element (by 0))))))
    ≡ Ok (Some (record { at = 1; number = pos 44 }))
unfolding bits_of is_signed
stored = refl

-- the value is asked before the element that it goes to
the_value_first : wide_store cells 3 (pos 1) (wide.Set Byte (Element (element (by 1))) (Pair op.Divide (Number (pos 1)) (Held (Cell (Local 2))))) ≡ Err ZeroDivisor
the_value_first = refl

then_its_place : wide_store cells 3 (pos 1) (wide.Set Byte (Element (element (by 1))) (Plain (Number (pos 1)))) ≡ Err IndexOutOfRange
then_its_place = refl

-- where the left operand decides, the right one has no fault
left_decides : wide_ready cells 3 (pos 1) (wide.Ask (Pair op.Or (Held (Cell (Local 0))) (Held (Element (element (by 1)))))) ≡ Ok true
left_decides = refl

right_asked : wide_ready cells 3 (pos 1) (wide.Ask (Pair op.And (Held (Cell (Local 0))) (Held (Element (element (by 1)))))) ≡ Err IndexOutOfRange
right_asked = refl

-- a code names the wide code that was added with it
abbrev asks_pid : WideCode
asks_pid = wide.Ask (Plain Pid)

named : wide_of (with_wide (record { codes = No ∷ Ask (flat.Plain (operand.Number (pos 1))) ∷ []; wide = [] }) asks_pid) 2 ≡ Some asks_pid
named = refl

not_named : wide_of (with_wide (record { codes = No ∷ []; wide = [] }) asks_pid) 0 ≡ None
not_named = refl
