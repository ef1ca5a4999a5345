-- What a variable of a type keeps of a number, and the operators on signed numbers of 32 bits.
-- Hold it against the pages `datatypes` and `grammar`; the operators of C on numbers of 32 bits.
use Rattle.std.specs.Prelude.{ℕ, min, nat_le, ◌-◌, ◌%◌, ◌^◌, Bool, true, false, if◌then◌else◌, nat_lt, ℤ, pos, negsuc, ◌-ℤ◌, not, ◌&&◌, Option, Some, None, ◌+ℤ◌, ◌*ℤ◌, neg_ℤ, int_lt, int_le, int_rem, Result, Ok, Err}
use Rattle.pml_program.specs.declared.form.Form.{Form}
use Rattle.pml_program.specs.declared.form.Form.TheVariants.{Plain, Unsigned}
use Rattle.pml_tree.specs.declared.tree.Scalar.{Scalar}
use Rattle.pml_tree.specs.declared.tree.Scalar.TheVariants as word
use Rattle.std.specs.Int.{w32, int_wrap, int_wrapping_div, int_bit_and, int_bit_or, int_bit_xor, int_bit_not, int_shl, int_shr}
use Rattle.std.specs.Ordering.{int_eq}
use Rattle.pml_tree.specs.declared.tree.Prefix.{Prefix}
use Rattle.pml_tree.specs.declared.tree.Prefix.TheVariants as before
use Rattle.pml_tree.specs.declared.tree.Infix.{Infix}
use Rattle.pml_tree.specs.declared.tree.Infix.TheVariants as op
use Rattle.diagnostics.specs.declared.fault.Fault.{Fault}
use Rattle.diagnostics.specs.declared.fault.Fault.TheVariants.{ZeroDivisor}

-- how many bits a variable of a type has: 8, where nothing else stands
abbrev pub bits_of_word : Scalar → ℕ
bits_of_word word.Bit = 1
bits_of_word word.Bool = 1
bits_of_word word.Short = 16
bits_of_word word.Int = 32
bits_of_word _ = 8

-- at most 32 (no plain variable is of a typedef, or of a name that is none)
unfoldable pub bits_of : Form → ℕ
bits_of (Plain t) = bits_of_word t
bits_of (Unsigned width) = min width 32
bits_of _ = 32

-- a `short` and an `int` have a sign
abbrev pub is_word_signed : Scalar → Bool
is_word_signed word.Short = true
is_word_signed word.Int = true
is_word_signed _ = false

-- 32 bits are read with a sign
unfoldable pub is_signed : Form → Bool
is_signed (Plain t) = is_word_signed t
is_signed (Unsigned width) = nat_le 32 width
is_signed _ = true

-- the least number that v differs from by a multiple of 2 ^ n
abbrev pub residue : ℕ → ℤ → ℕ
residue n (pos a) = a % 2 ^ n
residue n (negsuc a) = 2 ^ n - 1 - a % 2 ^ n

-- with a sign, the upper half stands for the numbers below 0
abbrev pub signed_part : Bool → ℕ → ℕ → ℤ
signed_part false n low = pos low
signed_part true n low = if nat_lt low (2 ^ (n - 1)) then pos low else pos low -ℤ pos (2 ^ n)

-- what a variable of a type keeps of a number
abbrev pub clipped : Form → ℤ → ℤ
clipped form v = signed_part (is_signed form) (bits_of form) (residue (bits_of form) v)

-- ---- operators

-- a truth is 1 or 0
abbrev pub truth_number : Bool → ℤ
truth_number true = pos 1
truth_number false = pos 0

-- a number is 0
abbrev pub is_zero : ℤ → Bool
is_zero v = int_eq v (pos 0)

-- what is left of a result in 32 bits
abbrev pub wrapped : ℤ → ℤ
wrapped v = int_wrap w32 v

-- what an operator before a number makes of it
abbrev pub prefixed : Prefix → ℤ → ℤ
prefixed before.Not v = truth_number (is_zero v)
prefixed before.Complement v = int_bit_not w32 v
prefixed before.Minus v = wrapped (neg_ℤ v)

-- a count of places outside 0 to 31 leaves 0
abbrev pub shifted_left : ℤ → ℤ → ℤ
shifted_left a (pos k) = if nat_lt k 32 then int_shl w32 a k else pos 0
shifted_left a (negsuc k) = pos 0

-- by a number from 0 to 31 the sign stays in front; by any other 0 is left
abbrev pub shifted_right : ℤ → ℤ → ℤ
shifted_right a (pos k) = if nat_lt k 32 then int_shr a k else pos 0
shifted_right a (negsuc k) = pos 0

-- division rounds towards zero; the least number divided by -1 is itself, as the quotient wraps
abbrev pub infixed : Infix → ℤ → ℤ → Result ℤ Fault
infixed op.Times a b = Ok (wrapped (a *ℤ b))
infixed op.Divide a b = if is_zero b then Err ZeroDivisor else Ok (int_wrapping_div w32 a b)
infixed op.Remainder a b = if is_zero b then Err ZeroDivisor else Ok (int_rem a b)
infixed op.Plus a b = Ok (wrapped (a +ℤ b))
infixed op.Minus a b = Ok (wrapped (a -ℤ b))
infixed op.ShiftLeft a b = Ok (shifted_left a b)
infixed op.ShiftRight a b = Ok (shifted_right a b)
infixed op.Below a b = Ok (truth_number (int_lt a b))
infixed op.AtMost a b = Ok (truth_number (int_le a b))
infixed op.Above a b = Ok (truth_number (int_lt b a))
infixed op.AtLeast a b = Ok (truth_number (int_le b a))
infixed op.Equal a b = Ok (truth_number (int_eq a b))
infixed op.Unequal a b = Ok (truth_number (not (int_eq a b)))
infixed op.BitAnd a b = Ok (int_bit_and w32 a b)
infixed op.BitXor a b = Ok (int_bit_xor w32 a b)
infixed op.BitOr a b = Ok (int_bit_or w32 a b)
-- of numbers that are both there already
infixed op.And a b = Ok (truth_number (not (is_zero a) && not (is_zero b)))
infixed op.Or a b = Ok (truth_number (not (is_zero a && is_zero b)))

-- ---- the right operand is evaluated only where the left one does not decide

-- what the left side of `&&` and `||` decides alone, if it does
abbrev pub decided : Infix → ℤ → Option ℤ
decided op.And a = if is_zero a then Some (pos 0) else None
decided op.Or a = if is_zero a then None else Some (pos 1)
decided _ a = None
