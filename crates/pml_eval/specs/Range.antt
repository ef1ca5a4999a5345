-- What is kept of a number, by the range of its type.
use Rattle.std.specs.Prelude.{◌≡◌, ℕ, ◌-◌, ◌*◌, ◌^◌, Bool, true, false, ℤ, pos, ◌+ℤ◌, ◌≤ℤ◌, ◌<ℤ◌, neg_ℤ}
use Rattle.pml_program.specs.declared.form.Form.{Form}
use Rattle.promela_process.specs.Numbers.{bits_of, is_signed}

-- the numbers of n bits, with a sign or without
abbrev pub InBits : Bool → ℕ → ℤ → Type 0
InBits false n r = (pos 0 ≤ℤ r) × (r <ℤ pos (2 ^ n))
InBits true n r = (neg_ℤ (pos (2 ^ (n - 1))) ≤ℤ r) × (r <ℤ pos (2 ^ (n - 1)))

-- v and r differ by a multiple of d
abbrev pub Differ : ℕ → ℤ → ℤ → Type 0
Differ d v r = (j : ℕ) × (k : ℕ) × (v +ℤ pos (j * d) ≡ r +ℤ pos (k * d))

-- r is in the type's range, and differs from v by a multiple of 2 ^ n
pub record IsClip (form : Form) (v r : ℤ) : Type 0 where
  pub range : InBits (is_signed form) (bits_of form) r
  pub differ : Differ (2 ^ bits_of form) v r
