-- The clip of a number is the one number in the range that differs from it by a multiple.
use Rattle.std.proofs.Common.{◌≡◌, ℕ, zero, suc, ◌+◌, ◌-◌, ◌*◌, ◌/◌, ◌%◌, ◌^◌, ◌<◌, ◌≤◌, Bool, true, false, cond, refl, sym, ap, ◌∙◌, arith, ℤ, pos, negsuc, ◌+ℤ◌, ◌-ℤ◌, ◌≤ℤ◌, ◌<ℤ◌, neg_ℤ, nat_lt}
use Rattle.std.proofs.lemmas.Int.{ints}
use Rattle.std.proofs.lemmas.Nat.{pow_pos, mod-mul-add}
use Rattle.std.proofs.lemmas.Bool.{ltb-true, ltb-false, leb-true}
use Rattle.std.proofs.Math.Nat.{pow-suc}
use Rattle.std.proofs.Math.Numerals.{sub-one}
use Rattle.pml_program.specs.declared.form.Form.{Form}
use Rattle.pml_program.specs.declared.form.Form.TheVariants.{Plain, Unsigned, Struct, Unknown}
use Rattle.pml_tree.specs.declared.tree.Scalar.{Scalar}
use Rattle.pml_tree.specs.declared.tree.Scalar.TheVariants as word
use Rattle.promela_process.specs.Numbers.{bits_of, bits_of_word, is_signed, residue, signed_part, clipped}
use Rattle.pml_eval.specs.Range.{InBits, Differ, IsClip}

-- ---- it is there

residue_differs : (n : ℕ) (v : ℤ) → Differ (2 ^ n) v (pos (residue n v))
residue_differs n (pos a) = let p = pow_pos n in (0, a / 2 ^ n, omega (arith, ints))
residue_differs n (negsuc a) = let p = pow_pos n in (a / 2 ^ n + 1, 0, omega (arith, ints))

residue_below : (n : ℕ) (v : ℤ) → residue n v < 2 ^ n
residue_below n (pos a) = let p = pow_pos n in omega arith
residue_below n (negsuc a) = let p = pow_pos n in omega arith

-- a range of 2 ^ n has two halves
halves : (n : ℕ) → 1 ≤ n → 2 ^ n ≡ 2 ^ (n - 1) + 2 ^ (n - 1)
halves zero h = omega arith
halves (suc n) h = rw (sub-one, pow-suc) (omega arith)

lowered : (d low : ℕ) (v : ℤ) → Differ d v (pos low) → Differ d v (pos low -ℤ pos d)
lowered d low v h = let e = h.2 in (h.0, h.1 + 1, omega (arith, ints))

-- with a sign, below the half or from it on
signed_is : (b : Bool) (half d low : ℕ) (v : ℤ) → (b ≡ true → low < half) → (b ≡ false → half ≤ low) → d ≡ half + half → low < d → Differ d v (pos low) → ((neg_ℤ (pos half) ≤ℤ cond b (pos low) (pos low -ℤ pos d)) × (cond b (pos low) (pos low -ℤ pos d) <ℤ pos half)) × Differ d v (cond b (pos low) (pos low -ℤ pos d))
signed_is true half d low v y n e below h = let l : low < half = y refl in ((omega (arith, ints), omega (arith, ints)), h)
signed_is false half d low v y n e below h = let l : half ≤ low = n refl in ((omega (arith, ints), omega (arith, ints)), lowered d low v h)

placed_is : (b : Bool) (n low : ℕ) (v : ℤ) → (b ≡ true → 1 ≤ n) → low < 2 ^ n → Differ (2 ^ n) v (pos low) → InBits b n (signed_part b n low) × Differ (2 ^ n) v (signed_part b n low)
placed_is false n low v h below d = ((omega (arith, ints), omega (arith, ints)), d)
placed_is true n low v h below d = signed_is (nat_lt low (2 ^ (n - 1))) (2 ^ (n - 1)) (2 ^ n) low v (ltb-true _ _) (ltb-false _ _) (halves n (h refl)) below d

word_at_least : (t : Scalar) → 1 ≤ bits_of_word t
word_at_least word.Bit = omega arith
word_at_least word.Bool = omega arith
word_at_least word.Byte = omega arith
word_at_least word.Chan = omega arith
word_at_least word.Mtype = omega arith
word_at_least word.Pid = omega arith
word_at_least word.Short = omega arith
word_at_least word.Int = omega arith

-- a type with a sign has a bit for it
bits_at_least : (form : Form) → is_signed form ≡ true → 1 ≤ bits_of form
unfolding bits_of is_signed
bits_at_least (Plain t) h = word_at_least t
bits_at_least (Unsigned width) h = let l : 32 ≤ width = leb-true _ _ h in omega arith
bits_at_least (Struct o) h = omega arith
bits_at_least Unknown h = omega arith

pub IsClip-clipped : (form : Form) (v : ℤ) → IsClip form v (clipped form v)
IsClip-clipped form v =
    let p = placed_is (is_signed form) (bits_of form) (residue (bits_of form) v) v (bits_at_least form) (residue_below (bits_of form) v) (residue_differs (bits_of form) v) in
    record { range = p.0; differ = p.1 }

-- ---- there is no other

same_low : (d x y k m : ℕ) → x < d → y < d → k * d + x ≡ m * d + y → x ≡ y
same_low d x y k m p q e = sym (mod-mul-add k d x p) ∙ ap (λ n. n % d) e ∙ mod-mul-add m d y q

-- a number from -lo on, counted from there
lift : (r : ℤ) (lo hi : ℕ) → neg_ℤ (pos lo) ≤ℤ r → r <ℤ pos hi → (x : ℕ) × (r +ℤ pos lo ≡ pos x) × (x < lo + hi)
lift (pos a) lo hi p q = (a + lo, omega (arith, ints), omega (arith, ints))
lift (negsuc a) lo hi p q = (lo - suc a, omega (arith, ints), omega (arith, ints))

window : (lo hi d : ℕ) (v r s : ℤ) → d ≡ lo + hi → (neg_ℤ (pos lo) ≤ℤ r) × (r <ℤ pos hi) → (neg_ℤ (pos lo) ≤ℤ s) × (s <ℤ pos hi) → Differ d v r → Differ d v s → r ≡ s
window lo hi d v r s e p q f g =
    let x = lift r lo hi p.0 p.1 in
    let y = lift s lo hi q.0 q.1 in
    let a = f.2 in
    let b = g.2 in
    let xe = x.1 in
    let ye = y.1 in
    let t : (f.1 + g.0) * d + x.0 ≡ (g.1 + f.0) * d + y.0 = omega (arith, ints) in
    let l : x.0 < d = omega arith in
    let k : y.0 < d = omega arith in
    let z = same_low d x.0 y.0 (f.1 + g.0) (g.1 + f.0) l k t in
    omega (arith, ints)

one_in_bits : (b : Bool) (n : ℕ) (v r s : ℤ) → (b ≡ true → 1 ≤ n) → InBits b n r → InBits b n s → Differ (2 ^ n) v r → Differ (2 ^ n) v s → r ≡ s
one_in_bits false n v r s h p q f g = window 0 (2 ^ n) (2 ^ n) v r s (omega arith) (p.0, p.1) (q.0, q.1) f g
one_in_bits true n v r s h p q f g = window (2 ^ (n - 1)) (2 ^ (n - 1)) (2 ^ n) v r s (halves n (h refl)) p q f g

pub clipped-only : (form : Form) (v r : ℤ) → IsClip form v r → r ≡ clipped form v
clipped-only form v r c =
    let d = IsClip-clipped form v in
    one_in_bits (is_signed form) (bits_of form) v r (clipped form v) (bits_at_least form) c.range d.range c.differ d.differ

-- a number in the range is kept as it is
pub placed-same : (b : Bool) (n : ℕ) (v : ℤ) → (b ≡ true → 1 ≤ n) → InBits b n v → v ≡ signed_part b n (residue n v)
placed-same b n v h range =
    let p = placed_is b n (residue n v) v h (residue_below n v) (residue_differs n v) in
    one_in_bits b n v v (signed_part b n (residue n v)) h range p.0 (0, 0, refl) p.1

pub clipped-same : (form : Form) (v : ℤ) → InBits (is_signed form) (bits_of form) v → v ≡ clipped form v
clipped-same form v range = clipped-only form v v (record { range = range; differ = (0, 0, refl) })
