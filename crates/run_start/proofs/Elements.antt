-- What is known of each cell of an element.
use Rattle.std.proofs.Common.{◌≡◌, ℕ, zero, suc, ◌*◌, ◌<◌, ◌%◌, List, [], ◌∷◌, length, get_or, refl, sym, ap, ◌∙◌, arith}
use Rattle.std.proofs.Math.Nat.{mod-lt, mod-eq_of_lt}
use Rattle.std.proofs.Math.Logic.{⊎_elim}
use Rattle.std.proofs.lemmas.Bool.{cases_eq}
use Rattle.std.proofs.lemmas.List.{length_push, get_or_push, get_or_append_left}
use Rattle.pml_program.specs.declared.program.Slot.{Slot}
use Rattle.pml_program.specs.declared.program.Fields.{Fields}
use Rattle.promela_run.specs.State.{size, leaf, last_field}
use Rattle.promela_run.specs.declared.beginning.Beginning.{Beginning}
use Rattle.run_start.specs.Known.{known, known_cells}

cells_count : (ts : List Fields) (s : Slot) (n : ℕ) → length (known_cells ts s n) ≡ n
cells_count ts s zero = refl
cells_count ts s (suc n) = let r = cells_count ts s n in length_push (known_cells ts s n) (known (leaf ts s n)) ∙ omega (arith, r)

cell_known : (ts : List Fields) (s : Slot) (n k : ℕ) (d : Beginning) → k < n → get_or (known_cells ts s n) k d ≡ known (leaf ts s k)
cell_known ts s zero k d h = absurd (omega (arith, h))
cell_known ts s (suc n) k d h =
    ⊎_elim (λ (e : k ≡ n). get_or_push (known_cells ts s n) (known (leaf ts s n)) d k (cells_count ts s n ∙ sym e) ∙ ap (λ (m : ℕ). known (leaf ts s m)) (sym e))
    (λ g. let l : k < n = omega (arith, h, g) in
    let r = cells_count ts s n in
    get_or_append_left (known_cells ts s n) (known (leaf ts s n) ∷ []) d k (omega (arith, l, r)) ∙ cell_known ts s n k d l)
    (cases_eq k n)

some : (l w c : ℕ) → c < l * w → 0 < w
some l zero c h = absurd (let e : l * 0 ≡ 0 = omega arith in omega (arith, e, h))
some l (suc w) c h = omega arith

-- a cell of a variable begins with what the cell of its first element begins with
pub element_there : (ts : List Fields) (s : Slot) (c r : ℕ) (xs : List Beginning) → c < size s → r ≡ c % s.stride → xs ≡ known_cells ts s s.stride → r < length xs
element_there ts s c r xs h e k =
    let m = mod-lt c (some s.length s.stride c h) in
    let n = ap length k ∙ cells_count ts s s.stride in
    omega (arith, e, m, n)

pub element_known : (ts : List Fields) (s : Slot) (c r : ℕ) (xs : List Beginning) (x d : Beginning) → c < size s → r ≡ c % s.stride → xs ≡ known_cells ts s s.stride → x ≡ get_or xs r d → x ≡ known (leaf ts s c)
element_known ts s c r xs x d h e k g =
    let m = mod-lt c (some s.length s.stride c h) in
    g ∙ ap (λ (ys : List Beginning). get_or ys r d) k ∙ cell_known ts s s.stride r d (omega (arith, e, m))
    ∙ ap (λ (n : ℕ). known (last_field ts (length ts) s n)) (ap (λ (n : ℕ). n % s.stride) e ∙ mod-eq_of_lt m ∙ refl)
