-- What turns reach is what they evaluate to.
use Rattle.std.proofs.Common.{◌≡◌, ℕ, ◌+◌, ◌*◌, ◌<◌, Bool, true, cond, List, [], ◌∷◌, map, Option, Some, None, Result, Ok, Err, ℤ, pos, refl, ap, sym, ◌∙◌, arith, option_map}
use Rattle.std.specs.Prelude.{nat_lt}
use Rattle.std.proofs.lemmas.Bool.Decides.{Decides-ltb}
use Rattle.diagnostics.specs.declared.fault.Fault.{Fault}
use Rattle.diagnostics.specs.declared.fault.Fault.TheVariants.{IndexOutOfRange}
use Rattle.pml_program.specs.declared.expr.Expr.{Expr}
use Rattle.pml_program.specs.declared.expr.Want.{Want}
use Rattle.pml_program.specs.declared.expr.Turn.{Turn, Turn-F, map-Turn, out-Turn, fold-roll-Turn, roll-out-Turn}
use Rattle.pml_program.specs.declared.expr.Target.{Target, out-Target, fold-roll-Target, roll-out-Target}
use Rattle.promela_process.specs.Expressions.{Reading, Valued, Wanted, Placed, Turned, val, want, placed_target, place, turned_by, cells_of, cell_inside, index_inside, index_of, value_step, want_step, target_step, turn_step, ◌>>=◌}
use Rattle.meaning_laws.specs.Tiled.{reached, AreWithin}
use Rattle.cell_laws.specs.Paths.{IsWorth, AreWorth, cell_at}

is-below : (m n : ℕ) → m < n → nat_lt m n ≡ true
is-below m n h = (Decides-ltb m n).1 h

within-is : (n i : ℕ) → i < n → index_inside n (pos i) ≡ Ok i
within-is n i h = ap (λ (b : Bool). cond b (Ok i) (Err IndexOutOfRange)) (is-below i n h)

inside-is : (whole c : ℕ) → c < whole → cell_inside whole c ≡ Ok c
inside-is whole c h = ap (λ (b : Bool). cond b (Ok c) (Err IndexOutOfRange)) (is-below c whole h)

index-is : (x : Option Expr) (now : Reading) (n i : ℕ) → i < n → IsWorth now x i → index_of (option_map val x) n now ≡ Ok i
index-is None now n i h w = ap Ok (sym w)
index-is (Some e) now n i h w = ap (λ (r : Result ℤ Fault). r >>= index_inside n) w ∙ within-is n i h

abbrev turned : Turn-F Expr Want Target Turn → Turned
turned y = turn_step (map-Turn Expr Want Target Turn Valued Wanted Placed Turned val want placed_target turned_by y)

layer-of : (o l s : ℕ) (x : Option Expr) (now : Reading) → turned (record { offset = o; length = l; stride = s; index = x }) now ≡ (index_of (option_map val x) l now >>= λ i. Ok (o + i * s))
layer-of o l s None now = refl
layer-of o l s (Some e) now = refl

layer : (t : Turn) (now : Reading) → turned_by t now ≡ (index_of (option_map val (out-Turn t).index) (out-Turn t).length now >>= λ i. Ok ((out-Turn t).offset + i * (out-Turn t).stride))
layer t now =
    ap (λ (u : Turn). turned_by u now) (sym (roll-out-Turn t))
    ∙ ap (λ (f : Turned). f now) (fold-roll-Turn Valued Wanted Placed Turned value_step want_step target_step turn_step (out-Turn t))
    ∙ layer-of (out-Turn t).offset (out-Turn t).length (out-Turn t).stride (out-Turn t).index now

turn-cells : (t : Turn) (now : Reading) (i : ℕ) → i < (out-Turn t).length → IsWorth now (out-Turn t).index i → turned_by t now ≡ Ok ((out-Turn t).offset + i * (out-Turn t).stride)
turn-cells t now i h w = layer t now ∙ ap (λ (r : Result ℕ Fault). r >>= λ i. Ok ((out-Turn t).offset + i * (out-Turn t).stride)) (index-is (out-Turn t).index now (out-Turn t).length i h w)

-- from a cell on, within a variable of so many
turns-reach : (ts : List Turn) (is : List ℕ) (now : Reading) (whole from : ℕ) → AreWithin ts is → AreWorth now ts is → from + reached ts is < whole → cells_of (map turned_by ts) whole from now ≡ Ok (from + reached ts is)
turns-reach [] [] now whole from a w h = ap Ok (omega arith)
turns-reach [] (i ∷ is) now whole from a w h = elim a [ ]
turns-reach (t ∷ ts) [] now whole from a w h = elim a [ ]
turns-reach (t ∷ ts) (i ∷ is) now whole from a w h =
    let by : ℕ = (out-Turn t).offset + i * (out-Turn t).stride in
    ap (λ (r : Result ℕ Fault). r >>= λ n. cell_inside whole (from + n) >>= λ c. cells_of (map turned_by ts) whole c now) (turn-cells t now i a.0 w.0)
    ∙ ap (λ (r : Result ℕ Fault). r >>= λ c. cells_of (map turned_by ts) whole c now) (inside-is whole (from + by) (omega (arith, h)))
    ∙ turns-reach ts is now whole (from + by) a.1 w.1 (omega (arith, h))
    ∙ ap Ok (omega arith)

place-layer : (x : Target) (now : Reading) → place x now
    ≡ (cell_inside (now.cells (now.frame (out-Target x).local) (out-Target x).variable) 0 >>= λ c. cells_of (map turned_by (out-Target x).turns) (now.cells (now.frame (out-Target x).local) (out-Target x).variable) c now >>= λ cell. Ok (cell_at now x cell))
place-layer x now =
    ap (λ (u : Target). place u now) (sym (roll-out-Target x))
    ∙ ap (λ (f : Placed). f.lies now) (fold-roll-Target Valued Wanted Placed Turned value_step want_step target_step turn_step (out-Target x))

-- a target evaluates to the cell that its turns reach
pub target-reaches : (x : Target) (is : List ℕ) (now : Reading) → AreWithin (out-Target x).turns is → AreWorth now (out-Target x).turns is
    → reached (out-Target x).turns is < now.cells (now.frame (out-Target x).local) (out-Target x).variable
    → place x now ≡ Ok (cell_at now x (reached (out-Target x).turns is))
target-reaches x is now a w h =
    let whole : ℕ = now.cells (now.frame (out-Target x).local) (out-Target x).variable in
    place-layer x now
    ∙ ap (λ (r : Result ℕ Fault). r >>= λ c. cells_of (map turned_by (out-Target x).turns) whole c now >>= λ cell. Ok (cell_at now x cell)) (inside-is whole 0 (omega (arith, h)))
    ∙ ap (λ (r : Result ℕ Fault). r >>= λ cell. Ok (cell_at now x cell)) (turns-reach (out-Target x).turns is now whole 0 a w (omega (arith, h)))
    ∙ ap (λ (n : ℕ). Ok (cell_at now x n)) (omega arith)
