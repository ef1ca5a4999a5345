-- What flat code stands for.
use Rattle.std.proofs.Common.{◌≡◌, ℕ, ◌+◌, ◌<◌, Bool, true, false, not, if◌then◌else◌, ◌&&◌, List, [], length, get_or, map, take, sum, ℤ, pos, Some, None, Result, Ok, Err, negsuc, ◌+ℤ◌, refl, sym, ap, subst, ◌∙◌, arith, option_map}
use Rattle.std.specs.Prelude.{unwrap_or}
use Rattle.std.proofs.Math.ListN.{get_or-map}
use Rattle.diagnostics.specs.declared.fault.Fault.{Fault}
use Rattle.pml_tree.specs.declared.tree.Infix.{Infix}
use Rattle.pml_tree.specs.declared.tree.Infix.TheVariants as op
use Rattle.pml_program.specs.declared.expr.Expr.{Expr, Expr-F, fold-roll-Expr}
use Rattle.pml_program.specs.declared.expr.Expr.TheVariants as e
use Rattle.pml_program.specs.declared.expr.Target.{Target, out-Target}
use Rattle.pml_program.specs.declared.form.Form.{Form}
use Rattle.pml_program.specs.declared.form.Form.TheVariants.{Plain as Kept}
use Rattle.pml_tree.specs.declared.tree.Scalar.{Scalar}
use Rattle.pml_program.specs.declared.program.Action.TheVariants.{Assign, Decrement, Holds, Increment}
use Rattle.pml_program.specs.declared.program.Slot.{Slot}
use Rattle.promela_process.specs.declared.place.Place.{Place}
use Rattle.promela_process.specs.Store.{Frame, frame_at, number_at, size_at}
use Rattle.promela_process.specs.Numbers.{clipped, decided, infixed, is_zero, truth_number, wrapped}
use Rattle.promela_process.specs.Expressions.{Reading, Valued, Wanted, Placed, Turned, val, place, value_step, want_step, target_step, turn_step, ◌>>=◌}
use Rattle.promela_run.specs.declared.goes.Goes.{Goes}
use Rattle.promela_run.specs.State.{size, reading_of}
use Rattle.promela_run.specs.Statements.{goes_to, increased, outcome}
use Rattle.pml_store.specs.Writing.{flat, joined}
use Rattle.pml_store.proofs.Back.{has_cell}
use Rattle.flat_code.specs.declared.code.FlatCell.{FlatCell}
use Rattle.flat_code.specs.declared.code.FlatCell.TheVariants.{Global, Local}
use Rattle.flat_code.specs.declared.code.Operand.{Operand}
use Rattle.flat_code.specs.declared.code.Operand.TheVariants as operand
use Rattle.flat_code.specs.declared.code.FlatWorth.{FlatWorth}
use Rattle.flat_code.specs.declared.code.FlatWorth.TheVariants.{Plain, Pair}
use Rattle.flat_code.specs.declared.code.FlatCode.{FlatCode}
use Rattle.flat_code.specs.declared.code.FlatCode.TheVariants.{Set, Ask}
use Rattle.flat_code.specs.Flat.{index, number, held, worth, cells_in, start, base_of, IsIn, Leads, IsPlain, IsCell, IsOperand, IsWorth, IsKept, IsCode, IsCounted}
use Rattle.flat_code.proofs.Laying.{flat_length, index-within, index-holds}

-- ---- a cell

-- a frame whose variables have these sizes
module _ (frames : List Frame) (o v cell : ℕ) (ss : List Slot) (fits : map length (frame_at frames o) ≡ map size ss) where
  abbrev at : Place
  at = record { frame = o; variable = v; cell = cell }

  small : cell < cells_in ss v → cell < size_at frames o v
  small below =
      let s : length (get_or (frame_at frames o) v []) ≡ cells_in ss v = sym (get_or-map length (frame_at frames o) v []) ∙ ap (λ (l : List ℕ). get_or l v 0) fits in
      omega (arith, below, s)

  before : length (flat (take v (frame_at frames o))) ≡ start ss v
  before = flat_length (frame_at frames o) v ∙ ap (λ (l : List ℕ). sum (take v l)) fits

  -- where a target leads that reads this frame
  leads : (t : Target) (r : Reading) → IsPlain t cell → r.frame (out-Target t).local ≡ o → (out-Target t).variable ≡ v → cell < r.cells o v → place t r ≡ Ok at
  leads t r plain f e below =
      let x = out-Target t in
      let h : cell < r.cells (r.frame x.local) x.variable = subst (λ (n : ℕ). cell < r.cells n x.variable) (sym f) (subst (λ (n : ℕ). cell < r.cells o n) (sym e) below) in
      plain r h ∙ ap (λ (n : ℕ). Ok (record { frame = n; variable = x.variable; cell = cell })) f ∙ ap (λ (n : ℕ). Ok (record { frame = o; variable = n; cell = cell })) e

pub local_cell : (gs ls : List Slot) (t : Target) (cell i : ℕ) → IsPlain t cell → (out-Target t).local ≡ true → cell < cells_in ls (out-Target t).variable → i ≡ start ls (out-Target t).variable + cell → IsCell gs ls t (Local i)
local_cell gs ls t cell i plain is below e frames cs process count timeout fits =
    let v = (out-Target t).variable in
    let r : Reading = reading_of frames cs process count timeout in
    let s = small frames (process + 1) v cell ls fits.locals below in
    let b = before frames (process + 1) v cell ls fits.locals in
    record {
      at = at frames (process + 1) v cell ls fits.locals;
      leads = leads frames (process + 1) v cell ls fits.locals t r plain (ap r.frame is) refl s;
      there = has_cell frames (at frames (process + 1) v cell ls fits.locals) s;
      stands = omega (arith, b, e);
    }

pub global_cell : (gs ls : List Slot) (t : Target) (cell i : ℕ) → IsPlain t cell → (out-Target t).local ≡ false → cell < cells_in gs (out-Target t).variable → i ≡ start gs (out-Target t).variable + cell → IsCell gs ls t (Global i)
global_cell gs ls t cell i plain is below e frames cs process count timeout fits =
    let v = (out-Target t).variable in
    let r : Reading = reading_of frames cs process count timeout in
    let s = small frames 0 v cell gs fits.globals below in
    let b = before frames 0 v cell gs fits.globals in
    record {
      at = at frames 0 v cell gs fits.globals;
      leads = leads frames 0 v cell gs fits.globals t r plain (ap r.frame is) refl s;
      there = has_cell frames (at frames 0 v cell gs fits.globals) s;
      stands = omega (arith, b, e);
    }

-- ---- what expressions are worth

pub read-is : (t : Target) (r : Reading) → val (e.Read t) r ≡ (place t r >>= λ p. Ok (r.holds p))
read-is t r =
    ap (λ (x : Expr). val x r) (sym (e.rolls-Read t))
    ∙ ap (λ (f : Valued). f r) (fold-roll-Expr Valued Wanted Placed Turned value_step want_step target_step turn_step (Expr-F.Read t))

pub binary-is : (o : Infix) (a b : Expr) (r : Reading) → val (e.Binary o a b) r ≡ (val a r >>= λ x. unwrap_or (option_map Ok (decided o x)) (val b r >>= λ y. infixed o x y))
binary-is o a b r =
    ap (λ (x : Expr). val x r) (sym (e.rolls-Binary o a b))
    ∙ ap (λ (f : Valued). f r) (fold-roll-Expr Valued Wanted Placed Turned value_step want_step target_step turn_step (Expr-F.Binary o a b))

-- what the left side decides alone is what the operator gives
abbrev Decides : Infix → ℤ → ℤ → Type 0
Decides o x y = unwrap_or (option_map Ok (decided o x)) (infixed o x y) ≡ infixed o x y

and-decides : (z w : Bool) → (let given : Result ℤ Fault = Ok (truth_number (not z && not w)) in unwrap_or (option_map Ok (if z then Some (pos 0) else None)) given ≡ given)
and-decides true w = refl
and-decides false w = refl

or-decides : (z w : Bool) → (let given : Result ℤ Fault = Ok (truth_number (not (z && w))) in unwrap_or (option_map Ok (if z then None else Some (pos 1))) given ≡ given)
or-decides true w = refl
or-decides false w = refl

decides : (o : Infix) (x y : ℤ) → Decides o x y
decides op.And x y = and-decides (is_zero x) (is_zero y)
decides op.Or x y = or-decides (is_zero x) (is_zero y)
decides _ x y = refl

-- what a cell holds is a number of its place
number-held : (cells : List ℤ) (base : ℕ) (c : FlatCell) → number cells base (held c) ≡ get_or cells (index base c) (pos 0)
number-held cells base (Global i) = refl
number-held cells base (Local i) = refl

in-held : (cells : List ℤ) (base : ℕ) (c : FlatCell) → index base c < length cells → IsIn cells base (held c)
in-held cells base (Global i) h = h
in-held cells base (Local i) h = h

module _ (frames : List Frame) (base : ℕ) (r : Reading) (t : Target) (c : FlatCell) (l : Leads frames base r t c) where
  held-there : number (joined frames) base (held c) ≡ number_at frames l.at
  held-there = number-held (joined frames) base c ∙ ap (λ (n : ℕ). get_or (joined frames) n (pos 0)) (sym l.stands) ∙ index-holds frames l.at l.there

  held-within : IsIn (joined frames) base (held c)
  held-within = in-held (joined frames) base c (subst (λ (n : ℕ). n < length (joined frames)) l.stands (index-within frames l.at l.there))

pub read : (gs ls : List Slot) (t : Target) (c : FlatCell) → IsCell gs ls t c → IsOperand gs ls (e.Read t) (held c)
read gs ls t c is frames cs process count timeout fits =
    let r : Reading = reading_of frames cs process count timeout in
    let l = is frames cs process count timeout fits in
    record {
      value = read-is t r ∙ ap (λ (o : Result Place Fault). o >>= λ p. Ok (r.holds p)) l.leads
          ∙ ap Ok (sym (held-there frames (base_of frames process) r t c l));
      within = held-within frames (base_of frames process) r t c l;
    }

pub plain : (gs ls : List Slot) (x : Expr) (a : Operand) → IsOperand gs ls x a → IsWorth gs ls x (Plain a)
plain gs ls x a is frames cs process count timeout fits =
    let g = is frames cs process count timeout fits in
    record { value = g.value; within = g.within }

pub pair : (gs ls : List Slot) (o : Infix) (x y : Expr) (a b : Operand) → IsOperand gs ls x a → IsOperand gs ls y b → IsWorth gs ls (e.Binary o x y) (Pair o a b)
pair gs ls o x y a b left right frames cs process count timeout fits =
    let r : Reading = reading_of frames cs process count timeout in
    let f = left frames cs process count timeout fits in
    let g = right frames cs process count timeout fits in
    let m = number (joined frames) (base_of frames process) a in
    let n = number (joined frames) (base_of frames process) b in
    record {
      value = binary-is o x y r
          ∙ ap (λ (q : Result ℤ Fault). q >>= λ i. unwrap_or (option_map Ok (decided o i)) (val y r >>= λ j. infixed o i j)) f.value
          ∙ ap (λ (q : Result ℤ Fault). unwrap_or (option_map Ok (decided o m)) (q >>= λ j. infixed o m j)) g.value
          ∙ decides o m n;
      within = (f.within, g.within);
    }

-- ---- what statements do

-- what is stored goes to the place of its target
goes-there : (t : Target) (r : Reading) (p : Place) (o : Result ℤ Fault) → place t r ≡ Ok p
    → (o >>= λ n. goes_to (Some t) n r) ≡ (o >>= λ n. Ok (Some (record { place = p; number = clipped (out-Target t).form n })))
goes-there t r p (Err f) h = refl
goes-there t r p (Ok n) h = ap (λ (q : Result Place Fault). q >>= (λ p. let g : Goes = record { place = p; number = clipped (out-Target t).form n } in Ok g) >>= λ g. Ok (Some g)) h

kept-there : (t : Target) (word : Scalar) (r : Reading) (p : Place) (o : Result ℤ Fault) → (out-Target t).form ≡ Kept word → place t r ≡ Ok p
    → (o >>= λ n. goes_to (Some t) n r) ≡ (o >>= λ n. Ok (Some (record { place = p; number = clipped (Kept word) n })))
kept-there t word r p o f h = goes-there t r p o h ∙ ap (λ (form : Form). o >>= λ n. Ok (Some (record { place = p; number = clipped form n }))) f

pub sets : (gs ls : List Slot) (t : Target) (x : Expr) (word : Scalar) (c : FlatCell) (v : FlatWorth) → IsKept gs ls t word c → IsWorth gs ls x v → IsCode gs ls (Assign (Some t) x) (Set word c v)
sets gs ls t x word c v is comes frames cs process count timeout fits =
    let r : Reading = reading_of frames cs process count timeout in
    let l = is.1 frames cs process count timeout fits in
    let g = comes frames cs process count timeout fits in
    record {
      at = l.at;
      there = l.there;
      stands = l.stands;
      within = g.within;
      does = ap (λ (o : Result ℤ Fault). o >>= λ n. goes_to (Some t) n r) g.value ∙ kept-there t word r l.at (worth (joined frames) (base_of frames process) v) is.0 l.leads;
      free = λ lossy ds in_d_step. refl;
    }

-- what is stored of a variable's number and this
increased-is : (t : Target) (by : ℤ) (r : Reading) (p : Place) → place t r ≡ Ok p → increased t by r ≡ goes_to (Some t) (wrapped (r.holds p +ℤ by)) r
increased-is t by r p h = ap (λ (o : Result Place Fault). o >>= λ p. goes_to (Some t) (wrapped (r.holds p +ℤ by)) r) h

pub counts : (gs ls : List Slot) (t : Target) (by : ℤ) (word : Scalar) (c : FlatCell) → IsKept gs ls t word c → IsCounted gs ls t by (Set word c (Pair op.Plus (held c) (operand.Number by)))
counts gs ls t by word c is x adds free frames cs process count timeout fits =
    let r : Reading = reading_of frames cs process count timeout in
    let l = is.1 frames cs process count timeout fits in
    let base = base_of frames process in
    let n = held-there frames base r t c l in
    record {
      at = l.at;
      there = l.there;
      stands = l.stands;
      within = (held-within frames base r t c l, tt);
      does = adds r ∙ increased-is t by r l.at l.leads
          ∙ ap (λ (n : ℤ). goes_to (Some t) (wrapped (n +ℤ by)) r) (sym n)
          ∙ kept-there t word r l.at (Ok (wrapped (number (joined frames) base (held c) +ℤ by))) is.0 l.leads;
      free = λ lossy ds in_d_step. free lossy ds r in_d_step;
    }

pub adds-one : (t : Target) (r : Reading) → outcome (Increment t) r ≡ increased t (pos 1) r
adds-one t r = refl

pub takes-one : (t : Target) (r : Reading) → outcome (Decrement t) r ≡ increased t (negsuc 0) r
takes-one t r = refl

pub counts_up : (gs ls : List Slot) (t : Target) (code : FlatCode) → IsCounted gs ls t (pos 1) code → IsCode gs ls (Increment t) code
counts_up gs ls t code is = is (Increment t) (adds-one t) (λ lossy cs r d. refl)

pub counts_down : (gs ls : List Slot) (t : Target) (code : FlatCode) → IsCounted gs ls t (negsuc 0) code → IsCode gs ls (Decrement t) code
counts_down gs ls t code is = is (Decrement t) (takes-one t) (λ lossy cs r d. refl)

pub asks : (gs ls : List Slot) (x : Expr) (v : FlatWorth) → IsWorth gs ls x v → IsCode gs ls (Holds x) (Ask v)
asks gs ls x v comes frames cs process count timeout fits =
    let g = comes frames cs process count timeout fits in
    record {
      within = g.within;
      does = ap (λ (o : Result ℤ Fault). o >>= λ n. Ok None) g.value;
      asks = λ lossy ds in_d_step. ap (λ (o : Result ℤ Fault). o >>= λ n. Ok (not (is_zero n))) g.value;
    }
