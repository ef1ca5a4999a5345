-- What wide code stands for.
use Rattle.std.proofs.Common.{◌≡◌, ℕ, ◌+◌, ◌*◌, ◌-◌, ◌<◌, Bool, true, false, cond, not, List, [], ◌∷◌, length, get_or, map, take, sum, ℤ, pos, Option, Some, None, Result, Ok, Err, negsuc, ◌+ℤ◌, refl, sym, ap, subst, ◌∙◌, arith, option_map}
use Rattle.std.specs.Prelude.{nat_lt, unwrap_or, IfSome}
use Rattle.std.proofs.Math.ListN.{get_or-map}
use Rattle.std.proofs.lemmas.Bool.Decides.{Decides-ltb}
use Rattle.std.proofs.lemmas.Bool.{ltb-true}
use Rattle.diagnostics.specs.declared.fault.Fault.{Fault}
use Rattle.diagnostics.specs.declared.fault.Fault.TheVariants.{IndexOutOfRange}
use Rattle.pml_tree.specs.declared.tree.Infix.{Infix}
use Rattle.pml_tree.specs.declared.tree.Infix.TheVariants as op
use Rattle.pml_program.specs.declared.expr.Expr.{Expr}
use Rattle.pml_program.specs.declared.expr.Expr.TheVariants as e
use Rattle.pml_program.specs.declared.expr.Want.{Want}
use Rattle.pml_program.specs.declared.expr.Turn.{Turn, Turn-F, map-Turn, out-Turn, fold-roll-Turn, roll-out-Turn}
use Rattle.pml_program.specs.declared.expr.Target.{Target, out-Target, fold-roll-Target, roll-out-Target}
use Rattle.pml_program.specs.declared.form.Form.{Form}
use Rattle.pml_program.specs.declared.form.Form.TheVariants.{Plain as Kept}
use Rattle.pml_tree.specs.declared.tree.Scalar.{Scalar}
use Rattle.pml_program.specs.declared.program.Action.{Action}
use Rattle.pml_program.specs.declared.program.Action.TheVariants.{Assign, Decrement, Holds, Increment}
use Rattle.pml_program.specs.declared.program.Slot.{Slot}
use Rattle.promela_process.specs.declared.place.Place.{Place}
use Rattle.promela_process.specs.Store.{Frame, frame_at, number_at, size_at}
use Rattle.promela_process.specs.Numbers.{clipped, decided, infixed, is_zero, wrapped}
use Rattle.promela_process.specs.Expressions.{Reading, Valued, Wanted, Placed, Turned, val, want, place, placed_target, turned_by, value_step, want_step, target_step, turn_step, cells_of, cell_inside, index_inside, ◌>>=◌}
use Rattle.promela_process.specs.Expressions as reading
use Rattle.promela_run.specs.declared.goes.Goes.{Goes}
use Rattle.promela_run.specs.State.{size, reading_of}
use Rattle.promela_run.specs.Statements.{goes_to}
use Rattle.pml_store.specs.Writing.{flat, joined, index_of}
use Rattle.pml_store.proofs.Back.{has_cell}
use Rattle.flat_code.specs.declared.code.FlatCell.{FlatCell}
use Rattle.flat_code.specs.declared.code.FlatCell.TheVariants.{Global, Local}
use Rattle.flat_code.specs.declared.code.FlatWorth.{FlatWorth}
use Rattle.flat_code.specs.declared.wide.WideIndex.{WideIndex}
use Rattle.flat_code.specs.declared.wide.WideIndex.TheVariants.{Worth}
use Rattle.flat_code.specs.declared.wide.WideCell.{WideCell}
use Rattle.flat_code.specs.declared.wide.WideCell.TheVariants.{Cell, Element}
use Rattle.flat_code.specs.declared.wide.WideOperand.{WideOperand}
use Rattle.flat_code.specs.declared.wide.WideOperand.TheVariants.{Number, Held}
use Rattle.flat_code.specs.declared.wide.WideWorth.{WideWorth}
use Rattle.flat_code.specs.declared.wide.WideWorth.TheVariants.{Plain, Pair}
use Rattle.flat_code.specs.declared.wide.WideCode.{WideCode}
use Rattle.flat_code.specs.declared.wide.WideCode.TheVariants.{Set, Ask}
use Rattle.flat_code.specs.declared.wide.FlatStore.{FlatStore}
use Rattle.flat_code.specs.Flat.{index, cells_in, start, base_of, IsCell, IsWorth}
use Rattle.flat_code.specs.Wide.{index_worth, wide_at, wide_number, wide_worth, AreCells, AreOwned, IsPlaced, IsStored, Spans, IsWideIndex, IsWideCell, IsWideOperand, IsWideWorth, IsWideKept, IsWideCode, IsWideCounted}
use Rattle.flat_code.proofs.Laying.{flat_length, index-within, index-holds}
use Rattle.flat_code.proofs.Standing.{adds-one, takes-one, binary-is, read-is}

-- ---- cells one behind another

module _ (frames : List Frame) (base o v offset count i : ℕ) (c : FlatCell) (ss : List Slot) (fits : map length (frame_at frames o) ≡ map size ss) (owned : AreOwned ss v offset count i)
    (begins : length (joined (take o frames)) + i ≡ index base c) where
  cells : size_at frames o v ≡ cells_in ss v
  cells = sym (get_or-map length (frame_at frames o) v []) ∙ ap (λ (l : List ℕ). get_or l v 0) fits

  before : length (flat (take v (frame_at frames o))) ≡ start ss v
  before = flat_length (frame_at frames o) v ∙ ap (λ (l : List ℕ). sum (take v l)) fits

  abbrev at : ℕ → Place
  at k = record { frame = o; variable = v; cell = offset + k }

  small : (k : ℕ) → k < count → offset + k < size_at frames o v
  small k h = let many = owned.cells in omega (arith, h, many, cells)

  here : (k : ℕ) → index_of frames (at k) ≡ index base c + k
  here k = let first = owned.first in omega (arith, first, begins, before)

  spans : Spans frames base o v offset count c
  spans =
      let some = owned.some in
      let last = count - 1 in
      let below : last < count = omega (arith, some) in
      let s = small last below in
      let w = index-within frames (at last) (has_cell frames (at last) s) in
      let h = here last in
      record {
        some = omega (arith, s);
        below = small;
        stands = λ k l. here k;
        end = omega (arith, some, w, h);
      }

pub local_cells : (gs ls : List Slot) (t : Target) (offset count i : ℕ) → (out-Target t).local ≡ true → AreOwned ls (out-Target t).variable offset count i → AreCells gs ls t offset count (Local i)
local_cells gs ls t offset count i is owned frames cs process n timeout fits =
    let r : Reading = reading_of frames cs process n timeout in
    subst (λ (o : ℕ). Spans frames (base_of frames process) o (out-Target t).variable offset count (Local i)) (sym (ap r.frame is))
    (spans frames (base_of frames process) (process + 1) (out-Target t).variable offset count i (Local i) ls fits.locals owned refl)

pub global_cells : (gs ls : List Slot) (t : Target) (offset count i : ℕ) → (out-Target t).local ≡ false → AreOwned gs (out-Target t).variable offset count i → AreCells gs ls t offset count (Global i)
global_cells gs ls t offset count i is owned frames cs process n timeout fits =
    let r : Reading = reading_of frames cs process n timeout in
    subst (λ (o : ℕ). Spans frames (base_of frames process) o (out-Target t).variable offset count (Global i)) (sym (ap r.frame is))
    (spans frames (base_of frames process) 0 (out-Target t).variable offset count i (Global i) gs fits.globals owned (omega arith))

pub worth_index : (gs ls : List Slot) (x : Expr) (v : FlatWorth) → IsWorth gs ls x v → IsWideIndex gs ls x (Worth v)
worth_index gs ls x v is frames cs process count timeout fits =
    let g = is frames cs process count timeout fits in
    record { value = g.value; within = g.within }

-- ---- where a target with an index leads

is-below : (m n : ℕ) → m < n → nat_lt m n ≡ true
is-below m n h = (Decides-ltb m n).1 h

inside-is : (whole c : ℕ) → c < whole → cell_inside whole c ≡ Ok c
inside-is whole c h = ap (λ (b : Bool). cond b (Ok c) (Err IndexOutOfRange)) (is-below c whole h)

-- an index that is taken is within its array
index-below : (n : ℕ) (x : ℤ) (i : ℕ) → index_inside n x ≡ Ok i → i < n
index-below n (pos j) i h = cases (nat_lt j n) refl
  where
    cases : (b : Bool) → nat_lt j n ≡ b → i < n
    cases true e =
        let k : Ok j ≡ Ok i = sym (ap (λ (b : Bool). cond b (Ok j) (Err IndexOutOfRange)) e) ∙ h in
        let same : j ≡ i = cc in
        subst (λ (m : ℕ). m < n) same (ltb-true j n e)
    cases false e =
        let k : Err IndexOutOfRange ≡ Ok i = sym (ap (λ (b : Bool). cond b (Ok j) (Err IndexOutOfRange)) e) ∙ h in
        cc
index-below n (negsuc j) i h = cc

abbrev turned : Turn-F Expr Want Target Turn → Turned
turned y = turn_step (map-Turn Expr Want Target Turn Valued Wanted Placed Turned val want placed_target turned_by y)

layer-of : (o l s : ℕ) (x : Option Expr) (r : Reading) → turned (record { offset = o; length = l; stride = s; index = x }) r ≡ (reading.index_of (option_map val x) l r >>= λ i. Ok (o + i * s))
layer-of o l s None r = refl
layer-of o l s (Some e) r = refl

turn-is : (t : Turn) (r : Reading) → turned_by t r ≡ (reading.index_of (option_map val (out-Turn t).index) (out-Turn t).length r >>= λ i. Ok ((out-Turn t).offset + i * (out-Turn t).stride))
turn-is t r =
    ap (λ (u : Turn). turned_by u r) (sym (roll-out-Turn t))
    ∙ ap (λ (f : Turned). f r) (fold-roll-Turn Valued Wanted Placed Turned value_step want_step target_step turn_step (out-Turn t))
    ∙ layer-of (out-Turn t).offset (out-Turn t).length (out-Turn t).stride (out-Turn t).index r

-- a turn with an index and elements of one cell
element-is : (t : Turn) (x : Expr) (r : Reading) → (out-Turn t).index ≡ Some x → (out-Turn t).stride ≡ 1
    → turned_by t r ≡ (val x r >>= index_inside (out-Turn t).length >>= λ i. Ok ((out-Turn t).offset + i * 1))
element-is t x r indexed one =
    turn-is t r
    ∙ ap (λ (o : Option Expr). reading.index_of (option_map val o) (out-Turn t).length r >>= λ i. Ok ((out-Turn t).offset + i * (out-Turn t).stride)) indexed
    ∙ ap (λ (n : ℕ). val x r >>= index_inside (out-Turn t).length >>= λ i. Ok ((out-Turn t).offset + i * n)) one

-- the cell of a target's variable
abbrev cell_at : Reading → Target → ℕ → Place
cell_at r t cell = record { frame = r.frame (out-Target t).local; variable = (out-Target t).variable; cell = cell }

abbrev whole : Reading → Target → ℕ
whole r t = r.cells (r.frame (out-Target t).local) (out-Target t).variable

place-is : (t : Target) (r : Reading) → place t r ≡ (cell_inside (whole r t) 0 >>= λ c. cells_of (map turned_by (out-Target t).turns) (whole r t) c r >>= λ cell. Ok (cell_at r t cell))
place-is t r =
    ap (λ (u : Target). place u r) (sym (roll-out-Target t))
    ∙ ap (λ (f : Placed). f.lies r) (fold-roll-Target Valued Wanted Placed Turned value_step want_step target_step turn_step (out-Target t))

-- a target with one turn, where its variable has cells
place-turned : (t : Target) (u : Turn) (r : Reading) → (out-Target t).turns ≡ u ∷ [] → 0 < whole r t
    → place t r ≡ (turned_by u r >>= (λ n. cell_inside (whole r t) (0 + n) >>= λ c. Ok c) >>= λ cell. Ok (cell_at r t cell))
place-turned t u r one some =
    place-is t r
    ∙ ap (λ (o : Result ℕ Fault). o >>= λ c. cells_of (map turned_by (out-Target t).turns) (whole r t) c r >>= λ cell. Ok (cell_at r t cell)) (inside-is (whole r t) 0 some)
    ∙ ap (λ (us : List Turn). cells_of (map turned_by us) (whole r t) 0 r >>= λ cell. Ok (cell_at r t cell)) one

-- an index that is within its array leads to the element, another one to its fault
leads_on : (frames : List Frame) (base o v offset n : ℕ) (c : FlatCell) (s : Spans frames base o v offset n c) (q : Result ℕ Fault) → ((i : ℕ) → q ≡ Ok i → i < n)
    → IsPlaced frames (q >>= λ i. Ok (index base c + i))
    (q >>= (λ i. Ok (offset + i * 1)) >>= (λ m. cell_inside (size_at frames o v) (0 + m) >>= λ c. Ok c) >>= λ cell. Ok (record { frame = o; variable = v; cell = cell }))
leads_on frames base o v offset n c s (Err f) h = refl
leads_on frames base o v offset n c s (Ok i) h =
    let l = h i refl in
    let b = s.below i l in
    let e : 0 + (offset + i * 1) ≡ offset + i = omega arith in
    let is : cell_inside (size_at frames o v) (0 + (offset + i * 1)) ≡ Ok (offset + i) = ap (cell_inside (size_at frames o v)) e ∙ inside-is (size_at frames o v) (offset + i) b in
    subst (λ (q : Result ℕ Fault). IsPlaced frames (Ok (index base c + i)) (q >>= (λ c. Ok c) >>= λ cell. Ok (record { frame = o; variable = v; cell = cell }))) (sym is)
    (has_cell frames (record { frame = o; variable = v; cell = offset + i }) b, s.stands i l)

index-taken : (w : Result ℤ Fault) (n i : ℕ) → (w >>= index_inside n) ≡ Ok i → i < n
index-taken (Ok x) n i h = index-below n x i h
index-taken (Err f) n i h = cc

pub leads_to_element : (gs ls : List Slot) (t : Target) (u : Turn) (x : Expr) (c : FlatCell) (a : WideIndex) → (out-Target t).turns ≡ u ∷ [] → (out-Turn u).index ≡ Some x → (out-Turn u).stride ≡ 1
    → AreCells gs ls t (out-Turn u).offset (out-Turn u).length c → IsWideIndex gs ls x a → IsWideCell gs ls t (Element (record { first = c; length = (out-Turn u).length; index = a }))
leads_to_element gs ls t u x c a one indexed stride are is frames cs process count timeout fits =
    let r : Reading = reading_of frames cs process count timeout in
    let base = base_of frames process in
    let s = are frames cs process count timeout fits in
    let g = is frames cs process count timeout fits in
    let o = r.frame (out-Target t).local in
    let v = (out-Target t).variable in
    let n = (out-Turn u).length in
    let w = index_worth (joined frames) base r.pid a in
    let turns : turned_by u r ≡ (w >>= index_inside n >>= λ i. Ok ((out-Turn u).offset + i * 1)) =
    element-is u x r indexed stride ∙ ap (λ (q : Result ℤ Fault). q >>= index_inside n >>= λ i. Ok ((out-Turn u).offset + i * 1)) g.value in
    let leads : place t r ≡ (w >>= index_inside n >>= (λ i. Ok ((out-Turn u).offset + i * 1)) >>= (λ m. cell_inside (size_at frames o v) (0 + m) >>= λ c. Ok c) >>= λ cell. Ok (cell_at r t cell)) =
    place-turned t u r one s.some ∙ ap (λ (q : Result ℕ Fault). q >>= (λ m. cell_inside (size_at frames o v) (0 + m) >>= λ c. Ok c) >>= λ cell. Ok (cell_at r t cell)) turns in
    record {
      place = subst (λ (q : Result Place Fault). IsPlaced frames (w >>= index_inside n >>= λ i. Ok (index base c + i)) q) (sym leads)
          (leads_on frames base o v (out-Turn u).offset n c s (w >>= index_inside n) (index-taken w n));
      within = record { index = g.within; elements = s.end };
    }

pub leads_to_cell : (gs ls : List Slot) (t : Target) (c : FlatCell) → IsCell gs ls t c → IsWideCell gs ls t (Cell c)
leads_to_cell gs ls t c is frames cs process count timeout fits =
    let l = is frames cs process count timeout fits in
    let i = index (base_of frames process) c in
    record {
      place = subst (λ (q : Result Place Fault). IsPlaced frames (Ok i) q) (sym l.leads) (l.there, l.stands);
      within = subst (λ (n : ℕ). n < length (joined frames)) l.stands (index-within frames l.at l.there);
    }

-- ---- what expressions are worth

-- what stands at a place is what its cell holds
placed-holds : (frames : List Frame) (o : Result ℕ Fault) (q : Result Place Fault) → IsPlaced frames o q → (q >>= λ p. Ok (number_at frames p)) ≡ (o >>= λ i. Ok (get_or (joined frames) i (pos 0)))
placed-holds frames (Ok i) (Ok p) h = ap Ok (sym (index-holds frames p h.0) ∙ ap (λ (n : ℕ). get_or (joined frames) n (pos 0)) h.1)
placed-holds frames (Ok i) (Err f) h = absurd h
placed-holds frames (Err e) (Ok p) h = absurd h
placed-holds frames (Err e) (Err f) h = ap Err h

pub wide_read : (gs ls : List Slot) (t : Target) (c : WideCell) → IsWideCell gs ls t c → IsWideOperand gs ls (e.Read t) (Held c)
wide_read gs ls t c is frames cs process count timeout fits =
    let r : Reading = reading_of frames cs process count timeout in
    let l = is frames cs process count timeout fits in
    record {
      value = read-is t r ∙ placed-holds frames (wide_at (joined frames) (base_of frames process) r.pid c) (place t r) l.place;
      within = l.within;
    }

pub wide_plain : (gs ls : List Slot) (x : Expr) (a : WideOperand) → IsWideOperand gs ls x a → IsWideWorth gs ls x (Plain a)
wide_plain gs ls x a is frames cs process count timeout fits =
    let g = is frames cs process count timeout fits in
    record { value = g.value; within = g.within }

pub wide_pair : (gs ls : List Slot) (o : Infix) (x y : Expr) (a b : WideOperand) → IsWideOperand gs ls x a → IsWideOperand gs ls y b → IsWideWorth gs ls (e.Binary o x y) (Pair o a b)
wide_pair gs ls o x y a b left right frames cs process count timeout fits =
    let r : Reading = reading_of frames cs process count timeout in
    let f = left frames cs process count timeout fits in
    let g = right frames cs process count timeout fits in
    record {
      value = binary-is o x y r
          ∙ ap (λ (q : Result ℤ Fault). q >>= λ i. unwrap_or (option_map Ok (decided o i)) (val y r >>= λ j. infixed o i j)) f.value
          ∙ ap (λ (q : Result ℤ Fault). wide_number (joined frames) (base_of frames process) r.pid a >>= λ i. unwrap_or (option_map Ok (decided o i)) (q >>= λ j. infixed o i j)) g.value;
      within = (f.within, g.within);
    }

-- ---- what statements do

-- a number goes where a target leads
stored : (frames : List Frame) (word : Scalar) (form : Form) (n : ℤ) (o : Result ℕ Fault) (q : Result Place Fault) → form ≡ Kept word → IsPlaced frames o q
    → IsStored frames (o >>= λ i. let s : FlatStore = record { at = i; number = clipped (Kept word) n } in Ok (Some s))
    (q >>= (λ p. let g : Goes = record { place = p; number = clipped form n } in Ok g) >>= λ g. Ok (Some g))
stored frames word form n (Ok i) (Ok p) k h = (h.0, h.1, ap (λ (f : Form). clipped f n) k)
stored frames word form n (Ok i) (Err f) k h = h
stored frames word form n (Err e) (Ok p) k h = h
stored frames word form n (Err e) (Err f) k h = h

-- and so does what has a value
valued : (frames : List Frame) (word : Scalar) (form : Form) (w : Result ℤ Fault) (o : Result ℕ Fault) (q : Result Place Fault) → form ≡ Kept word → IsPlaced frames o q
    → IsStored frames (w >>= λ n. o >>= λ i. let s : FlatStore = record { at = i; number = clipped (Kept word) n } in Ok (Some s))
    (w >>= λ n. q >>= (λ p. let g : Goes = record { place = p; number = clipped form n } in Ok g) >>= λ g. Ok (Some g))
valued frames word form (Ok n) o q k h = stored frames word form n o q k h
valued frames word form (Err e) o q k h = refl

pub wide_sets : (gs ls : List Slot) (t : Target) (x : Expr) (word : Scalar) (c : WideCell) (v : WideWorth) → IsWideKept gs ls t word c → IsWideWorth gs ls x v → IsWideCode gs ls (Assign (Some t) x) (Set word c v)
wide_sets gs ls t x word c v is comes frames cs process count timeout fits =
    let r : Reading = reading_of frames cs process count timeout in
    let base = base_of frames process in
    let l = is.1 frames cs process count timeout fits in
    let g = comes frames cs process count timeout fits in
    let w = wide_worth (joined frames) base r.pid v in
    let o = wide_at (joined frames) base r.pid c in
    record {
      within = (l.within, g.within);
      does = subst (λ (q : Result ℤ Fault). IsStored frames (w >>= λ n. o >>= λ i. let s : FlatStore = record { at = i; number = clipped (Kept word) n } in Ok (Some s)) (q >>= λ n. goes_to (Some t) n r)) (sym g.value)
          (valued frames word (out-Target t).form w o (place t r) is.0 l.place);
      asks = λ lossy ds in_d_step. refl;
    }

pub wide_same : (gs ls : List Slot) (x y : Action) (code : Option WideCode) → x ≡ y → IfSome code (λ w. IsWideCode gs ls y w) → IfSome code (λ w. IsWideCode gs ls x w)
wide_same gs ls x y code h is = subst (λ (x : Action). IfSome code (λ w. IsWideCode gs ls x w)) (sym h) is

-- what a variable holds and this goes back to it
counted : (frames : List Frame) (word : Scalar) (form : Form) (by : ℤ) (o : Result ℕ Fault) (q : Result Place Fault) → form ≡ Kept word → IsPlaced frames o q
    → IsStored frames (o >>= (λ i. Ok (get_or (joined frames) i (pos 0))) >>= (λ x. Ok (wrapped (x +ℤ by))) >>= λ n. o >>= λ i. let s : FlatStore = record { at = i; number = clipped (Kept word) n } in Ok (Some s))
    (q >>= λ p. q >>= (λ to. let g : Goes = record { place = to; number = clipped form (wrapped (number_at frames p +ℤ by)) } in Ok g) >>= λ g. Ok (Some g))
counted frames word form by (Ok i) (Ok p) k h =
    let same : get_or (joined frames) i (pos 0) ≡ number_at frames p = sym (ap (λ (n : ℕ). get_or (joined frames) n (pos 0)) h.1) ∙ index-holds frames p h.0 in
    (h.0, h.1, ap (λ (f : Form). clipped f (wrapped (number_at frames p +ℤ by))) k ∙ ap (λ (n : ℤ). clipped (Kept word) (wrapped (n +ℤ by))) (sym same))
counted frames word form by (Ok i) (Err f) k h = h
counted frames word form by (Err e) (Ok p) k h = h
counted frames word form by (Err e) (Err f) k h = h

pub wide_counts : (gs ls : List Slot) (t : Target) (by : ℤ) (word : Scalar) (c : WideCell) → IsWideKept gs ls t word c → IsWideCounted gs ls t by (Set word c (Pair op.Plus (Held c) (Number by)))
wide_counts gs ls t by word c is x adds free frames cs process count timeout fits =
    let r : Reading = reading_of frames cs process count timeout in
    let base = base_of frames process in
    let l = is.1 frames cs process count timeout fits in
    let o = wide_at (joined frames) base r.pid c in
    record {
      within = (l.within, (l.within, tt));
      does = subst (λ (g : Result (Option Goes) Fault). IsStored frames (wide_worth (joined frames) base r.pid (Pair op.Plus (Held c) (Number by)) >>= λ n. o >>= λ i. let s : FlatStore = record { at = i; number = clipped (Kept word) n } in Ok (Some s)) g) (sym (adds r))
          (counted frames word (out-Target t).form by o (place t r) is.0 l.place);
      asks = λ lossy ds in_d_step. free lossy ds r in_d_step;
    }

pub wide_up : (gs ls : List Slot) (t : Target) (o : Option WideCode) → IfSome o (λ code. IsWideCounted gs ls t (pos 1) code) → IfSome o (λ code. IsWideCode gs ls (Increment t) code)
wide_up gs ls t None is = tt
wide_up gs ls t (Some code) is = is (Increment t) (adds-one t) (λ lossy cs r d. refl)

pub wide_down : (gs ls : List Slot) (t : Target) (o : Option WideCode) → IfSome o (λ code. IsWideCounted gs ls t (negsuc 0) code) → IfSome o (λ code. IsWideCode gs ls (Decrement t) code)
wide_down gs ls t None is = tt
wide_down gs ls t (Some code) is = is (Decrement t) (takes-one t) (λ lossy cs r d. refl)

asks_nothing : (frames : List Frame) (w : Result ℤ Fault) → IsStored frames (w >>= λ n. Ok None) (w >>= λ n. Ok None)
asks_nothing frames (Ok n) = tt
asks_nothing frames (Err e) = refl

pub wide_asks : (gs ls : List Slot) (x : Expr) (v : WideWorth) → IsWideWorth gs ls x v → IsWideCode gs ls (Holds x) (Ask v)
wide_asks gs ls x v comes frames cs process count timeout fits =
    let r : Reading = reading_of frames cs process count timeout in
    let g = comes frames cs process count timeout fits in
    let w = wide_worth (joined frames) (base_of frames process) r.pid v in
    record {
      within = g.within;
      does = subst (λ (q : Result ℤ Fault). IsStored frames (w >>= λ n. Ok None) (q >>= λ n. Ok None)) (sym g.value) (asks_nothing frames w);
      asks = λ lossy ds in_d_step. ap (λ (o : Result ℤ Fault). o >>= λ n. Ok (not (is_zero n))) g.value;
    }
