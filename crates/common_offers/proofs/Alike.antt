-- What is the same for every process, by its parts.
use Rattle.std.proofs.Common.{◌≡◌, ℕ, zero, suc, ℤ, ◌+◌, ◌≤◌, ◌*◌, false, List, [], ◌∷◌, map, length, drop, Option, Some, None, Result, Ok, Err, refl, sym, ap, subst, ◌∙◌, option_map, unwrap_or, arith}
use Rattle.std.specs.Prelude.{ok_or, slice_get}
use Rattle.std.proofs.lemmas.List.{drop_all}
use denote.Hole.Carrier.{roll}
use Rattle.diagnostics.specs.declared.fault.Fault.{Fault}
use Rattle.diagnostics.specs.declared.fault.Fault.TheVariants.{NoSuchChannel}
use Rattle.pml_tree.specs.declared.tree.Fill.{Fill}
use Rattle.pml_tree.specs.declared.tree.Infix.{Infix}
use Rattle.pml_tree.specs.declared.tree.Prefix.{Prefix}
use Rattle.pml_program.specs.declared.expr.Expr.{Expr, Expr-F, roll-Expr, fold-roll-Expr}
use Rattle.pml_program.specs.declared.expr.Expr.TheVariants as x
use Rattle.pml_program.specs.declared.expr.Want.{Want, Want-F, roll-Want, fold-roll-Want}
use Rattle.pml_program.specs.declared.expr.Want.TheVariants as w
use Rattle.pml_program.specs.declared.expr.Target.{Target, fold-roll-Target, out-Target, roll-out-Target}
use Rattle.pml_program.specs.declared.expr.Turn.{Turn, Turn-F, map-Turn, fold-roll-Turn, out-Turn, roll-out-Turn}
use Rattle.promela_process.specs.declared.sought.Sought.TheVariants.{Exactly, Into, Anything}
use Rattle.promela_process.specs.Numbers.{truth_number, prefixed, infixed, decided}
use Rattle.promela_process.specs.Expressions.{Reading, Valued, Wanted, Placed, Turned, val, want, placed_target, place, turned_by, cells_of, cell_in, index_of, cell_inside, filled, asked_by, value_step, want_step, target_step, turn_step, ◌>>=◌}
use Rattle.common_offers.specs.Alike.{AreAlike, IsCommon, IsCommonPlace, IsCommonTurn, AreCommonTurns, IsCommonWant, AreCommonWants}

-- ---- lists

opened : {A : Type 0} (xs : List A) (i : ℕ) (x : A) → slice_get xs i ≡ Some x → drop i xs ≡ x ∷ drop (i + 1) xs
opened [] i x e = cc
opened (y ∷ ys) zero x e = let same : y ≡ x = cc in ap (λ z. z ∷ ys) same
opened (y ∷ ys) (suc i) x e = let n : suc (i + 1) ≡ suc i + 1 = omega arith in opened ys i x e ∙ ap (λ k. x ∷ drop k (y ∷ ys)) n

-- ---- results

then_same : {X Y : Type 0} (x : Result X Fault) (f g : X → Result Y Fault) → ((v : X) → f v ≡ g v) → (x >>= f) ≡ (x >>= g)
then_same (Ok x) f g h = h x
then_same (Err e) f g h = refl

both_same : {X Y : Type 0} (x y : Result X Fault) (f g : X → Result Y Fault) → x ≡ y → ((v : X) → f v ≡ g v) → (x >>= f) ≡ (y >>= g)
both_same x y f g e h = then_same x f g h ∙ ap (λ z. z >>= g) e

-- ---- an expression, by its parts

number_is : (n : ℤ) (r : Reading) → val (x.Number n) r ≡ Ok n
unfolding roll-Expr roll
number_is n r = ap (λ (f : Valued). f r) (fold-roll-Expr Valued Wanted Placed Turned value_step want_step target_step turn_step (Expr-F.Number n))

pub number_common : (n : ℤ) → IsCommon (x.Number n)
number_common n r q a = number_is n r ∙ sym (number_is n q)

count_is : (r : Reading) → val x.ProcessCount r ≡ Ok r.process_count
unfolding roll-Expr roll
count_is r = ap (λ (f : Valued). f r) (fold-roll-Expr Valued Wanted Placed Turned value_step want_step target_step turn_step Expr-F.ProcessCount)

pub count_common : IsCommon x.ProcessCount
count_common r q a = count_is r ∙ (ap Ok a.process_count ∙ sym (count_is q))

timeout_is : (r : Reading) → val x.Timeout r ≡ Ok (truth_number r.timeout)
unfolding roll-Expr roll
timeout_is r = ap (λ (f : Valued). f r) (fold-roll-Expr Valued Wanted Placed Turned value_step want_step target_step turn_step Expr-F.Timeout)

pub timeout_common : IsCommon x.Timeout
timeout_common r q a = timeout_is r ∙ (ap (λ b. Ok (truth_number b)) a.timeout ∙ sym (timeout_is q))

read_is : (t : Target) (r : Reading) → val (x.Read t) r ≡ (place t r >>= λ at. Ok (r.holds at))
unfolding roll-Expr roll
read_is t r = ap (λ (f : Valued). f r) (fold-roll-Expr Valued Wanted Placed Turned value_step want_step target_step turn_step (Expr-F.Read t))

pub read_common : (t : Target) → IsCommonPlace t → IsCommon (x.Read t)
read_common t h r q a =
    read_is t r
    ∙ (both_same (place t r) (place t q) (λ at. Ok (r.holds at)) (λ at. Ok (q.holds at)) (h r q a) (λ at. ap Ok (a.holds at))
    ∙ sym (read_is t q))

ask_is : (fill : Fill) (t : Target) (r : Reading) → val (x.Ask fill t) r ≡ (place t r >>= λ at. ok_or (option_map (filled fill) (r.channel (r.holds at))) NoSuchChannel)
unfolding roll-Expr roll
ask_is fill t r = ap (λ (f : Valued). f r) (fold-roll-Expr Valued Wanted Placed Turned value_step want_step target_step turn_step (Expr-F.Ask fill t))

pub ask_common : (fill : Fill) (t : Target) → IsCommonPlace t → IsCommon (x.Ask fill t)
ask_common fill t h r q a =
    ask_is fill t r
    ∙ (both_same (place t r) (place t q)
    (λ at. ok_or (option_map (filled fill) (r.channel (r.holds at))) NoSuchChannel) (λ at. ok_or (option_map (filled fill) (q.channel (q.holds at))) NoSuchChannel)
    (h r q a)
    (λ at. ap (λ n. ok_or (option_map (filled fill) (r.channel n)) NoSuchChannel) (a.holds at)
    ∙ ap (λ c. ok_or (option_map (filled fill) c) NoSuchChannel) (a.channel (q.holds at)))
    ∙ sym (ask_is fill t q))

unary_is : (op : Prefix) (e : Expr) (r : Reading) → val (x.Unary op e) r ≡ (val e r >>= λ n. Ok (prefixed op n))
unfolding roll-Expr roll
unary_is op e r = ap (λ (f : Valued). f r) (fold-roll-Expr Valued Wanted Placed Turned value_step want_step target_step turn_step (Expr-F.Unary op e))

pub unary_common : (op : Prefix) (e : Expr) → IsCommon e → IsCommon (x.Unary op e)
unary_common op e h r q a = unary_is op e r ∙ (ap (λ v. v >>= λ n. Ok (prefixed op n)) (h r q a) ∙ sym (unary_is op e q))

binary_is : (op : Infix) (e d : Expr) (r : Reading) → val (x.Binary op e d) r ≡ (val e r >>= λ n. unwrap_or (option_map Ok (decided op n)) (val d r >>= λ m. infixed op n m))
unfolding roll-Expr roll
binary_is op e d r = ap (λ (f : Valued). f r) (fold-roll-Expr Valued Wanted Placed Turned value_step want_step target_step turn_step (Expr-F.Binary op e d))

pub binary_common : (op : Infix) (e d : Expr) → IsCommon e → IsCommon d → IsCommon (x.Binary op e d)
binary_common op e d h k r q a =
    binary_is op e d r
    ∙ (both_same (val e r) (val e q)
    (λ n. unwrap_or (option_map Ok (decided op n)) (val d r >>= λ m. infixed op n m)) (λ n. unwrap_or (option_map Ok (decided op n)) (val d q >>= λ m. infixed op n m))
    (h r q a) (λ n. ap (λ v. unwrap_or (option_map Ok (decided op n)) (v >>= λ m. infixed op n m)) (k r q a))
    ∙ sym (binary_is op e d q))

-- ---- a reference

abbrev turned : Turn-F Expr Want Target Turn → Turned
turned y = turn_step (map-Turn Expr Want Target Turn Valued Wanted Placed Turned val want placed_target turned_by y)

layer_of : (o l s : ℕ) (x : Option Expr) (r : Reading) → turned (record { offset = o; length = l; stride = s; index = x }) r ≡ (index_of (option_map val x) l r >>= λ i. Ok (o + i * s))
layer_of o l s None r = refl
layer_of o l s (Some e) r = refl

turn_is : (t : Turn) (r : Reading) → turned_by t r ≡ (index_of (option_map val (out-Turn t).index) (out-Turn t).length r >>= λ i. Ok ((out-Turn t).offset + i * (out-Turn t).stride))
turn_is t r =
    ap (λ (u : Turn). turned_by u r) (sym (roll-out-Turn t))
    ∙ (ap (λ (f : Turned). f r) (fold-roll-Turn Valued Wanted Placed Turned value_step want_step target_step turn_step (out-Turn t))
    ∙ layer_of (out-Turn t).offset (out-Turn t).length (out-Turn t).stride (out-Turn t).index r)

-- without an index it leads as far in every reading
pub turn_common : (t : Turn) → (out-Turn t).index ≡ None → IsCommonTurn t
turn_common t none r q a = is r ∙ sym (is q)
  where
    is : (z : Reading) → turned_by t z ≡ Ok ((out-Turn t).offset + 0 * (out-Turn t).stride)
    is z = turn_is t z ∙ ap (λ (o : Option Expr). index_of (option_map val o) (out-Turn t).length z >>= λ i. Ok ((out-Turn t).offset + i * (out-Turn t).stride)) none

turns_same : (ts : List Turn) → AreCommonTurns ts → (r q : Reading) → AreAlike r q → (whole cell : ℕ) → cells_of (map turned_by ts) whole cell r ≡ cells_of (map turned_by ts) whole cell q
turns_same [] h r q a whole cell = refl
turns_same (t ∷ ts) h r q a whole cell =
    both_same (turned_by t r) (turned_by t q)
    (λ n. cell_inside whole (cell + n) >>= λ c. cells_of (map turned_by ts) whole c r) (λ n. cell_inside whole (cell + n) >>= λ c. cells_of (map turned_by ts) whole c q)
    (h.0 r q a) (λ n. then_same (cell_inside whole (cell + n)) (λ c. cells_of (map turned_by ts) whole c r) (λ c. cells_of (map turned_by ts) whole c q) (λ c. turns_same ts h.1 r q a whole c))

place_is : (t : Target) (r : Reading) → place t r ≡ cell_in (r.frame (out-Target t).local) (out-Target t).variable (map turned_by (out-Target t).turns) r
place_is t r =
    ap (λ (u : Target). place u r) (sym (roll-out-Target t))
    ∙ ap (λ (f : Placed). f.lies r) (fold-roll-Target Valued Wanted Placed Turned value_step want_step target_step turn_step (out-Target t))

-- a global variable without an index is at the same place for each
pub place_common : (t : Target) → (out-Target t).local ≡ false → AreCommonTurns (out-Target t).turns → IsCommonPlace t
place_common t global h r q a =
    let v = (out-Target t).variable in
    let ts = map turned_by (out-Target t).turns in
    place_is t r
    ∙ (ap (λ b. cell_in (r.frame b) v ts r) global
    ∙ (ap (λ f. cell_in f v ts r) a.frame
    ∙ (ap (λ n. cell_inside n 0 >>= λ c. cells_of ts n c r >>= λ cell. Ok (record { frame = q.frame false; variable = v; cell = cell })) (a.cells (q.frame false) v)
    ∙ (then_same (cell_inside (q.cells (q.frame false) v) 0)
    (λ c. cells_of ts (q.cells (q.frame false) v) c r >>= λ cell. Ok (record { frame = q.frame false; variable = v; cell = cell }))
    (λ c. cells_of ts (q.cells (q.frame false) v) c q >>= λ cell. Ok (record { frame = q.frame false; variable = v; cell = cell }))
    (λ c. ap (λ o. o >>= λ cell. Ok (record { frame = q.frame false; variable = v; cell = cell })) (turns_same (out-Target t).turns h r q a (q.cells (q.frame false) v) c))
    ∙ (ap (λ b. cell_in (q.frame b) v ts q) (sym global)
    ∙ sym (place_is t q))))))

-- ---- what is asked of a field

exactly_is : (n : ℤ) (r : Reading) → want (w.Exactly n) r ≡ Ok (Exactly n)
unfolding roll-Want roll
exactly_is n r = ap (λ (f : Wanted). f r) (fold-roll-Want Valued Wanted Placed Turned value_step want_step target_step turn_step (Want-F.Exactly n))

pub exactly_common : (n : ℤ) → IsCommonWant (w.Exactly n)
exactly_common n r q a = exactly_is n r ∙ sym (exactly_is n q)

anything_is : (r : Reading) → want w.Anything r ≡ Ok Anything
unfolding roll-Want roll
anything_is r = ap (λ (f : Wanted). f r) (fold-roll-Want Valued Wanted Placed Turned value_step want_step target_step turn_step Want-F.Anything)

pub anything_common : IsCommonWant w.Anything
anything_common r q a = anything_is r ∙ sym (anything_is q)

equal_is : (e : Expr) (r : Reading) → want (w.Equal e) r ≡ (val e r >>= λ n. Ok (Exactly n))
unfolding roll-Want roll
equal_is e r = ap (λ (f : Wanted). f r) (fold-roll-Want Valued Wanted Placed Turned value_step want_step target_step turn_step (Want-F.Equal e))

pub equal_common : (e : Expr) → IsCommon e → IsCommonWant (w.Equal e)
equal_common e h r q a = equal_is e r ∙ (ap (λ v. v >>= λ n. Ok (Exactly n)) (h r q a) ∙ sym (equal_is e q))

into_is : (t : Target) (r : Reading) → want (w.Into t) r ≡ (place t r >>= λ at. Ok (Into at (placed_target t).form))
unfolding roll-Want roll
into_is t r = ap (λ (f : Wanted). f r) (fold-roll-Want Valued Wanted Placed Turned value_step want_step target_step turn_step (Want-F.Into t))

pub into_common : (t : Target) → IsCommonPlace t → IsCommonWant (w.Into t)
into_common t h r q a = into_is t r ∙ (ap (λ p. p >>= λ at. Ok (Into at (placed_target t).form)) (h r q a) ∙ sym (into_is t q))

-- ---- what is asked of a message, argument by argument

abbrev pub EachIsCommon : List Want → Type 0
EachIsCommon [] = Unit {0}
EachIsCommon (w ∷ ws) = IsCommonWant w × EachIsCommon ws

pub wants_common : (ws : List Want) → EachIsCommon ws → AreCommonWants ws
wants_common [] h r q a = refl
wants_common (w ∷ ws) h r q a =
    both_same (want w r) (want w q) (λ v. asked_by ws r >>= λ vs. Ok (v ∷ vs)) (λ v. asked_by ws q >>= λ vs. Ok (v ∷ vs))
    (h.0 r q a) (λ v. ap (λ o. o >>= λ vs. Ok (v ∷ vs)) (wants_common ws h.1 r q a))

-- ---- one after another

-- one turn more
pub also_turn : (ts : List Turn) (i : ℕ) (t : Turn) → slice_get ts i ≡ Some t → IsCommonTurn t → (AreCommonTurns (drop i ts) → AreCommonTurns ts) → AreCommonTurns (drop (i + 1) ts) → AreCommonTurns ts
also_turn ts i t at here all rest = all (subst AreCommonTurns (sym (opened ts i t at)) (here, rest))

-- one argument more
pub also_want : (ws : List Want) (i : ℕ) (w : Want) → slice_get ws i ≡ Some w → IsCommonWant w → (EachIsCommon (drop i ws) → EachIsCommon ws) → EachIsCommon (drop (i + 1) ws) → EachIsCommon ws
also_want ws i w at here all rest = all (subst EachIsCommon (sym (opened ws i w at)) (here, rest))

-- behind the last there is none
pub no_turns : (ts : List Turn) (i : ℕ) → length ts ≤ i → AreCommonTurns (drop i ts)
no_turns ts i l = subst AreCommonTurns (sym (drop_all i ts l)) (tt {0})

pub no_wants : (ws : List Want) (i : ℕ) → length ws ≤ i → EachIsCommon (drop i ws)
no_wants ws i l = subst EachIsCommon (sym (drop_all i ws l)) (tt {0})
