-- One step more, or the first fault.
use Rattle.std.proofs.Common.{◌≡◌, ℕ, suc, ◌+◌, ◌-◌, ◌<◌, List, ◌∷◌, length, get_or, drop, ℤ, Result, Ok, Err, sym, ap, ◌∙◌, arith, subst}
use Rattle.std.proofs.lemmas.List.{drop_more}
use Rattle.diagnostics.specs.declared.fault.Fault.{Fault}
use Rattle.pml_program.specs.declared.program.Slot.{Slot}
use Rattle.pml_program.specs.declared.program.Fields.{Fields}
use Rattle.pml_program.specs.declared.program.Proctype.{Proctype}
use Rattle.pml_program.specs.declared.program.Program.{Program}
use Rattle.promela_process.specs.Expressions.{◌>>=◌}
use Rattle.diagnostics.specs.declared.stop.Stop.{Stop}
use Rattle.diagnostics.specs.declared.stop.Stop.TheVariants as stop
use Rattle.promela_run.specs.State.{State, fields_begun, with_value, with_values, variable_begun, variables_begun, process_begun, sort_begun, sorts_begun}
use Rattle.run_start.specs.Shown.{Begins}
use Rattle.run_start.specs.Starting.{Starts}
use Rattle.run_start.specs.Known.{leaf_begun}

-- a step that is made leads on
pub made : (x : Result State Fault) (u : Unit {0}) (b : State) (rest : State → Result State Fault) → Begins x (Ok u) b → (x >>= rest) ≡ rest b
made (Ok x) u b rest h = ap rest (sym h)
made (Err f) u b rest h = absurd h

-- a step that stops is the end
pub stopped : (x y : Result State Fault) (s : Stop) (a b : State) (rest : State → Result State Fault) → (x >>= rest) ≡ y → Begins x (Err s) a → Begins y (Err s) b
stopped x (Ok y) stop.Memory a b rest e h = tt
stopped x (Err y) stop.Memory a b rest e h = tt
stopped (Ok x) y (stop.Fault g) a b rest e h = absurd h
stopped (Err x) y (stop.Fault g) a b rest e h = subst (λ (z : Result State Fault). Begins z (Err (stop.Fault g)) b) e h

-- the same for the first state
pub start_stopped : (p : Program) (x y : Result State Fault) (s : Stop) (a : State) (rest : State → Result State Fault) → (x >>= rest) ≡ y → Begins x (Err s) a → Starts p y (Err s)
start_stopped p x (Ok y) stop.Memory a rest e h = tt
start_stopped p x (Err y) stop.Memory a rest e h = tt
start_stopped p (Ok x) y (stop.Fault g) a rest e h = absurd h
start_stopped p (Err x) y (stop.Fault g) a rest e h = subst (λ (z : Result State Fault). Starts p z (Err (stop.Fault g))) e h

-- ---- a cell

fields_next : (ts : List Fields) (s : Slot) (i cell n : ℕ) (b : State) → cell < n → fields_begun ts s i cell (n - cell) b ≡ (leaf_begun ts s i cell b >>= fields_begun ts s i (cell + 1) (n - (cell + 1)))
fields_next ts s i cell n b h =
    let m : n - cell ≡ suc (n - (cell + 1)) = omega (arith, h) in
    ap (λ (k : ℕ). fields_begun ts s i cell k b) m

pub fields_made : (ts : List Fields) (s : Slot) (i cell n : ℕ) (b new : State) (y : Result State Fault) (u : Unit {0}) → cell < n → fields_begun ts s i cell (n - cell) b ≡ y → Begins (leaf_begun ts s i cell b) (Ok u) new → fields_begun ts s i (cell + 1) (n - (cell + 1)) new ≡ y
fields_made ts s i cell n b new y u h k m =
    sym (made (leaf_begun ts s i cell b) u new (fields_begun ts s i (cell + 1) (n - (cell + 1))) m) ∙ sym (fields_next ts s i cell n b h) ∙ k

pub fields_stopped : (ts : List Fields) (s : Slot) (i cell n : ℕ) (b new last : State) (y : Result State Fault) (t : Stop) → cell < n → fields_begun ts s i cell (n - cell) b ≡ y → Begins (leaf_begun ts s i cell b) (Err t) new → Begins y (Err t) last
fields_stopped ts s i cell n b new last y t h k m =
    stopped (leaf_begun ts s i cell b) y t new last (fields_begun ts s i (cell + 1) (n - (cell + 1))) (sym (fields_next ts s i cell n b h) ∙ k) m

values_next : (i : ℕ) (v : ℤ) (cell n : ℕ) (b : State) → cell < n → with_values i v cell (n - cell) b ≡ with_values i v (cell + 1) (n - (cell + 1)) (with_value i cell v b)
values_next i v cell n b h =
    let e : n - cell ≡ suc (n - (cell + 1)) = omega (arith, h) in
    ap (λ (m : ℕ). with_values i v cell m b) e

pub values_made : (i : ℕ) (v : ℤ) (cell n : ℕ) (b new y : State) → cell < n → with_values i v cell (n - cell) b ≡ y → new ≡ with_value i cell v b → with_values i v (cell + 1) (n - (cell + 1)) new ≡ y
values_made i v cell n b new y h e k =
    ap (λ (x : State). with_values i v (cell + 1) (n - (cell + 1)) x) k ∙ sym (values_next i v cell n b h) ∙ e

-- ---- a variable

variables_next : (ts : List Fields) (ss : List Slot) (i : ℕ) (s : Slot) (b : State) → i < length ss → s ≡ get_or ss i s → variables_begun ts (drop i ss) i b ≡ (variable_begun ts s.initial s i b >>= variables_begun ts (drop (i + 1) ss) (i + 1))
variables_next ts ss i s b h e =
    let d : drop i ss ≡ s ∷ drop (i + 1) ss = drop_more ss i s h ∙ ap (λ (x : Slot). x ∷ drop (i + 1) ss) (sym e) in
    ap (λ (x : List Slot). variables_begun ts x i b) d

pub variables_made : (ts : List Fields) (ss : List Slot) (i : ℕ) (s : Slot) (b new : State) (y : Result State Fault) (u : Unit {0}) → i < length ss → s ≡ get_or ss i s → variables_begun ts (drop i ss) i b ≡ y → Begins (variable_begun ts s.initial s i b) (Ok u) new → variables_begun ts (drop (i + 1) ss) (i + 1) new ≡ y
variables_made ts ss i s b new y u h e k m =
    sym (made (variable_begun ts s.initial s i b) u new (variables_begun ts (drop (i + 1) ss) (i + 1)) m) ∙ sym (variables_next ts ss i s b h e) ∙ k

pub variables_stopped : (ts : List Fields) (ss : List Slot) (i : ℕ) (s : Slot) (b new last : State) (y : Result State Fault) (t : Stop) → i < length ss → s ≡ get_or ss i s → variables_begun ts (drop i ss) i b ≡ y → Begins (variable_begun ts s.initial s i b) (Err t) new → Begins y (Err t) last
variables_stopped ts ss i s b new last y t h e k m =
    stopped (variable_begun ts s.initial s i b) y t new last (variables_begun ts (drop (i + 1) ss) (i + 1)) (sym (variables_next ts ss i s b h e) ∙ k) m

-- ---- a process

sort_next : (p : Program) (k i n : ℕ) (b : State) → i < n → sort_begun p k (n - i) b ≡ (process_begun p k b >>= sort_begun p k (n - (i + 1)))
sort_next p k i n b h =
    let e : n - i ≡ suc (n - (i + 1)) = omega (arith, h) in
    ap (λ (m : ℕ). sort_begun p k m b) e

pub sort_made : (p : Program) (k i n : ℕ) (b new : State) (y : Result State Fault) (u : Unit {0}) → i < n → sort_begun p k (n - i) b ≡ y → Begins (process_begun p k b) (Ok u) new → sort_begun p k (n - (i + 1)) new ≡ y
sort_made p k i n b new y u h e m =
    sym (made (process_begun p k b) u new (sort_begun p k (n - (i + 1))) m) ∙ sym (sort_next p k i n b h) ∙ e

pub sort_stopped : (p : Program) (k i n : ℕ) (b new last : State) (y : Result State Fault) (t : Stop) → i < n → sort_begun p k (n - i) b ≡ y → Begins (process_begun p k b) (Err t) new → Begins y (Err t) last
sort_stopped p k i n b new last y t h e m =
    stopped (process_begun p k b) y t new last (sort_begun p k (n - (i + 1))) (sym (sort_next p k i n b h) ∙ e) m

-- ---- the processes of a proctype

sorts_next : (p : Program) (i : ℕ) (q : Proctype) (b : State) → i < length p.proctypes → q ≡ get_or p.proctypes i q → sorts_begun p i (drop i p.proctypes) b ≡ (sort_begun p i q.starts b >>= sorts_begun p (i + 1) (drop (i + 1) p.proctypes))
sorts_next p i q b h e =
    let d : drop i p.proctypes ≡ q ∷ drop (i + 1) p.proctypes = drop_more p.proctypes i q h ∙ ap (λ (x : Proctype). x ∷ drop (i + 1) p.proctypes) (sym e) in
    ap (λ (x : List Proctype). sorts_begun p i x b) d

pub sorts_made : (p : Program) (i : ℕ) (q : Proctype) (b new : State) (y : Result State Fault) (u : Unit {0}) → i < length p.proctypes → q ≡ get_or p.proctypes i q → sorts_begun p i (drop i p.proctypes) b ≡ y → Begins (sort_begun p i q.starts b) (Ok u) new → sorts_begun p (i + 1) (drop (i + 1) p.proctypes) new ≡ y
sorts_made p i q b new y u h e k m =
    sym (made (sort_begun p i q.starts b) u new (sorts_begun p (i + 1) (drop (i + 1) p.proctypes)) m) ∙ sym (sorts_next p i q b h e) ∙ k

pub sorts_stopped : (p : Program) (i : ℕ) (q : Proctype) (b new : State) (y : Result State Fault) (t : Stop) → i < length p.proctypes → q ≡ get_or p.proctypes i q → sorts_begun p i (drop i p.proctypes) b ≡ y → Begins (sort_begun p i q.starts b) (Err t) new → Starts p y (Err t)
sorts_stopped p i q b new y t h e k m =
    start_stopped p (sort_begun p i q.starts b) y t new (sorts_begun p (i + 1) (drop (i + 1) p.proctypes)) (sym (sorts_next p i q b h e) ∙ k) m
