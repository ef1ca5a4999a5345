-- Flat codes of the statements of a model.
use Rattle.std.proofs.Common.{◌≡◌, ℕ, zero, suc, Bool, true, false, List, [], ◌∷◌, ◌++◌, length, get_or, refl, sym, ap, subst, ◌∙◌, arith, Option, Some, None, Result, Ok, Err, OnOk, slice_get, length-append}
use Rattle.std.specs.Borrow.{Bor}
use Rattle.std.specs.Prelude.{IfSome, if◌then◌else◌, nat_lt}
use Rattle.std.specs.Option.{option_copied, option_map_or}
use Rattle.std.proofs.lemmas.Option.{option_and_then_some}
use Rattle.pml_program.specs.declared.program.Basic.{Basic, Plain}
use Rattle.pml_program.specs.declared.program.Stmt.{Stmt}
use Rattle.pml_program.specs.declared.program.Slot.{Slot}
use Rattle.pml_program.specs.declared.program.Proctype.{Proctype}
use Rattle.pml_program.specs.declared.program.Program.{Program}
use Rattle.promela_run.specs.State.{variables_at}
use Rattle.flat_code.specs.declared.code.FlatCode.{FlatCode}
use Rattle.flat_code.specs.declared.code.FlatCode.TheVariants.{No, Set, Ask, Wide}
use Rattle.flat_code.specs.declared.wide.WideCode.{WideCode}
use Rattle.flat_code.specs.Flat.{IsCodeOf}
use Rattle.flat_code.specs.Wide.{CodeTable, IsEntry, IsNamed, IsWideCodeOf, wide_named, wide_of, with_wide}
use Rattle.run_state.specs.Standing.{statements_of}
use Rattle.run_state.proofs.Finding.{got}
use Rattle.run_state.specs.Coded.{basic_in, no_table, statements_at, AddsCode, AreCodes, AreAllCodes, IsFlatOf}

-- what is so of each of a list, and past its end, is so with one more
one_more : {A : Type 0} (P : ℕ → A → Type 0) (xs : List A) (x d : A) (k : ℕ) → ((n : ℕ) → P n (get_or xs n d)) → ((n : ℕ) → P n d) → k ≡ length xs → P k x → (n : ℕ) → P n (get_or (xs ++ x ∷ []) n d)
one_more P [] x d k h none e p zero = subst (λ (m : ℕ). P m x) e p
one_more P [] x d k h none e p (suc n) = none (suc n)
one_more P (y ∷ xs) x d zero h none e p n = absurd (omega (arith, e))
one_more P (y ∷ xs) x d (suc k) h none e p zero = h zero
one_more P (y ∷ xs) x d (suc k) h none e p (suc n) = one_more (λ m. P (suc m)) xs x d k (λ m. h (suc m)) (λ m. none (suc m)) (omega (arith, e)) p n

-- no code says nothing
pub no_code : (gs ls : List Slot) (ws : List WideCode) (o : Option Basic) → IsEntry gs ls ws o No
no_code gs ls ws None = refl
no_code gs ls ws (Some (Plain x)) = tt
no_code gs ls ws (Some b) = refl

pub no_codes : (gs ls : List Slot) (ss : List (Option Stmt)) → AreCodes gs ls ss no_table
no_codes gs ls ss n = no_code gs ls [] (basic_in ss n)

-- ---- a code more

names_none : (at : ℕ) → Wide at ≡ No → ⊥
names_none at h = cc

names_nothing : (gs ls : List Slot) (o : Option Basic) (at : ℕ) → IsCodeOf gs ls o (Wide at) → ⊥
names_nothing gs ls None at h = names_none at h
names_nothing gs ls (Some (Plain x)) at h = h
names_nothing gs ls (Some b) at h = names_none at h

-- a code by itself is one of each table
by_itself : (gs ls : List Slot) (ws : List WideCode) (o : Option Basic) (code : FlatCode) → IsCodeOf gs ls o code → IsEntry gs ls ws o code
by_itself gs ls ws o (Wide at) h = absurd (names_nothing gs ls o at h)
by_itself gs ls ws o code h = h

pub no_flat : (gs ls : List Slot) (o : Option Basic) → IsCodeOf gs ls o No
no_flat gs ls None = refl
no_flat gs ls (Some (Plain x)) = tt
no_flat gs ls (Some b) = refl

pub adds_flat : (gs ls : List Slot) (o : Option Basic) (t : CodeTable) (code : FlatCode) → IsCodeOf gs ls o code → AddsCode gs ls o t (record t { codes = t.codes ++ code ∷ [] })
adds_flat gs ls o t code h = record {
  counted = let a = length-append t.codes (code ∷ []) in omega (arith, a);
  are = λ ss e all. one_more (λ n c. IsEntry gs ls t.wide (basic_in ss n) c) t.codes code No (length t.codes) all (λ n. no_code gs ls t.wide (basic_in ss n)) refl
      (subst (λ (b : Option Basic). IsEntry gs ls t.wide b code) (sym e) (by_itself gs ls t.wide o code h));
}

-- a wide code that is named stays with one more
named_still : (gs ls : List Slot) (o : Option Basic) (ws : List WideCode) (w : WideCode) (at : ℕ) → IsNamed gs ls o (slice_get ws at) → IsNamed gs ls o (slice_get (ws ++ w ∷ []) at)
named_still gs ls o [] w at h = absurd h
named_still gs ls o (v ∷ ws) w zero h = h
named_still gs ls o (v ∷ ws) w (suc at) h = named_still gs ls o ws w at h

named_last : (gs ls : List Slot) (o : Option Basic) (ws : List WideCode) (w : WideCode) → IsWideCodeOf gs ls o w → IsNamed gs ls o (slice_get (ws ++ w ∷ []) (length ws))
named_last gs ls o [] w h = h
named_last gs ls o (v ∷ ws) w h = named_last gs ls o ws w h

entry_still : (gs ls : List Slot) (ws : List WideCode) (w : WideCode) (o : Option Basic) (code : FlatCode) → IsEntry gs ls ws o code → IsEntry gs ls (ws ++ w ∷ []) o code
entry_still gs ls ws w o (Wide at) h = named_still gs ls o ws w at h
entry_still gs ls ws w o code h = h

pub adds_wide : (gs ls : List Slot) (o : Option Basic) (t : CodeTable) (w : WideCode) → IsWideCodeOf gs ls o w → AddsCode gs ls o t (with_wide t w)
adds_wide gs ls o t w h = cases (nat_lt (length t.wide) 65536)
  where
    cases : (b : Bool) → AddsCode gs ls o t (if b then record { codes = t.codes ++ Wide (length t.wide) ∷ []; wide = t.wide ++ w ∷ [] } else record t { codes = t.codes ++ No ∷ [] })
    cases true = record {
      counted = let a = length-append t.codes (Wide (length t.wide) ∷ []) in omega (arith, a);
      are = λ ss e all.
          let ws = t.wide ++ w ∷ [] in
          one_more (λ n c. IsEntry gs ls ws (basic_in ss n) c) t.codes (Wide (length t.wide)) No (length t.codes) (λ n. entry_still gs ls t.wide w (basic_in ss n) (get_or t.codes n No) (all n))
          (λ n. no_code gs ls ws (basic_in ss n)) refl (subst (λ (b : Option Basic). IsNamed gs ls b (slice_get ws (length t.wide))) (sym e) (named_last gs ls o t.wide w h));
    }
    cases false = adds_flat gs ls o t No (no_flat gs ls o)

-- a table that is as wanted has the code
pub adds_wanted : {E : Type 0} (gs ls : List Slot) (o : Option Basic) (old new wanted : CodeTable) (r : Result (Unit {0}) E) → AddsCode gs ls o old wanted → OnOk r (new ≡ wanted) → OnOk r (AddsCode gs ls o old new)
adds_wanted gs ls o old new wanted (Ok u) a e = subst (λ (t : CodeTable). AddsCode gs ls o old t) (sym e) a
adds_wanted gs ls o old new wanted (Err x) a e = tt

-- the codes of a proctype more
pub more_all : (p : Program) (ts : List CodeTable) (t : CodeTable) (k : ℕ) → k ≡ length ts → AreAllCodes p ts → AreCodes p.globals (variables_at p k) (statements_at p k) t → AreAllCodes p (ts ++ t ∷ [])
more_all p ts t k e h c = one_more (λ n. AreCodes p.globals (variables_at p n) (statements_at p n)) ts t no_table k h (λ n. no_codes p.globals (variables_at p n) (statements_at p n)) e c

pub none_yet : (p : Program) → AreAllCodes p []
none_yet p k = no_codes p.globals (variables_at p k) (statements_at p k)

pub body_codes : (p : Program) (k : ℕ) (q : Proctype) (ss : List (Option Stmt)) (t : CodeTable) → slice_get p.proctypes k ≡ Some q → ss ≡ statements_of q.body → AreCodes p.globals q.variables ss t → AreCodes p.globals (variables_at p k) (statements_at p k) t
body_codes p k q ss t h e c =
    let vs : variables_at p k ≡ q.variables = ap (λ (o : Option Proctype). option_map_or (λ (q : Proctype). q.variables) o []) h in
    let ts : statements_at p k ≡ ss = ap (λ (o : Option Proctype). option_map_or (λ (q : Proctype). statements_of q.body) o []) h ∙ sym e in
    subst (λ (v : List Slot). AreCodes p.globals v (statements_at p k) t) (sym vs) (subst (λ (s : List (Option Stmt)). AreCodes p.globals q.variables s t) (sym ts) c)

-- ---- the code at a number

flat_said : (gs ls : List Slot) (ws : List WideCode) (o : Option Basic) (code : FlatCode) → IsEntry gs ls ws o code → IsFlatOf gs ls o code
flat_said gs ls ws o (Wide at) h = tt
flat_said gs ls ws o code h = h

pub code_numbered : (p : Program) (ts : List CodeTable) (k n : ℕ) (o : Option (Bor FlatCode)) → AreAllCodes p ts → option_copied o ≡ slice_get (get_or ts k no_table).codes n
    → IfSome o (λ (code : Bor FlatCode). IsFlatOf p.globals (variables_at p k) (basic_in (statements_at p k) n) code.now)
code_numbered p ts k n None h e = tt
code_numbered p ts k n (Some code) h e =
    let t = get_or ts k no_table in
    let b = basic_in (statements_at p k) n in
    flat_said p.globals (variables_at p k) t.wide b code.now (subst (λ (c : FlatCode). IsEntry p.globals (variables_at p k) t.wide b c) (got t.codes n code.now No (sym e)) (h k n))

wide_said : (gs ls : List Slot) (ws : List WideCode) (o : Option Basic) (code : FlatCode) (w : WideCode) → IsEntry gs ls ws o code → wide_named ws code ≡ Some w → IsWideCodeOf gs ls o w
wide_said gs ls ws o (Wide at) w h e = subst (λ (c : Option WideCode). IsNamed gs ls o c) e h
wide_said gs ls ws o No w h e = cc
wide_said gs ls ws o (Set word c v) w h e = cc
wide_said gs ls ws o (Ask v) w h e = cc

pub wide_numbered : (p : Program) (ts : List CodeTable) (k n : ℕ) (o : Option (Bor WideCode)) → AreAllCodes p ts → option_copied o ≡ wide_of (get_or ts k no_table) n
    → IfSome o (λ (code : Bor WideCode). IsWideCodeOf p.globals (variables_at p k) (basic_in (statements_at p k) n) code.now)
wide_numbered p ts k n None h e = tt
wide_numbered p ts k n (Some w) h e =
    let t = get_or ts k no_table in
    let b = basic_in (statements_at p k) n in
    option_and_then_some (wide_named t.wide) (slice_get t.codes n) w.now (sym e)
    (λ code there named. wide_said p.globals (variables_at p k) t.wide b code w.now (subst (λ (c : FlatCode). IsEntry p.globals (variables_at p k) t.wide b c) (got t.codes n code No there) (h k n)) named)
