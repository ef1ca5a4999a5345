-- States in which each process stands in a body of the model, and what a statement leaves of a state.
use Rattle.std.proofs.Common.{◌≡◌, ℕ, zero, suc, Bool, true, false, if◌then◌else◌, List, [], ◌∷◌, ◌++◌, length, take, nat_lt, ℤ, Option, Some, None, Result, Ok, IfOk, refl, sym, ap, subst, ◌∙◌, append-nil, append_assoc}
use Rattle.std.specs.Prelude.{slice_get, slice_set, option_map}
use Rattle.std.specs.List.{AllByRecursion}
use Rattle.diagnostics.specs.declared.fault.Fault.{Fault}
use Rattle.profile.specs.declared.TheConstants.{MOST_PROCESSES}
use Rattle.pml_program.specs.declared.program.Seq.{Seq}
use Rattle.pml_program.specs.declared.program.Basic.{Basic, Plain, Goto, Break, If', Do', Block, Atomic, DStep, Unless}
use Rattle.pml_program.specs.declared.program.Action.{Action}
use Rattle.pml_program.specs.declared.program.Action.TheVariants as a
use Rattle.pml_program.specs.declared.program.Proctype.{Proctype}
use Rattle.pml_program.specs.declared.program.Program.{Program}
use Rattle.pml_program.specs.declared.program.Run.{Run}
use Rattle.promela_process.specs.Control.{Control, at, steps}
use Rattle.promela_process.specs.Offers.{Offer}
use Rattle.promela_process.specs.Expressions.{Reading, val, ◌>>=◌}
use Rattle.promela_run.specs.declared.moves.Pick.{Pick}
use Rattle.promela_run.specs.declared.goes.Goes.{Goes as Stored}
use Rattle.promela_run.specs.Statements.{outcome, created, goes_to, sent, received, values, asserted}
use Rattle.promela_run.specs.State.{Stand, State, reads, body_of, levels, first_control, youngest_joined}
use Rattle.run_start.proofs.Chaining.{chain, chain_any, weaker}
use Rattle.run_start.proofs.Touching.{Touched, created_touches}
use Rattle.promela_run.specs.Moves.{choices}
use Rattle.promela_run.specs.Steps.{put, put_by, put_all, with_sent, with_received, with_new, ran, run_number, Done, quiet, run_into, does, effect, behind_printed, first_of, onward, within, within_from, taken, body_by}
use Rattle.run_state.specs.Calls.{put_if}
use Rattle.path_laws.proofs.Fitting.{Fits, at_fits, settle_fits}

-- ---- lists

pub all_both : {A : Type 0} (P : A → Type 0) (xs ys : List A) → AllByRecursion P xs → AllByRecursion P ys → AllByRecursion P (xs ++ ys)
all_both P [] ys h k = k
all_both P (x ∷ xs) ys h k = (h.0, all_both P xs ys h.1 k)

pub all_taken : {A : Type 0} (P : A → Type 0) (n : ℕ) (xs : List A) → AllByRecursion P xs → AllByRecursion P (take n xs)
all_taken P zero xs h = tt
all_taken P (suc n) [] h = tt
all_taken P (suc n) (x ∷ xs) h = (h.0, all_taken P n xs h.1)

pub all_set : {A : Type 0} (P : A → Type 0) (xs : List A) (i : ℕ) (x : A) → AllByRecursion P xs → P x → AllByRecursion P (slice_set xs i x)
all_set P [] i x h k = tt
all_set P (y ∷ ys) zero x h k = (k, h.1)
all_set P (y ∷ ys) (suc i) x h k = (h.0, all_set P ys i x h.1 k)

pub some_same : {A : Type 0} (x y : A) → Some x ≡ Some y → x ≡ y
some_same x y e = cc

pub not_some : {A : Type 0} (x : A) → None ≡ Some x → ⊥
not_some x e = cc

pub all_got : {A : Type 0} (P : A → Type 0) (xs : List A) (i : ℕ) (x : A) → AllByRecursion P xs → slice_get xs i ≡ Some x → P x
all_got P [] i x h e = absurd (not_some x e)
all_got P (y ∷ ys) zero x h e = subst P (some_same y x e) h.0
all_got P (y ∷ ys) (suc i) x h e = all_got P ys i x h.1 e

pub got_before : {A : Type 0} (xs ys : List A) (i : ℕ) (x : A) → slice_get xs i ≡ Some x → slice_get (xs ++ ys) i ≡ Some x
got_before [] ys i x e = absurd (not_some x e)
got_before (z ∷ zs) ys zero x e = e
got_before (z ∷ zs) ys (suc i) x e = got_before zs ys i x e

-- ---- states

-- it stands in a body of the model, and what it has to do fits that body
pub record IsFitStand (pr : Program) (y : Stand) : Type 0 where
  pub body : Seq
  pub is : body_of pr y.sort ≡ Some body
  pub fits : Fits body y.control

abbrev pub AreFit : Program → List Stand → Type 0
AreFit pr ys = AllByRecursion (IsFitStand pr) ys

abbrev pub IsFitState : State → Type 0
IsFitState s = AreFit s.program s.stands

-- of the same model, and with no other change of its processes but that some more stand behind them
pub record Grows (s t : State) : Type 0 where
  pub program : t.program ≡ s.program
  pub more : List Stand
  pub fit : AreFit s.program more
  pub stands : t.stands ≡ s.stands ++ more

stays : (s t : State) → t.program ≡ s.program → t.stands ≡ s.stands → Grows s t
stays s t program stands = record { program = program; more = []; fit = tt; stands = stands ∙ sym (append-nil s.stands) }

pub itself : (s : State) → Grows s s
itself s = stays s s refl refl

grows_on : (s t u : State) → Grows s t → Grows t u → Grows s u
grows_on s t u g h = record {
  program = h.program ∙ g.program;
  more = g.more ++ h.more;
  fit = all_both (IsFitStand s.program) g.more h.more g.fit (subst (λ (pr : Program). AreFit pr h.more) g.program h.fit);
  stands = h.stands ∙ ap (λ (l : List Stand). l ++ h.more) g.stands ∙ append_assoc s.stands g.more h.more;
}

pub grown_fits : (s t : State) → IsFitState s → Grows s t → IsFitState t
grown_fits s t f g =
    subst (λ (pr : Program). AreFit pr t.stands) (sym g.program)
    (subst (λ (l : List Stand). AreFit s.program l) (sym g.stands) (all_both (IsFitStand s.program) s.stands g.more f g.fit))

-- ---- what statements do

put_stays : (s : State) (o : Option Stored) → Grows s (put_if s o)
put_stays s None = itself s
put_stays s (Some g) = stays s (put s g) refl refl

pub all_stay : (gs : List Stored) (s : State) → Grows s (put_all s gs)
all_stay [] s = itself s
all_stay (g ∷ gs) s = grows_on s (put s g) (put_all (put s g) gs) (stays s (put s g) refl refl) (all_stay gs (put s g))

by_stays : (s : State) (r : Result (Option Stored) Fault) → IfOk (put_by s r) (Grows s)
by_stays s r = chain_any (Grows s) r (λ g. Ok (put_if s g)) (λ g. put_stays s g)

pub first_fits : (b : Seq) → Fits b (first_control b)
first_fits b = settle_fits b (at (steps b) ([], 0)) (at_fits b ([], 0))

joined_grows : (s n : State) (kind : ℕ) (q : Proctype) → slice_get s.program.proctypes kind ≡ Some q → Touched (youngest_joined (record { sort = kind; control = first_control q.body }) s) n → Grows s n
joined_grows s n kind q e touched = record {
  program = ap (λ (t : State). t.program) touched;
  more = record { sort = kind; control = first_control q.body } ∷ [];
  fit = (record { body = q.body; is = ap (option_map (λ (r : Proctype). r.body)) e; fits = first_fits q.body }, tt);
  stands = ap (λ (t : State). t.stands) touched;
}

new_grows : (s : State) (kind : ℕ) (o : Option Proctype) (vs : List ℤ) → slice_get s.program.proctypes kind ≡ o → IfOk (with_new s kind o vs) (Grows s)
new_grows s kind None vs e = itself s
new_grows s kind (Some q) vs e =
    let y : Stand = record { sort = kind; control = first_control q.body } in
    weaker (Touched (youngest_joined y s)) (Grows s) (created s.program.typedefs y q.variables vs s) (λ n touched. joined_grows s n kind q e touched)
    (created_touches s.program.typedefs y q.variables vs s)

ran_grows : (s : State) (r : Reading) (q : Run) → IfOk (ran s r q) (Grows s)
ran_grows s r q = by (nat_lt (length s.stands) MOST_PROCESSES)
  where
    by : (t : Bool) → IfOk (if t then (values q.arguments r >>= with_new s q.proctype (slice_get s.program.proctypes q.proctype)) else Ok s) (Grows s)
    by true = chain_any (Grows s) (values q.arguments r) (with_new s q.proctype (slice_get s.program.proctypes q.proctype)) (λ vs. new_grows s q.proctype (slice_get s.program.proctypes q.proctype) vs refl)
    by false = itself s

-- so is what is done
abbrev pub GrowsTo : State → Done → Type 0
GrowsTo s d = Grows s d.state

then_quiet : (s : State) (x : Result State Fault) → IfOk x (Grows s) → IfOk (x >>= quiet) (GrowsTo s)
then_quiet s x h = chain (Grows s) (GrowsTo s) x quiet h (λ t g. g)

does_grow : (s : State) (p : ℕ) (t : Bool) (x : Action) → IfOk (does s p t x) (GrowsTo s)
does_grow s p t (a.Run q) = then_quiet s (ran s (reads s p t) q) (ran_grows s (reads s p t) q)
does_grow s p t (a.AssignRun x q) =
    then_quiet s (run_into s p t x q) (chain (Grows s) (Grows s) (ran s (reads s p t) q) (λ now. put_by now (goes_to x (run_number s) (reads now p t))) (ran_grows s (reads s p t) q)
    (λ now g. chain_any (Grows s) (goes_to x (run_number s) (reads now p t)) (λ v. Ok (put_if now v)) (λ v. grows_on s now (put_if now v) g (put_stays now v))))
does_grow s p t (a.Send q order es) =
    then_quiet s (with_sent s (sent s.channels (reads s p t) q order es)) (chain_any (Grows s) (sent s.channels (reads s p t) q order es) (λ cs. Ok (record s { channels = cs })) (λ cs. stays s (record s { channels = cs }) refl refl))
does_grow s p t (a.Receive q search how ws) =
    then_quiet s (with_received s (received s.channels (reads s p t) q search how ws)) (chain_any (Grows s) (received s.channels (reads s p t) q search how ws) (λ x. Ok (record (put_all s x.numbers) { channels = x.live }))
    (λ x. grows_on s (put_all s x.numbers) (record (put_all s x.numbers) { channels = x.live }) (all_stay x.numbers s) (stays (put_all s x.numbers) (record (put_all s x.numbers) { channels = x.live }) refl refl)))
does_grow s p t (a.Printf text es) = chain_any (GrowsTo s) (values es (reads s p t)) _ (λ vs. itself s)
does_grow s p t (a.Printm e) = chain_any (GrowsTo s) (val e (reads s p t)) _ (λ v. itself s)
does_grow s p t (a.Assert e) = chain_any (GrowsTo s) (asserted e (reads s p t)) (λ u. quiet s) (λ u. itself s)
does_grow s p t a.Else = itself s
does_grow s p t (a.Assign x e) = then_quiet s (put_by s (outcome (a.Assign x e) (reads s p t))) (by_stays s (outcome (a.Assign x e) (reads s p t)))
does_grow s p t (a.Increment x) = then_quiet s (put_by s (outcome (a.Increment x) (reads s p t))) (by_stays s (outcome (a.Increment x) (reads s p t)))
does_grow s p t (a.Decrement x) = then_quiet s (put_by s (outcome (a.Decrement x) (reads s p t))) (by_stays s (outcome (a.Decrement x) (reads s p t)))
does_grow s p t (a.Holds e) = then_quiet s (put_by s (outcome (a.Holds e) (reads s p t))) (by_stays s (outcome (a.Holds e) (reads s p t)))

effect_grows : (s : State) (p : ℕ) (t : Bool) (x : Option Basic) → IfOk (effect s p t x) (GrowsTo s)
effect_grows s p t None = itself s
effect_grows s p t (Some (Plain x)) = does_grow s p t x
effect_grows s p t (Some (Goto l)) = itself s
effect_grows s p t (Some Break) = itself s
effect_grows s p t (Some (If' m row)) = itself s
effect_grows s p t (Some (Do' m row)) = itself s
effect_grows s p t (Some (Block b)) = itself s
effect_grows s p t (Some (Atomic b)) = itself s
effect_grows s p t (Some (DStep b)) = itself s
effect_grows s p t (Some (Unless b e)) = itself s

-- ---- inside a d_step

first_grows : (s : State) (os : List Offer) (rest : Offer → Result Done Fault) → ((o : Offer) → IfOk (rest o) (GrowsTo s)) → IfOk (first_of os rest) (GrowsTo s)
first_grows s [] rest k = tt
first_grows s (o ∷ os) rest k = k o

onward_grows : (s : State) (on : Bool) (d : Done) (rest : Done → Result Done Fault) → GrowsTo s d → IfOk (rest d) (GrowsTo s) → IfOk (onward on d rest) (GrowsTo s)
onward_grows s true d rest h k = k
onward_grows s false d rest h k = h

within_grows : (n : ℕ) (s : State) (p : ℕ) (t : Bool) (b : Seq) (c : Control) → IfOk (within n s p t b c) (GrowsTo s)
within_grows zero s p t b c = tt
within_grows (suc n) s p t b c =
    first_grows s (choices s.lossy s.channels (reads s p t) (levels b c)) (λ o. effect s p t o.basic >>= λ d. onward o.stays d (λ e. within n e.state p false b o.next >>= behind_printed e.printed))
    (λ o. chain (GrowsTo s) (GrowsTo s) (effect s p t o.basic) (λ d. onward o.stays d (λ e. within n e.state p false b o.next >>= behind_printed e.printed)) (effect_grows s p t o.basic)
    (λ d g. onward_grows s o.stays d (λ e. within n e.state p false b o.next >>= behind_printed e.printed) g
    (chain (GrowsTo d.state) (GrowsTo s) (within n d.state p false b o.next) (behind_printed d.printed) (within_grows n d.state p false b o.next) (λ x h. grows_on s d.state x.state g h))))

from_grows : (n : ℕ) (s : State) (p : ℕ) (t : Bool) (b : Option Seq) (c : Option Control) → IfOk (within_from n s p t b c) (GrowsTo s)
from_grows n s p t (Some b) (Some c) = within_grows n s p t b c
from_grows n s p t (Some b) None = itself s
from_grows n s p t None (Some c) = itself s
from_grows n s p t None None = itself s

pub taken_grows : (n : ℕ) (s : State) (k : Pick) (t : Bool) (o : Offer) (x : Option Basic) → IfOk (taken n s k t o x) (GrowsTo s)
taken_grows n s k t o (Some (DStep d)) = from_grows n s k.process t (body_by s (slice_get s.stands k.process)) o.entry
taken_grows n s k t o None = itself s
taken_grows n s k t o (Some (Plain x)) = does_grow s k.process t x
taken_grows n s k t o (Some (Goto x)) = itself s
taken_grows n s k t o (Some Break) = itself s
taken_grows n s k t o (Some (If' m row)) = itself s
taken_grows n s k t o (Some (Do' m row)) = itself s
taken_grows n s k t o (Some (Block x)) = itself s
taken_grows n s k t o (Some (Atomic x)) = itself s
taken_grows n s k t o (Some (Unless x e)) = itself s
