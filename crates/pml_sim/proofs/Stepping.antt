-- What a call does to the parts it does to the whole.
use Rattle.std.proofs.Common.{◌≡◌, ℕ, ◌+◌, min, Bool, List, [], ◌++◌, length, take, refl, sym, ap, ◌∙◌, subst, arith, Option, Some, None, Result, Ok, Err, IfOk}
use Rattle.std.specs.List.{Contains}
use Rattle.std.specs.Prelude.{option_map}
use Rattle.diagnostics.specs.declared.fault.Fault.{Fault}
use Rattle.diagnostics.specs.declared.stop.Stop.{Stop}
use Rattle.diagnostics.specs.declared.stop.Stop.TheVariants as stop
use Rattle.promela_machine.specs.Machine.{Goes, Stopped}
use Rattle.session.specs.Takes.{CanBeTaken, IsReason}
use Rattle.pml_program.specs.declared.program.Program.{Program}
use Rattle.promela_process.specs.Store.{Frame}
use Rattle.pml_store.specs.Writing.{Contents, before}
use Rattle.promela_run.specs.State.{first_state as begin, State}
use Rattle.run_start.specs.Shown.{begun}
use Rattle.run_start.specs.declared.started.Started.{Started}
use Rattle.run_start.specs.Starting.{IsDeclared, Starts}
use Rattle.pml_check.specs.Fitted.{HasGoodStart}
use Rattle.run_values.specs.declared.change.Wanted.{Wanted}
use Rattle.run_values.specs.Changed.{changes as changed, step_changes}
use Rattle.promela_run.specs.Lines.{value_lines}
use Rattle.run_values.specs.Written.{AreDeclared, step_lines}
use Rattle.promela_run.specs.declared.moves.Move.{Move}
use Rattle.promela_run.specs.declared.moves.Move.TheVariants.{Death, Alone, Pair}
use Rattle.promela_run.specs.Moves as search
use Rattle.profile.specs.declared.TheConstants.{MOST_DSTEP_STATEMENTS}
use Rattle.promela_run.specs.Steps.{sorts, Done, after_move}
use Rattle.run_step.specs.Done.{Does}
use Rattle.run_state.specs.Live.{Joins}
use Rattle.promela_run.specs.World.{Running, first, rules, changed_lines, led_to, move_text}
use Rattle.run_step.specs.Taking.{CanDie, PastBy}
use Rattle.run_texts.specs.Staying.{IsWithin}
use Rattle.run_texts.proofs.Staying.{text_stays}
use Rattle.promela_run.specs.declared.halt.Halt.{Halt}
use Rattle.pml_sim.specs.Lent.{IsFirst}
use Rattle.promela_run.specs.World as world
use Rattle.run_search.specs.Lifted.{unless_stopped}
use Rattle.pml_sim.specs.Lent as lends
use Rattle.pml_sim.proofs.Living.{moves_within}
use Rattle.pml_sim.proofs.Leading.{past_by, went, failed}
use Rattle.pml_sim.proofs.Values.{changes_of_first, first_declared, frames_declared, lines_of_first, taken_min}

-- the move at which a run has stopped, and why
abbrev stopped : Option Halt → Option (Stopped Move)
stopped o = option_map (λ h. record { move = h.at; why = h.why }) o

-- ---- the moves

pub listed : (w : Running) (m : Move) → w.halt ≡ None → Contains (world.world_moves w) m → Contains (search.moves w.state) m
listed w m none c = subst (λ (h : Option Halt). Contains (unless_stopped h (search.moves w.state)) m) none c

-- each names processes that live
pub listed_within : (w : Running) (m : Move) → Contains (world.world_moves w) m → IsWithin (length w.state.stands) m
listed_within w m c = by w.halt c
  where
    by : (h : Option Halt) → Contains (unless_stopped h (search.moves w.state)) m → IsWithin (length w.state.stands) m
    by None c = moves_within w.state m c
    by (Some h) c = absurd (omega (arith, c.1))

pub present : (w : Running) (m : Move) → w.halt ≡ None → CanBeTaken rules w m → Contains (search.moves w.state) m
present w m none c = listed w m none (c (ap stopped none))

pub can_die : (s : State) (m : Move) → IsWithin (length s.stands) m → CanDie s m
can_die s (Death p) h = omega (arith, h)
can_die s (Alone k t) h = tt
can_die s (Pair k j t) h = tt

-- ---- a step

module _ (w live new : Running) (m : Move) (same : w.state ≡ live.state) where
  abbrev old : Running
  old = record live { past = live.state.frames }

  abbrev of : State → Result Done Fault
  of s = after_move MOST_DSTEP_STATEMENTS s m

  pub taken_goes : (before after : List ℕ) (u : Unit {0}) (a b o : ℕ) (h : Option Halt) → length live.state.frames ≡ a + 1 → length new.state.frames ≡ b + 1 → o ≡ min a b → h ≡ None →
      Does (of live.state) (Ok u) new.state before after → PastBy m old new →
      (x : List ℕ) × (world.world_step w m ≡ Goes (record { state = new.state; past = take (o + 1) new.past; halt = h }) x) × (after ≡ before ++ x)
  taken_goes before after u a b o h fa fb oi hi does by =
      let past : take (o + 1) new.past ≡ take (length new.state.frames) live.state.frames = ap (λ (i : ℕ). take (i + 1) new.past) oi ∙ past_by m old new before after u a b does by refl fa fb in
      let x = went live.state m new.state (take (o + 1) new.past) before after (of live.state) u does past in
      (x.0, ap (λ (s : State). led_to s.frames (of s)) same ∙ x.1 ∙ ap (λ (k : Option Halt). Goes (record { state = new.state; past = take (o + 1) new.past; halt = k }) x.0) (sym hi), x.2)

  reason : (e : Stop) (before after : List ℕ) → Does (of live.state) (Err e) new.state before after → IsReason rules w m e
  reason (stop.Fault f) before after h = ap (λ (s : State). led_to s.frames (of s)) same ∙ failed live.state m new.state [] before after (of live.state) f h
  reason stop.Memory before after h = tt

  pub taken_stops : (e : Stop) (before after : List ℕ) → w.halt ≡ None → Does (of live.state) (Err e) new.state before after → Joins live.state new.state → Contains (world.world_moves w) m →
      IsReason rules w m e × (move_text new.state m ≡ move_text w.state m)
  taken_stops e before after none h j c =
      let inside : IsWithin (length live.state.stands) m = subst (λ (s : State). IsWithin (length s.stands) m) same (moves_within w.state m (listed w m none c)) in
      (reason e before after h, text_stays live.state new.state j.more j.program j.stands m inside ∙ ap (λ (s : State). move_text s m) (sym same))

-- ---- the lines of a step

pub lines_are : (w live : Running) (p : Program) (ks : List ℕ) (store : Contents) (older n : ℕ) (globals locals : Bool) → w.state ≡ live.state → w.past ≡ take (older + 1) live.past →
    p ≡ live.state.program → ks ≡ sorts live.state → store.frames ≡ live.state.frames → before store ≡ live.past → n ≡ min older (length ks) →
    step_lines p (take n ks) store (record { globals = globals; locals = locals }) ≡ changed_lines w globals locals
lines_are w live p ks store older n globals locals s past pr k st log ni =
    let wanted : Wanted = record { globals = globals; locals = locals } in
    let q : Program = live.state.program in
    ap (λ (i : ℕ). step_lines p (take i ks) store wanted) ni ∙ ap (λ (l : List ℕ). step_lines p l store wanted) (taken_min older ks)
    ∙ ap (λ (r : Program). step_lines r (take older ks) store wanted) pr ∙ ap (λ (l : List ℕ). step_lines q (take older l) store wanted) k
    ∙ lines_of_first q older (sorts live.state) store wanted
    ∙ ap (λ (fs : List Frame). value_lines q (sorts live.state) (take (older + 1) fs) store.frames globals locals) log
    ∙ ap (λ (fs : List Frame). value_lines q (sorts live.state) (take (older + 1) live.past) fs globals locals) st
    ∙ ap (λ (fs : List Frame). value_lines q (sorts live.state) fs live.state.frames globals locals) (sym past)
    ∙ ap (λ (t : State). value_lines t.program (sorts t) w.past t.frames globals locals) (sym s)

pub are_declared : (live : Running) (p : Program) (ks : List ℕ) (store : Contents) (n : ℕ) → p ≡ live.state.program → ks ≡ sorts live.state → store.frames ≡ live.state.frames →
    IsDeclared live.state.program live.state.frames (sorts live.state) → AreDeclared p (take n ks) store.frames
are_declared live p ks store n pr k st h =
    subst (λ (fs : List Frame). AreDeclared p (take n ks) fs) (sym st)
    (subst (λ (l : List ℕ). AreDeclared p (take n l) live.state.frames) (sym k)
    (subst (λ (q : Program). AreDeclared q (take n (sorts live.state)) live.state.frames) (sym pr) (first_declared live.state.program live.state.frames (sorts live.state) n h)))

-- ---- its changes

pub changes_are : (w live : Running) (ks : List ℕ) (store : Contents) (older n : ℕ) → w.state ≡ live.state → w.past ≡ take (older + 1) live.past →
    ks ≡ sorts live.state → store.frames ≡ live.state.frames → before store ≡ live.past → n ≡ min older (length ks) → IsDeclared live.state.program live.state.frames (sorts live.state) →
    step_changes (take n ks) store ≡ lends.changes w
changes_are w live ks store older n s past k st log ni h =
    ap (λ (i : ℕ). step_changes (take i ks) store) ni ∙ ap (λ (l : List ℕ). step_changes (take (min older (length l)) l) store) k
    ∙ changes_of_first older (sorts live.state) store (ap length st ∙ frames_declared live.state.program live.state.frames (sorts live.state) h)
    ∙ ap (λ (fs : List Frame). changed (take (older + 1) fs) store.frames) log
    ∙ ap (λ (fs : List Frame). changed (take (older + 1) live.past) fs) st
    ∙ ap (λ (fs : List Frame). changed fs live.state.frames) (sym past)
    ∙ ap (λ (t : State). changed w.past t.frames) (sym s)

-- ---- the first state

no_fault_of : (p : Program) (s : State) (d : Result State Fault) (e : Stop) (f : Fault) → d ≡ Ok s → e ≡ stop.Fault f → Starts p d (Err e) → ⊥
no_fault_of p s d e f is of h = subst (λ (k : Stop). Starts p (Ok s) (Err k)) of (subst (λ (x : Result State Fault). Starts p x (Err e)) is h)

-- no initialiser of a checked model has a fault
pub no_start_fault : (p : Program) (e : Stop) (f : Fault) → HasGoodStart p → e ≡ stop.Fault f → Starts p (begin p) (Err e) → ⊥
no_start_fault p e f good of h = no_fault_of p good.0 (begin p) e f good.1 of h

begun_is : (p : Program) (d : Result State Fault) (s : Started) → Starts p d (Ok s) → d ≡ Ok (begun p s)
begun_is p (Ok t) s h = ap Ok (sym h)
begun_is p (Err f) s h = absurd h

is_first : (p q : Program) (lossy : Bool) (s : Started) (w : Running) → q ≡ p → Starts q (begin q) (Ok s) → w ≡ first (begun q s) lossy → IsFirst p lossy w
is_first p q lossy s w same starts is = record {
  begun = begun q s;
  starts = sym (ap begin same) ∙ begun_is q (begin q) s starts;
  is = is;
}

pub first_of : {E : Type 0} (p q : Program) (lossy : Bool) (s : Started) (r : Result Running E) → q ≡ p → Starts q (begin q) (Ok s) → IfOk r (λ w. w ≡ first (begun q s) lossy) → IfOk r (IsFirst p lossy)
first_of p q lossy s (Ok w) same starts is = is_first p q lossy s w same starts is
first_of p q lossy s (Err e) same starts is = tt
