-- What begins where only the number of processes is known, begins where they stand before their first statements.
use Rattle.std.proofs.Common.{◌≡◌, ℕ, ◌<◌, Bool, if◌then◌else◌, List, [], ◌∷◌, ◌++◌, length, map, None, false, Result, Ok, sym, ap, ◌∙◌, subst}
use Rattle.std.proofs.lemmas.Bool.{lt-ltb}
use Rattle.std.proofs.lemmas.List.{length-map, map-append}
use Rattle.diagnostics.specs.declared.fault.Fault.{Fault}
use Rattle.diagnostics.specs.declared.stop.Stop.{Stop}
use Rattle.pml_program.specs.declared.program.Slot.{Slot}
use Rattle.pml_program.specs.declared.program.Fields.{Fields}
use Rattle.pml_program.specs.declared.program.Program.{Program}
use Rattle.promela_process.specs.Store.{Frame}
use Rattle.pml_store.specs.Writing.{Contents}
use Rattle.promela_run.specs.declared.live_channel.LiveChannel.{LiveChannel}
use Rattle.promela_run.specs.State.{State, begins_at, youngest_joined, nothing, frame_begun, variables_at, process_begun}
use Rattle.run_start.specs.declared.started.Started.{Started}
use Rattle.run_start.specs.Shown.{Begins, held, idle, shown, begun}
use Rattle.run_start.proofs.Touching.{carried, frame_alike}

-- a frame
pub frame_carried : (p : Program) (ts : List Fields) (ss : List Slot) (mid new : Started) (answer : Result (Unit {0}) Stop) → new.sorts.items ≡ mid.sorts.items →
    Begins (frame_begun ts ss (shown mid)) answer (shown new) → Begins (frame_begun ts ss (begun p mid)) answer (begun p new)
frame_carried p ts ss mid new answer e b =
    let many : length (begun p mid).stands ≡ length (shown mid).stands = length-map mid.sorts.items (begins_at p) ∙ sym (length-map mid.sorts.items idle) in
    let alike = frame_alike (begun p mid) (shown mid) many ts ss mid.store.frames mid.channels.items in
    subst (Begins (frame_begun ts ss (begun p mid)) answer) (ap (λ (ks : List ℕ). held p new.store new.channels.items (map (begins_at p) ks)) (sym e))
    (carried (begun p mid) (shown mid) (frame_begun ts ss (begun p mid)) (frame_begun ts ss (shown mid)) answer (shown new) alike b)

-- a process, where fewer than 255 live
pub process_carried : (p : Program) (k : ℕ) (ts : List Fields) (ss : List Slot) (old mid new : Started) (answer : Result (Unit {0}) Stop) → length old.sorts.items < 255 → ts ≡ p.typedefs → ss ≡ variables_at p k →
    mid.store ≡ old.store → mid.channels.items ≡ old.channels.items → mid.sorts.items ≡ old.sorts.items ++ k ∷ [] → new.sorts.items ≡ mid.sorts.items →
    Begins (frame_begun ts ss (shown mid)) answer (shown new) → Begins (process_begun p k (begun p old)) answer (begun p new)
process_carried p k ts ss old mid new answer few types variables store channels sorts same b =
    let made : List Fields → List Slot → State → Result State Fault = λ x y s. frame_begun x y s in
    let room = lt-ltb (length (begun p old).stands) 255 (subst (λ (n : ℕ). n < 255) (sym (length-map old.sorts.items (begins_at p))) few) in
    let begins : process_begun p k (begun p old) ≡ made p.typedefs (variables_at p k) (youngest_joined (begins_at p k) (begun p old)) =
    ap (λ (t : Bool). if t then made p.typedefs (variables_at p k) (youngest_joined (begins_at p k) (begun p old)) else Ok (begun p old)) room in
    let more : youngest_joined (begins_at p k) (begun p old) ≡ begun p mid =
    ap (λ (x : Contents). held p x old.channels.items (map (begins_at p) old.sorts.items ++ begins_at p k ∷ [])) (sym store)
    ∙ ap (λ (x : List LiveChannel). held p mid.store x (map (begins_at p) old.sorts.items ++ begins_at p k ∷ [])) (sym channels)
    ∙ ap (held p mid.store mid.channels.items) (sym (map-append (begins_at p) old.sorts.items (k ∷ [])))
    ∙ ap (λ (x : List ℕ). held p mid.store mid.channels.items (map (begins_at p) x)) (sym sorts) in
    let is = begins ∙ ap (made p.typedefs (variables_at p k)) more ∙ ap (λ (x : List Fields). made x (variables_at p k) (begun p mid)) (sym types) ∙ ap (λ (x : List Slot). made ts x (begun p mid)) (sym variables) in
    subst (λ (r : Result State Fault). Begins r answer (begun p new)) (sym is) (frame_carried p ts ss mid new answer same b)

-- the globals, where nothing is there yet
pub first_carried : (p : Program) (ts : List Fields) (ss : List Slot) (mid new : Started) (answer : Result (Unit {0}) Stop) → ts ≡ p.typedefs → ss ≡ p.globals →
    mid.store.frames ≡ [] → mid.channels.items ≡ [] → mid.sorts.items ≡ [] → new.sorts.items ≡ mid.sorts.items →
    Begins (frame_begun ts ss (shown mid)) answer (shown new) → Begins (frame_begun p.typedefs p.globals (nothing p)) answer (begun p new)
first_carried p ts ss mid new answer types variables frames channels sorts same b =
    let of : List Frame → List LiveChannel → List ℕ → State = λ fs cs ks. record { program = p; frames = fs; stands = map (begins_at p) ks; channels = cs; holder = None; lossy = false } in
    let empty : begun p mid ≡ nothing p =
    ap (λ (x : List Frame). of x mid.channels.items mid.sorts.items) frames ∙ ap (λ (x : List LiveChannel). of [] x mid.sorts.items) channels ∙ ap (of [] []) sorts in
    let is : frame_begun ts ss (begun p mid) ≡ frame_begun p.typedefs p.globals (nothing p) =
    ap (frame_begun ts ss) empty ∙ ap (λ (x : List Fields). frame_begun x ss (nothing p)) types ∙ ap (λ (x : List Slot). frame_begun p.typedefs x (nothing p)) variables in
    subst (λ (r : Result State Fault). Begins r answer (begun p new)) is (frame_carried p ts ss mid new answer same b)
