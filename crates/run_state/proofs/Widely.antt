-- What wide code finds in a state, and what it leaves.
use Rattle.std.proofs.Common.{◌≡◌, ℕ, Bool, true, List, map, length, sym, ap, subst, ℤ, pos, Option, Some, None, Result, Ok, Err, IfSome, slice_get}
use Rattle.std.specs.Borrow.{Bor}
use Rattle.diagnostics.specs.declared.fault.Fault.{Fault}
use Rattle.diagnostics.specs.declared.stop.Stop.{Stop}
use Rattle.pml_program.specs.declared.program.Basic.{Basic, Plain}
use Rattle.pml_program.specs.declared.program.Slot.{Slot}
use Rattle.pml_program.specs.declared.program.Action.{Action}
use Rattle.pml_program.specs.declared.program.Program.{Program}
use Rattle.promela_process.specs.Store.{Frame}
use Rattle.pml_store.specs.Writing.{joined, HasIndex}
use Rattle.promela_run.specs.declared.goes.Goes.{Goes}
use Rattle.promela_run.specs.State.{Stand, State, variables_at, reads}
use Rattle.promela_run.specs.Statements.{outcome}
use Rattle.promela_run.specs.Moves.{can, or_fault}
use Rattle.promela_run.specs.Steps.{put, put_by}
use Rattle.flat_code.specs.declared.wide.WideCode.{WideCode}
use Rattle.flat_code.specs.declared.wide.FlatStore.{FlatStore}
use Rattle.flat_code.specs.Flat.{Always, base_of}
use Rattle.flat_code.specs.Wide.{wide_store, Acts, AreCellsIn, IsStored, IsWideCodeOf}
use Rattle.run_state.specs.declared.seat.Seat.{Seat}
use Rattle.run_state.specs.Standing.{stand_of}
use Rattle.run_state.specs.Coded.{basic_in, statements_at, IsNumbered, IsWideIn}
use Rattle.run_state.specs.Flatly.{stored_by, taken_by, FitsIn, HasWide, PutsIf}
use Rattle.run_state.specs.Live.{Leads}
use Rattle.run_state.proofs.Fitting.{by_seat}

-- the wide code of a process's statement
pub wides_there : (p : Program) (xs : List Seat) (process n : ℕ) (x : Seat) (o : Option (Bor WideCode)) → slice_get xs process ≡ Some x
    → IfSome o (λ (code : Bor WideCode). IsWideCodeOf p.globals (variables_at p x.sort) (basic_in (statements_at p x.sort) n) code.now)
    → IfSome o (λ (code : Bor WideCode). (y : Stand) → slice_get (map (stand_of p) xs) process ≡ Some y → IsWideCodeOf p.globals (variables_at p y.sort) (basic_in (statements_at p y.sort) n) code.now)
wides_there p xs process n x None h c = tt
wides_there p xs process n x (Some code) h c = by_seat p xs process x (λ s. IsWideCodeOf p.globals (variables_at p s) (basic_in (statements_at p s) n) code.now) h c

-- ---- what a code needs

needs : (gs ls : List Slot) (o : Option Basic) (code : WideCode) → IsWideCodeOf gs ls o code → Always gs ls (λ frames base r. AreCellsIn (joined frames) base code)
needs gs ls None code h = absurd h
needs gs ls (Some (Plain x)) code h = λ frames cs process count timeout fits. (h frames cs process count timeout fits).within
needs gs ls (Some b) code h = absurd h

-- a number that is stored has a place
has_place : (frames : List Frame) (x : FlatStore) (o : Result (Option Goes) Fault) → IsStored frames (Ok (Some x)) o → HasIndex frames x.at
has_place frames x (Ok None) h = absurd h
has_place frames x (Ok (Some g)) h = record { place = g.place; there = h.0; stands = h.1 }
has_place frames x (Err e) h = absurd h

leads_to_place : (frames : List Frame) (stored : Option FlatStore) (w : Result (Option FlatStore) Fault) (o : Result (Option Goes) Fault) → w ≡ Ok stored → IsStored frames w o → IfSome stored (λ x. HasIndex frames x.at)
leads_to_place frames None w o e h = tt
leads_to_place frames (Some x) w o e h = has_place frames x o (subst (λ (w : Result (Option FlatStore) Fault). IsStored frames w o) e h)

places : (gs ls : List Slot) (o : Option Basic) (code : WideCode) (stored : Option FlatStore) → IsWideCodeOf gs ls o code
    → Always gs ls (λ frames base r. wide_store (joined frames) base r.pid code ≡ Ok stored → IfSome stored (λ x. HasIndex frames x.at))
places gs ls None code stored h = absurd h
places gs ls (Some (Plain x)) code stored h = λ frames cs process count timeout fits e.
    let d = h frames cs process count timeout fits in leads_to_place frames stored (wide_store (joined frames) (base_of frames process) (pos process) code) _ e d.does
places gs ls (Some b) code stored h = absurd h

-- ---- what a code says of a state

-- what is put is what the statement stores
puts : (s : State) (stored : Option FlatStore) (o : Result (Option Goes) Fault) (r : Result (Unit {0}) Stop) (new : State) → IsStored s.frames (Ok stored) o → PutsIf s stored r new → Leads (put_by s o) r new
puts s None (Ok None) r new h p = p
puts s None (Ok (Some g)) r new h p = absurd h
puts s None (Err e) r new h p = absurd h
puts s (Some x) (Ok None) r new h p = absurd h
puts s (Some x) (Ok (Some g)) r new h p =
    subst (λ (n : ℤ). Leads (Ok (put s (record { place = g.place; number = n }))) r new) (sym h.2) (p g.place h.0 h.1)
puts s (Some x) (Err e) r new h p = absurd h

fails : (s : State) (f : Fault) (o : Result (Option Goes) Fault) → IsStored s.frames (Err f) o → put_by s o ≡ Err f
fails s f (Ok g) h = absurd h
fails s f (Err e) h = ap Err h

module _ (s : State) (process n : ℕ) (code : WideCode) (f : FitsIn s process) (is : IsWideIn s process n code) where
  abbrev basic : Option Basic
  basic = basic_in (statements_at s.program f.stand.sort) n

  abbrev ls : List Slot
  ls = variables_at s.program f.stand.sort

  abbrev does : Result (Option FlatStore) Fault
  does = stored_by s process code

  pub wide_in : HasWide s process code
  wide_in = needs s.program.globals ls basic code (is f.stand f.at) s.frames s.channels process (length s.stands) true f.fits

  pub wide_there : (stored : Option FlatStore) → does ≡ Ok stored → IfSome stored (λ x. HasIndex s.frames x.at)
  wide_there stored = places s.program.globals ls basic code stored (is f.stand f.at) s.frames s.channels process (length s.stands) true f.fits

  -- of the statement with its number
  module _ (x : Action) (timeout : Bool) (numbered : IsNumbered s process n (Some (Plain x))) where
    acts : Acts s.frames (base_of s.frames process) (reads s process timeout) x code
    acts = subst (λ (o : Option Basic). IsWideCodeOf s.program.globals ls o code) (numbered f.stand f.at) (is f.stand f.at) s.frames s.channels process (length s.stands) timeout f.fits

    stores : (w : Result (Option FlatStore) Fault) → does ≡ w → IsStored s.frames w (outcome x (reads s process timeout))
    stores w e = subst (λ (w : Result (Option FlatStore) Fault). IsStored s.frames w (outcome x (reads s process timeout))) e acts.does

    pub wide_fails : (e : Fault) → does ≡ Err e → put_by s (outcome x (reads s process timeout)) ≡ Err e
    wide_fails e w = fails s e (outcome x (reads s process timeout)) (stores (Err e) w)

    pub wide_puts : (stored : Option FlatStore) (r : Result (Unit {0}) Stop) (new : State) → does ≡ Ok stored → PutsIf s stored r new → Leads (put_by s (outcome x (reads s process timeout))) r new
    wide_puts stored r new w p = puts s stored (outcome x (reads s process timeout)) r new (stores (Ok stored) w) p

    pub wide_cans : (d : Bool) → can s.lossy s.channels (reads s process timeout) d x ≡ taken_by s process code
    wide_cans d = ap or_fault (acts.asks s.lossy s.channels d)
