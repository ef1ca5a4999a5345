-- What flat code finds in a state.
use Rattle.std.proofs.Common.{◌≡◌, ℕ, zero, suc, ◌+◌, ◌<◌, Bool, true, not, List, [], ◌∷◌, map, length, get_or, sym, ap, subst, ◌∙◌, arith, ℤ, Option, Some, None, Result, Ok, Err, OnOk, OnErr, IfSome, slice_get}
use Rattle.std.proofs.lemmas.List.{length-map}
use Rattle.std.proofs.Math.ListN.{get_or-map}
use Rattle.diagnostics.specs.declared.fault.Fault.{Fault}
use Rattle.std.specs.Borrow.{Bor}
use Rattle.diagnostics.specs.declared.stop.Stop.{Stop}
use Rattle.pml_tree.specs.declared.tree.Scalar.{Scalar}
use Rattle.pml_program.specs.declared.form.Form.TheVariants.{Plain as Kept}
use Rattle.pml_program.specs.declared.program.Basic.{Basic, Plain}
use Rattle.pml_program.specs.declared.program.Slot.{Slot}
use Rattle.pml_program.specs.declared.program.Action.{Action}
use Rattle.pml_program.specs.declared.program.Program.{Program}
use Rattle.promela_process.specs.Numbers.{clipped, is_zero}
use Rattle.promela_process.specs.Store.{Frame}
use Rattle.promela_process.specs.Expressions.{◌>>=◌}
use Rattle.pml_store.specs.Writing.{Contents, joined, HasIndex, StoredAt}
use Rattle.promela_run.specs.declared.live_channel.LiveChannel.{LiveChannel}
use Rattle.promela_run.specs.State.{Stand, State, size, variables_at, reads}
use Rattle.promela_run.specs.Statements.{outcome}
use Rattle.promela_run.specs.Moves.{can, or_fault}
use Rattle.promela_run.specs.Steps.{put, put_by}
use Rattle.run_start.specs.Shown.{shape}
use Rattle.run_start.proofs.Shapes.{shape-with_number}
use Rattle.run_start.specs.Starting.{IsDeclared}
use Rattle.run_start.proofs.Declaring.{frames_of_sorts}
use Rattle.flat_code.specs.declared.code.FlatCell.{FlatCell}
use Rattle.flat_code.specs.declared.code.FlatCode.{FlatCode}
use Rattle.flat_code.specs.declared.code.FlatCode.TheVariants.{No, Set, Ask}
use Rattle.flat_code.specs.declared.code.FlatWorth.{FlatWorth}
use Rattle.flat_code.specs.Flat.{Always, AreIn, Asks, Fits, IsCodeOf, Stores, base_of, index, worth}
use Rattle.run_state.specs.declared.seat.Seat.{Seat}
use Rattle.run_state.specs.Standing.{stand_of}
use Rattle.run_state.specs.Held.{IsHeld, live_of, sorts_of}
use Rattle.run_state.specs.Coded.{basic_in, statements_at, IsCodeIn, IsFlatOf, IsNumbered}
use Rattle.run_state.specs.Flatly.{FitsIn, PutsAt}
use Rattle.run_state.specs.Live.{Leads}
use Rattle.run_state.proofs.Finding.{there}
use Rattle.run_state.proofs.Holding.{Stays, same_stays}

at : (g : ℕ → List ℕ) (ks : List ℕ) (i k : ℕ) → slice_get ks i ≡ Some k → get_or (map g ks) i [] ≡ g k
at g [] i k h = cc
at g (j ∷ ks) zero k h = let e : j ≡ k = cc in ap g e
at g (j ∷ ks) (suc i) k h = at g ks i k h

second : (g : ℕ → List ℕ) (a : List ℕ) (ks : List ℕ) (i k : ℕ) → slice_get ks i ≡ Some k → get_or (a ∷ map g ks) (i + 1) [] ≡ g k
second g a ks i k h = let e : i + 1 ≡ suc i = omega arith in ap (λ (n : ℕ). get_or (a ∷ map g ks) n []) e ∙ at g ks i k h

-- the frames of a state that is as its model declares
fits_declared : (p : Program) (fs : List Frame) (ks : List ℕ) (process k : ℕ) → IsDeclared p fs ks → slice_get ks process ≡ Some k → Fits p.globals (variables_at p k) fs process
fits_declared p fs ks process k d h = record {
  globals = sym (get_or-map (map length) fs 0 []) ∙ ap (λ (x : List (List ℕ)). get_or x 0 []) d.sizes;
  locals = sym (get_or-map (map length) fs (process + 1) []) ∙ ap (λ (x : List (List ℕ)). get_or x (process + 1) []) d.sizes
      ∙ second (λ (k : ℕ). map size (variables_at p k)) (map size p.globals) ks process k h;
}

sort_at : (p : Program) (xs : List Seat) (n : ℕ) (y : Stand) → slice_get (map (stand_of p) xs) n ≡ Some y → slice_get (sorts_of xs) n ≡ Some y.sort
sort_at p [] n y h = cc
sort_at p (x ∷ xs) zero y h = let e : stand_of p x ≡ y = cc in ap (λ (z : Stand). Some z.sort) e
sort_at p (x ∷ xs) (suc n) y h = sort_at p xs n y h

module _ (p : Program) (store : Contents) (cs : List LiveChannel) (ks : List ℕ) (xs : List Seat) (holder : Option ℕ) (lossy : Bool) (h : IsHeld p store cs ks xs) where
  pub fitted : (process : ℕ) → process < length (map (stand_of p) xs) → FitsIn (live_of p store cs xs holder lossy).state process
  fitted process l =
      let y = there (map (stand_of p) xs) process l in
      record {
        stand = y.0;
        at = y.1;
        fits = fits_declared p store.frames ks process y.0.sort h.declared (ap (λ (l : List ℕ). slice_get l process) h.seated ∙ sort_at p xs process y.0 y.1);
      }

  pub has_frame : (process : ℕ) → process < length (map (stand_of p) xs) → process + 1 < length store.frames
  has_frame process l =
      let f = frames_of_sorts p store.frames ks h.declared in
      let k = ap length h.seated in
      let s = length-map xs (λ (x : Seat). x.sort) in
      let m = length-map xs (stand_of p) in
      omega (arith, f, k, s, m, l)

-- ---- a store by the index of a cell

pub set_at_stays : {E : Type 0} (r : Result (Unit {0}) E) (old new : Contents) (i : ℕ) (v : ℤ) → HasIndex old.frames i → OnOk r (StoredAt old i v new) → OnErr r (new ≡ old) → Stays old new
set_at_stays (Ok u) old new i v h k e =
    let is = k h.place h.there h.stands in
    record { shape = ap (λ (c : Contents). shape c.frames) is ∙ shape-with_number old.frames h.place v; most = ap (λ (c : Contents). c.most) is }
set_at_stays (Err x) old new i v h k e = same_stays old new e

-- ---- the code of a process's statement

seat_sort : (p : Program) (xs : List Seat) (n : ℕ) (x : Seat) (y : Stand) → slice_get xs n ≡ Some x → slice_get (map (stand_of p) xs) n ≡ Some y → x.sort ≡ y.sort
seat_sort p [] n x y h k = cc
seat_sort p (z ∷ xs) zero x y h k = let e : z ≡ x = cc in let f : stand_of p z ≡ y = cc in ap (λ (s : Seat). s.sort) (sym e) ∙ ap (λ (s : Stand). s.sort) f
seat_sort p (z ∷ xs) (suc n) x y h k = seat_sort p xs n x y h k

-- what is so of the proctype of a seat is so of that of its process
pub by_seat : (p : Program) (xs : List Seat) (process : ℕ) (x : Seat) (P : ℕ → Type 0) → slice_get xs process ≡ Some x → P x.sort → (y : Stand) → slice_get (map (stand_of p) xs) process ≡ Some y → P y.sort
by_seat p xs process x P h c y k = subst P (seat_sort p xs process x y h k) c

pub codes_there : (p : Program) (xs : List Seat) (process n : ℕ) (x : Seat) (o : Option (Bor FlatCode)) → slice_get xs process ≡ Some x
    → IfSome o (λ (code : Bor FlatCode). IsFlatOf p.globals (variables_at p x.sort) (basic_in (statements_at p x.sort) n) code.now)
    → IfSome o (λ (code : Bor FlatCode). (y : Stand) → slice_get (map (stand_of p) xs) process ≡ Some y → IsFlatOf p.globals (variables_at p y.sort) (basic_in (statements_at p y.sort) n) code.now)
codes_there p xs process n x None h c = tt
codes_there p xs process n x (Some code) h c = by_seat p xs process x (λ s. IsFlatOf p.globals (variables_at p s) (basic_in (statements_at p s) n) code.now) h c

-- ---- what a code needs

no_set : (word : Scalar) (c : FlatCell) (v : FlatWorth) → Set word c v ≡ No → ⊥
no_set word c v h = cc

no_ask : (v : FlatWorth) → Ask v ≡ No → ⊥
no_ask v h = cc

set_needs : (gs ls : List Slot) (o : Option Basic) (word : Scalar) (c : FlatCell) (v : FlatWorth) → IsCodeOf gs ls o (Set word c v)
    → Always gs ls (λ frames base r. HasIndex frames (index base c) × AreIn (joined frames) base v)
set_needs gs ls None word c v h = absurd (no_set word c v h)
set_needs gs ls (Some (Plain x)) word c v h = λ frames cs process count timeout fits.
    let d = h frames cs process count timeout fits in (record { place = d.at; there = d.there; stands = d.stands }, d.within)
set_needs gs ls (Some b) word c v h = absurd (no_set word c v h)

ask_needs : (gs ls : List Slot) (o : Option Basic) (v : FlatWorth) → IsCodeOf gs ls o (Ask v) → Always gs ls (λ frames base r. AreIn (joined frames) base v)
ask_needs gs ls None v h = absurd (no_ask v h)
ask_needs gs ls (Some (Plain x)) v h = λ frames cs process count timeout fits. (h frames cs process count timeout fits).within
ask_needs gs ls (Some b) v h = absurd (no_ask v h)

-- ---- what a code says of a state

module _ (s : State) (process n : ℕ) (code : FlatCode) (f : FitsIn s process) (is : IsCodeIn s process n code) where
  abbrev gs : List Slot
  gs = s.program.globals

  abbrev ls : List Slot
  ls = variables_at s.program f.stand.sort

  abbrev basic : Option Basic
  basic = basic_in (statements_at s.program f.stand.sort) n

  abbrev base : ℕ
  base = base_of s.frames process

  has : (k : FlatCode) → code ≡ k → IsFlatOf gs ls basic k
  has k e = subst (IsFlatOf gs ls basic) e (is f.stand f.at)

  pub set_there : (word : Scalar) (c : FlatCell) (v : FlatWorth) → code ≡ Set word c v → HasIndex s.frames (index base c)
  set_there word c v e = (set_needs gs ls basic word c v (has (Set word c v) e) s.frames s.channels process (length s.stands) true f.fits).0

  pub set_in : (word : Scalar) (c : FlatCell) (v : FlatWorth) → code ≡ Set word c v → AreIn (joined s.frames) base v
  set_in word c v e = (set_needs gs ls basic word c v (has (Set word c v) e) s.frames s.channels process (length s.stands) true f.fits).1

  pub ask_in : (v : FlatWorth) → code ≡ Ask v → AreIn (joined s.frames) base v
  ask_in v e = ask_needs gs ls basic v (has (Ask v) e) s.frames s.channels process (length s.stands) true f.fits

  -- of the statement with its number
  module _ (x : Action) (timeout : Bool) (numbered : IsNumbered s process n (Some (Plain x))) where
    of : (k : FlatCode) → code ≡ k → IsFlatOf gs ls (Some (Plain x)) k
    of k e = subst (λ (o : Option Basic). IsFlatOf gs ls o k) (numbered f.stand f.at) (has k e)

    stores : (word : Scalar) (c : FlatCell) (v : FlatWorth) → code ≡ Set word c v → Stores s.frames base (reads s process timeout) x word c v
    stores word c v e = of (Set word c v) e s.frames s.channels process (length s.stands) timeout f.fits

    asks : (v : FlatWorth) → code ≡ Ask v → Asks s.frames base (reads s process timeout) x v
    asks v e = of (Ask v) e s.frames s.channels process (length s.stands) timeout f.fits

    pub ask_fails : (v : FlatWorth) (e : Fault) → code ≡ Ask v → worth (joined s.frames) base v ≡ Err e → put_by s (outcome x (reads s process timeout)) ≡ Err e
    ask_fails v e i w = ap (put_by s) ((asks v i).does ∙ ap (λ (o : Result ℤ Fault). o >>= λ n. Ok None) w)

    pub ask_goes : (v : FlatWorth) (m : ℤ) → code ≡ Ask v → worth (joined s.frames) base v ≡ Ok m → put_by s (outcome x (reads s process timeout)) ≡ Ok s
    ask_goes v m i w = ap (put_by s) ((asks v i).does ∙ ap (λ (o : Result ℤ Fault). o >>= λ n. Ok None) w)

    pub set_fails : (word : Scalar) (c : FlatCell) (v : FlatWorth) (e : Fault) → code ≡ Set word c v → worth (joined s.frames) base v ≡ Err e
        → put_by s (outcome x (reads s process timeout)) ≡ Err e
    set_fails word c v e i w =
        let d = stores word c v i in
        ap (put_by s) (d.does ∙ ap (λ (o : Result ℤ Fault). o >>= λ n. Ok (Some (record { place = d.at; number = clipped (Kept word) n }))) w)

    set_goes : (word : Scalar) (c : FlatCell) (v : FlatWorth) (m : ℤ) (i : code ≡ Set word c v) → worth (joined s.frames) base v ≡ Ok m
        → put_by s (outcome x (reads s process timeout)) ≡ Ok (put s (record { place = (stores word c v i).at; number = clipped (Kept word) m }))
    set_goes word c v m i w =
        let d = stores word c v i in
        ap (put_by s) (d.does ∙ ap (λ (o : Result ℤ Fault). o >>= λ n. Ok (Some (record { place = d.at; number = clipped (Kept word) n }))) w)

    -- what is put at its cell is what the statement stores
    pub set_puts : (word : Scalar) (c : FlatCell) (v : FlatWorth) (m : ℤ) (r : Result (Unit {0}) Stop) (new : State) → code ≡ Set word c v → worth (joined s.frames) base v ≡ Ok m
        → PutsAt s (index base c) word m r new → Leads (put_by s (outcome x (reads s process timeout))) r new
    set_puts word c v m r new i w h =
        let d = stores word c v i in
        subst (λ (o : Result State Fault). Leads o r new) (sym (set_goes word c v m i w)) (h d.at d.there d.stands)

    pub set_can : (word : Scalar) (c : FlatCell) (v : FlatWorth) → code ≡ Set word c v → (d : Bool) → can s.lossy s.channels (reads s process timeout) d x ≡ true
    set_can word c v i d = ap or_fault ((stores word c v i).free s.lossy s.channels d)

    pub ask_can : (v : FlatWorth) (m : ℤ) → code ≡ Ask v → worth (joined s.frames) base v ≡ Ok m → (d : Bool) → can s.lossy s.channels (reads s process timeout) d x ≡ not (is_zero m)
    ask_can v m i w d = ap or_fault ((asks v i).asks s.lossy s.channels d ∙ ap (λ (o : Result ℤ Fault). o >>= λ n. Ok (not (is_zero n))) w)

    pub ask_can_fail : (v : FlatWorth) (e : Fault) → code ≡ Ask v → worth (joined s.frames) base v ≡ Err e → (d : Bool) → can s.lossy s.channels (reads s process timeout) d x ≡ true
    ask_can_fail v e i w d = ap or_fault ((asks v i).asks s.lossy s.channels d ∙ ap (λ (o : Result ℤ Fault). o >>= λ n. Ok (not (is_zero n))) w)
