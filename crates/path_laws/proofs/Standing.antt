-- In each state that a run comes to each process stands in a body of its model, and what it has to do fits that body.
use Rattle.std.proofs.Common.{◌≡◌, ℕ, zero, suc, ◌+◌, ◌-◌, Bool, List, [], ◌∷◌, length, map, take, drop, replicate, Option, Some, None, Result, Ok, Err, IfOk, refl, sym, ap, subst, ◌∙◌, arith}
use Rattle.std.specs.Prelude.{slice_get, slice_set, unwrap_or, option_map}
use Rattle.std.specs.List.{AllByRecursion}
use Rattle.diagnostics.specs.declared.fault.Fault.{Fault}
use Rattle.profile.specs.declared.TheConstants.{MOST_DSTEP_STATEMENTS}
use Rattle.promela_machine.specs.Machine.{Goes}
use Rattle.pml_program.specs.declared.program.Stmt.{Stmt}
use Rattle.pml_program.specs.declared.program.Seq.{Seq}
use Rattle.pml_program.specs.declared.program.Action.TheVariants as a
use Rattle.pml_program.specs.declared.program.Proctype.{Proctype}
use Rattle.pml_program.specs.declared.program.Program.{Program}
use Rattle.promela_process.specs.Control.{Control, at, steps, sequence_at}
use Rattle.promela_process.specs.Offers.{Edge, Levels, offers, Offer, offer_of, statement_at, offer_text}
use Rattle.pml_control.proofs.Positions.{found}
use Rattle.promela_process.specs.Store.{Frame}
use Rattle.promela_run.specs.State.{first_state, Stand, State, reads, body_of, levels_in, begins_at, picked}
use Rattle.run_start.specs.Laws.{IsFirst}
use Rattle.run_start.specs.Starting.{starting}
use Rattle.run_start.proofs.Chaining.{chain, chain_any}
use Rattle.run_start.proofs.Living.{living_are}
use Rattle.promela_run.specs.declared.moves.Pick.{Pick}
use Rattle.promela_run.specs.declared.moves.Move.{Move}
use Rattle.promela_run.specs.declared.moves.Move.TheVariants.{Death, Alone, Pair}
use Rattle.promela_run.specs.Moves.{message}
use Rattle.promela_run.specs.Steps.{put_all, go_to, went, Done, taken, alone, both_on, paired, passed, after_move, moved_to}
use Rattle.promela_run.specs.World.{Running, first, led_to, rules}
use Rattle.run_state.specs.Standing.{begins_by}
use Rattle.run_search.specs.Lifted.{offer_on, offer_at, moved}
use Rattle.pml_play.specs.Run.{Leg, IsPath, last_state}
use Rattle.pml_play.specs.Shown.{PathLeads}
use Rattle.pml_play.specs.Transcript.{IsModel}
use Rattle.path_laws.proofs.Fitting.{Fits, IsSound, AreSound, Sound, offers_sound}
use Rattle.path_laws.proofs.Growing.{IsFitStand, AreFit, IsFitState, Grows, GrowsTo, all_both, all_taken, all_set, some_same, not_some, all_got, got_before, itself, grown_fits, all_stay, first_fits, taken_grows}

-- ---- offers

-- its text is there, and what follows it fits
abbrev pub IsFitOffer : Seq → Offer → Type 0
IsFitOffer b o = Fits b o.next × (o.text ≡ [] → ⊥)

some_text : (s : Stmt) (text : List ℕ) → text ≡ offer_text s → text ≡ [] → ⊥
some_text s text is none = let e = sym is ∙ none in cc

offer_fits : (b : Seq) (e : Edge) → IsSound b e → IsFitOffer b (offer_of b e)
offer_fits b e h =
    let f = found (sequence_at (steps b) e.0.0) e.0.1 h.0.0 h.0.1 in
    (h.1, some_text f.stmt (unwrap_or (option_map offer_text (statement_at b e.0)) []) (ap (λ (o : Option Stmt). unwrap_or (option_map offer_text o) []) f.stands))

level_fits : (b : Seq) (es : List Edge) → AreSound b es → AllByRecursion (IsFitOffer b) (map (offer_of b) es)
level_fits b [] h = tt
level_fits b (e ∷ es) h = (offer_fits b e h.0, level_fits b es h.1)

levels_fit : (b : Seq) (ls : Levels) → Sound b ls → AllByRecursion (AllByRecursion (IsFitOffer b)) (map (map (offer_of b)) ls)
levels_fit b [] h = tt
levels_fit b (l ∷ ls) h = (level_fits b l h.0, levels_fit b ls h.1)

-- what is offered to a process that stands in a body
pub inside_fits : (pr : Program) (y : Stand) (f : IsFitStand pr y) → AllByRecursion (AllByRecursion (IsFitOffer f.body)) (levels_in (body_of pr y.sort) y.control)
inside_fits pr y f =
    subst (λ (o : Option Seq). AllByRecursion (AllByRecursion (IsFitOffer f.body)) (levels_in o y.control)) (sym f.is)
    (levels_fit f.body (offers f.body y.control) (offers_sound f.body y.control f.fits))

-- the offer of a pick is offered to a process that stands in a body
pub record IsPicked (s : State) (p : ℕ) (o : Offer) : Type 0 where
  pub stand : Stand
  pub there : slice_get s.stands p ≡ Some stand
  pub body : Seq
  pub is : body_of s.program stand.sort ≡ Some body
  pub fits : IsFitOffer body o

abbrev IsPickedIf : State → ℕ → Option Offer → Type 0
IsPickedIf s p None = Unit {0}
IsPickedIf s p (Some o) = IsPicked s p o

picked_fits : (s : State) (k : Pick) → IsFitState s → IsPickedIf s k.process (picked s k)
picked_fits s k f = by (slice_get s.stands k.process) refl
  where
    on : (y : Stand) → slice_get s.stands k.process ≡ Some y → (g : IsFitStand s.program y) → (o : Option (List Offer)) → slice_get (levels_in (body_of s.program y.sort) y.control) k.level ≡ o
        → (w : Option Offer) → offer_on o k.place ≡ w → IsPickedIf s k.process w
    on y e g o here None at = tt
    on y e g None here (Some w) at = absurd (not_some w at)
    on y e g (Some os) here (Some w) at = record {
      stand = y;
      there = e;
      body = g.body;
      is = g.is;
      fits = all_got (IsFitOffer g.body) os k.place w (all_got (AllByRecursion (IsFitOffer g.body)) (levels_in (body_of s.program y.sort) y.control) k.level os (inside_fits s.program y g) here) at;
    }

    by : (o : Option Stand) → slice_get s.stands k.process ≡ o → IsPickedIf s k.process (offer_at s k o)
    by None e = tt
    by (Some y) e =
        let here = slice_get (levels_in (body_of s.program y.sort) y.control) k.level in
        on y e (all_got (IsFitStand s.program) s.stands k.process y f e) here refl (offer_on here k.place) refl

-- ---- a process goes on

-- of a process that stands there, what follows fits its body
abbrev MayGo : State → ℕ → Control → Option Stand → Type 0
MayGo s p next None = Unit {0}
MayGo s p next (Some y) = (b : Seq) × (body_of s.program y.sort ≡ Some b) × Fits b next

moved_fits : (s : State) (p : ℕ) (next : Control) (o : Option Stand) → MayGo s p next o → IsFitState s → AreFit s.program (moved_to next o p s.stands)
moved_fits s p next None h f = f
moved_fits s p next (Some y) h f = all_set (IsFitStand s.program) s.stands p (record y { control = next }) f (record { body = h.0; is = h.1; fits = h.2 })

-- a picked offer is taken in a state that has grown since
went_fits : (s t : State) (p : ℕ) (o : Offer) → IsPicked s p o → Grows s t → IsFitState t → IsFitState (went t p o)
went_fits s t p o k g f =
    let there : slice_get t.stands p ≡ Some k.stand = ap (λ (l : List Stand). slice_get l p) g.stands ∙ got_before s.stands g.more p k.stand k.there in
    let body : body_of t.program k.stand.sort ≡ Some k.body = ap (λ (pr : Program). body_of pr k.stand.sort) g.program ∙ k.is in
    moved_fits t p o.next (slice_get t.stands p) (subst (λ (y : Option Stand). MayGo t p o.next y) (sym there) (k.body, body, k.fits.0)) f

-- where another process has gone on, it still stands in its body
still : (ys : List Stand) (p : ℕ) (y : Stand) (c : Control) → slice_get ys p ≡ Some y → (q : ℕ) (z : Stand) → slice_get ys q ≡ Some z
    → (w : Stand) × (slice_get (slice_set ys p (record y { control = c })) q ≡ Some w) × (w.sort ≡ z.sort)
still [] p y c e q z h = absurd (not_some y e)
still (x ∷ xs) zero y c e zero z h = (record y { control = c }, refl, ap (λ (v : Stand). v.sort) (sym (some_same x y e) ∙ some_same x z h))
still (x ∷ xs) zero y c e (suc q) z h = (z, h, refl)
still (x ∷ xs) (suc p) y c e zero z h = (z, h, refl)
still (x ∷ xs) (suc p) y c e (suc q) z h = still xs p y c e q z h

go_picked : (s : State) (p : ℕ) (next : Control) (q : ℕ) (o : Offer) → IsPicked s q o → IsPicked (go_to s p next) q o
go_picked s p next q o k = by (slice_get s.stands p) refl
  where
    by : (y : Option Stand) → slice_get s.stands p ≡ y → IsPicked (record s { stands = moved_to next y p s.stands }) q o
    by None e = record { stand = k.stand; there = k.there; body = k.body; is = k.is; fits = k.fits }
    by (Some y) e =
        let w = still s.stands p y next e q k.stand k.there in
        record { stand = w.0; there = w.1; body = k.body; is = ap (body_of s.program) w.2 ∙ k.is; fits = k.fits }

stays_picked : (s t : State) (q : ℕ) (o : Offer) → Grows s t → IsPicked s q o → IsPicked t q o
stays_picked s t q o g k = record {
  stand = k.stand;
  there = ap (λ (l : List Stand). slice_get l q) g.stands ∙ got_before s.stands g.more q k.stand k.there;
  body = k.body;
  is = ap (λ (pr : Program). body_of pr k.stand.sort) g.program ∙ k.is;
  fits = k.fits;
}

-- ---- steps

abbrev LeadsToFit : Done → Type 0
LeadsToFit d = IsFitState d.state

alone_fits : (n : ℕ) (s : State) (k : Pick) (t : Bool) (o : Option Offer) → IsFitState s → IsPickedIf s k.process o → IfOk (alone n s k t o) LeadsToFit
alone_fits n s k t None f l = f
alone_fits n s k t (Some o) f l =
    chain (GrowsTo s) LeadsToFit (taken n s k t o o.basic) (moved k.process o)
    (taken_grows n s k t o o.basic) (λ d g. went_fits s d.state k.process o l g (grown_fits s d.state f g))

paired_fits : (s : State) (k j : Pick) (t : Bool) (o w : Option Offer) → IsFitState s → IsPickedIf s k.process o → IsPickedIf s j.process w → IfOk (paired s k j t o w) LeadsToFit
paired_fits s k j t (Some o) (Some w) f lo lw =
    chain_any LeadsToFit (passed (reads s j.process t) (message s.channels (reads s k.process t) o.basic) w.basic) (both_on s k.process j.process o w) (λ gs.
    let now = put_all s gs in
    let g = all_stay gs s in
    let there = go_to now k.process o.next in
    went_fits there there j.process w (go_picked now k.process o.next j.process w (stays_picked s now j.process w g lw)) (itself there) (went_fits s now k.process o lo g (grown_fits s now f g)))
paired_fits s k j t (Some o) None f lo lw = f
paired_fits s k j t None (Some w) f lo lw = f
paired_fits s k j t None None f lo lw = f

-- a state that a step leads to is fit too
step_fits : (n : ℕ) (s : State) (m : Move) → IsFitState s → IfOk (after_move n s m) LeadsToFit
step_fits n s (Death p) f = all_taken (IsFitStand s.program) (length s.stands - 1) s.stands f
step_fits n s (Alone k t) f = alone_fits n s k t (picked s k) f (picked_fits s k f)
step_fits n s (Pair k j t) f = paired_fits s k j t (picked s k) (picked s j) f (picked_fits s k f) (picked_fits s j f)

-- ---- the first state and those behind it

goes_is : (x y : Running) (p q : List ℕ) → Goes x p ≡ Goes y q → x ≡ y
goes_is x y p q e = cc

led_fits : (frames : List Frame) (r : Result Done Fault) (t : Running) (printed : List ℕ) → IfOk r LeadsToFit → led_to frames r ≡ Goes t printed → IsFitState t.state
led_fits frames (Ok d) t printed f e = subst (λ (w : Running). IsFitState w.state) (goes_is (record { state = d.state; past = take (length d.state.frames) frames; halt = None }) t d.printed printed e) f
led_fits frames (Err x) t printed f e = cc

path_fits : (s : Running) (path : List (Leg Running Move)) (numbers : List ℕ) → IsPath rules s path numbers → IsFitState s.state → IsFitState (last_state s path).state
path_fits s [] numbers is f = f
path_fits s (leg ∷ legs) numbers (first, rest, same, on, path) f =
    path_fits leg.next legs rest path (led_fits s.state.frames (after_move MOST_DSTEP_STATEMENTS s.state leg.move) leg.next on.printed (step_fits MOST_DSTEP_STATEMENTS s.state leg.move f) on.goes)

-- the proctypes that a model starts with are there
replicate_all : {A : Type 0} (P : A → Type 0) (n : ℕ) (x : A) → P x → AllByRecursion P (replicate n x)
replicate_all P zero x h = tt
replicate_all P (suc n) x h = (h, replicate_all P n x h)

abbrev HasBody : Program → ℕ → Type 0
HasBody pr k = (b : Seq) × (body_of pr k ≡ Some b)

starting_there : (pr : Program) (i : ℕ) (qs : List Proctype) → drop i pr.proctypes ≡ qs → AllByRecursion (HasBody pr) (starting i qs)
starting_there pr i [] e = tt
starting_there pr i (q ∷ qs) e =
    all_both (HasBody pr) (replicate q.starts i) (starting (i + 1) qs) (replicate_all (HasBody pr) q.starts i (q.body, ap (option_map (λ (r : Proctype). r.body)) (head_of pr.proctypes i q qs e)))
    (starting_there pr (i + 1) qs (tail_of pr.proctypes i q qs e))
  where
    head_of : (xs : List Proctype) (j : ℕ) (x : Proctype) (ys : List Proctype) → drop j xs ≡ x ∷ ys → slice_get xs j ≡ Some x
    head_of [] zero x ys h = cc
    head_of [] (suc j) x ys h = cc
    head_of (z ∷ zs) zero x ys h = cc
    head_of (z ∷ zs) (suc j) x ys h = head_of zs j x ys h

    tail_of : (xs : List Proctype) (j : ℕ) (x : Proctype) (ys : List Proctype) → drop j xs ≡ x ∷ ys → drop (j + 1) xs ≡ ys
    tail_of [] zero x ys h = cc
    tail_of [] (suc j) x ys h = cc
    tail_of (z ∷ zs) zero x ys h = cc
    tail_of (z ∷ zs) (suc j) x ys h = let same : suc j + 1 ≡ suc (j + 1) = omega arith in ap (λ (n : ℕ). drop n (z ∷ zs)) same ∙ tail_of zs j x ys h

begins_fit : (pr : Program) (ks : List ℕ) → AllByRecursion (HasBody pr) ks → AreFit pr (map (begins_at pr) ks)
begins_fit pr [] h = tt
begins_fit pr (k ∷ ks) h = (by (body_of pr k) refl h.0, begins_fit pr ks h.1)
  where
    by : (o : Option Seq) → body_of pr k ≡ o → HasBody pr k → IsFitStand pr (begins_by k o)
    by None e (b, is) = absurd (not_some b (sym e ∙ is))
    by (Some b) e there = record { body = b; is = e; fits = first_fits b }

first_fits_by : (pr : Program) (s : State) (lossy : Bool) → IsFirst pr s → IsFitState (first s lossy).state
first_fits_by pr s lossy f =
    let there = all_taken (HasBody pr) 255 (starting 0 pr.proctypes) (starting_there pr 0 pr.proctypes refl) in
    subst (λ (q : Program). AreFit q s.stands) (sym f.program)
    (subst (AreFit pr) (sym f.stands) (begins_fit pr (take 255 (starting 0 pr.proctypes)) there))

begun_fits : (pr : Program) (s : State) (lossy : Bool) → first_state pr ≡ Ok s → IsFitState (first s lossy).state
begun_fits pr s lossy e = first_fits_by pr s lossy (subst (λ (r : Result State Fault). IfOk r (IsFirst pr)) e (living_are pr))

-- each state that a path of a text's model leads to
pub reached_fits : (text : List ℕ) (lossy : Bool) (model state : Running) → IsModel text lossy model → PathLeads rules model state → IsFitState state.state
reached_fits text lossy model state is (path, numbers, along, last) =
    subst (λ (w : Running). IsFitState w.state) last
    (path_fits model path numbers along (subst (λ (w : Running). IsFitState w.state) (sym is.is) (begun_fits is.program is.begun lossy is.starts)))
