-- How a loop over the statements of a d_step follows its definition.
use Rattle.std.proofs.Common.{◌≡◌, ℕ, zero, suc, ◌+◌, ◌-◌, length, length-append, ◌<◌, Bool, true, false, if◌then◌else◌, List, [], ◌∷◌, ◌++◌, append_assoc, arith, Option, Some, None, Result, Ok, Err, map, subst, refl, sym, ap, ◌∙◌}
use Rattle.std.proofs.lemmas.List.{append-nil}
use Rattle.std.specs.Prelude.{option_map, slice_get}
use Rattle.diagnostics.specs.declared.fault.Fault.{Fault}
use Rattle.diagnostics.specs.declared.fault.Fault.TheVariants.{DStepTooLong}
use Rattle.diagnostics.specs.declared.stop.Stop.{Stop}
use Rattle.diagnostics.specs.declared.stop.Stop.TheVariants as stop
use Rattle.pml_program.specs.declared.program.Program.{Program}
use Rattle.pml_program.specs.declared.program.Seq.{Seq}
use Rattle.promela_process.specs.Control.{Control}
use Rattle.pml_flow.specs.declared.edge.Edge.{Edge}
use Rattle.promela_process.specs.Offers.{Offer}
use Rattle.pml_flow.specs.Points.{point_at}
use Rattle.promela_process.specs.Expressions.{Reading, ◌>>=◌}
use Rattle.promela_process.specs.Store.{Frame}
use Rattle.promela_run.specs.declared.live_channel.LiveChannel.{LiveChannel}
use Rattle.run_state.specs.declared.body.Body.{Body}
use Rattle.promela_run.specs.State.{State, Stand, body_of, reads, levels}
use Rattle.run_state.specs.Standing.{IsBody, shows, edges_at}
use Rattle.promela_run.specs.Moves.{choices}
use Rattle.run_search.specs.Viewed.{first}
use Rattle.run_state.proofs.Placing.{at_node}
use Rattle.run_step.specs.declared.within.Inner.TheVariants.{Left, At}
use Rattle.run_step.specs.Inside.{Advance, Advances, then_at, advanced_by, advanced}
use Rattle.run_state.specs.Live.{Joins, PastGrows}
use Rattle.run_step.specs.Done.{Does}
use Rattle.promela_run.specs.World.{Running}
use Rattle.promela_run.specs.Steps.{Done, body_by, effect, behind_printed, first_of, onward, within}

-- the first choice among the edges of a node is that among the offers of what it stands for
pub first_shown : (k : Body) (n : ℕ) (b : Seq) (lossy loses : Bool) (cs ds : List LiveChannel) (q r : Reading) (e : Option Edge) → IsBody k → b ≡ k.proctype.now.body → lossy ≡ loses → cs ≡ ds → q ≡ r
    → option_map (shows k) e ≡ first (choices lossy cs q (map (map (shows k)) (edges_at k n)))
    → first (choices loses ds r (levels b (point_at b n))) ≡ option_map (shows k) e
first_shown k n b lossy loses cs ds q r e is same losing channels reading h =
    sym (
    h
    ∙ ap (λ (ls : List (List Offer)). first (choices lossy cs q ls)) (at_node k n is)
    ∙ ap (λ (s : Seq). first (choices lossy cs q (levels s (point_at s n)))) (sym same)
    ∙ ap (λ (l : Bool). first (choices l cs q (levels b (point_at b n)))) losing
    ∙ ap (λ (os : List LiveChannel). first (choices loses os q (levels b (point_at b n)))) channels
    ∙ ap (λ (x : Reading). first (choices loses ds x (levels b (point_at b n)))) reading
    )

-- a process stands in one body
pub body_same : (s : State) (p : ℕ) (k : Body) (b : Seq) → Some k.proctype.now.body ≡ body_by s (slice_get s.stands p) → body_by s (slice_get s.stands p) ≡ Some b → b ≡ k.proctype.now.body
body_same s p k b f h = let g : Some k.proctype.now.body ≡ Some b = f ∙ h in cc

-- ---- the loop

-- what was printed first stands first
behind_behind : (xs ys : List ℕ) (r : Result Done Fault) → ((r >>= behind_printed ys) >>= behind_printed xs) ≡ (r >>= behind_printed (xs ++ ys))
behind_behind xs ys (Ok d) = ap (λ (bytes : List ℕ). Ok (record { state = d.state; printed = bytes })) (sym (append_assoc xs ys d.printed))
behind_behind xs ys (Err f) = refl

behind_none : (r : Result Done Fault) → (r >>= behind_printed []) ≡ r
behind_none (Ok d) = refl
behind_none (Err f) = refl

-- after one statement, at most n more
abbrev goes_on : ℕ → ℕ → Seq → Option Control → Done → Result Done Fault
goes_on n p b None d = Ok d
goes_on n p b (Some c) d = within n d.state p false b c >>= behind_printed d.printed

one_done : (n : ℕ) (p : ℕ) (b : Seq) (o : Offer) (r : Result Done Fault)
    → (r >>= λ d. onward o.stays d (λ e. within n e.state p false b o.next >>= behind_printed e.printed)) ≡ (r >>= then_at o >>= λ x. goes_on n p b x.next x.done)
one_done n p b o (Err f) = refl
one_done n p b o (Ok d) = by_case o.stays
  where
    by_case : (stays : Bool) → onward stays d (λ e. within n e.state p false b o.next >>= behind_printed e.printed) ≡ goes_on n p b (if stays then Some o.next else None) d
    by_case true = refl
    by_case false = refl

first_done : (n : ℕ) (s : State) (p : ℕ) (t : Bool) (b : Seq) (os : List Offer)
    → first_of os (λ o. effect s p t o.basic >>= λ d. onward o.stays d (λ e. within n e.state p false b o.next >>= behind_printed e.printed))
    ≡ (advanced_by s p t (first os) >>= λ x. goes_on n p b x.next x.done)
first_done n s p t b [] = refl
first_done n s p t b (o ∷ os) = one_done n p b o (effect s p t o.basic)

-- a d_step is one statement, and what follows
one_more : (n : ℕ) (s : State) (p : ℕ) (t : Bool) (b : Seq) (c : Control) → within (suc n) s p t b c ≡ (advanced s p t b c >>= λ x. goes_on n p b x.next x.done)
one_more n s p t b c = first_done n s p t b (choices s.lossy s.channels (reads s p t) (levels b c))

-- what is left after i statements, behind what was printed so far, is the whole
pub record Follows (b : Seq) (most i : ℕ) (old now : State) (p : ℕ) (t u : Bool) (c d : Control) (before after : List ℕ) : Type 0 where
  pub printed : List ℕ
  pub text : after ≡ before ++ printed
  pub rest : (n : ℕ) → n + i ≡ most → (within n now p u b d >>= behind_printed printed) ≡ within most old p t b c

pub follows_first : (b : Seq) (most : ℕ) (s : State) (p : ℕ) (t : Bool) (c : Control) (before : List ℕ) → Follows b most 0 s s p t t c c before before
follows_first b most s p t c before = record {
  printed = [];
  text = sym (append-nil before);
  rest = λ n e. let k : n ≡ most = omega (arith, e) in behind_none (within n s p t b c) ∙ ap (λ (m : ℕ). within m s p t b c) k;
}

-- one statement of those that are left
after_one : (b : Seq) (most i : ℕ) (old now : State) (p : ℕ) (t u : Bool) (c d : Control) (before after : List ℕ) (n : ℕ) (r : Result Advance Fault)
    → (f : Follows b most i old now p t u c d before after) → suc n + i ≡ most → advanced now p u b d ≡ r
    → ((r >>= λ x. goes_on n p b x.next x.done) >>= behind_printed f.printed) ≡ within most old p t b c
after_one b most i old now p t u c d before after n r f e a =
    ap (λ (y : Result Advance Fault). (y >>= λ x. goes_on n p b x.next x.done) >>= behind_printed f.printed) (sym a)
    ∙ ap (λ (y : Result Done Fault). y >>= behind_printed f.printed) (sym (one_more n now p u b d))
    ∙ f.rest (suc n) e

-- control stays inside
pub follows_next : (b : Seq) (most i : ℕ) (old now new : State) (p : ℕ) (t u : Bool) (c d : Control) (m : ℕ) (before mid after : List ℕ)
    → Follows b most i old now p t u c d before mid → Advances b (advanced now p u b d) (Ok (At m)) new mid after
    → Follows b most (i + 1) old new p t false c (point_at b m) before after
follows_next b most i old now new p t u c d m before mid after f h = by_case (advanced now p u b d) refl h
  where
    by_case : (r : Result Advance Fault) → advanced now p u b d ≡ r → Advances b r (Ok (At m)) new mid after → Follows b most (i + 1) old new p t false c (point_at b m) before after
    by_case (Err g) a k = absurd k
    by_case (Ok x) a k = record {
      printed = f.printed ++ x.done.printed;
      text = k.1 ∙ ap (λ (bytes : List ℕ). bytes ++ x.done.printed) f.text ∙ append_assoc before f.printed x.done.printed;
      rest = λ n e.
          let l : suc n + i ≡ most = omega (arith, e) in
          ap (λ (s : State). within n s p false b (point_at b m) >>= behind_printed (f.printed ++ x.done.printed)) k.0
          ∙ sym (behind_behind f.printed x.done.printed (within n x.done.state p false b (point_at b m)))
          ∙ ap (λ (o : Option Control). goes_on n p b o x.done >>= behind_printed f.printed) (sym k.2)
          ∙ after_one b most i old now p t u c d before mid n (Ok x) f l a;
    }

-- control leaves
pub follows_left : (b : Seq) (most i : ℕ) (old now new : State) (p : ℕ) (t u : Bool) (c d : Control) (before mid after : List ℕ)
    → i < most → Follows b most i old now p t u c d before mid → Advances b (advanced now p u b d) (Ok Left) new mid after
    → Does (within most old p t b c) (Ok tt) new before after
follows_left b most i old now new p t u c d before mid after l f h = by_case (advanced now p u b d) refl h
  where
    by_case : (r : Result Advance Fault) → advanced now p u b d ≡ r → Advances b r (Ok Left) new mid after → Does (within most old p t b c) (Ok tt) new before after
    by_case (Err g) a k = absurd k
    by_case (Ok x) a k =
        let n : suc (most - (i + 1)) + i ≡ most = omega (arith, l) in
        let all : Ok (record { state = x.done.state; printed = f.printed ++ x.done.printed }) ≡ within most old p t b c =
        ap (λ (o : Option Control). goes_on (most - (i + 1)) p b o x.done >>= behind_printed f.printed) (sym k.2)
        ∙ after_one b most i old now p t u c d before mid (most - (i + 1)) (Ok x) f n a in
        subst (λ (r : Result Done Fault). Does r (Ok tt) new before after) all
        (k.0, k.1 ∙ ap (λ (bytes : List ℕ). bytes ++ x.done.printed) f.text ∙ append_assoc before f.printed x.done.printed)

for_memory : (r : Result Done Fault) (new : State) (before after : List ℕ) → Does r (Err stop.Memory) new before after
for_memory (Ok d) new before after = tt
for_memory (Err f) new before after = tt

-- the run stops
pub follows_stop : (b : Seq) (most i : ℕ) (old now new : State) (p : ℕ) (t u : Bool) (c d : Control) (before mid after : List ℕ) (s : Stop)
    → i < most → Follows b most i old now p t u c d before mid → Advances b (advanced now p u b d) (Err s) new mid after
    → Does (within most old p t b c) (Err s) new before after
follows_stop b most i old now new p t u c d before mid after stop.Memory l f h = for_memory (within most old p t b c) new before after
follows_stop b most i old now new p t u c d before mid after (stop.Fault g) l f h = by_case (advanced now p u b d) refl h
  where
    by_case : (r : Result Advance Fault) → advanced now p u b d ≡ r → Advances b r (Err (stop.Fault g)) new mid after → Does (within most old p t b c) (Err (stop.Fault g)) new before after
    by_case (Ok x) a k = absurd k
    by_case (Err e) a k =
        let n : suc (most - (i + 1)) + i ≡ most = omega (arith, l) in
        subst (λ (r : Result Done Fault). Does r (Err (stop.Fault g)) new before after)
        (after_one b most i old now p t u c d before mid (most - (i + 1)) (Err e) f n a) k

-- no statement is left
pub follows_long : (b : Seq) (most i : ℕ) (old now : State) (p : ℕ) (t u : Bool) (c d : Control) (before after : List ℕ)
    → i ≡ most → Follows b most i old now p t u c d before after → Does (within most old p t b c) (Err (stop.Fault DStepTooLong)) now before after
follows_long b most i old now p t u c d before after e f =
    let n : 0 + i ≡ most = omega (arith, e) in
    subst (λ (r : Result Done Fault). Does r (Err (stop.Fault DStepTooLong)) now before after) (f.rest 0 n) refl

-- ---- the state grows

pub joins_same : (s : State) → Joins s s
joins_same s = record { program = refl; more = []; stands = sym (append-nil s.stands) }

pub joins_on : (old mid new : State) → Joins old mid → Joins mid new → Joins old new
joins_on old mid new g h = record {
  program = h.program ∙ g.program;
  more = g.more ++ h.more;
  stands = h.stands ∙ (ap (λ (ys : List Stand). ys ++ h.more) g.stands ∙ append_assoc old.stands g.more h.more);
}

pub past_same : (l : Running) → PastGrows l l
past_same l = ([], sym (append-nil l.past))

pub past_on : (old mid new : Running) → PastGrows old mid → PastGrows mid new → PastGrows old new
past_on old mid new g h = (g.0 ++ h.0, h.1 ∙ (ap (λ (fs : List Frame). fs ++ h.0) g.1 ∙ append_assoc old.past g.0 h.0))

-- its processes are still there
pub still_there : (old new : State) (p : ℕ) → Joins old new → p < length old.stands → p < length new.stands
still_there old new p g l = let n = ap (λ (ys : List Stand). length ys) g.stands in omega (arith, l, n, length-append old.stands g.more)

get_front : (xs ys : List Stand) (k : ℕ) → k < length xs → slice_get (xs ++ ys) k ≡ slice_get xs k
get_front [] ys k l = absurd (omega (arith, l))
get_front (x ∷ xs) ys zero l = refl
get_front (x ∷ xs) ys (suc k) l = let m : k < length xs = omega (arith, l) in get_front xs ys k m

body_of_one : (s t : State) (o : Option Stand) → t.program ≡ s.program → body_by t o ≡ body_by s o
body_of_one s t None h = refl
body_of_one s t (Some y) h = ap (λ (pr : Program). body_of pr y.sort) h

-- each in its body
pub body_still : (old new : State) (p : ℕ) (b : Seq) → Joins old new → p < length old.stands → body_by old (slice_get old.stands p) ≡ Some b → body_by new (slice_get new.stands p) ≡ Some b
body_still old new p b g l h =
    ap (λ (ys : List Stand). body_by new (slice_get ys p)) g.stands
    ∙ (ap (body_by new) (get_front old.stands g.more p l) ∙ (body_of_one old new (slice_get old.stands p) g.program ∙ h))
