-- Where processes go that take offers.
use Rattle.std.proofs.Common.{◌≡◌, ℕ, zero, suc, ◌<◌, arith, Bool, List, [], ◌∷◌, ◌++◌, map, length, refl, sym, ap, ◌∙◌, subst, Option, Some, None, Result, Ok, Err}
use Rattle.std.specs.Prelude.{slice_get, option_map, if◌then◌else◌}
use Rattle.std.specs.Option.{option_copied}
use Rattle.std.proofs.lemmas.Option.{slice_get-map}
use Rattle.std.proofs.Math.Seq.{map-set_same}
use Rattle.std.proofs.lemmas.List.{append-nil}
use Rattle.diagnostics.specs.declared.fault.Fault.{Fault}
use Rattle.diagnostics.specs.declared.stop.Stop.{Stop}
use Rattle.diagnostics.specs.declared.stop.Stop.TheVariants as stop
use Rattle.pml_program.specs.declared.program.Basic.{Basic}
use Rattle.pml_program.specs.declared.program.Seq.{Seq}
use Rattle.pml_program.specs.declared.program.Program.{Program}
use Rattle.promela_process.specs.Control.{Control}
use Rattle.promela_process.specs.Offers.{Offer as Offered}
use Rattle.promela_process.specs.Expressions.{◌>>=◌}
use Rattle.promela_run.specs.declared.goes.Goes.{Goes}
use Rattle.promela_run.specs.declared.moves.Pick.{Pick}
use Rattle.promela_run.specs.State.{Stand, State, body_of, reads, picked}
use Rattle.run_state.specs.Standing.{control_at}
use Rattle.promela_run.specs.Moves.{message}
use Rattle.run_state.proofs.Finding.{got}
use Rattle.run_step.specs.declared.take.Offer.{Offer}
use Rattle.promela_run.specs.Steps.{go_to, went, Done, body_by, passed, both_on, paired, moved_to}
use Rattle.run_search.specs.Lifted.{moved}
use Rattle.run_step.specs.Passing.{put_any}
use Rattle.run_step.specs.Done.{Does}
use Rattle.run_state.specs.Live.{Leads, Joins}
use Rattle.run_step.specs.Taking.{IsOffer}

-- ---- where the bodies are

abbrev body_by_sort : Program → Option ℕ → Option Seq
body_by_sort pr None = None
body_by_sort pr (Some k) = body_of pr k

by_sort : (s : State) (o : Option Stand) → body_by s o ≡ body_by_sort s.program (option_map (λ (y : Stand). y.sort) o)
by_sort s None = refl
by_sort s (Some y) = refl

-- the body of a process is known by the sorts
abbrev sorts_of : State → List ℕ
sorts_of s = map (λ (y : Stand). y.sort) s.stands

body_is : (s : State) (p : ℕ) → body_by s (slice_get s.stands p) ≡ body_by_sort s.program (slice_get (sorts_of s) p)
body_is s p = by_sort s (slice_get s.stands p) ∙ ap (body_by_sort s.program) (sym (slice_get-map (λ (y : Stand). y.sort) s.stands p))

pub same_body : (s t : State) (p : ℕ) → t.program ≡ s.program → slice_get (sorts_of t) p ≡ slice_get (sorts_of s) p → body_by t (slice_get t.stands p) ≡ body_by s (slice_get s.stands p)
same_body s t p e k = body_is t p ∙ ap (λ (pr : Program). body_by_sort pr (slice_get (sorts_of t) p)) e ∙ ap (body_by_sort s.program) k ∙ sym (body_is s p)

-- a process that goes on is of the same sort
moved_sorts : (next : Control) (p : ℕ) (ys : List Stand) (o : Option Stand) → slice_get ys p ≡ o → map (λ (y : Stand). y.sort) (moved_to next o p ys) ≡ map (λ (y : Stand). y.sort) ys
moved_sorts next p ys None e = refl
moved_sorts next p ys (Some y) e = map-set_same (λ (y : Stand). y.sort) ys p (record y { control = next }) y (ap (λ (y : Stand). y.sort) (sym (got ys p y y e)))

body_there : (s : State) (p q : ℕ) (c : Control) → body_by (go_to s p c) (slice_get (go_to s p c).stands q) ≡ body_by s (slice_get s.stands q)
body_there s p q c = same_body s (go_to s p c) q refl (ap (λ (ks : List ℕ). slice_get ks q) (moved_sorts c p s.stands (slice_get s.stands p) refl))

-- so is one behind which others are added
append_left : {A : Type 0} (xs ys : List A) (p : ℕ) → p < length xs → slice_get (xs ++ ys) p ≡ slice_get xs p
append_left [] ys p h = absurd (omega (arith, h))
append_left (x ∷ xs) ys zero h = refl
append_left (x ∷ xs) ys (suc p) h = append_left xs ys p (omega (arith, h))

pub joined_body : (s t : State) (p : ℕ) → Joins s t → p < length s.stands → body_by t (slice_get t.stands p) ≡ body_by s (slice_get s.stands p)
joined_body s t p j h =
    let same : slice_get t.stands p ≡ slice_get s.stands p = ap (λ (ys : List Stand). slice_get ys p) j.stands ∙ append_left s.stands j.more p h in
    same_body s t p j.program (slice_get-map (λ (y : Stand). y.sort) t.stands p ∙ ap (option_map (λ (y : Stand). y.sort)) same ∙ sym (slice_get-map (λ (y : Stand). y.sort) s.stands p))

-- ---- where an edge leads

next_is : (s t : State) (k : Pick) (x : Offer) (h : IsOffer s k x) → body_by t (slice_get t.stands k.process) ≡ body_by s (slice_get s.stands k.process) → control_at (body_by t (slice_get t.stands k.process)) x.edge.now.target ≡ h.offer.next
next_is s t k x h e = ap (λ (b : Option Seq). control_at b x.edge.now.target) (e ∙ h.stands) ∙ h.next

-- the process goes there, and holds or not
pub followed : (s t : State) (k : Pick) (x : Offer) (h : IsOffer s k x) → body_by t (slice_get t.stands k.process) ≡ body_by s (slice_get s.stands k.process) →
    record (go_to t k.process (control_at (body_by t (slice_get t.stands k.process)) x.edge.now.target)) { holder = if x.edge.now.keeps then Some k.process else None } ≡ went t k.process h.offer
followed s t k x h e =
    ap (λ (c : Control). record (go_to t k.process c) { holder = if x.edge.now.keeps then Some k.process else None }) (next_is s t k x h e)
    ∙ ap (λ (b : Bool). record (go_to t k.process h.offer.next) { holder = if b then Some k.process else None }) h.keeps

-- ---- a process by itself

memory_any : (x : Result Done Fault) (new : State) (before after : List ℕ) → Does x (Err stop.Memory) new before after
memory_any (Ok d) new before after = tt
memory_any (Err f) new before after = tt

pub stops_before : (x : Result Done Fault) (rest : Done → Result Done Fault) (e : Stop) (new t : State) (before after : List ℕ) → Does x (Err e) new before after → Does (x >>= rest) (Err e) t before after
stops_before (Ok d) rest stop.Memory new t before after h = memory_any (rest d) t before after
stops_before (Ok d) rest (stop.Fault f) new t before after h = absurd h
stops_before (Err f) rest stop.Memory new t before after h = tt
stops_before (Err f) rest (stop.Fault g) new t before after h = h

pub goes_on : (x : Result Done Fault) (p : ℕ) (o : Offered) (u : Unit {0}) (t new : State) (before after : List ℕ) → Does x (Ok u) t before after → new ≡ went t p o → Does (x >>= moved p o) (Ok u) new before after
goes_on (Ok d) p o u t new before after h e = (e ∙ ap (λ (s : State). went s p o) h.0, h.1)
goes_on (Err f) p o u t new before after h e = absurd h

-- ---- two processes

pub pass_stops : (s : State) (p q : ℕ) (o w : Offered) (r : Result (List Goes) Fault) (e : Stop) (t : State) (text : List ℕ) → Leads (put_any s r) (Err e) t → Does (r >>= both_on s p q o w) (Err e) t text text
pass_stops s p q o w (Ok gs) stop.Memory t text h = tt
pass_stops s p q o w (Ok gs) (stop.Fault f) t text h = absurd h
pass_stops s p q o w (Err f) stop.Memory t text h = tt
pass_stops s p q o w (Err f) (stop.Fault g) t text h = h

pub pass_goes : (s : State) (p q : ℕ) (o w : Offered) (r : Result (List Goes) Fault) (u : Unit {0}) (t new : State) (text : List ℕ) → Leads (put_any s r) (Ok u) t → new ≡ went (go_to t p o.next) q w → Does (r >>= both_on s p q o w) (Ok u) new text text
pass_goes s p q o w (Ok gs) u t new text h e = (e ∙ ap (λ (z : State). went (go_to z p o.next) q w) h, sym (append-nil text))
pass_goes s p q o w (Err f) u t new text h e = absurd h

module _ (s : State) (k j : Pick) (timeout : Bool) (x y : Offer) (hx : IsOffer s k x) (hy : IsOffer s j y) where
  abbrev numbers : Option Basic → Option Basic → Result (List Goes) Fault
  numbers a b = passed (reads s j.process timeout) (message s.channels (reads s k.process timeout) a) b

  same_numbers : numbers (option_copied x.basic) (option_copied y.basic) ≡ numbers hx.offer.basic hy.offer.basic
  same_numbers = ap (λ (a : Option Basic). numbers a (option_copied y.basic)) hx.basic ∙ ap (numbers hx.offer.basic) hy.basic

  paired_is : paired s k j timeout (picked s k) (picked s j) ≡ (numbers (option_copied x.basic) (option_copied y.basic) >>= both_on s k.process j.process hx.offer hy.offer)
  paired_is =
      ap (λ (o : Option Offered). paired s k j timeout o (picked s j)) hx.is ∙ ap (λ (o : Option Offered). paired s k j timeout (Some hx.offer) o) hy.is
      ∙ ap (λ (r : Result (List Goes) Fault). r >>= both_on s k.process j.process hx.offer hy.offer) (sym same_numbers)

  pub pair_stops : (e : Stop) (t : State) (text : List ℕ) → Leads (put_any s (numbers (option_copied x.basic) (option_copied y.basic))) (Err e) t →
      Does (paired s k j timeout (picked s k) (picked s j)) (Err e) t text text
  pair_stops e t text h =
      subst (λ (r : Result Done Fault). Does r (Err e) t text text) (sym paired_is)
      (pass_stops s k.process j.process hx.offer hy.offer (numbers (option_copied x.basic) (option_copied y.basic)) e t text h)

  pub pair_goes : (u : Unit {0}) (t mid new : State) (text : List ℕ) → Leads (put_any s (numbers (option_copied x.basic) (option_copied y.basic))) (Ok u) t → t.program ≡ s.program → t.stands ≡ s.stands →
      mid ≡ go_to t k.process (control_at (body_by t (slice_get t.stands k.process)) x.edge.now.target) →
      new ≡ record (go_to mid j.process (control_at (body_by mid (slice_get mid.stands j.process)) y.edge.now.target)) { holder = if y.edge.now.keeps then Some j.process else None } →
      Does (paired s k j timeout (picked s k) (picked s j)) (Ok u) new text text
  pair_goes u t mid new text h pr st m n =
      let body : (p : ℕ) → body_by t (slice_get t.stands p) ≡ body_by s (slice_get s.stands p) = λ p. same_body s t p pr (ap (λ (ys : List Stand). slice_get (map (λ (y : Stand). y.sort) ys) p) st) in
      let gone : mid ≡ go_to t k.process hx.offer.next = m ∙ ap (go_to t k.process) (next_is s t k x hx (body k.process)) in
      let there : body_by mid (slice_get mid.stands j.process) ≡ body_by s (slice_get s.stands j.process) =
      ap (λ (z : State). body_by z (slice_get z.stands j.process)) gone ∙ body_there t k.process j.process hx.offer.next ∙ body j.process in
      subst (λ (r : Result Done Fault). Does r (Ok u) new text text) (sym paired_is)
      (pass_goes s k.process j.process hx.offer hy.offer (numbers (option_copied x.basic) (option_copied y.basic)) u t new text h
      (n ∙ followed s mid j y hy there ∙ ap (λ (z : State). went z j.process hy.offer) gone))
