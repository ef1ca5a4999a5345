-- Each refusal applies to a tree, or the tree fits it.
use Rattle.std.proofs.Common.{◌≡◌, ◌≢◌, ◌⊎◌, inl, inr, ℕ, ◌<◌, ◌≤◌, Bool, true, false, List, [], ◌∷◌, length, take, Option, Some, None, Result, Ok, Err, refl, sym, ap, ◌∙◌}
use Rattle.std.specs.Prelude.{slice_get, IsSomeAnd, IfSome}
use Rattle.std.proofs.lemmas.Bool.{cases_lt}
use Rattle.std.proofs.lemmas.List.{get_or_past}
use Rattle.std.proofs.lemmas.Option.{slice_get_within}
use Rattle.diagnostics.specs.declared.fault.Fault.{Fault}
use Rattle.diagnostics.specs.declared.refusal.Refusal.{Refusal}
use Rattle.diagnostics.specs.declared.refusal.Refusal.TheVariants as r
use Rattle.pml_tree.specs.declared.tree.Tree.{Tree}
use Rattle.promela_model.specs.declared.mark.Mark.{Mark}
use Rattle.promela_model.specs.Marks.{of_tree}
use Rattle.promela_model.specs.declared.condition.Condition.{Condition}
use Rattle.promela_model.specs.declared.condition.Condition.TheVariants as condition
use Rattle.promela_model.specs.Decided as marks
use Rattle.promela_model.specs.Decided.{Somewhere, broken, crosses_step, processes, first_channels}
use Rattle.check_conditions.specs.Fitted.{Nowhere, FitsMarks}
use Rattle.check_conditions.specs.Step.{begins_there, breaks_loose}
use Rattle.pml_control.specs.declared.ends.Ending.{Ending}
use Rattle.pml_control.specs.declared.ends.Ending.TheVariants as ending
use Rattle.pml_control.specs.Ends.{ending_of, AreEnds}
use Rattle.pml_control.specs.Graph.{posts_of, nexts, bad_step, spot_of}
use Rattle.promela_process.specs.Control.{Circle, SettlesEverywhere, BadFirstPoint, FirstPointsFit}
use Rattle.pml_control.proofs.Circling.{stays_within, decides}
use Rattle.pml_control.proofs.First.{decides_first}
use Rattle.pml_program.specs.declared.program.Seq.{Seq}
use Rattle.pml_program.specs.declared.program.Proctype.{Proctype}
use Rattle.pml_program.specs.declared.program.Program.{Program}
use Rattle.check_resolve.specs.Model.{numbered_model}
use Rattle.promela_run.specs.State.{State, first_state}
use Rattle.promela_refusals.specs.Judged.{condition_of, BreaksModel, AppliesTo, Applies, IsFit, IsLeast}
use Rattle.pml_check.specs.Fitted.{KeepsModel, HasBadStart, HasGoodStart, FitsTo, Fits}
use Rattle.pml_check.specs.Decided.{all_judged, FitsAll, IsFirst}
use Rattle.pml_check.proofs.Seeking.{OneBelow, NoneBelow, below, of_list}
use Rattle.pml_check.proofs.Ends.{are_ends}
use Rattle.pml_check.proofs.Least.{fit_by, first_is_least}
use Rattle.pml_check.proofs.Standing.{one_of}

-- ---- on the marks

module _ (p : List Mark → Mark → Bool) (ms : List Mark) where
  abbrev holds_of : ℕ → Option Mark → Bool
  holds_of k None = false
  holds_of k (Some m) = p (take k ms) m

  abbrev holds_at : ℕ → Bool
  holds_at k = holds_of k (slice_get ms k)

  found_at : (k : ℕ) (o : Option Mark) → slice_get ms k ≡ o → holds_of k o ≡ true → Somewhere p ms
  found_at k None e h = absurd cc
  found_at k (Some m) e h = (k, m, e, h)

  none_at : (k : ℕ) (m : Mark) (o : Option Mark) → o ≡ Some m → holds_of k o ≡ false → p (take k ms) m ≡ false
  none_at k m None e h = absurd cc
  none_at k m (Some n) e h = let same : n ≡ m = cc in ap (p (take k ms)) (sym same) ∙ h

  pub somewhere : Somewhere p ms ⊎ Nowhere p ms
  somewhere = by_search (below holds_at (length ms))
    where
      by_search : OneBelow holds_at (length ms) ⊎ NoneBelow holds_at (length ms) → Somewhere p ms ⊎ Nowhere p ms
      by_search (inl h) = inl (found_at h.0 (slice_get ms h.0) refl h.2)
      by_search (inr none) = inr (λ k m e. none_at k m (slice_get ms k) e (none k (slice_get_within ms k m e)))

turned : {A B : Type 0} → A ⊎ B → B ⊎ A
turned (inl a) = inr a
turned (inr b) = inl b

few_begin : (n m most mosts : ℕ) → ((most < n) ⊎ (mosts < m)) ⊎ ((n ≤ most) × (m ≤ mosts))
few_begin n m most mosts = by_both (cases_lt most n) (cases_lt mosts m)
  where
    by_both : (most < n) ⊎ (n ≤ most) → (mosts < m) ⊎ (m ≤ mosts) → ((most < n) ⊎ (mosts < m)) ⊎ ((n ≤ most) × (m ≤ mosts))
    by_both (inl l) other = inl (inl l)
    by_both (inr g) (inl l) = inl (inr l)
    by_both (inr g) (inr h) = inr (g, h)

on_marks : (x : Condition) (ms : List Mark) → marks.AppliesToMarks x ms ⊎ FitsMarks x ms
on_marks condition.Twice ms = somewhere (broken condition.Twice ms) ms
on_marks condition.Unknown ms = somewhere (broken condition.Unknown ms) ms
on_marks condition.Wrong ms = somewhere (broken condition.Wrong ms) ms
on_marks condition.Arguments ms = somewhere (broken condition.Arguments ms) ms
on_marks condition.Label ms = somewhere (broken condition.Label ms) ms
on_marks condition.Break ms = somewhere breaks_loose ms
on_marks condition.Step ms = somewhere (crosses_step ms) ms
on_marks condition.Range ms = somewhere (broken condition.Range ms) ms
on_marks condition.Cells ms = somewhere (broken condition.Cells ms) ms
on_marks condition.NoProcess ms = turned (somewhere begins_there ms)
on_marks condition.Start ms = few_begin (processes ms) (first_channels ms) _ _

on_condition : (o : Option Condition) (ms : List Mark) → IsSomeAnd o (λ c. marks.AppliesToMarks c ms) ⊎ IfSome o (λ c. FitsMarks c ms)
on_condition None ms = inr tt
on_condition (Some x) ms = on_marks x ms

-- ---- on control

abbrev is_circle : Ending → Bool
is_circle ending.Circles = true
is_circle (ending.Stays t) = false
is_circle ending.Unseen = false

circles_by : (e : Ending) → is_circle e ≡ true → e ≡ ending.Circles
circles_by ending.Circles h = refl
circles_by (ending.Stays t) h = absurd cc
circles_by ending.Unseen h = absurd cc

none_by : (e : Ending) → is_circle e ≡ false → e ≢ ending.Circles
none_by ending.Circles h = absurd cc
none_by (ending.Stays t) h = λ z. cc
none_by ending.Unseen h = λ z. cc

module _ (b : Seq) where
  body_ends : (es : List Ending) × AreEnds (nexts (posts_of b)) es
  body_ends = are_ends (nexts (posts_of b)) (stays_within b)

  circle : Circle b ⊎ SettlesEverywhere b
  circle = by_search (below (λ i. is_circle (ending_of body_ends.0 i)) (length body_ends.0))
    where
      none_of : NoneBelow (λ i. is_circle (ending_of body_ends.0 i)) (length body_ends.0) → (i : ℕ) → (i < length body_ends.0) ⊎ (length body_ends.0 ≤ i) → ending_of body_ends.0 i ≢ ending.Circles
      none_of none i (inl l) = none_by (ending_of body_ends.0 i) (none i l)
      none_of none i (inr g) = λ z. let past : ending_of body_ends.0 i ≡ ending.Unseen = get_or_past body_ends.0 i ending.Unseen g in cc

      by_search : OneBelow (λ i. is_circle (ending_of body_ends.0 i)) (length body_ends.0) ⊎ NoneBelow (λ i. is_circle (ending_of body_ends.0 i)) (length body_ends.0) → Circle b ⊎ SettlesEverywhere b
      by_search (inl h) = inl (decides b body_ends.0 true body_ends.1 (h.0, h.1, circles_by (ending_of body_ends.0 h.0) h.2))
      by_search (inr none) = inr (decides b body_ends.0 false body_ends.1 (λ i. none_of none i (cases_lt i (length body_ends.0))))

  first_point : BadFirstPoint b ⊎ FirstPointsFit b
  first_point = by_search (below (λ i. bad_step (posts_of b) body_ends.0 (spot_of (posts_of b) i).d_step) (length (posts_of b)))
    where
      by_search : OneBelow (λ i. bad_step (posts_of b) body_ends.0 (spot_of (posts_of b) i).d_step) (length (posts_of b))
          ⊎ NoneBelow (λ i. bad_step (posts_of b) body_ends.0 (spot_of (posts_of b) i).d_step) (length (posts_of b)) → BadFirstPoint b ⊎ FirstPointsFit b
      by_search (inl h) = inl (decides_first b body_ends.0 body_ends.1 true h)
      by_search (inr none) = inr (decides_first b body_ends.0 body_ends.1 false none)

-- ---- on the model with its names replaced

on_start : (p : Program) → HasBadStart p ⊎ HasGoodStart p
on_start p = by_result (first_state p) refl
  where
    by_result : (d : Result State Fault) → first_state p ≡ d → HasBadStart p ⊎ HasGoodStart p
    by_result (Ok s) e = inr (s, e)
    by_result (Err f) e = inl (f, e)

on_model : (x : Refusal) (p : Program) → BreaksModel x p ⊎ KeepsModel x p
on_model r.DStep p = of_list (λ (q : Proctype). BadFirstPoint q.body) (λ (q : Proctype). FirstPointsFit q.body) (λ (q : Proctype). first_point q.body) p.proctypes
on_model r.CircleOfGotos p = of_list (λ (q : Proctype). Circle q.body) (λ (q : Proctype). SettlesEverywhere q.body) (λ (q : Proctype). circle q.body) p.proctypes
on_model r.Initialiser p = on_start p
on_model r.TextTooLong p = inr tt
on_model r.Lexical p = inr tt
on_model r.LeftOut p = inr tt
on_model r.TooDeep p = inr tt
on_model r.Syntax p = inr tt
on_model r.NameTwice p = inr tt
on_model r.UnknownName p = inr tt
on_model r.WrongKind p = inr tt
on_model r.ArgumentCount p = inr tt
on_model r.Label p = inr tt
on_model r.BreakOutsideDo p = inr tt
on_model r.NumberOutOfRange p = inr tt
on_model r.TooManyCells p = inr tt
on_model r.NoProcess p = inr tt
on_model r.TooManyAtStart p = inr tt
on_model r.Inline p = inr tt

-- ---- on a tree

on_both : (x : Refusal) (ms : List Mark) (p : Program) → IsSomeAnd (condition_of x) (λ c. marks.AppliesToMarks c ms) ⊎ IfSome (condition_of x) (λ c. FitsMarks c ms) → BreaksModel x p ⊎ KeepsModel x p → AppliesTo x ms p ⊎ FitsTo x ms p
unfolding AppliesTo FitsTo
on_both x ms p (inl a) other = inl (inl a)
on_both x ms p (inr k) (inl a) = inl (inr a)
on_both x ms p (inr k) (inr l) = inr (k, l)

each : (x : Refusal) (ms : List Mark) (p : Program) → AppliesTo x ms p ⊎ FitsTo x ms p
each x ms p = on_both x ms p (on_condition (condition_of x) ms) (on_model x p)

pub either : (t : Tree) (x : Refusal) → Applies t x ⊎ Fits t x
either t x = one_of t x (each x (of_tree t) (numbered_model t))

first_or_fit : (xs : List Refusal) (ms : List Mark) (p : Program) → FitsAll xs ms p ⊎ ((x : Refusal) × IsFirst xs ms p x)
first_or_fit [] ms p = inl tt
first_or_fit (x ∷ xs) ms p = by_both (each x ms p) (first_or_fit xs ms p)
  where
    by_both : AppliesTo x ms p ⊎ FitsTo x ms p → FitsAll xs ms p ⊎ ((y : Refusal) × IsFirst xs ms p y) → FitsAll (x ∷ xs) ms p ⊎ ((y : Refusal) × IsFirst (x ∷ xs) ms p y)
    by_both (inl a) rest = inr (x, inl (refl, a))
    by_both (inr f) (inl all) = inl (f, all)
    by_both (inr f) (inr h) = inr (h.0, inr (f, h.1))

-- what no refusal applies to fits each
pub fits_of : (t : Tree) (x : Refusal) → IsFit t → Fits t x
fits_of t x f = by_either (either t x)
  where
    by_either : Applies t x ⊎ Fits t x → Fits t x
    by_either (inl a) = absurd (f x a)
    by_either (inr g) = g

pub judge : (t : Tree) → IsFit t ⊎ ((x : Refusal) × IsLeast t x)
judge t = by_first (first_or_fit all_judged (of_tree t) (numbered_model t))
  where
    by_first : FitsAll all_judged (of_tree t) (numbered_model t) ⊎ ((x : Refusal) × IsFirst all_judged (of_tree t) (numbered_model t) x) → IsFit t ⊎ ((x : Refusal) × IsLeast t x)
    by_first (inl f) = inl (fit_by t f)
    by_first (inr h) = inr (h.0, first_is_least t h.0 h.1)
