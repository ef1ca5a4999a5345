-- A goto to a label in another d_step.
use Rattle.std.proofs.Common.{◌≡◌, ◌≢◌, ◌⊎◌, ℕ, zero, suc, ◌+◌, ◌≤◌, ◌<◌, Bool, true, false, not, ◌&&◌, nat_eq, cond, List, [], ◌∷◌, ◌++◌, length, take, drop, reverse, get_or, Option, Some, None, refl, ap, sym, subst, ◌∙◌, inl, inr, arith, add-one}
use Rattle.std.specs.Option.{option_or}
use Rattle.std.specs.Prelude.{slice_get}
use Rattle.std.proofs.Math.Seq.{take-length}
use Rattle.std.specs.Str.{bytes_eq}
use Rattle.std.proofs.lemmas.List.{reverse-append, get_or_default, take-append-drop, take-take}
use Rattle.std.proofs.lemmas.Option.{slice_get_read, slice_get_within, get_or_from_slice_get}
use Rattle.std.proofs.lemmas.Bool.{eq-eqb, eqb-true}
use Rattle.std.proofs.lemmas.Bool.Decides.{eqb_tells}
use Rattle.std.proofs.lemmas.Slice.Eq.{bytes_eq-Decides}
use Rattle.pml_token.specs.Word.{Word}
use Rattle.promela_model.specs.Marks.{mark}
use Rattle.promela_model.specs.declared.mark.What.{What}
use Rattle.promela_model.specs.declared.mark.What.TheVariants as what
use Rattle.promela_model.specs.declared.mark.Mark.{Mark}
use Rattle.promela_model.specs.declared.condition.Condition.TheVariants as condition
use Rattle.promela_model.specs.Decided.{opened, innermost_step, round, is_label, labelled, AppliesToMarks, crosses_step}
use Rattle.check_conditions.specs.Step.{step_there, same_step, elsewhere, labels_in}
use Rattle.check_conditions.specs.Laws.{IsFirstLabel}
use Rattle.check_conditions.proofs.Looking.{back_more}

-- ---- one label

same_text : (n : List ℕ) → bytes_eq n n ≡ true
same_text n = (bytes_eq-Decides n n).1 refl

is-it : (o : ℕ) (l : Word) → is_label o l.text o (what.Label l) ≡ true
is-it o l = ap (λ b. b && bytes_eq l.text l.text) (eq-eqb o o refl) ∙ same_text l.text

-- a mark that is the label n of o
pub record Is (o : ℕ) (n : List ℕ) (k : ℕ) (w : What) : Type 0 where
  pub l : Word
  pub owner : k ≡ o
  pub is : w ≡ what.Label l
  pub text : l.text ≡ n

and_true : (b c : Bool) → (b && c) ≡ true → (b ≡ true) × (c ≡ true)
and_true true c h = (refl, h)
and_true false c h = absurd cc

which : (o : ℕ) (n : List ℕ) (k : ℕ) (w : What) → is_label o n k w ≡ true → Is o n k w
which o n k (what.Label l) h =
    let t = and_true (nat_eq k o) (bytes_eq l.text n) h in
    record { l = l; owner = eqb-true k o t.0; is = refl; text = (bytes_eq-Decides l.text n).0 t.1 }
which o n k _ h = absurd cc

not_it : (b : Bool) → (b ≡ true → ⊥) → b ≡ false
not_it true h = absurd (h refl)
not_it false h = refl

-- ---- one mark more

kept : (x y : Option (Option ℕ)) (s : Option ℕ) → x ≡ Some s → option_or x y ≡ Some s
kept (Some t) y s h = h
kept None y s h = absurd cc

new : (x : Option (Option ℕ)) (b : Bool) (s : Option ℕ) → x ≡ None → b ≡ true → option_or x (cond b (Some s) None) ≡ Some s
new None true s h e = refl
new None false s h e = absurd cc
new (Some t) b s h e = absurd cc

still_none : (x : Option (Option ℕ)) (b : Bool) (s : Option ℕ) → x ≡ None → b ≡ false → option_or x (cond b (Some s) None) ≡ None
still_none None false s h e = refl
still_none None true s h e = absurd cc
still_none (Some t) b s h e = absurd cc

old_or_new : (x : Option (Option ℕ)) (b : Bool) (t s : Option ℕ) → option_or x (cond b (Some t) None) ≡ Some s → (x ≡ Some s) ⊎ ((x ≡ None) × (b ≡ true) × (s ≡ t))
old_or_new (Some y) b t s h = inl h
old_or_new None true t s h = inr (refl, refl, cc)
old_or_new None false t s h = absurd cc

none_before : (x y : Option (Option ℕ)) → option_or x y ≡ None → x ≡ None
none_before None y h = refl
none_before (Some s) y h = absurd cc

-- ---- all labels

front : (xs ms : List Mark) (o : ℕ) (n : List ℕ) (s : Option ℕ) → labelled ms o n ≡ Some s → labelled (xs ++ ms) o n ≡ Some s
front [] ms o n s h = h
front (x ∷ xs) ms o n s h = kept (labelled (xs ++ ms) o n) (step_there o n x.owner x.what (innermost_step (opened (xs ++ ms) 0))) s (front xs ms o n s h)

-- and none in the whole is none in its beginning
back : (xs ms : List Mark) (o : ℕ) (n : List ℕ) → labelled (xs ++ ms) o n ≡ None → labelled ms o n ≡ None
back [] ms o n h = h
back (x ∷ xs) ms o n h = back xs ms o n (none_before (labelled (xs ++ ms) o n) (step_there o n x.owner x.what (innermost_step (opened (xs ++ ms) 0))) h)

module _ (ms : List Mark) (o j : ℕ) (l : Word) (h : IsFirstLabel ms o j l) where
  within : j < length ms
  within = slice_get_within ms j (mark o (what.Label l)) h.stands

  none : (i : ℕ) → i ≤ j → labelled (reverse (take i ms)) o l.text ≡ None
  none zero le = refl
  none (suc i) le =
      let lt : i < length ms = let w = within in omega arith in
      let m : Mark = get_or ms i (mark o (what.Label l)) in
      let e : m ≡ get_or ms i m = get_or_default ms i (mark o (what.Label l)) m lt in
      let at : slice_get ms i ≡ Some m = slice_get_read ms (length ms) i m refl lt e in
      let other : is_label o l.text m.owner m.what ≡ false = not_it (is_label o l.text m.owner m.what) (λ t.
      let x = which o l.text m.owner m.what t in
      h.first i x.l (omega arith) (at ∙ ap (λ a. Some (mark a m.what)) x.owner ∙ ap (λ w. Some (mark o w)) x.is) x.text) in
      let step : labelled (reverse (take (i + 1) ms)) o l.text ≡ None =
      ap (λ xs. labelled xs o l.text) (back_more ms i m lt e)
      ∙ still_none (labelled (reverse (take i ms)) o l.text) (is_label o l.text m.owner m.what) (round (take i ms)).step (none i (omega arith)) other in
      subst (λ (k : ℕ). labelled (reverse (take k ms)) o l.text ≡ None) (add-one i) step

  there : labelled (reverse (take (j + 1) ms)) o l.text ≡ Some (round (take j ms)).step
  there =
      let m : Mark = mark o (what.Label l) in
      let e : m ≡ get_or ms j m = sym (get_or_from_slice_get ms j m m h.stands) in
      ap (λ xs. labelled xs o l.text) (back_more ms j m within e)
      ∙ new (labelled (reverse (take j ms)) o l.text) (is_label o l.text o (what.Label l)) (round (take j ms)).step (none j (omega arith)) (is-it o l)

  known : labels_in ms o l.text ≡ Some (round (take j ms)).step
  known =
      let split : reverse ms ≡ reverse (drop (j + 1) ms) ++ reverse (take (j + 1) ms) = ap reverse (sym (take-append-drop (j + 1) ms)) ∙ reverse-append (take (j + 1) ms) (drop (j + 1) ms) in
      ap (λ xs. labelled xs o l.text) split
      ∙ front (reverse (drop (j + 1) ms)) (reverse (take (j + 1) ms)) o l.text (round (take j ms)).step there

apart : (a b : Option ℕ) → b ≢ a → same_step a b ≡ false
apart None None h = absurd (h refl)
apart None (Some b) h = refl
apart (Some a) None h = refl
apart (Some a) (Some b) h = elim (eqb_tells a b) [
  | inl e ↦ absurd (h (ap Some (sym e.1)))
  | inr e ↦ e.0
]

pub goto_crosses : (ms : List Mark) (o k j : ℕ) (g l : Word) → slice_get ms k ≡ Some (mark o (what.Goto g)) → IsFirstLabel ms o j l → g.text ≡ l.text → (round (take k ms)).step ≢ (round (take j ms)).step → AppliesToMarks condition.Step ms
goto_crosses ms o k j g l s h same far =
    (k, mark o (what.Goto g), s, ap (λ n. elsewhere (labels_in ms o n) (round (take k ms))) same ∙ ap (λ p. elsewhere p (round (take k ms))) (known ms o j l h) ∙ ap not (apart (round (take j ms)).step (round (take k ms)).step far))

-- ---- and back

-- a label that stands in the list is the first of its name
pub record Stands (ms : List Mark) (o i : ℕ) (n : List ℕ) (s : Option ℕ) : Type 0 where
  pub j : ℕ
  pub l : Word
  pub before : j < i
  pub stands : slice_get ms j ≡ Some (mark o (what.Label l))
  pub text : l.text ≡ n
  pub step : s ≡ (round (take j ms)).step
  pub none : labelled (reverse (take j ms)) o n ≡ None

stands_there : (ms : List Mark) (o : ℕ) (n : List ℕ) (s : Option ℕ) (d : Mark) (i : ℕ) → i ≤ length ms → labelled (reverse (take i ms)) o n ≡ Some s → Stands ms o i n s
stands_there ms o n s d zero le h = absurd cc
stands_there ms o n s d (suc i) le h =
    let lt : i < length ms = omega arith in
    let m : Mark = get_or ms i d in
    let e : m ≡ get_or ms i m = get_or_default ms i d m lt in
    let at : slice_get ms i ≡ Some m = slice_get_read ms (length ms) i m refl lt e in
    let g : labelled (reverse (take (i + 1) ms)) o n ≡ Some s = subst (λ (k : ℕ). labelled (reverse (take k ms)) o n ≡ Some s) (sym (add-one i)) h in
    let f : option_or (labelled (reverse (take i ms)) o n) (step_there o n m.owner m.what (round (take i ms)).step) ≡ Some s = ap (λ xs. labelled xs o n) (sym (back_more ms i m lt e)) ∙ g in
    elim (old_or_new (labelled (reverse (take i ms)) o n) (is_label o n m.owner m.what) (round (take i ms)).step s f) [
      | inl x ↦ let r = stands_there ms o n s d i (omega arith) x in
          record { j = r.j; l = r.l; before = let b = r.before in omega arith; stands = r.stands; text = r.text; step = r.step; none = r.none }
      | inr x ↦ let y = which o n m.owner m.what x.1 in
          record { j = i; l = y.l; before = omega arith; stands = at ∙ ap (λ a. Some (mark a m.what)) y.owner ∙ ap (λ w. Some (mark o w)) y.is; text = y.text; step = x.2; none = x.0 }
    ]

apart_back : (a b : Option ℕ) → same_step a b ≡ false → b ≢ a
apart_back None None h e = absurd cc
apart_back None (Some b) h e = absurd cc
apart_back (Some a) None h e = absurd cc
apart_back (Some a) (Some b) h e = ne_same a b h (let k : b ≡ a = cc in sym k)
  where
    ne_same : (a b : ℕ) → nat_eq a b ≡ false → a ≡ b → ⊥
    ne_same a b h e = let k = eq-eqb a b e in absurd cc

-- the first of a name is no later than any of it
some_label : (x : Option (Option ℕ)) (b : Bool) (t : Option ℕ) → b ≡ true → option_or x (cond b (Some t) None) ≡ None → ⊥
some_label (Some s) b t e h = absurd cc
some_label None true t e h = absurd cc
some_label None false t e h = absurd cc

module _ (ms : List Mark) (o j : ℕ) (n : List ℕ) (le : j ≤ length ms) (none_yet : labelled (reverse (take j ms)) o n ≡ None) where
  no_earlier : (i : ℕ) (x : Word) → i < j → slice_get ms i ≡ Some (mark o (what.Label x)) → x.text ≢ n
  no_earlier i x lt s same =
      let m : Mark = mark o (what.Label x) in
      let within_i : i < length ms = omega arith in
      let e : m ≡ get_or ms i m = sym (get_or_from_slice_get ms i m m s) in
      let short : take (i + 1) (take j ms) ≡ take (i + 1) ms = take-take (i + 1) j ms (omega arith) in
      let split : reverse (take j ms) ≡ reverse (drop (i + 1) (take j ms)) ++ reverse (take (i + 1) ms) =
      ap reverse (sym (take-append-drop (i + 1) (take j ms))) ∙ reverse-append (take (i + 1) (take j ms)) (drop (i + 1) (take j ms)) ∙ ap (λ xs. reverse (drop (i + 1) (take j ms)) ++ reverse xs) short in
      let none_now : labelled (reverse (take (i + 1) ms)) o n ≡ None = back (reverse (drop (i + 1) (take j ms))) (reverse (take (i + 1) ms)) o n (ap (λ xs. labelled xs o n) (sym split) ∙ none_yet) in
      let one_more : option_or (labelled (reverse (take i ms)) o n) (step_there o n o (what.Label x) (round (take i ms)).step) ≡ None = ap (λ xs. labelled xs o n) (sym (back_more ms i m within_i e)) ∙ none_now in
      some_label (labelled (reverse (take i ms)) o n) (is_label o n o (what.Label x)) (round (take i ms)).step (ap (λ y. is_label o y o (what.Label x)) (sym same) ∙ is-it o x) one_more

by_label : (ms : List Mark) (o k : ℕ) (g : Word) (x : Option (Option ℕ)) → x ≡ labels_in ms o g.text → elsewhere x (round (take k ms)) ≡ true → (j : ℕ) × (l : Word) × IsFirstLabel ms o j l × (l.text ≡ g.text) × ((round (take k ms)).step ≢ (round (take j ms)).step)
by_label ms o k g None e h = absurd cc
by_label ms o k g (Some s) e h =
    let whole : labelled (reverse (take (length ms) ms)) o g.text ≡ Some s = ap (λ xs. labelled (reverse xs) o g.text) (take-length ms) ∙ sym e in
    let r = stands_there ms o g.text s (mark o (what.Goto g)) (length ms) (omega arith) whole in
    let differ : same_step s (round (take k ms)).step ≡ false = not_true (same_step s (round (take k ms)).step) h in
    (r.j, r.l, record { stands = r.stands; first = λ i x lt at same. no_earlier ms o r.j g.text (let b = r.before in omega arith) r.none i x lt at (same ∙ r.text) }, r.text, λ q. apart_back s (round (take k ms)).step differ (q ∙ sym r.step))
  where
    not_true : (b : Bool) → not b ≡ true → b ≡ false
    not_true true h = absurd cc
    not_true false h = refl

pub crossing_goto : (ms : List Mark) (o k : ℕ) (g : Word) → crosses_step ms (take k ms) (mark o (what.Goto g)) ≡ true → (j : ℕ) × (l : Word) × IsFirstLabel ms o j l × (l.text ≡ g.text) × ((round (take k ms)).step ≢ (round (take j ms)).step)
crossing_goto ms o k g h = by_label ms o k g (labels_in ms o g.text) refl h
