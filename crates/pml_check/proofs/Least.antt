-- The first that applies, in the order of the numbers, is the least.
use Rattle.std.proofs.Common.{◌≡◌, ℕ, ◌+◌, ◌-◌, ◌<◌, ◌≤◌, List, [], ◌∷◌, get_or, refl, sym, ap, ◌∙◌, subst, inl, inr, ◌⊎◌, arith}
use Rattle.std.proofs.lemmas.Bool.{cases_lt}
use Rattle.diagnostics.specs.declared.refusal.Refusal.{Refusal}
use Rattle.diagnostics.specs.declared.refusal.Refusal.TheVariants as r
use Rattle.diagnostics.specs.Numbers.{refusal_number}
use Rattle.pml_tree.specs.declared.tree.Tree.{Tree}
use Rattle.promela_model.specs.declared.mark.Mark.{Mark}
use Rattle.promela_model.specs.Marks.{of_tree}
use Rattle.pml_program.specs.declared.program.Program.{Program}
use Rattle.check_resolve.specs.Model.{numbered_model}
use Rattle.promela_refusals.specs.Judged.{AppliesTo, IsFit, IsLeast}
use Rattle.pml_check.specs.Fitted.{FitsTo}
use Rattle.pml_check.specs.Decided.{all_judged, FitsAll, IsFirst}
use Rattle.pml_check.proofs.Exclusive.{apart}
use Rattle.pml_check.proofs.Standing.{applies_by, applied, fits_by, not_both}

-- ---- each refusal has a number of its own

abbrev by_number : ℕ → Refusal
by_number n = get_or (
    r.TextTooLong ∷ r.Lexical ∷ r.LeftOut ∷ r.TooDeep ∷ r.Syntax ∷ r.NameTwice ∷ r.UnknownName ∷ r.WrongKind ∷ r.ArgumentCount ∷ r.Label
    ∷ r.BreakOutsideDo ∷ r.DStep ∷ r.CircleOfGotos ∷ r.NumberOutOfRange ∷ r.TooManyCells ∷ r.NoProcess ∷ r.TooManyAtStart ∷ r.Initialiser
    ∷ r.Inline ∷ []
    ) (n - 1) r.Syntax

numbered : (x : Refusal) → by_number (refusal_number x) ≡ x
numbered r.TextTooLong = refl
numbered r.Lexical = refl
numbered r.LeftOut = refl
numbered r.TooDeep = refl
numbered r.Syntax = refl
numbered r.NameTwice = refl
numbered r.UnknownName = refl
numbered r.WrongKind = refl
numbered r.ArgumentCount = refl
numbered r.Label = refl
numbered r.BreakOutsideDo = refl
numbered r.DStep = refl
numbered r.CircleOfGotos = refl
numbered r.NumberOutOfRange = refl
numbered r.TooManyCells = refl
numbered r.NoProcess = refl
numbered r.TooManyAtStart = refl
numbered r.Initialiser = refl
numbered r.Inline = refl

same_number : (x y : Refusal) → refusal_number x ≡ refusal_number y → x ≡ y
same_number x y e = sym (numbered x) ∙ ap by_number e ∙ numbered y

-- ---- what applies is one of those judged

abbrev IsAmong : Refusal → List Refusal → Type 0
IsAmong x [] = ⊥
IsAmong x (y ∷ ys) = (y ≡ x) ⊎ IsAmong x ys

judged : (x : Refusal) (ms : List Mark) (p : Program) → AppliesTo x ms p → IsAmong x all_judged
unfolding AppliesTo
judged r.TextTooLong ms p (inl a) = absurd a
judged r.TextTooLong ms p (inr a) = absurd a
judged r.Lexical ms p (inl a) = absurd a
judged r.Lexical ms p (inr a) = absurd a
judged r.LeftOut ms p (inl a) = absurd a
judged r.LeftOut ms p (inr a) = absurd a
judged r.TooDeep ms p (inl a) = absurd a
judged r.TooDeep ms p (inr a) = absurd a
judged r.Syntax ms p (inl a) = absurd a
judged r.Syntax ms p (inr a) = absurd a
judged r.NameTwice ms p a = inl refl
judged r.UnknownName ms p a = inr (inl refl)
judged r.WrongKind ms p a = inr (inr (inl refl))
judged r.ArgumentCount ms p a = inr (inr (inr (inl refl)))
judged r.Label ms p a = inr (inr (inr (inr (inl refl))))
judged r.BreakOutsideDo ms p a = inr (inr (inr (inr (inr (inl refl)))))
judged r.DStep ms p a = inr (inr (inr (inr (inr (inr (inl refl))))))
judged r.CircleOfGotos ms p a = inr (inr (inr (inr (inr (inr (inr (inl refl)))))))
judged r.NumberOutOfRange ms p a = inr (inr (inr (inr (inr (inr (inr (inr (inl refl))))))))
judged r.TooManyCells ms p a = inr (inr (inr (inr (inr (inr (inr (inr (inr (inl refl)))))))))
judged r.NoProcess ms p a = inr (inr (inr (inr (inr (inr (inr (inr (inr (inr (inl refl))))))))))
judged r.TooManyAtStart ms p a = inr (inr (inr (inr (inr (inr (inr (inr (inr (inr (inr (inl refl)))))))))))
judged r.Initialiser ms p a = inr (inr (inr (inr (inr (inr (inr (inr (inr (inr (inr (inr (inl refl))))))))))))
judged r.Inline ms p (inl a) = absurd a
judged r.Inline ms p (inr a) = absurd a

-- and what has none of those judged fits all
pub fits_each : (ms : List Mark) (p : Program) → FitsAll all_judged ms p → (x : Refusal) → FitsTo x ms p
unfolding FitsTo
fits_each ms p f r.TextTooLong = (tt, tt)
fits_each ms p f r.Lexical = (tt, tt)
fits_each ms p f r.LeftOut = (tt, tt)
fits_each ms p f r.TooDeep = (tt, tt)
fits_each ms p f r.Syntax = (tt, tt)
fits_each ms p f r.NameTwice = f.0
fits_each ms p f r.UnknownName = f.1.0
fits_each ms p f r.WrongKind = f.1.1.0
fits_each ms p f r.ArgumentCount = f.1.1.1.0
fits_each ms p f r.Label = f.1.1.1.1.0
fits_each ms p f r.BreakOutsideDo = f.1.1.1.1.1.0
fits_each ms p f r.DStep = f.1.1.1.1.1.1.0
fits_each ms p f r.CircleOfGotos = f.1.1.1.1.1.1.1.0
fits_each ms p f r.NumberOutOfRange = f.1.1.1.1.1.1.1.1.0
fits_each ms p f r.TooManyCells = f.1.1.1.1.1.1.1.1.1.0
fits_each ms p f r.NoProcess = f.1.1.1.1.1.1.1.1.1.1.0
fits_each ms p f r.TooManyAtStart = f.1.1.1.1.1.1.1.1.1.1.1.0
fits_each ms p f r.Initialiser = f.1.1.1.1.1.1.1.1.1.1.1.1.0
fits_each ms p f r.Inline = (tt, tt)

-- ---- those judged stand in the order of their numbers

-- their numbers grow, from this one on
abbrev Grow : ℕ → List Refusal → Type 0
Grow n [] = Unit {0}
Grow n (x ∷ xs) = (n ≤ refusal_number x) × Grow (refusal_number x + 1) xs

in_order : Grow 6 all_judged
in_order = (omega arith, (omega arith, (omega arith, (omega arith, (omega arith, (omega arith, (omega arith, (omega arith, (omega arith, (omega arith, (omega arith, (omega arith, (omega arith, tt)))))))))))))

among_from : (n : ℕ) (xs : List Refusal) (y : Refusal) → Grow n xs → IsAmong y xs → n ≤ refusal_number y
among_from n [] y g m = absurd m
among_from n (x ∷ xs) y g (inl e) = let l = g.0 in let q : refusal_number x ≡ refusal_number y = ap refusal_number e in omega arith
among_from n (x ∷ xs) y g (inr m) = let l = g.0 in let h = among_from (refusal_number x + 1) xs y g.1 m in omega arith

module _ (ms : List Mark) (p : Program) (x : Refusal) where
  first_applies : (xs : List Refusal) → IsFirst xs ms p x → AppliesTo x ms p
  first_applies [] h = absurd h
  first_applies (y ∷ ys) (inl h) = h.1
  first_applies (y ∷ ys) (inr h) = first_applies ys h.1

  none_before : (n : ℕ) (xs : List Refusal) → Grow n xs → IsFirst xs ms p x → (y : Refusal) → IsAmong y xs → AppliesTo y ms p → refusal_number y < refusal_number x → ⊥
  none_before n [] g h y m a l = h
  none_before n (z ∷ zs) g (inl h) y (inl e) a l = let q : refusal_number x ≡ refusal_number y = ap refusal_number (sym h.0 ∙ e) in absurd (omega arith)
  none_before n (z ∷ zs) g (inl h) y (inr m) a l =
      let q : refusal_number z ≡ refusal_number x = ap refusal_number h.0 in
      let k = among_from (refusal_number z + 1) zs y g.1 m in absurd (omega arith)
  none_before n (z ∷ zs) g (inr h) y (inl e) a l = apart y ms p a (subst (λ (w : Refusal). FitsTo w ms p) e h.0)
  none_before n (z ∷ zs) g (inr h) y (inr m) a l = none_before (refusal_number z + 1) zs g.1 h.1 y m a l

-- ---- of a tree

pub first_is_least : (t : Tree) (x : Refusal) → IsFirst all_judged (of_tree t) (numbered_model t) x → IsLeast t x
first_is_least t x h = record {
  applies = applies_by t x (first_applies (of_tree t) (numbered_model t) x all_judged h);
  none_lesser = λ y l a.
      let b = applied t y a in
      none_before (of_tree t) (numbered_model t) x 6 all_judged in_order h y (judged y (of_tree t) (numbered_model t) b) b l;
}

pub one_least : (t : Tree) (x y : Refusal) → IsLeast t x → IsLeast t y → x ≡ y
one_least t x y a b = by_order (cases_lt (refusal_number x) (refusal_number y)) (cases_lt (refusal_number y) (refusal_number x))
  where
    by_order : (refusal_number x < refusal_number y) ⊎ (refusal_number y ≤ refusal_number x) → (refusal_number y < refusal_number x) ⊎ (refusal_number x ≤ refusal_number y) → x ≡ y
    by_order (inl l) k = absurd (b.none_lesser x l a.applies)
    by_order (inr g) (inl l) = absurd (a.none_lesser y l b.applies)
    by_order (inr g) (inr h) = same_number x y (omega arith)

pub fit_has_none : (t : Tree) (x : Refusal) → IsFit t → IsLeast t x → ⊥
fit_has_none t x f l = f x l.applies

-- to a tree that fits what is judged no refusal applies
pub fit_by : (t : Tree) → FitsAll all_judged (of_tree t) (numbered_model t) → IsFit t
fit_by t f x a = not_both t x a (fits_by t x (fits_each (of_tree t) (numbered_model t) f x))
