-- The numbers of a path, and the path of numbers.
use Rattle.std.proofs.Common.{◌≡◌, ℕ, ◌+◌, List, [], ◌∷◌, ◌++◌, length, slice_get, Bool, true, false, ◌&&◌, eqb, if◌then◌else◌, Some, refl, sym, ap, subst, ◌∙◌, arith, append_assoc}
use Rattle.std.proofs.lemmas.Bool.Decides.{nat_tests}
use Rattle.std.proofs.lemmas.Bool.{true≢false}
use Rattle.std.specs.List.{list_all, flat_map}
use Rattle.profile.specs.Characters.{is_digit}
use Rattle.promela_session.specs.Lines.{number_of}
use Rattle.promela_machine.specs.Machine.{Rules, Goes}
use Rattle.promela_session.specs.Events.{record_line, all_digits}
use Rattle.session.proofs.Written.{all_are_digits, number_is}
use Rattle.pml_play.specs.Run.{Leg, IsChosen, IsPath}
use Rattle.path_laws.specs.OneRecord.{StandOnce, ListsOnce, PathsHaveOneRecord, PathsAndRecordsAreOneToOne}

-- ---- lines of a record are those of one list of numbers

-- bytes up to the first line feed, and those behind it
abbrev cut : List ℕ → List ℕ × List ℕ
cut [] = ([], [])
cut (b ∷ bs) = if eqb b 10 then ([], bs) else (b ∷ (cut bs).0, (cut bs).1)

both : (a b : Bool) → (a && b) ≡ true → (a ≡ true) × (b ≡ true)
both true b holds = (refl, holds)
both false b holds = absurd (true≢false (sym holds))

no_feed : (b : ℕ) → is_digit b ≡ true → eqb b 10 ≡ false
no_feed b digit = grind (arith, nat_tests)

cut_digits : (word more : List ℕ) → list_all is_digit word ≡ true → cut (word ++ 10 ∷ more) ≡ (word, more)
cut_digits [] more digits = refl
cut_digits (b ∷ bs) more digits =
    let d = both (is_digit b) (list_all is_digit bs) digits in
    rw (no_feed b d.0) (rw (cut_digits bs more d.1) refl)

cut_line : (n : ℕ) (more : List ℕ) → cut (record_line n ++ more) ≡ (all_digits n, more)
cut_line n more = ap cut (append_assoc (all_digits n) (10 ∷ []) more) ∙ cut_digits (all_digits n) more (all_are_digits n)

some_line : (word more : List ℕ) → ((word ++ 10 ∷ []) ++ more) ≡ [] → ⊥
some_line [] more none = cc
some_line (b ∷ bs) more none = cc

pub same_numbers : (xs ys : List ℕ) → flat_map record_line xs ≡ flat_map record_line ys → xs ≡ ys
same_numbers [] [] same = refl
same_numbers [] (y ∷ ys) same = absurd (some_line (all_digits y) (flat_map record_line ys) (sym same))
same_numbers (x ∷ xs) [] same = absurd (some_line (all_digits x) (flat_map record_line xs) same)
same_numbers (x ∷ xs) (y ∷ ys) same =
    let cuts = sym (cut_line x (flat_map record_line xs)) ∙ ap cut same ∙ cut_line y (flat_map record_line ys) in
    let first : x ≡ y = sym (number_is x) ∙ ap (λ (p : List ℕ × List ℕ). number_of p.0) cuts ∙ number_is y in
    let rest : xs ≡ ys = same_numbers xs ys (ap (λ (p : List ℕ × List ℕ). p.1) cuts) in
    ap (λ (n : ℕ). n ∷ xs) first ∙ ap (λ (l : List ℕ). y ∷ l) rest

-- ---- a choice

some_same : {X : Type 0} (x y : X) → Some x ≡ Some y → x ≡ y
some_same x y same = cc

one_more : (i j : ℕ) → (i + 1) ∷ [] ≡ (j + 1) ∷ [] → i ≡ j
one_more i j same = let e : i + 1 ≡ j + 1 = cc in omega (arith, e)

goes_same : {S : Type 0} (s t : S) (p q : List ℕ) → Goes s p ≡ Goes t q → s ≡ t
goes_same s t p q same = cc

-- one list of numbers chooses a move that is listed once
pub one_choice : {M : Type 0} (ms : List M) → StandOnce ms → (ns ks : List ℕ) (m : M) → IsChosen ms ns m → IsChosen ms ks m → ns ≡ ks
one_choice [] once ns ks m here there = absurd here
one_choice (a ∷ []) once ns ks m here there = here.0 ∙ sym there.0
one_choice (a ∷ b ∷ more) once ns ks m here there = here.1 ∙ ap (λ (k : ℕ). (k + 1) ∷ []) (once here.0 there.0 m here.2 there.2) ∙ sym there.1

-- numbers choose one move
pub one_move : {M : Type 0} (ms : List M) (ns : List ℕ) (a b : M) → IsChosen ms ns a → IsChosen ms ns b → a ≡ b
one_move [] ns a b here there = absurd here
one_move (m ∷ []) ns a b here there = here.1 ∙ sym there.1
one_move (m ∷ k ∷ more) ns a b here there =
    let number = one_more here.0 there.0 (sym here.1 ∙ there.1) in
    some_same a b (sym here.2 ∙ ap (slice_get (m ∷ k ∷ more)) number ∙ there.2)

-- of numbers in a row, those of the first choice and those behind it
cons_head : (x y : ℕ) (xs ys : List ℕ) → x ∷ xs ≡ y ∷ ys → x ≡ y
cons_head x y xs ys same = cc

cons_tail : (x y : ℕ) (xs ys : List ℕ) → x ∷ xs ≡ y ∷ ys → xs ≡ ys
cons_tail x y xs ys same = cc

as_many : {M : Type 0} (ms : List M) (ns ks : List ℕ) (a b : M) (us vs : List ℕ) → IsChosen ms ns a → IsChosen ms ks b → ns ++ us ≡ ks ++ vs → (ns ≡ ks) × (us ≡ vs)
as_many [] ns ks a b us vs here there same = absurd here
as_many (m ∷ []) ns ks a b us vs here there same =
    (here.0 ∙ sym there.0, sym (ap (λ (l : List ℕ). l ++ us) here.0) ∙ same ∙ ap (λ (l : List ℕ). l ++ vs) there.0)
as_many (m ∷ k ∷ more) ns ks a b us vs here there same =
    let all : (here.0 + 1) ∷ us ≡ (there.0 + 1) ∷ vs = sym (ap (λ (l : List ℕ). l ++ us) here.1) ∙ same ∙ ap (λ (l : List ℕ). l ++ vs) there.1 in
    (here.1 ∙ ap (λ (n : ℕ). n ∷ []) (cons_head (here.0 + 1) (there.0 + 1) us vs all) ∙ sym there.1, cons_tail (here.0 + 1) (there.0 + 1) us vs all)

leg_same : {S M : Type 0} (a b : Leg S M) → a.move ≡ b.move → a.next ≡ b.next → a ≡ b
leg_same {S} {M} a b moves nexts = ap (λ (m : M). record { move = m; next = a.next }) moves ∙ ap (λ (t : S). record { move = b.move; next = t }) nexts

-- ---- paths

module _ {S M : Type 0} (rules : Rules S M) where
  -- numbers give a path of so many steps
  pub one_path : (s : S) (path again : List (Leg S M)) (ns ks us vs : List ℕ) → IsPath rules s path ns → IsPath rules s again ks → ns ++ us ≡ ks ++ vs → length path ≡ length again → path ≡ again
  one_path s [] [] ns ks us vs here there same long = refl
  one_path s [] (y ∷ ys) ns ks us vs here there same long = absurd (omega (arith, long))
  one_path s (x ∷ xs) [] ns ks us vs here there same long = absurd (omega (arith, long))
  one_path s (x ∷ xs) (y ∷ ys) ns ks us vs (first, rest, is, step, path) (first', rest', is', step', path') same long =
      let all : first ++ (rest ++ us) ≡ first' ++ (rest' ++ vs) =
      sym (ap (λ (l : List ℕ). l ++ us) is ∙ append_assoc first rest us) ∙ same ∙ (ap (λ (l : List ℕ). l ++ vs) is' ∙ append_assoc first' rest' vs) in
      let parts = as_many (rules.moves s) first first' x.move y.move (rest ++ us) (rest' ++ vs) step.chosen step'.chosen all in
      let moves = one_move (rules.moves s) first' x.move y.move (subst (λ (l : List ℕ). IsChosen (rules.moves s) l x.move) parts.0 step.chosen) step'.chosen in
      let one = leg_same x y moves (goes_same x.next y.next step.printed step'.printed (sym step.goes ∙ ap (rules.step s) moves ∙ step'.goes)) in
      let on : IsPath rules x.next ys rest' = subst (λ (t : Leg S M). IsPath rules t.next ys rest') (sym one) path' in
      ap (λ (t : Leg S M). t ∷ xs) one ∙ ap (λ (l : List (Leg S M)). y ∷ l) (one_path x.next xs ys rest rest' us vs path on parts.1 (omega (arith, long)))

  module _ (once : ListsOnce rules) where
    pub one_record : PathsHaveOneRecord rules
    one_record s [] ns ks here there = here ∙ sym there
    one_record s (t ∷ ts) ns ks (first, rest, is, step, path) (first', rest', is', step', path') =
        is ∙ ap (λ (l : List ℕ). l ++ rest) (one_choice (rules.moves s) (once s) first first' t.move step.chosen step'.chosen)
        ∙ ap (λ (l : List ℕ). first' ++ l) (one_record t.next ts rest rest' path path') ∙ sym is'

    pub one_to_one : PathsAndRecordsAreOneToOne rules
    one_to_one s path again ns ks here there long = (
      λ same. one_record s again ns ks (subst (λ (l : List (Leg S M)). IsPath rules s l ns) same here) there,
      λ same. one_path s path again ns ks [] [] here there (ap (λ (l : List ℕ). l ++ []) same) long,
    )
