-- What is open behind one mark more, and that the code's stack says what stands round a place.
use Rattle.std.proofs.Common.{◌≡◌, ℕ, zero, suc, ◌+◌, ◌<◌, List, [], ◌∷◌, length, take, drop, reverse, get_or, Option, refl, ap, sym, ◌∙◌, arith, add-one}
use Rattle.std.specs.Option.{option_or}
use Rattle.std.proofs.lemmas.List.{length-take-le, length-reverse}
use Rattle.promela_model.specs.declared.mark.Structure.TheVariants.{Do, DStep}
use Rattle.promela_model.specs.declared.mark.What.{What}
use Rattle.promela_model.specs.declared.mark.What.TheVariants as what
use Rattle.promela_model.specs.declared.mark.Mark.{Mark}
use Rattle.promela_model.specs.declared.round.Round.{Round}
use Rattle.check_names.specs.declared.places.Places.{Places}
use Rattle.check_names.specs.Places.{stands}
use Rattle.promela_model.specs.Decided.{Open, entered, opened, round, labelled}
use Rattle.check_conditions.specs.Step.{step_there, labels_in}
use Rattle.check_conditions.specs.Open.{round_of, in_loop, in_step, passed, rounds, top, AreSteps}
use Rattle.check_conditions.proofs.Looking.{back_more}

behind : (ms : List Mark) (i : ℕ) → i < length ms → length (reverse (take i ms)) ≡ i
behind ms i h = length-reverse (take i ms) ∙ length-take-le i ms (omega arith)

pub rounds_more : (ms : List Mark) (i : ℕ) (m : Mark) → i < length ms → m ≡ get_or ms i m → rounds (reverse (take (i + 1) ms)) ≡ passed (rounds (reverse (take i ms))) i m.what
rounds_more ms i m h e =
    ap rounds (back_more ms i m h e) ∙ ap (λ k. passed (rounds (reverse (take i ms))) k m.what) (behind ms i h)

-- ---- the stack

-- each with those outside it
abbrev stack : List Open → List Round
stack [] = []
stack (x ∷ outer) = round_of (x ∷ outer) ∷ stack outer

top-is : (xs : List Open) → top (stack xs) ≡ round_of xs
top-is [] = refl
top-is (x ∷ outer) = refl

drop-none : (n : ℕ) → drop {A = Round} n [] ≡ []
drop-none zero = refl
drop-none (suc n) = refl

drop-suc : (n : ℕ) (rs : List Round) → drop n (drop 1 rs) ≡ drop (suc n) rs
drop-suc n [] = drop-none n
drop-suc n (r ∷ rs) = refl

drop-more : (n : ℕ) (rs : List Round) → drop n (drop 1 rs) ≡ drop (n + 1) rs
drop-more n rs = drop-suc n rs ∙ ap (λ k. drop k rs) (sym (add-one n))

passed-is : (rs : List Round) (k : ℕ) (w : What) (outer : ℕ → List Open) → ((n : ℕ) → drop n rs ≡ stack (outer n)) → (n : ℕ) → drop n (passed rs k w) ≡ stack (entered w k outer n)
unfolding passed
passed-is rs k (what.Enter Do) outer h zero = ap (λ r. in_loop r ∷ rs) (ap top (h 0) ∙ top-is (outer 0)) ∙ ap (λ xs. round_of ((Do, k) ∷ outer 0) ∷ xs) (h 0)
passed-is rs k (what.Enter Do) outer h (suc n) = h n
passed-is rs k (what.Enter DStep) outer h zero = ap (λ r. in_step k r ∷ rs) (ap top (h 0) ∙ top-is (outer 0)) ∙ ap (λ xs. round_of ((DStep, k) ∷ outer 0) ∷ xs) (h 0)
passed-is rs k (what.Enter DStep) outer h (suc n) = h n
passed-is rs k what.Leave outer h n = drop-more n rs ∙ h (n + 1)
passed-is rs k _ outer h n = h n

stack-is : (ms : List Mark) (n : ℕ) → drop n (rounds ms) ≡ stack (opened ms n)
stack-is [] zero = refl
stack-is [] (suc n) = refl
stack-is (m ∷ ms) n = passed-is (rounds ms) (length ms) m.what (opened ms) (stack-is ms) n

-- what the stack has on top
pub top_round : (ms : List Mark) → top (rounds ms) ≡ round_of (opened ms 0)
top_round ms = ap top (stack-is ms 0) ∙ top-is (opened ms 0)

pub here_round : (ms : List Mark) → top (rounds (reverse ms)) ≡ round ms
here_round ms = top_round (reverse ms)

-- ---- labels

-- one mark more
pub labelled_more : (ms : List Mark) (i : ℕ) (m : Mark) (r : Round) → i < length ms → m ≡ get_or ms i m → r ≡ top (rounds (reverse (take i ms))) → (o : ℕ) (n : List ℕ)
    → option_or (labelled (reverse (take i ms)) o n) (step_there o n m.owner m.what r.step) ≡ labelled (reverse (take (i + 1) ms)) o n
labelled_more ms i m r h e is o n =
    ap (λ (x : Round). option_or (labelled (reverse (take i ms)) o n) (step_there o n m.owner m.what x.step)) (is ∙ here_round (take i ms))
    ∙ ap (λ xs. labelled xs o n) (sym (back_more ms i m h e))

pub labels_same : (ms : List Mark) (ps : Places (Option ℕ)) → AreSteps (reverse ms) ps → stands ps.numbers ps.places ≡ labels_in ms
labels_same ms ps a = λ i o n. a.same o n i
