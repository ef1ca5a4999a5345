-- What a receive asks for.
use Rattle.std.proofs.Common.{◌≡◌, Bool, true, false, ◌&&◌, List, [], ◌∷◌, ℤ, refl, sym, ap, ◌∙◌, Option, Some, None, Result, Ok, Err}
use Rattle.std.specs.Ordering.{int_eq}
use Rattle.std.specs.Result.{result_ok}
use Rattle.diagnostics.specs.declared.fault.Fault.{Fault}
use Rattle.promela_process.specs.declared.sought.Sought.{Sought}
use Rattle.promela_process.specs.declared.sought.Sought.TheVariants.{Exactly}
use Rattle.promela_process.specs.Expressions.{◌>>=◌, matched}
use Rattle.promela_run.specs.Moves.{Message, does_match}
use Rattle.run_search.specs.declared.interest.Interest.{Interest}
use Rattle.run_search.specs.Demands.{begins_with, begins_so, asks}

-- ---- a pattern of one field

one_field : (b : Bool) (n : ℤ) (xs : List ℤ) → (b && begins_with n xs) ≡ false → (b && matched (Exactly n ∷ []) xs) ≡ false
one_field true n [] e = refl
one_field true n (x ∷ xs) e = ap (λ (c : Bool). c && matched [] xs) e
one_field false n xs e = refl

-- a number is asked for
pub exactly : (number n : ℤ) (m : Message) → (int_eq number m.number && begins_so (Some n) m.fields) ≡ false → (int_eq number m.number && does_match (Ok (Exactly n ∷ [])) m.fields) ≡ false
exactly number n m e = one_field (int_eq number m.number) n m.fields e

-- what a pattern of one expression asks, by its value
abbrev pub asked_one : Result ℤ Fault → Result (List Sought) Fault
asked_one v = (v >>= λ n. Ok (Exactly n)) >>= λ w. Ok (w ∷ [])

left_false : (a : Bool) → (a && true) ≡ false → (b : Bool) → (a && b) ≡ false
left_false true e b = cc
left_false false e b = refl

pub equal_to : (number : ℤ) (v : Result ℤ Fault) (m : Message) → (int_eq number m.number && begins_so (result_ok v) m.fields) ≡ false → (int_eq number m.number && does_match (asked_one v) m.fields) ≡ false
equal_to number (Ok n) m e = one_field (int_eq number m.number) n m.fields e
equal_to number (Err f) m e = left_false (int_eq number m.number) e true

-- whatever is asked, nothing of another channel is received
pub whatever : (number : ℤ) (m : Message) (ws : Result (List Sought) Fault) → (int_eq number m.number && begins_so None m.fields) ≡ false → (int_eq number m.number && does_match ws m.fields) ≡ false
whatever number m ws e = left_false (int_eq number m.number) e (does_match ws m.fields)

-- ---- what asks for all that another does

-- all messages of its channel
pub covers_all : (x y : Interest) (m : Message) → x.number ≡ y.number → x.first ≡ None → asks x m ≡ false → asks y m ≡ false
covers_all x y m e none d =
    left_false (int_eq y.number m.number)
    (ap (λ (n : ℤ). int_eq n m.number && true) (sym e) ∙ (ap (λ (o : Option ℤ). int_eq x.number m.number && begins_so o m.fields) (sym none) ∙ d))
    (begins_so y.first m.fields)

-- those that begin with the same number
pub covers_same : (x y : Interest) (m : Message) → x.number ≡ y.number → x.first ≡ y.first → asks x m ≡ false → asks y m ≡ false
covers_same x y m e one d =
    ap (λ (n : ℤ). int_eq n m.number && begins_so y.first m.fields) (sym e)
    ∙ (ap (λ (o : Option ℤ). int_eq x.number m.number && begins_so o m.fields) (sym one) ∙ d)
