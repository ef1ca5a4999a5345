-- Divisions one behind another.
use Rattle.std.proofs.Common.{◌≡◌, ℕ, List, subst, Option, Some, None, Result, IfOk, IfSome}
use Rattle.std.proofs.lemmas.Result.{IfOk-weaker}
use Rattle.prepare.specs.Written.{Written}
use Rattle.prepare.specs.Stretches.{stretches}
use Rattle.names_apart.specs.Apart.{IsApart, IsStep, same, next}

pub one_division : {joint text made : List ℕ} {ts : List Written} → ts ≡ stretches text → IsStep joint ts made → IsApart joint text made
one_division {joint} {text} {made} e d = next same (subst (λ (us : List Written). IsStep joint us made) e d)

pub carried : {j k a b c : List ℕ} → j ≡ k → a ≡ b → IsApart j a c → IsApart k b c
carried {j} {k} {a} {b} {c} e f h = subst (λ (i : List ℕ). IsApart i b c) e (subst (λ (t : List ℕ). IsApart j t c) f h)

-- what is divided further is divided of the first text
pub further : {joint a b c : List ℕ} → IsApart joint a b → IsApart joint b c → IsApart joint a c
further h same = h
further h (next k d) = next (further h k) d

some_weaker : {X : Type 0} (o : Option X) (P Q : X → Type 0) → ((x : X) → P x → Q x) → IfSome o P → IfSome o Q
some_weaker (Some x) P Q f h = f x h
some_weaker None P Q f h = h

pub weaker : {X E : Type 0} (r : Result (Option X) E) (P Q : X → Type 0) → ((x : X) → P x → Q x) → IfOk r (λ o. IfSome o P) → IfOk r (λ o. IfSome o Q)
weaker r P Q f h = IfOk-weaker r (λ o. IfSome o P) (λ o. IfSome o Q) (λ o. some_weaker o P Q f) h
