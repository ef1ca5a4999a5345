-- Numbers are stored one after the other.
use Rattle.std.proofs.Common.{◌≡◌, ℕ, ◌+◌, ◌<◌, List, [], ◌∷◌, ◌++◌, length, get_or, drop, ℤ, Result, Ok, Err, append_assoc, refl, sym, ap, ◌∙◌}
use Rattle.std.proofs.lemmas.List.{at_drop_more, append-nil, drop-drop}
use Rattle.diagnostics.specs.declared.fault.Fault.{Fault}
use Rattle.pml_program.specs.declared.expr.Want.{Want}
use Rattle.promela_process.specs.declared.sought.Sought.{Sought}
use Rattle.promela_process.specs.Expressions.{Reading, want, asked_by, ◌>>=◌}
use Rattle.promela_run.specs.declared.goes.Goes.{Goes}
use Rattle.promela_run.specs.Statements.{goes_of, stores}

stores-none : (ss : List Sought) → stores ss [] ≡ []
stores-none [] = refl
stores-none (s ∷ ss) = refl

-- the first, and then the others
stores-cons : (s : Sought) (ss : List Sought) (xs : List ℤ) → stores (s ∷ ss) xs ≡ stores (s ∷ []) xs ++ stores ss (drop 1 xs)
stores-cons s ss [] = sym (stores-none ss)
stores-cons s ss (x ∷ xs) = ap (λ (gs : List Goes). gs ++ stores ss xs) (sym (append-nil (goes_of s x)))

-- what one more asks for is stored, and then what the others ask for
pub taken-next : (i : ℕ) (ws : List Want) (d : Want) (s : Sought) (xs : List ℤ) (r : Reading) (old new : List Goes) (all : Result (List Goes) Fault)
    → i < length ws → want (get_or ws i d) r ≡ Ok s → new ≡ old ++ stores (s ∷ []) (drop i xs)
    → (asked_by (drop i ws) r >>= λ ss. Ok (old ++ stores ss (drop i xs))) ≡ all
    → (asked_by (drop (i + 1) ws) r >>= λ ss. Ok (new ++ stores ss (drop (i + 1) xs))) ≡ all
taken-next i ws d s xs r old new all l e n h =
    rest (asked_by (drop (i + 1) ws) r)
    ∙ ap (λ (x : Result Sought Fault). (x >>= λ one. asked_by (drop (i + 1) ws) r >>= λ more. Ok (one ∷ more)) >>= λ ss. Ok (old ++ stores ss (drop i xs))) (sym e)
    ∙ sym (at_drop_more (λ (l : List Want). asked_by l r >>= λ ss. Ok (old ++ stores ss (drop i xs))) ws i d l)
    ∙ h
  where
    joined : (more : List Sought) → new ++ stores more (drop (i + 1) xs) ≡ old ++ stores (s ∷ more) (drop i xs)
    joined more =
        ap (λ (gs : List Goes). gs ++ stores more (drop (i + 1) xs)) n
        ∙ append_assoc old (stores (s ∷ []) (drop i xs)) (stores more (drop (i + 1) xs))
        ∙ ap (λ (ys : List ℤ). old ++ (stores (s ∷ []) (drop i xs) ++ stores more ys)) (sym (drop-drop 1 i xs))
        ∙ ap (λ (gs : List Goes). old ++ gs) (sym (stores-cons s more (drop i xs)))

    rest : (y : Result (List Sought) Fault) → (y >>= λ ss. Ok (new ++ stores ss (drop (i + 1) xs))) ≡ ((y >>= λ more. Ok (s ∷ more)) >>= λ ss. Ok (old ++ stores ss (drop i xs)))
    rest (Ok more) = ap Ok (joined more)
    rest (Err f) = refl
