-- Names that mean the same, one more.
use Rattle.std.proofs.Common.{◌≡◌, ◌+◌, ◌<◌, ℕ, List, [], ◌∷◌, ◌++◌, length, take, get_or, sym, subst}
use Rattle.std.proofs.lemmas.List.{take_more}
use Rattle.declared_names.specs.declared.occurrence.Occurrence.{Occurrence}
use Rattle.model_verdicts.specs.Alike.{IsMovedName, AreMoved}

pub moved_more : (ps : List ℕ) (old new : ℕ) (xs ys : List Occurrence) (x y : Occurrence) → AreMoved ps old new xs ys → IsMovedName ps old new x y → AreMoved ps old new (xs ++ x ∷ []) (ys ++ y ∷ [])
moved_more ps old new [] [] x y h m = (m, tt)
moved_more ps old new [] (b ∷ ys) x y h m = absurd h
moved_more ps old new (a ∷ xs) [] x y h m = absurd h
moved_more ps old new (a ∷ xs) (b ∷ ys) x y h m = (h.0, moved_more ps old new xs ys x y h.1 m)

pub moved_behind : (ps : List ℕ) (old new : ℕ) (xs ys : List Occurrence) (i : ℕ) (d e : Occurrence) → i < length xs → i < length ys → AreMoved ps old new (take i xs) (take i ys) → IsMovedName ps old new (get_or xs i d) (get_or ys i e) → AreMoved ps old new (take (i + 1) xs) (take (i + 1) ys)
moved_behind ps old new xs ys i d e lt less h m =
    subst (λ zs. AreMoved ps old new zs (take (i + 1) ys)) (sym (take_more xs i d lt))
    (subst (λ zs. AreMoved ps old new (take i xs ++ get_or xs i d ∷ []) zs) (sym (take_more ys i e less))
    (moved_more ps old new (take i xs) (take i ys) (get_or xs i d) (get_or ys i e) h m))
