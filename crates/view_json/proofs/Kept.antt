-- One more that is kept.
use Rattle.std.proofs.Common.{◌≡◌, sym, subst, Bool, true, false, List, [], ◌∷◌, ◌++◌}
use Rattle.std.specs.Prelude.{All, if◌then◌else◌}
use Rattle.std.proofs.lemmas.List.Elements.{All-push}

pub pushed : {X : Type 0} (P : X → Type 0) (xs ys : List X) (x : X) (ok : Bool) → ys ≡ (if ok then xs ++ x ∷ [] else xs) → All P xs → P x → All P ys
pushed P xs ys x true is all one = subst (All P) (sym is) (All-push P xs x all one)
pushed P xs ys x false is all one = subst (All P) (sym is) all
