-- A loop that makes one of each of a list.
use Rattle.std.proofs.Common.{◌≡◌, ◌⊎◌, inl, inr, ℕ, zero, suc, List, [], ◌∷◌, ◌++◌, length, Option, Some, refl, ap, subst, ◌∙◌}
use Rattle.std.specs.Prelude.{slice_get}

same_some : {X : Type 0} (o : Option X) (x y : X) → o ≡ Some x → o ≡ Some y → x ≡ y
same_some o x y h k = cc

at_end : {Y : Type 0} (ys : List Y) (y : Y) (k : ℕ) (b : Y) → slice_get (ys ++ y ∷ []) k ≡ Some b → (slice_get ys k ≡ Some b) ⊎ ((k ≡ length ys) × (y ≡ b))
at_end [] y zero b h = let e : y ≡ b = cc in inr (refl, e)
at_end [] y (suc k) b h = cc
at_end (z ∷ ys) y zero b h = inl h
at_end (z ∷ ys) y (suc k) b h =
    elim (at_end ys y k b h) [
      | inl e ↦ inl e
      | inr e ↦ inr (ap suc e.0, e.1)
    ]

-- one more
pub each_more : {X Y : Type 0} (R : X → Y → Type 0) (xs : List X) (ys : List Y) (x : X) (y : Y) → slice_get xs (length ys) ≡ Some x → R x y
    → ((k : ℕ) (a : X) (b : Y) → slice_get xs k ≡ Some a → slice_get ys k ≡ Some b → R a b)
    → (k : ℕ) (a : X) (b : Y) → slice_get xs k ≡ Some a → slice_get (ys ++ y ∷ []) k ≡ Some b → R a b
each_more R xs ys x y g r h k a b s t =
    elim (at_end ys y k b t) [
      | inl e ↦ h k a b s e
      | inr e ↦
          let i : x ≡ a = same_some (slice_get xs k) x a (ap (slice_get xs) e.0 ∙ g) s in
          subst (λ z. R z b) i (subst (λ z. R x z) e.1 r)
    ]

-- of none
pub each_none : {X Y : Type 0} (R : X → Y → Type 0) (xs : List X) (k : ℕ) (a : X) (b : Y) → slice_get xs k ≡ Some a → slice_get [] k ≡ Some b → R a b
each_none R xs k a b s t = cc
