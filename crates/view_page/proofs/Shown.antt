-- What stands in no text that is held or shown.
use Rattle.std.proofs.Common.{◌≡◌, ◌∙◌, ap, refl, ℕ, Bool, true, false, ◌||◌, if◌then◌else◌, nat_eq, List, [], ◌∷◌, codes}
use Rattle.std.specs.List.{flat_map, list_any}
use Rattle.std.proofs.lemmas.List.Folds.{list_any-append}
use Rattle.view_page.specs.Page.{shown_byte, held_byte, HasNo, NothingHeldEnds, NothingShownIsAnElement}

-- what no part has, the whole has not
none_of : (b : ℕ) (f : ℕ → List ℕ) → ((x : ℕ) → HasNo b (f x)) → (xs : List ℕ) → HasNo b (flat_map f xs)
none_of b f none [] = refl
none_of b f none (x ∷ xs) =
    list_any-append (λ y. nat_eq y b) (f x) (flat_map f xs)
    ∙ ap (λ (l : Bool). l || list_any (λ y. nat_eq y b) (flat_map f xs)) (none x)
    ∙ none_of b f none xs

-- one of two texts without it
either : (b : ℕ) (test : Bool) (xs ys : List ℕ) → HasNo b xs → (test ≡ false → HasNo b ys) → HasNo b (if test then xs else ys)
either b true xs ys one other = one
either b false xs ys one other = other refl

-- another byte is not this one
other_byte : (b x : ℕ) → nat_eq x b ≡ false → HasNo b (x ∷ [])
other_byte b x is_not = ap (λ (t : Bool). t || false) is_not

held_none : (x : ℕ) → HasNo 60 (held_byte x)
held_none x = either 60 (nat_eq x 60) (codes "\\u003c") (x ∷ []) refl (other_byte 60 x)

pub nothing_held_ends : NothingHeldEnds
nothing_held_ends = none_of 60 held_byte held_none

-- a byte that is not shown as it is stands for one of five
shown_none : (b : ℕ) → HasNo b (codes "&#13;") → HasNo b (codes "&amp;") → HasNo b (codes "&lt;") → HasNo b (codes "&gt;") → HasNo b (codes "&quot;")
    → ((x : ℕ) → nat_eq x 60 ≡ false → nat_eq x 62 ≡ false → nat_eq x 34 ≡ false → HasNo b (x ∷ [])) → (x : ℕ) → HasNo b (shown_byte x)
shown_none b r a l g q last x =
    either b (nat_eq x 13) _ _ r (λ h. either b (nat_eq x 38) _ _ a (λ i. either b (nat_eq x 60) _ _ l (λ j.
    either b (nat_eq x 62) _ _ g (λ k. either b (nat_eq x 34) _ _ q (last x j k)))))

pub nothing_shown_is_an_element : NothingShownIsAnElement
nothing_shown_is_an_element bs = (
  none_of 60 shown_byte (shown_none 60 refl refl refl refl refl (λ x l g q. other_byte 60 x l)) bs,
  none_of 62 shown_byte (shown_none 62 refl refl refl refl refl (λ x l g q. other_byte 62 x g)) bs,
  none_of 34 shown_byte (shown_none 34 refl refl refl refl refl (λ x l g q. other_byte 34 x q)) bs,
)
