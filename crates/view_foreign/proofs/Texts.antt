-- Texts by their characters.
use Rattle.std.proofs.Common.{◌≡◌, ◌∙◌, ap, sym, refl, ℕ, Bool, true, false, List, chars}
use Rattle.std.specs.Prelude.{if◌then◌else◌}
use Rattle.std.proofs.lemmas.Str.{IsUtf8-from_is_utf8, is_utf8-from_IsUtf8}
use Rattle.std.specs.Str.{IsUtf8, is_utf8}

no_text : (bs : List ℕ) → (IsUtf8 bs → ⊥) → is_utf8 bs ≡ false
no_text bs broken = by (is_utf8 bs) refl
  where
    by : (b : Bool) → is_utf8 bs ≡ b → is_utf8 bs ≡ false
    by true is = absurd (broken (IsUtf8-from_is_utf8 bs is))
    by false is = is

-- what is made of the characters, and of bytes that are none
pub of_text : {A : Type 0} (f : List ℕ → A) (other : A) (bs text : List ℕ) → text ≡ bs → IsUtf8 bs → f (chars text) ≡ (if is_utf8 bs then f (chars bs) else other)
of_text {A} f other bs text same u =
    ap (λ (l : List ℕ). f (chars l)) same ∙ sym (ap (λ (b : Bool). if b then f (chars bs) else other) (is_utf8-from_IsUtf8 bs u))

pub of_bytes : {A : Type 0} (a other : A) (bs : List ℕ) → (IsUtf8 bs → ⊥) → other ≡ (if is_utf8 bs then a else other)
of_bytes {A} a other bs broken = sym (ap (λ (b : Bool). if b then a else other) (no_text bs broken))
