use Rattle.std.proofs.Common.{◌≡◌, ◌++◌, ◌∙◌, subst, refl, ℕ, length, List, [], ◌∷◌, chars, string_bytes, replicate, OnOk, arith}
use Rattle.std.specs.Prelude.{if◌then◌else◌}
use Rattle.std.specs.List.{flat_map}
use Rattle.std.specs.Str.{is_utf8}
use Rattle.source_lines.specs.Shown.{caret, carets_below, carets}
use Rattle.source_lines.proofs.Texts.{of_text, of_bytes}
use Rattle.source_lines.proofs.below.carets.Goals as goal

some : (bs : List ℕ) → (length bs ≡ 0 → ⊥) → (if is_utf8 bs then flat_map carets_below (chars bs) else replicate (length bs) caret) ≡ carets bs
some [] not_empty = absurd (not_empty refl)
some (b ∷ bs) not_empty = refl

pub returns-in-Ok : goal.returns-in-Ok
returns-in-Ok c =
    subst (λ (l : List ℕ). OnOk c.caret_chars.result (string_bytes c.caret_chars.new.out ≡ string_bytes c.args.out.now ++ l))
    (of_text (flat_map carets_below) (replicate (length c.args.bytes.now) caret) c.args.bytes.now c.in-Ok.text.now c.in-Ok.ensures.cases.0 c.in-Ok.ensures.cases.1
    ∙ some c.args.bytes.now (λ e. grind (arith, e))) c.caret_chars.ensures

pub returns-in-Err : goal.returns-in-Err
returns-in-Err c =
    subst (λ (l : List ℕ). OnOk c.some_carets.result (string_bytes c.some_carets.new.out ≡ string_bytes c.args.out.now ++ l))
    (of_bytes (flat_map carets_below (chars c.args.bytes.now)) (replicate (length c.args.bytes.now) caret) c.args.bytes.now c.in-Err.ensures.cases.0
    ∙ some c.args.bytes.now (λ e. grind (arith, e))) c.some_carets.ensures
