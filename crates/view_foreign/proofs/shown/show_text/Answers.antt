use Rattle.std.proofs.Common.{◌≡◌, ◌++◌, subst, ℕ, List, chars, string_bytes, OnOk}
use Rattle.std.specs.List.{flat_map}
use Rattle.view_foreign.specs.Shown.{shown_sign, shown_sign_byte}
use Rattle.view_foreign.proofs.Texts.{of_text, of_bytes}
use Rattle.view_foreign.proofs.shown.show_text.Goals as goal

pub returns-in-Ok : goal.returns-in-Ok
returns-in-Ok c =
    subst (λ (l : List ℕ). OnOk c.show_signs.result (string_bytes c.show_signs.new.out ≡ string_bytes c.args.out.now ++ l))
    (of_text (flat_map shown_sign) (flat_map shown_sign_byte c.args.bytes.now) c.args.bytes.now c.in-Ok.text.now c.in-Ok.ensures.cases.0 c.in-Ok.ensures.cases.1) c.show_signs.ensures

pub returns-in-Err : goal.returns-in-Err
returns-in-Err c =
    subst (λ (l : List ℕ). OnOk c.show_bytes.result (string_bytes c.show_bytes.new.out ≡ string_bytes c.args.out.now ++ l))
    (of_bytes (flat_map shown_sign (chars c.args.bytes.now)) (flat_map shown_sign_byte c.args.bytes.now) c.args.bytes.now c.in-Err.ensures.cases.0) c.show_bytes.ensures
