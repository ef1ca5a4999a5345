use Rattle.std.proofs.Common.{◌≡◌, ◌++◌, subst, ℕ, List, chars, string_bytes, OnOk}
use Rattle.std.specs.List.{flat_map}
use Rattle.source_lines.specs.Signs.{shown_character}
use Rattle.source_lines.specs.Shown.{shown_byte}
use Rattle.source_lines.proofs.Texts.{of_text, of_bytes}
use Rattle.source_lines.proofs.shown.show.Goals as goal

pub returns-in-Ok : goal.returns-in-Ok
returns-in-Ok c =
    subst (λ (l : List ℕ). OnOk c.show_chars.result (string_bytes c.show_chars.new.out ≡ string_bytes c.args.out.now ++ l))
    (of_text (flat_map shown_character) (flat_map shown_byte c.args.bytes.now) c.args.bytes.now c.in-Ok.text.now c.in-Ok.ensures.cases.0 c.in-Ok.ensures.cases.1) c.show_chars.ensures

pub returns-in-Err : goal.returns-in-Err
returns-in-Err c =
    subst (λ (l : List ℕ). OnOk c.show_bytes.result (string_bytes c.show_bytes.new.out ≡ string_bytes c.args.out.now ++ l))
    (of_bytes (flat_map shown_character (chars c.args.bytes.now)) (flat_map shown_byte c.args.bytes.now) c.args.bytes.now c.in-Err.ensures.cases.0) c.show_bytes.ensures
