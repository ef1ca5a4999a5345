use Rattle.std.proofs.Common.{◌≡◌, ◌++◌, ◌∙◌, [], subst, ap, sym, ℕ, List, chars, string_bytes, OnOk}
use Rattle.std.proofs.lemmas.List.{append-nil}
use Rattle.std.specs.List.{flat_map}
use Rattle.std.specs.Str.{IsUtf8}
use Rattle.source_lines.specs.Signs.{shown_character}
use Rattle.source_lines.proofs.Texts.{of_text, of_bytes}
use Rattle.called_macros.specs.Told.{name_of, file_told}
use Rattle.called_macros.proofs.told.push_file.Goals as goal

pub returns-in-Ok : goal.returns-in-Ok
returns-in-Ok c =
    let name : List ℕ = name_of c.args.origin.now c.args.file in
    subst (λ (l : List ℕ). OnOk c.show_chars.result (string_bytes c.show_chars.new.out ≡ string_bytes c.args.out.now ++ l))
    (of_text (flat_map shown_character) [] name c.in-Ok.name.now (c.in-Ok.ensures.cases.0 ∙ c.name_of.ensures) (subst IsUtf8 c.name_of.ensures c.in-Ok.ensures.cases.1))
    c.show_chars.ensures

pub returns-in-Err : goal.returns-in-Err
returns-in-Err c =
    let name : List ℕ = name_of c.args.origin.now c.args.file in
    let none : [] ≡ file_told c.args.origin.now c.args.file =
    of_bytes (flat_map shown_character (chars name)) [] name (λ u. c.in-Err.ensures.cases.0 (subst IsUtf8 (sym c.name_of.ensures) u)) in
    sym (append-nil (string_bytes c.args.out.now)) ∙ ap (λ (l : List ℕ). string_bytes c.args.out.now ++ l) none
