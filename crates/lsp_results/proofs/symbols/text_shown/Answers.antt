use Rattle.std.proofs.Common.{◌≡◌, ◌∙◌, ap, sym, Bool, []}
use Rattle.std.specs.Prelude.{if◌then◌else◌}
use Rattle.std.proofs.lemmas.Str.{is_utf8-from_IsUtf8}
use Rattle.source_lines.proofs.Texts.{of_bytes}
use Rattle.lsp_results.proofs.symbols.text_shown.Goals as goal

pub returns-in-Ok : goal.returns-in-Ok
returns-in-Ok c =
    c.in-Ok.ensures.cases.0
    ∙ sym (ap (λ (b : Bool). if b then c.args.bytes.now else []) (is_utf8-from_IsUtf8 c.args.bytes.now c.in-Ok.ensures.cases.1))

pub returns-in-Err : goal.returns-in-Err
returns-in-Err c = of_bytes c.args.bytes.now [] c.args.bytes.now c.in-Err.ensures.cases.0
