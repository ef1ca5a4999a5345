use Rattle.std.proofs.Common.{◌≡◌, subst, ℕ, List, chars}
use Rattle.std.specs.List.{flat_map}
use Rattle.view_text.specs.Written.{Adds}
use Rattle.view_foreign.specs.Escaped.{escaped_character}
use Rattle.view_foreign.proofs.Texts.{of_text, of_bytes}
use Rattle.view_foreign.proofs.escaped.add_bytes.Goals as goal

pub returns-in-Ok : goal.returns-in-Ok
returns-in-Ok c =
    subst (λ (l : List ℕ). Adds c.args.out.now c.add_text.new.out l)
    (of_text (flat_map escaped_character) c.args.lines.now c.args.lines.now c.in-Ok.text.now c.in-Ok.ensures.cases.0 c.in-Ok.ensures.cases.1) c.add_text.ensures

pub returns-in-Err : goal.returns-in-Err
returns-in-Err c =
    subst (λ (l : List ℕ). Adds c.args.out.now c.add.new.self l)
    (of_bytes (flat_map escaped_character (chars c.args.lines.now)) c.args.lines.now c.args.lines.now c.in-Err.ensures.cases.0) c.add.ensures
