use Rattle.std.proofs.Common.{sym}
use Rattle.serde_json.specs.View.{view}
use Rattle.lsp_answers.proofs.Telling.{told_there}
use Rattle.lsp_answers.proofs.answers.told_at.Goals as goal

pub returns-in_ok-told-in_default-question : goal.returns-in_ok-told-in_default-question
returns-in_ok-told-in_default-question c =
    told_there c.args.question c.args.page c.args.names.now (view c.args.parameters.now) (view c.in_ok-told-in_default-question.field-0)
    c.in_default-question.not-Rename
    record {
      at = c.in-Some.offset;
      is_asked = sym c.in-Some.ensures;
      told = c.in_ok-told-in_default-question.ensures;
    }
