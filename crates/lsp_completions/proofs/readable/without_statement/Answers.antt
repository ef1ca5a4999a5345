use Rattle.lsp_completions.proofs.Offering.{without_by}
use Rattle.lsp_completions.proofs.readable.without_statement.Goals as goal

pub returns : goal.returns
returns c =
    without_by c.args.text.now c.in_ok-text.text.items c.args.tokens.now c.args.offset c.gap_start-from.result c.saturating_add.result c.with_names.result
    c.gap_start-from.ensures c.in_ok-text.ensures c.with_names.ensures
