use Rattle.std.proofs.Common.{sym, ◌∙◌}
use Rattle.model_verdicts.proofs.Renamed.{played_of, renamed_by}
use Rattle.model_verdicts.proofs.renaming.renamed.Goals as goal

pub returns : goal.returns
returns c =
    let played = played_of c.args.text.now c.in_ok-verdict_of.field-0 c.in_ok-verdict_of.ensures (sym c.is_some.ensures ∙ c.if-is_some.false) in
    renamed_by c.args.text.now c.args.name.now c.args.names.now.meant.items c.in_ok-renaming.renaming played c.requires c.in_ok-renaming.ensures c.validated.result c.validated.ensures
