use Rattle.std.proofs.Common.{◌∙◌}
use Rattle.session.proofs.WordParts.{rest_is}
use Rattle.session.proofs.choice.parted.Goals as goal

pub returns-clause-rest : goal.returns-clause-rest
returns-clause-rest c = c.trim_gap.ensures ∙ rest_is c.args.line.now c.first_word-word.result.now c.first_word-word.ensures
