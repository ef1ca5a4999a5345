use Rattle.prepare.proofs.Dividing.{separators_end, skips_are_labelled}
use Rattle.prepare.proofs.laws.what_is_written_divides_statements.Goals as goal

pub returns : goal.returns
returns c = record { separators = separators_end; skips = skips_are_labelled }
