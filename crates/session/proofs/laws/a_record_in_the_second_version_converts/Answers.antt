use Rattle.session.proofs.Conversions.{is_told}
use Rattle.session.proofs.laws.a_record_in_the_second_version_converts.Goals as goal

pub returns : goal.returns
returns c start s options choices = is_told _ options s choices
