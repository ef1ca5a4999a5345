use Rattle.session.proofs.Placing.{can_be_converted}
use Rattle.session.proofs.laws.converted_choices_stand_for_the_record.Goals as goal

pub returns : goal.returns
returns c start s options = can_be_converted _ options s
