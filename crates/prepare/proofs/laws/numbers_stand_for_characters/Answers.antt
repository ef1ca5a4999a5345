use Rattle.prepare.proofs.Numbers.{has_numbers}
use Rattle.prepare.proofs.laws.numbers_stand_for_characters.Goals as goal

pub returns : goal.returns
returns c = has_numbers
