use Rattle.prepare.specs.declared.changes.PhraseHead.TheVariants.{Outside}
use Rattle.prepare.specs.Stretches.{stretches}
use Rattle.prepare.specs.Sizes.{declared}
use Rattle.prepare.proofs.Ranging.{ranges_by}
use Rattle.prepare.proofs.laws.ranges_are_those_declared.Goals as goal

pub returns : goal.returns
returns c = λ text. ranges_by (declared (stretches text)) Outside (stretches text)
