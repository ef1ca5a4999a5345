use Rattle.run_values.proofs.Listing.{lines_of_changes}
use Rattle.run_values.proofs.changed.lines_are_of_changes.Goals as goal

pub returns : goal.returns
returns c = λ p sorts before after globals locals. lines_of_changes p sorts globals locals before after
