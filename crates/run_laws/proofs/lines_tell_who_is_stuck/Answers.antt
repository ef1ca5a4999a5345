use Rattle.run_laws.proofs.Telling.{lines_are}
use Rattle.run_laws.proofs.lines_tell_who_is_stuck.Goals as goal

pub returns : goal.returns
returns c s = lines_are s 0 s.stands
