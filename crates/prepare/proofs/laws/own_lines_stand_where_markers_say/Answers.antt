use Rattle.prepare.specs.Numbering.{bare}
use Rattle.prepare.proofs.Owning.{own_stand, first_stand}
use Rattle.prepare.proofs.laws.own_lines_stand_where_markers_say.Goals as goal

pub returns : goal.returns
returns c = record { marked = λ text before own m h. own_stand (bare text) before own m h; first = λ text own h. first_stand (bare text) own h }
