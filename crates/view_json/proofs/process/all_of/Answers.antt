use Rattle.std.proofs.Common.{ap}
use Rattle.view_waits.specs.Waits.{waits}
use Rattle.view_tokens.specs.Printed.{Printed}
use Rattle.view_json.proofs.Waits.{waits_refused}
use Rattle.view_json.proofs.process.all_of.Goals as goal

pub returns : goal.returns
returns c are =
    waits_refused c.args.live.now.state c.args.process (waits c.args.live.now.state c.args.process) c.args.json.now c.refuse.new.self
    (ap (λ (j : Printed). j.refused) c.refuse.ensures)
