use Rattle.std.proofs.Common.{sym}
use Rattle.pml_value.specs.Seen.{seen}
use Rattle.run_search.proofs.Offering.{fields-length}
use Rattle.run_search.proofs.message.Message.len.Goals as goal

pub returns : goal.returns
returns c =
    rw (← c.self.view_is) (sym (fields-length c.self.inside.types.now c.self.inside.fields.now (seen c.self.inside.view) c.self.invariant))
