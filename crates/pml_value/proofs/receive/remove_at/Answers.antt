use Rattle.pml_tree.specs.declared.tree.Removal.TheVariants.{Remove}
use Rattle.promela_run.specs.Statements.{without}
use Rattle.pml_value.proofs.Channels.{changed-set, kept}
use Rattle.pml_value.proofs.receive.remove_at.Goals as goal

pub returns-in-Keep : goal.returns-in-Keep
returns-in-Keep c = rw c.in-Keep.is (kept c.args.channels.now c.args.at c.args.message)

pub returns-in-Remove : goal.returns-in-Remove
returns-in-Remove c =
    rw c.in-Remove.is (changed-set c.args.channels.now c.args.at c.index-channels-at.result c.take.new.self (without Remove c.args.message) c.requires.there c.take.ensures)
