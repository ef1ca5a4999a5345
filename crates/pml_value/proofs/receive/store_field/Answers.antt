use Rattle.pml_value.proofs.Storing.{set-sizes}
use Rattle.pml_value.proofs.receive.store_field.Goals as goal

pub returns-in-Into-clause-sizes : goal.returns-in-Into-clause-sizes
returns-in-Into-clause-sizes c = let x = c.set.ensures in set-sizes c.set.result c.args.store.now c.set.new.self _ _ x.ok x.err
