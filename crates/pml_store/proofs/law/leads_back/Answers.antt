use Rattle.std.proofs.Common.{refl}
use Rattle.pml_store.proofs.Back.{before_set, before_shape}
use Rattle.pml_store.proofs.law.leads_back.Goals as goal

pub returns : goal.returns
returns c = record { set = before_set; forgotten = λ frames most. refl; shape = before_shape }
