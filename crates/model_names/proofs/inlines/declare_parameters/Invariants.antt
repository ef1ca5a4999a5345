use Rattle.std.proofs.Common.{◌≡◌, ◌++◌, flat_map, take}
use Rattle.model_names.specs.Inlines.{declared_parameter}
use Rattle.model_names.proofs.inlines.declare_parameters.Given as goal

abbrev pub invariant-loop-token : goal.invariant-loop-token
invariant-loop-token l = l.out.items ≡ l.fn.out.items ++ flat_map (declared_parameter l.owner) (take l.token-index l.parameters)
