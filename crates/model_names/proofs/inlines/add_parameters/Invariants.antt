use Rattle.std.proofs.Common.{◌≡◌, ◌++◌, flat_map, take}
use Rattle.model_names.specs.Inlines.{of_parameter}
use Rattle.model_names.proofs.inlines.add_parameters.Given as goal

abbrev pub invariant-loop-token : goal.invariant-loop-token
invariant-loop-token l = l.out.items ≡ l.fn.out.items ++ flat_map (of_parameter l.body) (take l.token-index l.parameters)
