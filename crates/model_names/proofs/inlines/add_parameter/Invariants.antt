use Rattle.std.proofs.Common.{◌≡◌, ◌++◌, flat_map, take}
use Rattle.model_names.specs.Inlines.{same_name, declares}
use Rattle.model_names.proofs.inlines.add_parameter.Given as goal

abbrev pub invariant-loop-token : goal.invariant-loop-token
invariant-loop-token l = l.out.items ≡ l.fn.out.items ++ (declares l.parameter ++ flat_map (same_name l.parameter) (take l.token-index l.body))
