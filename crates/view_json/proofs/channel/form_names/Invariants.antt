-- the types before the loop's are written
use Rattle.std.proofs.Common.{take}
use Rattle.std.specs.List.{flat_map}
use Rattle.view_tokens.specs.Printed.{Writes}
use Rattle.view_json.specs.Objects.{form_token}
use Rattle.view_json.proofs.channel.form_names.Given as goal

abbrev pub invariant-loop-form : goal.invariant-loop-form
invariant-loop-form l = Writes l.initial.json l.json (flat_map form_token (take l.form-index l.types))
