use Rattle.std.proofs.Common.{◌∙◌, sym}
use Rattle.view_json.proofs.Alike.{alike_is}
use Rattle.view_json.proofs.known.know.Goals as goal

pub returns-then-is_alike-clause-knows : goal.returns-then-is_alike-clause-knows
returns-then-is_alike-clause-knows c = λ calm.
    alike_is c.args.live.now.state c.args.known.now c.args.pick _ c.requires.seen c.requires.known (sym c.is_alike.ensures ∙ c.if-is_alike.true)
