use Rattle.pml_play.proofs.Changing.{model_converts}
use Rattle.pml_play.proofs.converting.convert_world.Goals as goal

pub returns-clause-part : goal.returns-clause-part
returns-clause-part g c text model = model_converts text c.args.options.now _ model c.convert.result _ _ _ _ _ _ _ _ c.convert.ensures.whole c.convert.ensures.source c.convert.ensures.out c.convert.ensures.broken c.convert.ensures.end c.convert.ensures.stands
