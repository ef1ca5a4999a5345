use Rattle.std.proofs.Common.{◌∙◌, ap}
use Rattle.pml_control.specs.Labels.{found}
use Rattle.pml_control.proofs.Naming.{lookup_is}
use Rattle.pml_control.proofs.labels.LabelPosts.find.Goals as goal

pub returns : goal.returns
returns c =
    c.copied.ensures ∙ c.get.ensures.value ∙ lookup_is c.args.label.now c.self.inside.map.entries
    ∙ ap (λ es. found es c.args.label.now) c.self.view_is
