use Rattle.std.proofs.Common.{◌∙◌, ap, cond, Some}
use Rattle.std.specs.Str.{bytes_eq}
use Rattle.pml_control.specs.Labels.{found, entries_of}
use Rattle.pml_control.proofs.Naming.{insert_is}
use Rattle.pml_control.proofs.labels.LabelPosts.set.Goals as goal

pub returns : goal.returns
returns c l =
    ap (λ es. found (entries_of es) l) c.in_ok-insert.ensures.entries
    ∙ insert_is c.args.label c.args.post c.self.inside.map.entries l
    ∙ ap (λ es. cond (bytes_eq l c.args.label.now) (Some c.args.post) (found es l)) c.self.view_is
