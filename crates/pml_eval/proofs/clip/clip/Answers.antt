use Rattle.std.proofs.Common.{rules, SFits, w32, to_z-of_z, ap, ◌∙◌}
use Rattle.promela_process.specs.Numbers.{clipped}
use Rattle.pml_eval.proofs.ClipLemmas.{clipped-same}
use Rattle.pml_eval.proofs.clip.clip.Goals as goal

pub returns-then-is_small : goal.returns-then-is_small
returns-then-is_small c =
    let fits : SFits w32 c.args.v = search rules in
    clipped-same c.args.form _ (c.is_small.ensures c.if-is_small.true) ∙ ap (clipped c.args.form) (to_z-of_z fits)
