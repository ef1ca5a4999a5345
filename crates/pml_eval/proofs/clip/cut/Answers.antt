use Rattle.std.proofs.Common.{rules, SFits, w32, to_z-of_z, ap, ◌∙◌}
use Rattle.promela_process.specs.Numbers.{signed_part, residue}
use Rattle.pml_eval.proofs.ClipLemmas.{placed-same}
use Rattle.pml_eval.proofs.clip.cut.Goals as goal

pub returns-then-is_in_range : goal.returns-then-is_in_range
returns-then-is_in_range c =
    let fits : SFits w32 c.args.v = search rules in
    placed-same c.args.signed c.args.bits _ (search rules) (c.is_in_range.ensures c.if-is_in_range.true) ∙ ap (λ v. signed_part c.args.signed c.args.bits (residue c.args.bits v)) (to_z-of_z fits)
