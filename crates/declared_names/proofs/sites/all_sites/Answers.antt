use Rattle.std.proofs.Common.{◌∙◌, ℕ, Option, ap, sym}
use Rattle.std.specs.Option.{option_or}
use Rattle.declared_names.specs.Sites.{owned, declared_by}
use Rattle.declared_names.proofs.More.{sites_more}
use Rattle.declared_names.proofs.sites.all_sites.Goals as goal

pub loop-mark-init : goal.loop-mark-init
loop-mark-init c = record { kept = c.new-sites.ensures.kept; same = λ o n. c.new-sites.ensures.empty o n }

pub loop-mark-preserved : goal.loop-mark-preserved
loop-mark-preserved c =
    let m = c.mark-item.result in
    record {
      kept = c.add_site.ensures.kept;
      same = λ o n.
          c.in_ok-add_site.ensures.added o n
          ∙ ap (λ (x : Option ℕ). option_or x (owned m.owner o (declared_by m.what n))) (c.loop-mark.invariant.same o n)
          ∙ sym (sites_more c.args.marks.now c.loop-mark.mark-index m c.loop-mark-test.true c.mark-item.is o n);
    }
