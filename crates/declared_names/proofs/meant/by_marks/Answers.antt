use Rattle.std.proofs.Common.{◌≡◌, ◌∙◌, ◌+◌, ◌++◌, ℕ, List, [], Option, sym, ap, arith, length, take, drop}
use Rattle.std.specs.Option.{option_or}
use Rattle.check_names.specs.Env.{after}
use Rattle.check_names.proofs.Looking.{env-empty, env-more, after-length}
use Rattle.declared_names.specs.Sites.{owned, declared_by}
use Rattle.declared_names.specs.Meant.{by_marks, meant}
use Rattle.declared_names.specs.declared.occurrence.Occurrence.{Occurrence}
use Rattle.declared_names.proofs.More.{sites_more}
use Rattle.declared_names.proofs.Known.{told_is, labels_are, meant_more}
use Rattle.declared_names.proofs.meant.by_marks.Goals as goal

pub loop-mark-init : goal.loop-mark-init
loop-mark-init c = record {
  table = c.new-names.ensures.empty ∙ sym env-empty;
  few = omega (arith, ap length c.new-names.ensures.empty);
  totalled = c.new-names.ensures.totalled;
  sites = record { kept = c.new-sites.ensures.kept; same = λ o n. c.new-sites.ensures.empty o n };
  out = ap (λ (xs : List Occurrence). xs ++ by_marks c.args.marks.now [] c.args.marks.now) c.new-out.ensures.items;
}

pub loop-mark-preserved : goal.loop-mark-preserved
loop-mark-preserved c =
    let m = c.mark-item.result in
    let i = c.loop-mark.mark-index in
    let ms = c.args.marks.now in
    let old = c.loop-mark.names.table in
    let e = c.in_ok-declare.ensures.table in
    let table = e ∙ ap (λ es. after es m.owner m.what) c.loop-mark.invariant.table ∙ sym (env-more ms i m c.loop-mark-test.true c.mark-item.is) in
    let same = λ (o : ℕ) (n : List ℕ).
    c.in_ok-add_site.ensures.added o n
    ∙ ap (λ (x : Option ℕ). option_or x (owned m.owner o (declared_by m.what n))) (c.loop-mark.invariant.sites.same o n)
    ∙ sym (sites_more ms i m c.loop-mark-test.true c.mark-item.is o n) in
    record {
      table = table;
      few = omega (arith, ap length e, after-length old m.owner m.what);
      totalled = c.in_ok-declare.ensures.totalled;
      sites = record { kept = c.add_site.ensures.kept; same = same };
      out = meant_more ms ms i m _ _ (meant ms) _ _ _ c.loop-mark-test.true c.mark-item.is
          (told_is ms _ _ c.requires.table c.requires.sites)
          (told_is (take (i + 1) ms) _ _ table (record { kept = c.add_site.ensures.kept; same = same }))
          (labels_are ms _ c.requires.labels) c.in_ok-add_mark.ensures c.loop-mark.invariant.out;
    }
