use Rattle.std.proofs.Common.{◌≡◌, ◌∙◌, ◌||◌, Bool, sym, ap, arith, length, take}
use Rattle.check_names.specs.Env.{after}
use Rattle.check_names.proofs.Looking.{env-empty, env-more, after-length}
use Rattle.promela_model.specs.declared.condition.Condition.{Condition}
use Rattle.promela_model.specs.declared.condition.Condition.TheVariants as condition
use Rattle.promela_model.specs.Conditions.{judged}
use Rattle.std.specs.Option.{is_some}
use Rattle.promela_model.specs.Decided.{is_label, broken}
use Rattle.check_conditions.specs.Labels.{told_around}
use Rattle.check_conditions.proofs.Surrounding.{label-more, around-is}
use Rattle.check_conditions.proofs.Looking.{so_far-none, so_far-more, so_far-whole}
use Rattle.check_conditions.proofs.find.find.Goals as goal

pub loop-mark-init : goal.loop-mark-init
loop-mark-init c = record {
  table = c.new-names.ensures.empty ∙ sym env-empty;
  few = omega (arith, ap length c.new-names.ensures.empty);
  labels = record { kept = c.new-labels.ensures.kept; same = λ o n. ap is_some (c.new-labels.ensures.empty o n) };
  totalled = c.new-names.ensures.totalled;
  twice = so_far-none (broken condition.Twice c.args.marks.now) c.args.marks.now _ c.nothing-found.ensures.twice;
  unknown = so_far-none (broken condition.Unknown c.args.marks.now) c.args.marks.now _ c.nothing-found.ensures.unknown;
  wrong = so_far-none (broken condition.Wrong c.args.marks.now) c.args.marks.now _ c.nothing-found.ensures.wrong;
  arguments = so_far-none (broken condition.Arguments c.args.marks.now) c.args.marks.now _ c.nothing-found.ensures.arguments;
  label = so_far-none (broken condition.Label c.args.marks.now) c.args.marks.now _ c.nothing-found.ensures.label;
  range = so_far-none (broken condition.Range c.args.marks.now) c.args.marks.now _ c.nothing-found.ensures.range;
  cells = so_far-none (broken condition.Cells c.args.marks.now) c.args.marks.now _ c.nothing-found.ensures.cells;
}

pub loop-mark-preserved : goal.loop-mark-preserved
loop-mark-preserved c =
    let m = c.mark-item.result in
    let i = c.loop-mark.mark-index in
    let ms = c.args.marks.now in
    let old = c.loop-mark.names.table in
    let e = c.in_ok-declare.ensures.table in
    let every = c.in_ok-every.every in
    let same : (r : Condition) → judged r (told_around c.args.all.now every old c.loop-mark.labels) m.owner m.what ≡ broken r ms (take i ms) m = λ r.
    ap (λ a. judged r a m.owner m.what)
    (around-is ms (take i ms) c.args.all.now old every c.loop-mark.labels c.requires c.loop-mark.invariant.table c.in_ok-every.ensures.same c.loop-mark.invariant.labels.same) in
    record {
      table = e ∙ ap (λ es. after es m.owner m.what) c.loop-mark.invariant.table ∙ sym (env-more ms i m c.loop-mark-test.true c.mark-item.is);
      few = omega (arith, ap length e, after-length old m.owner m.what);
      labels = record {
        kept = c.add_label.ensures.kept;
        same = λ o n.
            c.in_ok-add_label.ensures.added o n
            ∙ ap (λ (b : Bool). is_label o n m.owner m.what || b) (c.loop-mark.invariant.labels.same o n)
            ∙ sym (label-more ms i m c.loop-mark-test.true c.mark-item.is o n);
      };
      totalled = c.in_ok-declare.ensures.totalled;
      twice = so_far-more (broken condition.Twice ms) ms i m _ _ _ c.loop-mark-test.true c.mark-item.is (c.at_mark-here.ensures.twice ∙ same condition.Twice) c.either-found.ensures.twice c.loop-mark.invariant.twice;
      unknown = so_far-more (broken condition.Unknown ms) ms i m _ _ _ c.loop-mark-test.true c.mark-item.is (c.at_mark-here.ensures.unknown ∙ same condition.Unknown) c.either-found.ensures.unknown c.loop-mark.invariant.unknown;
      wrong = so_far-more (broken condition.Wrong ms) ms i m _ _ _ c.loop-mark-test.true c.mark-item.is (c.at_mark-here.ensures.wrong ∙ same condition.Wrong) c.either-found.ensures.wrong c.loop-mark.invariant.wrong;
      arguments = so_far-more (broken condition.Arguments ms) ms i m _ _ _ c.loop-mark-test.true c.mark-item.is (c.at_mark-here.ensures.arguments ∙ same condition.Arguments) c.either-found.ensures.arguments c.loop-mark.invariant.arguments;
      label = so_far-more (broken condition.Label ms) ms i m _ _ _ c.loop-mark-test.true c.mark-item.is (c.at_mark-here.ensures.label ∙ same condition.Label) c.either-found.ensures.label c.loop-mark.invariant.label;
      range = so_far-more (broken condition.Range ms) ms i m _ _ _ c.loop-mark-test.true c.mark-item.is (c.at_mark-here.ensures.range ∙ same condition.Range) c.either-found.ensures.range c.loop-mark.invariant.range;
      cells = so_far-more (broken condition.Cells ms) ms i m _ _ _ c.loop-mark-test.true c.mark-item.is (c.at_mark-here.ensures.cells ∙ same condition.Cells) c.either-found.ensures.cells c.loop-mark.invariant.cells;
    }

pub returns : goal.returns
returns c = record {
  twice = so_far-whole (broken condition.Twice c.args.marks.now) c.args.marks.now c.loop-mark.mark-index _ c.loop-mark-test.false c.loop-mark.invariant.twice;
  unknown = so_far-whole (broken condition.Unknown c.args.marks.now) c.args.marks.now c.loop-mark.mark-index _ c.loop-mark-test.false c.loop-mark.invariant.unknown;
  wrong = so_far-whole (broken condition.Wrong c.args.marks.now) c.args.marks.now c.loop-mark.mark-index _ c.loop-mark-test.false c.loop-mark.invariant.wrong;
  arguments = so_far-whole (broken condition.Arguments c.args.marks.now) c.args.marks.now c.loop-mark.mark-index _ c.loop-mark-test.false c.loop-mark.invariant.arguments;
  label = so_far-whole (broken condition.Label c.args.marks.now) c.args.marks.now c.loop-mark.mark-index _ c.loop-mark-test.false c.loop-mark.invariant.label;
  range = so_far-whole (broken condition.Range c.args.marks.now) c.args.marks.now c.loop-mark.mark-index _ c.loop-mark-test.false c.loop-mark.invariant.range;
  cells = so_far-whole (broken condition.Cells c.args.marks.now) c.args.marks.now c.loop-mark.mark-index _ c.loop-mark-test.false c.loop-mark.invariant.cells;
}
