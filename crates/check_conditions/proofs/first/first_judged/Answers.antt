use Rattle.std.proofs.Common.{◌≡◌, ◌<◌, ◌∙◌, ◌||◌, Bool, sym, ap, arith, length, take, true, false}
use Rattle.std.proofs.lemmas.Option.{slice_get_within}
use Rattle.std.specs.Option.{is_some}
use Rattle.check_names.specs.Env.{after}
use Rattle.check_names.proofs.Looking.{env-empty, env-more, after-length}
use Rattle.promela_model.specs.declared.condition.Condition.{Condition}
use Rattle.promela_model.specs.declared.condition.Condition.TheVariants as condition
use Rattle.promela_model.specs.Conditions.{judged}
use Rattle.promela_model.specs.Decided.{is_label}
use Rattle.check_conditions.specs.First.{broken_at, found_of}
use Rattle.check_conditions.specs.Labels.{told_around, around}
use Rattle.check_conditions.proofs.Surrounding.{label-more, around-is}
use Rattle.check_conditions.proofs.Looking.{none_more}
use Rattle.check_conditions.proofs.Stopping.{AreJudged, found_is, first_here}
use Rattle.check_conditions.proofs.first.first_judged.Goals as goal

pub loop-i-init : goal.loop-i-init
loop-i-init c = record {
  table = c.new-names.ensures.empty ∙ sym env-empty;
  few = omega (arith, ap length c.new-names.ensures.empty);
  labels = record { kept = c.new-labels.ensures.kept; same = λ o n. ap is_some (c.new-labels.ensures.empty o n) };
  totalled = c.new-names.ensures.totalled;
  none = λ k m lt s. absurd (omega arith);
}

pub loop-i-preserved : goal.loop-i-preserved
loop-i-preserved c =
    let m = c.index-marks-i.result in
    let i = c.loop-i.i in
    let ms = c.args.marks.now in
    let old = c.loop-i.names.table in
    let e = c.in_ok-declare.ensures.table in
    let every = c.in_ok-every.every in
    let same = around-is ms (take i ms) c.args.all.now old every c.loop-i.labels c.requires.names c.loop-i.invariant.table c.in_ok-every.ensures.same c.loop-i.invariant.labels.same in
    let judged_there : (r : Condition) → judged r (told_around c.args.all.now every old c.loop-i.labels) m.owner m.what ≡ judged r (around ms (take i ms)) m.owner m.what = λ r. ap (λ a. judged r a m.owner m.what) same in
    let h = c.at_mark-here.ensures in
    let all : AreJudged c.at_mark-here.result (around ms (take i ms)) m.owner m.what = record {
      twice = h.twice ∙ judged_there condition.Twice;
      unknown = h.unknown ∙ judged_there condition.Unknown;
      wrong = h.wrong ∙ judged_there condition.Wrong;
      arguments = h.arguments ∙ judged_there condition.Arguments;
      label = h.label ∙ judged_there condition.Label;
      range = h.range ∙ judged_there condition.Range;
      cells = h.cells ∙ judged_there condition.Cells;
    } in
    let b : broken_at c.args.condition ms (take i ms) m ≡ false =
    sym (found_is c.args.condition c.at_mark-here.result ms (take i ms) m c.requires.no_break c.requires.no_step all) ∙ sym c.found_of.ensures ∙ c.if-found_of.false in
    record {
      table = e ∙ ap (λ es. after es m.owner m.what) c.loop-i.invariant.table ∙ sym (env-more ms i m c.loop-i-test.true c.index-marks-i.is);
      few = omega (arith, ap length e, after-length old m.owner m.what);
      labels = record {
        kept = c.add_label.ensures.kept;
        same = λ o n.
            c.in_ok-add_label.ensures.added o n
            ∙ ap (λ (b : Bool). is_label o n m.owner m.what || b) (c.loop-i.invariant.labels.same o n)
            ∙ sym (label-more ms i m c.loop-i-test.true c.index-marks-i.is o n);
      };
      totalled = c.in_ok-declare.ensures.totalled;
      none = none_more (broken_at c.args.condition ms) ms i m c.loop-i-test.true c.index-marks-i.is b c.loop-i.invariant.none;
    }

pub returns-then-found_of : goal.returns-then-found_of
returns-then-found_of c =
    let m = c.index-marks-i.result in
    let i = c.loop-i.i in
    let ms = c.args.marks.now in
    let old = c.loop-i.names.table in
    let every = c.in_ok-every.every in
    let same = around-is ms (take i ms) c.args.all.now old every c.loop-i.labels c.requires.names c.loop-i.invariant.table c.in_ok-every.ensures.same c.loop-i.invariant.labels.same in
    let judged_there : (r : Condition) → judged r (told_around c.args.all.now every old c.loop-i.labels) m.owner m.what ≡ judged r (around ms (take i ms)) m.owner m.what = λ r. ap (λ a. judged r a m.owner m.what) same in
    let h = c.at_mark-here.ensures in
    let all : AreJudged c.at_mark-here.result (around ms (take i ms)) m.owner m.what = record {
      twice = h.twice ∙ judged_there condition.Twice;
      unknown = h.unknown ∙ judged_there condition.Unknown;
      wrong = h.wrong ∙ judged_there condition.Wrong;
      arguments = h.arguments ∙ judged_there condition.Arguments;
      label = h.label ∙ judged_there condition.Label;
      range = h.range ∙ judged_there condition.Range;
      cells = h.cells ∙ judged_there condition.Cells;
    } in
    first_here c.args.condition ms i m c.loop-i-test.true c.index-marks-i.is
    (sym (found_is c.args.condition c.at_mark-here.result ms (take i ms) m c.requires.no_break c.requires.no_step all) ∙ sym c.found_of.ensures ∙ c.if-found_of.true)
    c.loop-i.invariant.none

pub returns : goal.returns
returns c = λ k m s.
    c.loop-i.invariant.none k m (let lt : k < length c.args.marks.now = slice_get_within c.args.marks.now k m s in omega arith) s
