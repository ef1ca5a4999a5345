use Rattle.std.proofs.Common.{rules, arith, refl, take, subst, sym, ap, ◌∙◌, ◌≡◌, ◌<◌, ◌+◌, ℕ, List, length, slice_index_or, nat_eq, if◌then◌else◌, IfOk, ◌^◌, ◌-◌, ◌*◌, ◌≤◌, ◌/◌, ◌%◌, Bool, true, false, nat_lt, [], ◌∷◌, ◌++◌, slice_set, bit_and, bit_or, Fits, w8, w32, w64, Bor, MutBor}
use Rattle.view_json.specs.Counts.{AreCounts}
use Rattle.std.proofs.lemmas.List.{take_all}
use Rattle.promela_run.specs.declared.moves.Move.{Move}
use Rattle.promela_run.specs.declared.moves.Move.TheVariants.{Death}
use Rattle.view_json.proofs.Counting.{begun, room, room_two, counted_one, counted_two}
use Rattle.view_json.proofs.counted.counts_of.Goals as goal
use Rattle.view_json.proofs.counted.counts_of.Goals.{then-first-second, else-first-second}

-- src/counts.rt:48:5
pub loop-m-init : goal.loop-m-init
loop-m-init c = begun c.args.processes c.resize.new.self.items (search rules) (λ p k. c.in_ok-resize.ensures.by_index.1 p 0 refl (search rules) k)

-- src/counts.rt:51:9
pub count_one-requires : goal.count_one-requires
count_one-requires c = room c.args.processes c.loop-m.counts.items c.args.moves.now c.loop-m.m-index c.starter_of-first.result c.loop-m.invariant c.loop-m-test.true (search rules)

-- src/counts.rt:53:13
pub count_one-requires-then-first-second : goal.count_one-requires-then-first-second
count_one-requires-then-first-second c = room_two c.args.processes c.loop-m.counts.items c.count_one.new.counts.items c.args.moves.now c.loop-m.m-index c.starter_of-first.result c.other_of-second.result
    c.loop-m.invariant c.loop-m-test.true (search rules) c.if-first-second.true c.count_one.ensures.len c.count_one.ensures.one

-- src/counts.rt:48:5
pub loop-m-preserved : goal.loop-m-preserved
loop-m-preserved c = elim c.if-first-second.branch [
  | then-first-second w ↦ subst (λ v. AreCounts c.args.processes v.items (take (c.loop-m.m-index + 1) c.args.moves.now)) (sym w.counts-is)
      (counted_two c.args.processes c.loop-m.counts.items c.count_one.new.counts.items w.count_one-then-first-second.new.counts.items c.args.moves.now c.loop-m.m-index c.starter_of-first.result c.other_of-second.result (Death 0)
      c.loop-m.invariant c.loop-m-test.true c.starter_of-first.ensures c.other_of-second.ensures w.if-first-second.true c.count_one.ensures.len c.count_one.ensures.one w.count_one-then-first-second.ensures.len w.count_one-then-first-second.ensures.one)
  | else-first-second w ↦ subst (λ v. AreCounts c.args.processes v.items (take (c.loop-m.m-index + 1) c.args.moves.now)) (sym w.counts-is)
      (counted_one c.args.processes c.loop-m.counts.items c.count_one.new.counts.items c.args.moves.now c.loop-m.m-index c.starter_of-first.result c.other_of-second.result (Death 0)
      c.loop-m.invariant c.loop-m-test.true c.starter_of-first.ensures c.other_of-second.ensures w.if-first-second.false c.count_one.ensures.len c.count_one.ensures.one)
]

-- src/counts.rt:43:1
pub returns : goal.returns
returns c =
    let end : length c.args.moves.now ≤ c.loop-m.m-index = grind (arith, rules) in
    subst (λ ms. AreCounts c.args.processes c.loop-m.counts.items ms) (take_all c.loop-m.m-index c.args.moves.now end) c.loop-m.invariant
