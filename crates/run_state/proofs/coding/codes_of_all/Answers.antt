use Rattle.std.proofs.Common.{arith, length-append, ◌∷◌, [], ◌≡◌, ◌∙◌, sym}
use Rattle.run_state.proofs.Tables.{more_all, body_codes}
use Rattle.run_state.proofs.coding.codes_of_all.Goals as goal

pub loop-sort-preserved : goal.loop-sort-preserved
loop-sort-preserved c =
    let p = c.args.program.now in
    let k = c.in-Some.body in
    let codes = c.in_ok-codes_in-in-Some.field-0 in
    let i = c.in_ok-push-in-Some.ensures.items in
    let a = length-append c.loop-sort.all.items (codes ∷ []) in
    let e = c.loop-sort.invariant.counted in
    let g : c.in_ok-globals.globals ≡ p.globals = c.in_ok-globals.ensures ∙ c.as_slice.ensures in
    record {
      counted = rw i (omega (arith, a, e));
      are = rw i (more_all p c.loop-sort.all.items codes c.loop-sort.sort e c.loop-sort.invariant.are
          (body_codes p c.loop-sort.sort k.proctype.now k.statements.now codes (sym c.in-Some.ensures.proctype) c.in-Some.ensures.is.statements (rw g at c.in_ok-codes_in-in-Some.ensures)));
    }
