use Rattle.std.proofs.Common.{arith, sym, ◌∙◌, ap, get_or, drop, List, ℕ, ◌++◌, ◌+◌, [], Bool}
use Rattle.prepare.specs.Spelling.{is_break, unless_break, escapes, unbroken}
use Rattle.prepare.proofs.Strings.{unbroken_byte, unbroken_end, whole_rest}
use Rattle.prepare.proofs.spelling.add_unbroken.Goals as goal

pub loop-at-preserved : goal.loop-at-preserved
loop-at-preserved c =
    let xs = c.args.token.now in
    let i = c.loop-at.at in
    let e = c.loop-at.is_escaped in
    let b = get_or xs i 0 in (
      ap (λ (x : Bool). c.add_byte.new.out.items ++ unbroken x (drop (i + 1) xs)) c.escapes-is_escaped.ensures ∙ ap (λ (o : List ℕ). o ++ unbroken (escapes e b) (drop (i + 1) xs)) (c.in_ok-add_byte.ensures ∙ ap (λ (q : List ℕ). c.loop-at.out.items ++ unless_break (is_break e b q) b []) (whole_rest (i + 1) xs))
          ∙ unbroken_byte c.loop-at.out.items xs i e (omega arith) ∙ c.loop-at.invariant.0,
      omega arith,
    )

pub returns : goal.returns
returns c = sym (unbroken_end c.loop-at.out.items c.args.token.now c.loop-at.at c.loop-at.is_escaped (omega arith)) ∙ c.loop-at.invariant.0
