use Rattle.std.proofs.Common.{rules, ◌≡◌, ◌≤◌, ◌+◌, ◌-◌, ℕ, List, length, drop, take, arith, ap, length-drop, length-take}
use Rattle.source_lines.specs.Places.{trimmed, is_return, up_to_feed}
use Rattle.text_parts.proofs.Bounds.{line_length}
use Rattle.text_parts.proofs.places.offset_of.Goals as goal

bounded : (text between line : List ℕ) (s r : ℕ) → s ≤ length text → between ≡ take (length text - s) (drop s text) → line ≡ trimmed is_return (up_to_feed between) → r ≤ length line → s + r ≤ length text
bounded text between line s r h b l w =
    let e = ap length l in
    let f = line_length between in
    let g = ap length b in
    omega (arith, length-take {A = ℕ}, length-drop {A = ℕ})

pub overflow_add-result : goal.overflow_add-result
overflow_add-result c =
    let h = bounded c.args.text.now c.between.result.now c.first_line-line.result.now c.start_of-start.result c.reach.result c.start_of-start.ensures.within c.between.ensures c.first_line-line.ensures c.reach.ensures.within in
    search (rules, h)

pub returns-clause-within : goal.returns-clause-within
returns-clause-within c =
    bounded c.args.text.now c.between.result.now c.first_line-line.result.now c.start_of-start.result c.reach.result c.start_of-start.ensures.within c.between.ensures c.first_line-line.ensures c.reach.ensures.within
