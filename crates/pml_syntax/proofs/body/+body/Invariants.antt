use Rattle.std.proofs.Common.{◌≡◌, length, [], ◌+◌, ◌-◌, ◌*◌, false}
use Rattle.pml_syntax.specs.ReadingStatements as reading
use Rattle.pml_syntax.proofs.body.+body.Given as goal

abbrev pub decreases-basic : goal.decreases-basic
decreases-basic l = 11 * l.depth + 5

abbrev pub decreases-body : goal.decreases-body
decreases-body l = 11 * l.depth

abbrev pub decreases-braces : goal.decreases-braces
decreases-braces l = 11 * l.depth + 2

abbrev pub decreases-choice : goal.decreases-choice
decreases-choice l = 11 * l.depth + 4

abbrev pub decreases-turns : goal.decreases-turns
decreases-turns l = 11 * l.depth + 4

abbrev pub decreases-embraced : goal.decreases-embraced
decreases-embraced l = 11 * l.depth + 3

abbrev pub decreases-escape : goal.decreases-escape
decreases-escape l = 11 * l.depth + 7

abbrev pub decreases-for_loop : goal.decreases-for_loop
decreases-for_loop l = 11 * l.depth + 3

abbrev pub decreases-item : goal.decreases-item
decreases-item l = 11 * l.depth + 9

abbrev pub decreases-items : goal.decreases-items
decreases-items l = 11 * l.depth + 10

abbrev pub decreases-option_list : goal.decreases-option_list
decreases-option_list l = 11 * l.depth + 2

abbrev pub decreases-options : goal.decreases-options
decreases-options l = 11 * l.depth + 3

abbrev pub decreases-seq : goal.decreases-seq
decreases-seq l = 11 * l.depth + 1

abbrev pub decreases-statement : goal.decreases-statement
decreases-statement l = 11 * l.depth + 6

abbrev pub decreases-stepped : goal.decreases-stepped
decreases-stepped l = 11 * l.depth + 8

abbrev pub invariant-option_list-loop-turn : goal.invariant-option_list-loop-turn
invariant-option_list-loop-turn l =
    reading.options_from l.depth (reading.items l.depth) (length l.fn.tokens) [] l.fn.tokens ≡ reading.options_from l.depth (reading.items l.depth) (l._turn-end - l._turn) l.found l.tokens

abbrev pub invariant-items-loop-turn : goal.invariant-items-loop-turn
invariant-items-loop-turn l =
    reading.items_from l.depth (reading.items l.depth) (length l.fn.tokens) false [] l.fn.tokens ≡ reading.items_from l.depth (reading.items l.depth) (l._turn-end - l._turn) l.step l.found l.tokens
