use Rattle.std.proofs.Common.{rules, arith, ◌≡◌, ◌<◌, ◌++◌, ◌^◌, List, ℕ, OnOk, subst, codes}
use Rattle.std.specs.Fmt.{decimal}
use Rattle.session.proofs.Written.{placed_text, placed_readable}
use Rattle.session.proofs.draft.draft_placed.Goals as goal

pub returns-clause-line : goal.returns-clause-line
returns-clause-line c =
    let small : c.args.n < 2 ^ 64 = search rules in
    let small_process : c.args.process < 2 ^ 64 = omega arith in
    let small_line : c.args.line < 2 ^ 64 = omega arith in
    let text : OnOk c.add_placed.result (c.add_placed.new.piece.items ≡ decimal c.args.n ++ (codes " " ++ (decimal c.args.process ++ (codes " " ++ (decimal c.args.line ++ codes "\n"))))) = search rules in
    subst (λ (ds : List ℕ). OnOk c.add_placed.result (c.add_placed.new.piece.items ≡ ds)) (placed_text c.args.n c.args.process c.args.line small small_process small_line) text

pub returns-clause-short : goal.returns-clause-short
returns-clause-short c = placed_readable c.args.n c.args.process c.args.line (search rules) (search rules) (search rules)
