use Rattle.std.proofs.Common.{rules, ◌≡◌, ◌<◌, ◌++◌, ◌^◌, List, ℕ, OnOk, subst, codes}
use Rattle.std.specs.Fmt.{decimal}
use Rattle.session.proofs.Written.{decimal_is, record_readable}
use Rattle.session.proofs.draft.draft_record.Goals as goal

pub returns-clause-line : goal.returns-clause-line
returns-clause-line c =
    let small : c.args.n < 2 ^ 64 = search rules in
    let line : OnOk c.add_line.result (c.add_line.new.piece.items ≡ decimal c.args.n ++ codes "\n") = search rules in
    subst (λ (ds : List ℕ). OnOk c.add_line.result (c.add_line.new.piece.items ≡ ds ++ codes "\n")) (decimal_is c.args.n small) line

pub returns-clause-short : goal.returns-clause-short
returns-clause-short c = record_readable c.args.n (search rules)
