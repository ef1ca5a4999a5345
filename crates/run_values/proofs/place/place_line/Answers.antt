use Rattle.std.proofs.Common.{rules, append_assoc}
use Rattle.run_values.proofs.Keeping.{front, behind, refused}
use Rattle.run_values.proofs.place.place_line.Goals as goal

pub returns-in_err-worth-clause-kept : goal.returns-in_err-worth-clause-kept
returns-in_err-worth-clause-kept c =
    refused c.from_residual-in_err-worth.result c.worth.new.text.items c.args.text.now.items
    (behind c.worth.new.text.items c.extend_from_slice.new.self.items c.args.text.now.items c.in_err-worth.ensures.kept (simp (c.in_ok-extend_from_slice.ensures.items, c.in_ok-path.ensures.added, append_assoc, front)))

pub returns-clause-added : goal.returns-clause-added
returns-clause-added c = search (rules, append_assoc)
