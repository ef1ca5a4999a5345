use Rattle.lsp_results.proofs.Targets.{found_there, target_of}
use Rattle.lsp_results.proofs.renames.target.Goals as goal

pub returns-in-Some : goal.returns-in-Some
returns-in-Some c =
    let there = found_there c.args.names.now c.args.offset c.in_ok-found.field-0 c.in-Some.found c.in-Some.is c.in_ok-found.ensures in
    target_of c.args.page c.args.names.now c.args.offset c.in-Some.found there c.range.result c.range.ensures
