use Rattle.std.proofs.Common.{refl}
use Rattle.lsp_completions.specs.Readables.{uncut}
use Rattle.lsp_completions.proofs.Offering.{cut_by}
use Rattle.lsp_completions.proofs.readable.length_behind.Goals as goal

pub returns-in-Ok : goal.returns-in-Ok
returns-in-Ok c =
    cut_by c.args.rest.now c.gap_end.result c.in-Ok.tokens.items c.deref.result.now c.in-Ok.ensures.ok c.deref.ensures.value c.gap_end.ensures

pub returns-in-Err : goal.returns-in-Err
returns-in-Err c = uncut c.in-Err.field-0 c.in-Err.ensures.err refl
