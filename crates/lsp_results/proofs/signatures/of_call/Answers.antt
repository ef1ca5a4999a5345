use Rattle.lsp_results.specs.Help.{uncut}
use Rattle.lsp_results.proofs.Helping.{null_view, defined_by}
use Rattle.lsp_results.proofs.signatures.of_call.Goals as goal

pub returns-in-Err : goal.returns-in-Err
returns-in-Err c = uncut c.in-Err.field-0 c.in-Err.ensures.err null_view

pub returns : goal.returns
returns c =
    defined_by c.args.page c.args.call c.name_in.result.now c.in-Ok.tokens.items c.deref.result.now c.definition-definition.result.now c.help_by.result
    c.in-Ok.ensures.ok c.deref.ensures.value c.name_in.ensures c.definition-definition.ensures c.help_by.ensures
