use Rattle.serde_json.specs.View.{view}
use Rattle.serde_json.specs.declared.value.Value.{Null}
use Rattle.lsp_results.proofs.Helping.{null_view, unknown_by, nowhere_by, called_by}
use Rattle.lsp_results.proofs.signatures.signature.Goals as goal

pub returns-in-Err : goal.returns-in-Err
returns-in-Err c = unknown_by c.args.page c.args.offset c.between.result.now c.in-Err.field-0 (view Null) c.between.ensures c.in-Err.ensures.err null_view

pub returns-in-Some : goal.returns-in-Some
returns-in-Some c =
    called_by c.args.page c.args.offset c.between.result.now c.in-Ok.tokens.items c.deref.result.now c.in-Some.call c.of_call.result c.between.ensures
    c.in-Ok.ensures.ok c.deref.ensures.value c.in-Some.ensures c.of_call.ensures

pub returns : goal.returns
returns c =
    nowhere_by c.args.page c.args.offset c.between.result.now c.in-Ok.tokens.items c.deref.result.now (view Null) c.between.ensures c.in-Ok.ensures.ok
    c.deref.ensures.value c.in-None.ensures null_view
