use Rattle.std.proofs.Common.{subst}
use Rattle.std.proofs.lemmas.Result.{IfOk-at_ok}
use Rattle.std.specs.Prelude.{ℕ, List}
use Rattle.model_verdicts.specs.Renamed.{IsRenaming}
use Rattle.lsp_results.proofs.renames.rename.Goals as goal

pub returns-in_ok-told-in-Ok : goal.returns-in_ok-told-in-Ok
returns-in_ok-told-in-Ok c =
    let is = IfOk-at_ok (IsRenaming c.args.page.text.now c.as_bytes.result.now) c.in-Ok.is c.in_ok-renaming.ensures in
    record {
      renaming = c.in-Ok.renaming;
      is_renaming = subst (λ (n : List ℕ). IsRenaming c.args.page.text.now n c.in-Ok.renaming) c.as_bytes.ensures.value is;
      told = c.in_ok-told-in-Ok.ensures;
    }
