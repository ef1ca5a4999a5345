use Rattle.std.proofs.Common.{◌≡◌, List, IfOk, subst}
use Rattle.declared_names.specs.declared.declared.Declaration.{Declaration}
use Rattle.declared_names.proofs.Known.{found_is, sites_are, labels_are, declared_is}
use Rattle.declared_names.proofs.declared.declared.Goals as goal

pub returns : goal.returns
returns c =
    let ms = c.args.marks.now in
    let is = declared_is ms _ _ _ (found_is ms _ c.in_ok-names.ensures.table) (sites_are ms _ c.in_ok-sites.ensures) (labels_are ms _ c.in_ok-labels.ensures) in
    subst (λ (xs : List Declaration). IfOk c.by_tables.result (λ ds. ds.items ≡ xs)) is c.by_tables.ensures
