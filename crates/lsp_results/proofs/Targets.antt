-- The name that is to be renamed, as it is told.
use Rattle.std.proofs.Common.{◌≡◌, ℕ, Option, Some, IfOk, IfSome, Ok, Err, subst}
use Rattle.std.specs.Prelude.{Result}
use Rattle.serde_json.specs.View.{view}
use Rattle.serde_json.specs.declared.value.Value.{Value}
use Rattle.declared_names.specs.declared.occurrence.Occurrence.{Occurrence}
use Rattle.model_names.specs.declared.names.TextNames.{TextNames}
use Rattle.model_names.specs.Found.{name_at}
use Rattle.lsp_results.specs.declared.page.Page.{Page}
use Rattle.lsp_results.specs.Places.{range_of}
use Rattle.lsp_results.specs.Renames.{IsTarget, is_name}

pub found_there : (names : TextNames) (offset : ℕ) (r : Option Occurrence) (o : Occurrence) → r ≡ Some o → IfSome r (λ f. name_at names offset ≡ Some f)
    → name_at names offset ≡ Some o
found_there names offset r o is h = subst (λ (x : Option Occurrence). IfSome x (λ f. name_at names offset ≡ Some f)) is h

pub target_of : {E : Type 0} (page : Page) (names : TextNames) (offset : ℕ) (o : Occurrence) → name_at names offset ≡ Some o → (r : Result Value E)
    → IfOk r (λ v. view v ≡ range_of page o.length o.at) → IfOk r (λ v. IsTarget page names offset (view v))
target_of page names offset o there (Err e) h = tt
target_of page names offset o there (Ok v) h = is_name o there h
