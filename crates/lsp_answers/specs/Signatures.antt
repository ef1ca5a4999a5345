-- What is called at the place that a request names (LSP 3.17, signature help).
use Rattle.std.specs.Prelude.{◌≡◌, ℕ, Some}
use Rattle.serde_json.specs.Data.{Data}
use Rattle.lsp_results.specs.declared.page.Page.{Page}
use Rattle.lsp_results.specs.Help.{IsHelp}
use Rattle.lsp_answers.specs.Completions.{offset_asked}

pub record IsSigned (page : Page) (m d : Data) : Type 0 where
  pub at : ℕ
  pub is_asked : offset_asked page m ≡ Some at
  pub told : IsHelp page at d
