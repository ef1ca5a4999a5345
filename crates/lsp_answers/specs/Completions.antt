-- What may be typed at the place that a request names (LSP 3.17, completion).
use Rattle.std.specs.Prelude.{◌≡◌, ℕ, Option, Some, codes, option_and_then}
use Rattle.serde_json.specs.Data.{Data}
use Rattle.serde_json.specs.Find.{get}
use Rattle.lsp_results.specs.declared.page.Page.{Page}
use Rattle.lsp_completions.specs.Wishes.{IsCompletion}
use Rattle.lsp_answers.specs.Questions.{offset_in}

-- the place that a request names
abbrev pub offset_asked : Page → Data → Option ℕ
offset_asked page m = option_and_then (offset_in page) (get (codes "params") m)

pub record IsCompleted (page : Page) (m d : Data) : Type 0 where
  pub at : ℕ
  pub is_asked : offset_asked page m ≡ Some at
  pub told : IsCompletion page at d
