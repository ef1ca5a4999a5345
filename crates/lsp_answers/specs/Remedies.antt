-- What mends a refusal that touches the part of a text that a request names (LSP 3.17, code actions).
use Rattle.std.specs.Prelude.{◌≡◌, Option, Some, codes, option_and_then}
use Rattle.serde_json.specs.Data.{Data}
use Rattle.serde_json.specs.Find.{get}
use Rattle.lsp_results.specs.declared.page.Page.{Page}
use Rattle.lsp_results.specs.declared.colours.AskedPart.{AskedPart}
use Rattle.lsp_results.specs.Actions.{AreActions}
use Rattle.lsp_answers.specs.Colours.{part_in}

-- the part that a request names
abbrev pub part_asked : Page → Data → Option AskedPart
part_asked page m = option_and_then (part_in page) (get (codes "params") m)

pub record AreRemedies (page : Page) (m d : Data) : Type 0 where
  pub part : AskedPart
  pub is_asked : part_asked page m ≡ Some part
  pub told : AreActions page d
