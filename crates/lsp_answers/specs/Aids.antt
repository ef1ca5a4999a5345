-- What helps one to read or write a text, and what is answered (LSP 3.17).
use Rattle.std.specs.Prelude.{◌≡◌, ℕ, if◌then◌else◌, List, Option, Some, None, codes}
use Rattle.std.specs.Str.{bytes_eq}
use Rattle.serde_json.specs.Data.{Data, null}
use Rattle.lsp_results.specs.declared.page.Page.{Page}
use Rattle.lsp_results.specs.Lines.{AreFolds}
use Rattle.lsp_answers.specs.declared.colours.AskedExtent.{AskedExtent}
use Rattle.lsp_answers.specs.declared.aids.Aid.{Aid}
use Rattle.lsp_answers.specs.declared.aids.Aid.TheVariants.{Colours, Folds, Completion, Signature, Remedies}
use Rattle.lsp_answers.specs.Colours.{extent_of, AreTold}
use Rattle.lsp_answers.specs.Completions.{IsCompleted}
use Rattle.lsp_answers.specs.Remedies.{AreRemedies}
use Rattle.lsp_answers.specs.Signatures.{IsSigned}

abbrev pub coloured_by : Option AskedExtent → Option Aid
coloured_by None = None
coloured_by (Some e) = Some (Colours e)

-- what a method asks for
abbrev pub aid_of : List ℕ → Option Aid
aid_of m =
    if bytes_eq m (codes "textDocument/foldingRange") then Some Folds
    else if bytes_eq m (codes "textDocument/completion") then Some Completion
    else if bytes_eq m (codes "textDocument/signatureHelp") then Some Signature
    else if bytes_eq m (codes "textDocument/codeAction") then Some Remedies
    else coloured_by (extent_of m)

-- the parts of a text that are folded: nothing of one that cannot be cut into tokens
pub data IsFolded (page : Page) (d : Data) : Type 0 where
  nothing : d ≡ null → IsFolded page d
  folded : AreFolds page d → IsFolded page d

-- What is answered to one who asks for that.
abbrev pub IsAid : Aid → Page → Data → Data → Type 0
IsAid (Colours e) page m d = AreTold e page m d
IsAid Folds page m d = IsFolded page d
IsAid Completion page m d = IsCompleted page m d
IsAid Signature page m d = IsSigned page m d
IsAid Remedies page m d = AreRemedies page m d
