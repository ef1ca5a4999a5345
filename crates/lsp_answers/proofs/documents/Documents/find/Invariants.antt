use Rattle.std.proofs.Common.{◌≡◌, drop, find}
use Rattle.lsp_answers.specs.Questions.{is_named}
use Rattle.lsp_answers.proofs.documents.Documents.find.Given as goal

abbrev pub invariant-loop-document : goal.invariant-loop-document
invariant-loop-document l = find (is_named l.uri) (drop l.document-index l.self.all.items) ≡ find (is_named l.uri) l.self.all.items
