use Rattle.std.proofs.Common.{map}
use Rattle.serde_json.specs.View.{view}
use Rattle.lsp_completions.proofs.Offering.{words_by}
use Rattle.lsp_completions.proofs.wishes.some_words.Goals as goal

pub returns : goal.returns
returns c = words_by c.args.typed.now (map (λ w. w.now) c.args.some.now) (λ l. map view l.items) c.words.result c.words.ensures
