use Rattle.std.proofs.Common.{ℕ, ◌+◌, [], ap, ◌∙◌, length, true}
use Rattle.std.specs.Prelude.{count_by}
use Rattle.promela_text.specs.Tokens.{is_line_feed}
use Rattle.prepare.specs.Contexts.{start}
use Rattle.prepare.specs.Stretches.{stretches}
use Rattle.prepare.specs.Spelling.{spelled}
use Rattle.prepare.specs.Numbering.{bare, numbered, first_standing}
use Rattle.prepare.specs.Coding.{coded}
use Rattle.prepare.proofs.Lines.{asked_is, coded_feeds, spelled_feeds}
use Rattle.prepare.proofs.Plain.{sources_are}
use Rattle.prepare.proofs.Changing.{exchanged_feeds}
use Rattle.prepare.proofs.laws.lines_are_those_asked.Goals as goal

pub returns : goal.returns
returns c = λ text.
    let lines = numbered (bare text) in
    let numbers = coded lines in
    ap (λ (n : ℕ). 1 + n) (exchanged_feeds (spelled (stretches numbers)) ∙ spelled_feeds (stretches numbers) ∙ ap (count_by is_line_feed) (sources_are (length numbers) true start [] numbers) ∙ coded_feeds (length lines) true lines) ∙ asked_is (length (bare text)) first_standing (bare text)
