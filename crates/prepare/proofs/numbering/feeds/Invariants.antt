use Rattle.std.proofs.Common.{◌≡◌, ◌≤◌, take, count_by}
use Rattle.promela_text.specs.Tokens.{is_line_feed}
use Rattle.prepare.proofs.numbering.feeds.Given as goal

abbrev pub invariant-loop-b : goal.invariant-loop-b
invariant-loop-b l = (l.count ≡ count_by is_line_feed (take l.b-index l.text)) × (l.count ≤ l.b-index)
