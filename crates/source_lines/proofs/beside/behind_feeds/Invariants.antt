-- what is left of the text
use Rattle.std.proofs.Common.{◌≡◌, drop}
use Rattle.source_lines.specs.Beside.{behind_feeds}
use Rattle.source_lines.proofs.beside.behind_feeds.Given as goal

abbrev pub invariant-loop-at : goal.invariant-loop-at
invariant-loop-at l = behind_feeds (drop l.at l.text) l.left ≡ behind_feeds l.text l.feeds
