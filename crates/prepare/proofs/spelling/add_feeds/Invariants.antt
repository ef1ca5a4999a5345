use Rattle.std.proofs.Common.{◌≡◌, ◌++◌, take}
use Rattle.std.specs.List.{filter}
use Rattle.promela_text.specs.Tokens.{is_line_feed}
use Rattle.prepare.proofs.spelling.add_feeds.Given as goal

abbrev pub invariant-loop-b : goal.invariant-loop-b
invariant-loop-b l = l.out.items ≡ l.initial.out.items ++ filter is_line_feed (take l.b-index l.token)
