use Rattle.std.proofs.Common.{◌≡◌, ◌≤◌, drop, take, count_by}
use Rattle.promela_text.specs.Tokens.{is_line_feed, fresh_from}
use Rattle.pml_lex.proofs.behind.Given as goal

abbrev pub invariant-loop-b : goal.invariant-loop-b
invariant-loop-b l = (l.passed.line_feeds ≡ count_by is_line_feed (take l.b-index l.text)) × (l.passed.line_feeds ≤ l.b-index) × (fresh_from l.passed.fresh (drop l.b-index l.text) ≡ fresh_from l.initial.fresh l.text)
