use Rattle.view_text.specs.Written.{Stays}
use Rattle.view_chart.proofs.row.ChartRow.living.Given as goal

abbrev pub invariant-loop-turn : goal.invariant-loop-turn
invariant-loop-turn l = Stays l.fn.self.text l.self.text
