use Rattle.std.proofs.Common.{ap, subst, ℕ, length, codes}
use Rattle.view_text.specs.Written.{Adds}
use Rattle.view_text.proofs.Writing.{chained}
use Rattle.view_tokens.specs.Printed.{Writes}
use Rattle.view_json.specs.Objects.{count, member}
use Rattle.view_json.specs.Steps.{counts}
use Rattle.view_json.proofs.Writing.{chained as also}
use Rattle.view_json.proofs.Differing.{finished, written_printable}
use Rattle.view_json.proofs.Stepped.{counts_text}
use Rattle.view_json.proofs.steps.add_counts.Goals as goal

numbers : (c : goal.After-finish) → Writes c.new-json.result c.noted.new.json (counts c.args.live.now.state c.args.step c.args.note)
numbers c =
    also _ _ _ _ _ (subst (λ (n : ℕ). Writes c.new-json.result c.number.new.json (member (codes "alive") (count n))) c.process_count.ensures.value c.number.ensures)
    (also _ _ _ _ _ (subst (λ (n : ℕ). Writes c.number.new.json c.number-2.new.json (member (codes "open") (count n))) (ap length c.channels.ensures) c.number-2.ensures)
    (also _ _ _ _ _ c.same.ensures c.noted.ensures))

pub returns-clause-written : goal.returns-clause-written
returns-clause-written c =
    subst (Adds c.args.out.now c.finish.new.out) (counts_text c.args.live.now.state c.args.step c.args.note)
    (chained _ _ _ _ _ c.add.ensures
    (finished _ _ _ _ (counts c.args.live.now.state c.args.step c.args.note) c.new-json.ensures (numbers c) c.finish.ensures.written c.finish.ensures.refused))

pub returns-clause-printable : goal.returns-clause-printable
returns-clause-printable c calm =
    written_printable c.finish.new.out _ _ (counts c.args.live.now.state c.args.step c.args.note) c.new-json.ensures (numbers c) c.finish.ensures.printable
    c.finish.ensures.refused calm
