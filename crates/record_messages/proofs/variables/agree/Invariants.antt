use Rattle.std.proofs.Common.{◌≡◌, length}
use Rattle.record_messages.specs.Variables.{agree}
use Rattle.record_messages.proofs.variables.agree.Given as goal

abbrev pub invariant-loop-rest : goal.invariant-loop-rest
invariant-loop-rest l = agree l.rest l.name l.word ≡ agree l.variables l.name l.word

abbrev pub decreases-loop-rest : goal.decreases-loop-rest
decreases-loop-rest l = length l.rest
