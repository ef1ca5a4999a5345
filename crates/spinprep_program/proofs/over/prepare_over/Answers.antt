use Rattle.std.proofs.Common.{ℕ, List, subst, inr}
use Rattle.std.specs.Io.KnownBytes.{Appends}
use Rattle.spinprep_program.specs.Over.{IsBegun}
use Rattle.spinprep_program.proofs.over.prepare_over.Goals as goal

pub returns-in-Ok-put-clause-whole : goal.returns-in-Ok-put-clause-whole
returns-in-Ok-put-clause-whole g c = record {
  prepared = c.in-Ok.ensures;
  written = subst (λ (t : List ℕ). Appends (g.W.Write.contents c.args.out.now) (g.W.Write.contents c.put.new.out) t) c.as_slice.ensures.value c.in-Ok-put.ensures.whole;
}

pub returns-in-Err-put-clause-begun : goal.returns-in-Err-put-clause-begun
returns-in-Err-put-clause-begun g c = inr record {
  p = c.in-Ok.prepared;
  prepared = c.in-Ok.ensures;
  begun = subst (λ (t : List ℕ). IsBegun (g.W.Write.contents c.args.out.now) (g.W.Write.contents c.put.new.out) t) c.as_slice.ensures.value c.in-Err-put.ensures.begun;
}
