use Rattle.std.proofs.Common.{ℕ, List, subst, arith}
use Rattle.mtype_commas.specs.Writing.{punctuated}
use Rattle.declared_steps.specs.Writing.{stepped}
use Rattle.listed_values.specs.Writing.{valued}
use Rattle.record_messages.specs.Writing.{recorded}
use Rattle.prepared.specs.Made.{rewritten, IsDivided, TellsTokens}
use Rattle.prepared.proofs.made.prepared_from.Goals as goal

pub returns : goal.returns
returns c = record {
  short = omega arith;
  made = subst (λ (xs : List ℕ). IsDivided (recorded (stepped (valued (rewritten (punctuated xs))))) c.in_ok-made.made.text.items) c.deref-2.ensures.value c.in_ok-made.ensures.made;
  told = subst (λ (xs : List ℕ). TellsTokens c.in_ok-made.made.is_left (punctuated xs)) c.deref-2.ensures.value c.in_ok-made.ensures.told;
}
