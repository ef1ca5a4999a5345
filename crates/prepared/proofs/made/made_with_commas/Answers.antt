use Rattle.std.proofs.Common.{IfOk, List, ℕ, ◌∙◌, subst}
use Rattle.declared_steps.specs.Writing.{stepped}
use Rattle.listed_values.specs.Writing.{valued}
use Rattle.record_messages.specs.Writing.{recorded}
use Rattle.prepared.specs.Made.{rewritten, IsDivided}
use Rattle.prepared.proofs.made.made_with_commas.Goals as goal

pub returns-clause-made : goal.returns-clause-made
returns-clause-made c =
    subst (λ (xs : List ℕ). IfOk c.made_of.result (λ m. IsDivided (recorded (stepped (valued (rewritten xs)))) m.text.items))
    (c.deref.ensures.value ∙ c.in_ok-punctuated.ensures.text) c.made_of.ensures.made
