use Rattle.std.proofs.Common.{◌≡◌, List, ℕ, ap, ◌∙◌, subst}
use Rattle.prepare.specs.Numbering.{bare, numbered}
use Rattle.prepare.specs.Coding.{coded}
use Rattle.prepare.specs.Stretches.{stretches}
use Rattle.prepare.specs.Spelling.{spelled}
use Rattle.prepare.specs.Laws.{lined, separated, exchanged}
use Rattle.computed_sizes.specs.Resizing.{resized}
use Rattle.declared_steps.specs.Writing.{stepped}
use Rattle.listed_values.specs.Writing.{valued}
use Rattle.record_messages.specs.Writing.{recorded}
use Rattle.prepared.specs.Made.{IsDivided}
use Rattle.prepared.proofs.made.made_of.Goals as goal

pub returns-clause-made : goal.returns-clause-made
returns-clause-made c =
    let text : List ℕ = c.args.text.now in
    let lines : c.deref.result.now ≡ numbered (bare text) = c.deref.ensures.value ∙ c.in_ok-lines.ensures in
    let numbers : c.deref-2.result.now ≡ lined text = c.deref-2.ensures.value ∙ (c.in_ok-numbers.ensures ∙ ap coded lines) in
    let written : c.deref-3.result.now ≡ separated text =
    c.deref-3.ensures.value ∙ (c.in_ok-separated.ensures.text ∙ ap (λ (xs : List ℕ). spelled (stretches xs)) numbers) in
    let sized : c.deref-4.result.now ≡ resized (separated text) = c.deref-4.ensures.value ∙ (c.in_ok-sized.ensures ∙ ap resized written) in
    subst (λ (xs : List ℕ). IsDivided (recorded (stepped (valued (exchanged xs)))) c.in_ok-text.field-0.text.items) sized c.in_ok-text.ensures
