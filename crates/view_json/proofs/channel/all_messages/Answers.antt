use Rattle.std.proofs.Common.{◌∙◌, ◌++◌, ap, sym, subst, ℤ, List, take}
use Rattle.std.specs.List.{flat_map}
use Rattle.std.proofs.lemmas.Option.{get_or_from_slice_get, slice_get_within}
use Rattle.pml_program.specs.declared.form.Form.{Form}
use Rattle.view_text.proofs.Writing.{item_more}
use Rattle.view_tokens.specs.Printed.{Writes}
use Rattle.view_json.specs.Objects.{message}
use Rattle.view_json.proofs.Writing.{chain}
use Rattle.view_json.proofs.channel.all_messages.Goals as goal

pub loop-place-preserved : goal.loop-place-preserved
loop-place-preserved c =
    let pr = c.args.live.now.state.program in
    let ms : List (List ℤ) = c.args.channel.now.messages in
    let f = message pr c.args.channel.now.types in
    let i = c.loop-place.place in
    let x : List ℤ = c.message.result.now in
    chain _ _ _ _ _ _ c.loop-place.invariant
    (subst (λ (ts : List Form). Writes c.loop-place.json c.message-in-loop-place.new.json (message pr ts x)) c.types.ensures c.message-in-loop-place.ensures)
    (ap (λ (y : List ℤ). flat_map f (take i ms) ++ f y) (sym (get_or_from_slice_get ms i x x c.message.ensures.value))
    ∙ item_more f ms i x (slice_get_within ms i x c.message.ensures.value))
