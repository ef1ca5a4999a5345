use Rattle.view_text.proofs.Writing.{item_more}
use Rattle.view_json.specs.Objects.{form_token}
use Rattle.view_json.proofs.Writing.{chain}
use Rattle.view_json.proofs.channel.form_names.Goals as goal

pub loop-form-preserved : goal.loop-form-preserved
loop-form-preserved c =
    chain _ _ _ _ _ _ c.loop-form.invariant c.form_name.ensures (item_more form_token c.args.types.now c.loop-form.form-index _ c.loop-form-test.true)
