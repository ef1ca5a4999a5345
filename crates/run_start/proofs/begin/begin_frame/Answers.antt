use Rattle.std.proofs.Common.{◌∙◌, [], refl, sym, ap}
use Rattle.std.proofs.lemmas.List.{append-nil}
use Rattle.promela_run.specs.State.{State}
use Rattle.run_start.specs.Shown.{shown}
use Rattle.run_start.proofs.Shapes.{frame_sizes, added_shape, same_sorts, OnOk-always}
use Rattle.run_start.proofs.begin.begin_frame.Goals as goal

pub begin_variables-requires-clause-there : goal.begin_variables-requires-clause-there
begin_variables-requires-clause-there c =
    frame_sizes c.args.slots.now c.args.started.now c.add_frame.new.started c.in_ok-add_frame.ensures.value c.requires.next

pub returns-clause-sizes : goal.returns-clause-sizes
returns-clause-sizes c =
    OnOk-always c.begin_variables.result (c.begin_variables.ensures.keeps.shape ∙ added_shape c.args.slots.now (shown c.args.started.now) (shown c.add_frame.new.started) c.in_ok-add_frame.ensures.value)

pub returns-clause-sorts : goal.returns-clause-sorts
returns-clause-sorts c =
    c.begin_variables.ensures.keeps.sorts
    ∙ same_sorts c.add_frame.new.started c.args.started.now [] [] (ap (λ (x : State). x.stands) c.in_ok-add_frame.ensures.value ∙ sym (append-nil (shown c.args.started.now).stands)) refl
    ∙ append-nil c.args.started.now.sorts.items
