use Rattle.std.proofs.Common.{subst, Bool, ℕ, List, ◌++◌, ◌∷◌, []}
use Rattle.json.specs.Token.{Token, end_object}
use Rattle.view_text.specs.Written.{Adds}
use Rattle.view_text.proofs.Writing.{chained as one_by_one}
use Rattle.view_tokens.specs.Printed.{Writes}
use Rattle.view_json.specs.Lines.{line, ReadsBack, ended, stuck_where, is_own, open_moves}
use Rattle.view_json.specs.Choices.{told_choices}
use Rattle.view_json.specs.Added.{told_past}
use Rattle.view_json.proofs.Writing.{chained, behind}
use Rattle.view_json.proofs.Stepped.{printed_as, as_printable, not_refused}
use Rattle.view_json.proofs.Ended.{ended_line, before_past, regrouped, ended_back}
use Rattle.view_json.proofs.lines.add_end.Goals as goal

pub returns : goal.returns
returns c =
    let s = c.args.live.now.state in
    let ms = c.args.moves.now in
    let told = c.told_choices.ensures in
    let past = c.add_past.ensures in
    let before = ended c.args.steps c.args.end.now ++ (stuck_where s (is_own c.args.end.now) ++ (open_moves s ms ++ told_choices _ s ms told.0)) in
    let rest = chained _ _ _ _ _ (subst (λ (b : Bool). Writes c.ended-json.result c.stuck_where.new.json (stuck_where s b)) c.is_own.ensures c.stuck_where.ensures)
    (chained _ _ _ _ _ c.open_moves.ensures told.2) in
    let first = behind _ _ _ _ c.ended-json.ensures rest in
    let whole = regrouped (ended c.args.steps c.args.end.now) (stuck_where s (is_own c.args.end.now)) (open_moves s ms) (told_choices _ s ms told.0) (told_past past.0) (end_object ∷ []) in (
      told.0,
      past.0,
      told.1,
      (
        subst (λ (ts : List Token). Adds c.args.out.now c.add.new.self (line ts)) whole
            (subst (Adds c.args.out.now c.add.new.self) (ended_line before (told_past past.0) (before_past s c.args.steps c.args.end.now (is_own c.args.end.now) _ ms told.0))
            (one_by_one _ _ _ _ _ (printed_as _ _ _ before first c.finish.ensures.written c.finish.ensures.refused) (one_by_one _ _ _ _ _ past.1 c.add.ensures))),
        λ calm.
            let later = not_refused c.add_past.new.out c.add.new.self c.add.ensures.stays calm in
            let sooner = not_refused c.finish.new.out c.add_past.new.out past.1.stays later in
            subst ReadsBack whole
            (ended_back before (told_past past.0) (as_printable c.finish.new.out _ before first c.finish.ensures.printable c.finish.ensures.refused sooner) (past.2 later)),
      ),
    )
