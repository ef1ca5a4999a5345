use Rattle.std.proofs.Common.{◌≡◌, refl, length, ap, sym, ◌∙◌, true, false, rules}
use Rattle.promela_session.specs.Lines.{trimmed, is_quit, first_word, behind_word, number_up_to}
use Rattle.promela_session.specs.Session.{place_of_move}
use Rattle.session.proofs.WordParts.{reply_quit, reply_none, reply_some, place_is, both_are, first_not, second_not}
use Rattle.session.proofs.choice.placed_reply.Goals as goal
use Rattle.session.proofs.choice.placed_reply.Goals.{else-writes-via-then-writes+else-writes-2, else-writes-via-else-writes}

pub returns-then-is_quit-clause-value : goal.returns-then-is_quit-clause-value
returns-then-is_quit-clause-value g c =
    let word : c.trim_end-word.result.now ≡ trimmed c.args.line.now = search rules in
    reply_quit _ _ c.args.line.now (sym (c.is_quit.ensures ∙ ap is_quit word) ∙ c.if-is_quit.true)

pub returns-in_default-clause-value : goal.returns-in_default-clause-value
returns-in_default-clause-value g c =
    let word : c.trim_end-word.result.now ≡ trimmed c.args.line.now = search rules in
    reply_none _ _ c.args.line.now (sym (c.is_quit.ensures ∙ ap is_quit word) ∙ c.if-is_quit.false)
    (sym (c.parse_number.ensures.value ∙ ap (number_up_to (length c.args.moves.now)) (c.parted.ensures.word ∙ ap first_word word)) ∙ c.in_default.is)

pub returns-then-writes-2-clause-value : goal.returns-then-writes-2-clause-value
returns-then-writes-2-clause-value g c =
    let word : c.trim_end-word.result.now ≡ trimmed c.args.line.now = search rules in
    let place = place_is g.M.Machine.rules c.args.machine.now c.args.moves.now c.in-Some.n c.index-moves-n.result _ c.in-Some.ensures.range c.index-moves-n.is c.origin-process.ensures in
    reply_some _ (place_of_move g.M.Machine.rules c.args.machine.now c.args.moves.now) c.args.line.now c.in-Some.n (sym (c.is_quit.ensures ∙ ap is_quit word) ∙ c.if-is_quit.false)
    (sym (c.parse_number.ensures.value ∙ ap (number_up_to (length c.args.moves.now)) (c.parted.ensures.word ∙ ap first_word word)) ∙ c.in-Some.is) true
    (both_are _ _ _ _ _ _ word place (c.parted-2.ensures.word ∙ ap first_word c.parted.ensures.rest) (c.parted-2.ensures.rest ∙ ap behind_word c.parted.ensures.rest) (sym c.writes.ensures ∙ c.if-writes.true) (sym c.writes-then-writes.ensures ∙ c.if-writes-2.true))

pub returns-clause-value : goal.returns-clause-value
returns-clause-value g c =
    let word : c.trim_end-word.result.now ≡ trimmed c.args.line.now = search rules in
    let place = place_is g.M.Machine.rules c.args.machine.now c.args.moves.now c.in-Some.n c.index-moves-n.result _ c.in-Some.ensures.range c.index-moves-n.is c.origin-process.ensures in
    let p_is = c.parted-2.ensures.word ∙ ap first_word c.parted.ensures.rest in
    reply_some _ (place_of_move g.M.Machine.rules c.args.machine.now c.args.moves.now) c.args.line.now c.in-Some.n (sym (c.is_quit.ensures ∙ ap is_quit word) ∙ c.if-is_quit.false)
    (sym (c.parse_number.ensures.value ∙ ap (number_up_to (length c.args.moves.now)) (c.parted.ensures.word ∙ ap first_word word)) ∙ c.in-Some.is) false
    (elim c.else-writes.branch [
      | else-writes-via-then-writes+else-writes-2 w ↦ second_not _ _ _ _ _ _ word place p_is (c.parted-2.ensures.rest ∙ ap behind_word c.parted.ensures.rest) (sym c.writes.ensures ∙ w.if-writes.true) (sym w.writes-then-writes.ensures ∙ w.if-writes-2.false)
      | else-writes-via-else-writes w ↦ first_not _ _ _ _ _ _ word place p_is refl (sym c.writes.ensures ∙ w.if-writes.false)
    ])
