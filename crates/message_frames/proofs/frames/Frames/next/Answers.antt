use Rattle.std.proofs.Common.{rules, ◌≡◌}
use Rattle.message_frames.specs.declared.front.Front.TheVariants.{Message, Bad}
use Rattle.message_frames.specs.Front.{front_of}
use Rattle.message_frames.proofs.Fronts.{message_answer, bad_is_why}
use Rattle.message_frames.proofs.frames.Frames.next.Goals as goal

pub returns-in-Message-clause-message : goal.returns-in-Message-clause-message
returns-in-Message-clause-message g c =
    let is : front_of c.loop-turn.self ≡ Message c.in-Message.from c.in-Message.to = search rules in
    message_answer (λ m. m.items) c.take.result _ c.loop-turn.self _ c.in-Message.from c.in-Message.to _ c.loop-turn.invariant is
    c.take.ensures.message c.take.ensures.rest

pub returns-in-Bad-clause-none : goal.returns-in-Bad-clause-none
returns-in-Bad-clause-none g c =
    let is : front_of c.loop-turn.self ≡ Bad = search rules in
    bad_is_why _ c.loop-turn.self _ c.loop-turn.invariant is
