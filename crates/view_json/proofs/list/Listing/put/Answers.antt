use Rattle.std.proofs.Common.{sym, subst}
use Rattle.view_text.specs.Written.{Adds}
use Rattle.view_text.proofs.Writing.{none}
use Rattle.view_json.proofs.Listed.{listed_nowhere, listed_some, listed_always, array_added, end_printable, nowhere_printable}
use Rattle.view_json.proofs.list.Listing.put.Goals as goal
use Rattle.view_json.proofs.list.Listing.put.Goals.{else-self-via-then-self+else-not-is_always, else-self-via-else-self}

pub returns-then-not-is_always-clause-written : goal.returns-then-not-is_always-clause-written
returns-then-not-is_always-clause-written c name ts is lists =
    subst (Adds c.args.out.now c.args.out.now)
    (sym (listed_nowhere c.args.self name ts c.args.is_always lists c.if-self.true c.if-not-is_always.true))
    (none c.args.out.now)

pub returns-then-not-is_always-clause-printable : goal.returns-then-not-is_always-clause-printable
returns-then-not-is_always-clause-printable c name ts lists calm = nowhere_printable c.args.self c.args.is_always name ts lists c.if-self.true

pub returns-clause-written : goal.returns-clause-written
returns-clause-written c name ts is lists =
    array_added c.args.self name ts c.args.heading.now _ _ _ _ c.args.is_always is lists c.add.ensures c.add_whole.ensures.added c.add_whole.ensures.refused
    c.add-2.ensures
    (elim c.else-self.branch [
      | else-self-via-then-self+else-not-is_always w ↦ listed_always name ts c.args.is_always w.if-not-is_always.false
      | else-self-via-else-self w ↦ listed_some c.args.self name ts c.args.is_always lists w.if-self.false
    ])

pub returns-clause-printable : goal.returns-clause-printable
returns-clause-printable c name ts lists calm =
    end_printable c.args.self c.args.is_always name ts c.add-2.new.self lists (λ so. c.add-2.ensures.stays (c.add_whole.ensures.refused so)) calm
