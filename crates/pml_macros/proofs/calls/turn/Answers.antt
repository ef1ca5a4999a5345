use Rattle.std.proofs.Common.{◌∙◌, sym, reverse}
use Rattle.pml_macros.specs.declared.calls.AtomStanding.TheVariants.{Object}
use Rattle.pml_macros.specs.Calls.{known, painted, stays, is_painted}
use Rattle.pml_macros.proofs.Reading.{came_out, known_if, object_read}
use Rattle.pml_macros.proofs.calls.turn.Goals as goal

pub returns-in_ok-push-in-Stays-clause-turns : goal.returns-in_ok-push-in-Stays-clause-turns
returns-in_ok-push-in-Stays-clause-turns c = λ plain wa w g us h.
    came_out (known c.args.table.now) wa w c.args.out.now.items c.push.new.self.items c.args.pending.now.active.items c.args.atom c.args.atom (reverse c.args.pending.now.items.items) us g
    c.in_ok-push-in-Stays.ensures.items (stays (sym c.standing_of.ensures ∙ c.in-Stays.is) h)

pub returns-in_ok-push-in-Painted-clause-turns : goal.returns-in_ok-push-in-Painted-clause-turns
returns-in_ok-push-in-Painted-clause-turns c = λ plain wa w g us h.
    came_out (known c.args.table.now) wa w c.args.out.now.items c.push-in-Painted.new.self.items c.args.pending.now.active.items c.args.atom (painted c.args.atom) (reverse c.args.pending.now.items.items) us g
    (rw (sym c.painted.ensures) c.in_ok-push-in-Painted.ensures.items) (is_painted (sym c.standing_of.ensures ∙ c.in-Painted.is) h)

pub returns-in_ok-enter_call-in-Object-clause-turns : goal.returns-in_ok-enter_call-in-Object-clause-turns
returns-in_ok-enter_call-in-Object-clause-turns c = λ plain wa w g us h.
    let s = sym c.standing_of.ensures ∙ c.in-Object.is in
    let k = known_if (known c.args.table.now) c.args.pending.now.active.items c.args.atom (reverse c.args.pending.now.items.items) Object s tt in
    object_read (known c.args.table.now) wa w c.args.out.now.items c.args.pending.now.active.items c.enter_call.new.pending.active.items c.args.atom k.0 (reverse c.args.pending.now.items.items) (reverse c.enter_call.new.pending.items.items) us g
    s k.1 (c.in_ok-enter_call-in-Object.ensures.entered plain k.0 k.1) h
