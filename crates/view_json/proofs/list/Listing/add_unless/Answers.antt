use Rattle.std.proofs.Common.{refl, subst, List, ℕ}
use Rattle.view_text.specs.Written.{Adds}
use Rattle.view_json.proofs.Listed.{more_unless, more_if}
use Rattle.view_json.proofs.list.Listing.add_unless.Goals as goal

pub returns-then-is_same : goal.returns-then-is_same
returns-then-is_same c ts is ends can_read = more_unless c.args.self.now _ c.args.is_same _ c.if-is_same.true refl

pub returns : goal.returns
returns c ts is ends can_read =
    more_if c.args.self.now c.next.new.self (record { text = c.add.new.self; is_empty = c.next.new.self.is_empty }) c.args.is_same ts c.if-is_same.false
    c.next.ensures.text (subst (λ (bs : List ℕ). Adds c.next.new.self.text c.add.new.self bs) is c.add.ensures) c.next.ensures.some ends (λ calm. can_read)
