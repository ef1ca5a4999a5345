use Rattle.std.proofs.Common.{refl, ◌++◌, ◌∷◌, [], codes}
use Rattle.json.specs.Token.{begin_object, end_object}
use Rattle.view_json.specs.Objects.{member}
use Rattle.view_json.specs.Shown.{locals}
use Rattle.view_json.proofs.Listed.{more_unless, more_if}
use Rattle.view_json.proofs.Differing.{with_locals_end}
use Rattle.view_json.proofs.changed.list_process.Goals as goal

pub returns-then-is_same : goal.returns-then-is_same
returns-then-is_same c ts is ends can_read = more_unless c.args.list.now _ c.args.is_same _ c.if-is_same.true refl

pub returns : goal.returns
returns c ts is ends can_read =
    let s = c.args.live.now.state in
    let p = c.args.process in
    let older = c.args.behind.older in
    let cs = c.args.behind.changes.now in
    more_if c.args.list.now c.next.new.self (record { text = c.add_process.new.out; is_empty = c.next.new.self.is_empty }) c.args.is_same
    (ts ++ (member (codes "locals") (locals s older cs p) ++ end_object ∷ [])) c.if-is_same.false c.next.ensures.text
    (c.add_process.ensures.written _ ends is) c.next.ensures.some (with_locals_end s older cs p (begin_object ∷ ts)) (c.add_process.ensures.printable (begin_object ∷ ts) can_read)
