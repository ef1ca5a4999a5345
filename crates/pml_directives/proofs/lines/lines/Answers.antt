use Rattle.pml_directives.proofs.Standing.{stand_in}
use Rattle.pml_directives.proofs.lines.lines.Goals as goal

pub returns : goal.returns
returns c =
    let whole = c.in_ok-whole.whole in
    stand_in c.cut.result c.cut.new.book c.args.file c.args.text.now whole.bytes.items c.deref.result.now whole.places.items c.deref-2.result.now whole.end c.in_ok-whole.ensures c.deref.ensures.value c.deref-2.ensures.value c.cut.ensures
