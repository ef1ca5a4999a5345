use Rattle.std.proofs.Common.{◌∙◌, Some, ap, sym}
use Rattle.check_names.specs.Entry.{entries_of, found}
use Rattle.check_names.proofs.Lookup.{thing_at, found_at}
use Rattle.check_names.proofs.table.Table.find.Goals as goal

pub returns-in-Some : goal.returns-in-Some
returns-in-Some c =
    let o = c.args.owner in
    let n = c.args.name.now in
    let es = entries_of c.self.inside.things.entries in
    c.thing_at.ensures
    ∙ ap (λ fs. thing_at fs (Some c.in-Some.place)) (sym c.self.view_is)
    ∙ ap (thing_at es) (sym c.in-Some.is ∙ c.find.ensures ∙ c.self.invariant.found o n)
    ∙ found_at o n es
    ∙ ap (λ fs. found fs o n) c.self.view_is

pub returns-in-None : goal.returns-in-None
returns-in-None c =
    let o = c.args.owner in
    let n = c.args.name.now in
    let es = entries_of c.self.inside.things.entries in
    ap (thing_at es) (sym c.in-None.is ∙ c.find.ensures ∙ c.self.invariant.found o n) ∙ found_at o n es ∙ ap (λ fs. found fs o n) c.self.view_is
