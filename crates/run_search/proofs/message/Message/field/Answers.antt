use Rattle.std.proofs.Common.{rules, ◌≡◌, arith, get_or, pos, w32, FitsSigned, ◌∙◌}
use Rattle.std.proofs.lemmas.Int.{to_z-of_z}
use Rattle.pml_value.specs.Seen.{seen}
use Rattle.run_search.proofs.Offering.{fields-length}
use Rattle.run_search.proofs.message.Message.field.Goals as goal

pub field_of-requires-clause-there : goal.field_of-requires-clause-there
field_of-requires-clause-there c =
    let h = rw (← c.self.view_is) at c.requires in
    let n = fields-length c.self.inside.types.now c.self.inside.fields.now (seen c.self.inside.view) c.self.invariant in
    omega (arith, h, n)

pub returns : goal.returns
returns c =
    let f : FitsSigned w32 c.field_of.result = search rules in
    let e : c.field_of.result ≡ get_or c.args.self.now.fields c.args.place (pos 0) = rw (← c.self.view_is) c.field_of.ensures in
    to_z-of_z w32 _ f ∙ e
