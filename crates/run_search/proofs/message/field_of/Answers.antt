use Rattle.std.proofs.Common.{rules}
use Rattle.pml_program.specs.declared.form.Form.TheVariants.{Plain}
use Rattle.pml_tree.specs.declared.tree.Scalar.TheVariants.{Bit}
use Rattle.pml_value.specs.Seen.{seen}
use Rattle.run_search.proofs.Offering.{field_is}
use Rattle.run_search.proofs.message.field_of.Goals as goal

pub returns : goal.returns
returns c =
    let m = field_is c.args.types.now c.args.fields.now (seen c.args.view.now) c.args.place (Plain Bit) c.index-fields-place.result c.requires.there c.requires.as_many in
    search (rules, m)
